use mathlib.Core.Path.{◌≡◌}
use Prim.Native.Nat.{ℕ, ◌<◌}
use borrow.Author.Tests.{eqb-false, not-true}
use native.Mathlib.Omega.{arith}
use lib.ListN.{length, get_or}
use Rattle.statements.proofs.Notes.{an_n, no_n, none_first, none_second}
use Rattle.statements.proofs.no_note.Goals as goal

pub returns-then-d-m : goal.returns-then-d-m
returns-then-d-m c e = let z : ◌≡◌ {A = ℕ} 0 1 = cc in absurd (omega arith)

pub returns-then-b : goal.returns-then-b
returns-then-b c e =
    let a = c.args in
    let h : a.m < length a.d.now = omega arith in
    let n = an_n (get_or a.d.now a.m 0) c.if-b.true in
    let o = c.no_oh.ensures e in
    none_second a.d.now a.m h (c.requires h) n.0 n.1 o.0 o.1 o.2 o.3

pub returns : goal.returns
returns c e =
    let a = c.args in
    let h : a.m < length a.d.now = omega arith in
    let n = no_n (get_or a.d.now a.m 0) c.if-b.false in
    none_first a.d.now a.m h (c.requires h) (eqb-false _ _ (not-true _ e)) n.0 n.1
