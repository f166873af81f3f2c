use mathlib.Core.Path.{◌≡◌, sym, ◌∙◌}
use mathlib.Core.Bool.{Bool, true, false}
use mathlib.Core.List.{List}
use Prim.Native.Nat.{ℕ, ◌+◌, ◌≤◌, ◌<◌}
use native.Mathlib.Omega.{arith}
use borrow.Author.Rules.{sfits_of}
use lib.IntN.{ℤ}
use lib.ListN.{length, drop, drop_of_length-le}
use mir.Facts.{to_z-of_z}
use Rattle.cells.specs.rule.Cell.{cell, eq_z}
use Rattle.laying.specs.rule.Begins.{begins_table}
use Rattle.laying.specs.Begins.{begins_on}
use Rattle.laying.proofs.same_left.Goals as goal

stops : (l t : List ℤ) (at j : ℕ) (b : Bool) → j < length l → at + j < length t → b ≡ eq_z (cell l j) (cell t (at + j)) → b ≡ false
    → begins_table (drop j l) (drop (at + j) t) ≡ false
stops l t at j b h g e f = begins_on l t at j h g ∙ rw (sym e ∙ f)

goes : (l t : List ℤ) (at j : ℕ) (b : Bool) → j < length l → at + j < length t → b ≡ eq_z (cell l j) (cell t (at + j)) → b ≡ true
    → begins_table (drop j l) (drop (at + j) t) ≡ begins_table (drop (j + 1) l) (drop (at + (j + 1)) t)
goes l t at j b h g e f = begins_on l t at j h g ∙ rw (sym e ∙ f)

ends : (l t : List ℤ) (j : ℕ) → length l ≤ j → begins_table (drop j l) t ≡ true
unfolding begins_table
ends l t j h = rw (drop_of_length-le l {i = j} h)

pub returns-then-not-same : goal.returns-then-not-same
returns-then-not-same c =
    let l = c.loop-j in
    let a = c.args in
    let e = rw (to_z-of_z (sfits_of c.same-arg-1.given), to_z-of_z (sfits_of c.same-arg-in-loop-j-1.given))
    at c.same.ensures in
    sym (l.invariant ∙ stops a.part.now a.t.now a.at l.j _ (omega arith) (omega arith) e c.if-not-same.true)

pub loop-j-preserved : goal.loop-j-preserved
loop-j-preserved c =
    let l = c.loop-j in
    let a = c.args in
    let e = rw (to_z-of_z (sfits_of c.same-arg-1.given), to_z-of_z (sfits_of c.same-arg-in-loop-j-1.given))
    at c.same.ensures in
    l.invariant ∙ goes a.part.now a.t.now a.at l.j _ (omega arith) (omega arith) e c.if-not-same.false

pub returns : goal.returns
returns c = sym (c.loop-j.invariant ∙ ends c.args.part.now _ c.loop-j.j (omega arith))
