use mathlib.Core.Path.{◌≡◌, refl}
use mathlib.Core.Bool.{Bool, ◌&&◌}
use mathlib.Core.List.{List}
use Prim.Native.Nat.{ℕ, ◌+◌, ◌<◌}
use native.Mathlib.Omega.{arith}
use borrow.Author.Rules.{sfits_of}
use lib.IntN.{ℤ}
use lib.ListN.{length, drop}
use mir.Facts.{to_z-of_z}
use Rattle.cells.specs.rule.Cell.{cell, eq_z}
use Rattle.laying.specs.rule.Begins.{begins_table}
use Rattle.laying.specs.Begins.{begins_on, and_apart}
use Rattle.laying.proofs.same_eight.Goals as goal

on : (l t : List ℤ) (at j k : ℕ) (whole a b : Bool) → j + k < length l → at + (j + k) < length t
    → whole ≡ (a && begins_table (drop (j + k) l) (drop (at + (j + k)) t)) → b ≡ eq_z (cell l (j + k)) (cell t (at + (j + k)))
    → whole ≡ ((a && b) && begins_table (drop (j + (k + 1)) l) (drop (at + (j + (k + 1))) t))
on l t at j k whole a b h g e f =
    let n : j + (k + 1) ≡ j + k + 1 = omega arith in
    rw (n, and_apart a b (begins_table (drop (j + k + 1) l) (drop (at + (j + k + 1)) t)), f, ← begins_on l t at (j + k) h g) e

pub loop-k-init : goal.loop-k-init
loop-k-init c =
    let e : c.args.j + 0 ≡ c.args.j = omega arith in
    rw e refl

pub loop-k-preserved : goal.loop-k-preserved
loop-k-preserved c =
    let l = c.loop-k in
    let a = c.args in
    let e = rw (to_z-of_z (sfits_of c.same-arg-1.given), to_z-of_z (sfits_of c.same-arg-in-loop-k-1.given))
    at c.same-same.ensures in
    on a.part.now a.t.now a.at a.j l.k _ l.same _ (omega arith) (omega arith) l.invariant e
