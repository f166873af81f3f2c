use mathlib.Core.Path.{◌≡◌, ◌∙◌}
use mathlib.Core.List.{List}
use Prim.Native.Nat.{ℕ, suc, ◌+◌, ◌-◌}
use native.Mathlib.Numerals.{add-one}
use native.Mathlib.Omega.{arith}
use lib.ListN.{set}
use Rattle.places.specs.rule.Places.{put, run}
use Rattle.fields.specs.rule.Field.{spaces}
use Rattle.runs.proofs.blank.Goals as goal

on : (s : List ℕ) (p j i : ℕ) → j ≡ suc i → put (set s p 32) (run (p + 1) i) (spaces i) ≡ put s (run p j) (spaces j)
unfolding spaces
on s p j i e = rw (e, add-one)

pub loop-p-preserved : goal.loop-p-preserved
loop-p-preserved c =
    let l = c.loop-p in
    let a = c.args in
    on l.out l.p (a.at + a.k - l.p) (a.at + a.k - (l.p + 1)) (omega arith) ∙ l.invariant
