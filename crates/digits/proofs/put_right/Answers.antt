use mathlib.Core.Path.{◌≡◌, ◌∙◌}
use mathlib.Core.List.{List}
use Prim.Native.Nat.{ℕ, suc, ◌+◌, ◌-◌, ◌/◌, ◌%◌}
use native.Mathlib.Omega.{arith}
use lib.ListN.{set}
use Rattle.places.specs.rule.Places.{put, run}
use Rattle.fields.specs.rule.Number.{padded}
use Rattle.digits.specs.Right.{put_last}
use Rattle.digits.proofs.put_right.Goals as goal

on : (s : List ℕ) (at j i n : ℕ) → j ≡ suc i
    → put (set s (at + i) (48 + n % 10)) (run at i) (padded i (n / 10)) ≡ put s (run at j) (padded j n)
on s at j i n e = rw e (put_last s at i n)

pub loop-j-preserved : goal.loop-j-preserved
loop-j-preserved c =
    let l = c.loop-j in
    on l.out c.args.at l.j (l.j - 1) l.rest (omega arith) ∙ l.invariant
