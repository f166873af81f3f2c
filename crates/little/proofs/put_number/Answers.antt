use mathlib.Core.Path.{◌≡◌, sym, ◌∙◌}
use mathlib.Core.List.{List}
use Prim.Native.Nat.{ℕ, suc, ◌+◌, ◌-◌, ◌/◌, ◌%◌, ◌≤◌, ◌<◌}
use native.Mathlib.Omega.{arith}
use lib.ListN.{set}
use Rattle.little.specs.rule.Bytes.{little_bytes, put_at}
use Rattle.little.specs.Runs.{put_more}
use Rattle.little.proofs.put_number.Invariants.{rest}
use Rattle.little.proofs.put_number.Goals as goal

rest_on : (out : List ℕ) (at w n i : ℕ) → i < w → rest (set out (at + i) (n % 256)) at w (n / 256) (i + 1) ≡ rest out at w n i
unfolding little_bytes
rest_on out at w n i h =
    let d : w - i ≡ suc (w - (i + 1)) = omega arith in
    let a : at + (i + 1) ≡ at + i + 1 = omega arith in
    rw (d, a) (put_more out (at + i) (n % 256) (little_bytes (w - (i + 1)) (n / 256)))

rest_done : (out : List ℕ) (at w n i : ℕ) → w ≤ i → rest out at w n i ≡ out
unfolding little_bytes put_at
rest_done out at w n i h = let d : w - i ≡ 0 = omega arith in rw d

pub loop-i-preserved : goal.loop-i-preserved
loop-i-preserved c = rest_on _ _ c.args.width _ _ (omega arith) ∙ c.loop-i.invariant

pub returns : goal.returns
returns c = sym (rest_done _ _ c.args.width _ _ (omega arith)) ∙ c.loop-i.invariant
