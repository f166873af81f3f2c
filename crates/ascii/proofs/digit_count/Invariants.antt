-- `ascii::digit_count` meets its contract. The invariant: what is left to try gives the whole's answer.
-- Assumes nothing.
use mathlib.Core.Path.{◌≡◌}
use Prim.Native.Nat.{◌-◌}
use Rattle.ascii.specs.rule.Tens.{count_from, digits_of}
use Rattle.ascii.proofs.digit_count.Given as goal

abbrev pub invariant-loop-k : goal.invariant-loop-k
invariant-loop-k l = count_from (16 - l.k) l.k l.n ≡ digits_of l.n
