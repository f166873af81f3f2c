use mathlib.Core.Path.{◌≡◌}
use Prim.Native.Nat.{◌-◌}
use lib.ListN.{length}
use Rattle.scan.specs.rule.Text.{text}
use Rattle.scan.specs.rule.Number.{is_space, run_of}
use Rattle.scan.proofs.spaces.Given as goal

abbrev pub invariant-loop-byte : goal.invariant-loop-byte
invariant-loop-byte l = run_of is_space l.at (text l.d l.at) ≡ run_of is_space l.n (text l.d l.n)

abbrev pub decreases-loop-byte : goal.decreases-loop-byte
decreases-loop-byte l = length l.d - l.n
