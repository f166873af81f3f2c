use mathlib.Core.Path.{◌≡◌}
use Prim.Native.Nat.{◌-◌, ◌≤◌}
use lib.ListN.{length}
use Rattle.attributes.specs.rule.Attribute.{quoted_of}
use Rattle.attributes.proofs.quoted.Given as goal

abbrev pub invariant-loop-m : goal.invariant-loop-m
invariant-loop-m l = (quoted_of l.bad l.opened l.quote l.d l.at ≡ quoted_of l.bad l.opened l.quote l.d l.n) × (l.n ≤ length l.d)

abbrev pub decreases-loop-m : goal.decreases-loop-m
decreases-loop-m l = length l.d - l.n
