-- `setbytes::bits::set_members` meets its contract. The invariant: the members that are left give the whole.
use mathlib.Core.Path.{◌≡◌}
use lib.ListN.{drop}
use Rattle.setbytes.specs.Sets.{with_members}
use Rattle.setbytes.proofs.bits.set_members.Given as goal

abbrev pub invariant-loop-m : goal.invariant-loop-m
invariant-loop-m l = with_members l.bytes l.at (drop l.m-index l.list) ≡ with_members l.initial.bytes l.at l.list
