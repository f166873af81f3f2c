-- `mends::lay_few` meets its contract.
use mathlib.Core.Path.{◌≡◌}
use mathlib.Core.List.{map}
use Prim.Native.Nat.{◌+◌, ◌-◌}
use lib.ListN.{length}
use lib.Seq.{sets}
use Rattle.cuts.specs.Records.{part}
use Rattle.mends.specs.rule.Mend.{plain_byte}
use Rattle.mends.proofs.lay_few.Given as goal

abbrev pub invariant-loop-j : goal.invariant-loop-j
invariant-loop-j l = (sets l.initial.out l.at (map plain_byte (part l.d l.from l.stop))
    ≡ sets l.out (l.at + (l.j - l.from)) (map plain_byte (part l.d l.j l.stop)))
    × (length l.out ≡ length l.initial.out)
