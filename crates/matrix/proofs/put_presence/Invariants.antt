-- `matrix::put_presence` meets its contract. The invariant: what is left to put, from here, gives the whole.
-- Assumes nothing.
use mathlib.Core.Path.{◌≡◌}
use Prim.Native.Nat.{◌+◌, ◌-◌}
use Rattle.little.specs.rule.Bytes.{put_at}
use Rattle.matrix.specs.rule.Entry.{flags_of}
use Rattle.matrix.specs.Noughts.{noughts}
use Rattle.matrix.proofs.put_presence.Given as goal

abbrev pub invariant-loop-i : goal.invariant-loop-i
invariant-loop-i l = put_at l.out (l.flags + l.i) (flags_of (noughts l.there (l.n - l.i)))
    ≡ put_at l.initial.out l.flags (flags_of (noughts l.there l.n))
