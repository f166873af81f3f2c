-- `columns::put_bits` meets its contract. The invariant: the entries of the categories passed are put, and their ones are marked.
-- Assumes nothing.
use mathlib.Core.Path.{◌≡◌}
use lib.ListN.{length}
use Rattle.columns.specs.Whole.{BitsPut}
use Rattle.columns.proofs.put_bits.Given as goal

abbrev pub invariant-loop-k : goal.invariant-loop-k
invariant-loop-k l = (length l.met ≡ length l.initial.met)
    × (length l.out ≡ length l.initial.out)
    × BitsPut l.bytes l.at l.w l.k l.flags l.values l.initial.met l.met l.initial.out l.out
