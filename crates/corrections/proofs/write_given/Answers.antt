-- `corrections::write_given` meets its contract, by what is asked.
use mathlib.Core.List.{[], ◌∷◌}
use Rattle.corrections.specs.Correction.{given_written, given_no_truth, given_no_kind}
use Rattle.corrections.proofs.write_given.Goals as goal

pub returns-in-Write : goal.returns-in-Write
returns-in-Write c =
    given_written _ _ _ c.args.table.now (0 ∷ []) (rw c.in-Write.is at
    c.asked_of-asked.ensures) c.write_asked.ensures

pub returns-in-OtherTruth : goal.returns-in-OtherTruth
returns-in-OtherTruth c = given_no_truth _ _ _ (rw c.in-OtherTruth.is at c.asked_of-asked.ensures)
    c.other_truth.ensures

pub returns-in-OtherKind : goal.returns-in-OtherKind
returns-in-OtherKind c = given_no_kind _ _ _ (rw c.in-OtherKind.is at c.asked_of-asked.ensures)
    c.other_kind.ensures
