-- `pieces::least_of_many` meets its contract.
use native.Mathlib.Omega.{arith}
use Rattle.pieces.specs.Scan.{under_less, under_sixteen}
use Rattle.pieces.proofs.least_of_many.Goals as goal

pub returns : goal.returns
returns c =
    under_sixteen _ _ _
    (under_less _ _ _ _ _ (omega arith) c.least_of_four.ensures)
    (under_less _ _ _ _ _ (omega arith) c.least_of_four-2.ensures)
    (under_less _ _ _ _ _ (omega arith) c.least_of_four-3.ensures)
    (under_less _ _ _ _ _ (omega arith) c.least_of_four-4.ensures)
