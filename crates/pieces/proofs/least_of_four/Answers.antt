-- `pieces::least_of_four` meets its contract.
use native.Mathlib.Omega.{arith}
use Rattle.pieces.specs.Scan.{under_four}
use Rattle.pieces.proofs.least_of_four.Goals as goal

pub returns : goal.returns
returns c =
    under_four _ _ _ (omega arith) (omega arith) (omega arith) (omega arith)
