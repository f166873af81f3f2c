use native.Mathlib.Omega.{arith}
use mir.Syntax.{w64}
use mir.ValLaws.{to_z_pos}
use Rattle.cells.proofs.cell_of.Goals as goal

-- src/lib.rt:81:5
-- src/lib.rt:77:1
pub returns : goal.returns
returns c = to_z_pos w64 c.args.n (omega arith)
