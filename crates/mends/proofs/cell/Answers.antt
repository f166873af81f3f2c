-- `mends::cell` meets its contract.
use native.Mathlib.Omega.{arith}
use mir.Syntax.{w64}
use mir.ValLaws.{to_z_pos}
use Rattle.mends.proofs.cell.Goals as goal

pub returns : goal.returns
returns c = to_z_pos w64 c.args.n (omega arith)
