-- `files::apart` meets its contract, case by case.
use mathlib.Core.Path.{◌≡◌}
use mir.Syntax.{w64}
use mir.Val.{to_z, of_z}
use borrow.Author.Rules.{rules}
use Rattle.files.proofs.apart.Goals as goal
use Rattle.files.proofs.apart.Goals.{In-NotLegal}

-- the number told is read back from its bits as it is
back : (c : In-NotLegal) → to_z w64 (of_z w64 c.in-NotLegal.z) ≡ c.in-NotLegal.z
back c = search rules

pub returns-in-Stray : goal.returns-in-Stray
returns-in-Stray c = rw c.in-Stray.is

pub returns-in-NotLegal : goal.returns-in-NotLegal
returns-in-NotLegal c = rw (c.in-NotLegal.is, back c)

pub returns-in-Point : goal.returns-in-Point
returns-in-Point c = rw c.in-Point.is
