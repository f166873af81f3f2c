use Rattle.std.specs.Prelude.{Err}
use mathlib.Core.Path.{ap}
use Rattle.elements.proofs.Dues.{missed}
use Rattle.sheets.proofs.close_in.Goals as goal

pub misplaced-requires : goal.misplaced-requires
misplaced-requires c = let v = rw c.in-Start.is at c.requires in v.2

pub returns-in-Start : goal.returns-in-Start
returns-in-Start c =
    let a = c.args in
    (rw (c.in-Start.is, missed a.bad a.d.now {A = Unit} _ _) (ap Err c.misplaced.ensures), tt)

pub returns-in-Shut : goal.returns-in-Shut
returns-in-Shut c = let v = rw c.in-Shut.is at c.requires in (rw c.in-Shut.is, v.2)

pub returns-in-Not : goal.returns-in-Not
returns-in-Not c = (rw c.in-Not.is, tt)
