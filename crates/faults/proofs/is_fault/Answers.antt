-- `faults::is_fault` meets its contract: by its variants.
use Rattle.faults.specs.Joined.{some_fault}
use Rattle.faults.proofs.is_fault.Goals as goal

pub returns-in-Sound : goal.returns-in-Sound
unfolding some_fault
returns-in-Sound c = rw c.in-Sound.is

pub returns-in-Stray : goal.returns-in-Stray
unfolding some_fault
returns-in-Stray c = rw c.in-Stray.is

pub returns-in-NotLegal : goal.returns-in-NotLegal
unfolding some_fault
returns-in-NotLegal c = rw c.in-NotLegal.is

pub returns-in-Point : goal.returns-in-Point
unfolding some_fault
returns-in-Point c = rw c.in-Point.is
