-- `faults::fault_number` meets its contract: by its variants.
use Rattle.faults.specs.rule.Fault.{fault_number}
use Rattle.faults.proofs.fault_number.Goals as goal

pub returns-in-Sound : goal.returns-in-Sound
unfolding fault_number
returns-in-Sound c = rw c.in-Sound.is

pub returns-in-Stray : goal.returns-in-Stray
unfolding fault_number
returns-in-Stray c = rw c.in-Stray.is

pub returns-in-NotLegal : goal.returns-in-NotLegal
unfolding fault_number
returns-in-NotLegal c = rw c.in-NotLegal.is

pub returns-in-Point : goal.returns-in-Point
unfolding fault_number
returns-in-Point c = rw c.in-Point.is
