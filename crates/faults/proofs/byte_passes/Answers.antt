-- `faults::byte_passes` meets its contract: by its test.
use Rattle.faults.specs.rule.Fault.{passes}
use Rattle.faults.proofs.byte_passes.Goals as goal

pub returns-in-Space : goal.returns-in-Space
unfolding passes
returns-in-Space c = rw c.in-Space.is

pub returns-in-Bit : goal.returns-in-Bit
unfolding passes
returns-in-Bit c = rw c.in-Bit.is

pub returns-in-Plain : goal.returns-in-Plain
unfolding passes
returns-in-Plain c = rw c.in-Plain.is
