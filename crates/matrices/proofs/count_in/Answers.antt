-- `matrices::count_in` meets its contract, case by case.
-- Assumes nothing.
use Rattle.files.specs.rule.File.{file_said}
use Rattle.matrices.specs.Records.{count_in}
use Rattle.matrices.proofs.count_in.Goals as goal

pub returns-in-Sound : goal.returns-in-Sound
unfolding count_in file_said
returns-in-Sound c = rw c.in-Sound.is

pub returns-in-BadTable : goal.returns-in-BadTable
unfolding count_in file_said
returns-in-BadTable c = rw c.in-BadTable.is

pub returns-in-Unended : goal.returns-in-Unended
unfolding count_in file_said
returns-in-Unended c = rw c.in-Unended.is

pub returns-in-OtherLength : goal.returns-in-OtherLength
unfolding count_in file_said
returns-in-OtherLength c = rw c.in-OtherLength.is

pub returns-in-Fault : goal.returns-in-Fault
unfolding count_in file_said
returns-in-Fault c = rw c.in-Fault.is
