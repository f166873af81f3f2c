-- `record_lines::count_before` meets its contract.
use Rattle.files.specs.rule.File.{file_said}
use Rattle.record_lines.specs.rule.Lines.{sound_before}
use Rattle.record_lines.proofs.count_before.Goals as goal

pub returns-in-Sound : goal.returns-in-Sound
unfolding file_said sound_before
returns-in-Sound c = rw c.in-Sound.is

pub returns-in-BadTable : goal.returns-in-BadTable
unfolding file_said sound_before
returns-in-BadTable c = rw c.in-BadTable.is

pub returns-in-Unended : goal.returns-in-Unended
unfolding file_said sound_before
returns-in-Unended c = rw c.in-Unended.is c.one_less.ensures

pub returns-in-OtherLength : goal.returns-in-OtherLength
unfolding file_said sound_before
returns-in-OtherLength c = rw c.in-OtherLength.is c.one_less-in-OtherLength.ensures

pub returns-in-Fault : goal.returns-in-Fault
unfolding file_said sound_before
returns-in-Fault c = rw c.in-Fault.is c.one_less-in-Fault.ensures
