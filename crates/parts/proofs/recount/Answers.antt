-- `parts::recount` meets its contract, case by case: a verdict behind one record counts it.
use mathlib.Core.Bool.{not}
use native.Mathlib.Omega.{arith}
use Rattle.files.specs.rule.File.{file_said}
use Rattle.parts.specs.Part.{Behind, recounted, is_unended, judged_ended, and_none}
use Rattle.parts.proofs.recount.Goals as goal

pub overflow_sub-result : goal.overflow_sub-result
unfolding Behind file_said
overflow_sub-result c = let b = rw c.in-Sound.is at c.requires in omega arith

pub overflow_sub-result-then-last : goal.overflow_sub-result-then-last
unfolding Behind file_said
overflow_sub-result-then-last c = let b = rw c.in-Unended.is at c.requires in omega arith

pub overflow_sub-result-else-last : goal.overflow_sub-result-else-last
unfolding Behind file_said
overflow_sub-result-else-last c = let b = rw c.in-Unended.is at c.requires in omega arith

pub overflow_sub-result-in-OtherLength : goal.overflow_sub-result-in-OtherLength
unfolding Behind file_said
overflow_sub-result-in-OtherLength c = let b = rw c.in-OtherLength.is at c.requires in omega arith

pub overflow_sub-result-in-Fault : goal.overflow_sub-result-in-Fault
unfolding Behind file_said
overflow_sub-result-in-Fault c = let b = rw c.in-Fault.is at c.requires in omega arith

pub returns-in-Sound : goal.returns-in-Sound
unfolding recounted file_said
returns-in-Sound c = rw c.in-Sound.is

pub returns-in-BadTable : goal.returns-in-BadTable
unfolding recounted file_said
returns-in-BadTable c = rw c.in-BadTable.is

pub returns-then-last : goal.returns-then-last
unfolding recounted file_said is_unended
returns-then-last c = rw (c.in-Unended.is, c.if-last.true)

pub returns-else-last : goal.returns-else-last
unfolding recounted file_said is_unended
returns-else-last c = rw (c.in-Unended.is, c.if-last.false)

pub returns-in-OtherLength : goal.returns-in-OtherLength
unfolding recounted file_said is_unended
returns-in-OtherLength c = rw (c.in-OtherLength.is, and_none (not c.args.last))

pub returns-in-Fault : goal.returns-in-Fault
unfolding recounted file_said
returns-in-Fault c = rw (c.in-Fault.is, judged_ended _, and_none (not c.args.last))
