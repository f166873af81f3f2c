use Rattle.std.proofs.Common.{rules}
use Rattle.statements.specs.Size.{judge_size}
use Rattle.statements.proofs.judge_size.Goals as goal

pub returns-in_err-x : goal.returns-in_err-x
unfolding judge_size
returns-in_err-x c = search rules

pub returns-then-x-eq0 : goal.returns-then-x-eq0
unfolding judge_size
returns-then-x-eq0 c = search rules

pub returns-then-x-gt4096 : goal.returns-then-x-gt4096
unfolding judge_size
returns-then-x-gt4096 c = search rules

pub returns : goal.returns
unfolding judge_size
returns c = search rules
