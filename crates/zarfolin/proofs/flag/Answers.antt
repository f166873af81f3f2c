-- `zarfolin::flag` meets its contract.
use Rattle.record_values.specs.rule.Record.{flag_of}
use Rattle.zarfolin.proofs.flag.Goals as goal

pub returns-then-b : goal.returns-then-b
unfolding flag_of
returns-then-b c = rw c.if-b.true

pub returns-else-b : goal.returns-else-b
unfolding flag_of
returns-else-b c = rw c.if-b.false
