use Rattle.looks.specs.Look.{quote_shown, brace_shown}
use Rattle.looks.proofs.form_end.Goals as goal

pub returns-then-q-gt0 : goal.returns-then-q-gt0
returns-then-q-gt0 c h = quote_shown (c.stands_to-q.ensures c.if-q-gt0.true)

pub returns : goal.returns
returns c h = brace_shown (c.stands_to.ensures h)
