use Rattle.sink.specs.Sent.{then, sent_as}
use Rattle.pages.specs.Page.{line_text}
use Rattle.pages.proofs.send_line.Goals as goal

pub returns-then-l : goal.returns-then-l
unfolding line_text
returns-then-l c = sent_as (then c.send_closed-a.ensures
    c.send_closed.ensures) (rw c.if-l.true)

pub returns : goal.returns
unfolding line_text
returns c = sent_as (then c.send_closed-a.ensures
    c.send_closed-2.ensures) (rw c.if-l.false)
