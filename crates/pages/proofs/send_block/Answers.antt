use Rattle.sink.specs.Sent.{nothing_sent}
use Rattle.pages.specs.Page.{block_page}
use Rattle.pages.proofs.send_block.Goals as goal

pub returns-then-r : goal.returns-then-r
unfolding block_page
returns-then-r c = rw c.if-r.true
    (record { sent = nothing_sent _ _ _; stands = rw (c.past_keyword-next.ensures, c.past_statement-a.ensures) })

pub returns : goal.returns
unfolding block_page
returns c = rw c.if-r.false c.send_lines.ensures
