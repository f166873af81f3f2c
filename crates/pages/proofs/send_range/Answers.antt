use Rattle.sink.specs.Sent.{then, sent_as, nothing_sent}
use borrow.Author.Tests.{not-true, not-false}
use Rattle.pages.specs.Page.{range_text}
use Rattle.pages.proofs.send_range.Goals as goal

pub returns-then-not-r : goal.returns-then-not-r
unfolding range_text
returns-then-not-r c = rw (not-true c.args.r.there c.if-not-r.true) (nothing_sent _ _ _)

pub returns-then-r : goal.returns-then-r
unfolding range_text
returns-then-r c =
    sent_as (then c.send_closed-a.ensures c.send_closed.ensures) (rw (
      not-false c.args.r.there c.if-not-r.false,
      c.if-r.true,
    ))

pub returns : goal.returns
unfolding range_text
returns c =
    sent_as (then c.send_closed-a.ensures c.send_closed-2.ensures) (rw (
      not-false c.args.r.there c.if-not-r.false,
      c.if-r.false,
    ))
