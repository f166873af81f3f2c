use Rattle.sink.specs.Sent.{then, sent_as, nothing_sent}
use borrow.Author.Tests.{not-true, not-false}
use Rattle.pages.specs.Page.{spread_text}
use Rattle.pages.proofs.send_spread.Goals as goal

pub returns-then-not-p : goal.returns-then-not-p
unfolding spread_text
returns-then-not-p c = rw (not-true c.args.p.there c.if-not-p.true) (nothing_sent _ _ _)

pub returns-then-p : goal.returns-then-p
unfolding spread_text
returns-then-p c =
    sent_as (then c.send_framed-a.ensures c.send_closed.ensures) (rw (
      not-false c.args.p.there c.if-not-p.false,
      c.if-p.true,
    ))

pub send_count-b-requires : goal.send_count-b-requires
send_count-b-requires c = record {
  tens = c.requires.tens;
  n_bound = rw c.even_of.ensures c.requires.size_bound;
}

pub returns : goal.returns
unfolding spread_text
returns c =
    sent_as (then c.send_framed-a.ensures
    (then c.send_count-b.ensures c.send_bytes.ensures)) (rw (
      not-false c.args.p.there c.if-not-p.false,
      c.if-p.false,
      c.even_of.ensures,
    ))
