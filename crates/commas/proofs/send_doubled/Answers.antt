-- `commas::send_doubled` meets its contract.
use borrow.Author.Tests.{ne_eqb}
use Rattle.commas.specs.rule.Csv.{doubled_byte}
use Rattle.sink.specs.Sent.{sent_as, then}
use Rattle.commas.proofs.send_doubled.Goals as goal

pub returns-then-b-eq34 : goal.returns-then-b-eq34
unfolding doubled_byte
returns-then-b-eq34 c = sent_as (then c.send_byte-end.ensures
    c.send_byte.ensures) (rw c.if-b-eq34.true)

pub returns : goal.returns
unfolding doubled_byte
returns c = sent_as c.send_byte-end.ensures (rw (ne_eqb _ _ c.if-b-eq34.false))
