use Rattle.sink.specs.Sent.{sent_as, nothing_sent}
use Rattle.fronts.specs.Front.{standard_text}
use Rattle.fronts.proofs.send_standard.Goals as goal

pub returns-then-f : goal.returns-then-f
unfolding standard_text
returns-then-f c = sent_as c.send_bytes.ensures (rw c.if-f.true)

pub returns : goal.returns
unfolding standard_text
returns c = rw c.if-f.false (nothing_sent _ _ _)
