use Rattle.sink.specs.Sent.{sent_as, nothing_sent}
use Rattle.fronts.specs.Front.{perhaps_text}
use Rattle.fronts.proofs.send_perhaps.Goals as goal

pub returns-then-f : goal.returns-then-f
unfolding perhaps_text
returns-then-f c = sent_as c.send_framed.ensures
    (rw (c.if-f.true, c.string_span-s.ensures))

pub returns : goal.returns
unfolding perhaps_text
returns c = rw c.if-f.false (nothing_sent _ _ _)
