use Rattle.sink.specs.Sent.{then}
use Rattle.pages.specs.Page.{framed}
use Rattle.pages.proofs.send_closed.Goals as goal

pub returns : goal.returns
unfolding framed
returns c = then c.send_span-a.ensures c.send_bytes.ensures
