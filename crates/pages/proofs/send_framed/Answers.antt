use Rattle.sink.specs.Sent.{then}
use Rattle.pages.specs.Page.{framed}
use Rattle.pages.proofs.send_framed.Goals as goal

pub returns : goal.returns
unfolding framed
returns c =
    then c.send_bytes-a.ensures
    (then c.send_span-b.ensures c.send_bytes.ensures)

pub send_span-b-requires : goal.send_span-b-requires
send_span-b-requires c = c.requires
