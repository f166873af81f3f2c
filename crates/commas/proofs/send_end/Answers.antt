-- `commas::send_end` meets its contract.
use Rattle.sink.specs.Sent.{then}
use Rattle.commas.proofs.send_end.Goals as goal

pub returns : goal.returns
returns c = then c.send_byte-end.ensures c.send_byte.ensures
