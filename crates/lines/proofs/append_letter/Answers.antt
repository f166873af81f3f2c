-- `lines::append_letter` meets its contract: a byte behind a byte.
use Rattle.lines.specs.Appended.{then}
use Rattle.lines.proofs.append_letter.Goals as goal

pub returns : goal.returns
returns c = then c.append_byte-end.ensures c.append_byte.ensures
