-- `lines::append_between` meets its contract: a byte behind a space and a letter.
use Rattle.lines.specs.Appended.{then}
use Rattle.lines.proofs.append_between.Goals as goal

pub returns : goal.returns
returns c = then c.append_letter-end.ensures c.append_byte.ensures
