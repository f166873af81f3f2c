-- `lines::append_byte` meets its contract.
use Rattle.lines.specs.Appended.{one_byte_lem}
use Rattle.lines.proofs.append_byte.Goals as goal

pub returns : goal.returns
returns c = one_byte_lem _ _ _ c.requires
