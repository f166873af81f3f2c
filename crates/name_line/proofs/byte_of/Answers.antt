-- `name_line::byte_of` meets its contract.
use borrow.Author.Rules.{rules}
use Rattle.name_line.specs.rule.Names.{sign_byte}
use Rattle.name_line.proofs.byte_of.Goals as goal

pub returns-in-Byte : goal.returns-in-Byte
unfolding sign_byte
returns-in-Byte c = search rules

pub returns-in-Break : goal.returns-in-Break
unfolding sign_byte
returns-in-Break c = search rules
