use Rattle.markup.specs.rule.Bytes.{is_hex}
use Rattle.markup.proofs.is_hex.Goals as goal

pub returns : goal.returns
unfolding is_hex
returns c = rw c.is_digit.ensures
