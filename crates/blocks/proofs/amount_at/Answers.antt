use Rattle.blocks.proofs.Numbers.{amount_held}
use Rattle.blocks.proofs.amount_at.Goals as goal

pub returns : goal.returns
returns c = amount_held _ _ _ c.value_in.ensures
