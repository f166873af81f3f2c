-- `strides::differ` meets its contract: by rising, or by looking at all.
use mathlib.Core.Path.{sym, ◌∙◌}
use Rattle.strides.specs.Stride.{rise_differ}
use Rattle.strides.proofs.differ.Goals as goal

pub returns-then-all_rise : goal.returns-then-all_rise
returns-then-all_rise c = sym (rise_differ _ _ (sym c.all_rise.ensures ∙ c.if-all_rise.true))

pub returns : goal.returns
returns c = c.block_many-block.ensures.differ
