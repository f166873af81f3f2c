use mathlib.Core.Path.{ap, ◌∙◌}
use Rattle.layout.specs.rule.Layout.{columns_at}
use Rattle.layout.specs.rule.Row.{row_of}
use Rattle.layout.proofs.Row.read.Goals as goal

pub returns : goal.returns
returns c = c.of.ensures ∙ ap row_of (c.read.ensures
    ∙ ap (columns_at c.args.t.now) c.base.ensures)
