use mathlib.Core.Path.{◌∙◌}
use Rattle.markup.specs.rule.Reference.{numbered_of, reference_figure, digit_kind}
use Rattle.markup.specs.rule.Bytes.{of_kind}
use Rattle.markup.proofs.Runs.{rest_at}
use Rattle.markup.proofs.numbered.Goals as goal

pub returns : goal.returns
unfolding numbered_of reference_figure
returns c =
    let a = c.args in
    c.closed.ensures ∙ rw (c.number-f.ensures.0, rest_at (of_kind (digit_kind a.hex)) a.d.now a.n)
