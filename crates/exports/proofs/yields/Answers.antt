-- `exports::yields` meets its contract.
use mathlib.Core.Path.{ap, ◌∙◌}
use Rattle.definition.specs.rule.Against.{is_same}
use Rattle.kinds.specs.rule.Against.{yields}
use Rattle.exports.proofs.yields.Goals as goal

pub returns : goal.returns
unfolding yields
returns c = c.is_same.ensures ∙ ap is_same c.judge_against.ensures
