use mathlib.Core.Path.{sym, ◌∙◌}
use Rattle.below.specs.Below.{and_no, and_yes}
use Rattle.uses.specs.rule.Uses.{xml_good}
use Rattle.uses.proofs.xml_good.Goals as goal

pub returns-then-not-uses_good : goal.returns-then-not-uses_good
unfolding xml_good
returns-then-not-uses_good c = sym (and_no _ _ (sym c.uses_good.ensures ∙ c.if-not-uses_good.true))

pub returns : goal.returns
unfolding xml_good
returns c = c.specials_none.ensures ∙ sym (and_yes _ _
    (sym c.uses_good.ensures ∙ c.if-not-uses_good.false))
