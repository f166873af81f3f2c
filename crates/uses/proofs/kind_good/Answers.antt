use mathlib.Core.Path.{◌∙◌}
use borrow.Author.Tests.{eq-eqb, ne_eqb}
use Rattle.uses.specs.rule.Uses.{kind_good}
use Rattle.uses.proofs.kind_good.Goals as goal

pub returns-then-h-eq-MARK_XML : goal.returns-then-h-eq-MARK_XML
unfolding kind_good
returns-then-h-eq-MARK_XML c = c.xml_good.ensures ∙ rw (eq-eqb _ 12 c.if-h-eq-MARK_XML.true)

pub returns : goal.returns
unfolding kind_good
returns c = c.rows_unused.ensures ∙ rw (ne_eqb _ 12 c.if-h-eq-MARK_XML.false)
