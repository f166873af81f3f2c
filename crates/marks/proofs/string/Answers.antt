use mathlib.Core.Path.{◌∙◌, sym}
use Rattle.marks.proofs.Strings.{string_quote}
use Rattle.marks.proofs.string.Goals as goal

pub returns-then-d-n-eq34 : goal.returns-then-d-n-eq34
returns-then-d-n-eq34 c = sym (c.pass_forms-n.ensures ∙ string_quote _ _ c.if-n-d.true c.if-d-n-eq34.true)

pub returns : goal.returns
returns c = c.pieces.ensures ∙ sym c.pass_forms-n.ensures
