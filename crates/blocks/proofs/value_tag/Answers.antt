use mathlib.Core.Path.{◌∙◌, sym}
use Rattle.blocks.proofs.Turns.{tag_refused}
use Rattle.blocks.proofs.value_tag.Goals as goal

pub returns-then-not-is_named : goal.returns-then-not-is_named
returns-then-not-is_named c k start l =
    tag_refused _ _ _ _ _ _ _ _ (sym c.is_named.ensures ∙ c.if-not-is_named.true) c.misplaced.ensures

pub returns : goal.returns
returns c k start l =
    rw (sym c.is_named.ensures
    ∙ c.if-not-is_named.false) (c.line_at.ensures k start l)
