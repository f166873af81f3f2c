use mathlib.Core.Path.{◌∙◌, sym}
use Rattle.forms.specs.rule.Form.{use_of}
use Rattle.forms.proofs.use_in.Goals as goal

pub returns-then-is_word : goal.returns-then-is_word
unfolding use_of
returns-then-is_word c =
    rw (sym c.is_word.ensures ∙ c.if-is_word.true)

pub returns-then-is_word-2 : goal.returns-then-is_word-2
unfolding use_of
returns-then-is_word-2 c =
    rw (
      sym c.is_word.ensures ∙ c.if-is_word.false,
      sym c.is_word-2.ensures ∙ c.if-is_word-2.true,
    )

pub returns : goal.returns
unfolding use_of
returns c =
    rw (
      sym c.is_word.ensures ∙ c.if-is_word.false,
      sym c.is_word-2.ensures ∙ c.if-is_word-2.false,
    )
