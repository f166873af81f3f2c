use mathlib.Core.Path.{◌∙◌, sym}
use Rattle.forms.specs.rule.Form.{form_kind}
use Rattle.forms.proofs.kind_in.Goals as goal

pub returns-then-is_word : goal.returns-then-is_word
unfolding form_kind
returns-then-is_word c =
    rw (sym c.is_word.ensures ∙ c.if-is_word.true)

pub returns-then-is_word-2 : goal.returns-then-is_word-2
unfolding form_kind
returns-then-is_word-2 c =
    rw (
      sym c.is_word.ensures ∙ c.if-is_word.false,
      sym c.is_word-2.ensures ∙ c.if-is_word-2.true,
    )

pub returns-then-is_word-3 : goal.returns-then-is_word-3
unfolding form_kind
returns-then-is_word-3 c =
    rw (
      sym c.is_word.ensures ∙ c.if-is_word.false,
      sym c.is_word-2.ensures ∙ c.if-is_word-2.false,
      sym c.is_word-3.ensures ∙ c.if-is_word-3.true,
    )

pub returns-then-is_word-4 : goal.returns-then-is_word-4
unfolding form_kind
returns-then-is_word-4 c =
    rw (
      sym c.is_word.ensures ∙ c.if-is_word.false,
      sym c.is_word-2.ensures ∙ c.if-is_word-2.false,
      sym c.is_word-3.ensures ∙ c.if-is_word-3.false,
      sym c.is_word-4.ensures ∙ c.if-is_word-4.true,
    )

pub returns-then-is_word-5 : goal.returns-then-is_word-5
unfolding form_kind
returns-then-is_word-5 c =
    rw (
      sym c.is_word.ensures ∙ c.if-is_word.false,
      sym c.is_word-2.ensures ∙ c.if-is_word-2.false,
      sym c.is_word-3.ensures ∙ c.if-is_word-3.false,
      sym c.is_word-4.ensures ∙ c.if-is_word-4.false,
      sym c.is_word-5.ensures ∙ c.if-is_word-5.true,
    )

pub returns : goal.returns
unfolding form_kind
returns c =
    rw (
      sym c.is_word.ensures ∙ c.if-is_word.false,
      sym c.is_word-2.ensures ∙ c.if-is_word-2.false,
      sym c.is_word-3.ensures ∙ c.if-is_word-3.false,
      sym c.is_word-4.ensures ∙ c.if-is_word-4.false,
      sym c.is_word-5.ensures ∙ c.if-is_word-5.false,
    )
