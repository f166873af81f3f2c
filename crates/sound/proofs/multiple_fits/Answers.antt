use mathlib.Core.Path.{sym, ◌∙◌}
use borrow.Author.Tests.{eq-eqb, ne_eqb}
use Rattle.below.specs.Below.{and_no, and_yes}
use Rattle.layout.specs.rule.Row.{spread_of}
use Rattle.widths.specs.rule.Width.{lowest, highest}
use Rattle.sound.specs.Given.{paired_some}
use Rattle.sound.specs.Values.{valued_by}
use Rattle.sound.proofs.multiple_fits.Goals as goal

pub returns-then-not-numbers_fit : goal.returns-then-not-numbers_fit
unfolding valued_by lowest highest
returns-then-not-numbers_fit c = sym (and_no _ _ (sym c.numbers_fit.ensures ∙ c.if-not-numbers_fit.true))

pub returns-then-c-eq0 : goal.returns-then-c-eq0
unfolding valued_by lowest highest spread_of
returns-then-c-eq0 c = c.bits_fit.ensures ∙ sym (rw (eq-eqb _ 0 c.if-c-eq0.true)
    (and_yes _ _ (sym c.numbers_fit.ensures ∙ c.if-not-numbers_fit.false)))

pub fields_fit-requires : goal.fields_fit-requires
fields_fit-requires c = record {
  tens = c.requires.tens;
  sited = c.requires.sited;
  le_subfields = paired_some c.args.c
      c.requires.c_value c.if-c-eq0.false;
}

pub returns : goal.returns
unfolding valued_by lowest highest spread_of
returns c = c.fields_fit.ensures ∙ sym (rw (ne_eqb _ 0 c.if-c-eq0.false)
    (and_yes _ _ (sym c.numbers_fit.ensures ∙ c.if-not-numbers_fit.false)))
