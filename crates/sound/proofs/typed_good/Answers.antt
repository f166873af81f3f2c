use mathlib.Core.Path.{sym, ◌∙◌}
use Rattle.below.specs.Below.{and_no, and_yes}
use Rattle.sound.proofs.typed_good.Goals as goal

pub returns-then-not-type_good : goal.returns-then-not-type_good
returns-then-not-type_good c = sym (and_no _ _ (sym c.type_good.ensures ∙ c.if-not-type_good.true))

pub values_good-requires : goal.values_good-requires
values_good-requires c = record {
  tens = c.requires.tens;
  sited = c.requires.sited.0;
  c_value = (sym c.type_good.ensures ∙ c.if-not-type_good.false, c.requires.sited.1);
}

pub returns : goal.returns
returns c = c.values_good.ensures ∙ sym (and_yes _ _ (sym c.type_good.ensures ∙ c.if-not-type_good.false))

pub type_good-requires : goal.type_good-requires
type_good-requires c = c.requires.sited.1
