-- `field_values::take_truth` meets its contract.
use mathlib.Core.Path.{refl, sym, ◌∙◌}
use native.Mathlib.Omega.{arith}
use Rattle.writes.specs.rule.Write.{lent_value}
use Rattle.field_values.specs.Steps.{none_taken, left_none, truth_is, truth_left_is, wrote}
use Rattle.field_values.proofs.take_truth.Goals as goal

pub bounds-f-0 : goal.bounds-f-0
bounds-f-0 c = omega (arith, c.requires.fact.0)

pub returns-then-not-left_of : goal.returns-then-not-left_of
returns-then-not-left_of c =
    none_taken (left_none _ _ _ _ (truth_left_is c.args.row c.args.f.now c.requires.fact.0
    c.requires.fact.1 refl (rw c.bit_of.ensures) (sym c.if-not-left_of.true ∙ c.left_of.ensures)))

pub returns : goal.returns
unfolding lent_value
returns c =
    wrote (truth_is c.args.row c.args.f.now c.requires.fact.0 c.requires.fact.1 refl)
    (truth_left_is c.args.row c.args.f.now c.requires.fact.0 c.requires.fact.1 refl
    (rw c.bit_of.ensures) (sym c.if-not-left_of.false
    ∙ c.left_of.ensures)) c.write_truth.ensures c.is_done.ensures
