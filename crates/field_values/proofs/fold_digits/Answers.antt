use mathlib.Core.Path.{refl, sym, ◌∙◌}
use Rattle.field_values.specs.Steps.{capped_next, capped_over, capped_small}
use Rattle.field_values.proofs.fold_digits.Goals as goal

pub loop-b-init : goal.loop-b-init
loop-b-init c = (refl, c.requires)

pub loop-b-preserved : goal.loop-b-preserved
loop-b-preserved c = (
  c.loop-b.invariant.0
      ∙ capped_next c.args.f.now c.loop-b.b-index
      c.loop-b.n c.loop-b-test.true ∙ rw c.step-n.ensures,
  rw c.step-n.ensures (capped_small _),
)

pub returns : goal.returns
returns c = (
  sym (c.loop-b.invariant.0 ∙ capped_over c.args.f.now c.loop-b.b-index
      c.loop-b.n c.loop-b-test.false),
  c.loop-b.invariant.1,
)
