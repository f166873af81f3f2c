use mathlib.Core.Path.{refl, sym, ◌∙◌}
use native.Mathlib.Nat.{add-zero, sub-zero}
use Rattle.fields.specs.rule.Number.{all_spaces}
use Rattle.faults.proofs.Laws.{number_here_lem, number_on_lem, number_none, open_more}
use Rattle.faults.proofs.number_from.Goals as goal

pub loop-i-init : goal.loop-i-init
unfolding all_spaces
loop-i-init c = (refl, rw (add-zero, sub-zero))

pub returns-then-not-may_stand : goal.returns-then-not-may_stand
returns-then-not-may_stand c =
    c.fault_at.ensures
    ∙ sym (number_here_lem _ _ _ _ _ _ c.loop-i-test.true
    (sym (c.may_stand.ensures _ (sym c.loop-i.invariant.0))
    ∙ c.if-not-may_stand.true))
    ∙ c.loop-i.invariant.1

pub loop-i-preserved : goal.loop-i-preserved
loop-i-preserved c =
    let args = c.args in (
      rw c.loop-i.invariant.0 (sym (open_more args.bytes.now args.at c.loop-i.i)),
      sym (number_on_lem _ _ _ _ _ _ c.loop-i-test.true
          (sym (c.may_stand.ensures _ (sym c.loop-i.invariant.0)) ∙ c.if-not-may_stand.false)) ∙ c.loop-i.invariant.1,
    )

pub returns : goal.returns
returns c = sym (number_none _ _ _ _ _ _ c.loop-i-test.false) ∙ c.loop-i.invariant.1
