-- `faults::row_fault` meets its contract: the form's fault, or the values'.
use mathlib.Core.Path.{sym, ap, ◌∙◌}
use Rattle.faults.specs.rule.Fault.{fault_of}
use Rattle.faults.specs.Joined.{else_fault, else_sound, some_fault}
use Rattle.faults.proofs.row_fault.Goals as goal

pub returns-then-is_fault : goal.returns-then-is_fault
unfolding fault_of
returns-then-is_fault c =
    c.row_form-x.ensures
    ∙ sym (else_fault _ _ (ap some_fault (sym c.row_form-x.ensures) ∙ sym c.is_fault.ensures ∙ c.if-is_fault.true))

pub returns : goal.returns
unfolding fault_of
returns c =
    c.row_value.ensures
    ∙ sym (else_sound _ _ (ap some_fault (sym c.row_form-x.ensures) ∙ sym c.is_fault.ensures
    ∙ c.if-is_fault.false))
