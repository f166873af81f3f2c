-- `faults::bits_form` meets its contract: spaces, or the first byte that is neither `0` nor `1`.
use mathlib.Core.Path.{sym, ap, ◌∙◌}
use mathlib.Core.Bool.{not}
use Rattle.faults.specs.Joined.{some_fault}
use Rattle.faults.proofs.Laws.{blank_some, form_blank, form_other}
use Rattle.faults.proofs.bits_form.Goals as goal

pub returns-then-is_fault : goal.returns-then-is_fault
returns-then-is_fault c =
    c.first_bit_failing-then-is_fault.ensures
    ∙ sym (form_other _ _ _ (sym (blank_some _ _)
    ∙ ap (λ x. not (some_fault x)) (sym c.first_bit_failing.ensures)
    ∙ ap not (sym c.is_fault.ensures ∙ c.if-is_fault.true)))

pub returns : goal.returns
returns c =
    sym (form_blank _ _ _ (sym (blank_some _ _) ∙ ap (λ x. not (some_fault x)) (sym c.first_bit_failing.ensures)
    ∙ ap not (sym c.is_fault.ensures ∙ c.if-is_fault.false)))
