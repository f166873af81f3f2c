-- `faults::row_form` meets its contract: each kind by its own.
use mathlib.Core.Path.{sym, ap, ◌∙◌}
use native.Mathlib.Omega.{arith}
use Rattle.layout.specs.declared.Kind.TheVariants.{Single, Multiple, Character, Logical}
use Rattle.fields.specs.rule.Row.{places_by}
use Rattle.readings.specs.Ready.{single_ready, quantity_ready, bits_ready, spread_ready, text_ready}
use Rattle.faults.specs.rule.Fault.{form_by}
use Rattle.faults.proofs.Laws.{form_as}
use Rattle.faults.proofs.row_form.Goals as goal

pub number_form-requires : goal.number_form-requires
number_form-requires c = let f = single_ready c.requires c.in-Single.is in
    let g = f.reach in let h = f.inside in record {
      decimals_bound = omega arith;
      w_in_bounds = omega arith;
    }

pub spread_form-requires : goal.spread_form-requires
spread_form-requires c =
    let f = spread_ready c.requires
    (c.in-Multiple.is ∙ ap Multiple c.in-Fields.is) in
    let g = f.from_one in let h = f.inside in
    record { few = f.few; holds = f.holds; inside = omega arith }

pub number_form-requires-in-Quantity : goal.number_form-requires-in-Quantity
number_form-requires-in-Quantity c =
    let f = quantity_ready c.requires c.in-Quantity.is in let g = f.0.reach in
    let h = f.0.inside in record {
      decimals_bound = f.1.few;
      w_in_bounds = omega arith;
    }

pub plain_form-requires : goal.plain_form-requires
plain_form-requires c = let f = text_ready c.requires c.in-Character.is in let g = f.1 in
    let h = f.2 in omega arith

pub returns-in-Single : goal.returns-in-Single
unfolding form_by places_by
returns-in-Single c = c.number_form.ensures ∙ sym (form_as _ _ _ _ Single c.in-Single.is)

pub returns-in-Bits : goal.returns-in-Bits
unfolding form_by places_by
returns-in-Bits c = c.bits_form.ensures ∙ sym (form_as _ _ _ _ _
    (c.in-Multiple.is ∙ ap Multiple c.in-Bits.is))

pub returns-in-Fields : goal.returns-in-Fields
unfolding form_by places_by
returns-in-Fields c = c.spread_form.ensures ∙ sym (form_as _ _ _ _ _
    (c.in-Multiple.is ∙ ap Multiple c.in-Fields.is))

pub returns-in-Quantity : goal.returns-in-Quantity
unfolding form_by places_by
returns-in-Quantity c = c.number_form-in-Quantity.ensures ∙ sym (form_as _ _ _ _ _ c.in-Quantity.is)

pub returns-in-Character : goal.returns-in-Character
unfolding form_by places_by
returns-in-Character c = c.plain_form.ensures ∙ sym (form_as _ _ _ _ Character c.in-Character.is)

pub returns-in-Logical : goal.returns-in-Logical
unfolding form_by places_by
returns-in-Logical c = c.plain_form-in-Logical.ensures ∙ sym (form_as _ _ _ _ Logical c.in-Logical.is)

pub overflow_sub-row : goal.overflow_sub-row
overflow_sub-row c = (single_ready c.requires c.in-Single.is).reach

pub bits_form-requires : goal.bits_form-requires
bits_form-requires c = bits_ready c.requires
    (c.in-Multiple.is ∙ ap Multiple c.in-Bits.is)

pub overflow_sub-row-in-Quantity : goal.overflow_sub-row-in-Quantity
overflow_sub-row-in-Quantity c = (quantity_ready c.requires c.in-Quantity.is).0.reach
