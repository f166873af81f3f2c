-- `faults::row_value` meets its contract: each kind by its own.
use mathlib.Core.Path.{sym, ap, ◌∙◌}
use native.Mathlib.Omega.{arith}
use lib.ListN.{length-take}
use Rattle.layout.specs.declared.Kind.TheVariants.{Single, Multiple, Character, Logical}
use Rattle.fields.specs.rule.Legal.{legal}
use Rattle.fields.specs.rule.Number.{code_of, quantity_of}
use Rattle.fields.specs.rule.Row.{places_by}
use Rattle.readings.specs.Ready.{single_ready, quantity_ready, spread_ready}
use Rattle.faults.specs.rule.Fault.{value_by, value_fault, usable}
use Rattle.faults.specs.Joined.{numeral_fault}
use Rattle.faults.proofs.Laws.{value_as, lent_last}
use Rattle.faults.proofs.row_value.Goals as goal

pub code-requires : goal.code-requires
code-requires c = let f = single_ready c.requires c.in-Single.is in let g = f.few in
    let h = f.reach in simp length-take (omega arith)

pub spread_value-requires : goal.spread_value-requires
spread_value-requires c =
    let f = spread_ready c.requires
    (c.in-Multiple.is ∙ ap Multiple c.in-Fields.is) in
    let g = f.from_one in let h = f.inside in record {
      line_facts = f.lines;
      spread_room = record { few = f.few; holds = f.holds; inside = omega arith };
    }

pub quantity-requires : goal.quantity-requires
quantity-requires c =
    let f = quantity_ready c.requires c.in-Quantity.is in let g = f.0.few in
    let h = f.0.reach in record {
      format_facts = f.1;
      s_len_bound = simp length-take (omega arith);
    }

pub returns-in-Single : goal.returns-in-Single
unfolding value_by places_by numeral_fault
returns-in-Single c =
    let a = c.args in
    let f = single_ready c.requires c.in-Single.is in
    c.numeral_fault.ensures ∙ ap (value_fault (usable (legal a.t.now a.rows a.row)))
    (c.code.ensures ∙ ap code_of (lent_last a.bytes.now a.row.finish a.row.width f.reach f.inside))
    ∙ sym (value_as _ _ _ _ Single c.in-Single.is)

pub returns-in-Bits : goal.returns-in-Bits
unfolding value_by
returns-in-Bits c = let a = c.args in
    sym (value_as a.t.now a.rows a.row a.bytes.now _
    (c.in-Multiple.is ∙ ap Multiple c.in-Bits.is))

pub returns-in-Fields : goal.returns-in-Fields
unfolding value_by places_by
returns-in-Fields c = c.spread_value.ensures ∙ sym (value_as _ _ _ _ _
    (c.in-Multiple.is ∙ ap Multiple c.in-Fields.is))

pub returns-in-Quantity : goal.returns-in-Quantity
unfolding value_by places_by numeral_fault
returns-in-Quantity c =
    let a = c.args in
    let f = quantity_ready c.requires c.in-Quantity.is in
    c.numeral_fault-in-Quantity.ensures ∙ ap (value_fault (legal a.t.now a.rows a.row)) (c.quantity.ensures ∙ ap (quantity_of _)
    (lent_last a.bytes.now a.row.finish a.row.width f.0.reach f.0.inside))
    ∙ sym (value_as _ _ _ _ _ c.in-Quantity.is)

pub returns-in-Character : goal.returns-in-Character
unfolding value_by
returns-in-Character c = let a = c.args in
    sym (value_as a.t.now a.rows a.row a.bytes.now Character c.in-Character.is)

pub returns-in-Logical : goal.returns-in-Logical
unfolding value_by
returns-in-Logical c = let a = c.args in
    sym (value_as a.t.now a.rows a.row a.bytes.now Logical c.in-Logical.is)

pub overflow_sub-a : goal.overflow_sub-a
overflow_sub-a c = (single_ready c.requires c.in-Single.is).reach

pub overflow_sub-a-in-Quantity : goal.overflow_sub-a-in-Quantity
overflow_sub-a-in-Quantity c = (quantity_ready c.requires c.in-Quantity.is).0.reach
