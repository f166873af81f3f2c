-- `readings::field_illegal` meets its contract: each kind by its reader or its judge.
use mathlib.Core.Path.{sym, ap, ◌∙◌}
use Prim.Native.Nat.{◌+◌, ◌-◌, ◌≤◌}
use native.Mathlib.Omega.{arith}
use lib.ListN.{length}
use Rattle.layout.specs.declared.Kind.TheVariants.{Multiple}
use Rattle.sets.specs.rule.Sets.{is_illegal}
use Rattle.readings.specs.Answer.{illegal_answer}
use Rattle.readings.specs.Ready.{single_ready, quantity_ready, bits_ready, spread_ready, text_ready}
use Rattle.readings.proofs.Laws.{as_single, as_bits, as_spread, as_quantity, as_text, as_truth, text_legal, illegal_back}
use Rattle.readings.proofs.field_illegal.Goals as goal

pub returns-in-Single : goal.returns-in-Single
returns-in-Single c =
    c.is_illegal.ensures ∙ ap illegal_answer (c.single.ensures 0 0) ∙ illegal_back 0 0 _
    ∙ sym (ap is_illegal (as_single _ _ _ _ c.in-Single.is))

pub returns-in-Bits : goal.returns-in-Bits
returns-in-Bits c =
    let k = c.in-Multiple.is ∙ ap Multiple c.in-Bits.is in
    c.bits_illegal.ensures ∙ sym (ap is_illegal (as_bits _ _ _ _ k))

pub returns-in-Fields : goal.returns-in-Fields
returns-in-Fields c =
    let k = c.in-Multiple.is ∙ ap Multiple c.in-Fields.is in
    c.spread_illegal.ensures ∙ sym (ap is_illegal (as_spread _ _ _ _ _ _ k))

pub returns-in-Quantity : goal.returns-in-Quantity
returns-in-Quantity c = c.quantity_illegal.ensures ∙ sym (ap is_illegal (as_quantity _ _ _ _ _ c.in-Quantity.is))

pub returns-in-Character : goal.returns-in-Character
returns-in-Character c =
    let p = c.requires in
    let a = c.args in
    let r = a.row in
    let e = c.in-Character.is in
    let f = text_ready p.row_ready e in
    let l : r.start - 1 + r.width ≤ length a.bytes.now = omega (arith, f.1, f.2) in
    text_legal a.bytes.now (r.start - 1) r.width p.plain l
    ∙ sym (ap is_illegal (as_text a.t.now a.rows r a.bytes.now e))

pub returns-in-Logical : goal.returns-in-Logical
returns-in-Logical c =
    c.is_illegal-in-Logical.ensures ∙ ap illegal_answer (c.truth.ensures 0 0) ∙ illegal_back 0 0 _
    ∙ sym (ap is_illegal (as_truth _ _ _ _ c.in-Logical.is))

pub single-requires : goal.single-requires
single-requires c = single_ready c.requires.row_ready c.in-Single.is

pub bits_illegal-requires : goal.bits_illegal-requires
bits_illegal-requires c = bits_ready c.requires.row_ready
    (c.in-Multiple.is ∙ ap Multiple c.in-Bits.is)

pub spread_illegal-requires : goal.spread_illegal-requires
spread_illegal-requires c = let p = c.requires in record {
  fields_facts = spread_ready p.row_ready
      (c.in-Multiple.is ∙ ap Multiple c.in-Fields.is);
  scratch_len_bound = p.scratch_len_bound;
}

pub quantity_illegal-requires : goal.quantity_illegal-requires
quantity_illegal-requires c = let q = quantity_ready c.requires.row_ready c.in-Quantity.is in record {
  number_facts = q.0;
  format_facts = q.1;
}

pub overflow_sub-last : goal.overflow_sub-last
overflow_sub-last c = let p = c.requires.row_ready in let h = p.from_one in let g = p.ordered in omega arith

pub bounds-bytes-last : goal.bounds-bytes-last
bounds-bytes-last c = let p = c.requires.row_ready in let h = p.from_one in let g = p.ordered in
    let i = p.inside in omega arith
