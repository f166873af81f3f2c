-- `readings::read_row` meets its contract: each kind by its reader.
use mathlib.Core.Path.{ap, ◌∙◌}
use native.Mathlib.Omega.{arith}
use Rattle.layout.specs.declared.Kind.TheVariants.{Multiple}
use Rattle.readings.specs.Ready.{single_ready, quantity_ready, bits_ready, spread_ready, text_ready}
use Rattle.readings.proofs.Laws.{as_single, as_bits, as_spread, as_quantity, as_text, as_truth, single_keeps, quantity_keeps}
use Rattle.readings.proofs.Laws.{text_keeps, truth_keeps, row_read, row_set}
use Rattle.readings.proofs.read_row.Goals as goal

pub text-requires : goal.text-requires
text-requires c = let f = text_ready c.requires c.in-Character.is in record {
  w_bound = f.0;
  at_in_bounds = f.1;
  w_in_bounds = f.2;
}

pub returns-in-Single : goal.returns-in-Single
returns-in-Single c = row_read (as_single _ _ _ _ c.in-Single.is) (c.single.ensures _ _) (single_keeps _ _ _)

pub returns-in-Bits : goal.returns-in-Bits
returns-in-Bits c = row_set (as_bits _ _ _ _ (c.in-Multiple.is
    ∙ ap Multiple c.in-Bits.is)) c.bits.ensures

pub returns-in-Fields : goal.returns-in-Fields
returns-in-Fields c = row_set (as_spread _ _ _ _ _ _ (c.in-Multiple.is
    ∙ ap Multiple c.in-Fields.is)) c.spread.ensures

pub returns-in-Quantity : goal.returns-in-Quantity
returns-in-Quantity c = row_read (as_quantity _ _ _ _ _ c.in-Quantity.is) (c.quantity.ensures _ _) (quantity_keeps _ _ _ _)

pub returns-in-Character : goal.returns-in-Character
returns-in-Character c = row_read (as_text _ _ _ _ c.in-Character.is) (c.text.ensures _) (text_keeps _ _)

pub returns-in-Logical : goal.returns-in-Logical
returns-in-Logical c = row_read (as_truth _ _ _ _ c.in-Logical.is) (c.truth.ensures _ _) (truth_keeps _ _)

pub single-requires : goal.single-requires
single-requires c = single_ready c.requires c.in-Single.is

pub bits-requires : goal.bits-requires
bits-requires c = bits_ready c.requires
    (c.in-Multiple.is ∙ ap Multiple c.in-Bits.is)

pub spread-requires : goal.spread-requires
spread-requires c = spread_ready c.requires
    (c.in-Multiple.is ∙ ap Multiple c.in-Fields.is)

pub quantity-requires : goal.quantity-requires
quantity-requires c = let q = quantity_ready c.requires c.in-Quantity.is in record {
  number_facts = q.0;
  format_facts = q.1;
}

pub overflow_sub-row : goal.overflow_sub-row
overflow_sub-row c = let h = c.requires.from_one in omega arith

pub overflow_sub-last : goal.overflow_sub-last
overflow_sub-last c = let h = c.requires.from_one in let g = c.requires.ordered in
    omega arith

pub bounds-bytes-last : goal.bounds-bytes-last
bounds-bytes-last c = let h = c.requires.from_one in
    let g = c.requires.ordered in let i = c.requires.inside in
    omega arith
