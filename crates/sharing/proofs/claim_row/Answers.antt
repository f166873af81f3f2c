-- `sharing::claim_row` meets its contract: each kind by its places.
use mathlib.Core.Path.{ap, ◌∙◌}
use Rattle.layout.specs.declared.Kind.TheVariants.{Multiple}
use Rattle.sharing.specs.Known.{bits_known}
use Rattle.sharing.proofs.RowSteps.{single_room, quantity_room, text_room, truth_room, spread_room, as_single, as_quantity, as_text}
use Rattle.sharing.proofs.RowSteps.{as_truth, as_bits, as_spread}
use Rattle.sharing.proofs.claim_row.Goals as goal

pub returns-in-Single : goal.returns-in-Single
returns-in-Single c = as_single _ _ _ c.in-Single.is c.claim_run.ensures

pub returns-in-Bits : goal.returns-in-Bits
returns-in-Bits c = as_bits _ _ _ (c.in-Multiple.is
    ∙ ap Multiple c.in-Bits.is) c.claim_bits.ensures

pub returns-in-Fields : goal.returns-in-Fields
returns-in-Fields c =
    as_spread _ _ _ (c.in-Multiple.is
    ∙ ap Multiple c.in-Fields.is) c.claim_spread.ensures

pub returns-in-Quantity : goal.returns-in-Quantity
returns-in-Quantity c = as_quantity _ _ _ c.in-Quantity.is c.claim_run-in-Quantity.ensures

pub returns-in-Character : goal.returns-in-Character
returns-in-Character c = as_text _ _ _ c.in-Character.is c.claim_run-in-Character.ensures

pub returns-in-Logical : goal.returns-in-Logical
returns-in-Logical c = as_truth _ _ _ c.in-Logical.is c.claim_run-in-Logical.ensures

pub overflow_sub-row : goal.overflow_sub-row
overflow_sub-row c = (single_room _ c.requires.row_facts c.requires.len_in_bounds
    c.in-Single.is).reach

pub claim_run-requires : goal.claim_run-requires
claim_run-requires c = (single_room _ c.requires.row_facts c.requires.len_in_bounds
    c.in-Single.is).right

pub claim_bits-requires : goal.claim_bits-requires
claim_bits-requires c = bits_known _ c.requires.row_facts
    c.requires.len_in_bounds
    (c.in-Multiple.is ∙ ap Multiple c.in-Bits.is)

pub overflow_sub-row-in-Fields : goal.overflow_sub-row-in-Fields
overflow_sub-row-in-Fields c = c.requires.row_facts.position.from_one

pub claim_spread-requires : goal.claim_spread-requires
claim_spread-requires c = spread_room _ c.requires.row_facts
    c.requires.len_in_bounds
    (c.in-Multiple.is ∙ ap Multiple c.in-Fields.is)

pub overflow_sub-row-in-Quantity : goal.overflow_sub-row-in-Quantity
overflow_sub-row-in-Quantity c = (quantity_room _ c.requires.row_facts c.requires.len_in_bounds
    c.in-Quantity.is).reach

pub claim_run-requires-in-Quantity : goal.claim_run-requires-in-Quantity
claim_run-requires-in-Quantity c = (quantity_room _ c.requires.row_facts c.requires.len_in_bounds
    c.in-Quantity.is).right

pub overflow_sub-row-in-Character : goal.overflow_sub-row-in-Character
overflow_sub-row-in-Character c = c.requires.row_facts.position.from_one

pub claim_run-requires-in-Character : goal.claim_run-requires-in-Character
claim_run-requires-in-Character c = (text_room _ c.requires.row_facts c.requires.len_in_bounds
    c.in-Character.is).left

pub overflow_sub-row-in-Logical : goal.overflow_sub-row-in-Logical
overflow_sub-row-in-Logical c = (truth_room _ c.requires.row_facts c.requires.len_in_bounds).0

pub claim_run-requires-in-Logical : goal.claim_run-requires-in-Logical
claim_run-requires-in-Logical c = (truth_room _ c.requires.row_facts c.requires.len_in_bounds).1

pub shape_of-stamps-in-Single : goal.shape_of-stamps-in-Single
shape_of-stamps-in-Single c = c.claim_run.auto.stamps

pub shape_of-stamps-in-Bits : goal.shape_of-stamps-in-Bits
shape_of-stamps-in-Bits c = c.claim_bits.auto.stamps

pub shape_of-stamps-in-Fields : goal.shape_of-stamps-in-Fields
shape_of-stamps-in-Fields c = c.claim_spread.auto.stamps

pub shape_of-stamps-in-Quantity : goal.shape_of-stamps-in-Quantity
shape_of-stamps-in-Quantity c = c.claim_run-in-Quantity.auto.stamps

pub shape_of-stamps-in-Character : goal.shape_of-stamps-in-Character
shape_of-stamps-in-Character c = c.claim_run-in-Character.auto.stamps

pub shape_of-stamps-in-Logical : goal.shape_of-stamps-in-Logical
shape_of-stamps-in-Logical c = c.claim_run-in-Logical.auto.stamps
