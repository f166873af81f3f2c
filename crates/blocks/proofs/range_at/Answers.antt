use mathlib.Core.Path.{◌∙◌, sym}
use Rattle.blocks.proofs.Parts.{range_slots, range_next, range_found, range_not, range_fault}
use Rattle.blocks.proofs.range_at.Goals as goal

pub pass_pair-requires : goal.pass_pair-requires
pass_pair-requires c =
    range_next _ _ c.args.quantity _ _ c.requires (sym c.read_tag.ensures ∙ c.in-Read.is)

pub settle_range-requires : goal.settle_range-requires
settle_range-requires c =
    range_slots _ _ c.args.quantity _ _ c.requires (sym c.read_tag.ensures ∙ c.in-Read.is)

pub returns-in-Is : goal.returns-in-Is
returns-in-Is c =
    c.settle_range.ensures ∙ range_found _ _ _ _ _ c.requires
    (sym c.read_tag.ensures ∙ c.in-Read.is)
    (sym c.pass_pair.ensures ∙ c.in-Is.is)

pub returns-in-Not : goal.returns-in-Not
returns-in-Not c =
    range_not _ _ _ _ _ c.requires (sym c.read_tag.ensures
    ∙ c.in-Read.is) (sym c.pass_pair.ensures ∙ c.in-Not.is)

pub returns-in-Fault : goal.returns-in-Fault
returns-in-Fault c = range_fault _ _ _ _ _ c.requires
    (sym c.read_tag.ensures ∙ c.in-Fault.is)
