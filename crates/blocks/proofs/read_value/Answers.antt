use mathlib.Core.Path.{◌∙◌, sym}
use Rattle.blocks.proofs.Parts.{value_slot, value_next, value_found, value_not, value_fault}
use Rattle.blocks.proofs.read_value.Goals as goal

pub body_at-requires : goal.body_at-requires
body_at-requires c =
    value_next _ _ c.args.languages _ _ c.requires
    (sym c.read_tag.ensures ∙ c.in-Read.is)

pub word-requires : goal.word-requires
word-requires c =
    value_slot _ _ c.args.languages _ _ c.requires (sym c.read_tag.ensures ∙ c.in-Read.is)

pub returns-in-Ok : goal.returns-in-Ok
returns-in-Ok c =
    let b = rw c.mode_of-mode.ensures at c.body_at.ensures in
    c.word.ensures ∙ value_found _ _ _ _ _ c.requires (sym c.read_tag.ensures
    ∙ c.in-Read.is) (sym b ∙ c.in-Ok.is)

pub returns-in-Err : goal.returns-in-Err
returns-in-Err c =
    let b = rw c.mode_of-mode.ensures at c.body_at.ensures in
    value_not _ _ _ _ _ c.requires (sym c.read_tag.ensures
    ∙ c.in-Read.is) (sym b ∙ c.in-Err.is)

pub returns-in-Fault : goal.returns-in-Fault
returns-in-Fault c = value_fault _ _ _ _ _ c.requires
    (sym c.read_tag.ensures ∙ c.in-Fault.is)
