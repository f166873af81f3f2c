use mathlib.Core.Path.{◌∙◌, sym}
use Rattle.blocks.proofs.Turns.{closed_not, bare_next, values_unknown, values_empty, values_open, values_fault}
use Rattle.blocks.proofs.values_at.Goals as goal

pub returns-then-held-ne0 : goal.returns-then-held-ne0
returns-then-held-ne0 c = closed_not (values_unknown _ _ _ _ _ _ _
    (sym c.read_bare.ensures ∙ c.in-Read.is) c.if-held-ne0.true)

pub returns-then-empty : goal.returns-then-empty
returns-then-empty c = closed_not (values_empty _ _ _ _ _ _ _
    (sym c.read_bare.ensures ∙ c.in-Read.is)
    c.if-held-ne0.false c.if-empty.true)

pub block_at-requires : goal.block_at-requires
block_at-requires c =
    let a = c.args in
    let p = c.requires in record {
      at_in_bounds = (
        bare_next _ _ a.languages a.quantity a.before _ _ (sym c.read_bare.ensures
            ∙ c.in-Read.is) p.end_in_bounds.0,
        p.end_in_bounds.1,
      );
      lines_len = p.lines_len;
    }

pub returns-else-empty : goal.returns-else-empty
returns-else-empty c =
    rw (values_open _ _ _ _ _ _ _ (sym c.read_bare.ensures
    ∙ c.in-Read.is) c.if-held-ne0.false c.if-empty.false)
    c.block_at.ensures

pub returns-in-Fault : goal.returns-in-Fault
returns-in-Fault c = closed_not (values_fault _ _ _ _ _ _ _ (sym c.read_bare.ensures ∙ c.in-Fault.is))
