use mathlib.Core.Path.{sym, ◌∙◌}
use mathlib.Core.List.{[], ◌∷◌}
use native.Mathlib.Omega.{arith}
use Rattle.prologs.proofs.Steps.{stands_in}
use Rattle.prologs.proofs.Exactly.{doctype_within}
use Rattle.prologs.proofs.doctype_gap.Goals as goal

pub gap_to-requires : goal.gap_to-requires
gap_to-requires c = let h = stands_in 60 (33 ∷ 68 ∷ 79 ∷ 67 ∷ 84 ∷ 89 ∷ 80 ∷ 69 ∷ [])
    c.args.d.now c.args.opened
    c.requires in
    doctype_within c.args.bad c.args.d.now
    c.args.opened c.args.latin (omega arith)
    (sym c.doctype_at.ensures ∙ c.in-Read.is)

pub returns-in-Read : goal.returns-in-Read
returns-in-Read c = c.gap_to.ensures ∙ sym (rw (sym c.doctype_at.ensures ∙ c.in-Read.is))

pub returns-in-Fault : goal.returns-in-Fault
returns-in-Fault c = sym (rw (sym c.doctype_at.ensures ∙ c.in-Fault.is))
