use mathlib.Core.Path.{◌∙◌, sym, ap}
use Rattle.heading.specs.Heading.{entries_from, entries_on}
use Rattle.heading.proofs.Entries.{entries_text, entries_names, entries_other}
use Rattle.heading.proofs.entries_on.Goals as goal

pub loop-which-smaller-in-Text : goal.loop-which-smaller-in-Text
loop-which-smaller-in-Text c = rw c.enter_text-e.ensures
    (entries_text _ _ _ c.entry_here.ensures c.in-Text.is).1

pub loop-which-preserved-in-Text : goal.loop-which-preserved-in-Text
loop-which-preserved-in-Text c =
    c.loop-which.invariant
    ∙ (entries_text _ _ _ c.entry_here.ensures c.in-Text.is).0
    ∙ ap (entries_from _) (sym c.enter_text-e.ensures)

pub loop-which-smaller : goal.loop-which-smaller
loop-which-smaller c = rw c.enter_names-e.ensures
    (entries_names _ _ _ c.entry_here.ensures c.in-Standard.is).1

pub loop-which-preserved : goal.loop-which-preserved
loop-which-preserved c =
    c.loop-which.invariant
    ∙ (entries_names _ _ _ c.entry_here.ensures c.in-Standard.is).0
    ∙ ap (entries_from _) (sym c.enter_names-e.ensures)

pub returns-in-Other : goal.returns-in-Other
unfolding entries_on
returns-in-Other c =
    sym
    (rw (sym c.notes_on-g.ensures, sym c.no_heading-h.ensures)
    (c.loop-which.invariant ∙ entries_other _ _ _ c.entry_here.ensures c.in-Other.is))
