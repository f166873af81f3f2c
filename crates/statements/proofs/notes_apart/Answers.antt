use mathlib.Core.Path.{◌∙◌, sym, ap}
use Rattle.statements.specs.Note.{past_note, notes_here, notes_on}
use Rattle.statements.proofs.Notes.{note_left, notes_again, notes_done}
use Rattle.statements.proofs.notes_apart.Goals as goal

pub loop-m-smaller : goal.loop-m-smaller
unfolding past_note
loop-m-smaller c = rw (c.gap_on-g-in-Taken.ensures, c.past_string-p.ensures, c.string_apart-s.ensures)
    (note_left _ _ c.note_word.ensures c.in-Taken.is)

pub loop-m-preserved : goal.loop-m-preserved
unfolding past_note
loop-m-preserved c =
    c.loop-m.invariant
    ∙ notes_again _ _ c.note_word.ensures c.in-Taken.is
    ∙ rw (sym c.string_apart-s.ensures, sym c.past_string-p.ensures, sym c.gap_on-g-in-Taken.ensures)

pub returns-in-Left : goal.returns-in-Left
unfolding notes_on
returns-in-Left c = sym (ap (notes_here _) (sym c.gap_on-g.ensures) ∙ c.loop-m.invariant
    ∙ notes_done _ _ c.note_word.ensures c.in-Left.is)
