use mathlib.Core.Path.{◌∙◌, sym}
use Rattle.statements.specs.Note.{statement_on}
use Rattle.values.specs.Block.{values_on}
use Rattle.values.proofs.values_on.Goals as goal

pub returns-in-Taken : goal.returns-in-Taken
unfolding values_on statement_on
returns-in-Taken c =
    rw (
      sym c.notes_on-s.ensures,
      sym c.word_here-w.ensures,
      sym c.notes_on-n.ensures,
      sym c.value_here-a.ensures,
      sym c.past_value-p.ensures,
      sym c.gap_on-g.ensures,
      sym c.perhaps.ensures ∙ c.in-Taken.is,
    ) (rw (sym c.range_rest-r.ensures) c.range_then.ensures)

pub returns-in-Left : goal.returns-in-Left
unfolding values_on statement_on
returns-in-Left c =
    rw (
      sym c.notes_on-s.ensures,
      sym c.word_here-w.ensures,
      sym c.notes_on-n.ensures,
      sym c.value_here-a.ensures,
      sym c.past_value-p.ensures,
      sym c.gap_on-g.ensures,
      sym c.perhaps.ensures ∙ c.in-Left.is,
    ) (rw (sym c.empty_block-b.ensures) c.read_lines.ensures)
