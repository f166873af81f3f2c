use mathlib.Core.Path.{◌∙◌, sym}
use Rattle.statements.specs.Position.{position_on}
use Rattle.statements.proofs.Helds.{held_by}
use Rattle.statements.specs.Note.{statement_on}
use Rattle.statements.proofs.position_on.Goals as goal

pub returns-in-Taken : goal.returns-in-Taken
unfolding position_on statement_on
returns-in-Taken c =
    rw (
      sym c.notes_on-s.ensures,
      sym c.word_here-w.ensures,
      sym c.number_on-a.ensures,
      sym c.past_number-p.ensures,
      sym c.gap_on-g.ensures,
      sym c.perhaps.ensures ∙ c.in-Taken.is,
      sym c.number_on-b.ensures,
    ) (rw (
      sym c.past_number-e.ensures,
      sym c.both.ensures,
    ))

pub returns-in-Left : goal.returns-in-Left
unfolding position_on statement_on
returns-in-Left c =
    rw (
      sym c.notes_on-s.ensures,
      sym c.word_here-w.ensures,
      sym c.number_on-a.ensures,
      sym c.past_number-p.ensures,
      sym c.gap_on-g.ensures,
      sym c.perhaps.ensures ∙ c.in-Left.is,
      sym c.both-in-Left.ensures,
    )

pub both-requires : goal.both-requires
both-requires c =
    let pre = c.requires in record {
      classes = pre;
      held = (held_by _ _ c.number_on-a.ensures, held_by _ _ c.number_on-b.ensures);
    }

pub both-requires-in-Left : goal.both-requires-in-Left
both-requires-in-Left c =
    let a = held_by _ _ c.number_on-a.ensures in record {
      classes = c.requires;
      held = (a, a);
    }
