use mathlib.Core.Path.{◌∙◌, sym}
use Rattle.values.specs.Line.{more_of}
use Rattle.values.proofs.more_apart.Goals as goal

pub returns-in-Taken : goal.returns-in-Taken
unfolding more_of
returns-in-Taken c =
    rw (
      sym c.notes_on-t.ensures,
      sym c.perhaps.ensures ∙ c.in-Taken.is,
      sym c.word_on-e.ensures,
      sym c.end_values.ensures,
    )

pub returns-in-Left : goal.returns-in-Left
unfolding more_of
returns-in-Left c =
    rw (
      sym c.notes_on-t.ensures,
      sym c.perhaps.ensures ∙ c.in-Left.is,
      sym c.value_here-a.ensures,
    )
