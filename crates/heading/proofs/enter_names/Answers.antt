use mathlib.Core.Path.{sym}
use Rattle.heading.specs.Heading.{named, name_entry}
use Rattle.heading.proofs.enter_names.Goals as goal

pub returns-then-h : goal.returns-then-h
unfolding named name_entry
returns-then-h c =
    rw (
      c.if-h.true,
      sym c.met_again-next.ensures,
    )

pub returns : goal.returns
unfolding named name_entry
returns c =
    rw (
      c.if-h.false,
      sym c.word_on-a.ensures,
      sym c.notes_on-next.ensures,
    )
