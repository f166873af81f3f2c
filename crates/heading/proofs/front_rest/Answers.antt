use mathlib.Core.Path.{◌∙◌, sym}
use Rattle.heading.specs.Heading.{front_of}
use Rattle.heading.proofs.front_rest.Goals as goal

pub returns-in-Taken : goal.returns-in-Taken
unfolding front_of
returns-in-Taken c =
    rw (
      sym c.word_here-s.ensures,
      sym c.notes_on-n.ensures,
      sym c.perhaps.ensures ∙ c.in-Taken.is,
      sym c.string_on-q.ensures,
      sym c.kept_text-title.ensures,
      sym c.past_string-p.ensures,
    ) (rw (sym c.record_on-next.ensures))

pub returns-in-Left : goal.returns-in-Left
unfolding front_of
returns-in-Left c =
    rw (
      sym c.word_here-s.ensures,
      sym c.notes_on-n.ensures,
      sym c.perhaps.ensures ∙ c.in-Left.is,
      sym c.record_on-next-in-Left.ensures,
    )
