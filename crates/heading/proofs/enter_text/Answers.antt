use mathlib.Core.Path.{sym}
use Rattle.heading.specs.Heading.{text_entry}
use Rattle.heading.proofs.enter_text.Goals as goal

pub returns : goal.returns
unfolding text_entry
returns c =
    rw (
      sym c.text_at-q.ensures,
      sym c.read_once-p.ensures,
      sym c.kept_text-x.ensures,
      sym c.with_text-heading.ensures,
      sym c.past_string-a.ensures,
      sym c.notes_on-next.ensures,
    )
