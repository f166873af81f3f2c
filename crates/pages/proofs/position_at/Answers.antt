use Rattle.steps.specs.Step.{statement_past, word_found}
use Rattle.pages.specs.Page.{position_at}
use Rattle.pages.proofs.position_at.Goals as goal

pub returns-then-f : goal.returns-then-f
unfolding position_at statement_past word_found
returns-then-f c =
    rw (
      ← c.past_notes-g.ensures,
      ← c.past_word-a.ensures,
      ← c.number_span-x.ensures,
      ← c.past_gap-h.ensures,
      ← c.find_here-f.ensures,
      c.if-f.true,
      ← c.number_span-y.ensures,
    )

pub returns : goal.returns
unfolding position_at statement_past word_found
returns c =
    rw (
      ← c.past_notes-g.ensures,
      ← c.past_word-a.ensures,
      ← c.number_span-x.ensures,
      ← c.past_gap-h.ensures,
      ← c.find_here-f.ensures,
      c.if-f.false,
    )
