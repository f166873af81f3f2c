use Rattle.steps.specs.Step.{word_found}
use Rattle.pages.specs.Page.{line_at}
use Rattle.pages.proofs.line_at.Goals as goal

pub returns : goal.returns
unfolding line_at word_found
returns c = rw (
  ← c.past_notes-g.ensures,
  ← c.value_span-value.ensures,
  ← c.string_span-text.ensures,
  ← c.past_gap-h.ensures,
  ← c.find_here-s.ensures,
)
