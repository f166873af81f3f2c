use Rattle.steps.specs.Step.{word_found}
use Rattle.pages.specs.Page.{range_at}
use Rattle.pages.proofs.range_apart.Goals as goal

pub returns-then-f : goal.returns-then-f
unfolding range_at word_found
returns-then-f c =
    rw (
      ← c.past_notes-g.ensures,
      ← c.value_span-from.ensures,
      ← c.past_gap-e.ensures,
      ← c.find_here-f.ensures,
      c.if-f.true,
      ← c.past_gap-h.ensures,
      ← c.value_span-to.ensures,
      ← c.past_gap-k.ensures,
      ← c.find_here-w.ensures,
    )

pub returns : goal.returns
unfolding range_at word_found
returns c =
    rw (
      ← c.past_notes-g.ensures,
      ← c.value_span-from.ensures,
      ← c.past_gap-e.ensures,
      ← c.find_here-f.ensures,
      c.if-f.false,
    )
