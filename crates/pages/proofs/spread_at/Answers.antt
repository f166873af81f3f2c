use Rattle.steps.specs.Step.{word_found}
use Rattle.pages.specs.Page.{spread_at}
use Rattle.pages.proofs.spread_at.Goals as goal

pub returns-then-g : goal.returns-then-g
unfolding spread_at word_found
returns-then-g c =
    rw (
      ← c.find_statement-f.ensures,
      ← c.number_span-x.ensures,
      ← c.past_gap-h.ensures,
      ← c.find_here-g.ensures,
      ← c.number_span-w.ensures,
      c.if-f.true,
      c.if-g.true,
    )

pub returns-then-f : goal.returns-then-f
unfolding spread_at word_found
returns-then-f c =
    rw (
      ← c.find_statement-f.ensures,
      ← c.number_span-x.ensures,
      ← c.past_gap-h.ensures,
      ← c.find_here-g.ensures,
      ← c.number_span-w.ensures,
      c.if-f.true,
      c.if-g.false,
    )

pub returns : goal.returns
unfolding spread_at word_found
returns c =
    rw (
      ← c.find_statement-f.ensures,
      ← c.number_span-x.ensures,
      ← c.past_gap-h.ensures,
      ← c.find_here-g.ensures,
      ← c.number_span-w.ensures,
      c.if-f.false,
    )
