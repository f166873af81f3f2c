use Rattle.steps.specs.Step.{statement_past, word_found, keyword_past}
use Rattle.pages.specs.Page.{type_at}
use Rattle.pages.proofs.type_apart.Goals as goal

pub returns-then-one : goal.returns-then-one
unfolding type_at statement_past word_found keyword_past
returns-then-one c =
    rw (
      ← c.past_notes-f.ensures,
      ← c.past_word-a.ensures,
      ← c.past_gap-g.ensures,
      ← c.find_here-one.ensures,
      c.if-one.true,
    )

pub returns-then-two : goal.returns-then-two
unfolding type_at statement_past word_found keyword_past
returns-then-two c =
    rw (
      ← c.past_notes-f.ensures,
      ← c.past_word-a.ensures,
      ← c.past_gap-g.ensures,
      ← c.find_here-one.ensures,
      c.if-one.false,
      ← c.find_here-two.ensures,
      c.if-two.true,
    )

pub returns-then-three : goal.returns-then-three
unfolding type_at statement_past word_found keyword_past
returns-then-three c =
    rw (
      ← c.past_notes-f.ensures,
      ← c.past_word-a.ensures,
      ← c.past_gap-g.ensures,
      ← c.find_here-one.ensures,
      c.if-one.false,
      ← c.find_here-two.ensures,
      c.if-two.false,
      ← c.find_here-three.ensures,
      c.if-three.true,
    )

pub returns-then-four : goal.returns-then-four
unfolding type_at statement_past word_found keyword_past
returns-then-four c =
    rw (
      ← c.past_notes-f.ensures,
      ← c.past_word-a.ensures,
      ← c.past_gap-g.ensures,
      ← c.find_here-one.ensures,
      c.if-one.false,
      ← c.find_here-two.ensures,
      c.if-two.false,
      ← c.find_here-three.ensures,
      c.if-three.false,
      ← c.find_here-four.ensures,
      c.if-four.true,
    )

pub returns : goal.returns
unfolding type_at statement_past word_found keyword_past
returns c =
    rw (
      ← c.past_notes-f.ensures,
      ← c.past_word-a.ensures,
      ← c.past_gap-g.ensures,
      ← c.find_here-one.ensures,
      c.if-one.false,
      ← c.find_here-two.ensures,
      c.if-two.false,
      ← c.find_here-three.ensures,
      c.if-three.false,
      ← c.find_here-four.ensures,
      c.if-four.false,
      ← c.past_word-next.ensures,
    )
