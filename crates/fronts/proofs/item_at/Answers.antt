use Rattle.steps.specs.Step.{statement_found}
use Rattle.fronts.specs.Front.{item_at}
use Rattle.fronts.proofs.item_at.Goals as goal

pub returns-then-date : goal.returns-then-date
unfolding item_at statement_found
returns-then-date c =
    rw (
      ← c.past_notes-g.ensures,
      ← c.find_here-date.ensures,
      c.if-date.true,
    )

pub returns-then-time : goal.returns-then-time
unfolding item_at statement_found
returns-then-time c =
    rw (
      ← c.past_notes-g.ensures,
      ← c.find_here-date.ensures,
      c.if-date.false,
      ← c.find_here-time.ensures,
      c.if-time.true,
    )

pub returns-then-origin : goal.returns-then-origin
unfolding item_at statement_found
returns-then-origin c =
    rw (
      ← c.past_notes-g.ensures,
      ← c.find_here-date.ensures,
      c.if-date.false,
      ← c.find_here-time.ensures,
      c.if-time.false,
      ← c.find_here-origin.ensures,
    ) (rw c.if-origin.true)

pub returns-then-user : goal.returns-then-user
unfolding item_at statement_found
returns-then-user c =
    rw (
      ← c.past_notes-g.ensures,
      ← c.find_here-date.ensures,
      c.if-date.false,
      ← c.find_here-time.ensures,
      c.if-time.false,
      ← c.find_here-origin.ensures,
    ) (rw (
      c.if-origin.false,
      ← c.find_here-user.ensures,
      c.if-user.true,
    ))

pub returns-then-standard : goal.returns-then-standard
unfolding item_at statement_found
returns-then-standard c =
    rw (
      ← c.past_notes-g.ensures,
      ← c.find_here-date.ensures,
      c.if-date.false,
      ← c.find_here-time.ensures,
      c.if-time.false,
      ← c.find_here-origin.ensures,
    ) (rw (
      c.if-origin.false,
      ← c.find_here-user.ensures,
      c.if-user.false,
      ← c.find_here-standard.ensures,
      c.if-standard.true,
    ))

pub returns : goal.returns
unfolding item_at statement_found
returns c =
    rw (
      ← c.past_notes-g.ensures,
      ← c.find_here-date.ensures,
      c.if-date.false,
      ← c.find_here-time.ensures,
      c.if-time.false,
      ← c.find_here-origin.ensures,
    ) (rw (
      c.if-origin.false,
      ← c.find_here-user.ensures,
      c.if-user.false,
      ← c.find_here-standard.ensures,
      c.if-standard.false,
    ))
