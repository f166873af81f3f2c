use Rattle.tokens.specs.Gap.{spaces_on}
use mathlib.Core.Path.{sym}
use Rattle.tokens.proofs.spaces_on.Goals as goal

pub returns-in-Ok : goal.returns-in-Ok
unfolding spaces_on
returns-in-Ok c =
    rw (
      c.in-Ok.is,
      sym c.spaces-m.ensures,
      sym c.place_at.ensures,
    )

pub returns-in-Err : goal.returns-in-Err
unfolding spaces_on
returns-in-Err c =
    rw c.in-Err.is
