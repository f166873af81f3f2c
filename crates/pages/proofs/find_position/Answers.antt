use native.Mathlib.Omega.{arith}
use Rattle.pages.specs.Stand.{position_is, position_stands}
use Rattle.pages.proofs.find_position.Goals as goal

pub returns-then-q-gt0 : goal.returns-then-q-gt0
returns-then-q-gt0 c =
    let p = c.pair_line-q.ensures c.if-q-gt0.true in
    let g = c.pass_blanks-from.ensures.0 in
    record { is = position_is _ g p; stands = λ h. position_stands _ g p }

pub returns : goal.returns
returns c = record { is = c.position_at-places.ensures; stands = λ h. absurd (omega arith) }

pub position_at-places-requires : goal.position_at-places-requires
position_at-places-requires c = c.requires
