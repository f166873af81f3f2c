use Rattle.blocks.proofs.Numbers.{points_differ, points_alike}
use Rattle.blocks.proofs.grown_point.Goals as goal

pub returns-then-b-own : goal.returns-then-b-own
returns-then-b-own c =
    let b = c.args.b in
    rw (← c.own_point-own.ensures)
    (points_differ b.known b.point c.own_point-own.result c.if-b-own.true)

pub returns : goal.returns
returns c =
    let b = c.args.b in
    rw (← c.own_point-own.ensures)
    (points_alike b.known b.point c.own_point-own.result c.if-b-own.false)
