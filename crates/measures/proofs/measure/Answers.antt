use mathlib.Core.Path.{◌≡◌, sym, ◌∙◌}
use Rattle.measures.specs.Width.{number_in}
use Rattle.measures.proofs.Measures.{plain_width, width_plain, wide_few, placed_wide, measured_yes, measured_not}
use Rattle.measures.proofs.measure.Goals as goal
use Rattle.measures.proofs.measure.Goals.{After-with_width-full}

width_here : (c : After-with_width-full) → c.width_of-w.result
    ≡ plain_width c.args.h c.args.r
    c.args.before
    (number_in c.args.room.now c.args.before)
width_here c =
    let a = c.args in
    width_plain a.room.now a.h a.r a.before c.requires.measurable _ _ _
    c.plain_columns-c.ensures c.of.ensures c.width_of-w.ensures

pub width_of-w-requires : goal.width_of-w-requires
width_of-w-requires c =
    let p = c.requires in record {
      tens = p.tens;
      ready = rw (c.of.ensures, c.plain_columns-c.ensures) p.measurable.ready;
    }

pub room_good-requires : goal.room_good-requires
room_good-requires c =
    let a = c.args in
    let m = c.requires.measurable in
    rw (c.of-2.ensures, c.with_width-full.ensures, c.plain_columns-c.ensures) (
      placed_wide a.room.now a.h a.r a.before m _,
      wide_few a.room.now a.h a.r a.before m _ (width_here (goal.at.room_good-requires c).After-with_width-full),
    )

pub returns-then-room_good : goal.returns-then-room_good
returns-then-room_good c =
    let a = c.args in
    measured_yes _ a.h a.r a.before _ _ _
    c.plain_columns-c.ensures (width_here (goal.at.returns-then-room_good c).After-with_width-full) c.with_width-full.ensures
    (rw c.of-2.ensures at (sym c.room_good.ensures ∙ c.if-room_good.true))

pub returns : goal.returns
returns c =
    let a = c.args in
    measured_not _ a.h a.r a.before _ _ _
    c.plain_columns-c.ensures (width_here (goal.at.returns c).After-with_width-full) c.with_width-full.ensures
    (rw c.of-2.ensures at (sym c.room_good.ensures ∙ c.if-room_good.false))
