use mathlib.Core.Path.{◌≡◌, sym, ◌∙◌}
use native.Mathlib.Omega.{arith}
use Prim.Native.Nat.{◌<◌}
use lib.ListN.{length}
use Rattle.import_passes.specs.Passes.{judging_none, judging_more, judging_over, passing_faulty, passing_torn, judged_good}
use Rattle.import_passes.specs.Passes.{judged_faulty, judged_torn}
use Rattle.import_passes.proofs.judge_lines.Goals as goal
use Rattle.import_passes.proofs.judge_lines.Goals.{After-judge_line}

-- behind a line that was judged: so many records stand before it, and each room is as long as it came
fewer : (c : After-judge_line) → c.loop-at.n
    < length c.args.d.now
fewer c = omega (
  arith,
  c.loop-at.invariant.0.passing.on,
  c.loop-at-test.true,
)

list_kept : (c : After-judge_line) → length c.judge_line.new.list
    ≡ length c.args.list.now
list_kept c = c.judge_line.auto.list ∙ c.loop-at.invariant.1
    ∙ sym c.requires.list_len.0

room_kept : (c : After-judge_line) → length c.judge_line.new.room
    ≡ length c.args.room.now
room_kept c = c.judge_line.auto.room ∙ c.loop-at.invariant.2
    ∙ sym c.requires.list_len.1

spare_kept : (c : After-judge_line) → length c.judge_line.new.spare
    ≡ length c.args.spare.now
spare_kept c = c.judge_line.auto.spare ∙ c.loop-at.invariant.3
    ∙ sym c.requires.list_len.2

slot_kept : (c : After-judge_line) → length c.judge_line.new.bytes
    ≡ length c.args.slot.now
slot_kept c = c.judge_line.auto.bytes ∙ c.loop-at.invariant.4
    ∙ sym c.requires.from_in_bounds.1

pub loop-at-init : goal.loop-at-init
loop-at-init c = let p = c.requires in (
  judging_none _ _ _ p.from_in_bounds.0,
  p.list_len.0,
  p.list_len.1,
  p.list_len.2,
  p.from_in_bounds.1,
)

pub judge_line-requires : goal.judge_line-requires
judge_line-requires c =
    let i = c.loop-at.invariant in record {
      tens = c.requires.tens;
      table_known = c.requires.table_known;
      from_in_bounds = (i.0.passing.within, omega (arith, i.4), c.requires.from_in_bounds.2);
      list_len = (i.1, i.2, i.3);
    }

pub overflow_add-n : goal.overflow_add-n
overflow_add-n c = omega (
  arith,
  fewer (goal.at.overflow_add-n c).After-judge_line,
  c.well_formed.1.1.1.1.1.0,
)

pub loop-at-smaller : goal.loop-at-smaller
loop-at-smaller c =
    let k = judged_good c.args.t.now c.args.d.now c.loop-at.at c.judge_line.result c.judge_line.ensures c.in-Good.is in
    omega (
      arith,
      k.good.ahead,
      c.loop-at-test.true,
    )

pub loop-at-preserved : goal.loop-at-preserved
loop-at-preserved c =
    let args = c.args in
    let i = c.loop-at.invariant in
    let k = judged_good args.t.now args.d.now c.loop-at.at c.judge_line.result
    c.judge_line.ensures c.in-Good.is in
    let l = c.judge_line.auto in (
      judging_more i.0 c.loop-at-test.true k,
      l.list ∙ i.1,
      l.room ∙ i.2,
      l.spare ∙ i.3,
      l.bytes ∙ i.4,
    )

pub overflow_add-result : goal.overflow_add-result
overflow_add-result c = omega (
  arith,
  fewer (goal.at.overflow_add-result c).After-judge_line,
  c.well_formed.1.1.1.1.1.0,
)

pub shape_of-list-in-Refused : goal.shape_of-list-in-Refused
shape_of-list-in-Refused c = list_kept (goal.at.shape_of-list-in-Refused c).After-judge_line

pub shape_of-room-in-Refused : goal.shape_of-room-in-Refused
shape_of-room-in-Refused c = room_kept (goal.at.shape_of-room-in-Refused c).After-judge_line

pub shape_of-spare-in-Refused : goal.shape_of-spare-in-Refused
shape_of-spare-in-Refused c = spare_kept (goal.at.shape_of-spare-in-Refused c).After-judge_line

pub shape_of-slot-in-Refused : goal.shape_of-slot-in-Refused
shape_of-slot-in-Refused c = slot_kept (goal.at.shape_of-slot-in-Refused c).After-judge_line

pub returns-in-Refused : goal.returns-in-Refused
returns-in-Refused c =
    let args = c.args in
    passing_faulty c.loop-at.invariant.0.passing c.loop-at-test.true (judged_faulty args.t.now args.d.now
    c.loop-at.at c.judge_line.result c.judge_line.ensures
    c.in-Refused.is)

pub overflow_add-result-in-Torn : goal.overflow_add-result-in-Torn
overflow_add-result-in-Torn c = omega (
  arith,
  fewer (goal.at.overflow_add-result-in-Torn c).After-judge_line,
  c.well_formed.1.1.1.1.1.0,
)

pub shape_of-list-in-Torn : goal.shape_of-list-in-Torn
shape_of-list-in-Torn c = list_kept (goal.at.shape_of-list-in-Torn c).After-judge_line

pub shape_of-room-in-Torn : goal.shape_of-room-in-Torn
shape_of-room-in-Torn c = room_kept (goal.at.shape_of-room-in-Torn c).After-judge_line

pub shape_of-spare-in-Torn : goal.shape_of-spare-in-Torn
shape_of-spare-in-Torn c = spare_kept (goal.at.shape_of-spare-in-Torn c).After-judge_line

pub shape_of-slot-in-Torn : goal.shape_of-slot-in-Torn
shape_of-slot-in-Torn c = slot_kept (goal.at.shape_of-slot-in-Torn c).After-judge_line

pub returns-in-Torn : goal.returns-in-Torn
returns-in-Torn c =
    let args = c.args in
    passing_torn c.loop-at.invariant.0.passing c.loop-at-test.true
    (judged_torn args.t.now args.d.now c.loop-at.at c.judge_line.result c.judge_line.ensures c.in-Torn.is)

pub shape_of-list : goal.shape_of-list
shape_of-list c = c.loop-at.invariant.1 ∙ sym c.requires.list_len.0

pub shape_of-room : goal.shape_of-room
shape_of-room c = c.loop-at.invariant.2 ∙ sym c.requires.list_len.1

pub shape_of-spare : goal.shape_of-spare
shape_of-spare c = c.loop-at.invariant.3 ∙ sym c.requires.list_len.2

pub shape_of-slot : goal.shape_of-slot
shape_of-slot c = c.loop-at.invariant.4 ∙ sym c.requires.from_in_bounds.1

pub returns : goal.returns
returns c = judging_over c.loop-at.invariant.0 c.loop-at-test.false
