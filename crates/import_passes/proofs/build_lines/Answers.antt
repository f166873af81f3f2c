use mathlib.Core.Path.{ap, ◌∙◌}
use native.Mathlib.Omega.{arith}
use borrow.Rule.Slice.PartMut.{mid_len}
use Prim.Native.Nat.{ℕ, ◌+◌}
use Rattle.import_passes.specs.Passes.{ended_good, ended_faulty, ended_torn}
use Rattle.import_passes.specs.Build.{building_none, building_more, building_all, room_left, not_faulty, not_torn}
use Rattle.import_passes.proofs.build_lines.Goals as goal

pub overflow_add-size : goal.overflow_add-size
overflow_add-size c = omega (arith, c.requires.from_in_bounds.2)

pub loop-init : goal.loop-init
loop-init c = building_none _ _ _ _ c.requires.from_in_bounds.0

pub slice_bounds-slot-end : goal.slice_bounds-slot-end
slice_bounds-slot-end c =
    let p = c.requires in
    room_left c.loop.invariant p.accepted (ap (λ (x : ℕ). x + 2) p.table_known.2) p.from_in_bounds.1 c.loop-test.true

pub take_record-requires : goal.take_record-requires
take_record-requires c =
    let p = c.requires in
    let a = c.loop.auto in
    let r = room_left c.loop.invariant p.accepted (ap (λ (x : ℕ). x + 2) p.table_known.2) p.from_in_bounds.1 c.loop-test.true in
    let l = mid_len c.loop.k (c.loop.k + (c.args.len + 2)) c.loop.out r in record {
      tens = p.tens;
      table_known = p.table_known;
      from_in_bounds = (c.loop.invariant.passing.within, omega (arith, l), p.from_in_bounds.3);
      list_len = (a.list ∙ p.list_len.0, a.room ∙ p.list_len.1, a.spare ∙ p.list_len.2);
    }

pub loop-preserved : goal.loop-preserved
loop-preserved c =
    let p = c.requires in
    building_more c.loop.invariant p.accepted (ap (λ (x : ℕ). x + 2) p.table_known.2) p.from_in_bounds.1 c.loop-test.true
    (ended_good c.args.t.now c.args.d.now c.loop.at _ c.take_record.result c.take_record.ensures c.in-Good.is)

pub returns-in-Refused : goal.returns-in-Refused
returns-in-Refused c =
    not_faulty c.loop.invariant c.requires.accepted c.loop-test.true (ended_faulty c.args.t.now
    c.args.d.now c.loop.at _ c.take_record.result
    c.take_record.ensures c.in-Refused.is)

pub returns-in-Torn : goal.returns-in-Torn
returns-in-Torn c =
    not_torn c.loop.invariant c.requires.accepted c.loop-test.true (ended_torn c.args.t.now
    c.args.d.now c.loop.at _ c.take_record.result
    c.take_record.ensures c.in-Torn.is)

pub returns : goal.returns
returns c = building_all c.loop.invariant c.requires.accepted (omega arith)
