use mathlib.Core.Path.{refl, sym, ◌∙◌}
use native.Mathlib.Omega.{arith}
use Prim.Native.Nat.{◌-◌, ◌≤◌, ◌<◌}
use lib.ListN.{length, drop}
use Rattle.csv_fields.specs.rule.Page.{page, fresh}
use Rattle.csv_fields.specs.Page.{Met, cut_torn, span_met, span_from}
use Rattle.field_judges.specs.Judged.{standing_bounded}
use Rattle.import_lines.specs.Walk.{walking_none, walking_more, walking_last, walking_torn, raw_of}
use Rattle.import_lines.specs.Judge.{field_met, whole_judged}
use Rattle.import_lines.proofs.judge_line.Goals as goal
use Rattle.import_lines.proofs.judge_line.Goals.{Else-span}

-- the field that was met
met : (c : Else-span) → let d = c.args.d.now in
    let s = c.span_of-span.result in
    Met d (page fresh (drop c.loop-span.at d)) c.loop-span.at s.from s.to s.bare s.next s.ends
met c = span_met _ c.cut_at.result c.cut_at.ensures.cut_as c.span_of-span.ensures c.if-span.false

-- it leads on
fewer : (c : Else-span) → let n = length c.args.d.now in
    n - c.span_of-span.result.next < n - c.loop-span.at
fewer c = omega (arith, (met c).ahead, (met c).inside')

beyond : (c : Else-span) → c.args.from < c.span_of-span.result.next
beyond c = omega (arith, (met c).ahead, c.loop-span.invariant.0.walking.on)

counted : (c : Else-span) → c.loop-span.j < length c.args.d.now
counted c = omega (arith, (met c).ahead, (met c).inside', c.loop-span.invariant.0.walking.on)

room : (c : Else-span) → c.args.len ≤ length c.loop-span.bytes
room c = omega (
  arith,
  c.loop-span.invariant.4,
  c.requires.from_in_bounds.1,
)

pub loop-span-init : goal.loop-span-init
loop-span-init c =
    let p = c.requires in
    (record { bytes = _; walking = walking_none _ _ _ _ _ p.from_in_bounds.0 }, p.list_len.0, p.list_len.1, p.list_len.2, refl)

pub judge_field-end-requires : goal.judge_field-end-requires
judge_field-end-requires c =
    let p = c.requires in (p.table_known.0, c.loop-span.invariant.0.walking.within, p.from_in_bounds.2)

pub cut_at-requires : goal.cut_at-requires
cut_at-requires c = (c.loop-span.invariant.0.walking.within, λ z. standing_bounded (c.judge_field-end.ensures z).standing)

pub overflow_add-result : goal.overflow_add-result
overflow_add-result c = let i = c.loop-span.invariant.0.walking in
    omega (
      arith,
      i.on,
      i.within,
      c.well_formed.1.1.1.1.1.0,
    )

pub shape_of-list-then-span : goal.shape_of-list-then-span
shape_of-list-then-span c = c.loop-span.invariant.1
    ∙ sym c.requires.list_len.0

pub shape_of-room-then-span : goal.shape_of-room-then-span
shape_of-room-then-span c = c.loop-span.invariant.2
    ∙ sym c.requires.list_len.1

pub shape_of-spare-then-span : goal.shape_of-spare-then-span
shape_of-spare-then-span c = c.loop-span.invariant.3
    ∙ sym c.requires.list_len.2

pub shape_of-bytes-then-span : goal.shape_of-bytes-then-span
shape_of-bytes-then-span c = c.loop-span.invariant.4

pub shape_of-list-then-span-2 : goal.shape_of-list-then-span-2
shape_of-list-then-span-2 c =
    c.judge_slow-bad.auto.list ∙ c.loop-span.invariant.1
    ∙ sym c.requires.list_len.0

pub shape_of-room-then-span-2 : goal.shape_of-room-then-span-2
shape_of-room-then-span-2 c =
    c.judge_slow-bad.auto.room ∙ c.loop-span.invariant.2
    ∙ sym c.requires.list_len.1

pub shape_of-spare-then-span-2 : goal.shape_of-spare-then-span-2
shape_of-spare-then-span-2 c =
    c.judge_slow-bad.auto.spare ∙ c.loop-span.invariant.3
    ∙ sym c.requires.list_len.2

pub shape_of-bytes-then-span-2 : goal.shape_of-bytes-then-span-2
shape_of-bytes-then-span-2 c =
    c.judge_slow-bad.auto.bytes ∙ c.loop-span.invariant.4

pub returns-then-span : goal.returns-then-span
returns-then-span c =
    walking_torn c.loop-span.invariant.0.walking
    (cut_torn c.args.d.now c.cut_at.result
    c.cut_at.ensures.cut_as.0 (c.span_of-span.ensures.torn_is c.if-span.true))

pub slice_bounds-judge_slow-count : goal.slice_bounds-judge_slow-count
slice_bounds-judge_slow-count c = omega (arith, (met c).stands.on, (met c).stands.within)

pub slice_bounds-judge_slow-start : goal.slice_bounds-judge_slow-start
slice_bounds-judge_slow-start c = omega (arith, (met c).stands.on, (met c).stands.within)

pub slice_bounds-judge_slow-end : goal.slice_bounds-judge_slow-end
slice_bounds-judge_slow-end c = omega (arith, (met c).stands.on, (met c).stands.within)

pub judge_slow-bad-requires : goal.judge_slow-bad-requires
judge_slow-bad-requires c =
    let p = c.requires in
    let i = c.loop-span.invariant in
    let f = c.judge_field-end.ensures in
    let k = met (goal.at.judge_slow-bad-requires c).Else-span in record {
      tens = p.tens;
      table_known = (p.table_known.0, room (goal.at.judge_slow-bad-requires c).Else-span);
      raw_of = raw_of k.stands;
      list_len = (i.1, i.2, i.3);
      judges = λ z. field_met (p.table_known.0.row _ (f z).some) (f z) k.stands (span_from _ _ c.cut_at.result
          c.span_of-span.ensures c.if-span.false (c.cut_at.ensures.cut_from z));
    }

pub overflow_add-j : goal.overflow_add-j
overflow_add-j c =
    omega (
      arith,
      counted (goal.at.overflow_add-j c).Else-span,
      c.well_formed.1.1.1.1.1.0,
    )

pub line_end-requires : goal.line_end-requires
line_end-requires c = c.requires.table_known.0.few

pub returns-then-span-2 : goal.returns-then-span-2
returns-then-span-2 c =
    let i = c.loop-span.invariant.0 in
    let p = c.requires.table_known in
    let w = walking_last i.walking ((met (goal.at.returns-then-span-2 c).Else-span).last_met c.if-span-2.true)
    (c.judge_slow-bad.ensures i.bytes) in
    rw c.line_end.ensures (whole_judged p.1 p.2 i.walking w (beyond (goal.at.returns-then-span-2 c).Else-span)
    (met (goal.at.returns-then-span-2 c).Else-span).inside')

pub loop-span-smaller : goal.loop-span-smaller
loop-span-smaller c = fewer (goal.at.loop-span-smaller c).Else-span

pub loop-span-preserved : goal.loop-span-preserved
loop-span-preserved c =
    let i = c.loop-span.invariant in
    let l = c.judge_slow-bad.auto in (
      record {
        bytes = _;
        walking = walking_more i.0.walking ((met (goal.at.loop-span-preserved c).Else-span).comma_met c.if-span-2.false)
            (c.judge_slow-bad.ensures i.0.bytes)
            (met (goal.at.loop-span-preserved c).Else-span).ahead;
      },
      l.list ∙ i.1,
      l.room ∙ i.2,
      l.spare ∙ i.3,
      l.bytes ∙ i.4,
    )
