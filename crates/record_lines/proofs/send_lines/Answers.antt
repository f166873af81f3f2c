use mathlib.Core.Path.{◌≡◌, refl, sym, ap, ◌∙◌}
use Prim.Native.Nat.{ℕ, ◌+◌, ◌-◌}
use native.Mathlib.Nat.{sub-zero}
use native.Mathlib.Omega.{arith}
use Rattle.cuts.specs.Records.{part, next_ended, next_unended, next_nothing, over_past}
use Rattle.commas.specs.rule.Csv.{line_bytes}
use Rattle.sink.specs.Sent.{all_owed, less_owed, none_owed, sent_as}
use Rattle.record_lines.specs.rule.Lines.{record_line}
use Rattle.record_lines.specs.Lines.{sound_next, lines_next, lines_unended, lines_over, lines_none}
use Rattle.record_lines.proofs.send_lines.Goals as goal

pub loop-init : goal.loop-init
loop-init c = rw sub-zero (c.requires.size_bound.1, all_owed _ _ _ refl)

pub next_from-requires : goal.next_from-requires
next_from-requires c = c.requires.size_bound.0

pub slice_bounds-send_line-count : goal.slice_bounds-send_line-count
slice_bounds-send_line-count c =
    let a = c.args in
    let e = next_ended a.d.now a.w c.loop.from
    (sym c.next_from.ensures ∙ c.in-Ended.is) in
    omega (arith, e.starts, e.after, e.inside)

pub slice_bounds-send_line-start : goal.slice_bounds-send_line-start
slice_bounds-send_line-start c =
    let a = c.args in
    let e = next_ended a.d.now a.w c.loop.from
    (sym c.next_from.ensures ∙ c.in-Ended.is) in
    omega (arith, e.starts, e.after, e.inside)

pub slice_bounds-send_line-end : goal.slice_bounds-send_line-end
slice_bounds-send_line-end c =
    let a = c.args in
    let e = next_ended a.d.now a.w c.loop.from
    (sym c.next_from.ensures ∙ c.in-Ended.is) in
    omega (arith, e.starts, e.after, e.inside)

pub send_line-end-requires : goal.send_line-end-requires
send_line-end-requires c =
    let p = c.requires in
    let e = next_ended c.args.d.now c.args.w c.loop.from
    (sym c.next_from.ensures ∙ c.in-Ended.is) in record {
      ready = record {
        tens = p.ready.tens;
        tested = p.ready.tested;
        list = c.loop.auto.list ∙ p.ready.list;
      };
      full = c.mark_full.ensures;
      sound_record = rw e.starts (sound_next (c.args.n - c.loop.counter) (omega arith) e.records c.loop.invariant.0).0;
    }

pub loop-preserved : goal.loop-preserved
loop-preserved c =
    let i = c.loop.invariant in
    let a = c.args in
    let k = c.loop.counter in
    let less : a.n - k - 1 ≡ a.n - (k + 1) = omega arith in
    let e = next_ended a.d.now a.w c.loop.from (sym c.next_from.ensures
    ∙ c.in-Ended.is) in (
      rw less at (sound_next (c.args.n - c.loop.counter) (omega arith) e.records i.0).1,
      rw less at (less_owed i.1 (lines_next (a.n - k) (omega arith) a.t.now e.records)
          (sent_as c.send_line-end.ensures (ap (λ (x : ℕ). line_bytes (record_line a.t.now
          (part a.d.now x c.in-Ended.stop))) e.starts))),
    )

pub returns-in-Unended : goal.returns-in-Unended
returns-in-Unended c =
    let args = c.args in
    let u = next_unended args.d.now args.w c.loop.from
    (sym c.next_from.ensures ∙ c.in-Unended.is) in
    none_owed c.loop.invariant.1 (lines_unended (args.n - c.loop.counter) (omega arith) args.t.now u.records)

pub returns-in-Nothing : goal.returns-in-Nothing
returns-in-Nothing c =
    let args = c.args in
    let d = args.d.now in
    let w = args.w in
    let o = over_past d w c.loop.from (next_nothing d w c.loop.from
    (sym c.next_from.ensures ∙ c.in-Nothing.is)) in
    none_owed c.loop.invariant.1 (lines_over (args.n - c.loop.counter) (omega arith) args.t.now o)

pub returns : goal.returns
returns c = none_owed c.loop.invariant.1 (lines_none _ _ _ (omega arith))

pub mark_full-requires : goal.mark_full-requires
mark_full-requires c = c.requires.ready.tested
