-- `files::judge_tested` meets its contract: the file's verdict by its first record, and then by the others.
use mathlib.Core.Path.{◌≡◌, refl, sym, ap, ◌∙◌}
use mathlib.Core.List.{List}
use Prim.Native.Nat.{ℕ, ◌≤◌, ◌<◌, ◌-◌}
use native.Mathlib.Omega.{arith}
use borrow.Author.Rules.{rules}
use lib.ListN.{length, drop, length-take, length-drop}
use Rattle.cuts.specs.rule.Records.{records_from}
use Rattle.cuts.specs.Cut.{found_ending, unbroken_plain}
use Rattle.cuts.specs.Records.{part, EndedAt, next_ended, next_unended, next_nothing, over_past}
use Rattle.sound.specs.rule.Rows.{rows_of, length_of}
use Rattle.readings.specs.Ready.{Plain}
use Rattle.records.proofs.Laws.{first_inside}
use Rattle.records.specs.rule.First.{first_from, bad_row, row_fault}
use Rattle.records.specs.rule.Verdict.{judged_as, sound, refused, low_byte, bad_field}
use Rattle.records.specs.Tables.{TableReady, table_ready}
use Rattle.files.specs.rule.File.{file_said, go_on, is_sound, record_verdict, records_verdict, file_verdict}
use Rattle.files.specs.File.{file_found, records_over, records_unended, go_sound, go_known, verdict_short, verdict_rows}
use Rattle.files.specs.Known.{LowKnown, part_known, known_plain, known_low, row_refused, rows_sound, first_of_lem}
use Rattle.files.specs.rule.Tested.{Tested}
use Rattle.files.specs.Tested.{tested_rows, tested_length}
use Rattle.files.proofs.judge_tested.Goals as goal
use Rattle.files.proofs.judge_tested.Goals.{After-illegal_row, Else-end-h, Else-low-end, In-Some, In-Ended}

-- the first record
abbrev first_in : List ℕ → ℕ → List ℕ
first_in d e = part d 0 e

tested : (c : In-Ended) → Tested c.args.t.now
    c.read-h.result
tested c =
    record {
      good = c.requires;
      head = c.read-h.ensures;
    }

ended : (c : In-Ended) → let d = c.args.d.now in
    let w = c.terminator_behind-w.result in
    EndedAt d w 0 (records_from w d) c.in-Ended.start c.in-Ended.end
    c.in-Ended.next
ended c = next_ended c.args.d.now
    c.terminator_behind-w.result 0
    (sym c.next_behind.ensures ∙ c.in-Ended.is)

size : (c : In-Ended) → length (first_in c.args.d.now
    c.in-Ended.end) ≡ c.in-Ended.end
size c = let i = (ended c).inside in rw (length-take, length-drop) (omega arith)

-- the file's verdict goes by that on its first record
whole : (c : In-Ended) → let a = c.args in
    let r = first_in a.d.now c.in-Ended.end in
    file_verdict a.t.now a.d.now ≡ go_on (record_verdict a.t.now (length r) r) 0 (records_verdict a.t.now 1 (length r)
    (records_from c.terminator_behind-w.result (drop c.in-Ended.next a.d.now)))
whole c =
    sym (file_found c.args.t.now c.requires c.terminator_behind-w.ensures)
    ∙ first_of_lem c.args.t.now c.args.d.now c.terminator_behind-w.result (ended c)

known : (c : In-Ended) → LowKnown (first_in c.args.d.now
    c.in-Ended.end) c.low_from-low.result
known c =
    let z : c.low_from-low.result - 0
    ≡ c.low_from-low.result = omega arith in
    let i = (ended c).inside in
    rw z at (part_known {end = c.in-Ended.end} c.low_from-low.ensures.clear
    c.low_from-low.ensures.low (omega arith))

-- it is long enough
long : (c : Else-end-h)
    → length_of c.args.t.now
    ≤ length (first_in
    c.args.d.now
    c.in-Ended.end)
long c = rw (size (goal.at.Else-end-h c).In-Ended) (rw (← tested_length (tested (goal.at.Else-end-h c).In-Ended)) c.if-end-h.false)

-- no byte of it is below 32, and every row is ready
plain : (c : Else-low-end)
    → Plain (first_in
    c.args.d.now
    c.in-Ended.end)
plain c = known_plain (known (goal.at.Else-low-end c).In-Ended) (rw (size (goal.at.Else-low-end c).In-Ended) c.if-low-end.false)

ready : (c : Else-low-end)
    → TableReady
    c.args.t.now
    c.read-h.result.rows
    (length (first_in
    c.args.d.now
    c.in-Ended.end))
ready c =
    rw (tested_rows (tested (goal.at.Else-low-end c).In-Ended))
    (table_ready c.args.t.now c.requires _ (long (goal.at.Else-low-end c).Else-end-h))

-- what was found of its rows
rows_found : (c : After-illegal_row)
    → let d = c.args.d.now in
    let v = c.read-h.result.rows in
    c.illegal_row.result
    ≡ first_from
    (bad_row c.args.t.now v (first_in d c.in-Ended.end)) 0 v
rows_found c =
    let a = c.args in
    let v = c.read-h.result.rows in
    c.illegal_row.ensures ∙ ap (λ (s : ℕ). first_from
    (bad_row a.t.now v (part a.d.now s c.in-Ended.end)) 0 v)
    (ended (goal.at.After-illegal_row c).In-Ended).starts

inside : (c : In-Some) → c.in-Some.i
    < c.read-h.result.rows
inside c = let h = first_inside _ _ _ _ (sym (rows_found (goal.at.In-Some c).After-illegal_row) ∙ c.in-Some.is) in omega arith

pub next_behind-requires : goal.next_behind-requires
next_behind-requires c = (
  c.terminator_behind-w.ensures.few,
  unbroken_plain _ _ _ _ (found_ending c.terminator_behind-w.ensures).low c.low_from-low.ensures.clear,
)

pub returns-then-end-h : goal.returns-then-end-h
unfolding file_said judged_as is_sound
returns-then-end-h c =
    let args = c.args in
    let t = args.t.now in
    let r = first_in args.d.now c.in-Ended.end in
    let s : length r < length_of t = rw (size (goal.at.returns-then-end-h c).In-Ended)
    (rw (← tested_length (tested (goal.at.returns-then-end-h c).In-Ended)) c.if-end-h.true) in
    record {
      says = sym (whole (goal.at.returns-then-end-h c).In-Ended
          ∙ go_known (record_verdict t (length r) r) (refused 22) 0 _ (verdict_short t (length r) r refl s) refl);
    }

pub returns-then-low-end : goal.returns-then-low-end
unfolding file_said judged_as is_sound
returns-then-low-end c =
    let args = c.args in
    let t = args.t.now in
    let r = first_in args.d.now c.in-Ended.end in
    let low = c.low_from-low.result in
    let b : low < length r = rw (size (goal.at.returns-then-low-end c).In-Ended) c.if-low-end.true in
    record {
      says = sym (whole (goal.at.returns-then-low-end c).In-Ended ∙ go_known (record_verdict t (length r) r) (low_byte low) 0 _
          (verdict_rows t (length r) r refl (long (goal.at.returns-then-low-end c).Else-end-h)
          ∙ known_low t (rows_of t) (known (goal.at.returns-then-low-end c).In-Ended) b) refl);
    }

pub illegal_row-requires : goal.illegal_row-requires
illegal_row-requires c = rw (ended (goal.at.illegal_row-requires c).In-Ended).starts (record {
  table_ready = ready (goal.at.illegal_row-requires c).Else-low-end;
  plain = plain (goal.at.illegal_row-requires c).Else-low-end;
  scratch_len_bound = search rules;
})

pub read-requires : goal.read-requires
read-requires c =
    let f = (ready (goal.at.read-requires c).Else-low-end).few in
    let s = (ready (goal.at.read-requires c).Else-low-end).stand in
    let l = inside c in (omega arith, omega arith)

pub row_fault-x-requires : goal.row_fault-x-requires
row_fault-x-requires c = rw (
  c.read.ensures,
  (ended (goal.at.row_fault-x-requires c).In-Ended).starts,
) ((ready (goal.at.row_fault-x-requires c).Else-low-end).row c.in-Some.i
    (inside (goal.at.row_fault-x-requires c).In-Some))

pub returns-in-Some : goal.returns-in-Some
unfolding file_said judged_as is_sound
returns-in-Some c =
    let args = c.args in
    let t = args.t.now in
    let v = c.read-h.result.rows in
    let i = c.in-Some.i in
    let r = first_in args.d.now c.in-Ended.end in
    let e : row_fault t v r i ≡ c.apart.result =
    sym (c.apart.ensures ∙ c.row_fault-x.ensures ∙ rw (c.read.ensures, (ended (goal.at.returns-in-Some c).In-Ended).starts) refl) in
    let o = row_refused t v r (plain (goal.at.returns-in-Some c).Else-low-end)
    (sym (rows_found (goal.at.returns-in-Some c).After-illegal_row) ∙ c.in-Some.is) in
    record {
      says = sym (whole (goal.at.returns-in-Some c).In-Ended ∙ go_known (record_verdict t (length r) r) (bad_field i c.apart.result) 0 _
          (verdict_rows t (length r) r refl (long (goal.at.returns-in-Some c).Else-end-h)
          ∙ rw (← tested_rows (tested (goal.at.returns-in-Some c).In-Ended)) (o ∙ ap (bad_field i) e)) refl);
    }

pub judge_rest-requires : goal.judge_rest-requires
judge_rest-requires c = record {
  tested = tested (goal.at.judge_rest-requires c).In-Ended;
  ending = found_ending
      c.terminator_behind-w.ensures;
}

pub returns-in-None : goal.returns-in-None
unfolding is_sound
returns-in-None c =
    let args = c.args in
    let t = args.t.now in
    let v = c.read-h.result.rows in
    let r = first_in args.d.now
    c.in-Ended.end in
    let o = rows_sound t v r (plain (goal.at.returns-in-None c).Else-low-end)
    (sym (rows_found (goal.at.returns-in-None c).After-illegal_row) ∙ c.in-None.is) in
    let s : record_verdict t (length r) r ≡ sound = verdict_rows t (length r) r refl
    (long (goal.at.returns-in-None c).Else-end-h)
    ∙ rw (← tested_rows (tested (goal.at.returns-in-None c).In-Ended)) o in
    record {
      says = sym (whole (goal.at.returns-in-None c).In-Ended ∙ go_sound (record_verdict t (length r) r) 0 _ (ap is_sound s)
          ∙ rw (size (goal.at.returns-in-None c).In-Ended) (sym c.judge_rest.ensures));
    }

pub returns-in-Unended : goal.returns-in-Unended
unfolding file_said
returns-in-Unended c =
    let d = c.args.d.now in
    let w = c.terminator_behind-w.result in
    let u = next_unended d w 0 (sym c.next_behind.ensures ∙ c.in-Unended.is) in
    record {
      says = sym (sym (file_found c.args.t.now c.requires
          c.terminator_behind-w.ensures) ∙ records_unended _ _ _ _ u.records);
    }

pub returns-in-Nothing : goal.returns-in-Nothing
unfolding file_said
returns-in-Nothing c =
    let d = c.args.d.now in
    let w = c.terminator_behind-w.result in
    record {
      says = sym (sym (file_found c.args.t.now c.requires
          c.terminator_behind-w.ensures) ∙ records_over _ _ _ _
          (over_past d w 0 (next_nothing d w 0 (sym c.next_behind.ensures ∙ c.in-Nothing.is))));
    }

pub judge_many-requires : goal.judge_many-requires
judge_many-requires c = record { good = c.requires; head = c.read-h.ensures }

pub returns-then-h : goal.returns-then-h
returns-then-h c = c.judge_many.ensures

pub terminator_behind-w-requires : goal.terminator_behind-w-requires
terminator_behind-w-requires c = c.low_from-low.ensures.clear

pub slice_bounds-illegal_row-count : goal.slice_bounds-illegal_row-count
slice_bounds-illegal_row-count c = omega (
  arith,
  (ended (goal.at.slice_bounds-illegal_row-count c).In-Ended).starts,
  (ended (goal.at.slice_bounds-illegal_row-count c).In-Ended).after,
  (ended (goal.at.slice_bounds-illegal_row-count c).In-Ended).inside,
)

pub slice_bounds-illegal_row-start : goal.slice_bounds-illegal_row-start
slice_bounds-illegal_row-start c = omega (
  arith,
  (ended (goal.at.slice_bounds-illegal_row-start c).In-Ended).starts,
  (ended (goal.at.slice_bounds-illegal_row-start c).In-Ended).after,
  (ended (goal.at.slice_bounds-illegal_row-start c).In-Ended).inside,
)

pub slice_bounds-illegal_row-end : goal.slice_bounds-illegal_row-end
slice_bounds-illegal_row-end c = omega (
  arith,
  (ended (goal.at.slice_bounds-illegal_row-end c).In-Ended).starts,
  (ended (goal.at.slice_bounds-illegal_row-end c).In-Ended).after,
  (ended (goal.at.slice_bounds-illegal_row-end c).In-Ended).inside,
)

pub slice_bounds-row_fault-count : goal.slice_bounds-row_fault-count
slice_bounds-row_fault-count c = omega (
  arith,
  (ended (goal.at.slice_bounds-row_fault-count c).In-Ended).starts,
  (ended (goal.at.slice_bounds-row_fault-count c).In-Ended).after,
  (ended (goal.at.slice_bounds-row_fault-count c).In-Ended).inside,
)

pub slice_bounds-row_fault-start : goal.slice_bounds-row_fault-start
slice_bounds-row_fault-start c = omega (
  arith,
  (ended (goal.at.slice_bounds-row_fault-start c).In-Ended).starts,
  (ended (goal.at.slice_bounds-row_fault-start c).In-Ended).after,
  (ended (goal.at.slice_bounds-row_fault-start c).In-Ended).inside,
)

pub slice_bounds-row_fault-end : goal.slice_bounds-row_fault-end
slice_bounds-row_fault-end c = omega (
  arith,
  (ended (goal.at.slice_bounds-row_fault-end c).In-Ended).starts,
  (ended (goal.at.slice_bounds-row_fault-end c).In-Ended).after,
  (ended (goal.at.slice_bounds-row_fault-end c).In-Ended).inside,
)
