use mathlib.Core.Path.{◌≡◌, refl, sym, ap, ◌∙◌}
use Prim.Native.Nat.{ℕ, ◌+◌, ◌-◌}
use native.Mathlib.Omega.{arith}
use lib.ListN.{length, drop, length-take, length-drop}
use Rattle.lows.specs.Lows.{Clear}
use Rattle.cuts.specs.rule.Records.{records_from}
use Rattle.cuts.specs.Cut.{clear_join, unbroken_plain}
use Rattle.cuts.specs.Records.{part, EndedAt, next_ended, next_unended, next_nothing, over_past}
use Rattle.records.specs.rule.Verdict.{refused}
use Rattle.files.specs.rule.File.{file_said, go_on, is_sound, record_verdict, first_length, records_verdict, sound_with}
use Rattle.files.specs.File.{sound_so_far, records_over, records_unended, records_next, so_far, go_sound, go_same, go_known}
use Rattle.files.specs.File.{verdict_other}
use Rattle.files.specs.Known.{part_known}
use Rattle.files.specs.Passed.{sound_long}
use Rattle.files.proofs.judge_from.Goals as goal
use Rattle.files.proofs.judge_from.Goals.{After-first_length-first, After-goes_on, After-judge_known-j, After-low_from-low, In-Ended}

-- no byte below 32 stands before the one that was found
clear_here : (c : After-low_from-low)
    → Clear c.args.d.now c.loop-from.from c.low_from-low.result
clear_here c = clear_join (c.loop-from.invariant.3 c.loop-from-test.true) c.low_from-low.ensures.clear

-- what was found of the record that starts here
ended : (c : In-Ended)
    → let a = c.args in
    let from = c.loop-from.from in
    EndedAt a.d.now a.w from (records_from a.w (drop from a.d.now)) c.in-Ended.start
    c.in-Ended.end
    c.in-Ended.next
ended c =
    let args = c.args in
    next_ended args.d.now args.w c.loop-from.from (sym c.next_behind.ensures ∙ c.in-Ended.is)

-- the record's bytes and their length
bytes_length : (c : After-first_length-first)
    → length (part c.args.d.now
    c.loop-from.from c.in-Ended.end)
    ≡ c.in-Ended.end - c.in-Ended.start
bytes_length c =
    let e = ended (goal.at.After-first_length-first c).In-Ended in
    rw (length-take, length-drop) (omega arith)

-- the first record's length is known then
first_here : (c : After-first_length-first) → let l = c.loop-from in
    c.first_length-first.result ≡ first_length l.n l.first
    (length (part c.args.d.now l.from
    c.in-Ended.end))
first_here c =
    c.first_length-first.ensures ∙ ap (first_length c.loop-from.n c.loop-from.first) (sym (bytes_length c))

-- it is as long as the first, and what it is judged to be
judged : (c : After-judge_known-j)
    → let a = c.args in
    let l = c.loop-from in
    let r = part a.d.now l.from c.in-Ended.end in
    file_said c.judge_known-j.result
    ≡ go_on (record_verdict a.t.now (first_length l.n l.first (length r)) r) l.n (sound_with (l.n + 1))
judged c =
    let a = c.args in
    let l = c.loop-from in
    let e = c.in-Ended.end in
    let r = part a.d.now l.from e in
    c.judge_known-j.ensures ∙ ap (λ (s : ℕ). go_on (record_verdict a.t.now (length (part a.d.now s e)) (part a.d.now s e)) l.n
    (sound_with (l.n + 1))) (ended (goal.at.After-judge_known-j c).In-Ended).starts
    ∙ ap (λ (f : ℕ). go_on (record_verdict a.t.now f r) l.n (sound_with (l.n + 1)))
    (bytes_length (goal.at.After-judge_known-j c).After-first_length-first ∙ c.if-end-start.false
    ∙ first_here (goal.at.After-judge_known-j c).After-first_length-first)

-- the file goes on where the record is sound
going : (c : After-goes_on)
    → let a = c.args in
    let l = c.loop-from in
    let r = part a.d.now l.from c.in-Ended.end in
    c.goes_on.result ≡ is_sound (record_verdict a.t.now (first_length l.n l.first (length r)) r)
going c =
    let a = c.args in
    let l = c.loop-from in
    let r = part a.d.now l.from c.in-Ended.end in
    c.goes_on.ensures ∙ ap sound_so_far (judged (goal.at.After-goes_on c).After-judge_known-j)
    ∙ so_far (record_verdict a.t.now (first_length l.n l.first (length r)) r) l.n

pub loop-from-init : goal.loop-from-init
loop-from-init c = (omega (arith, c.requires.ending.1), refl, refl, c.requires.ending.2)

pub next_behind-requires : goal.next_behind-requires
next_behind-requires c = (
  c.requires.ending.0.few,
  unbroken_plain _ _ _ _ c.requires.ending.0.low (clear_here c),
)

pub returns-then-end-start : goal.returns-then-end-start
unfolding file_said is_sound
returns-then-end-start c =
    let a = c.args in
    let l = c.loop-from in
    let r = part a.d.now l.from c.in-Ended.end in
    let f = first_length l.n l.first (length r) in
    sym (l.invariant.2 ∙ records_next _ _ _ _ (ended (goal.at.returns-then-end-start c).In-Ended).records
    ∙ go_known (record_verdict a.t.now f r) (refused 31) l.n _
    (verdict_other a.t.now f r (λ q. c.if-end-start.true
    (sym (bytes_length (goal.at.returns-then-end-start c).After-first_length-first) ∙ q
    ∙ sym (first_here (goal.at.returns-then-end-start c).After-first_length-first)))) refl)

pub judge_known-j-requires : goal.judge_known-j-requires
judge_known-j-requires c = record {
  tested = c.requires.tested;
  n_bound = (
    omega arith,
    rw (ended (goal.at.judge_known-j-requires c).In-Ended).starts
        (part_known (clear_here (goal.at.judge_known-j-requires c).After-low_from-low)
        c.low_from-low.ensures.low
        (omega (arith, (ended (goal.at.judge_known-j-requires c).In-Ended).inside))),
  );
  scratch_len_bound = rw c.loop-from.invariant.1
      c.requires.scratch_len_bound;
}

pub returns-then-not-goes_on : goal.returns-then-not-goes_on
returns-then-not-goes_on c =
    let a = c.args in
    let l = c.loop-from in
    let r = part a.d.now l.from c.in-Ended.end in
    judged (goal.at.returns-then-not-goes_on c).After-judge_known-j
    ∙ go_same (record_verdict a.t.now (first_length l.n l.first (length r)) r) l.n _ _
    (sym (going (goal.at.returns-then-not-goes_on c).After-goes_on) ∙ c.if-not-goes_on.true)
    ∙ sym (l.invariant.2 ∙ records_next _ _ _ _ (ended (goal.at.returns-then-not-goes_on c).In-Ended).records)

-- the sound record was long enough, so the first one's length is
pub pass_sound-passed-requires : goal.pass_sound-passed-requires
pass_sound-passed-requires c =
    let e = ended (goal.at.pass_sound-passed-requires c).In-Ended in
    let l = sound_long _ _ _ (sym (going (goal.at.pass_sound-passed-requires c).After-goes_on) ∙ c.if-not-goes_on.false) in record {
      tested = (
        c.requires.tested,
        rw (first_here (goal.at.pass_sound-passed-requires c).After-first_length-first) l,
      );
      ending = (
        c.requires.ending.0,
        omega arith,
        omega (arith, e.starts, e.after, e.next, e.sized),
      );
      scratch_len_bound = rw (c.judge_known-j.auto.scratch
          ∙ c.loop-from.invariant.1)
          c.requires.scratch_len_bound;
    }

pub loop-from-smaller : goal.loop-from-smaller
loop-from-smaller c =
    let e = ended (goal.at.loop-from-smaller c).In-Ended in
    omega (arith, e.starts, e.after, e.inside, e.next, e.sized, c.pass_sound-passed.ensures.on)

pub loop-from-preserved : goal.loop-from-preserved
loop-from-preserved c =
    let a = c.args in
    let l = c.loop-from in
    let r = part a.d.now l.from c.in-Ended.end in
    let p = c.pass_sound-passed.ensures in (
      p.fewer,
      c.pass_sound-passed.auto.scratch ∙ c.judge_known-j.auto.scratch ∙ l.invariant.1,
      l.invariant.2 ∙ records_next _ _ _ _ (ended (goal.at.loop-from-preserved c).In-Ended).records
          ∙ go_sound (record_verdict a.t.now (first_length l.n l.first (length r)) r) l.n _
          (sym (going (goal.at.loop-from-preserved c).After-goes_on)
          ∙ c.if-not-goes_on.false) ∙ ap (λ (f : ℕ). records_verdict a.t.now (l.n + 1) f (records_from a.w
          (drop c.in-Ended.next a.d.now))) (sym
          (first_here (goal.at.loop-from-preserved c).After-first_length-first)) ∙ p.same,
      p.clear,
    )

pub returns-in-Unended : goal.returns-in-Unended
unfolding file_said
returns-in-Unended c =
    let args = c.args in
    let u = next_unended args.d.now args.w c.loop-from.from
    (sym c.next_behind.ensures ∙ c.in-Unended.is) in
    sym (c.loop-from.invariant.2 ∙ records_unended _ _ _ _ u.records)

pub returns-in-Nothing : goal.returns-in-Nothing
unfolding file_said
returns-in-Nothing c =
    let args = c.args in
    let d = args.d.now in
    let w = args.w in
    sym (c.loop-from.invariant.2 ∙ records_over _ _ _ _ (over_past d w c.loop-from.from (next_nothing d w c.loop-from.from
    (sym c.next_behind.ensures ∙ c.in-Nothing.is))))

pub returns : goal.returns
unfolding file_said
returns c = sym (c.loop-from.invariant.2 ∙ records_over _ _ _ _
    (over_past c.args.d.now c.args.w c.loop-from.from
    c.loop-from-test.false))

pub low_from-low-requires : goal.low_from-low-requires
low_from-low-requires c = (c.loop-from.invariant.3 c.loop-from-test.true).within

pub overflow_sub-end : goal.overflow_sub-end
overflow_sub-end c = omega (arith, (ended c).starts, (ended c).after)

pub overflow_sub-end-in-Ended : goal.overflow_sub-end-in-Ended
overflow_sub-end-in-Ended c = omega (
  arith,
  (ended (goal.at.overflow_sub-end-in-Ended c).In-Ended).starts,
  (ended (goal.at.overflow_sub-end-in-Ended c).In-Ended).after,
)

pub shape_of-scratch-then-end-start : goal.shape_of-scratch-then-end-start
shape_of-scratch-then-end-start c = c.loop-from.invariant.1

pub slice_bounds-judge_known-count : goal.slice_bounds-judge_known-count
slice_bounds-judge_known-count c = omega (
  arith,
  (ended (goal.at.slice_bounds-judge_known-count c).In-Ended).starts,
  (ended (goal.at.slice_bounds-judge_known-count c).In-Ended).after,
  (ended (goal.at.slice_bounds-judge_known-count c).In-Ended).inside,
)

pub slice_bounds-judge_known-start : goal.slice_bounds-judge_known-start
slice_bounds-judge_known-start c = omega (
  arith,
  (ended (goal.at.slice_bounds-judge_known-start c).In-Ended).starts,
  (ended (goal.at.slice_bounds-judge_known-start c).In-Ended).after,
  (ended (goal.at.slice_bounds-judge_known-start c).In-Ended).inside,
)

pub slice_bounds-judge_known-end : goal.slice_bounds-judge_known-end
slice_bounds-judge_known-end c = omega (
  arith,
  (ended (goal.at.slice_bounds-judge_known-end c).In-Ended).starts,
  (ended (goal.at.slice_bounds-judge_known-end c).In-Ended).after,
  (ended (goal.at.slice_bounds-judge_known-end c).In-Ended).inside,
)

pub overflow_sub-low : goal.overflow_sub-low
overflow_sub-low c = omega (
  arith,
  (ended (goal.at.overflow_sub-low c).In-Ended).starts,
  (clear_here (goal.at.overflow_sub-low c).After-low_from-low).on,
)

pub shape_of-scratch-then-not-goes_on : goal.shape_of-scratch-then-not-goes_on
shape_of-scratch-then-not-goes_on c = c.judge_known-j.auto.scratch
    ∙ c.loop-from.invariant.1

pub shape_of-scratch-in-Unended : goal.shape_of-scratch-in-Unended
shape_of-scratch-in-Unended c = c.loop-from.invariant.1

pub shape_of-scratch-in-Nothing : goal.shape_of-scratch-in-Nothing
shape_of-scratch-in-Nothing c = c.loop-from.invariant.1

pub shape_of-scratch : goal.shape_of-scratch
shape_of-scratch c = c.loop-from.invariant.1
