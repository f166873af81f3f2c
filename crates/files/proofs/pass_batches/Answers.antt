use mathlib.Core.Path.{◌≡◌, refl, sym, ◌∙◌}
use Prim.Native.Nat.{ℕ, ◌+◌, ◌*◌, ◌≤◌, ◌<◌}
use native.Mathlib.Nat.{le-mul_of_pos_right}
use native.Mathlib.Omega.{arith}
use Rattle.lows.specs.Lows.{clear_none}
use Rattle.cuts.specs.Records.{part, PlainRun}
use Rattle.records.specs.rule.Verdict.{sound, rows_verdict}
use Rattle.records.specs.Tables.{table_ready}
use Rattle.sound.specs.rule.Rows.{rows_of}
use Rattle.files.specs.rule.File.{is_sound}
use Rattle.files.specs.Tested.{tested_rows}
use Rattle.files.specs.Passed.{SoundNext, sound_next, sound_many}
use Rattle.files.proofs.pass_batches.Goals as goal
use Rattle.files.proofs.pass_batches.Goals.{Else-not-batch_sound}

-- the records that were found, and that they are sound
run : (c : Else-not-batch_sound) → PlainRun
    c.args.d.now c.args.w c.loop-from.from
    c.args.first c.plain_run-count.result
run c = c.plain_run-count.ensures

each : (c : Else-not-batch_sound) → (k : ℕ) → k < c.plain_run-count.result
    → let a = c.args in
    SoundNext a.t.now a.d.now a.w a.first
    (c.loop-from.from + k * (a.first + a.w.size))
unfolding is_sound
each c k l =
    let a = c.args in
    let g = c.requires.tested in
    let at = c.loop-from.from + k * (a.first + a.w.size) in
    let v : rows_verdict a.t.now (rows_of a.t.now) (part a.d.now at (at + a.first)) ≡ sound =
    rw (tested_rows g.0) at (c.batch_sound.ensures c.if-not-batch_sound.false k l) in
    sound_next a.t.now a.d.now a.w a.first at ((run c).each k l) g.1 (sym v) refl

-- they take a byte each at least
bytes : (c : Else-not-batch_sound) → c.plain_run-count.result
    ≤ c.plain_run-count.result *
    (c.args.first + c.args.w.size)
bytes c = le-mul_of_pos_right c.plain_run-count.result (omega arith)

pub loop-from-init : goal.loop-from-init
loop-from-init c = let p = c.requires.ending in
    (refl, p.1, record { on = omega arith; more = omega arith; fewer = p.2; clear = λ l. clear_none _ _ (omega arith); same = refl })

pub plain_run-count-requires : goal.plain_run-count-requires
plain_run-count-requires c = record {
  ending = (c.requires.ending.0, omega arith);
  size_in_bounds = (omega arith, omega arith);
}

pub batch_sound-requires : goal.batch_sound-requires
batch_sound-requires c =
    let a = c.args in
    let g = c.requires.tested in
    let run = c.plain_run-count.ensures in
    let f = c.requires.ending.0.few in record {
      table_ready = rw (tested_rows g.0) (table_ready a.t.now g.0.good a.first g.1);
      standing = (record { near = omega arith; inside = λ k l. (run.each k l).inside }, λ k l. (run.each k l).plain);
      scratch_len_bound = rw c.loop-from.invariant.0 c.requires.scratch_len_bound;
    }

pub loop-from-preserved : goal.loop-from-preserved
loop-from-preserved c =
    let l = c.loop-from in
    let a = c.args in
    let p = l.invariant.2 in
    let h = bytes c in (
      c.batch_sound.auto.scratch ∙ l.invariant.0,
      omega arith,
      record {
        on = omega (arith, p.on);
        more = omega (arith, p.more);
        fewer = omega (arith, p.fewer);
        clear = λ m. clear_none _ _ (omega arith);
        same = p.same ∙ sound_many a.t.now a.d.now a.w a.first l.from l.n l.invariant.1 _ (each c);
      },
    )

pub overflow_add-step : goal.overflow_add-step
overflow_add-step c = omega (arith, c.requires.ending.0.few)

pub shape_of-scratch-then-count-eq0 : goal.shape_of-scratch-then-count-eq0
shape_of-scratch-then-count-eq0 c = c.loop-from.invariant.0

pub returns-then-count-eq0 : goal.returns-then-count-eq0
returns-then-count-eq0 c = c.loop-from.invariant.2

pub shape_of-scratch-then-not-batch_sound : goal.shape_of-scratch-then-not-batch_sound
shape_of-scratch-then-not-batch_sound c = c.batch_sound.auto.scratch
    ∙ c.loop-from.invariant.0

pub returns-then-not-batch_sound : goal.returns-then-not-batch_sound
returns-then-not-batch_sound c = c.loop-from.invariant.2

pub overflow_mul-from : goal.overflow_mul-from
overflow_mul-from c = let h = (run c).reach in omega arith

pub overflow_add-from : goal.overflow_add-from
overflow_add-from c = let h = (run c).reach in omega arith

pub overflow_add-n : goal.overflow_add-n
overflow_add-n c = let h = (run c).reach in let b = bytes c in
    let f = c.loop-from.invariant.2.fewer in omega arith

pub loop-from-smaller : goal.loop-from-smaller
loop-from-smaller c = let h = (run c).reach in let b = bytes c in omega arith

pub shape_of-scratch : goal.shape_of-scratch
shape_of-scratch c = c.loop-from.invariant.0

pub returns : goal.returns
returns c = c.loop-from.invariant.2
