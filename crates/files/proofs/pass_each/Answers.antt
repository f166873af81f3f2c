use mathlib.Core.Path.{◌≡◌, refl, sym, ◌∙◌}
use Prim.Native.Nat.{◌+◌, ◌≤◌}
use native.Mathlib.Omega.{arith}
use lib.ListN.{length}
use Rattle.lows.specs.Lows.{clear_none}
use Rattle.cuts.specs.Records.{part, PlainNext, next_ended}
use Rattle.records.specs.rule.Verdict.{sound, rows_verdict}
use Rattle.records.specs.Tables.{TableReady, table_ready}
use Rattle.sound.specs.rule.Rows.{rows_of}
use Rattle.files.specs.rule.File.{is_sound}
use Rattle.files.specs.Tested.{tested_rows}
use Rattle.files.specs.Known.{plain_clear}
use Rattle.files.specs.Passed.{SoundNext, passed_none, sound_next, sound_on}
use Rattle.files.proofs.pass_each.Goals as goal
use Rattle.files.proofs.pass_each.Goals.{Else-not-next_plain, Else-not-plain_sound}

found : (c : Else-not-next_plain) → let a = c.args in
    PlainNext a.d.now a.w c.loop-from.from a.first
found c = c.next_plain.ensures c.if-not-next_plain.false

-- a terminator was passed
sized : (c : Else-not-next_plain) → 1 ≤ c.args.w.size
sized c =
    let args = c.args in
    (next_ended args.d.now args.w c.loop-from.from (found c).ends).sized

sound_here : (c : Else-not-plain_sound)
    → let a = c.args in
    SoundNext a.t.now a.d.now a.w a.first
    c.loop-from.from
unfolding is_sound
sound_here c =
    let a = c.args in
    let g = c.requires.tested in
    let from = c.loop-from.from in
    let v : rows_verdict a.t.now (rows_of a.t.now) (part a.d.now from (from + a.first)) ≡ sound =
    rw (tested_rows g.0) at (c.plain_sound.ensures c.if-not-plain_sound.false) in
    sound_next a.t.now a.d.now a.w a.first from (found (goal.at.Else-not-plain_sound c).Else-not-next_plain) g.1 (sym v) refl

pub loop-from-init : goal.loop-from-init
loop-from-init c = let p = c.requires.ending in (refl, p.1, passed_none _ _ _ _ _ _ p.2)

pub plain_sound-requires : goal.plain_sound-requires
plain_sound-requires c =
    let a = c.args in
    let g = c.requires.tested in
    let p = found (goal.at.plain_sound-requires c).Else-not-next_plain in
    let from = c.loop-from.from in
    let r : TableReady a.t.now a.h.rows (length (part a.d.now from (from + a.first))) =
    rw (p.long, tested_rows g.0) (table_ready a.t.now g.0.good a.first g.1) in record {
      table_ready = r;
      plain = p.plain;
      scratch_len_bound = rw c.loop-from.invariant.0 c.requires.scratch_len_bound;
    }

pub returns-then-not-plain_sound : goal.returns-then-not-plain_sound
returns-then-not-plain_sound c = let p = c.loop-from.invariant.2 in record {
  on = p.on;
  more = p.more;
  fewer = p.fewer;
  clear = λ l. plain_clear (found (goal.at.returns-then-not-plain_sound c).Else-not-next_plain);
  same = p.same;
}

pub loop-from-preserved : goal.loop-from-preserved
loop-from-preserved c =
    let a = c.args in
    let l = c.loop-from in
    let p = l.invariant.2 in (
      c.plain_sound.auto.scratch ∙ l.invariant.0,
      omega arith,
      record {
        on = omega (arith, p.on);
        more = omega (arith, p.more);
        fewer = omega (arith, p.fewer, sized (goal.at.loop-from-preserved c).Else-not-next_plain);
        clear = λ m. clear_none _ _ (omega arith);
        same = p.same ∙ sound_on a.t.now a.d.now a.w a.first l.from l.n l.invariant.1
            (sound_here (goal.at.loop-from-preserved c).Else-not-plain_sound);
      },
    )

pub next_plain-requires : goal.next_plain-requires
next_plain-requires c = record {
  ending = c.requires.ending.0;
  from_in_bounds = omega arith;
}

pub shape_of-scratch-then-not-next_plain : goal.shape_of-scratch-then-not-next_plain
shape_of-scratch-then-not-next_plain c = c.loop-from.invariant.0

pub returns-then-not-next_plain : goal.returns-then-not-next_plain
returns-then-not-next_plain c = c.loop-from.invariant.2

pub overflow_add-end : goal.overflow_add-end
overflow_add-end c = let h = (found c).inside in omega arith

pub slice_bounds-plain_sound-end : goal.slice_bounds-plain_sound-end
slice_bounds-plain_sound-end c = let h = (found c).inside in omega arith

pub shape_of-scratch-then-not-plain_sound : goal.shape_of-scratch-then-not-plain_sound
shape_of-scratch-then-not-plain_sound c = c.plain_sound.auto.scratch
    ∙ c.loop-from.invariant.0

pub overflow_add-from : goal.overflow_add-from
overflow_add-from c = let h = (found (goal.at.overflow_add-from c).Else-not-next_plain).inside in
    omega (
      arith,
      c.requires.ending.0.few,
    )

pub overflow_add-n : goal.overflow_add-n
overflow_add-n c = let h = c.loop-from.invariant.2.fewer in omega arith

pub loop-from-smaller : goal.loop-from-smaller
loop-from-smaller c = omega (arith, sized (goal.at.loop-from-smaller c).Else-not-next_plain)

pub shape_of-scratch : goal.shape_of-scratch
shape_of-scratch c = c.loop-from.invariant.0

pub returns : goal.returns
returns c = c.loop-from.invariant.2
