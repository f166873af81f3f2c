-- `files::judge_known` meets its contract: 22, then 23, then what the rows say.
use mathlib.Core.Path.{◌≡◌, refl, sym, ap, ◌∙◌}
use Prim.Native.Nat.{◌≤◌}
use lib.ListN.{length}
use Rattle.sound.specs.rule.Rows.{length_of}
use Rattle.records.specs.rule.Verdict.{judged_as}
use Rattle.records.specs.Tables.{table_ready}
use Rattle.files.specs.rule.File.{file_said, go_on, is_sound, record_verdict}
use Rattle.files.specs.File.{go_sound, go_fault, verdict_short, verdict_rows}
use Rattle.files.specs.Known.{known_plain, known_low}
use Rattle.files.specs.Tested.{tested_rows, tested_length}
use Rattle.files.proofs.judge_known.Goals as goal
use Rattle.files.proofs.judge_known.Goals.{After-judge_plain-j, Else-bytes-h}

-- the record is long enough
long : (c : Else-bytes-h) → length_of c.args.t.now
    ≤ length c.args.bytes.now
long c = rw (← tested_length c.requires.tested) c.if-bytes-h.false

-- what the rows say is what the record is judged to be
verdict : (c : After-judge_plain-j) → let a = c.args in
    judged_as c.judge_plain-j.result ≡ record_verdict a.t.now (length a.bytes.now) a.bytes.now
verdict c =
    let a = c.args in
    c.judge_plain-j.ensures ∙ rw (tested_rows c.requires.tested) (sym (verdict_rows a.t.now (length a.bytes.now) a.bytes.now refl
    (long (goal.at.After-judge_plain-j c).Else-bytes-h)))

pub returns-then-bytes-h : goal.returns-then-bytes-h
unfolding file_said go_on judged_as
returns-then-bytes-h c =
    let a = c.args in
    rw (verdict_short a.t.now (length a.bytes.now) a.bytes.now refl
    (rw (← tested_length c.requires.tested) c.if-bytes-h.true))

pub returns-then-low-bytes : goal.returns-then-low-bytes
unfolding file_said go_on judged_as
returns-then-low-bytes c =
    let a = c.args in
    rw (
      verdict_rows a.t.now (length a.bytes.now) a.bytes.now refl (long (goal.at.returns-then-low-bytes c).Else-bytes-h),
      known_low a.t.now _ c.requires.n_bound.1 c.if-low-bytes.true,
    )

pub judge_plain-j-requires : goal.judge_plain-j-requires
judge_plain-j-requires c =
    let a = c.args in record {
      table_ready = rw (tested_rows c.requires.tested)
          (table_ready a.t.now c.requires.tested.good (length a.bytes.now) (long (goal.at.judge_plain-j-requires c).Else-bytes-h));
      plain = known_plain c.requires.n_bound.1 c.if-low-bytes.false;
      scratch_len_bound = c.requires.scratch_len_bound;
    }

pub returns-then-is_sound : goal.returns-then-is_sound
unfolding file_said
returns-then-is_sound c =
    let a = c.args in
    sym (go_sound (record_verdict a.t.now (length a.bytes.now) a.bytes.now) a.n _
    (ap is_sound (sym (verdict (goal.at.returns-then-is_sound c).After-judge_plain-j)) ∙ sym c.is_sound.ensures ∙ c.if-is_sound.true))

pub returns : goal.returns
unfolding file_said
returns c =
    let a = c.args in
    rw (verdict (goal.at.returns c).After-judge_plain-j) (sym (go_fault (record_verdict a.t.now (length a.bytes.now) a.bytes.now)
    a.n _ (ap is_sound (sym (verdict (goal.at.returns c).After-judge_plain-j)) ∙ sym c.is_sound.ensures ∙ c.if-is_sound.false)))
