-- `files::judge_one` meets its contract: 31, then what is known of the record.
use mathlib.Core.Path.{ap, ◌∙◌}
use Prim.Native.Nat.{ℕ, ◌+◌}
use Rattle.files.specs.rule.File.{file_said, go_on, record_verdict, sound_with}
use Rattle.files.specs.File.{verdict_other}
use Rattle.files.specs.Known.{first_known}
use Rattle.files.proofs.judge_one.Goals as goal

pub returns-then-bytes-first : goal.returns-then-bytes-first
unfolding file_said go_on
returns-then-bytes-first c = rw (verdict_other c.args.t.now c.args.first
    c.args.bytes.now c.if-bytes-first.true)

pub judge_known-requires : goal.judge_known-requires
judge_known-requires c = record {
  tested = c.requires.tested;
  n_bound = (c.requires.n_bound, first_known c.low_from.ensures);
  scratch_len_bound = c.requires.scratch_len_bound;
}

pub returns : goal.returns
returns c =
    let a = c.args in
    c.judge_known.ensures ∙ ap (λ (f : ℕ). go_on (record_verdict a.t.now f a.bytes.now) a.n
    (sound_with (a.n + 1)))
    c.if-bytes-first.false
