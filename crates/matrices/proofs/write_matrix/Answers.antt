-- `matrices::write_matrix` meets its contract: judged first.
-- Assumes nothing.
use mathlib.Core.Path.{sym, ap, ◌∙◌}
use Rattle.files.specs.rule.File.{file_said, sound_with}
use Rattle.matrices.specs.rule.Matrix.{matrix_said}
use Rattle.matrices.specs.Records.{so_far_sound}
use Rattle.matrices.specs.Written.{refused_file}
use Rattle.matrices.proofs.write_matrix.Goals as goal

pub write_sound-requires : goal.write_sound-requires
write_sound-requires c =
    sym c.judge_file-j.ensures.says
    ∙ so_far_sound (file_said c.judge_file-j.result)
    (sym c.goes_on.ensures ∙ c.if-goes_on.true)
    ∙ ap sound_with (sym c.count_in.ensures)

pub returns-then-goes_on : goal.returns-then-goes_on
returns-then-goes_on c = c.write_sound.ensures

pub returns : goal.returns
unfolding matrix_said
returns c = refused_file c.args.t.now
    c.args.d.now c.args.out.now
    c.judge_file-j.ensures.says (sym c.goes_on.ensures ∙ c.if-goes_on.false)
