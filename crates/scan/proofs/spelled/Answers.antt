use mathlib.Core.Path.{◌≡◌, ◌∙◌, ap}
use Prim.Native.Nat.{◌+◌}
use native.Mathlib.Omega.{arith}
use Rattle.below.specs.Below.{and_left, and_right}
use Rattle.scan.specs.rule.Word.{word_at}
use Rattle.scan.specs.declared.Word.TheVariants.{Matched}
use Rattle.scan.proofs.Words.{word_letter, word_whole}
use Rattle.scan.proofs.spelled.Goals as goal

pub loop-i-init : goal.loop-i-init
unfolding word_at
loop-i-init c e =
    let z : c.args.at + 0 ≡ c.args.at = omega arith in
    rw z

pub loop-i-preserved : goal.loop-i-preserved
loop-i-preserved c e = c.loop-i.invariant (and_left _ _ e)
    ∙ word_letter _ _ _ _ c.requires c.loop-i-test.true
    (and_right c.loop-i.same _ e)

pub returns : goal.returns
returns c e = c.loop-i.invariant e ∙ word_whole _ _ _ _ c.loop-i-test.false ∙ ap Matched (omega arith)
