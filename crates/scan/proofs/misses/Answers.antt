use mathlib.Core.Path.{refl}
use Rattle.below.specs.Below.{holds_not}
use native.Mathlib.Omega.{arith}
use Rattle.scan.specs.rule.Word.{word_at}
use Rattle.scan.proofs.Words.{word_missed, word_short}
use Rattle.scan.proofs.Texts.{text_end}
use Rattle.scan.proofs.misses.Goals as goal

pub returns-then-w-eq0 : goal.returns-then-w-eq0
returns-then-w-eq0 c e = holds_not e refl

pub returns-then-d-at : goal.returns-then-d-at
unfolding word_at
returns-then-d-at c e = word_short _ _ 0 (text_end _ _ c.if-d-at.true) (omega arith)

pub returns : goal.returns
unfolding word_at
returns c e =
    let u = c.unlike.ensures e in
    word_missed _ _ _ (omega arith) c.if-w-eq0.false u.0 u.1
