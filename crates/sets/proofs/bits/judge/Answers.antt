-- `sets::bits::judge` meets its contract: illegal where the categories' bytes are neither all spaces nor all `0` and `1`.
use mathlib.Core.Path.{sym, ◌∙◌}
use Rattle.sets.proofs.AlikeLaws.{spaces_alike, bits_alike}
use Rattle.sets.proofs.SetLaws.{bits_missing, legal_not, bits_judged}
use Rattle.sets.proofs.bits.judge.Goals as goal

pub returns-then-position_alike : goal.returns-then-position_alike
returns-then-position_alike c = c.position_alike.ensures c.if-position_alike.true _

pub returns-then-all_are : goal.returns-then-all_are
returns-then-all_are c = legal_not _ _ (bits_missing _ _ (spaces_alike _ ∙ sym c.all_are.ensures ∙ c.if-all_are.true))

pub returns : goal.returns
returns c = bits_judged _ _ (spaces_alike _ ∙ sym c.all_are.ensures ∙ c.if-all_are.false) _
    (c.all_are-2.ensures ∙ sym (bits_alike _))
