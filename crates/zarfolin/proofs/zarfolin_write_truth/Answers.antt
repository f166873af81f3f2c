-- `zarfolin::zarfolin_write_truth` meets its contract.
use mathlib.Core.Path.{refl}
use native.Mathlib.Omega.{arith}
use Rattle.writes.specs.rule.Write.{lent_value}
use Rattle.zarfolin.proofs.zarfolin_write_truth.Goals as goal

pub returns-then-truth-lt2 : goal.returns-then-truth-lt2
unfolding lent_value
returns-then-truth-lt2 c =
    let l = c.if-truth-lt2.true in
    record { given = λ h. rw c.number_of.ensures c.write_value.ensures; other = λ h. absurd (omega arith) }

pub returns : goal.returns
returns c =
    let l = c.if-truth-lt2.false in
    record { given = λ h. absurd (omega arith); other = λ h. record { says = c.bad_truth.ensures; keeps = refl } }
