use mathlib.Core.Path.{refl}
use native.Mathlib.Omega.{arith}
use lib.Dec.{eqb}
use lib.ListN.{get_or}
use borrow.Author.Tests.{eqb-true}
use Rattle.below.specs.Below.{and_left, and_right}
use Rattle.tags.proofs.Usuals.{end_plain, end_empty}
use Rattle.tags.proofs.end_at.Goals as goal

pub returns-then-d-at-eq62 : goal.returns-then-d-at-eq62
returns-then-d-at-eq62 c e = let a = c.args in end_plain a.d.now a.at (omega arith) c.if-d-at-eq62.true

pub returns-then-d-at : goal.returns-then-d-at
returns-then-d-at c e =
    let a = c.args in
    let d = a.d.now in
    let t = c.if-d-at.true in
    let p = eqb (get_or d a.at 0) 47 in
    end_empty d a.at (omega arith) (eqb-true _ _ (and_left p _ t)) (eqb-true _ _ (and_right p _ t))

pub returns-then-d-at-lt2 : goal.returns-then-d-at-lt2
returns-then-d-at-lt2 c e = absurd (e refl)

pub returns-else-d-at : goal.returns-else-d-at
returns-else-d-at c e = absurd (e refl)
