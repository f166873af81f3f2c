use mathlib.Core.Path.{◌≡◌, sym, ◌∙◌}
use Prim.Native.Nat.{◌<◌}
use native.Mathlib.Omega.{arith}
use borrow.Author.Rules.{sfits_of}
use mir.Facts.{to_z-of_z}
use lib.ListN.{length}
use Rattle.cells.specs.rule.Cell.{cell}
use Rattle.fields.specs.rule.Legal.{legal}
use Rattle.setbytes.proofs.JudgeSteps.{good_on, bad_on, fits_none, fits_bad, fits_first, good_end}
use Rattle.setbytes.proofs.judge.set_fits.Goals as goal
use Rattle.setbytes.proofs.judge.set_fits.Goals.{After-allows_number}

-- the set has a first member, and whether that one is legal
some : (c : After-allows_number) → 0 < length c.args.list.now
some c = omega arith

first : (c : After-allows_number) → legal c.args.t.now c.args.rows c.args.row (cell c.args.list.now 0) ≡ c.allows_number.result
first c = sym (c.allows_number.ensures ∙ rw (to_z-of_z (sfits_of c.allows_number-arg-1.given)))

pub returns-then-list-eq0 : goal.returns-then-list-eq0
returns-then-list-eq0 c = sym (fits_none _ _ c.if-list-eq0.true)

pub returns-then-not-allows_number : goal.returns-then-not-allows_number
returns-then-not-allows_number c = sym (fits_bad _ _ (some (goal.at.returns-then-not-allows_number c).After-allows_number)
    (first (goal.at.returns-then-not-allows_number c).After-allows_number ∙ c.if-not-allows_number.true))

pub loop-i-init : goal.loop-i-init
loop-i-init c =
    fits_first _ _ (some (goal.at.loop-i-init c).After-allows_number)
    (first (goal.at.loop-i-init c).After-allows_number ∙ c.if-not-allows_number.false)

pub returns-then-not-next_good : goal.returns-then-not-next_good
returns-then-not-next_good c =
    let l = c.loop-i in
    sym (l.invariant ∙ bad_on _ c.args.list.now l.i
    c.loop-i-test.true (sym c.next_good.ensures ∙ c.if-not-next_good.true))

pub loop-i-preserved : goal.loop-i-preserved
loop-i-preserved c =
    let l = c.loop-i in
    l.invariant ∙ good_on _ c.args.list.now l.i c.loop-i-test.true (sym c.next_good.ensures ∙ c.if-not-next_good.false)

pub returns : goal.returns
returns c = sym (c.loop-i.invariant ∙ good_end _ c.args.list.now _
    c.loop-i-test.false)
