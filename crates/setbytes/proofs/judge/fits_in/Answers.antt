use mathlib.Core.Path.{◌≡◌, sym, ap, ◌∙◌}
use Prim.Native.Nat.{◌<◌}
use native.Mathlib.Omega.{arith}
use borrow.Author.Rules.{sfits_of}
use mir.Syntax.{w64}
use mir.Val.{to_z, of_z}
use mir.Facts.{to_z-of_z}
use lib.IntN.{ℤ}
use lib.ListN.{length}
use Rattle.cells.specs.rule.Cell.{cell}
use Rattle.setbytes.specs.Sets.{within}
use Rattle.setbytes.proofs.JudgeSteps.{good_on, bad_on, fits_none, fits_bad, fits_first, good_end}
use Rattle.setbytes.proofs.judge.fits_in.Goals as goal
use Rattle.setbytes.proofs.judge.fits_in.Goals.{After-lies_in}

-- the set has a first member, and whether that one lies between
some : (c : After-lies_in) → 0 < length c.args.list.now
some c = omega arith

first : (c : After-lies_in) → within (to_z w64 (of_z w64 c.args.from)) (to_z w64 (of_z w64 c.args.to)) (cell c.args.list.now 0)
    ≡ c.lies_in.result
first c =
    sym (c.lies_in.ensures
    ∙ ap (λ (z : ℤ). within (to_z w64 (of_z w64 c.args.from)) (to_z w64 (of_z w64 c.args.to)) z)
    (to_z-of_z (sfits_of {w = w64} c.lies_in-arg-1.given)))

pub returns-then-list-eq0 : goal.returns-then-list-eq0
returns-then-list-eq0 c = sym (fits_none _ _ c.if-list-eq0.true)

pub returns-then-not-lies_in : goal.returns-then-not-lies_in
returns-then-not-lies_in c =
    rw (← to_z-of_z c.ranges.from, ← to_z-of_z c.ranges.to)
    (sym (fits_bad _ _ (some (goal.at.returns-then-not-lies_in c).After-lies_in)
    (first (goal.at.returns-then-not-lies_in c).After-lies_in ∙ c.if-not-lies_in.true)))

pub loop-i-init : goal.loop-i-init
loop-i-init c =
    fits_first _ _ (some (goal.at.loop-i-init c).After-lies_in) (first (goal.at.loop-i-init c).After-lies_in ∙ c.if-not-lies_in.false)

pub returns-then-not-next_in : goal.returns-then-not-next_in
returns-then-not-next_in c =
    let l = c.loop-i in
    rw (← to_z-of_z c.ranges.from, ← to_z-of_z c.ranges.to)
    (sym (l.invariant ∙ bad_on _ c.args.list.now l.i
    c.loop-i-test.true (sym c.next_in.ensures ∙ c.if-not-next_in.true)))

pub loop-i-preserved : goal.loop-i-preserved
loop-i-preserved c =
    let l = c.loop-i in
    l.invariant ∙ good_on _ c.args.list.now l.i c.loop-i-test.true (sym c.next_in.ensures ∙ c.if-not-next_in.false)

pub returns : goal.returns
returns c =
    rw (← to_z-of_z c.ranges.from, ← to_z-of_z c.ranges.to)
    (sym (c.loop-i.invariant ∙ good_end _ c.args.list.now _ c.loop-i-test.false))
