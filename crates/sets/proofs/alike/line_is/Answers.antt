-- `sets::alike::line_is` meets its contract.
use mathlib.Core.Path.{◌≡◌, ◌∙◌}
use Prim.Native.Nat.{◌≤◌}
use native.Mathlib.Omega.{arith}
use borrow.Author.Tests.{ltb-true, leb-true, lt-ltb, le-leb}
use lib.Dec.{ltb, leb}
use mir.Facts.{to_z-of_z}
use Rattle.below.specs.Below.{and_left, and_right, and_true, holds_not}
use Rattle.cells.specs.rule.Cell.{count_of}
use Rattle.sets.proofs.AlikeLaws.{one_inside, one_outside}
use Rattle.sets.proofs.alike.line_is.Goals as goal
use Rattle.sets.proofs.alike.line_is.Goals.{After-count_of-c, Then-c-w}

-- the category is the line's number
counted : (c : After-count_of-c) → c.count_of-c.result ≡ count_of c.args.z
counted c = rw (c.count_of-c.ensures, to_z-of_z c.ranges.z)

-- the category lies in the position
low : (c : Then-c-w) → 1 ≤ c.count_of-c.result
low c = ltb-true 0 _ (and_left _ _ c.if-c-w.true)

high : (c : Then-c-w) → c.count_of-c.result ≤ c.args.w
high c = leb-true _ _ (and_right (ltb 0 c.count_of-c.result) _ c.if-c-w.true)

pub overflow_sub-c : goal.overflow_sub-c
overflow_sub-c c = low c

pub overflow_add-at : goal.overflow_add-at
overflow_add-at c = let h = high c in let i = c.requires.inside in omega arith

pub bounds-bytes-at : goal.bounds-bytes-at
bounds-bytes-at c = let l = low (goal.at.bounds-bytes-at c).Then-c-w in let h = high (goal.at.bounds-bytes-at c).Then-c-w in
    let i = c.requires.inside in omega arith

pub returns-then-c-w : goal.returns-then-c-w
returns-then-c-w c =
    let a = c.args in
    let e = counted (goal.at.returns-then-c-w c).After-count_of-c in
    c.is_one.ensures
    ∙ (rw e (one_inside a.x a.y a.bytes.now a.at a.w a.z c.requires.few
    (rw e at (low (goal.at.returns-then-c-w c).Then-c-w)) (rw e at (high (goal.at.returns-then-c-w c).Then-c-w))))

pub returns : goal.returns
returns c =
    let a = c.args in
    one_outside a.x a.y a.bytes.now a.at a.w a.z c.requires.few
    (λ l h. holds_not (rw (counted (goal.at.returns c).After-count_of-c)
    (and_true (ltb 0 (count_of a.z)) (leb (count_of a.z) a.w) (lt-ltb 0 _ l)
    (le-leb _ _ h))) c.if-c-w.false)
