-- `legal::on_own_line` meets its contract: the line that it looks at is one of the row's.
use mathlib.Core.Path.{◌≡◌, refl, sym, ◌∙◌}
use Prim.Native.Nat.{ℕ, ◌+◌, ◌-◌, ◌≤◌}
use native.Mathlib.Omega.{arith}
use borrow.Author.Rules.{sfits_of}
use borrow.Author.Tests.{ltb-true, leb-true}
use lib.Dec.{ltb, leb}
use mathlib.Core.Bool.{true, ◌&&◌}
use mir.Syntax.{w64}
use mir.Val.{to_z, of_z}
use mir.Facts.{to_z-of_z}
use Rattle.below.specs.Below.{any_holds, and_left, and_right, holds_not}
use Rattle.cells.specs.rule.Cell.{cell, eq_z}
use Rattle.layout.specs.rule.Layout.{line_base}
use Rattle.fields.specs.rule.Legal.{on_line}
use Rattle.legal.proofs.on_own_line.Goals as goal
use Rattle.legal.proofs.on_own_line.Goals.{After-same}

-- the line is one of the row's
low : (n m : ℕ) → (ltb 0 n && leb n m) ≡ true → 1 ≤ n
low n m e = ltb-true 0 n (and_left _ _ e)

high : (n m : ℕ) → (ltb 0 n && leb n m) ≡ true → n ≤ m
high n m e = leb-true n m (and_right (ltb 0 n) _ e)

-- what the test of it says
here : (c : After-same) → let a = c.args in
    c.same.result ≡ eq_z (cell a.t.now (line_base a.rows (a.row.before
    + (c.count_of-c.result - 1)))) (to_z w64 (of_z w64 a.z))
here c = rw (c.same.ensures, to_z-of_z (sfits_of c.same-arg-1.given), c.base-at.ensures)

pub overflow_add-row : goal.overflow_add-row
overflow_add-row c = let h = high c.count_of-c.result c.args.row.lines c.if-c-row.true in let f = c.requires.few_lines in omega arith

pub base-at-requires : goal.base-at-requires
base-at-requires c =
    let p = c.requires in let h = high c.count_of-c.result c.args.row.lines c.if-c-row.true in
    let f = p.few_lines in (p.few_rows, omega arith)

pub offset_bounds-t-at : goal.offset_bounds-t-at
offset_bounds-t-at c =
    let p = c.requires in let h = high c.count_of-c.result c.args.row.lines c.if-c-row.true in let f = p.few_lines in
    let r = p.few_rows in rw c.base-at.ensures (omega arith)

pub bounds-t-at : goal.bounds-t-at
bounds-t-at c =
    let p = c.requires in let l = low c.count_of-c.result c.args.row.lines c.if-c-row.true in
    let h = high c.count_of-c.result c.args.row.lines c.if-c-row.true in
    let f = p.stand in rw c.base-at.ensures (omega arith)

pub returns-then-c-row : goal.returns-then-c-row
unfolding on_line
returns-then-c-row c e =
    let a = c.args in
    let l = low c.count_of-c.result c.args.row.lines c.if-c-row.true in
    let h = high c.count_of-c.result c.args.row.lines c.if-c-row.true in
    any_holds (λ k. eq_z (cell a.t.now (line_base a.rows (a.row.before + k))) a.z) a.row.lines
    (c.count_of-c.result - 1) (omega arith) (rw (to_z-of_z c.ranges.z) at (sym (here c) ∙ e))

pub returns : goal.returns
returns c e = holds_not e refl

pub overflow_sub-c : goal.overflow_sub-c
overflow_sub-c c = low c.count_of-c.result c.args.row.lines c.if-c-row.true
