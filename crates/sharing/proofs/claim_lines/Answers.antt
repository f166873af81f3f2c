use mathlib.Core.Path.{◌≡◌, ◌∙◌}
use mathlib.Core.Bool.{true}
use Prim.Native.Nat.{◌-◌, ◌≤◌}
use native.Mathlib.Omega.{arith}
use Rattle.cells.specs.rule.Cell.{count_of}
use Rattle.fields.specs.rule.Legal.{line_value, legal}
use Rattle.sharing.specs.Known.{line_legal}
use Rattle.sharing.proofs.Steps.{on_step, on_stop, on_end, lines_next, lines_end}
use Rattle.sharing.proofs.claim_lines.Goals as goal
use Rattle.sharing.proofs.claim_lines.Goals.{After-count_at-c}

-- the line's category, which the row allows
counted : (c : After-count_at-c) → let a = c.args in
    c.count_at-c.result ≡ count_of (line_value a.t.now a.rows a.row c.loop-k.k)
counted c = c.count_at-c.ensures ∙ rw c.base-base.ensures

allowed : (c : After-count_at-c) → let a = c.args in
    legal a.t.now a.rows a.row (line_value a.t.now a.rows a.row c.loop-k.k) ≡ true
allowed c =
    line_legal c.args.t.now c.args.rows c.args.row c.loop-k.k
    c.loop-k-test.true

low : (c : After-count_at-c) → 1 ≤ c.count_at-c.result
low c = omega (arith, counted c, c.requires.low _ (allowed c))

high : (c : After-count_at-c) → c.count_at-c.result ≤ c.args.row.width
high c = omega (arith, counted c, c.requires.high _ (allowed c))

pub overflow_sub-c : goal.overflow_sub-c
overflow_sub-c c = low (goal.at.overflow_sub-c c).After-count_at-c

pub overflow_add-at : goal.overflow_add-at
overflow_add-at c = let l = low (goal.at.overflow_add-at c).After-count_at-c in let h = high (goal.at.overflow_add-at c).After-count_at-c in
    let i = c.requires.inside in omega arith

pub claim_one-requires : goal.claim_one-requires
claim_one-requires c =
    let l = low (goal.at.claim_one-requires c).After-count_at-c in let h = high (goal.at.claim_one-requires c).After-count_at-c in
    let i = c.requires.inside in
    let o = c.requires.from_one in omega arith

pub returns-then-not-claim_one : goal.returns-then-not-claim_one
returns-then-not-claim_one c =
    let l = c.loop-k in
    let a = c.args in
    on_stop l.invariant _ _ (lines_next (a.row.start - 1) a.t.now a.rows a.row.before a.row.lines l.k
    c.loop-k-test.true) (rw (counted (goal.at.returns-then-not-claim_one c).After-count_at-c) at c.claim_one.ensures)
    c.if-not-claim_one.true

pub loop-k-preserved : goal.loop-k-preserved
loop-k-preserved c =
    let l = c.loop-k in
    let a = c.args in
    on_step l.invariant _ _ (lines_next (a.row.start - 1) a.t.now a.rows a.row.before a.row.lines l.k
    c.loop-k-test.true) (rw (counted (goal.at.loop-k-preserved c).After-count_at-c) at c.claim_one.ensures)
    c.if-not-claim_one.false

pub returns : goal.returns
returns c =
    let a = c.args in
    on_end c.loop-k.invariant (lines_end (a.row.start - 1) a.t.now a.rows a.row.before a.row.lines
    c.loop-k.k c.loop-k-test.false)
