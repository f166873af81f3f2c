use mathlib.Core.Path.{◌≡◌, sym, ap, ◌∙◌}
use mathlib.Core.Bool.{Bool}
use Prim.Native.Nat.{ℕ, ◌+◌}
use native.Mathlib.Omega.{arith}
use borrow.Author.Rules.{sfits_of}
use mir.Facts.{to_z-of_z}
use Rattle.below.specs.rule.Below.{all_below}
use Rattle.below.specs.Below.{all_none, all_more, all_fails}
use Rattle.cells.specs.rule.Cell.{cell, eq_z}
use Rattle.layout.specs.rule.Layout.{line_base}
use Rattle.fields.specs.rule.Legal.{on_line}
use Rattle.sets.specs.Alike.{all_at}
use Rattle.sets.proofs.AlikeLaws.{lines_alike}
use Rattle.sets.proofs.alike.lines_are.Goals as goal
use Rattle.sets.proofs.alike.lines_are.Goals.{After-line_is, Start}

-- what the test of a line says
here : (c : After-line_is) → let a = c.args in
    c.line_is.result ≡ all_at a.x a.y a.bytes.now a.at a.w
    (λ u. eq_z (cell a.t.now (line_base a.rows (a.row.before + c.loop-k.k))) u)
here c = rw (c.line_is.ensures, to_z-of_z (sfits_of c.line_is-arg-1.given), c.base-place.ensures)

-- line k's bytes, and all lines'
abbrev line : (c : Start) → ℕ → Bool
line c k = all_at c.args.x c.args.y c.args.bytes.now c.args.at c.args.w
    (λ u. eq_z (cell c.args.t.now (line_base c.args.rows (c.args.row.before + k))) u)

all : (c : Start) → all_below c.args.row.lines (λ k. (line c) k)
    ≡ all_at c.args.x c.args.y c.args.bytes.now c.args.at c.args.w
    (λ z. on_line c.args.t.now c.args.rows c.args.row z)
all c = lines_alike c.args.x c.args.y c.args.bytes.now c.args.at c.args.w c.args.t.now c.args.rows
    c.args.row

pub returns-then-not-line_is : goal.returns-then-not-line_is
returns-then-not-line_is c =
    sym (all_fails (λ k. line (goal.at.returns-then-not-line_is c).Start k) c.args.row.lines c.loop-k.k (omega arith)
    (sym (here (goal.at.returns-then-not-line_is c).After-line_is) ∙ c.if-not-line_is.true))
    ∙ all (goal.at.returns-then-not-line_is c).Start

pub loop-k-preserved : goal.loop-k-preserved
loop-k-preserved c =
    let l = c.loop-k in
    all_more (λ k. line (goal.at.loop-k-preserved c).Start k) l.k l.invariant
    (sym (here (goal.at.loop-k-preserved c).After-line_is) ∙ c.if-not-line_is.false)

pub returns : goal.returns
returns c =
    let e : c.loop-k.k ≡ c.args.row.lines = omega arith in
    sym (ap (λ (n : ℕ). all_below n (λ k. line (goal.at.returns c).Start k)) (sym e) ∙ c.loop-k.invariant) ∙ all (goal.at.returns c).Start

pub loop-k-init : goal.loop-k-init
loop-k-init c = all_none _
