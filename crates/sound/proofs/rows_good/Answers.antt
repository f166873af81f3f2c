use mathlib.Core.Path.{◌≡◌, sym, ap, ◌∙◌}
use Prim.Native.Nat.{◌+◌, ◌≤◌}
use native.Mathlib.Omega.{arith}
use Rattle.below.specs.rule.Below.{◌and◌}
use Rattle.below.specs.Below.{and_no, all_none, all_more, all_fails, sum_none, sum_more, max_none, max_more}
use Rattle.layout.specs.rule.Layout.{columns_at}
use Rattle.sound.specs.rule.Sound.{columns_of, lines_at, finish_at, good_at, rows_good}
use Rattle.sound.specs.Given.{row_within}
use Rattle.sound.proofs.rows_good.Goals as goal
use Rattle.sound.proofs.rows_good.Goals.{After-read-c, After-whole_row_good}

-- what is answered is whether row i is good
good_here : (c : After-whole_row_good) → c.whole_row_good.result
    ≡ good_at c.args.t.now c.args.h.rows
    c.args.h.lines c.loop-i.i
good_here c = c.whole_row_good.ensures ∙ rw (c.base-at.ensures, c.loop-i.invariant.1)

-- the columns read are those of row i
columns_here : (c : After-read-c) → c.read-c.result
    ≡ columns_of c.args.t.now c.loop-i.i
columns_here c = c.read-c.ensures ∙ ap (columns_at c.args.t.now)
    c.base-at.ensures

-- the lines of a good row keep within the table's
within_here : (c : After-read-c) → c.loop-i.sum + c.read-c.result.lines
    ≤ c.args.h.lines
within_here c =
    row_within c.args.t.now c.args.h.rows c.args.h.lines c.loop-i.sum
    c.read-c.result
    (rw c.read-c.ensures (sym c.whole_row_good.ensures ∙ c.if-not-whole_row_good.false))

pub loop-i-init : goal.loop-i-init
loop-i-init c = (
  omega arith,
  sym (sum_none (lines_at c.args.t.now)),
  sym (max_none (finish_at c.args.t.now)),
  all_none _,
)

pub whole_row_good-requires : goal.whole_row_good-requires
whole_row_good-requires c =
    let p = c.requires in
    let s = p.standing in record {
      tens = p.tens;
      standing = (s, c.loop-i.invariant.0, rw c.base-at.ensures (omega (arith, s.stand)));
      e_value = p.lines_value;
    }

pub returns-then-not-whole_row_good : goal.returns-then-not-whole_row_good
unfolding rows_good
returns-then-not-whole_row_good c =
    sym (and_no _ _ (and_no _ _ (all_fails _ _ c.loop-i.i (omega arith)
    (sym (good_here (goal.at.returns-then-not-whole_row_good c).After-whole_row_good) ∙ c.if-not-whole_row_good.true))))

pub read-c-requires : goal.read-c-requires
read-c-requires c = let s = c.requires.standing in
    rw c.base-at.ensures (omega (arith, s.stand))

pub overflow_add-sum : goal.overflow_add-sum
overflow_add-sum c = omega (arith, within_here (goal.at.overflow_add-sum c).After-read-c, c.requires.standing.few_lines)

pub loop-i-preserved : goal.loop-i-preserved
loop-i-preserved c =
    let l = c.loop-i in
    let t = c.args.t.now in (
      within_here (goal.at.loop-i-preserved c).After-read-c,
      rw (l.invariant.1, columns_here (goal.at.loop-i-preserved c).After-read-c) (sym (sum_more (lines_at t) l.i)),
      c.larger-high.ensures ∙ rw (l.invariant.2, columns_here (goal.at.loop-i-preserved c).After-read-c) (sym (max_more (finish_at t) l.i)),
      all_more _ _ l.invariant.3 (sym (good_here (goal.at.loop-i-preserved c).After-whole_row_good) ∙ c.if-not-whole_row_good.false),
    )

pub returns : goal.returns
unfolding rows_good ◌and◌
returns c =
    let l = c.loop-i in
    let h = c.args.h in
    let e : l.i ≡ h.rows = omega arith in
    rw (l.invariant.1, l.invariant.2, e, rw e at l.invariant.3)
