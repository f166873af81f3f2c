use mathlib.Core.Path.{sym, ◌∙◌}
use native.Mathlib.Omega.{arith}
use borrow.Author.Tests.{eq-eqb, ne_eqb}
use Rattle.filters.proofs.Asked.{taken, some_found, some_next, some_over, taken_begin, taken_row}
use Rattle.filters.proofs.use_taken.Goals as goal

pub loop-i-init : goal.loop-i-init
loop-i-init c = let a = c.args in taken_begin a.rows.now a.count a.usage

pub column-requires : goal.column-requires
column-requires c = (c.requires.0, omega arith, omega arith)

pub returns-then-column-usage : goal.returns-then-column-usage
returns-then-column-usage c =
    let a = c.args in
    let i = c.loop-i.i in
    record {
      is = some_found a.rows.now a.count (taken a.usage) i c.loop-i-test.true
          c.loop-i.invariant
          (taken_row a.rows.now a.count a.usage i _ (eq-eqb _ _ (sym c.column.ensures ∙ c.if-column-usage.true)));
    }

pub loop-i-preserved : goal.loop-i-preserved
loop-i-preserved c =
    let a = c.args in
    let i = c.loop-i.i in
    some_next a.rows.now a.count (taken a.usage) i c.loop-i-test.true c.loop-i.invariant
    (taken_row a.rows.now a.count a.usage i _ (ne_eqb _ _ (λ e. c.if-column-usage.false (c.column.ensures ∙ e))))

pub returns : goal.returns
returns c = let a = c.args in record
    { is = some_over a.rows.now a.count (taken a.usage) c.loop-i.i c.loop-i-test.false c.loop-i.invariant }
