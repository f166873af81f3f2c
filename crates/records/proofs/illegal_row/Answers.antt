use mathlib.Core.Path.{sym, ◌∙◌}
use native.Mathlib.Nat.{sub-zero}
use Rattle.records.specs.rule.First.{bad_row}
use Rattle.records.proofs.Laws.{first_here, first_on, first_none}
use Rattle.records.proofs.illegal_row.Goals as goal

pub loop-i-init : goal.loop-i-init
loop-i-init c = rw sub-zero

pub returns-then-row_illegal : goal.returns-then-row_illegal
returns-then-row_illegal c =
    let a = c.args in
    sym (first_here (bad_row a.t.now a.rows a.bytes.now) _ _ c.loop-i-test.true
    (sym c.row_illegal.ensures ∙ c.if-row_illegal.true)) ∙ c.loop-i.invariant

pub loop-i-preserved : goal.loop-i-preserved
loop-i-preserved c =
    let a = c.args in
    sym (first_on (bad_row a.t.now a.rows a.bytes.now) _ _ c.loop-i-test.true
    (sym c.row_illegal.ensures ∙ c.if-row_illegal.false)) ∙ c.loop-i.invariant

pub returns : goal.returns
returns c = let a = c.args in
    sym (first_none (bad_row a.t.now a.rows a.bytes.now) _ _ c.loop-i-test.false) ∙ c.loop-i.invariant
