-- `faults::numeral_fault` meets its contract: by what the bytes say.
use mathlib.Core.Path.{◌≡◌, sym, ap, ◌∙◌}
use borrow.Author.Rules.{rules}
use lib.IntN.{ℤ, pos}
use mir.Syntax.{w64}
use mir.Val.{to_z, of_z}
use Rattle.cells.specs.rule.Cell.{eq_z}
use Rattle.fields.specs.rule.Legal.{legal}
use Rattle.numbers.specs.Numeral.{said_of}
use Rattle.faults.specs.declared.Fault.TheVariants.{NotLegal}
use Rattle.faults.proofs.Laws.{numeral_blank, numeral_wrong, numeral_says, numeral_legal}
use Rattle.faults.proofs.numeral_fault.Goals as goal
use Rattle.faults.proofs.numeral_fault.Goals.{After-is_legal, After-same, In-Says}

-- the number said is read back from its bits as it is
back : (c : In-Says) → to_z w64 (of_z w64 c.in-Says.z) ≡ c.in-Says.z
back c = search rules

zero_test : (c : After-same) → c.same.result ≡ eq_z c.in-Says.z (pos 0)
zero_test c = c.same.ensures ∙ ap (λ (z : ℤ). eq_z z (pos 0)) (back (goal.at.After-same c).In-Says)

asked : (c : After-is_legal) → let args = c.args in
    c.is_legal.result ≡ legal args.t.now args.rows args.row c.in-Says.z
asked c =
    let args = c.args in
    c.is_legal.ensures ∙ ap (legal args.t.now args.rows args.row) (back (goal.at.After-is_legal c).In-Says)

pub returns-then-zero-same : goal.returns-then-zero-same
unfolding said_of
returns-then-zero-same c = rw c.in-Says.is (sym (numeral_says _ _ _
    ∙ rw (rw (zero_test (goal.at.returns-then-zero-same c).After-same) at c.if-zero-same.true)))

pub returns-then-is_legal : goal.returns-then-is_legal
unfolding said_of
returns-then-is_legal c = rw c.in-Says.is
    (sym (numeral_legal _ _ _ (sym (asked (goal.at.returns-then-is_legal c).After-is_legal) ∙ c.if-is_legal.true)))

pub returns-in-Blank : goal.returns-in-Blank
unfolding said_of
returns-in-Blank c = rw c.in-Blank.is (sym (numeral_blank _ _))

pub returns-else-is_legal : goal.returns-else-is_legal
unfolding said_of
returns-else-is_legal c =
    rw c.in-Says.is
    (ap NotLegal (back (goal.at.returns-else-is_legal c).In-Says)
    ∙ sym (numeral_says _ _ _ ∙ rw (
      rw (zero_test (goal.at.returns-else-is_legal c).After-same) at c.if-zero-same.false,
      sym (asked (goal.at.returns-else-is_legal c).After-is_legal) ∙ c.if-is_legal.false,
    )))

pub returns-in-Wrong : goal.returns-in-Wrong
unfolding said_of
returns-in-Wrong c = rw c.in-Wrong.is (sym (numeral_wrong _ _))
