-- `columns::range_past` meets its contract, case by case.
-- Assumes nothing.
use mathlib.Core.Path.{◌≡◌, sym, ◌∙◌}
use native.Mathlib.Omega.{arith}
use borrow.Author.Rules.{rules}
use mir.Syntax.{w64}
use mir.Val.{to_z, of_z}
use borrow.Author.Tests.{not-false}
use Rattle.columns.specs.Ones.{range_one, range_to}
use Rattle.columns.proofs.range_past.Goals as goal

pub returns-then-not-row : goal.returns-then-not-row
returns-then-not-row c = range_one _ _ c.requires.0

pub returns-then-not-not_above : goal.returns-then-not-not_above
returns-then-not-not_above c = range_one _ _ c.requires.0

pub returns-then-past-eq0 : goal.returns-then-past-eq0
returns-then-past-eq0 c = range_one _ _ c.requires.0

pub returns : goal.returns
returns c =
    let r = c.args.row in
    let f : to_z w64 (of_z w64 r.from) ≡ r.from = search rules in
    let t : to_z w64 (of_z w64 r.to) ≡ r.to = search rules in
    range_to r (not-false _ c.if-not-row.false)
    (sym (rw f at c.not_above.ensures) ∙ c.if-not-not_above.false)
    (rw t at c.end_of-past.ensures) (omega (arith, c.if-past-eq0.false))
