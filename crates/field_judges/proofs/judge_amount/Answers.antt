-- `field_judges::judge_amount` meets its contract.
use mathlib.Core.Path.{◌≡◌, sym, ◌∙◌}
use native.Mathlib.Omega.{arith}
use borrow.Author.Rules.{rules}
use mir.Syntax.{w64}
use mir.Val.{to_z, of_z}
use Rattle.field_judges.specs.Judged.{judged_none, judged_some, amount_stands}
use Rattle.field_judges.proofs.judge_amount.Goals as goal
use Rattle.field_judges.proofs.judge_amount.Goals.{After-struct_told-1}

-- the number is read back from its bits as it is
back : (c : After-struct_told-1) → to_z w64 (of_z w64 c.number_from-a.result.z) ≡ c.number_from-a.result.z
back c = search rules

pub is_legal-requires : goal.is_legal-requires
is_legal-requires c = c.requires.0

pub overflow_add-result : goal.overflow_add-result
overflow_add-result c =
    let stop = c.stops.ensures c.if-not-stops.false in
    omega (arith, stop.within, c.well_formed.1.1.1.1.0)

pub returns : goal.returns
returns c =
    let stop = c.stops.ensures c.if-not-stops.false in
    judged_some (amount_stands _ _ _ stop _ c.requires.1
    (sym (c.is_legal.ensures ∙ rw (back (goal.at.returns c).After-struct_told-1)) ∙ c.if-not-is_legal.false)
    (c.number_from-a.ensures.reads c.if-to-at.false))

pub returns-then-to-at : goal.returns-then-to-at
returns-then-to-at c = judged_none _ _ _ _ _

pub returns-then-not-stops : goal.returns-then-not-stops
returns-then-not-stops c = judged_none _ _ _ _ _

pub returns-then-not-is_legal : goal.returns-then-not-is_legal
returns-then-not-is_legal c = judged_none _ _ _ _ _
