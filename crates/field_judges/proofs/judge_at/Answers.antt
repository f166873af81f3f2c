-- `field_judges::judge_at` meets its contract.
use mathlib.Core.Path.{refl}
use native.Mathlib.Omega.{arith}
use Rattle.field_judges.specs.Judged.{judged_some, missing_stands}
use Rattle.field_judges.proofs.judge_at.Goals as goal

pub overflow_add-result : goal.overflow_add-result
overflow_add-result c = let stop = c.stops.ensures c.if-stops.true in omega (arith, stop.within)

pub returns-then-stops : goal.returns-then-stops
returns-then-stops c = judged_some (missing_stands _ _ _ (c.stops.ensures c.if-stops.true) refl)

pub judge_code-requires : goal.judge_code-requires
judge_code-requires c = (c.requires.0, c.in-Single.is)

pub judge_set-requires : goal.judge_set-requires
judge_set-requires c = (
  c.requires.1,
  c.in-Multiple.is,
  c.requires.2,
)

pub judge_amount-requires : goal.judge_amount-requires
judge_amount-requires c = (c.requires.0, c.in-Quantity.is)

pub judge_text-requires : goal.judge_text-requires
judge_text-requires c = (c.in-Character.is, c.requires.2)

pub judge_truth-requires : goal.judge_truth-requires
judge_truth-requires c = c.in-Logical.is

pub returns-in-Single : goal.returns-in-Single
returns-in-Single c = c.judge_code.ensures

pub returns-in-Multiple : goal.returns-in-Multiple
returns-in-Multiple c = c.judge_set.ensures

pub returns-in-Quantity : goal.returns-in-Quantity
returns-in-Quantity c = c.judge_amount.ensures

pub returns-in-Character : goal.returns-in-Character
returns-in-Character c = c.judge_text.ensures

pub returns-in-Logical : goal.returns-in-Logical
returns-in-Logical c = c.judge_truth.ensures
