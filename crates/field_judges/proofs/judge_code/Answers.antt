-- `field_judges::judge_code` meets its contract.
use mathlib.Core.Path.{sym, ◌∙◌}
use native.Mathlib.Omega.{arith}
use borrow.Author.Rules.{sfits_of}
use mir.Facts.{to_z-of_z}
use Rattle.field_judges.specs.Judged.{judged_none, judged_some, code_stands}
use mir.Syntax.{w64}
use Rattle.field_judges.proofs.judge_code.Goals as goal

pub cell_of-requires : goal.cell_of-requires
cell_of-requires c = omega (arith, c.code_from-a.ensures.few)

pub is_legal-requires : goal.is_legal-requires
is_legal-requires c = c.requires.0

pub overflow_add-result : goal.overflow_add-result
overflow_add-result c =
    let stop = c.stops.ensures c.if-not-stops.false in
    omega (arith, stop.within)

pub returns : goal.returns
returns c =
    let stop = c.stops.ensures c.if-not-stops.false in
    let cell = c.cell_of in
    judged_some (code_stands _ _ _ stop c.code_from-a.result.n _ c.requires.1
    (to_z-of_z {w = w64} (sfits_of cell.type_inv) ∙ cell.ensures) (sym c.is_legal.ensures ∙ c.if-not-is_legal.false)
    (c.code_from-a.ensures.reads c.if-n-eq0.false))

pub returns-then-n-eq0 : goal.returns-then-n-eq0
returns-then-n-eq0 c = judged_none _ _ _ _ _

pub returns-then-not-stops : goal.returns-then-not-stops
returns-then-not-stops c = judged_none _ _ _ _ _

pub returns-then-not-is_legal : goal.returns-then-not-is_legal
returns-then-not-is_legal c = judged_none _ _ _ _ _
