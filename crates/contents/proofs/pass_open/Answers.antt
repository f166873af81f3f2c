use mathlib.Core.Path.{sym, ◌∙◌}
use native.Mathlib.Omega.{arith}
use lib.Dec.{leb}
use lib.ListN.{drop, length-drop}
use Rattle.below.specs.Below.{and_left, and_right}
use Rattle.markup.proofs.Gaps.{stands_long}
use Rattle.contents.proofs.Walking.{walks_none, walks_note, walks_break}
use Rattle.contents.proofs.pass_open.Goals as goal

pub comment-requires : goal.comment-requires
comment-requires c =
    let a = c.args in
    omega (
      arith,
      stands_long _ (drop a.at a.d.now) (sym c.is_there.ensures ∙ c.if-is_there.true),
      length-drop a.at a.d.now,
    )

pub overflow_add-at : goal.overflow_add-at
overflow_add-at c =
    let a = c.args in
    omega (
      arith,
      stands_long _ (drop a.at a.d.now) (sym c.is_there.ensures ∙ c.if-is_there.true),
      length-drop a.at a.d.now,
    )

pub returns-in-Past : goal.returns-in-Past
returns-in-Past c =
    let a = c.args in
    walks_note a.bad a.d.now a.mode a.at _ c.requires.0 c.requires.1
    (sym c.is_there.ensures ∙ c.if-is_there.true)
    (sym c.comment.ensures ∙ c.in-Past.is)

pub returns-in-Broken : goal.returns-in-Broken
returns-in-Broken c = walks_none _ _ _ _ (omega arith)

pub overflow_add-result : goal.overflow_add-result
overflow_add-result c =
    let a = c.args in
    let t = and_right (leb 1 a.mode) _ c.if-mode-br.true in
    omega (arith, stands_long _ (drop a.at a.d.now) (sym c.is_there-br.ensures ∙ t), length-drop a.at a.d.now)

pub returns-then-mode-br : goal.returns-then-mode-br
returns-then-mode-br c =
    let a = c.args in
    let t = c.if-mode-br.true in
    walks_break a.bad a.d.now a.mode a.at (and_left (leb 1 a.mode) _ t)
    (sym c.is_there-br.ensures ∙ and_right (leb 1 a.mode) _ t)

pub returns-else-mode-br : goal.returns-else-mode-br
returns-else-mode-br c = walks_none _ _ _ _ (omega arith)
