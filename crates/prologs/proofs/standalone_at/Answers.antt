use mathlib.Core.Path.{sym, ◌∙◌}
use mathlib.Core.Bool.{false}
use mathlib.Core.List.{[], ◌∷◌}
use native.Mathlib.Omega.{arith}
use Rattle.prologs.specs.rule.Form.{standalone_is, pair, yes, no, close}
use Rattle.prologs.proofs.Steps.{stands_in, perhaps_none, perhaps_yes, perhaps_not}
use Rattle.prologs.proofs.standalone_at.Goals as goal

pub returns-then-n-at : goal.returns-then-n-at
returns-then-n-at c = c.close_at.ensures ∙ sym (perhaps_none false c.args.d.now
    c.args.opened standalone_is (pair (yes ∷ no ∷ []) close) close
    c.args.latin c.args.at c.run-n.ensures.0
    c.if-n-at.true)

pub overflow_add-n : goal.overflow_add-n
overflow_add-n c = let h = stands_in 115 (116 ∷ 97 ∷ 110 ∷ 100 ∷ 97 ∷ 108 ∷ 111 ∷ 110 ∷ 101 ∷ [])
    c.args.d.now c.run-n.result
    (sym c.is_there.ensures ∙ c.if-is_there.true) in omega arith

pub yes_or_no-requires : goal.yes_or_no-requires
yes_or_no-requires c = let h = stands_in 115 (116 ∷ 97 ∷ 110 ∷ 100 ∷ 97 ∷ 108 ∷ 111 ∷ 110 ∷ 101 ∷ [])
    c.args.d.now c.run-n.result
    (sym c.is_there.ensures ∙ c.if-is_there.true) in omega arith

pub returns-then-is_there : goal.returns-then-is_there
returns-then-is_there c =
    let args = c.args in
    c.yes_or_no.ensures ∙ sym (perhaps_yes false args.d.now args.opened standalone_is (pair (yes ∷ no ∷ []) close) close
    args.latin args.at c.run-n.ensures.0
    c.if-n-at.false (sym c.is_there.ensures ∙ c.if-is_there.true))

pub returns : goal.returns
returns c =
    let args = c.args in
    c.close_at-2.ensures ∙ sym (perhaps_not false args.d.now args.opened standalone_is (pair (yes ∷ no ∷ []) close) close
    args.latin args.at c.run-n.ensures.0
    c.if-n-at.false (sym c.is_there.ensures ∙ c.if-is_there.false))
