use mathlib.Core.Path.{sym, ◌∙◌}
use mathlib.Core.Bool.{false}
use mathlib.Core.List.{[], ◌∷◌}
use native.Mathlib.Omega.{arith}
use Rattle.prologs.specs.rule.Form.{encoding_is, naming_form, standalone}
use Rattle.prologs.proofs.Steps.{stands_in, perhaps_none, perhaps_yes, perhaps_not}
use Rattle.prologs.proofs.encoding_at.Goals as goal

pub returns-then-n-at : goal.returns-then-n-at
returns-then-n-at c = c.standalone_at.ensures ∙ sym (perhaps_none false c.args.d.now
    c.args.opened encoding_is (naming_form c.args.marked) standalone
    false c.args.at c.run-n.ensures.0 c.if-n-at.true)

pub overflow_add-n : goal.overflow_add-n
overflow_add-n c = let h = stands_in 101 (110 ∷ 99 ∷ 111 ∷ 100 ∷ 105 ∷ 110 ∷ 103 ∷ [])
    c.args.d.now c.run-n.result
    (sym c.is_there.ensures ∙ c.if-is_there.true) in omega arith

pub encoding_named-requires : goal.encoding_named-requires
encoding_named-requires c = let h = stands_in 101 (110 ∷ 99 ∷ 111 ∷ 100 ∷ 105 ∷ 110 ∷ 103 ∷ [])
    c.args.d.now c.run-n.result
    (sym c.is_there.ensures ∙ c.if-is_there.true) in omega arith

pub returns-then-is_there : goal.returns-then-is_there
returns-then-is_there c =
    let args = c.args in
    c.encoding_named.ensures ∙ sym (perhaps_yes false args.d.now args.opened encoding_is (naming_form args.marked) standalone
    false
    args.at c.run-n.ensures.0
    c.if-n-at.false (sym c.is_there.ensures ∙ c.if-is_there.true))

pub returns : goal.returns
returns c =
    let args = c.args in
    c.standalone_at-2.ensures ∙ sym (perhaps_not false args.d.now args.opened encoding_is (naming_form args.marked) standalone
    false
    args.at c.run-n.ensures.0
    c.if-n-at.false (sym c.is_there.ensures ∙ c.if-is_there.false))
