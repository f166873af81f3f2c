use mathlib.Core.Path.{sym, ◌∙◌}
use mathlib.Core.List.{[], ◌∷◌}
use native.Mathlib.Omega.{arith}
use Rattle.prologs.specs.rule.Form.{PUBLIC, SYSTEM, word, public, located}
use Rattle.prologs.proofs.Steps.{stands_in, which_yes, which_no, tell_word, word_miss}
use Rattle.prologs.proofs.external_at.Goals as goal

pub overflow_add-at : goal.overflow_add-at
overflow_add-at c = let h = stands_in 80 (85 ∷ 66 ∷ 76 ∷ 73 ∷ 67 ∷ []) c.args.d.now
    c.args.at (sym c.is_there.ensures ∙ c.if-is_there.true) in omega arith

pub public_at-requires : goal.public_at-requires
public_at-requires c = let h = stands_in 80 (85 ∷ 66 ∷ 76 ∷ 73 ∷ 67 ∷ []) c.args.d.now
    c.args.at (sym c.is_there.ensures ∙ c.if-is_there.true) in omega arith

pub returns-then-is_there : goal.returns-then-is_there
returns-then-is_there c = c.public_at.ensures ∙ sym (which_yes c.args.bad
    c.args.d.now c.args.opened PUBLIC public
    (word SYSTEM located) c.args.latin c.args.at
    (sym c.is_there.ensures ∙ c.if-is_there.true))

pub overflow_add-at-then-is_there-2 : goal.overflow_add-at-then-is_there-2
overflow_add-at-then-is_there-2 c =
    let args = c.args in
    let h = stands_in 83 (89 ∷ 83 ∷ 84 ∷ 69 ∷ 77 ∷ []) args.d.now args.at (sym c.is_there-2.ensures ∙ c.if-is_there-2.true) in
    omega arith

pub located_at-requires : goal.located_at-requires
located_at-requires c =
    let args = c.args in
    let h = stands_in 83 (89 ∷ 83 ∷ 84 ∷ 69 ∷ 77 ∷ []) args.d.now args.at (sym c.is_there-2.ensures ∙ c.if-is_there-2.true) in
    omega arith

pub returns-then-is_there-2 : goal.returns-then-is_there-2
returns-then-is_there-2 c =
    let args = c.args in
    c.located_at.ensures ∙ sym (which_no args.bad args.d.now args.opened PUBLIC public (word SYSTEM located) args.latin
    args.at (sym c.is_there.ensures ∙ c.if-is_there.false) ∙ tell_word args.bad args.d.now args.opened located
    args.latin args.at SYSTEM (sym c.is_there-2.ensures ∙ c.if-is_there-2.true))

pub returns : goal.returns
returns c =
    let args = c.args in
    c.miss.ensures ∙ sym (which_no args.bad args.d.now args.opened PUBLIC public (word SYSTEM located) args.latin args.at
    (sym c.is_there.ensures ∙ c.if-is_there.false) ∙ word_miss args.bad args.d.now args.opened located
    args.latin args.at SYSTEM (sym c.is_there-2.ensures ∙ c.if-is_there-2.false))
