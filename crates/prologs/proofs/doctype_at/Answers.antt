use mathlib.Core.Path.{sym, ◌∙◌}
use mathlib.Core.List.{[], ◌∷◌}
use Prim.Native.Nat.{◌+◌}
use native.Mathlib.Omega.{arith}
use Rattle.prologs.specs.rule.Form.{DOCTYPE, white, root, behind}
use Rattle.prologs.proofs.Steps.{stands_in, tell_word, tell_white, white_miss, tell_root, root_away}
use Rattle.prologs.proofs.doctype_at.Goals as goal

pub overflow_add-at : goal.overflow_add-at
overflow_add-at c = let h = stands_in 60 (33 ∷ 68 ∷ 79 ∷ 67 ∷ 84 ∷ 89 ∷ 80 ∷ 69 ∷ []) c.args.d.now c.args.opened
    c.requires in omega arith

pub run-n-requires : goal.run-n-requires
run-n-requires c = let h = stands_in 60 (33 ∷ 68 ∷ 79 ∷ 67 ∷ 84 ∷ 89 ∷ 80 ∷ 69 ∷ []) c.args.d.now c.args.opened
    c.requires in omega arith

pub returns-then-n-at : goal.returns-then-n-at
returns-then-n-at c = c.miss.ensures ∙ sym (tell_word c.args.bad
    c.args.d.now c.args.opened (white (root behind))
    c.args.latin c.args.opened DOCTYPE
    c.requires ∙ white_miss c.args.bad
    c.args.d.now c.args.opened (root behind)
    c.args.latin (c.args.opened + 9)
    c.run-n.ensures.0 c.if-n-at.true)

pub overflow_add-n : goal.overflow_add-n
overflow_add-n c = let h = stands_in 115 (115 ∷ 115 ∷ []) c.args.d.now
    c.run-n.result (sym c.is_there.ensures ∙ c.if-is_there.true) in omega arith

pub behind_at-requires : goal.behind_at-requires
behind_at-requires c = let h = stands_in 115 (115 ∷ 115 ∷ []) c.args.d.now
    c.run-n.result (sym c.is_there.ensures ∙ c.if-is_there.true) in omega arith

pub returns-then-is_there : goal.returns-then-is_there
returns-then-is_there c =
    c.behind_at.ensures ∙ sym (tell_word c.args.bad c.args.d.now c.args.opened (white (root behind))
    c.args.latin c.args.opened DOCTYPE c.requires ∙ tell_white c.args.bad c.args.d.now
    c.args.opened (root behind) c.args.latin (c.args.opened + 9)
    c.run-n.ensures.0 c.if-n-at.false ∙ tell_root c.args.bad c.args.d.now
    c.args.opened behind c.args.latin c.run-n.result
    (sym c.is_there.ensures ∙ c.if-is_there.true))

pub returns : goal.returns
returns c =
    c.root_missed.ensures ∙ sym (tell_word c.args.bad c.args.d.now c.args.opened (white (root behind))
    c.args.latin c.args.opened DOCTYPE c.requires ∙ tell_white c.args.bad c.args.d.now
    c.args.opened (root behind) c.args.latin (c.args.opened + 9)
    c.run-n.ensures.0 c.if-n-at.false ∙ root_away c.args.bad c.args.d.now
    c.args.opened behind c.args.latin c.run-n.result
    (sym c.is_there.ensures ∙ c.if-is_there.false))
