use mathlib.Core.Path.{sym, ◌∙◌}
use mathlib.Core.Bool.{false}
use mathlib.Core.List.{[], ◌∷◌}
use Prim.Native.Nat.{◌+◌}
use native.Mathlib.Omega.{arith}
use Rattle.prologs.specs.rule.Form.{XML, version_word, word, white, pair, one_nought, encoded}
use Rattle.prologs.proofs.Steps.{stands_in, tell_word, word_miss, tell_white, white_miss}
use Rattle.prologs.proofs.declaration_at.Goals as goal

pub overflow_add-at : goal.overflow_add-at
overflow_add-at c = let h = stands_in 60 (63 ∷ 120 ∷ 109 ∷ 108 ∷ []) c.args.d.now c.args.opened c.requires in
    omega arith

pub run-n-requires : goal.run-n-requires
run-n-requires c = let h = stands_in 60 (63 ∷ 120 ∷ 109 ∷ 108 ∷ []) c.args.d.now c.args.opened c.requires in
    omega arith

pub returns-then-n-at : goal.returns-then-n-at
returns-then-n-at c = c.miss.ensures ∙ sym (tell_word false c.args.d.now
    c.args.opened
    (white (word version_word (pair (one_nought ∷ []) (encoded c.args.marked)))) false
    c.args.opened XML c.requires
    ∙ white_miss false c.args.d.now c.args.opened
    (word version_word (pair (one_nought ∷ []) (encoded c.args.marked))) false
    (c.args.opened + 5) c.run-n.ensures.0 c.if-n-at.true)

pub overflow_add-n : goal.overflow_add-n
overflow_add-n c = let h = stands_in 118 (101 ∷ 114 ∷ 115 ∷ 105 ∷ 111 ∷ 110 ∷ [])
    c.args.d.now c.run-n.result
    (sym c.is_there.ensures ∙ c.if-is_there.true) in omega arith

pub version_named-requires : goal.version_named-requires
version_named-requires c = let h = stands_in 118 (101 ∷ 114 ∷ 115 ∷ 105 ∷ 111 ∷ 110 ∷ [])
    c.args.d.now c.run-n.result
    (sym c.is_there.ensures ∙ c.if-is_there.true) in omega arith

pub returns-then-is_there : goal.returns-then-is_there
returns-then-is_there c =
    c.version_named.ensures ∙ sym (tell_word false c.args.d.now c.args.opened
    (white (word version_word (pair (one_nought ∷ []) (encoded c.args.marked)))) false c.args.opened XML c.requires
    ∙ tell_white false c.args.d.now c.args.opened
    (word version_word (pair (one_nought ∷ []) (encoded c.args.marked))) false (c.args.opened + 5)
    c.run-n.ensures.0 c.if-n-at.false ∙ tell_word false c.args.d.now c.args.opened
    (pair (one_nought ∷ []) (encoded c.args.marked)) false
    c.run-n.result version_word (sym c.is_there.ensures ∙ c.if-is_there.true))

pub returns : goal.returns
returns c =
    c.miss-2.ensures ∙ sym (tell_word false c.args.d.now c.args.opened
    (white (word version_word (pair (one_nought ∷ []) (encoded c.args.marked)))) false c.args.opened XML c.requires
    ∙ tell_white false c.args.d.now c.args.opened
    (word version_word (pair (one_nought ∷ []) (encoded c.args.marked))) false (c.args.opened + 5)
    c.run-n.ensures.0 c.if-n-at.false ∙ word_miss false c.args.d.now c.args.opened
    (pair (one_nought ∷ []) (encoded c.args.marked)) false
    c.run-n.result version_word (sym c.is_there.ensures ∙ c.if-is_there.false))
