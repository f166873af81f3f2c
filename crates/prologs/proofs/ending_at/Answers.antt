use mathlib.Core.Path.{sym, ◌∙◌}
use mathlib.Core.List.{[], ◌∷◌}
use Prim.Native.Nat.{◌+◌}
use native.Mathlib.Omega.{arith}
use Rattle.prologs.specs.rule.Form.{done, word, bracket}
use Rattle.prologs.proofs.Steps.{stands_in, tell_room, tell_bracket, bracket_open, tell_word, word_miss, tell_done}
use Rattle.prologs.proofs.ending_at.Goals as goal

pub returns-then-is_there : goal.returns-then-is_there
returns-then-is_there c = sym (tell_room c.args.bad c.args.d.now
    c.args.opened (bracket (word (62 ∷ []) done))
    c.args.latin c.args.at
    c.run-n.ensures.0 ∙ bracket_open c.args.bad
    c.args.d.now c.args.opened
    (word (62 ∷ []) done) c.args.latin c.run-n.result
    (sym c.is_there.ensures ∙ c.if-is_there.true))

pub overflow_add-result : goal.overflow_add-result
overflow_add-result c =
    let h = stands_in 62 ([]) c.args.d.now
    c.run-n.result (sym c.is_there-2.ensures ∙ c.if-is_there-2.true) in omega arith

pub returns-then-is_there-2 : goal.returns-then-is_there-2
returns-then-is_there-2 c =
    let args = c.args in
    sym (tell_room args.bad args.d.now args.opened (bracket (word (62 ∷ []) done)) args.latin args.at
    c.run-n.ensures.0 ∙ tell_bracket args.bad args.d.now args.opened (word (62 ∷ []) done) args.latin
    c.run-n.result (sym c.is_there.ensures ∙ c.if-is_there.false) ∙ tell_word args.bad args.d.now
    args.opened done args.latin c.run-n.result (62 ∷ []) (sym c.is_there-2.ensures ∙ c.if-is_there-2.true)
    ∙ tell_done args.bad args.d.now args.opened args.latin (c.run-n.result + 1))

pub returns : goal.returns
returns c =
    let args = c.args in
    c.miss.ensures ∙ sym (tell_room args.bad args.d.now args.opened (bracket (word (62 ∷ []) done)) args.latin args.at
    c.run-n.ensures.0 ∙ tell_bracket args.bad args.d.now args.opened (word (62 ∷ []) done) args.latin
    c.run-n.result (sym c.is_there.ensures ∙ c.if-is_there.false)
    ∙ word_miss args.bad args.d.now args.opened done args.latin c.run-n.result (62 ∷ [])
    (sym c.is_there-2.ensures ∙ c.if-is_there-2.false))
