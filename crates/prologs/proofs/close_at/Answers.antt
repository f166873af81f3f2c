use mathlib.Core.Path.{sym, ◌∙◌}
use mathlib.Core.Bool.{false}
use mathlib.Core.List.{[], ◌∷◌}
use Prim.Native.Nat.{◌+◌}
use native.Mathlib.Omega.{arith}
use Rattle.prologs.specs.rule.Form.{done, word}
use Rattle.prologs.proofs.Steps.{stands_in, tell_room, tell_word, word_miss, tell_done}
use Rattle.prologs.proofs.close_at.Goals as goal

pub overflow_add-result : goal.overflow_add-result
overflow_add-result c = let h = stands_in 63 (62 ∷ []) c.args.d.now
    c.run-n.result (sym c.is_there.ensures ∙ c.if-is_there.true) in omega arith

pub returns-then-is_there : goal.returns-then-is_there
returns-then-is_there c = sym (tell_room false c.args.d.now
    c.args.opened (word (63 ∷ 62 ∷ []) done)
    c.args.latin c.args.at
    c.run-n.ensures.0 ∙ tell_word false c.args.d.now
    c.args.opened done c.args.latin
    c.run-n.result (63 ∷ 62 ∷ []) (sym c.is_there.ensures ∙ c.if-is_there.true)
    ∙ tell_done false c.args.d.now c.args.opened
    c.args.latin (c.run-n.result + 2))

pub returns : goal.returns
returns c =
    let args = c.args in
    c.miss.ensures ∙ sym (tell_room false args.d.now args.opened (word (63 ∷ 62 ∷ []) done) args.latin args.at
    c.run-n.ensures.0 ∙ word_miss false args.d.now args.opened done args.latin
    c.run-n.result (63 ∷ 62 ∷ []) (sym c.is_there.ensures ∙ c.if-is_there.false))
