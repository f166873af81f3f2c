use mathlib.Core.Path.{◌≡◌, refl, sym, ◌∙◌}
use lib.ListN.{length, drop, length-drop}
use native.Mathlib.Omega.{arith}
use Rattle.markup.proofs.Gaps.{comment_next, comment_closed, comment_broken, comment_end, stands_long}
use Rattle.markup.proofs.comment.Goals as goal

pub loop-i-init : goal.loop-i-init
loop-i-init c = refl

pub overflow_add-result : goal.overflow_add-result
overflow_add-result c =
    let d = c.args.d.now in
    let i = c.loop-i.i in
    omega (arith, stands_long _ (drop i d) (sym c.dashes_close.ensures ∙ c.if-dashes_close.true), length-drop i d)

pub returns-then-dashes_close : goal.returns-then-dashes_close
returns-then-dashes_close c =
    let l = c.loop-i in
    let a = c.args in
    sym (l.invariant ∙ comment_closed a.bad a.opened a.d.now l.i (omega arith)
    (sym c.two_dashes.ensures ∙ c.if-two_dashes.true)
    (sym c.dashes_close.ensures ∙ c.if-dashes_close.true))

pub returns-then-two_dashes : goal.returns-then-two_dashes
returns-then-two_dashes c =
    let l = c.loop-i in
    let a = c.args in
    sym (l.invariant ∙ comment_broken a.bad a.opened a.d.now l.i (omega arith)
    (sym c.two_dashes.ensures ∙ c.if-two_dashes.true)
    (sym c.dashes_close.ensures ∙ c.if-dashes_close.false))

pub loop-i-preserved : goal.loop-i-preserved
loop-i-preserved c =
    let l = c.loop-i in
    let a = c.args in
    l.invariant ∙ comment_next a.bad a.opened a.d.now l.i (omega arith) (sym c.two_dashes.ensures ∙ c.if-two_dashes.false)

pub returns : goal.returns
returns c =
    let l = c.loop-i in
    let a = c.args in
    let e : l.i ≡ length a.d.now = omega arith in
    rw (c.end_fault.ensures, ← e) (sym (l.invariant ∙ comment_end a.bad a.opened a.d.now l.i (omega arith)))
