use mathlib.Core.Path.{refl, ◌∙◌, sym}
use Rattle.scan.specs.rule.Word.{word_at}
use Rattle.scan.proofs.Texts.{stepped, ended}
use Rattle.scan.proofs.Words.{word_next, word_not, word_short, word_whole}
use Rattle.scan.proofs.letters.Goals as goal

pub loop-x-init : goal.loop-x-init
unfolding word_at
loop-x-init c = refl

pub returns-then-upper-x : goal.returns-then-upper-x
returns-then-upper-x c =
    let at_byte = c.before.before.before.before in
    let s = stepped _ _ at_byte.next_byte.ensures at_byte.in-Byte.is in
    sym (at_byte.loop-x.invariant ∙ word_not _ _ _ s.split at_byte.loop-x-test.true
    (λ e. c.if-upper-x.true (c.upper.ensures ∙ e)))

pub returns-in-End : goal.returns-in-End
returns-in-End c = sym (c.loop-x.invariant
    ∙ word_short _ _ _ (ended _ _ c.next_byte.ensures c.in-End.is)
    c.loop-x-test.true)

pub loop-x-preserved : goal.loop-x-preserved
loop-x-preserved c =
    let at_byte = c.before.before.before.before in
    let s = stepped _ _ at_byte.next_byte.ensures at_byte.in-Byte.is in
    at_byte.loop-x.invariant ∙ word_next _ _ _ s.split at_byte.loop-x-test.true
    (sym c.upper.ensures ∙ c.if-upper-x.false) ∙ rw s.next

pub returns : goal.returns
returns c = sym (c.loop-x.invariant ∙ word_whole _ _ _ _ c.loop-x-test.false)
