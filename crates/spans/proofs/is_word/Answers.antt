use mathlib.Core.Path.{refl, sym, ◌∙◌}
use native.Mathlib.Omega.{arith}
use borrow.Author.Tests.{lt-leb, le-leb}
use Rattle.spans.proofs.Hearing.{first_on}
use Rattle.spans.proofs.Words.{word_on_lem, word_off, word_past_lem, word_over, word_bad}
use Rattle.spans.proofs.is_word.Goals as goal

pub loop-x-init : goal.loop-x-init
loop-x-init c = (refl, omega arith)

pub returns-then-x-code : goal.returns-then-x-code
returns-then-x-code c =
    let l = c.loop-x in
    sym (l.invariant.0 ∙ word_off c.args.w.now
    l.x-index _ l.n (sym c.next_char.ensures
    ∙ c.in-One.is) (omega arith) c.if-x-code.true)

pub loop-x-preserved : goal.loop-x-preserved
loop-x-preserved c =
    let args = c.args in
    let l = c.loop-x in
    let e = sym c.next_char.ensures ∙ c.in-One.is in (
      l.invariant.0 ∙ word_on_lem args.w.now l.x-index _ l.n e (omega arith) c.if-x-code.false,
      (first_on args.s.now l.n _ _ e).1,
    )

pub returns-in-End : goal.returns-in-End
returns-in-End c = let l = c.loop-x in
    sym (l.invariant.0 ∙ word_over c.args.w.now l.x-index _ l.n
    (sym c.next_char.ensures ∙ c.in-End.is) ∙ lt-leb _ _ (omega arith))

pub returns-in-Not : goal.returns-in-Not
returns-in-Not c = let l = c.loop-x in
    sym (l.invariant.0 ∙ word_bad c.args.w.now l.x-index _ l.n
    (sym c.next_char.ensures ∙ c.in-Not.is))

pub returns-in-One-next_char : goal.returns-in-One-next_char
returns-in-One-next_char c =
    let l = c.loop-x in
    sym (l.invariant.0 ∙ word_past_lem c.args.w.now l.x-index _ l.n
    (sym c.next_char-2.ensures ∙ c.in-One-next_char.is) (omega arith))

pub returns-in-End-next_char : goal.returns-in-End-next_char
returns-in-End-next_char c = let l = c.loop-x in
    sym (l.invariant.0 ∙ word_over c.args.w.now l.x-index _ l.n
    (sym c.next_char-2.ensures ∙ c.in-End-next_char.is) ∙ le-leb _ _ (omega arith))

pub returns-in-Not-next_char : goal.returns-in-Not-next_char
returns-in-Not-next_char c = let l = c.loop-x in
    sym (l.invariant.0 ∙ word_bad c.args.w.now l.x-index _ l.n
    (sym c.next_char-2.ensures ∙ c.in-Not-next_char.is))
