use mathlib.Core.Path.{◌∙◌, sym}
use borrow.Author.Tests.{eq-eqb, ne_eqb}
use Rattle.scan.proofs.Texts.{stepped, ended}
use Rattle.tokens.specs.Token.{letter_in}
use Rattle.tokens.proofs.letter_at.Goals as goal

pub returns-then-class_of-eq-LETTER : goal.returns-then-class_of-eq-LETTER
unfolding letter_in
returns-then-class_of-eq-LETTER c =
    let s = stepped _ _ c.next_byte.ensures c.in-Byte.is in
    rw (s.split, eq-eqb _ 3 (sym c.class_of.ensures ∙ c.if-class_of-eq-LETTER.true), s.next)

pub returns-else-class_of-eq-LETTER : goal.returns-else-class_of-eq-LETTER
unfolding letter_in
returns-else-class_of-eq-LETTER c =
    let s = stepped _ _ c.next_byte.ensures c.in-Byte.is in
    rw (s.split, ne_eqb _ 3 (λ e. c.if-class_of-eq-LETTER.false (c.class_of.ensures ∙ e)))

pub returns-in-End : goal.returns-in-End
unfolding letter_in
returns-in-End c = rw (ended _ _ c.next_byte.ensures c.in-End.is)
