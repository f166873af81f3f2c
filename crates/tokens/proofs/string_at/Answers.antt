use mathlib.Core.Path.{◌∙◌, sym}
use native.Mathlib.Omega.{arith}
use borrow.Author.Tests.{eq-eqb, ne_eqb}
use Rattle.scan.proofs.Texts.{stepped, ended, from_text}
use Rattle.marks.proofs.Levels.{ahead, string_ahead}
use Rattle.tokens.specs.Token.{string_in}
use Rattle.tokens.proofs.string_at.Goals as goal

pub returns-then-byte-ne34 : goal.returns-then-byte-ne34
unfolding string_in
returns-then-byte-ne34 c = rw (
  (stepped _ _ c.next_byte.ensures c.in-Byte.is).split,
  ne_eqb _ 34 c.if-byte-ne34.true,
)

pub overflow_sub-result : goal.overflow_sub-result
overflow_sub-result c = let a = ahead (string_ahead _ (from_text _ _) _) (sym c.string.ensures ∙ c.in-Past.is) in
    omega arith

pub overflow_sub-result-in-Past : goal.overflow_sub-result-in-Past
overflow_sub-result-in-Past c = let a = ahead (string_ahead _ (from_text _ _) _) (sym c.string.ensures ∙ c.in-Past.is) in
    omega arith

pub returns-in-Past : goal.returns-in-Past
unfolding string_in
returns-in-Past c =
    let s = stepped _ _ c.next_byte.ensures
    c.in-Byte.is in
    rw (
      s.split,
      eq-eqb _ 34 c.if-byte-ne34.false,
      sym c.string.ensures ∙ c.in-Past.is,
      s.next,
    )

pub returns-in-Unclosed : goal.returns-in-Unclosed
unfolding string_in
returns-in-Unclosed c =
    let s = stepped _ _ c.next_byte.ensures
    c.in-Byte.is in
    rw (s.split, eq-eqb _ 34 c.if-byte-ne34.false, sym c.string.ensures ∙ c.in-Unclosed.is)

pub returns-in-Bad : goal.returns-in-Bad
unfolding string_in
returns-in-Bad c =
    let s = stepped _ _ c.next_byte.ensures
    c.in-Byte.is in
    rw (
      s.split,
      eq-eqb _ 34 c.if-byte-ne34.false,
      sym c.string.ensures ∙ c.in-Bad.is,
    )

pub returns-in-End : goal.returns-in-End
unfolding string_in
returns-in-End c = rw (ended _ _ c.next_byte.ensures c.in-End.is)
