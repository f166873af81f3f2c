-- `tokens::step_gap` meets its contract.
use mathlib.Core.Path.{◌∙◌, sym}
use borrow.Author.Tests.{eq-eqb, ne_eqb}
use Rattle.scan.specs.rule.Number.{is_space}
use Rattle.scan.proofs.Texts.{stepped, ended}
use Rattle.tokens.specs.rule.Gap.{gap_step}
use Rattle.tokens.specs.Gap.{pace_of}
use Rattle.tokens.proofs.step_gap.Goals as goal

pub returns-then-class_of-eq-SPACE : goal.returns-then-class_of-eq-SPACE
unfolding gap_step pace_of is_space
returns-then-class_of-eq-SPACE c =
    let s = stepped _ _ c.next_byte.ensures c.in-Byte.is in
    rw (s.split, eq-eqb _ 1 (sym c.class_of.ensures ∙ c.if-class_of-eq-SPACE.true), s.next)

pub returns-then-byte-ne60 : goal.returns-then-byte-ne60
unfolding gap_step pace_of is_space
returns-then-byte-ne60 c =
    let s = stepped _ _ c.next_byte.ensures
    c.in-Byte.is in
    rw (s.split, ne_eqb _ 1 (λ e. c.if-class_of-eq-SPACE.false (c.class_of.ensures ∙ e)), ne_eqb _ 60 c.if-byte-ne60.true)

pub returns-in-Past : goal.returns-in-Past
unfolding gap_step pace_of is_space
returns-in-Past c =
    let s = stepped _ _ c.next_byte.ensures
    c.in-Byte.is in
    rw (
      s.split,
      ne_eqb _ 1 (λ e. c.if-class_of-eq-SPACE.false (c.class_of.ensures ∙ e)),
      eq-eqb _ 60 c.if-byte-ne60.false,
      sym c.comment.ensures ∙ c.in-Past.is,
    )

pub returns-in-Unclosed : goal.returns-in-Unclosed
unfolding gap_step pace_of is_space
returns-in-Unclosed c =
    let s = stepped _ _ c.next_byte.ensures
    c.in-Byte.is in
    rw (
      s.split,
      ne_eqb _ 1 (λ e. c.if-class_of-eq-SPACE.false (c.class_of.ensures ∙ e)),
      eq-eqb _ 60 c.if-byte-ne60.false,
      sym c.comment.ensures ∙ c.in-Unclosed.is,
    )

pub returns-in-Bad : goal.returns-in-Bad
unfolding gap_step pace_of is_space
returns-in-Bad c =
    let s = stepped _ _ c.next_byte.ensures
    c.in-Byte.is in
    rw (
      s.split,
      ne_eqb _ 1 (λ e. c.if-class_of-eq-SPACE.false (c.class_of.ensures ∙ e)),
      eq-eqb _ 60 c.if-byte-ne60.false,
      sym c.comment.ensures ∙ c.in-Bad.is,
    )

pub returns-in-End : goal.returns-in-End
unfolding gap_step pace_of is_space
returns-in-End c =
    rw (ended _ _ c.next_byte.ensures c.in-End.is)
