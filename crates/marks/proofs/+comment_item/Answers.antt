use mathlib.Core.Path.{refl, ◌∙◌, sym}
use borrow.Author.Tests.{eq-eqb, ne_eqb, lt-ltb, le-ltb}
use Rattle.scan.proofs.Texts.{stepped, ended, from_text}
use Rattle.marks.specs.Marks.{item_of}
use Rattle.marks.proofs.Levels.{ahead, item_ahead, comment_item, comment_over, comment_end, comment_past}
use borrow.Author.Rules.{rules}
use native.Mathlib.Omega.{arith}
use Rattle.marks.proofs.+comment_item.Goals as goal

pub comment-loop-byte-init : goal.comment-loop-byte-init
comment-loop-byte-init t c = (refl, omega arith)

pub comment-returns-then-byte-eq62 : goal.comment-returns-then-byte-eq62
comment-returns-then-byte-eq62 t c =
    let s = stepped _ _ c.next_byte.ensures c.in-Byte.is in
    sym (c.loop-byte.invariant.0
    ∙ comment_past _ _ _ _ c.skip_plain-i.ensures ∙ comment_over _ s.split c.if-byte-eq62.true
    ∙ rw s.next)

pub comment-item-requires : goal.comment-item-requires
comment-item-requires t c =
    let s = stepped _ _ c.next_byte.ensures c.in-Byte.is in
    (omega arith, search rules)

pub comment-loop-byte-smaller : goal.comment-loop-byte-smaller
comment-loop-byte-smaller t c =
    let s = stepped _ _ c.next_byte.ensures c.in-Byte.is in
    let a = ahead (item_ahead _ (from_text _ _) _ _) (sym c.item.ensures ∙ c.in-Past.is) in
    omega arith

pub comment-loop-byte-preserved : goal.comment-loop-byte-preserved
comment-loop-byte-preserved t c =
    let s = stepped _ _ c.next_byte.ensures c.in-Byte.is in
    let a = ahead (item_ahead _ (from_text _ _) _ _) (sym c.item.ensures ∙ c.in-Past.is) in (
      c.loop-byte.invariant.0 ∙ comment_past _ _ _ _ c.skip_plain-i.ensures
          ∙ comment_item _ _ _ s.split s.next c.if-byte-eq62.false c.item.ensures c.in-Past.is,
      omega arith,
    )

pub comment-returns-in-Unclosed : goal.comment-returns-in-Unclosed
comment-returns-in-Unclosed t c =
    let s = stepped _ _ c.next_byte.ensures c.in-Byte.is in
    sym (c.loop-byte.invariant.0 ∙ comment_past _ _ _ _ c.skip_plain-i.ensures
    ∙ comment_item _ _ _ s.split s.next c.if-byte-eq62.false c.item.ensures c.in-Unclosed.is)

pub comment-returns-in-Bad : goal.comment-returns-in-Bad
comment-returns-in-Bad t c =
    let s = stepped _ _ c.next_byte.ensures c.in-Byte.is in
    sym (c.loop-byte.invariant.0 ∙ comment_past _ _ _ _ c.skip_plain-i.ensures
    ∙ comment_item _ _ _ s.split s.next c.if-byte-eq62.false c.item.ensures c.in-Bad.is)

pub comment-returns-in-End : goal.comment-returns-in-End
comment-returns-in-End t c = sym (c.loop-byte.invariant.0
    ∙ comment_past _ _ _ _ c.skip_plain-i.ensures
    ∙ comment_end _ (ended _ _ c.next_byte.ensures c.in-End.is))

pub item-returns-then-byte-eq34 : goal.item-returns-then-byte-eq34
unfolding item_of
item-returns-then-byte-eq34 t c = c.string.ensures ∙ rw (eq-eqb _ 34 c.if-byte-eq34.true)

pub item-returns-then-level-lt32 : goal.item-returns-then-level-lt32
unfolding item_of
item-returns-then-level-lt32 t c = c.comment.ensures ∙ rw (
  ne_eqb _ 34 c.if-byte-eq34.false,
  eq-eqb _ 60 c.if-byte-eq60.true,
  lt-ltb _ 32 c.if-level-lt32.true,
)

pub item-returns-then-byte-eq60 : goal.item-returns-then-byte-eq60
unfolding item_of
item-returns-then-byte-eq60 t c = rw (ne_eqb _ 34 c.if-byte-eq34.false, eq-eqb _ 60 c.if-byte-eq60.true, le-ltb _ 32 c.if-level-lt32.false)

pub item-returns : goal.item-returns
unfolding item_of
item-returns t c = rw (ne_eqb _ 34 c.if-byte-eq34.false, ne_eqb _ 60 c.if-byte-eq60.false)
