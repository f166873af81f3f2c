use mathlib.Core.Path.{refl, sym, ap, ◌∙◌}
use native.Mathlib.Omega.{arith}
use Prim.Native.Nat.{◌+◌, ◌<◌}
use lib.ListN.{length, drop}
use lib.Seq.{sets}
use Rattle.pieces.specs.rule.Pieces.{cut_from}
use Rattle.mends.specs.Mend.{stored_on, stored_length}
use Rattle.mends.proofs.Nexts.{mended_next, mended_length, entries_next, entries_length, width_next}
use Rattle.mends.specs.Mend.{piece_length_rest, piece_stored}
use Rattle.mends.proofs.Nexts.{mended_over, entries_over, left_within}
use Rattle.mends.proofs.mend_into.Goals as goal

pub loop-i-init : goal.loop-i-init
loop-i-init c = let q = c.requires in (
  omega arith,
  omega arith,
  q.sized.1,
  refl,
  omega (arith, q.d_in_bounds),
  refl,
  refl,
  omega (arith, q.d_in_bounds_2),
  refl,
)

pub note_lows-p-requires : goal.note_lows-p-requires
note_lows-p-requires c =
    let l = c.loop-i in
    let a = c.args in
    let t = c.loop-i-test.true in
    let n = left_within a.width a.e (l.number + 1) l.i (cut_from 0 (drop l.i a.d.now)) in record {
      from_in_bounds = (t, omega (arith, l.invariant.1, l.invariant.0, t));
      from_in_bounds_2 = omega (arith, n, l.invariant.7);
    }

pub overflow_mul-p : goal.overflow_mul-p
overflow_mul-p c =
    let l = c.loop-i in
    let a = c.args in
    let h : length a.list.now < 18446744073709551616 = omega arith in
    let u = c.note_lows-p.ensures.spans in
    let n = entries_length _ a.e a.width _ _ u (l.number + 1) in
    let m = piece_length_rest _ a.e a.width _ _ u (l.number + 1) in
    omega (arith, h, n, m, l.invariant.7, l.invariant.8, c.note_lows-p.ensures.stored.next)

pub overflow_add-k : goal.overflow_add-k
overflow_add-k c =
    let l = c.loop-i in
    let a = c.args in
    let h : length a.list.now < 18446744073709551616 = omega arith in
    let u = c.note_lows-p.ensures.spans in
    let n = entries_length _ a.e a.width _ _ u (l.number + 1) in
    let m = piece_length_rest _ a.e a.width _ _ u (l.number + 1) in
    omega (arith, h, n, m, l.invariant.7, l.invariant.8, c.note_lows-p.ensures.stored.next)

pub note_rest-k-requires : goal.note_rest-k-requires
note_rest-k-requires c =
    let l = c.loop-i in
    let a = c.args in
    let u = c.note_lows-p.ensures.spans in
    let s = c.note_lows-p.ensures.stored in
    let n = entries_length _ a.e a.width _ _ u (l.number + 1) in
    let m = piece_length_rest _ a.e a.width _ _ u (l.number + 1) in record {
      from_le_stop = (u.on, omega (arith, u.within), omega (arith, l.invariant.1, l.invariant.0, c.loop-i-test.true));
      p_in_bounds = omega (arith, n, m, l.invariant.7, s.next, stored_length s);
    }

pub lay_piece-at-requires : goal.lay_piece-at-requires
lay_piece-at-requires c =
    let l = c.loop-i in
    let a = c.args in
    let u = c.note_lows-p.ensures.spans in
    let n = mended_length _ a.e a.width _ _ u in record {
      spans = (u, c.requires.sized.0);
      from_bound = (width_next _ a.e a.width _ _ u l.invariant.2).0;
      p_in_bounds = omega (arith, n, l.invariant.4);
    }

pub loop-i-preserved : goal.loop-i-preserved
loop-i-preserved c =
    let l = c.loop-i in
    let a = c.args in
    let u = c.note_lows-p.ensures.spans in
    let s = piece_stored _ a.e a.width _ _ u (l.number + 1) c.note_lows-p.ensures.stored
    c.note_rest-k.ensures in
    let r = c.lay_piece-at.ensures in
    let m = mended_next _ a.e a.width _ _ u in
    let n = entries_next _ a.e a.width _ _ u (l.number + 1) in
    let ml = mended_length _ a.e a.width _ _ u in
    let nl = entries_length _ a.e a.width _ _ u (l.number + 1) in (
      u.within,
      omega (arith, l.invariant.1, u.ahead),
      (width_next _ a.e a.width _ _ u l.invariant.2).1,
      l.invariant.3 ∙ ap (sets l.out l.at) m ∙ stored_on r _,
      omega (arith, ml, l.invariant.4, r.next, stored_length r),
      stored_length r ∙ l.invariant.5,
      l.invariant.6 ∙ ap (sets l.list l.k) n ∙ stored_on s _,
      omega (arith, nl, l.invariant.7, s.next, stored_length s),
      stored_length s ∙ l.invariant.8,
    )

pub returns : goal.returns
returns c =
    let l = c.loop-i in
    let a = c.args in record {
      out_after = sym (l.invariant.3 ∙ ap (sets l.out l.at) (mended_over _ a.e _ c.loop-i-test.false a.width));
      list_after = sym (l.invariant.6 ∙ ap (sets l.list l.k) (entries_over _ a.e _ c.loop-i-test.false a.width (l.number + 1) l.i));
    }

pub overflow_add-number : goal.overflow_add-number
overflow_add-number c = omega (arith, c.loop-i.invariant.1, c.loop-i.invariant.0)

pub overflow_add-i : goal.overflow_add-i
overflow_add-i c = omega (arith, c.note_lows-p.ensures.spans.within)

pub loop-i-smaller : goal.loop-i-smaller
loop-i-smaller c = omega (arith, c.note_lows-p.ensures.spans.within, c.note_lows-p.ensures.spans.ahead)

pub shape_of-out : goal.shape_of-out
shape_of-out c = c.loop-i.invariant.5

pub shape_of-list : goal.shape_of-list
shape_of-list c = c.loop-i.invariant.8
