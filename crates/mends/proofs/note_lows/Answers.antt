use mathlib.Core.Path.{refl, sym, ◌∙◌, ap}
use Prim.Native.Nat.{◌+◌}
use native.Mathlib.Omega.{arith}
use lib.ListN.{length}
use lib.Seq.{sets}
use Rattle.cuts.specs.declared.Terminator.{Terminator}
use Rattle.pieces.specs.Pieces.{none_clear, none_more, count_clear, count_more, boundary_sized, span_ended}
use Rattle.pieces.specs.Pieces.{span_last}
use Rattle.mends.specs.Mend.{stored_on, stored_length, left_clear, left_low, left_low_length, left_ended, left_last}
use Rattle.mends.specs.Mend.{left_listed}
use Rattle.mends.proofs.note_lows.Goals as goal

pub loop-i-init : goal.loop-i-init
loop-i-init c =
    let f = c.low_from-i.ensures in
    let a = c.args in
    let r = left_clear a.d.now a.number a.from c.low_from-i.result f.clear in (
      none_clear _ _ _ f.clear,
      sym (count_clear _ _ _ f.clear),
      f.low,
      omega arith,
      ap (sets a.list.now a.k) r,
      omega (arith, ap length r),
      refl,
      omega arith,
    )

-- the piece's end: nothing is left
pub returns-then-boundary-ne0 : goal.returns-then-boundary-ne0
returns-then-boundary-ne0 c =
    let a = c.args in
    let l = c.loop-i in
    let b = c.boundary_at-boundary.ensures in
    let t = c.loop-i-test.true in
    let u = span_ended a.d.now a.from l.i l.lows c.requires.from_in_bounds.0 l.invariant.0 l.invariant.1 _ t b c.if-boundary-ne0.true in
    let z = left_ended a.d.now a.number l.i _ t b c.if-boundary-ne0.true in record {
      spans = u;
      stored = left_listed a.d.now a.number _ _ a.k l.m l.lows a.from l.i _ u l.invariant.4 l.invariant.5 l.invariant.7 z;
    }

pub note-requires : goal.note-requires
note-requires c =
    let a = c.args in
    let l = c.loop-i in
    let t = c.loop-i-test.true in
    let n = boundary_sized _ (ap (λ (w : Terminator). w.size) (sym c.boundary_at-boundary.ensures) ∙ c.if-boundary-ne0.false) in
    let b = left_low_length a.d.now a.number l.i t n (l.invariant.2 t) in record {
      k_in_bounds = omega (arith, b, l.invariant.5, l.invariant.6, c.requires.from_in_bounds_2);
      kind_bound = (omega arith, c.requires.from_in_bounds.1, omega arith);
    }

pub overflow_add-m : goal.overflow_add-m
overflow_add-m c =
    let a = c.args in
    let l = c.loop-i in
    let t = c.loop-i-test.true in
    let n = boundary_sized _ (ap (λ (w : Terminator). w.size) (sym c.boundary_at-boundary.ensures)
    ∙ c.if-boundary-ne0.false) in
    let b = left_low_length a.d.now a.number l.i t n (l.invariant.2 t) in
    omega (arith, b, l.invariant.5, l.invariant.6, c.requires.from_in_bounds_2)

pub loop-i-preserved : goal.loop-i-preserved
loop-i-preserved c =
    let a = c.args in
    let l = c.loop-i in
    let t = c.loop-i-test.true in
    let n = boundary_sized _ (ap (λ (w : Terminator). w.size) (sym c.boundary_at-boundary.ensures)
    ∙ c.if-boundary-ne0.false) in
    let s = c.note.ensures in
    let f = c.low_from-i-in-loop-i.ensures in
    let g = l.invariant.2 t in
    let r = left_clear a.d.now a.number (l.i + 1) c.low_from-i-in-loop-i.result f.clear in
    let b = left_low_length a.d.now a.number l.i t n g in
    let o = left_low a.d.now a.number l.i t n g in (
      none_more _ _ _ _ l.invariant.0 n (none_clear _ _ _ f.clear),
      ap (λ x. x + 1) l.invariant.1 ∙ sym (count_more _ _ _ _ l.invariant.0.on t g f.clear),
      f.low,
      omega (arith, l.invariant.3, f.clear.on),
      l.invariant.4 ∙ ap (sets l.list l.m) o ∙ stored_on s _ ∙ ap (sets _ (l.m + 3)) r,
      omega (arith, l.invariant.5, b, ap length r),
      stored_length s ∙ l.invariant.6,
      omega (arith, l.invariant.7),
    )

pub returns : goal.returns
returns c =
    let a = c.args in
    let l = c.loop-i in
    let u = span_last a.d.now a.from l.i l.lows c.requires.from_in_bounds.0 l.invariant.0 l.invariant.1 c.loop-i-test.false in
    let z = left_last a.d.now a.number l.i c.loop-i-test.false in record {
      spans = u;
      stored = left_listed a.d.now a.number _ _ a.k l.m l.lows a.from l.i _ u l.invariant.4 l.invariant.5 l.invariant.7 z;
    }

pub boundary_at-boundary-requires : goal.boundary_at-boundary-requires
boundary_at-boundary-requires c = c.loop-i-test.true

pub shape_of-list-then-boundary-ne0 : goal.shape_of-list-then-boundary-ne0
shape_of-list-then-boundary-ne0 c = c.loop-i.invariant.6

pub overflow_add-lows : goal.overflow_add-lows
overflow_add-lows c = omega (arith, c.loop-i.invariant.3)

pub loop-i-smaller : goal.loop-i-smaller
loop-i-smaller c = omega (arith, c.low_from-i-in-loop-i.ensures.clear.on)

pub shape_of-list : goal.shape_of-list
shape_of-list c = c.loop-i.invariant.6
