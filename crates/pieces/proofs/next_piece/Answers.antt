use mathlib.Core.Path.{sym, ◌∙◌, ap}
use Prim.Native.Nat.{◌+◌}
use native.Mathlib.Omega.{arith}
use Rattle.cuts.specs.declared.Terminator.{Terminator}
use Rattle.pieces.specs.Pieces.{none_clear, none_more, count_clear, count_more, boundary_sized, span_ended}
use Rattle.pieces.specs.Pieces.{span_last}
use Rattle.pieces.proofs.next_piece.Goals as goal

pub loop-i-init : goal.loop-i-init
loop-i-init c =
    let f = c.low_from-i.ensures in
    (none_clear _ _ _ f.clear, sym (count_clear _ _ _ f.clear), f.low, omega arith)

pub returns-then-boundary-ne0 : goal.returns-then-boundary-ne0
returns-then-boundary-ne0 c =
    let l = c.loop-i.invariant in
    span_ended _ _ _ _ c.requires l.0 l.1 _
    c.loop-i-test.true c.boundary_at-boundary.ensures c.if-boundary-ne0.true

pub loop-i-preserved : goal.loop-i-preserved
loop-i-preserved c =
    let l = c.loop-i.invariant in
    let f = c.low_from-i-in-loop-i.ensures in (
      none_more _ _ _ _ l.0 (boundary_sized _ (ap (λ (w : Terminator). w.size) (sym c.boundary_at-boundary.ensures)
          ∙ c.if-boundary-ne0.false)) (none_clear _ _ _ f.clear),
      ap (λ x. x + 1) l.1 ∙ sym (count_more _ _ _ _ l.0.on c.loop-i-test.true
          (l.2 c.loop-i-test.true) f.clear),
      f.low,
      omega (arith, l.3, f.clear.on),
    )

pub returns : goal.returns
returns c = let l = c.loop-i.invariant in span_last _ _ _ _ c.requires l.0 l.1 c.loop-i-test.false

pub boundary_at-boundary-requires : goal.boundary_at-boundary-requires
boundary_at-boundary-requires c = c.loop-i-test.true

pub overflow_add-lows : goal.overflow_add-lows
overflow_add-lows c = omega (arith, c.loop-i.invariant.3)

pub loop-i-smaller : goal.loop-i-smaller
loop-i-smaller c = omega (arith, c.low_from-i-in-loop-i.ensures.clear.on)
