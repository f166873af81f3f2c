-- `field_values::guess_size` meets its contract.
use mathlib.Core.Path.{sym, ap, ◌∙◌}
use native.Mathlib.Omega.{arith}
use Prim.Native.Nat.{ℕ, ◌+◌, ◌-◌}
use lib.ListN.{length-drop}
use lib.Seq.{length-take-le}
use Rattle.field_values.specs.rule.Value.{zeros}
use Rattle.field_values.specs.rule.Read.{capped_from}
use Rattle.field_values.specs.Steps.{point_is, size_short, size_long, capped_none, rest_is}
use Rattle.field_values.proofs.guess_size.Goals as goal

pub slice_bounds-fold_digits-end : goal.slice_bounds-fold_digits-end
slice_bounds-fold_digits-end c = sym (length-take-le _ c.args.f.now c.byte_to-p.ensures.within)

pub overflow_add-q : goal.overflow_add-q
overflow_add-q c = omega (arith, c.byte_to-p.ensures.within)

pub returns-then-f-q : goal.returns-then-f-q
returns-then-f-q c =
    let args = c.args in (
      c.fold_zeros.ensures.0 ∙ size_short args.k args.f.now (point_is c.byte_to-p.ensures)
          c.fold_digits-n.ensures.0 c.if-f-q.true,
      c.fold_zeros.ensures.1,
    )

pub returns-then-k-d : goal.returns-then-k-d
returns-then-k-d c =
    let args = c.args in
    let m = length-drop (c.byte_to-p.result + 1) args.f.now in (
      sym (capped_none _ _ (omega (arith, m, c.if-k-d.true))) ∙ size_long args.k args.f.now (point_is c.byte_to-p.ensures)
          c.fold_digits-n.ensures.0
          (c.fold_digits-m.ensures.0 ∙ ap (capped_from c.fold_digits-n.result) (rest_is args.f.now
          (c.byte_to-p.result + 1))),
      c.fold_digits-m.ensures.1,
    )

pub returns : goal.returns
returns c =
    let args = c.args in
    let m = length-drop (c.byte_to-p.result + 1) args.f.now in (
      c.fold_zeros-2.ensures.0 ∙ ap (λ (x : ℕ). capped_from c.fold_digits-m.result (zeros (args.k - x))) (sym m)
          ∙ size_long args.k args.f.now (point_is c.byte_to-p.ensures)
          c.fold_digits-n.ensures.0 (c.fold_digits-m.ensures.0
          ∙ ap (capped_from c.fold_digits-n.result) (rest_is args.f.now
          (c.byte_to-p.result + 1))),
      c.fold_zeros-2.ensures.1,
    )
