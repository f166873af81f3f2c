-- `digits::put_tail` meets its contract: nothing without a point, else the decimals and the point before them.
use mathlib.Core.Path.{ap, ◌∙◌}
use mathlib.Core.List.{List}
use Prim.Native.Nat.{ℕ}
use native.Mathlib.Omega.{arith}
use lib.ListN.{length, set}
use Rattle.places.specs.Laws.{length_put}
use Rattle.widths.specs.Width.{tail_point}
use Rattle.digits.specs.Right.{tail_none, tail_some}
use Rattle.digits.proofs.put_tail.Goals as goal

pub put_right-requires : goal.put_right-requires
put_right-requires c = omega (arith, tail_point c.args.f c.if-f-eq0.false)

pub bounds-out-at : goal.bounds-out-at
bounds-out-at c =
    omega (arith, tail_point c.args.f c.if-f-eq0.false, simp length_put at (ap length c.put_right.ensures))

pub returns-then-f-eq0 : goal.returns-then-f-eq0
returns-then-f-eq0 c = tail_none c.args.f _ _ _ c.if-f-eq0.true

pub returns : goal.returns
returns c =
    let a = c.args in
    ap (λ (l : List ℕ). set l a.at 46) c.put_right.ensures ∙ tail_some a.f _ _ _ c.if-f-eq0.false
