-- `digits::put_quantity` meets its contract: the amount, and a minus, where there is one, before it.
use mathlib.Core.Path.{◌≡◌, ap, ◌∙◌}
use mathlib.Core.List.{List}
use Prim.Native.Nat.{ℕ, ◌≤◌}
use native.Mathlib.Omega.{arith}
use mir.Facts.{to_z-of_z}
use lib.ListN.{length, set}
use Rattle.places.specs.Laws.{length_put}
use Rattle.cells.specs.rule.Cell.{signed_of}
use Rattle.widths.specs.rule.Width.{minus_of}
use Rattle.digits.specs.Right.{minus_last, minus_none}
use mir.Syntax.{w64}
use Rattle.digits.proofs.put_quantity.Goals as goal
use Rattle.digits.proofs.put_quantity.Goals.{After-signed_of-s, Then-s}

-- the number is read back from its bits as it is
split : (c : After-signed_of-s) → c.signed_of-s.result ≡ signed_of c.args.z
split c = c.signed_of-s.ensures ∙ ap signed_of (to_z-of_z {w = w64} c.ranges.z)

-- where there is a minus, it has a place
minus_one : (c : Then-s) → minus_of c.args.z ≡ 1
minus_one c = rw (← split (goal.at.Then-s c).After-signed_of-s, c.if-s.true)

pub overflow_sub-left : goal.overflow_sub-left
overflow_sub-left c = omega (arith, minus_one c, c.requires.wide.0.tail)

pub put_amount-requires : goal.put_amount-requires
put_amount-requires c =
    let p = c.requires in
    let o = minus_one (goal.at.put_amount-requires c).Then-s in record {
      tens = p.tens;
      decimals_bound = (p.wide.0.decimals, omega (arith, o, p.wide.0.tail), omega (arith, o, p.wide.0.tail, p.wide.1));
    }

pub bounds-out-at : goal.bounds-out-at
bounds-out-at c =
    let p = c.requires in
    omega (arith, minus_one (goal.at.bounds-out-at c).Then-s, p.wide.0.tail, p.wide.1, simp length_put at (ap length c.put_amount.ensures))

pub returns-then-s : goal.returns-then-s
returns-then-s c =
    let h : 1 ≤ c.args.w = omega (arith, minus_one (goal.at.returns-then-s c).Then-s, c.requires.wide.0.tail) in
    ap (λ (l : List ℕ). set l c.args.at 45) c.put_amount.ensures
    ∙ minus_last c.args.f c.args.w c.args.z _ (split (goal.at.returns-then-s c).After-signed_of-s) _ c.args.at h c.if-s.true

pub returns : goal.returns
returns c =
    c.put_amount-2.ensures ∙ minus_none c.args.f c.args.w c.args.z _ (split (goal.at.returns c).After-signed_of-s) _ c.args.at c.if-s.false
