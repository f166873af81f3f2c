-- `line_bounds::most_by` meets its contract, case by case.
use mathlib.Core.Path.{◌≡◌}
use Prim.Native.Nat.{ℕ, ◌≤◌}
use native.Mathlib.Omega.{arith}
use Rattle.layout.specs.declared.Kind.{Kind}
use Rattle.layout.specs.declared.Kind.TheVariants.{Multiple}
use Rattle.layout.specs.declared.Spread.{Spread}
use Rattle.layout.specs.declared.Spread.TheVariants.{Fields}
use Rattle.line_bounds.specs.Bounds.{most_by, count_of}
use Rattle.line_bounds.proofs.most_by.Goals as goal

fields_few : (k : Kind) (s : Spread) (n b : ℕ) → k ≡ Multiple s → s ≡ Fields n b → count_of k ≤ 16384 → n ≤ 16384
unfolding count_of
fields_few k s n b e f h = rw (e, f) at h

pub overflow_mul-result-in-Fields : goal.overflow_mul-result-in-Fields
overflow_mul-result-in-Fields c = omega (
  arith,
  fields_few _ _ _ _ c.in-Multiple.is c.in-Fields.is
      c.requires.1,
)

pub overflow_add-result-in-Fields : goal.overflow_add-result-in-Fields
overflow_add-result-in-Fields c = omega (
  arith,
  fields_few _ _ _ _ c.in-Multiple.is c.in-Fields.is
      c.requires.1,
)

pub returns-in-Single : goal.returns-in-Single
unfolding most_by
returns-in-Single c = (rw c.in-Single.is, omega arith)

pub returns-in-Bits : goal.returns-in-Bits
unfolding most_by
returns-in-Bits c = (
  rw (c.in-Multiple.is, c.in-Bits.is),
  omega (arith, c.requires.0),
)

pub returns-in-Fields : goal.returns-in-Fields
unfolding most_by
returns-in-Fields c = (
  rw (c.in-Multiple.is, c.in-Fields.is),
  omega (
    arith,
    fields_few _ _ _ _ c.in-Multiple.is c.in-Fields.is
        c.requires.1,
  ),
)

pub returns-in-Quantity : goal.returns-in-Quantity
unfolding most_by
returns-in-Quantity c = (rw c.in-Quantity.is, omega arith)

pub returns-in-Character : goal.returns-in-Character
unfolding most_by
returns-in-Character c = (rw c.in-Character.is, omega (arith, c.requires.0))

pub returns-in-Logical : goal.returns-in-Logical
unfolding most_by
returns-in-Logical c = (rw c.in-Logical.is, omega arith)
