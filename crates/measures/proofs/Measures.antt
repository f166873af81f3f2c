-- What is known of a variable before it is measured gives what the measuring asks for; and its result is the definition's.
use Rattle.std.specs.Prelude.{Ok, Err}
use mathlib.Core.Path.{◌≡◌, refl, ◌∙◌}
use mathlib.Core.Bool.{true, false}
use mathlib.Core.List.{List}
use Prim.Native.Nat.{ℕ, ◌≤◌}
use native.Mathlib.Omega.{arith}
use lib.IntN.{ℤ}
use Rattle.below.specs.Below.{all_at_lem, max_least}
use Rattle.layout.specs.rule.Row.{kind_of, row_of}
use Rattle.layout.specs.declared.Columns.{Columns}
use Rattle.layout.specs.declared.Row.{Row}
use Rattle.layout.specs.declared.Kind.{Kind}
use Rattle.layout.specs.declared.Kind.TheVariants.{Single, Multiple, Quantity, Character, Logical}
use Rattle.widths.specs.rule.Width.{need, fits_kind}
use Rattle.widths.specs.Width.{FewDecimals, Valued}
use Rattle.sound.specs.rule.Sound.{range_good, values_fit, room_good}
use Rattle.sound.specs.Block.{Placed, need_few, range_few}
use Rattle.tokens.specs.rule.Gap.{fault}
use Rattle.variables.specs.declared.Head.{Head}
use Rattle.variables.specs.declared.Rest.{Rest}
use Rattle.measures.specs.Width.{plain_columns, widened, lines_width, widest_of, width_of, full_columns}
use Rattle.measures.specs.Width.{number_in, Measurable, measured}

-- ---- the width
lines_few : (k : Kind) (f : ℕ → ℤ) (n : ℕ) → FewDecimals k → values_fit k f n ≡ true → lines_width k f n ≤ 9999
unfolding lines_width values_fit
lines_few k f n d e = max_least (λ i. need k (f i)) n 9999 (λ i l. need_few k (f i) d (all_at_lem (λ j. fits_kind k (f j)) n i l e))

pub widest_few : (r : Row) (f : ℕ → ℤ) → FewDecimals r.kind → range_good r ≡ true → values_fit r.kind f r.lines ≡ true → widest_of r f
    ≤ 9999
unfolding widest_of
widest_few r f d g e = omega (arith, range_few r d g, lines_few r.kind f r.lines d e)

-- where there are values, they give the width
pub width_valued : (k : Kind) (r : Row) (f : ℕ → ℤ) (size : ℕ) → Valued k → widest_of r f ≡ width_of k r f size
unfolding width_of
width_valued Single r f size v = refl
width_valued (Multiple m) r f size v = refl
width_valued (Quantity q) r f size v = refl
width_valued Character r f size v = absurd v
width_valued Logical r f size v = absurd v

pub width_few : (k : Kind) (r : Row) (f : ℕ → ℤ) (size : ℕ) → widest_of r f ≤ 9999 → size ≤ 4096 → width_of k r f size ≤ 9999
unfolding width_of
width_few Single r f size h s = h
width_few (Multiple m) r f size h s = h
width_few (Quantity q) r f size h s = h
width_few Character r f size h s = omega arith
width_few Logical r f size h s = omega arith

-- the width by the columns but for it
abbrev pub plain_width : Head → Rest → ℕ → (ℕ → ℤ) → ℕ
plain_width h r before f = width_of (row_of (plain_columns h r before)).kind (row_of (plain_columns h r before)) f r.size

module _ (room : List ℤ) (h : Head) (r : Rest) (before : ℕ) (m : Measurable room h r before) where
  pub measured_few : plain_width h r before (number_in room before) ≤ 9999
  unfolding plain_columns row_of
  measured_few =
      width_few _ _ (number_in room before) r.size
      (widest_few (row_of (plain_columns h r before)) (number_in room before) m.ready.decimals m.range m.ready.fits) m.size

  -- what the call of `width_of` answers
  pub width_plain : (c : Columns) (o : Row) (w : ℕ) → c ≡ plain_columns h r before → o ≡ row_of c → w
      ≡ width_of o.kind o (number_in room o.before) r.size → w ≡ plain_width h r before (number_in room before)
  unfolding plain_columns row_of
  width_plain c o w p q e = e ∙ rw (q, p)

  pub wide_few : (w : ℕ) → w ≡ plain_width h r before (number_in room before) → (row_of (widened w (plain_columns h r before))).width ≤ 9999
  unfolding widened row_of
  wide_few w e = rw e measured_few

  pub placed_wide : (w : ℕ) → Placed (row_of (widened w (plain_columns h r before)))
  unfolding plain_columns widened row_of kind_of
  placed_wide w = record { from_one = m.from_one; low = omega (arith, m.ordered, m.low); finish_low = m.low; subfields = m.subfields }

-- ---- the result
module _ (f : ℕ → ℤ) (h : Head) (r : Rest) (before w : ℕ) (c full : Columns) where
  module _ (p : c ≡ plain_columns h r before) (q : w ≡ plain_width h r before f) (s : full ≡ widened w c) where
    pub full_is : full ≡ full_columns f h r before
    unfolding full_columns row_of
    full_is = s ∙ rw (q, p)

    pub measured_yes : room_good (row_of full).kind (row_of full) ≡ true → Ok full ≡ measured f h r before
    unfolding measured row_of
    measured_yes e = rw (← full_is) (rw e)

    pub measured_not : room_good (row_of full).kind (row_of full) ≡ false → Err (fault 7 h.place) ≡ measured f h r before
    unfolding measured row_of
    measured_not e = rw (← full_is) (rw e)
