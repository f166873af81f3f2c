-- The numbers on a row's lines: that they stand in the table, that they rise, the least and the most of them, and what follows for
-- their limits, their widths and their being different.
use Rattle.std.specs.Prelude.{◌≡◌, refl, Bool, true, false, cond, not, ◌&&◌, ◌||◌, List, ℕ, ◌+◌, ◌/◌, ◌^◌, ◌≤◌, ◌<◌, max, ℤ, pos, negsuc}
use Rattle.std.specs.Prelude.{length}
use Rattle.std.proofs.Common.{◌∙◌, lt_of_le_of_lt, leb-true}
use Rattle.std.proofs.Math.Nat.{le_antisymm}
use native.Mathlib.Omega.{arith}
use Rattle.std.specs.Int.Signed.{le_z}
use Rattle.below.specs.rule.Below.{max_below}
use Rattle.below.specs.Below.{both_and, all_none, all_at_lem, all_of}
use Rattle.below.specs.Below.{max_none, max_at, max_least, same_bool, holds_not, and_true, and_left}
use Rattle.below.specs.Below.{and_right}
use Rattle.cells.specs.rule.Cell.{signed_of}
use Rattle.ascii.specs.Tens.{digits_few}
use Rattle.cells.specs.Order.{le_join}
use Rattle.layout.specs.rule.Layout.{most_rows, most_lines, header_size, row_size, line_size, line_base}
use Rattle.layout.specs.declared.Row.{Row}
use Rattle.layout.specs.declared.Spread.TheVariants.{Bits, Fields}
use Rattle.layout.specs.declared.Kind.{Kind}
use Rattle.layout.specs.declared.Kind.TheVariants.{Single, Multiple, Quantity, Character, Logical}
use Rattle.widths.specs.rule.Width.{need, fits_kind, lowest, highest, size_of, quantity_width, decimals_of}
use Rattle.widths.specs.Width.{need_between}
use Rattle.widths.specs.Width.{size_small, FewDecimals, tail_few, whole_upto}
use Rattle.sound.specs.rule.Sound.{values_fit, lines_plain, lines_good, value_at, range_good, range_width, widest}
use Rattle.strides.specs.declared.Hull.{Hull}
use Rattle.strides.specs.Stride.{Strided}
use Rattle.strides.specs.rule.Stride.{all_differ}
use Rattle.strides.specs.Hull.{Hulled}

-- subfields are some, and have a width
abbrev pub Subfielded : Kind → Type 0
Subfielded Single = Unit
Subfielded (Multiple Bits) = Unit
Subfielded (Multiple (Fields n b)) = (1 ≤ n) × (1 ≤ b)
Subfielded (Quantity f) = Unit
Subfielded Character = Unit
Subfielded Logical = Unit

-- n lines from b on stand in a table of v rows
pub record Standing (t : List ℤ) (v b n : ℕ) : Type 0 where
  pub few_rows : v ≤ most_rows
  pub few_lines : b + n ≤ most_lines
  pub stand : line_base v (b + n) ≤ length t

-- a row's position lies where positions may, and its subfields have a width
pub record Placed (r : Row) : Type 0 where
  pub from_one : 1 ≤ r.start
  pub low : r.start ≤ 16384
  pub finish_low : r.finish ≤ 16384
  pub subfields : Subfielded r.kind

-- ---- laws
-- lines that stand are numbers four apart
pub standing_strided : {t : List ℤ} {v b n : ℕ} → Standing t v b n → Strided t (line_base v b) line_size n
standing_strided s = record { few = omega arith; apart = omega arith; near = omega arith; stand = omega arith }

-- and rows that stand have idents a row apart
pub rows_strided : {t : List ℤ} {v : ℕ} → Standing t v 0 0 → Strided t header_size row_size v
rows_strided s = record { few = omega arith; apart = omega arith; near = omega arith; stand = omega arith }

-- ---- limits and widths go by the hull
unfoldable pub hull_fits : Kind → Hull → Bool
hull_fits k h = le_z (lowest k) h.least && le_z h.most (highest k)

unfoldable pub hull_width : Kind → Hull → ℕ
hull_width k h = max (need k h.least) (need k h.most)

pub fits_small : (k : Kind) (z : ℤ) → fits_kind k z ≡ true → size_of z ≤ 999999999999999
fits_small k z e = size_small k z (and_left (le_z (lowest k) z) (le_z z (highest k)) e)
    (and_right (le_z (lowest k) z) (le_z z (highest k)) e)

module _ (k : Kind) (f : ℕ → ℤ) (n : ℕ) (h : Hull) (u : Hulled f n h) where
  -- every number of the hull fits just where its least and most do
  pub hull_fits_lem : values_fit k f n ≡ hull_fits k h
  unfolding values_fit hull_fits
  hull_fits_lem =
      same_bool _ _
      (λ e. and_true (le_z (lowest k) h.least) (le_z h.most (highest k))
      (rw u.least_is (and_left (le_z (lowest k) (f u.least_at)) _ (all_at_lem (λ j. fits_kind k (f j)) n u.least_at u.least_below e)))
      (rw u.most_is (and_right (le_z (lowest k) (f u.most_at)) _ (all_at_lem (λ j. fits_kind k (f j)) n u.most_at u.most_below e))))
      (λ e. all_of (λ j. fits_kind k (f j)) n (λ j l. and_true (le_z (lowest k) (f j)) (le_z (f j) (highest k))
      (le_join (lowest k) h.least (f j) (and_left (le_z (lowest k) h.least) _ e) (u.low j l))
      (le_join (f j) h.most (highest k) (u.high j l) (and_right (le_z (lowest k) h.least) _ e))))

  all_fit : hull_fits k h ≡ true → (j : ℕ) → j < n → fits_kind k (f j) ≡ true
  unfolding values_fit
  all_fit e j l = all_at_lem (λ i. fits_kind k (f i)) n j l (hull_fits_lem ∙ e)

  pub least_fits : hull_fits k h ≡ true → fits_kind k h.least ≡ true
  least_fits e = rw u.least_is (all_fit e u.least_at u.least_below)

  pub most_fits : hull_fits k h ≡ true → fits_kind k h.most ≡ true
  most_fits e = rw u.most_is (all_fit e u.most_at u.most_below)

  -- and none is wider than the wider of the two
  pub hull_width_lem : hull_fits k h ≡ true → max_below n (λ j. need k (f j)) ≡ hull_width k h
  unfolding hull_width
  hull_width_lem e =
      le_antisymm
      (max_least (λ j. need k (f j)) n (max (need k h.least) (need k h.most))
      (λ j l. need_between k h.least (f j) h.most (u.low j l) (u.high j l)
      (lt_of_le_of_lt (fits_small k h.least (least_fits e)) (omega arith))
      (lt_of_le_of_lt (fits_small k h.most (most_fits e)) (omega arith))))
      (omega (
        arith,
        rw (← u.least_is) at (max_at (λ j. need k (f j)) n u.least_at u.least_below),
        rw (← u.most_is) at (max_at (λ j. need k (f j)) n u.most_at u.most_below),
      ))

-- ---- a number within the limits of its kind takes at most 9,999 bytes
code_few : (z : ℤ) → le_z z (pos 9999) ≡ true → le_z (pos 1) z ≡ true → size_of z ≤ 9999
unfolding signed_of
code_few (pos n) e g = leb-true n 9999 e
code_few (negsuc n) e g = holds_not g refl

pub need_few : (k : Kind) (z : ℤ) → FewDecimals k → fits_kind k z ≡ true → need k z ≤ 9999
unfolding need quantity_width decimals_of lowest highest
need_few Single z d e = omega (arith, digits_few (size_of z))
need_few (Multiple Bits) z d e = code_few z (and_right (le_z (pos 1) z) (le_z z (pos 9999)) e)
    (and_left (le_z (pos 1) z) (le_z z (pos 9999)) e)
need_few (Multiple (Fields n w)) z d e = omega (arith, digits_few (size_of z))
need_few (Quantity f) z d e =
    omega (
      arith,
      whole_upto f (size_of z),
      digits_few (size_of z / 10 ^ f.decimals),
      tail_few f d.few,
      minus_few (signed_of z).minus,
    )
  where
    minus_few : (b : Bool) → cond b 1 0 ≤ 1
    minus_few true = omega arith
    minus_few false = omega arith
need_few Character z d e = omega arith
need_few Logical z d e = omega arith

-- the range's ends
pub range_few : (r : Row) → FewDecimals r.kind → range_good r ≡ true → range_width r ≤ 9999
unfolding range_width
range_few r d = go r.range
  where
    go : (b : Bool) → (not b || (le_z r.from r.to && (fits_kind r.kind r.from && fits_kind r.kind r.to))) ≡ true
        → cond b (max (need r.kind r.from) (need r.kind r.to)) 0 ≤ 9999
    go true e =
        let both = and_right (le_z r.from r.to) (fits_kind r.kind r.from && fits_kind r.kind r.to) e in
        omega (
          arith,
          need_few r.kind r.from d (and_left (fits_kind r.kind r.from) (fits_kind r.kind r.to) both),
          need_few r.kind r.to d (and_right (fits_kind r.kind r.from) (fits_kind r.kind r.to) both),
        )
    go false e = omega arith

module _ (t : List ℤ) (v : ℕ) (r : Row) (h : Hull) (u : Hulled (value_at t v r.before) r.lines h) where
  pub widest_hull : hull_fits r.kind h ≡ true → widest t v r ≡ max (range_width r) (hull_width r.kind h)
  unfolding widest
  widest_hull e = rw (hull_width_lem r.kind (value_at t v r.before) r.lines h u e)

-- a row without lines has the range's width
pub widest_none : (t : List ℤ) (v : ℕ) (r : Row) → r.lines ≡ 0 → widest t v r ≡ range_width r
unfolding widest
widest_none t v r e = rw (e, max_none _) (omega arith)

pub lines_none : (t : List ℤ) (v : ℕ) (r : Row) → r.lines ≡ 0 → lines_good t v r ≡ true
unfolding lines_good lines_plain values_fit all_differ
lines_none t v r e = rw e (both_and (both_and (all_none _) (all_none _)) (all_none _))
