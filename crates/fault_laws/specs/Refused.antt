-- "A record is refused in the same cases as before": over every row of every well-formed table, and all bytes.
use Rattle.std.specs.Prelude.{◌≡◌, Bool, cond, List, ℤ}
use Rattle.std.proofs.Math.Path.{refl}
use Rattle.std.proofs.Common.{sym, ap, subst, ◌∙◌, ⊎_elim, arith, eqb-true}
use Rattle.std.proofs.Math.Bool.{true, false}
use Prim.Native.Nat.{ℕ, zero, suc, ◌+◌, ◌/◌, ◌^◌, ◌≤◌, ◌<◌, max}
use Rattle.below.specs.rule.Below.{max_below}
use Rattle.below.specs.Below.{max_none, max_at, all_at_lem, and_both, lt_or_le}
use Rattle.layout.specs.rule.Layout.{header_of}
use Rattle.layout.specs.rule.Row.{row_at}
use Rattle.layout.specs.declared.Format.{Format}
use Rattle.layout.specs.declared.Kind.{Kind}
use Rattle.layout.specs.declared.Kind.TheVariants.{Single, Multiple, Quantity, Character, Logical}
use Rattle.layout.specs.declared.Row.{Row}
use Rattle.widths.specs.rule.Width.{tail_of, least_whole, need, quantity_width, size_of}
use Rattle.widths.specs.Width.{whole_least}
use Rattle.fields.specs.Facts.{KindFacts, QuantityFacts, RowFacts}
use Rattle.fields.specs.rule.Row.{reading_of}
use Rattle.sets.specs.rule.Sets.{is_illegal}
use Rattle.sound.specs.rule.Sound.{value_at, range_width, widest, width_good, widths_good, row_good, rows_good, good_at, lines_before}
use Rattle.sound.specs.rule.Sound.{columns_of}
use Rattle.sound.specs.rule.Sound.{well_formed}
use Rattle.sound.specs.rule.Rows.{rows_of, length_of}
use Rattle.sound.specs.Rows.{parts, row_facts}
use Rattle.faults.specs.rule.Fault.{fixed_of, fault_of}
use Rattle.faults.specs.Joined.{some_fault}
use Rattle.fault_laws.specs.Cases.{FixedFacts, same_cases}

-- every number of a quantity takes its fixed places
fixed_need : (f : Format) (z : ℤ) → fixed_of f ≤ need (Quantity f) z
unfolding need quantity_width fixed_of
fixed_need f z = omega (arith, whole_least f (size_of z))

module _ (t : List ℤ) (v : ℕ) (r : Row) (f : Format) (is : r.kind ≡ Quantity f) where
  needs : (z : ℤ) → fixed_of f ≤ need r.kind z
  needs z = rw is (fixed_need f z)

  lines_wide : (n : ℕ) → 1 ≤ max_below n (λ k. need r.kind (value_at t v r.before k))
      → fixed_of f ≤ max_below n (λ k. need r.kind (value_at t v r.before k))
  lines_wide zero h = absurd (omega (arith, max_none (λ k. need r.kind (value_at t v r.before k))))
  lines_wide (suc n) h =
      omega (arith, needs (value_at t v r.before 0), max_at (λ k. need r.kind (value_at t v r.before k)) (suc n) 0 (omega arith))

  -- the widest number does
  fixed_wide : 1 ≤ widest t v r → fixed_of f ≤ widest t v r
  unfolding widest range_width
  fixed_wide h = go r.range refl h
    where
      go : (b : Bool) → r.range ≡ b
          → 1 ≤ max (cond b (max (need r.kind r.from) (need r.kind r.to)) 0)
          (max_below r.lines (λ k. need r.kind (value_at t v r.before k)))
          → fixed_of f ≤ max (cond b (max (need r.kind r.from) (need r.kind r.to)) 0)
          (max_below r.lines (λ k. need r.kind (value_at t v r.before k)))
      go true e l = omega (arith, needs r.from)
      go false e l = omega (arith, lines_wide r.lines (omega arith))

width_quantity : (f : Format) (w m : ℕ) → width_good (Quantity f) w m ≡ true → w ≡ m
unfolding width_good
width_quantity f w m e = eqb-true w m e

module _ (t : List ℤ) (good : well_formed t ≡ true) (i : ℕ) (here : i < rows_of t) where
  row_good_lem : row_good t (rows_of t) (header_of t).lines (lines_before t i) (columns_of t i) ≡ true
  unfolding rows_good
  row_good_lem = all_at_lem (good_at t (rows_of t) (header_of t).lines) (rows_of t) i here (and_both (and_both (parts t good).rows).0).0

  width : width_good (row_at t i).kind (row_at t i).width (widest t (rows_of t) (row_at t i)) ≡ true
  unfolding row_good widths_good
  width = (and_both (and_both (and_both row_good_lem).1).1).0

  width_is : (f : Format) (k : Kind) → k ≡ Quantity f → width_good k (row_at t i).width (widest t (rows_of t) (row_at t i)) ≡ true
      → (row_at t i).width ≡ widest t (rows_of t) (row_at t i)
  width_is f k e g =
      width_quantity f (row_at t i).width (widest t (rows_of t) (row_at t i))
      (subst (λ (x : Kind). width_good x (row_at t i).width (widest t (rows_of t) (row_at t i)) ≡ true) e g)

  fixed_by : (k : Kind) → (row_at t i).kind ≡ k → FixedFacts k (row_at t i)
  fixed_by Single e = tt
  fixed_by (Multiple s) e = tt
  fixed_by (Quantity f) e =
      let w : (row_at t i).width ≡ widest t (rows_of t) (row_at t i) = width_is f (row_at t i).kind e width in
      let a : QuantityFacts f (row_at t i) = subst (λ (k : Kind). KindFacts k (row_at t i)) e (row_facts t good i here).kind in
      let s = a.width.some in
      let g = fixed_wide t (rows_of t) (row_at t i) f e (omega arith) in
      omega arith
  fixed_by Character e = tt
  fixed_by Logical e = tt

  pub row_fixed : FixedFacts (row_at t i).kind (row_at t i)
  row_fixed = fixed_by (row_at t i).kind refl

  -- THE THEOREM
  pub refused_as_before : (bytes : List ℕ)
      → is_illegal (reading_of t (rows_of t) (row_at t i) bytes) ≡ some_fault (fault_of t (rows_of t) (row_at t i) bytes)
  refused_as_before bytes = same_cases t (rows_of t) (row_at t i) bytes (row_facts t good i here).kind row_fixed
