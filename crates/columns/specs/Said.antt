-- The entry of a row of one column in a record where it is legal, by what its bytes say: no number is asked for twice.
-- Assumes nothing.
use Rattle.std.specs.Prelude.{◌≡◌, Bool, List, [], ◌∷◌, ℕ, ◌+◌, ◌-◌, ◌^◌, ◌≤◌, ◌<◌, eqb, ℤ, pos, get_or}
use Rattle.std.proofs.Math.Path.{refl, ap}
use Rattle.std.proofs.Common.{sym, ◌∙◌, arith}
use Rattle.std.proofs.Math.Bool.{true, false, cond}
use Rattle.std.proofs.Math.Nat.{pow-zero}
use Rattle.below.specs.Below.{holds_not}
use Rattle.cells.specs.rule.Cell.{eq_z}
use Rattle.places.specs.rule.Places.{pick, run}
use Rattle.layout.specs.declared.Format.{Format}
use Rattle.layout.specs.declared.Kind.{Kind}
use Rattle.layout.specs.declared.Kind.TheVariants.{Single, Multiple, Quantity, Character, Logical}
use Rattle.layout.specs.declared.Row.{Row}
use Rattle.layout.specs.declared.Spread.{Spread}
use Rattle.fields.specs.rule.Legal.{legal}
use Rattle.fields.specs.rule.Number.{Said, blank, says, wrong, all_spaces, code_of, quantity_of}
use Rattle.fields.specs.rule.Field.{Field, holds, illegal, missing, number, truth, number_field, single_says, quantity_says, truth_field}
use Rattle.fields.specs.rule.Row.{reading_of}
use Rattle.sets.specs.rule.Sets.{is_illegal}
use Rattle.readings.proofs.Laws.{as_single, as_quantity, as_truth}
use Rattle.matrix.specs.declared.Entry.{Entry}
use Rattle.matrix.specs.declared.Entry.TheVariants.{Absent, Scaled}
use Rattle.matrix.specs.Entry.{EntryGood}
use Rattle.columns.specs.rule.Columns.{number_entry}
use Rattle.widths.specs.rule.Width.{decimals_of}
use Rattle.columns.specs.Reach.{shape_of, Readable, entry_good, power_good}
use Rattle.columns.specs.Room.{Room}
use Rattle.columns.specs.Rows.{entries_by, MarkedRow, by_one, count_few}

-- the entry of a SINGLE, and of a quantity over its power of ten
unfoldable pub single_entry : Said → Entry
single_entry blank = Absent
single_entry (says z) = cond (eq_z z (pos 0)) Absent (Scaled z 1)
single_entry wrong = Absent

unfoldable pub amount_entry : ℕ → Said → Entry
amount_entry p blank = Absent
amount_entry p (says z) = Scaled z p
amount_entry p wrong = Absent

-- ---- laws
pub truth_good : (b : ℕ) → EntryGood (number_entry 1 (truth_field (b ∷ [])))
unfolding EntryGood number_entry truth_field
truth_good b = go (all_spaces (b ∷ [])) (eqb b 49) (eqb b 48)
  where
    go : (x y z : Bool) → EntryGood (number_entry 1
        (cond x (holds missing) (cond y (holds (truth true)) (cond z (holds (truth false)) illegal))))
    go true y z = tt
    go false true z = (omega arith, (omega arith, omega arith))
    go false false true = (omega arith, (omega arith, omega arith))
    go false false false = tt

module _ (ok : ℤ → Bool) where
  number_is : (p : ℕ) (z : ℤ) → is_illegal (number_field ok z) ≡ false → number_entry p (number_field ok z) ≡ Scaled z p
  unfolding number_field number_entry is_illegal
  number_is p z = go (ok z)
    where
      go : (b : Bool) → is_illegal (cond b (holds (number z)) illegal) ≡ false
          → number_entry p (cond b (holds (number z)) illegal) ≡ Scaled z p
      go true g = refl
      go false g = holds_not refl g

  pub single_is : (x : Said) → is_illegal (single_says ok x) ≡ false → number_entry 1 (single_says ok x) ≡ single_entry x
  unfolding single_says single_entry number_entry is_illegal
  single_is blank g = refl
  single_is (says z) g = go (eq_z z (pos 0)) g
    where
      go : (b : Bool) → is_illegal (cond b (holds missing) (number_field ok z)) ≡ false
          → number_entry 1 (cond b (holds missing) (number_field ok z)) ≡ cond b Absent (Scaled z 1)
      go true g = refl
      go false g = number_is 1 z g
  single_is wrong g = refl

  pub amount_is : (p : ℕ) (x : Said) → is_illegal (quantity_says ok x) ≡ false → number_entry p (quantity_says ok x) ≡ amount_entry p x
  unfolding quantity_says amount_entry number_entry is_illegal
  amount_is p blank g = refl
  amount_is p (says z) g = number_is p z g
  amount_is p wrong g = refl

-- ---- the entries of a row in a record where it is legal, by its kind
module _ {t : List ℤ} {v : ℕ} {r : Row} {size : ℕ} (q : Readable t v r size) (bytes : List ℕ)
    (good : is_illegal (reading_of t v r bytes) ≡ false) where
  module _ (e : r.kind ≡ Single) where
    abbrev code : Said
    code = code_of (pick bytes (run (r.finish - r.width) r.width))

    pub single_shape : shape_of r.kind ≡ 1
    unfolding shape_of
    single_shape = rw e

    single_made : number_entry (10 ^ decimals_of r.kind) (reading_of t v r bytes) ≡ single_entry code
    unfolding decimals_of
    single_made =
        let f = single_says (legal t v r) code in
        ap (λ (x : Field). number_entry (10 ^ decimals_of r.kind) x) (as_single t v r bytes e)
        ∙ ap (λ (k : Kind). number_entry (10 ^ decimals_of k) f) e
        ∙ ap (λ (p : ℕ). number_entry p f) (pow-zero 10)
        ∙ single_is (legal t v r) code (rw (as_single t v r bytes e) at good)

    pub single_good : EntryGood (single_entry code)
    single_good = rw single_made at (entry_good q bytes (10 ^ decimals_of r.kind) (power_good q).1)

    pub single_row : entries_by r.kind t v r bytes ≡ single_entry code ∷ []
    single_row = by_one t v r bytes single_shape ∙ ap (λ (x : Entry). x ∷ []) single_made

  module _ (f : Format) (e : r.kind ≡ Quantity f) where
    abbrev amount : Said
    amount = quantity_of f (pick bytes (run (r.finish - r.width) r.width))

    pub amount_shape : shape_of r.kind ≡ 1
    unfolding shape_of
    amount_shape = rw e

    amount_made : number_entry (10 ^ decimals_of r.kind) (reading_of t v r bytes) ≡ amount_entry (10 ^ f.decimals) amount
    unfolding decimals_of
    amount_made =
        ap (λ (x : Field). number_entry (10 ^ decimals_of r.kind) x) (as_quantity t v r bytes f e)
        ∙ ap (λ (k : Kind). number_entry (10 ^ decimals_of k) (quantity_says (legal t v r) amount)) e
        ∙ amount_is (legal t v r) (10 ^ f.decimals) amount (rw (as_quantity t v r bytes f e) at good)

    pub amount_good : EntryGood (amount_entry (10 ^ f.decimals) amount)
    amount_good = rw amount_made at (entry_good q bytes (10 ^ decimals_of r.kind) (power_good q).1)

    pub amount_row : entries_by r.kind t v r bytes ≡ amount_entry (10 ^ f.decimals) amount ∷ []
    amount_row = by_one t v r bytes amount_shape ∙ ap (λ (x : Entry). x ∷ []) amount_made

  module _ (e : r.kind ≡ Logical) where
    pub truth_shape : shape_of r.kind ≡ 1
    unfolding shape_of
    truth_shape = rw e

    pub truth_row : entries_by r.kind t v r bytes ≡ number_entry 1 (truth_field (get_or bytes (r.finish - 1) 0 ∷ [])) ∷ []
    unfolding decimals_of
    truth_row =
        let f = truth_field (get_or bytes (r.finish - 1) 0 ∷ []) in
        by_one t v r bytes truth_shape
        ∙ ap (λ (x : Field). number_entry (10 ^ decimals_of r.kind) x ∷ []) (as_truth t v r bytes e)
        ∙ ap (λ (k : Kind). number_entry (10 ^ decimals_of k) f ∷ []) e
        ∙ ap (λ (p : ℕ). number_entry p f ∷ []) (pow-zero 10)

  pub text_shape : r.kind ≡ Character → shape_of r.kind ≡ 0
  unfolding shape_of
  text_shape e = rw e

  pub set_shape : (s : Spread) → r.kind ≡ Multiple s → 2 ≤ shape_of r.kind
  unfolding shape_of
  set_shape s e = rw e (omega arith)

  -- one column has room for one entry
  pub one_room : {allowed : List ℕ} {gap count flags values bound : ℕ} → MarkedRow t v r allowed gap count → shape_of r.kind ≡ 1
      → Room flags values bound count → (flags < values) × (values + 8 ≤ bound)
  one_room m s room =
      let n = m.many ∙ sym (count_few t v r (omega arith)) ∙ s in
      let b = room.behind in
      let i = room.inside in
      (omega arith, omega arith)
