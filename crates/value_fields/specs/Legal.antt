-- The field of a row that is legal, kind by kind: what its bytes say needs no second look.
use Rattle.std.specs.Prelude.{◌≡◌, Bool, cond, ℤ, pos, length, get_or, set, take, drop}
use Rattle.std.proofs.Math.Path.{refl, sym, ap}
use Rattle.std.proofs.Common.{◌∙◌, ⊎_elim, sub-eq-zero_of_le, eq-or-lt_of_le, length-set, take-take, get_or-set_same}
use Rattle.std.proofs.Common.{get_or-set_other}
use Rattle.std.proofs.Math.Bool.{true, false}
use mathlib.Core.List.{List, [], ◌∷◌, ◌++◌}
use Prim.Native.Nat.{ℕ, suc, ◌+◌, ◌-◌, ◌^◌, ◌≤◌, ◌<◌}
use Rattle.std.proofs.Math.Numerals.{add-one}
use native.Mathlib.Omega.{arith}
use borrow.Author.Tests.{eq-eqb, ne_eqb}
use Rattle.std.proofs.Math.ListN.{get_or-eq_default}
use Rattle.below.specs.Below.{lt_or_le}
use Rattle.cells.specs.rule.Cell.{signed_of}
use Rattle.places.specs.rule.Places.{pick, run}
use Rattle.places.specs.Laws.{pick_run}
use Rattle.layout.specs.rule.Row.{row_at}
use Rattle.layout.specs.declared.Header.{Header}
use Rattle.layout.specs.declared.Row.{Row}
use Rattle.layout.specs.declared.Spread.TheVariants.{Bits, Fields}
use Rattle.layout.specs.declared.Kind.{Kind}
use Rattle.layout.specs.declared.Kind.TheVariants.{Single, Multiple, Quantity, Character, Logical}
use Rattle.fields.specs.Facts.{LineFacts, KindFacts}
use Rattle.widths.specs.Width.{size_small}
use Rattle.sound.specs.rule.Rows.{rows_of, length_of}
use Rattle.sound.specs.Rows.{row_facts}
use Rattle.records.specs.rule.Value.{reading_at}
use Rattle.records.specs.Tables.{table_ready}
use Rattle.fields.specs.rule.Legal.{legal}
use Rattle.files.specs.rule.Tested.{Tested}
use Rattle.files.specs.Tested.{tested_rows}
use Rattle.fields.specs.rule.Number.{Said, says}
use Rattle.fields.specs.rule.Field.{Field}
use Rattle.fields.specs.rule.Field.{set_bits, bits_field}
use Rattle.fields.specs.rule.Row.{defined, bit_places, reading_of}
use Rattle.sets.specs.rule.Sets.{is_illegal}
use Rattle.sets.specs.Full.{EachLegal, always}
use Rattle.commas.specs.rule.Csv.{field_bytes}
use Rattle.value_fields.specs.rule.Values.{export_number, codes_behind, set_text, export_field, row_field}
use Rattle.widths.specs.rule.Width.{decimals_of}

-- a number that is said has few digits
abbrev pub Told : Said → Type 0
Told x = (z : ℤ) → x ≡ says z → (signed_of z).size < 10 ^ 16

-- of a bitstring of w bytes from the place p on, all of whose categories are defined: those that are set, from byte i on, and what it says
abbrev pub bits_from : ℕ → List ℕ → ℕ → ℕ → List ℤ
bits_from w r p i = set_bits (defined always (suc i) (w - i)) (pick r (bit_places p (defined always (suc i) (w - i))))

abbrev pub each_field : ℕ → List ℕ → ℕ → Field
each_field w r p = bits_field (defined always 1 w) (pick r (bit_places p (defined always 1 w)))

-- no category before byte i is set, and that of byte i is, if there is one
pub record FirstSet (w : ℕ) (r : List ℕ) (p i : ℕ) : Type 0 where
  pub few : i ≤ w
  pub same : bits_from w r p 0 ≡ bits_from w r p i
  pub set : i < w → get_or r (p + i) 0 ≡ 49

-- of the first n rows those that are marked have every category from 1 to w
abbrev pub Full : List ℤ → ℕ → ℕ → List ℕ → Type 0
Full t v n full = (i : ℕ) → i < n → get_or full i 0 ≡ 49 → EachLegal t v (row_at t i) (row_at t i).width

-- ---- one row more is marked, or not
pub full_next : (t : List ℤ) (v : ℕ) (full : List ℕ) (i : ℕ) (b : Bool) → Full t v i full
    → (b ≡ true → EachLegal t v (row_at t i) (row_at t i).width) → Full t v (i + 1) (set full i (cond b 49 48))
full_next t v full i b f g j l e = ⊎_elim below here (lt_or_le j i)
  where
    mark : ℕ
    mark = cond b 49 48

    below : j < i → EachLegal t v (row_at t j) (row_at t j).width
    below k = f j k (sym (get_or-set_other full i j mark 0 (λ q. omega arith)) ∙ e)

    marked : (c : Bool) → ◌≡◌ {A = ℕ} (cond c 49 48) 49 → c ≡ true
    marked true q = refl
    marked false q = absurd (omega arith)

    -- what stands there is the mark, or nothing
    stands : get_or (set full i mark) i 0 ≡ 49 → mark ≡ 49
    stands q = ⊎_elim
        (λ h. sym (get_or-set_same full i mark 0 h) ∙ q)
        (λ h. absurd (omega (arith, get_or-eq_default (set full i mark) 0 {n = i} (rw (length-set full i mark) h), q)))
        (lt_or_le i (length full))

    here : i ≤ j → EachLegal t v (row_at t j) (row_at t j).width
    here k = let q : j ≡ i = omega arith in rw q (g (marked b (stands (rw q at e))))

width_most : (k : Kind) (r : Row) → KindFacts k r → r.width ≤ 9999
width_most Single r f = omega (arith, f.few)
width_most (Multiple Bits) r f = f.few
width_most (Multiple (Fields n b)) r f = omega (arith, f.few)
width_most (Quantity g) r f = omega (arith, f.width.few)
width_most Character r f = omega (arith, f.few)
width_most Logical r f = omega (arith, f.few)

pub below_of : (c w : ℕ) → c ≤ w → (c ≡ w → ⊥) → c < w
below_of c w h ne = ⊎_elim (λ e. absurd (ne e)) (λ l. l) (eq-or-lt_of_le h)

-- what is known of a row before a record is at hand
module _ {t : List ℤ} {h : Header} (g : Tested t h) {i : ℕ} (low : i < h.rows) where
  pub row_fits : i < 512
  row_fits =
      let f = (table_ready t g.good (length_of t) (omega arith)).few in
      let e = tested_rows g in
      omega arith

  pub row_lined : {r : Row} → r ≡ row_at t i → LineFacts t h.rows r × (r.width ≤ 9999)
  row_lined is =
      let f = row_facts t g.good i (rw (tested_rows g) at low) in
      rw (tested_rows g, is) (f.lines, width_most (row_at t i).kind (row_at t i) f.kind)

  -- a number that the row allows has few digits
  pub row_small : {r : Row} → r ≡ row_at t i → (z : ℤ) → legal t h.rows r z ≡ true → (signed_of z).size < 10 ^ 16
  row_small {r} is z l =
      let f = row_facts t g.good i (rw (tested_rows g) at low) in
      let m : legal t (rows_of t) (row_at t i) z ≡ true = rw (tested_rows g, is) at l in
      let s = size_small (row_at t i).kind z (f.least z m) (f.most z m) in
      omega arith

  module _ {r : Row} (is : r ≡ row_at t i) (bytes : List ℕ) where
    reading_is : reading_of t h.rows r bytes ≡ reading_at t i bytes
    reading_is = rw (tested_rows g, is)

    pub row_legal : is_illegal (reading_at t i bytes) ≡ false → is_illegal (reading_of t h.rows r bytes) ≡ false
    row_legal e = rw reading_is e

    -- the row's field is that of what is read
    pub row_text : {f : Field} {k : ℕ} → reading_of t h.rows r bytes ≡ f → decimals_of r.kind ≡ k
        → field_bytes (export_field k f) ≡ field_bytes (row_field t bytes i)
    unfolding row_field
    row_text {f} {k} e d =
        ap field_bytes (ap (export_field k) (sym e ∙ reading_is)
        ∙ ap (λ (n : ℕ). export_field n (reading_at t i bytes)) (sym d ∙ ap (λ (x : Row). decimals_of x.kind) is))

-- of a text that stands in a record the start is kept
pub words_kept : (bytes : List ℕ) (p w n : ℕ) → p + w ≤ length bytes → n ≤ w → take n (drop p bytes) ≡ take n (pick bytes (run p w))
words_kept bytes p w n h l = sym (ap (take n) (pick_run bytes p w h) ∙ take-take n w (drop p bytes) l)

-- ---- bitstrings
place : (p i : ℕ) → p + (suc i - 1) ≡ p + i
place p i = omega arith

module _ (w i : ℕ) (h : i < w) where
  rest : defined always (suc i) (w - i) ≡ suc i ∷ defined always (suc (i + 1)) (w - (i + 1))
  unfolding defined
  rest = let more : w - i ≡ suc (w - (i + 1)) = omega arith in rw (more, add-one i)

  module _ (r : List ℕ) (p : ℕ) where
    pub bytes : pick r (bit_places p (defined always (suc i) (w - i)))
        ≡ get_or r (p + i) 0 ∷ pick r (bit_places p (defined always (suc (i + 1)) (w - (i + 1))))
    unfolding bit_places
    bytes = rw (rest, place p i)

    pub bit_set : get_or r (p + i) 0 ≡ 49 → bits_from w r p i ≡ pos (i + 1) ∷ bits_from w r p (i + 1)
    unfolding set_bits
    bit_set e = rw (bytes, rest, eq-eqb _ _ e, add-one i)

    pub bit_clear : (get_or r (p + i) 0 ≡ 49 → ⊥) → bits_from w r p i ≡ bits_from w r p (i + 1)
    unfolding set_bits
    bit_clear e = rw (bytes, rest, ne_eqb _ _ e)

    pub codes_set : get_or r (p + i) 0 ≡ 49
        → codes_behind (bits_from w r p i) ≡ (59 ∷ []) ++ (export_number 0 (pos (i + 1)) ++ codes_behind (bits_from w r p (i + 1)))
    unfolding codes_behind
    codes_set e = ap codes_behind (bit_set e)

    pub text_set : get_or r (p + i) 0 ≡ 49
        → export_number 0 (pos (i + 1)) ++ codes_behind (bits_from w r p (i + 1)) ≡ set_text (bits_from w r p i)
    unfolding set_text
    text_set e = sym (ap set_text (bit_set e))

pub bits_over : (w : ℕ) (r : List ℕ) (p i : ℕ) → w ≤ i → bits_from w r p i ≡ []
unfolding defined set_bits
bits_over w r p i h = rw (sub-eq-zero_of_le h)
