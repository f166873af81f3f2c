-- A row of a tested table: it is ready to be read, its numbers have 15 digits at most, and its categories lie below a power of ten or
-- within
-- its width.
-- Assumes nothing.
use Rattle.std.proofs.Math.Path.{◌≡◌, refl, ap, subst}
use Rattle.std.proofs.Common.{sym, ◌∙◌, lt_of_lt_of_le, lit<}
use Rattle.std.specs.Prelude.{Bool, cond, List, ℕ, ◌+◌, ◌^◌, ◌≤◌, ◌<◌, eqb, ℤ, pos, negsuc, length}
use Rattle.std.proofs.Math.Bool.{true, false}
use Rattle.std.proofs.Math.Nat.{pow-le-pow_right}
use native.Mathlib.Omega.{arith}
use borrow.Author.Tests.{leb-true, ltb-true, ltb-false, eqb-true}
use Rattle.std.proofs.Math.Dec.{ltb}
use Rattle.std.specs.Int.Signed.{le_z}
use Rattle.ascii.specs.rule.Tens.{digits_of}
use Rattle.ascii.specs.Tens.{digits_hold}
use Rattle.layout.specs.rule.Layout.{row_size, row_base, most_rows}
use Rattle.layout.specs.rule.Row.{row_at}
use Rattle.layout.specs.declared.Header.{Header}
use Rattle.layout.specs.declared.Row.{Row}
use Rattle.layout.specs.declared.Kind.{Kind}
use Rattle.layout.specs.declared.Kind.TheVariants.{Single, Multiple, Quantity, Character, Logical}
use Rattle.layout.specs.declared.Spread.{Spread}
use Rattle.layout.specs.declared.Spread.TheVariants.{Bits, Fields}
use Rattle.cells.specs.rule.Cell.{signed_of}
use Rattle.widths.specs.rule.Width.{size_of, need, highest, decimals_of}
use Rattle.widths.specs.Width.{size_small}
use Rattle.fields.specs.rule.Legal.{legal}
use Rattle.fields.specs.rule.Field.{missing, number, members, text, truth, Field, holds, illegal}
use Rattle.fields.specs.rule.Row.{fits_by, fits, reading_of}
use Rattle.fields.specs.Facts.{KindFacts, RowFacts}
use Rattle.fieldlaws.specs.BackLaws.{fit_legal}
use Rattle.fieldlaws.specs.Corrections.{read_fits}
use Rattle.readings.specs.Ready.{RowReady, ready_of}
use Rattle.sound.specs.rule.Rows.{rows_of, length_of}
use Rattle.sound.specs.Rows.{row_facts}
use Rattle.records.specs.Tables.{table_ready}
use Rattle.files.specs.rule.Tested.{Tested}
use Rattle.files.specs.Tested.{tested_rows, tested_length}
use Rattle.quotient.specs.Limits as limits
use Rattle.quotient.specs.Exact.{power_of_ten}
use Rattle.matrix.specs.Entry.{EntryGood}
use Rattle.columns.specs.rule.Columns.{number_entry}

-- a row that a record of so many bytes is long enough for
pub record Readable (t : List ℤ) (v : ℕ) (r : Row) (size : ℕ) : Type 0 where
  pub len : ℕ
  pub facts : RowFacts t v len r
  pub long : len ≤ size

-- every category lies below n, which is some number of marks
pub record Covered (t : List ℤ) (v : ℕ) (r : Row) (n : ℕ) : Type 0 where
  pub some : 1 ≤ n
  pub few : n ≤ 10000
  pub below : (c : ℕ) → legal t v r (pos c) ≡ true → c < n

-- how many marks reach every number of w digits, every category of a bitstring of w bytes, every category of a row
unfoldable pub digits_reach : ℕ → ℕ
digits_reach w = cond (eqb w 1) 10 (cond (eqb w 2) 100 (cond (eqb w 3) 1000 10000))

unfoldable pub bits_reach : ℕ → ℕ
bits_reach w = cond (ltb w 9999) (w + 1) 10000

unfoldable pub reach_by : Kind → ℕ → ℕ
reach_by Single w = 1
reach_by (Multiple Bits) w = bits_reach w
reach_by (Multiple (Fields n b)) w = digits_reach w
reach_by (Quantity f) w = 1
reach_by Character w = 1
reach_by Logical w = 1

-- how many columns a row of this kind has: 0 none, 1 one, 2 one for each category
unfoldable pub shape_of : Kind → ℕ
shape_of Single = 1
shape_of (Multiple s) = 2
shape_of (Quantity f) = 1
shape_of Character = 0
shape_of Logical = 1

-- ---- laws
reach_some : (w : ℕ) → (1 ≤ digits_reach w) × (digits_reach w ≤ 10000)
unfolding digits_reach
reach_some w = go (eqb w 1) (eqb w 2) (eqb w 3)
  where
    go : (a b c : Bool) → (1 ≤ cond a 10 (cond b 100 (cond c 1000 10000))) × (cond a 10 (cond b 100 (cond c 1000 10000)) ≤ 10000)
    go true b c = (omega arith, omega arith)
    go false true c = (omega arith, omega arith)
    go false false true = (omega arith, omega arith)
    go false false false = (omega arith, omega arith)

reach_digits : (c w : ℕ) → c ≤ 9999 → digits_of c ≤ w → 1 ≤ w → c < digits_reach w
unfolding digits_reach
reach_digits c w few h some = go (eqb w 1) (eqb w 2) (eqb w 3) refl refl refl
  where
    held : (n : ℕ) → w ≡ n → c < 10 ^ n
    held n e = lt_of_lt_of_le (digits_hold c (omega arith)) (pow-le-pow_right (lit< tt) (omega arith))

    go : (x y z : Bool) → eqb w 1 ≡ x → eqb w 2 ≡ y → eqb w 3 ≡ z → c < cond x 10 (cond y 100 (cond z 1000 10000))
    go true y z p q r = held 1 (eqb-true w 1 p)
    go false true z p q r = held 2 (eqb-true w 2 q)
    go false false true p q r = held 3 (eqb-true w 3 r)
    go false false false p q r = omega arith

module _ {t : List ℤ} {v : ℕ} {r : Row} {size : ℕ} (q : Readable t v r size) where
  pub readable_ready : RowReady t v r size
  readable_ready = ready_of q.facts size q.long

  pub bits_covered : r.kind ≡ Multiple Bits → Covered t v r (r.width + 1)
  unfolding need signed_of
  bits_covered e =
      let k = (subst (λ (k : Kind). KindFacts k r) e q.facts.kind).few in
      record {
        some = omega arith;
        few = omega arith;
        below = λ c l.
            let b : c ≤ r.width = subst (λ (k : Kind). need k (pos c) ≤ r.width) e (q.facts.fits (pos c) l) in
            omega arith;
      }

  covered_bits : r.kind ≡ Multiple Bits → Covered t v r (bits_reach r.width)
  unfolding bits_reach
  covered_bits e = go (ltb r.width 9999) refl (bits_covered e)
    where
      go : (b : Bool) → ltb r.width 9999 ≡ b → Covered t v r (r.width + 1) → Covered t v r (cond b (r.width + 1) 10000)
      go true e c = c
      go false e c =
          let f = c.few in
          let n : r.width + 1 ≡ 10000 = omega (arith, ltb-false r.width 9999 e) in
          subst (λ (k : ℕ). Covered t v r k) n c

  covered_fields : {n b : ℕ} → r.kind ≡ Multiple (Fields n b) → Covered t v r (digits_reach r.width)
  unfolding need signed_of highest
  covered_fields e =
      record {
        some = (reach_some r.width).0;
        few = (reach_some r.width).1;
        below = λ c l. reach_digits c r.width
            (leb-true c 9999 (subst (λ (k : Kind). le_z (pos c) (highest k) ≡ true) e (q.facts.most (pos c) l)))
            (subst (λ (k : Kind). need k (pos c) ≤ r.width) e (q.facts.fits (pos c) l))
            (subst (λ (k : Kind). KindFacts k r) e q.facts.kind).some;
      }

  pub covered : (s : Spread) → r.kind ≡ Multiple s → {n : ℕ} → n ≡ reach_by r.kind r.width → Covered t v r n
  unfolding reach_by
  covered Bits e {n} h = subst (λ (m : ℕ). Covered t v r m) (sym (h ∙ ap (λ (k : Kind). reach_by k r.width) e)) (covered_bits e)
  covered (Fields k b) e {n} h = subst (λ (m : ℕ). Covered t v r m) (sym (h ∙ ap (λ (k : Kind). reach_by k r.width) e)) (covered_fields e)

  pub covered_many : 2 ≤ shape_of r.kind → {n : ℕ} → n ≡ reach_by r.kind r.width → Covered t v r n
  unfolding shape_of
  covered_many h {n} e = go r.kind refl h
    where
      go : (k : Kind) → r.kind ≡ k → 2 ≤ shape_of k → Covered t v r n
      go Single w g = absurd (omega arith)
      go (Multiple s) w g = covered s w e
      go (Quantity f) w g = absurd (omega arith)
      go Character w g = absurd (omega arith)
      go Logical w g = absurd (omega arith)

bits_low : (w : ℕ) → bits_reach w ≤ 10000
unfolding bits_reach
bits_low w = go (ltb w 9999) refl
  where
    go : (b : Bool) → ltb w 9999 ≡ b → cond b (w + 1) 10000 ≤ 10000
    go true e = omega (arith, ltb-true w 9999 e)
    go false e = omega arith

pub reach_low : (k : Kind) (w : ℕ) → reach_by k w ≤ 10000
unfolding reach_by
reach_low Single w = omega arith
reach_low (Multiple Bits) w = bits_low w
reach_low (Multiple (Fields n b)) w = (reach_some w).1
reach_low (Quantity f) w = omega arith
reach_low Character w = omega arith
reach_low Logical w = omega arith

-- ---- numbers
sized : (z : ℤ) → size_of z ≤ 999999999999999 → limits.Scaled z
unfolding signed_of
sized (pos n) h = h
sized (negsuc n) h = h

module _ {t : List ℤ} {v : ℕ} {r : Row} {size : ℕ} (q : Readable t v r size) where
  legal_scaled : (z : ℤ) → legal t v r z ≡ true → limits.Scaled z
  legal_scaled z l = sized z (size_small r.kind z (q.facts.least z l) (q.facts.most z l))

  number_legal : (k : Kind) (z : ℤ) → fits_by k t v r (number z) ≡ fits → legal t v r z ≡ true
  unfolding fits_by
  number_legal Single z e = fit_legal (legal t v r z) e
  number_legal (Multiple s) z e = let n : ◌≡◌ {A = ℕ} 0 1 = cc in absurd (omega arith)
  number_legal (Quantity f) z e = fit_legal (legal t v r z) e
  number_legal Character z e = let n : ◌≡◌ {A = ℕ} 0 1 = cc in absurd (omega arith)
  number_legal Logical z e = let n : ◌≡◌ {A = ℕ} 0 1 = cc in absurd (omega arith)

  -- a number that was read has 15 digits at most
  pub read_scaled : (bytes : List ℕ) (z : ℤ) → reading_of t v r bytes ≡ holds (number z) → limits.Scaled z
  read_scaled bytes z e = legal_scaled z (number_legal r.kind z (read_fits t v r (number z) bytes e))

  pub entry_good : (bytes : List ℕ) (p : ℕ) → limits.Power p → EntryGood (number_entry p (reading_of t v r bytes))
  unfolding EntryGood number_entry
  entry_good bytes p P = go (reading_of t v r bytes) refl
    where
      go : (f : Field) → reading_of t v r bytes ≡ f → EntryGood (number_entry p f)
      go (holds missing) e = tt
      go (holds (number z)) e = (read_scaled bytes z e, P)
      go (holds (members ms)) e = tt
      go (holds (text s)) e = tt
      go (holds (truth true)) e = (omega arith, P)
      go (holds (truth false)) e = (omega arith, P)
      go illegal e = tt

-- the powers that rows have
pub power_good : {t : List ℤ} {v : ℕ} {r : Row} {size : ℕ} → Readable t v r size → (decimals_of r.kind < 16)
    × limits.Power (10 ^ decimals_of r.kind)
unfolding decimals_of
power_good {t} {v} {r} q = go r.kind q.facts.kind
  where
    go : (k : Kind) → KindFacts k r → (decimals_of k < 16) × limits.Power (10 ^ decimals_of k)
    go Single f = (omega arith, power_of_ten 0 (omega arith))
    go (Multiple s) f = (omega arith, power_of_ten 0 (omega arith))
    go (Quantity x) f = let d = f.decimals in (omega arith, power_of_ten x.decimals (omega arith))
    go Character f = (omega arith, power_of_ten 0 (omega arith))
    go Logical f = (omega arith, power_of_ten 0 (omega arith))

-- ---- row i of a tested table
module _ {t : List ℤ} {h : Header} (g : Tested t h) {i : ℕ} (low : i < h.rows) where
  low_is : i < rows_of t
  low_is = rw (tested_rows g) at low

  pub row_stands : (i ≤ most_rows) × (row_base i + row_size ≤ length t)
  row_stands =
      let r = table_ready t g.good (length_of t) (omega arith) in
      let f = r.few in let s = r.stand in let l = low_is in
      (omega arith, omega arith)

  pub row_readable : (size : ℕ) → h.length ≤ size → Readable t h.rows (row_at t i) size
  row_readable size long = record {
    len = length_of t;
    facts = rw (tested_rows g) (row_facts t g.good i low_is);
    long = rw (tested_length g) at long;
  }
