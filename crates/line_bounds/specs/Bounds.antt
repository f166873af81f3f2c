-- How long a record's line can get, by the table alone: a number takes at most 27 bytes, a code 4 and its semicolon, a text its width, each
-- byte
-- doubled, and two quotes. Used to leave out a measuring where there is room for the longest lines.
-- Assumes nothing.
use Rattle.std.specs.Prelude.{◌≡◌, Bool, true, false, cond, List, [], ◌∷◌, ◌++◌, eqb, ltb, ℤ, pos, length}
use Rattle.std.proofs.Math.Path.{refl}
use Rattle.std.proofs.Common.{◌∙◌, div-one, le-mul_of_pos_right, add-one}
use Prim.Native.Nat.{ℕ, zero, suc, ◌+◌, ◌-◌, ◌*◌, ◌/◌, ◌^◌, ◌≤◌, ◌<◌}
use Rattle.std.proofs.Math.Nat.{suc-mul, zero-mul}
use native.Mathlib.Omega.{arith}
use borrow.Author.Tests.{ltb-false}
use Rattle.std.proofs.Math.ListN.{length-append}
use Rattle.ascii.specs.rule.Tens.{digits_of}
use Rattle.ascii.specs.Tens.{digits_few, digits_least}
use Rattle.cells.specs.rule.Cell.{signed_of}
use Rattle.layout.specs.declared.Row.{Row}
use Rattle.layout.specs.declared.Kind.{Kind}
use Rattle.layout.specs.declared.Kind.TheVariants.{Single, Multiple, Quantity, Character, Logical}
use Rattle.layout.specs.declared.Spread.TheVariants.{Bits, Fields}
use Rattle.layout.specs.rule.Row.{row_at}
use Rattle.widths.specs.rule.Width.{lowest, highest, decimals_of}
use Rattle.places.specs.rule.Places.{pick}
use Rattle.fields.specs.rule.Legal.{legal}
use Rattle.fields.specs.rule.Number.{padded, all_spaces}
use Rattle.fields.specs.rule.Field.{missing, number, members, text, truth, Field, holds, illegal, all_bits, set_bits, bits_field}
use Rattle.fields.specs.rule.Field.{set_fits, text_fits}
use Rattle.fields.specs.rule.Row.{defined, categories, fits_by, fits, other_type, reading_of, field_by, places_by}
use Rattle.fields.specs.Facts.{RowFacts, KindFacts}
use Rattle.fieldlaws.specs.NumberLaws.{length_padded}
use Rattle.fieldlaws.specs.BackLaws.{fit_legal, fit_set}
use Rattle.fieldlaws.specs.RisingLaws.{Rising, none, skip, keep, rising_of}
use Rattle.fieldlaws.specs.TextLaws.{fitting}
use Rattle.fieldlaws.specs.Corrections.{read_fits}
use Rattle.sound.specs.rule.Sound.{well_formed}
use Rattle.sound.specs.rule.Rows.{rows_of, length_of}
use Rattle.sound.specs.Rows.{row_facts}
use Rattle.records.specs.rule.Value.{reading_at}
use Rattle.lines.specs.rule.Text.{numeral}
use Rattle.cuts.specs.rule.Records.{Records, over, unended, record_and}
use Rattle.commas.specs.rule.Csv.{holds_special, doubled_byte, doubled, field_bytes, line_bytes, csv_bytes}
use Rattle.commas.specs.Csv.{field_plain, comma_before, line_left, left_line}
use Rattle.value_fields.specs.rule.Values.{amount_text, export_number, codes_behind, set_text, export_value, export_field, row_field}
use Rattle.value_fields.specs.Plain.{truth_plain}
use Rattle.value_fields.proofs.Plain.{number_plain, set_plain}
use Rattle.record_lines.specs.rule.Lines.{record_line, records_lines}

-- ---- the most bytes of a field, by its row
unfoldable pub most_by : Kind → ℕ → ℕ
most_by Single w = 27
most_by (Multiple Bits) w = 5 * w + 4
most_by (Multiple (Fields n b)) w = 5 * n + 4
most_by (Quantity f) w = 27
most_by Character w = 2 * w + 2
most_by Logical w = 27

abbrev pub field_most : Row → ℕ
field_most r = most_by r.kind r.width

-- the subfields of a spread
unfoldable pub count_of : Kind → ℕ
count_of Single = 0
count_of (Multiple Bits) = 0
count_of (Multiple (Fields n b)) = n
count_of (Quantity f) = 0
count_of Character = 0
count_of Logical = 0

-- n fields from row i on, each with what parts or ends it
unfoldable pub most_from : List ℤ → ℕ → ℕ → ℕ
most_from t i zero = 2
most_from t i (suc n) = field_most (row_at t i) + 1 + most_from t (suc i) n

-- ---- numbers
numeral_most : (n : ℕ) → length (numeral n) ≤ 16
unfolding numeral
numeral_most n = let e = length_padded (digits_of n) n in let h = digits_few n in omega arith

amount_most : (k n : ℕ) → k ≤ 9 → length (amount_text k n) ≤ 26
unfolding amount_text
amount_most k n h = go (eqb k 0)
  where
    go : (b : Bool) → length (numeral (n / 10 ^ k) ++ cond b [] ((46 ∷ []) ++ padded k n)) ≤ 26
    go true = let e = length-append (numeral (n / 10 ^ k)) [] in let g = numeral_most (n / 10 ^ k) in omega arith
    go false =
        let e = length-append (numeral (n / 10 ^ k)) (46 ∷ padded k n) in
        let g = numeral_most (n / 10 ^ k) in let q = length_padded k n in
        omega arith

number_most : (k : ℕ) (z : ℤ) → k ≤ 9 → length (export_number k z) ≤ 27
unfolding export_number
number_most k z h = let a = amount_most k (signed_of z).size h in go (signed_of z).minus a
  where
    go : (b : Bool) → length (amount_text k (signed_of z).size) ≤ 26
        → length (cond b ((45 ∷ []) ++ amount_text k (signed_of z).size) (amount_text k (signed_of z).size)) ≤ 27
    go true a = omega arith
    go false a = omega arith

-- ---- codes
code_most : (c : ℕ) → c < 10000 → length (export_number 0 (pos c)) ≤ 4
unfolding export_number amount_text numeral signed_of
code_most c h =
    let e = length-append (padded (digits_of (c / 1)) (c / 1)) [] in
    let q = length_padded (digits_of (c / 1)) (c / 1) in
    let d : digits_of (c / 1) ≤ 4 = digits_least (c / 1) 4 (omega arith) (rw (div-one c) h) in
    omega arith

behind_most : {c n : ℕ} {ms : List ℤ} → Rising c n ms → c + n ≤ 10000 → length (codes_behind ms) ≤ 5 * length ms
unfolding codes_behind
behind_most none h = omega arith
behind_most (skip s) h = behind_most s (omega arith)
behind_most (keep {c = c} {ms = ms} s) h =
    let e = length-append (export_number 0 (pos c)) (codes_behind ms) in
    let a = code_most c (omega arith) in
    let b = behind_most s (omega arith) in
    omega arith

set_most : (ms : List ℤ) → length (codes_behind ms) ≤ 5 * length ms → length (set_text ms) ≤ 5 * length ms + 4
unfolding set_text codes_behind
set_most [] h = omega arith
set_most (m ∷ ms) h = omega arith

-- ---- a text doubled
byte_most : (b : ℕ) → length (doubled_byte b) ≤ 2
unfolding doubled_byte
byte_most b = go (eqb b 34)
  where
    go : (q : Bool) → length (cond q (34 ∷ 34 ∷ []) (b ∷ [])) ≤ 2
    go true = omega arith
    go false = omega arith

doubled_most : (s : List ℕ) → length (doubled s) ≤ 2 * length s
unfolding doubled
doubled_most [] = omega arith
doubled_most (b ∷ s) =
    let e = length-append (doubled_byte b) (doubled s) in let a = byte_most b in let h = doubled_most s in omega arith

quoted_most : (s : List ℕ) → length (field_bytes s) ≤ 2 * length s + 2
unfolding field_bytes
quoted_most s = go (holds_special s)
  where
    go : (q : Bool) → length (cond q ((34 ∷ []) ++ (doubled s ++ (34 ∷ []))) s) ≤ 2 * length s + 2
    go true = let e = length-append (doubled s) (34 ∷ []) in let h = doubled_most s in omega arith
    go false = omega arith

empty_most : (n : ℕ) → length (field_bytes []) ≤ n
unfolding field_bytes holds_special
empty_most n = omega arith

-- ---- what was read of a row fits the row, so its kind is known by its value
no_other : {A : Type 0} → other_type ≡ fits → A
no_other e = let z : ◌≡◌ {A = ℕ} 0 1 = cc in absurd (omega arith)

bits_few : (cs s : List ℕ) → length (set_bits cs s) ≤ length cs
unfolding set_bits
bits_few [] s = omega arith
bits_few (c ∷ cs) [] = omega arith
bits_few (c ∷ cs) (b ∷ s) = let h = bits_few cs s in go (eqb b 49) h
  where
    go : (q : Bool) → length (set_bits cs s) ≤ length cs → length (cond q (pos c ∷ set_bits cs s) (set_bits cs s)) ≤ suc (length cs)
    go true h = omega arith
    go false h = omega arith

defined_few : (ok : ℤ → Bool) (c n : ℕ) → length (defined ok c n) ≤ n
unfolding defined
defined_few ok c zero = omega arith
defined_few ok c (suc n) = let h = defined_few ok (suc c) n in go (ok (pos c)) h
  where
    go : (q : Bool) → length (defined ok (suc c) n) ≤ n → length (cond q (c ∷ defined ok (suc c) n) (defined ok (suc c) n)) ≤ suc n
    go true h = omega arith
    go false h = omega arith

bits_members : (cs s : List ℕ) (ms : List ℤ) → bits_field cs s ≡ holds (members ms) → length ms ≤ length cs
unfolding bits_field
bits_members cs s ms e = go (all_spaces s) (all_bits s) e
  where
    go : (p q : Bool) → cond p (holds missing) (cond q (holds (members (set_bits cs s))) illegal) ≡ holds (members ms) → length ms
        ≤ length cs
    go true q e = let z : ◌≡◌ {A = ℕ} 0 1 = cc in absurd (omega arith)
    go false true e = let m : set_bits cs s ≡ ms = cc in rw (← m) (bits_few cs s)
    go false false e = let z : ◌≡◌ {A = ℕ} 0 1 = cc in absurd (omega arith)

module _ (t : List ℤ) (v len : ℕ) (r : Row) (facts : RowFacts t v len r) (bytes : List ℕ) where
  rising : (k : Kind) (s : _) → k ≡ Multiple s → r.kind ≡ k → (ms : List ℤ) → set_fits (legal t v r) ms ≡ true → Rising 1 9999 ms
  unfolding lowest highest
  rising k s m e ms f =
      rising_of (legal t v r) 9999 (λ z l. rw (e ∙ m) at (facts.most z l)) (λ z l. rw (e ∙ m) at (facts.least z l)) ms f

  -- a set by its kind: few members, and its text
  set_row : (k : Kind) (ms : List ℤ) → r.kind ≡ k → field_by k t v r (pick bytes (places_by k t v r)) ≡ holds (members ms)
      → fits_by k t v r (members ms) ≡ fits → length (set_text ms) ≤ most_by k r.width
  unfolding field_by fits_by most_by
  set_row (Multiple Bits) ms e q f =
      let g = rising (Multiple Bits) Bits refl e ms (fit_legal (set_fits (legal t v r) ms) f) in
      let a = bits_members (categories t v r) _ ms q in
      let b = defined_few (legal t v r) 1 r.width in
      let c = set_most ms (behind_most g (omega arith)) in
      omega arith
  set_row (Multiple (Fields n b)) ms e q f =
      let p = fit_set (set_fits (legal t v r) ms) (ltb n (length ms)) f in
      let g = rising (Multiple (Fields n b)) (Fields n b) refl e ms p.0 in
      let a = ltb-false n (length ms) p.1 in
      let c = set_most ms (behind_most g (omega arith)) in
      omega arith
  set_row Single ms e q f = no_other f
  set_row (Quantity x) ms e q f = no_other f
  set_row Character ms e q f = no_other f
  set_row Logical ms e q f = no_other f

  number_row : (k : Kind) (z : ℤ) → fits_by k t v r (number z) ≡ fits → 27 ≤ most_by k r.width
  unfolding fits_by most_by
  number_row Single z e = omega arith
  number_row (Quantity f) z e = omega arith
  number_row (Multiple s) z e = no_other e
  number_row Character z e = no_other e
  number_row Logical z e = no_other e

  text_row : (k : Kind) (s : List ℕ) → fits_by k t v r (text s) ≡ fits → 2 * length s + 2 ≤ most_by k r.width
  unfolding fits_by most_by
  text_row Character s e = let f = (fitting r.width s (fit_legal (text_fits r.width s) e)).few in omega arith
  text_row Single s e = no_other e
  text_row (Multiple x) s e = no_other e
  text_row (Quantity f) s e = no_other e
  text_row Logical s e = no_other e

  truth_row : (k : Kind) (b : Bool) → fits_by k t v r (truth b) ≡ fits → 1 ≤ most_by k r.width
  unfolding fits_by most_by
  truth_row Logical b e = omega arith
  truth_row Single b e = no_other e
  truth_row (Multiple x) b e = no_other e
  truth_row (Quantity f) b e = no_other e
  truth_row Character b e = no_other e

  pub value_most : (k : ℕ) → k ≤ 9 → (f : Field) → reading_of t v r bytes ≡ f → length (field_bytes (export_field k f)) ≤ field_most r
  unfolding export_field export_value reading_of
  value_most k h illegal e = empty_most (field_most r)
  value_most k h (holds missing) e = empty_most (field_most r)
  value_most k h (holds (number z)) e =
      rw (← (field_plain (export_number k z) (number_plain k z)))
      (omega (arith, number_most k z h, number_row r.kind z (read_fits t v r (number z) bytes e)))
  value_most k h (holds (members ms)) e =
      rw (← (field_plain (set_text ms) (set_plain ms))) (set_row r.kind ms refl e (read_fits t v r (members ms) bytes e))
  value_most k h (holds (text s)) e =
      omega (arith, quoted_most s, text_row r.kind s (read_fits t v r (text s) bytes e))
  value_most k h (holds (truth b)) e =
      rw (← (field_plain (cond b 49 48 ∷ []) (truth_plain b))) (truth_row r.kind b (read_fits t v r (truth b) bytes e))

-- ---- a line, and the text of n lines
module _ (t : List ℤ) (good : well_formed t ≡ true) where
  kind_decimals : (k : Kind) (r : Row) → KindFacts k r → decimals_of k ≤ 9
  unfolding decimals_of
  kind_decimals Single r f = omega arith
  kind_decimals (Multiple s) r f = omega arith
  kind_decimals (Quantity g) r f = f.decimals
  kind_decimals Character r f = omega arith
  kind_decimals Logical r f = omega arith

  field_most_lem : (bytes : List ℕ) (i : ℕ) → i < rows_of t → length (field_bytes (row_field t bytes i)) ≤ field_most (row_at t i)
  unfolding row_field
  field_most_lem bytes i h =
      let f = row_facts t good i h in
      value_most t (rows_of t) (length_of t) (row_at t i) f bytes (decimals_of (row_at t i).kind)
      (kind_decimals (row_at t i).kind (row_at t i) f.kind) (reading_at t i bytes) refl

  comma_most : (i : ℕ) → length (comma_before i) ≤ 1
  unfolding comma_before
  comma_most zero = omega arith
  comma_most (suc i) = omega arith

  left_most : (bytes : List ℕ) (n i : ℕ) → i + n ≤ rows_of t → length (line_left (row_field t bytes) i n) ≤ most_from t i n
  unfolding line_left most_from
  left_most bytes zero i h = omega arith
  left_most bytes (suc n) i h =
      let f = field_bytes (row_field t bytes i) in
      let l = line_left (row_field t bytes) (suc i) n in
      let a = length-append (comma_before i) (f ++ l) in
      let b = length-append f l in
      let c = comma_most i in
      let d = field_most_lem bytes i (omega arith) in
      let e = left_most bytes n (suc i) (omega arith) in
      omega arith

  pub line_most : (bytes : List ℕ) → length (line_bytes (record_line t bytes)) ≤ most_from t 0 (rows_of t)
  unfolding record_line
  line_most bytes = rw (left_line (row_field t bytes) (rows_of t)) (left_most bytes (rows_of t) 0 (omega arith))

  pub lines_most : (n : ℕ) (rs : Records) → length (csv_bytes (records_lines t n rs)) ≤ n * most_from t 0 (rows_of t)
  unfolding records_lines csv_bytes
  lines_most zero rs = omega (arith, zero-mul (most_from t 0 (rows_of t)))
  lines_most (suc n) over = omega arith
  lines_most (suc n) (unended r) = omega arith
  lines_most (suc n) (record_and r rs) =
      let a = length-append (line_bytes (record_line t r)) (csv_bytes (records_lines t n rs)) in
      let b = line_most r in
      let c = lines_most n rs in
      omega (arith, suc-mul n (most_from t 0 (rows_of t)))

-- ---- a tested row's numbers are small, and what is left of the sum
pub row_small : (t : List ℤ) (v len : ℕ) (r : Row) → RowFacts t v len r → (r.width ≤ 16384) × (count_of r.kind ≤ 16384)
unfolding count_of
row_small t v len r f = go r.kind f.kind
  where
    few : r.finish ≤ 16384
    few = let p = f.position in omega (arith, p.inside, p.low)

    go : (k : Kind) → KindFacts k r → (r.width ≤ 16384) × (count_of k ≤ 16384)
    go Single g = (omega (arith, g.few), omega arith)
    go (Multiple Bits) g = (omega (arith, g.few), omega arith)
    go (Multiple (Fields n b)) g =
        let p = f.position in
        let m : n ≤ n * b = le-mul_of_pos_right n (omega (arith, g.some, g.holds)) in
        (omega (arith, g.few), omega (arith, g.room, p.from_one, few))
    go (Quantity x) g = (omega (arith, g.width.few), omega arith)
    go Character g = (omega (arith, g.few), omega arith)
    go Logical g = (omega (arith, g.few), omega arith)

pub most_next : (t : List ℤ) (v i : ℕ) → i < v → most_from t i (v - i) ≡ field_most (row_at t i) + 1 + most_from t (i + 1) (v - (i + 1))
unfolding most_from
most_next t v i h = let e : v - i ≡ suc (v - (i + 1)) = omega arith in rw (e, add-one i)

pub most_end : (t : List ℤ) (v i : ℕ) → v ≤ i → most_from t i (v - i) ≡ 2
unfolding most_from
most_end t v i h = let e : v - i ≡ 0 = omega arith in rw e

pub most_some : (t : List ℤ) (n i : ℕ) → 2 ≤ most_from t i n
unfolding most_from
most_some t zero i = omega arith
most_some t (suc n) i = let h = most_some t n (suc i) in omega arith
