-- Every kind of row: a value that fits has as many bytes as the row has value places, its bytes read back as the value, and what
-- a field holds fits.
use Rattle.std.specs.Prelude.{◌≡◌, Bool, List, ℕ, ◌-◌, ◌^◌, ◌≤◌, ◌<◌, eqb, ltb, ℤ, pos, negsuc, get_or}
use Rattle.std.proofs.Math.Path.{refl, sym}
use Rattle.std.proofs.Common.{◌∙◌, lt_of_lt_of_le, lt_of_le_of_lt, arith, lit<}
use Rattle.std.proofs.Math.Bool.{true, false, cond}
use Rattle.std.proofs.Math.Nat.{pow-le-pow_right}
use borrow.Author.Tests.{le-leb, leb-true, ltb-false, le-ltb}
use Rattle.std.specs.Int.Signed.{le_z}
use Rattle.std.proofs.Math.ListN.{length}
use Rattle.below.specs.Below.{holds_not}
use Rattle.ascii.specs.rule.Tens.{digits_of}
use Rattle.ascii.specs.Tens.{digits_hold}
use Rattle.cells.specs.rule.Cell.{eq_z, signed_of}
use Rattle.widths.specs.rule.Width.{need, lowest, highest, size_of}
use Rattle.widths.specs.Width.{size_small}
use Rattle.places.specs.Laws.{length_run}
use Rattle.layout.specs.declared.Format.{Format}
use Rattle.layout.specs.declared.Spread.TheVariants.{Bits, Fields}
use Rattle.layout.specs.declared.Kind.{Kind}
use Rattle.layout.specs.declared.Kind.TheVariants.{Single, Multiple, Quantity, Character, Logical}
use Rattle.layout.specs.declared.Row.{Row}
use Rattle.fields.specs.rule.Legal.{legal}
use Rattle.fields.specs.rule.Number.{all_spaces, Said, blank, says, wrong, code_of, code_after, code_bytes, quantity_of, quantity_after}
use Rattle.fields.specs.rule.Field.{Value, missing, number, members, text, truth, holds, illegal, number_field}
use Rattle.fields.specs.rule.Field.{single_says, single_field, quantity_says, set_bits, all_bits, bits_field, all_entries}
use Rattle.fields.specs.rule.Field.{spread_set, spread_field, all_plain, unended, text_field, truth_field, spaces, set_fits, text_fits}
use Rattle.fields.specs.rule.Row.{categories, places_by, places_of, field_by, field_of, fits}
use Rattle.fields.specs.rule.Row.{other_type, not_legal, too_many, legal_fit, fits_by, fit_of, bytes_by, bytes_of}
use Rattle.fields.specs.Facts.{KindFacts, RowFacts}
use Rattle.fieldlaws.specs.Tests.{counts_differ}
use Rattle.fieldlaws.specs.PlaceLaws.{length_bits, length_spread}
use Rattle.fieldlaws.specs.NumberLaws.{code_back, length_code, quantity_back, length_quantity}
use Rattle.fieldlaws.specs.RisingLaws.{Rising, rising_of, legal_of}
use Rattle.fieldlaws.specs.BitLaws.{length_bit_bytes, some_defined, bits_back, bits_fit}
use Rattle.fieldlaws.specs.SpreadLaws.{length_spread_bytes, spread_back, spread_few, spread_fit}
use Rattle.fieldlaws.specs.TextLaws.{length_spaces, spaces_blank, spaces_nothing, fitting}
use Rattle.fieldlaws.specs.TextLaws.{text_back, text_fit, length_text, truth_back, length_truth}

-- a bitstring has a category: its width is the largest
pub record Topped (k : Kind) (t : List ℤ) (v : ℕ) (r : Row) : Type 0 where
  pub top : k ≡ Multiple Bits → legal t v r (pos r.width) ≡ true

-- what a well-formed table gives of the numbers of a row of this kind
pub record Limits (k : Kind) (t : List ℤ) (v : ℕ) (r : Row) : Type 0 where
  pub kind : KindFacts k r
  pub least : (z : ℤ) → legal t v r z ≡ true → le_z (lowest k) z ≡ true
  pub most : (z : ℤ) → legal t v r z ≡ true → le_z z (highest k) ≡ true
  pub room : (z : ℤ) → legal t v r z ≡ true → need k z ≤ r.width

pub limits : {t : List ℤ} {v len : ℕ} {r : Row} → RowFacts t v len r → Limits r.kind t v r
limits f = record { kind = f.kind; least = f.least; most = f.most; room = f.fits }

-- ---- what it is to fit
no_other : {A : Type 0} → other_type ≡ fits → A
no_other e = let z : ◌≡◌ {A = ℕ} 0 1 = cc in absurd (omega arith)

pub fit_legal : (b : Bool) → legal_fit b ≡ fits → b ≡ true
unfolding legal_fit
fit_legal true e = refl
fit_legal false e = let z : ◌≡◌ {A = ℕ} 0 1 = cc in absurd (omega arith)

pub fit_set : (b c : Bool) → cond b (cond c too_many fits) not_legal ≡ fits → (b ≡ true) × (c ≡ false)
fit_set true false e = (refl, refl)
fit_set true true e = let z : ◌≡◌ {A = ℕ} 0 1 = cc in absurd (omega arith)
fit_set false c e = let z : ◌≡◌ {A = ℕ} 0 1 = cc in absurd (omega arith)

-- a number from 1 to 9,999 is a count
data Count : ℤ → Type 0 where
  count : (n : ℕ) → 1 ≤ n → n ≤ 9999 → Count (pos n)

counted : (z : ℤ) → le_z (pos 1) z ≡ true → le_z z (pos 9999) ≡ true → Count z
counted (pos n) a b = count n (leb-true 1 n a) (leb-true n 9999 b)
counted (negsuc n) a b = holds_not a refl

within_digits : (n w : ℕ) → n ≤ 9999 → digits_of n ≤ w → n < 10 ^ w
within_digits n w few h = lt_of_lt_of_le (digits_hold n (omega arith)) (pow-le-pow_right (lit< tt) h)

-- a quantity has fewer than 16 digits
pub quantity_few : (f : Format) (z : ℤ) → le_z (lowest (Quantity f)) z ≡ true → le_z z (highest (Quantity f)) ≡ true → size_of z < 10 ^ 16
quantity_few f z a b = lt_of_le_of_lt (size_small (Quantity f) z a b) (omega arith)

-- ---- codes
module _ (ok : ℤ → Bool) (w : ℕ) (wide : 1 ≤ w) where
  read_code : {z : ℤ} → Count z → digits_of (size_of z) ≤ w → code_of (code_bytes w z) ≡ says z
  unfolding code_bytes signed_of
  read_code (count n some few) h = code_back w n wide (within_digits n w few h)

  single_back : {z : ℤ} → Count z → digits_of (size_of z) ≤ w → ok z ≡ true → single_field ok (code_bytes w z) ≡ holds (number z)
  unfolding single_says number_field
  single_back {z} (count n some few) h e = rw (read_code (count n some few) h, counts_differ n 0 (λ q. omega arith), e)

-- a category is at most the largest, in a bitstring and in a subfield
top_bits : {z : ℤ} (w : ℕ) → Count z → size_of z ≤ w → le_z z (pos w) ≡ true
unfolding signed_of
top_bits w (count n some few) h = le-leb n w h

top_digits : {z : ℤ} (w : ℕ) → Count z → digits_of (size_of z) ≤ w → le_z z (pos (10 ^ w - 1)) ≡ true
unfolding signed_of
top_digits w (count n some few) h = le-leb n (10 ^ w - 1) (omega (arith, within_digits n w few h))

-- ---- missing
pub missing_back : (k : Kind) (t : List ℤ) (v : ℕ) (r : Row) (n : ℕ) → field_by k t v r (spaces n) ≡ holds missing
unfolding field_by single_says quantity_says code_of code_after quantity_of quantity_after bits_field spread_field text_field truth_field
missing_back Single t v r n = rw (spaces_nothing n)
missing_back (Multiple Bits) t v r n = rw (spaces_blank n)
missing_back (Multiple (Fields c b)) t v r n = rw (spaces_blank n)
missing_back (Quantity f) t v r n = rw (spaces_nothing n)
missing_back Character t v r n = rw (spaces_blank n)
missing_back Logical t v r n = rw (spaces_blank n)

module _ (t : List ℤ) (v : ℕ) (r : Row) where
  -- ---- the sets of a row with limits
  pub bits_members : Limits (Multiple Bits) t v r → (ms : List ℤ) → set_fits (legal t v r) ms ≡ true → Rising 1 r.width ms
  unfolding lowest highest need
  bits_members l ms e =
      rising_of (legal t v r) r.width (λ z q. top_bits r.width (counted z (l.least z q) (l.most z q)) (l.room z q)) l.least ms e

  pub spread_members : (n b : ℕ) → Limits (Multiple (Fields n b)) t v r → (ms : List ℤ) → set_fits (legal t v r) ms ≡ true
      → Rising 1 (10 ^ r.width - 1) ms
  unfolding lowest highest need
  spread_members n b l ms e =
      rising_of (legal t v r) (10 ^ r.width - 1)
      (λ z q. top_digits r.width (counted z (l.least z q) (l.most z q)) (l.room z q)) l.least ms e

  spread_code : (n b : ℕ) → Limits (Multiple (Fields n b)) t v r → (z : ℤ) → legal t v r z ≡ true → code_of (code_bytes r.width z) ≡ says z
  unfolding lowest highest need
  spread_code n b l z q = read_code (legal t v r) r.width l.kind.some (counted z (l.least z q) (l.most z q)) (l.room z q)

  -- ---- READ-BACK: the bytes of a value that fits say the value
  back_number : (k : Kind) → Limits k t v r → (z : ℤ) → fits_by k t v r (number z) ≡ fits
      → field_by k t v r (bytes_by k t v r (number z)) ≡ holds (number z)
  unfolding field_by bytes_by fits_by lowest highest need quantity_says number_field
  back_number Single l z e =
      let q : legal t v r z ≡ true = fit_legal (legal t v r z) e in
      single_back (legal t v r) r.width l.kind.some (counted z (l.least z q) (l.most z q)) (l.room z q) q
  back_number (Quantity f) l z e =
      let q : legal t v r z ≡ true = fit_legal (legal t v r z) e in
      let few : size_of z < 10 ^ 16 = quantity_few f z (l.least z q) (l.most z q) in
      rw (quantity_back f r.width l.kind.plain z few (l.room z q), q)
  back_number (Multiple s) l z e = no_other e
  back_number Character l z e = no_other e
  back_number Logical l z e = no_other e

  back_members : (k : Kind) → Limits k t v r → Topped k t v r → (ms : List ℤ) → fits_by k t v r (members ms) ≡ fits
      → field_by k t v r (bytes_by k t v r (members ms)) ≡ holds (members ms)
  unfolding field_by bytes_by fits_by
  back_members (Multiple Bits) l top ms e =
      let q : set_fits (legal t v r) ms ≡ true = fit_legal (set_fits (legal t v r) ms) e in
      let some : 0 < length (categories t v r) =
      some_defined (legal t v r) 1 r.width r.width l.kind.some (omega arith) (top.top refl) in
      bits_back (legal t v r) ms (legal_of (legal t v r) ms q) r.width (bits_members l ms q) some
  back_members (Multiple (Fields n b)) l top ms e =
      let p = fit_set (set_fits (legal t v r) ms) (ltb n (length ms)) e in
      spread_back (legal t v r) r.width l.kind.some (spread_code n b l) n ms l.kind.subfields (legal_of (legal t v r) ms p.0)
      (ltb-false n (length ms) p.1) (spread_members n b l ms p.0)
  back_members Single l top ms e = no_other e
  back_members (Quantity f) l top ms e = no_other e
  back_members Character l top ms e = no_other e
  back_members Logical l top ms e = no_other e

  back_text : (k : Kind) (s : List ℕ) → fits_by k t v r (text s) ≡ fits → field_by k t v r (bytes_by k t v r (text s)) ≡ holds (text s)
  unfolding field_by bytes_by fits_by
  back_text Character s e = text_back r.width s (fitting r.width s (fit_legal (text_fits r.width s) e))
  back_text Single s e = no_other e
  back_text (Multiple x) s e = no_other e
  back_text (Quantity f) s e = no_other e
  back_text Logical s e = no_other e

  back_truth : (k : Kind) (b : Bool) → fits_by k t v r (truth b) ≡ fits → field_by k t v r (bytes_by k t v r (truth b)) ≡ holds (truth b)
  unfolding field_by bytes_by fits_by
  back_truth Logical b e = truth_back b
  back_truth Single b e = no_other e
  back_truth (Multiple x) b e = no_other e
  back_truth (Quantity f) b e = no_other e
  back_truth Character b e = no_other e

  back_by : (k : Kind) → Limits k t v r → Topped k t v r → (x : Value) → fits_by k t v r x ≡ fits
      → field_by k t v r (bytes_by k t v r x) ≡ holds x
  unfolding bytes_by
  back_by k l top missing e = missing_back k t v r (length (places_by k t v r))
  back_by k l top (number z) e = back_number k l z e
  back_by k l top (members ms) e = back_members k l top ms e
  back_by k l top (text s) e = back_text k s e
  back_by k l top (truth b) e = back_truth k b e

  -- ---- a value that fits has as many bytes as there are value places
  length_number : (k : Kind) → Limits k t v r → (z : ℤ) → fits_by k t v r (number z) ≡ fits
      → length (bytes_by k t v r (number z)) ≡ length (places_by k t v r)
  unfolding bytes_by fits_by places_by need
  length_number Single l z e = length_code r.width z ∙ sym (length_run (r.finish - r.width) r.width)
  length_number (Quantity f) l z e =
      length_quantity f r.width l.kind.plain z (l.room z (fit_legal (legal t v r z) e))
      ∙ sym (length_run (r.finish - r.width) r.width)
  length_number (Multiple s) l z e = no_other e
  length_number Character l z e = no_other e
  length_number Logical l z e = no_other e

  length_members : (k : Kind) (ms : List ℤ) → fits_by k t v r (members ms) ≡ fits
      → length (bytes_by k t v r (members ms)) ≡ length (places_by k t v r)
  unfolding bytes_by fits_by places_by
  length_members (Multiple Bits) ms e = length_bit_bytes ms (categories t v r) ∙ sym (length_bits (r.start - 1) (categories t v r))
  length_members (Multiple (Fields n b)) ms e = length_spread_bytes r.width n ms ∙ sym (length_spread b r.width (r.start - 1) n)
  length_members Single ms e = no_other e
  length_members (Quantity f) ms e = no_other e
  length_members Character ms e = no_other e
  length_members Logical ms e = no_other e

  length_text_by : (k : Kind) (s : List ℕ) → fits_by k t v r (text s) ≡ fits → length (bytes_by k t v r (text s))
      ≡ length (places_by k t v r)
  unfolding bytes_by fits_by places_by
  length_text_by Character s e =
      length_text r.width s (fitting r.width s (fit_legal (text_fits r.width s) e)) ∙ sym (length_run (r.start - 1) r.width)
  length_text_by Single s e = no_other e
  length_text_by (Multiple x) s e = no_other e
  length_text_by (Quantity f) s e = no_other e
  length_text_by Logical s e = no_other e

  length_truth_by : (k : Kind) (b : Bool) → fits_by k t v r (truth b) ≡ fits → length (bytes_by k t v r (truth b))
      ≡ length (places_by k t v r)
  unfolding bytes_by fits_by places_by
  length_truth_by Logical b e = length_truth b
  length_truth_by Single b e = no_other e
  length_truth_by (Multiple x) b e = no_other e
  length_truth_by (Quantity f) b e = no_other e
  length_truth_by Character b e = no_other e

  length_by : (k : Kind) → Limits k t v r → (x : Value) → fits_by k t v r x ≡ fits → length (bytes_by k t v r x)
      ≡ length (places_by k t v r)
  unfolding bytes_by
  length_by k l missing e = length_spaces (length (places_by k t v r))
  length_by k l (number z) e = length_number k l z e
  length_by k l (members ms) e = length_members k ms e
  length_by k l (text s) e = length_text_by k s e
  length_by k l (truth b) e = length_truth_by k b e

-- ---- WHAT A FIELD HOLDS FITS
pub illegal_holds : {A : Type 0} {x : Value} → illegal ≡ holds x → A
illegal_holds e = let z : ◌≡◌ {A = ℕ} 0 1 = cc in absurd (omega arith)

pub held : {y x : Value} → holds y ≡ holds x → y ≡ x
held e = cc

module _ (t : List ℤ) (v : ℕ) (r : Row) (x : Value) where
  missing_fits : (k : Kind) → holds missing ≡ holds x → fits_by k t v r x ≡ fits
  unfolding fits_by
  missing_fits k e = rw (← held e)

  number_fits : (k : Kind) (z : ℤ) → (legal t v r z ≡ true → fits_by k t v r (number z) ≡ fits)
      → number_field (legal t v r) z ≡ holds x → fits_by k t v r x ≡ fits
  unfolding number_field
  number_fits k z g e = go (legal t v r z) refl e
    where
      go : (b : Bool) → legal t v r z ≡ b → cond b (holds (number z)) illegal ≡ holds x → fits_by k t v r x ≡ fits
      go true q e = rw (← held e) (g q)
      go false q e = illegal_holds e

  single_fits : (said : Said) → single_says (legal t v r) said ≡ holds x → fits_by Single t v r x ≡ fits
  unfolding single_says fits_by legal_fit
  single_fits blank e = missing_fits Single e
  single_fits wrong e = illegal_holds e
  single_fits (says z) e = go (eq_z z (pos 0)) e
    where
      go : (b : Bool) → cond b (holds missing) (number_field (legal t v r) z) ≡ holds x → fits_by Single t v r x ≡ fits
      go true e = missing_fits Single e
      go false e = number_fits Single z (λ q. rw q) e

  quantity_fits : (f : Format) (said : Said) → quantity_says (legal t v r) said ≡ holds x → fits_by (Quantity f) t v r x ≡ fits
  unfolding quantity_says fits_by legal_fit
  quantity_fits f blank e = missing_fits (Quantity f) e
  quantity_fits f wrong e = illegal_holds e
  quantity_fits f (says z) e = number_fits (Quantity f) z (λ q. rw q) e

  -- a field of spaces is missing; any other that has its form holds y; the rest is illegal
  form_fits : (k : Kind) (blank formed : Bool) (y : Value) → (blank ≡ false → formed ≡ true → fits_by k t v r y ≡ fits)
      → cond blank (holds missing) (cond formed (holds y) illegal) ≡ holds x → fits_by k t v r x ≡ fits
  form_fits k true formed y g e = missing_fits k e
  form_fits k false true y g e = rw (← held e) (g refl refl)
  form_fits k false false y g e = illegal_holds e

  bits_fits : (s : List ℕ) → bits_field (categories t v r) s ≡ holds x → fits_by (Multiple Bits) t v r x ≡ fits
  unfolding bits_field fits_by legal_fit
  bits_fits s e =
      form_fits (Multiple Bits) (all_spaces s) (all_bits s) (members (set_bits (categories t v r) s))
      (λ a b. rw (bits_fit (legal t v r) r.width s)) e

  spread_fits : (n b : ℕ) (s : List ℕ) → spread_field (legal t v r) r.width n s ≡ holds x → fits_by (Multiple (Fields n b)) t v r x ≡ fits
  unfolding spread_field fits_by
  spread_fits n b s e =
      let ms = spread_set r.width n s in
      form_fits (Multiple (Fields n b)) (all_spaces s) (all_entries (legal t v r) r.width n s) (members ms)
      (λ a g. rw (spread_fit (legal t v r) r.width n s g, le-ltb n (length ms) (spread_few r.width n s 1 (10 ^ r.width - 1)))) e

  text_fits_lem : (s : List ℕ) → length s ≡ r.width → text_field s ≡ holds x → fits_by Character t v r x ≡ fits
  unfolding text_field fits_by legal_fit
  text_fits_lem s n e = form_fits Character (all_spaces s) (all_plain s) (text (unended s)) (λ a b. rw (text_fit r.width s n a b)) e

  truth_fits : (s : List ℕ) → truth_field s ≡ holds x → fits_by Logical t v r x ≡ fits
  unfolding truth_field fits_by
  truth_fits s e = go (all_spaces s) (eqb (get_or s 0 0) 49) (eqb (get_or s 0 0) 48) e
    where
      go : (a b c : Bool) → cond a (holds missing) (cond b (holds (truth true)) (cond c (holds (truth false)) illegal)) ≡ holds x
          → fits_by Logical t v r x ≡ fits
      go true b c e = missing_fits Logical e
      go false true c e = rw (← held e)
      go false false true e = rw (← held e)
      go false false false e = illegal_holds e

  held_by : (k : Kind) (s : List ℕ) → length s ≡ length (places_by k t v r) → field_by k t v r s ≡ holds x → fits_by k t v r x ≡ fits
  unfolding field_by places_by
  held_by Single s n e = single_fits (code_of s) e
  held_by (Multiple Bits) s n e = bits_fits s e
  held_by (Multiple (Fields c b)) s n e = spread_fits c b s e
  held_by (Quantity f) s n e = quantity_fits f (quantity_of f s) e
  held_by Character s n e = text_fits_lem s (n ∙ length_run (r.start - 1) r.width) e
  held_by Logical s n e = truth_fits s e

-- ---- THE LAWS OF A ROW
module _ {t : List ℤ} {v len : ℕ} (r : Row) (facts : RowFacts t v len r) (x : Value) where
  -- a value that fits has as many bytes as the row has value places
  pub bytes_many : fit_of t v r x ≡ fits → length (bytes_of t v r x) ≡ length (places_of t v r)
  bytes_many e = length_by t v r r.kind (limits facts) x e

  -- its bytes say it
  pub bytes_say : Topped r.kind t v r → fit_of t v r x ≡ fits → field_of t v r (bytes_of t v r x) ≡ holds x
  bytes_say top e = back_by t v r r.kind (limits facts) top x e

-- what a row's field holds fits the row
pub held_fits : (t : List ℤ) (v : ℕ) (r : Row) (x : Value) (s : List ℕ) → length s ≡ length (places_of t v r)
    → field_of t v r s ≡ holds x → fit_of t v r x ≡ fits
held_fits t v r x s n e = held_by t v r x r.kind s n e
