-- The laws of corrections, for every kind of row: what a write keeps, that the last write counts alone, that writes with no shared
-- place may change order, that a write reads back, and that what was read may be written back.
use Rattle.std.specs.Prelude.{◌≡◌, Bool, cond, List, [], ◌∷◌, ℕ, ◌-◌, ◌≤◌, eqb, ℤ, length, get_or}
use Rattle.std.proofs.Math.Path.{refl, sym, ap}
use Rattle.std.proofs.Common.{◌∙◌, arith, eqb-true}
use Rattle.std.proofs.Math.Bool.{true, false}
use Rattle.std.proofs.lemmas.List.{set-get_or}
use Rattle.places.specs.rule.Places.{pick, put, Out, Apart}
use Rattle.places.specs.Places.{Below}
use Rattle.places.specs.Laws.{length_put, keeps, last, commute, back, apart, length_run, length_pick}
use Rattle.layout.specs.declared.Spread.TheVariants.{Bits}
use Rattle.layout.specs.declared.Kind.{Kind}
use Rattle.layout.specs.declared.Kind.TheVariants.{Multiple, Character, Logical}
use Rattle.layout.specs.declared.Row.{Row}
use Rattle.fields.specs.rule.Legal.{legal}
use Rattle.fields.specs.rule.Number.{all_spaces}
use Rattle.fields.specs.rule.Field.{Value, missing, members, text, truth, holds, illegal, all_bits}
use Rattle.fields.specs.rule.Field.{set_bits, bits_field, all_plain, unended, text_field, truth_field, spaces}
use Rattle.fields.specs.rule.Row.{categories, places_by, places_of, field_by, field_of, reading_of, fits, fit_of, bytes_by, bytes_of}
use Rattle.fields.specs.rule.Row.{written_of}
use Rattle.fields.specs.Facts.{RowFacts}
use Rattle.fieldlaws.specs.PlaceLaws.{places_once, places_inside, length_bits}
use Rattle.fieldlaws.specs.BackLaws.{Topped, bytes_many, bytes_say, missing_back, held_fits, held, illegal_holds}
use Rattle.fieldlaws.specs.KeptLaws.{spaces_kept, text_kept, bits_kept, truth_kept}

-- a record that has the places has more
below_more : (m n : ℕ) (ps : List ℕ) → m ≤ n → Below m ps → Below n ps
below_more m n [] h b = tt
below_more m n (p ∷ ps) h b = (omega (arith, b.0), below_more m n ps h b.1)

-- putting back what was picked changes nothing
put_picked : (r ps : List ℕ) → put r ps (pick r ps) ≡ r
put_picked r [] = refl
put_picked r (p ∷ ps) = rw (set-get_or r p 0) (put_picked r ps)

module _ (t : List ℤ) (v : ℕ) (r : Row) (x : Value) (old : List ℕ) where
  -- a write keeps the record's length
  pub written_length : length (written_of t v r x old) ≡ length old
  unfolding written_of
  written_length = length_put old (places_of t v r) (bytes_of t v r x)

  -- LOCALITY: it changes no byte outside the row's value places
  pub written_keeps : (q : ℕ) → Out q (places_of t v r) → get_or (written_of t v r x old) q 0 ≡ get_or old q 0
  unfolding written_of
  written_keeps q o = keeps old (places_of t v r) (bytes_of t v r x) q o

  -- and each row that shares none of them reads as before
  pub others_read : (other : Row) → Apart (places_of t v other) (places_of t v r)
      → reading_of t v other (written_of t v r x old) ≡ reading_of t v other old
  unfolding written_of reading_of
  others_read other o = ap (field_of t v other) (apart old (places_of t v r) (bytes_of t v r x) (places_of t v other) o)

-- COMMUTATION: writes to two rows with no shared value place give equal bytes in either order
pub either_order : (t : List ℤ) (v : ℕ) (r₁ r₂ : Row) (x₁ x₂ : Value) (old : List ℕ) → Apart (places_of t v r₁) (places_of t v r₂)
    → written_of t v r₂ x₂ (written_of t v r₁ x₁ old) ≡ written_of t v r₁ x₁ (written_of t v r₂ x₂ old)
unfolding written_of
either_order t v r₁ r₂ x₁ x₂ old o = commute old (places_of t v r₁) (bytes_of t v r₁ x₁) (places_of t v r₂) (bytes_of t v r₂ x₂) o

module _ {t : List ℤ} {v len : ℕ} (r : Row) (facts : RowFacts t v len r) (old : List ℕ) where
  -- LAST WRITE: of two writes to one row only the second counts
  pub last_counts : (x y : Value) → fit_of t v r y ≡ fits → written_of t v r y (written_of t v r x old) ≡ written_of t v r y old
  unfolding written_of
  last_counts x y e = last old (places_of t v r) (bytes_of t v r x) (bytes_of t v r y) (places_once r facts) (bytes_many r facts y e)

  -- the bytes at the value places are then the value's own, whatever stood there
  pub written_bytes : (x : Value) → len ≤ length old → fit_of t v r x ≡ fits
      → pick (written_of t v r x old) (places_of t v r) ≡ bytes_of t v r x
  unfolding written_of
  written_bytes x h e =
      back old (places_of t v r) (bytes_of t v r x) (places_once r facts)
      (below_more len (length old) (places_of t v r) h (places_inside r facts)) (bytes_many r facts x e)

  -- READ-BACK: a value that fits reads back as itself
  pub reads_back : Topped r.kind t v r → (x : Value) → len ≤ length old → fit_of t v r x ≡ fits
      → reading_of t v r (written_of t v r x old) ≡ holds x
  unfolding reading_of
  reads_back top x h e = rw (written_bytes x h e) (bytes_say r facts x top e)

-- WRITE-BACK: what was read fits
pub read_fits : (t : List ℤ) (v : ℕ) (r : Row) (x : Value) (old : List ℕ) → reading_of t v r old ≡ holds x → fit_of t v r x ≡ fits
unfolding reading_of
read_fits t v r x old e = held_fits t v r x (pick old (places_of t v r)) (length_pick old (places_of t v r)) e

-- ---- value places that are all spaces read as missing, and missing written back keeps every byte, for every kind
module _ (t : List ℤ) (v : ℕ) (r : Row) (old : List ℕ) (blank : all_spaces (pick old (places_of t v r)) ≡ true) where
  pub blank_reads : reading_of t v r old ≡ holds missing
  unfolding reading_of
  blank_reads =
      let s = pick old (places_of t v r) in
      rw (← spaces_kept s blank) (missing_back r.kind t v r (length s))

  pub blank_kept : written_of t v r missing old ≡ old
  unfolding written_of bytes_by
  blank_kept =
      let ps = places_of t v r in
      let e : spaces (length ps) ≡ pick old ps = ap spaces (sym (length_pick old ps)) ∙ spaces_kept (pick old ps) blank in
      rw e (put_picked old ps)

-- ---- and keeps the very bytes of a bitstring, a text or a truth
pub data Plain : Kind → Type 0 where
  bitstring : Plain (Multiple Bits)
  character : Plain Character
  logical : Plain Logical

module _ (t : List ℤ) (v : ℕ) (r : Row) (x : Value) (s : List ℕ) where
  missing_kept : (k : Kind) → length s ≡ length (places_by k t v r) → all_spaces s ≡ true → holds missing ≡ holds x → bytes_by k t v r x ≡ s
  unfolding bytes_by
  missing_kept k n b e = rw (← held e, ← n) (spaces_kept s b)

  bits_same : length s ≡ length (categories t v r) → (a b : Bool) → all_spaces s ≡ a → all_bits s ≡ b
      → cond a (holds missing) (cond b (holds (members (set_bits (categories t v r) s))) illegal) ≡ holds x
      → bytes_by (Multiple Bits) t v r x ≡ s
  unfolding bytes_by places_by
  bits_same n true b p q e = missing_kept (Multiple Bits) (n ∙ sym (length_bits (r.start - 1) (categories t v r))) p e
  bits_same n false true p q e = rw (← held e) (bits_kept (legal t v r) 1 r.width s n q)
  bits_same n false false p q e = illegal_holds e

  text_same : length s ≡ r.width → (a b : Bool) → all_spaces s ≡ a
      → cond a (holds missing) (cond b (holds (text (unended s))) illegal) ≡ holds x → bytes_by Character t v r x ≡ s
  unfolding bytes_by places_by
  text_same n true b p e = missing_kept Character (n ∙ sym (length_run (r.start - 1) r.width)) p e
  text_same n false true p e = rw (← held e) (text_kept r.width s n)
  text_same n false false p e = illegal_holds e

  truth_same : length s ≡ 1 → (a b c : Bool) → all_spaces s ≡ a → eqb (get_or s 0 0) 49 ≡ b → eqb (get_or s 0 0) 48 ≡ c
      → cond a (holds missing) (cond b (holds (truth true)) (cond c (holds (truth false)) illegal)) ≡ holds x → bytes_by Logical t v r x ≡ s
  unfolding bytes_by places_by
  truth_same n true b c p q u e = missing_kept Logical n p e
  truth_same n false true c p q u e = rw (← held e) (truth_kept true s n (eqb-true (get_or s 0 0) 49 q))
  truth_same n false false true p q u e = rw (← held e) (truth_kept false s n (eqb-true (get_or s 0 0) 48 u))
  truth_same n false false false p q u e = illegal_holds e

  same_bytes : {k : Kind} → Plain k → length s ≡ length (places_by k t v r) → field_by k t v r s ≡ holds x → bytes_by k t v r x ≡ s
  unfolding field_by places_by bits_field text_field truth_field
  same_bytes bitstring n e = bits_same (n ∙ length_bits (r.start - 1) (categories t v r)) (all_spaces s) (all_bits s) refl refl e
  same_bytes character n e = text_same (n ∙ length_run (r.start - 1) r.width) (all_spaces s) (all_plain s) refl e
  same_bytes logical n e = truth_same n (all_spaces s) (eqb (get_or s 0 0) 49) (eqb (get_or s 0 0) 48) refl refl refl e

pub writes_back_bytes : (t : List ℤ) (v : ℕ) (r : Row) (x : Value) (old : List ℕ) → Plain r.kind
    → reading_of t v r old ≡ holds x → written_of t v r x old ≡ old
unfolding reading_of written_of
writes_back_bytes t v r x old p e =
    rw (same_bytes t v r x (pick old (places_of t v r)) p (length_pick old (places_of t v r)) e) (put_picked old (places_of t v r))
