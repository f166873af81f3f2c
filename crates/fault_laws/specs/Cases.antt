-- "A record is refused in the same cases as before": a row has a fault exactly when its reading is illegal.
use Rattle.std.specs.Prelude.{◌≡◌, refl, Bool, true, false, cond, not, ◌&&◌, ◌||◌, List, [], ◌∷◌, ◌++◌, ℕ, zero, suc, ◌+◌, ◌-◌, ◌*◌, ◌/◌}
use Rattle.std.specs.Prelude.{◌^◌, ◌≤◌, ◌<◌, eqb, leb, ℤ, pos, take, drop, get_or}
use Rattle.std.proofs.Math.Path.{sym}
use Rattle.std.proofs.Common.{ap, subst, ◌∙◌, suc-mul, arith, length-drop, length-take-le}
use Rattle.std.proofs.Math.Bool.{and-true, and-false, or-false, or-true, not-not}
use Rattle.std.proofs.Math.ListN.{length}
use Rattle.below.specs.Below.{holds_not, and_left, and_right}
use Rattle.cells.specs.rule.Cell.{eq_z}
use Rattle.layout.specs.declared.Format.{Format}
use Rattle.layout.specs.declared.Spread.TheVariants.{Bits, Fields}
use Rattle.layout.specs.declared.Kind.{Kind}
use Rattle.layout.specs.declared.Kind.TheVariants.{Single, Multiple, Quantity, Character, Logical}
use Rattle.layout.specs.declared.Row.{Row}
use Rattle.widths.specs.rule.Width.{tail_of, least_whole, need, quantity_width, size_of}
use Rattle.widths.specs.Width.{whole_least}
use Rattle.places.specs.rule.Places.{pick, run}
use Rattle.places.specs.Laws.{length_pick, length_run}
use Rattle.fields.specs.rule.Legal.{legal}
use Rattle.fields.specs.rule.Number.{Said, blank, says, wrong, all_spaces, unspaced, code_after, code_of, quantity_of}
use Rattle.fields.specs.rule.Field.{missing, number, members, text, truth, Field, holds, illegal, number_field, single_says, quantity_says}
use Rattle.fields.specs.rule.Field.{all_bits, set_bits, bits_field, entry_good, all_entries, spread_set, spread_field, all_plain, unended}
use Rattle.fields.specs.rule.Field.{text_field, truth_field}
use Rattle.fields.specs.rule.Row.{places_by, places_of, field_by, field_of, reading_of, categories, bit_places, spread_places}
use Rattle.fields.specs.Facts.{KindFacts, RowFacts}
use Rattle.fieldlaws.specs.PlaceLaws.{length_spread}
use Rattle.sets.specs.rule.Sets.{is_illegal}
use Rattle.sets.proofs.SpreadLaws.{spaces_split}
use Rattle.faults.specs.declared.Fault.{Fault}
use Rattle.faults.specs.declared.Fault.TheVariants.{Sound, Stray, NotLegal, Point}
use Rattle.faults.specs.declared.Test.{Test}
use Rattle.faults.specs.declared.Test.TheVariants.{Space, Bit, Plain}
use Rattle.faults.specs.rule.Fault.{or_else, code_format, fixed_of, number_form, spread_form, passes}
use Rattle.faults.specs.rule.Fault.{first_failing, plain_form, value_fault, usable, spread_value, form_by, value_by, fault_of}
use Rattle.fault_laws.specs.Numbers.{formed, code_cases, quantity_cases}
use Rattle.faults.specs.Joined.{some_fault}

pub else_some : (a b : Fault) → some_fault (or_else a b) ≡ (some_fault a || some_fault b)
unfolding some_fault or_else
else_some Sound b = refl
else_some (Stray p) b = refl
else_some (NotLegal z) b = refl
else_some (Point p) b = refl

-- ---- numbers
single_some : (ok : ℤ → Bool) (x : Said) → is_illegal (single_says ok x) ≡ (not (formed x) || some_fault (value_fault (usable ok) x))
unfolding is_illegal single_says number_field formed value_fault usable some_fault
single_some ok blank = refl
single_some ok (says z) = go (eq_z z (pos 0)) (ok z)
  where
    go : (a b : Bool) → is_illegal (cond a (holds missing) (cond b (holds (number z)) illegal))
        ≡ some_fault (cond (a || b) Sound (NotLegal z))
    go true b = refl
    go false true = refl
    go false false = refl
single_some ok wrong = refl

quantity_some : (ok : ℤ → Bool) (x : Said) → is_illegal (quantity_says ok x) ≡ (not (formed x) || some_fault (value_fault ok x))
unfolding is_illegal quantity_says number_field formed value_fault some_fault
quantity_some ok blank = refl
quantity_some ok (says z) = go (ok z)
  where
    go : (b : Bool) → is_illegal (cond b (holds (number z)) illegal) ≡ some_fault (cond b Sound (NotLegal z))
    go true = refl
    go false = refl
quantity_some ok wrong = refl

-- ---- fields without numbers
bits_some : (r ps : List ℕ) → some_fault (first_failing Bit r ps) ≡ not (all_bits (pick r ps))
unfolding some_fault first_failing all_bits passes
bits_some r [] = refl
bits_some r (p ∷ ps) = go (eqb (get_or r p 0) 48 || eqb (get_or r p 0) 49) (bits_some r ps)
  where
    go : (c : Bool) → some_fault (first_failing Bit r ps) ≡ not (all_bits (pick r ps))
        → some_fault (cond c (first_failing Bit r ps) (Stray p)) ≡ not (c && all_bits (pick r ps))
    go true ih = ih
    go false ih = refl

texts_some : (r ps : List ℕ) → some_fault (first_failing Plain r ps) ≡ not (all_plain (pick r ps))
unfolding some_fault first_failing all_plain passes
texts_some r [] = refl
texts_some r (p ∷ ps) = go (leb 32 (get_or r p 0)) (texts_some r ps)
  where
    go : (c : Bool) → some_fault (first_failing Plain r ps) ≡ not (all_plain (pick r ps))
        → some_fault (cond c (first_failing Plain r ps) (Stray p)) ≡ not (c && all_plain (pick r ps))
    go true ih = ih
    go false ih = refl

plain_some : (x : Test) (r ps : List ℕ) (v : Field) → is_illegal v ≡ some_fault (first_failing x r ps)
    → is_illegal (cond (all_spaces (pick r ps)) (holds missing) v) ≡ some_fault (plain_form x r ps)
unfolding is_illegal plain_form some_fault
plain_some x r ps v e = go (all_spaces (pick r ps))
  where
    go : (c : Bool) → is_illegal (cond c (holds missing) v) ≡ some_fault (cond c Sound (first_failing x r ps))
    go true = refl
    go false = e

bits_cases : (cs r ps : List ℕ) → is_illegal (bits_field cs (pick r ps)) ≡ some_fault (plain_form Bit r ps)
unfolding is_illegal bits_field
bits_cases cs r ps = plain_some Bit r ps _ (go (all_bits (pick r ps)) ∙ sym (bits_some r ps))
  where
    go : (c : Bool) → is_illegal (cond c (holds (members (set_bits cs (pick r ps)))) illegal) ≡ not c
    go true = refl
    go false = refl

text_cases : (r ps : List ℕ) → is_illegal (text_field (pick r ps)) ≡ some_fault (plain_form Plain r ps)
unfolding is_illegal text_field
text_cases r ps = plain_some Plain r ps _ (go (all_plain (pick r ps)) ∙ sym (texts_some r ps))
  where
    go : (c : Bool) → is_illegal (cond c (holds (text (unended (pick r ps)))) illegal) ≡ not c
    go true = refl
    go false = refl

truth_cases : (r : List ℕ) (p : ℕ) → is_illegal (truth_field (pick r (run p 1))) ≡ some_fault (plain_form Bit r (run p 1))
unfolding is_illegal truth_field all_bits
truth_cases r p = plain_some Bit r (run p 1) _ (go (eqb (get_or r p 0) 48) (eqb (get_or r p 0) 49)
    ∙ ap not (sym (and-true (eqb (get_or r p 0) 48 || eqb (get_or r p 0) 49))) ∙ sym (bits_some r (run p 1)))
  where
    go : (a b : Bool) → is_illegal (cond b (holds (truth true)) (cond a (holds (truth false)) illegal)) ≡ not (a || b)
    go true true = refl
    go true false = refl
    go false true = refl
    go false false = refl

-- ---- a spread
pub pick_take : (w : ℕ) (r ps : List ℕ) → take w (pick r ps) ≡ pick r (take w ps)
pick_take zero r ps = refl
pick_take (suc w) r [] = refl
pick_take (suc w) r (p ∷ ps) = ap (λ (l : List ℕ). get_or r p 0 ∷ l) (pick_take w r ps)

pub pick_drop : (w : ℕ) (r ps : List ℕ) → drop w (pick r ps) ≡ pick r (drop w ps)
pick_drop zero r ps = refl
pick_drop (suc w) r [] = refl
pick_drop (suc w) r (p ∷ ps) = pick_drop w r ps

entry_some : (ok : ℤ → Bool) (x : Said) → entry_good ok x ≡ not (not (formed x) || some_fault (value_fault (usable ok) x))
unfolding entry_good formed value_fault usable some_fault
entry_some ok blank = refl
entry_some ok (says z) = go (eq_z z (pos 0) || ok z)
  where
    go : (a : Bool) → a ≡ not (some_fault (cond a Sound (NotLegal z)))
    go true = refl
    go false = refl
entry_some ok wrong = refl

-- the first faults of both kinds, and the rest
four : (a b c d : Bool) → ((a || b) || (c || d)) ≡ not (not (a || c) && not (b || d))
four true b c d = refl
four false true true d = refl
four false true false d = refl
four false false true d = refl
four false false false d = go d
  where
    go : (x : Bool) → x ≡ not (not x)
    go true = refl
    go false = refl

entries_some : (ok : ℤ → Bool) (w : ℕ) (r : List ℕ) (n : ℕ) (ps : List ℕ) → 1 ≤ w → length ps ≡ n * w
    → (some_fault (spread_form w r n ps) || some_fault (spread_value ok w r n ps)) ≡ not (all_entries ok w n (pick r ps))
unfolding spread_form spread_value all_entries some_fault
entries_some ok w r zero ps h l = refl
entries_some ok w r (suc n) ps h l =
    let m : length ps ≡ n * w + w = l ∙ suc-mul n w in
    let a : length (take w ps) ≡ w = length-take-le w ps (omega arith) in
    let b : length (drop w ps) ≡ n * w = length-drop w ps ∙ omega arith in
    rw (
      else_some (number_form false code_format r (take w ps)) (spread_form w r n (drop w ps)),
      else_some (value_fault (usable ok) (code_of (pick r (take w ps)))) (spread_value ok w r n (drop w ps)),
      code_cases r (take w ps) (omega arith),
      pick_take w r ps,
      pick_drop w r ps,
      entry_some ok (code_of (pick r (take w ps))),
    )
    (four (not (formed (code_of (pick r (take w ps))))) (some_fault (spread_form w r n (drop w ps)))
    (some_fault (value_fault (usable ok) (code_of (pick r (take w ps))))) (some_fault (spread_value ok w r n (drop w ps)))
    ∙ rw (entries_some ok w r n (drop w ps) h b, not-not))

all_gone : (s : List ℕ) → all_spaces s ≡ true → unspaced s ≡ []
unfolding unspaced all_spaces
all_gone [] e = refl
all_gone (b ∷ s) e =
    rw (and_left (eqb b 32) (all_spaces s) e) (all_gone s (and_right (eqb b 32) (all_spaces s) e))

none_code : code_after [] ≡ blank
unfolding code_after
none_code = refl

blank_code : (s : List ℕ) → all_spaces s ≡ true → code_of s ≡ blank
unfolding code_of
blank_code s e = rw (all_gone s e) none_code

blank_entries : (ok : ℤ → Bool) (w n : ℕ) (s : List ℕ) → all_spaces s ≡ true → all_entries ok w n s ≡ true
unfolding all_entries entry_good
blank_entries ok w zero s e = refl
blank_entries ok w (suc n) s e =
    let p = spaces_split w s in
    let q : (all_spaces (take w s) && all_spaces (drop w s)) ≡ true = sym p ∙ e in
    rw (blank_code (take w s) (and_left (all_spaces (take w s)) (all_spaces (drop w s)) q))
    (blank_entries ok w n (drop w s) (and_right (all_spaces (take w s)) (all_spaces (drop w s)) q))

spread_cases : (ok : ℤ → Bool) (w n : ℕ) (r ps : List ℕ) → 1 ≤ w → length ps ≡ n * w
    → is_illegal (spread_field ok w n (pick r ps)) ≡ (some_fault (spread_form w r n ps) || some_fault (spread_value ok w r n ps))
unfolding is_illegal spread_field
spread_cases ok w n r ps h l =
    rw (entries_some ok w r n ps h l) (go (all_spaces (pick r ps)) refl (all_entries ok w n (pick r ps)) refl)
  where
    go : (c : Bool) → all_spaces (pick r ps) ≡ c → (d : Bool) → all_entries ok w n (pick r ps) ≡ d
        → is_illegal (cond c (holds missing) (cond d (holds (members (spread_set w n (pick r ps)))) illegal)) ≡ not d
    go true e true q = refl
    go true e false q = holds_not (blank_entries ok w n (pick r ps) e) q
    go false e true q = refl
    go false e false q = refl

-- ---- a row
-- a quantity's width holds its fixed places: what a well-formed table gives (`fixed_of`)
abbrev pub FixedFacts : Kind → Row → Type 0
FixedFacts (Quantity f) r = fixed_of f ≤ r.width
FixedFacts Single r = Unit
FixedFacts (Multiple s) r = Unit
FixedFacts Character r = Unit
FixedFacts Logical r = Unit

module _ (t : List ℤ) (v : ℕ) (r : Row) (record' : List ℕ) where
  cases_by : (k : Kind) → KindFacts k r → FixedFacts k r
      → is_illegal (field_by k t v r (pick record' (places_by k t v r)))
      ≡ (some_fault (form_by k r.width record' (places_by k t v r))
      || some_fault (value_by k (legal t v r) r.width record' (places_by k t v r)))
  unfolding field_by places_by form_by value_by some_fault
  cases_by Single a x =
      let ps = run (r.finish - r.width) r.width in
      let l : length ps ≡ r.width = length_run (r.finish - r.width) r.width in
      let s = a.some in
      rw (code_cases record' ps (omega arith)) (single_some (legal t v r) (code_of (pick record' ps)))
  cases_by (Multiple Bits) a x =
      let ps = bit_places (r.start - 1) (categories t v r) in
      bits_cases (categories t v r) record' ps ∙ sym (or-false (some_fault (plain_form Bit record' ps)))
  cases_by (Multiple (Fields n b)) a x =
      spread_cases (legal t v r) r.width n record' (spread_places (r.start - 1) b r.width n) a.some
      (length_spread b r.width (r.start - 1) n)
  cases_by (Quantity f) a x =
      let ps = run (r.finish - r.width) r.width in
      let l : length ps ≡ r.width = length_run (r.finish - r.width) r.width in
      rw (quantity_cases f a.plain record' ps (omega arith)) (quantity_some (legal t v r) (quantity_of f (pick record' ps)))
  cases_by Character a x =
      let ps = run (r.start - 1) r.width in
      text_cases record' ps ∙ sym (or-false (some_fault (plain_form Plain record' ps)))
  cases_by Logical a x = truth_cases record' (r.finish - 1) ∙ sym (or-false (some_fault (plain_form Bit record' (run (r.finish - 1) 1))))

  -- A ROW HAS A FAULT EXACTLY WHEN ITS READING IS ILLEGAL, whatever the bytes
  pub same_cases : KindFacts r.kind r → FixedFacts r.kind r → is_illegal (reading_of t v r record') ≡ some_fault (fault_of t v r record')
  unfolding reading_of fault_of
  same_cases a x =
      cases_by r.kind a x
      ∙ sym (else_some (form_by r.kind r.width record' (places_of t v r))
      (value_by r.kind (legal t v r) r.width record' (places_of t v r)))

-- every legal number takes its fixed places
fixed_by : (k : Kind) (r : Row) (z : ℤ) → need k z ≤ r.width → FixedFacts k r
unfolding need quantity_width fixed_of
fixed_by Single r z h = tt
fixed_by (Multiple s) r z h = tt
fixed_by (Quantity f) r z h = omega (arith, whole_least f (size_of z))
fixed_by Character r z h = tt
fixed_by Logical r z h = tt
