-- What was read of a row of a well-formed table lies within the room of a line, and is the row's value.
use Rattle.std.specs.Prelude.{◌≡◌, Bool, true, false, cond, List, [], ◌∷◌, ℕ, zero, suc, ◌+◌, ◌-◌, ◌≤◌, ◌<◌, ltb, leb, ℤ, pos, take, drop}
use Rattle.std.specs.Prelude.{get_or}
use Rattle.std.proofs.Math.Path.{refl}
use Rattle.std.proofs.Common.{sym, ap, ◌∙◌, arith, length-append, take-take}
use borrow.Author.Tests.{le-leb}
use Rattle.std.proofs.Math.ListN.{length, get_or-append}
use Rattle.std.proofs.Math.Seq.{take-append_seam}
use Rattle.below.specs.Below.{holds_not}
use Rattle.cells.specs.rule.Cell.{signed_of}
use Rattle.layout.specs.declared.Kind.{Kind}
use Rattle.layout.specs.declared.Kind.TheVariants.{Single, Multiple, Quantity, Character, Logical}
use Rattle.layout.specs.declared.Spread.TheVariants.{Bits, Fields}
use Rattle.layout.specs.declared.Row.{Row}
use Rattle.widths.specs.Width.{size_small}
use Rattle.widths.specs.rule.Width.{lowest, highest}
use Rattle.places.specs.rule.Places.{pick, run}
use Rattle.places.specs.Laws.{pick_run}
use Rattle.fields.specs.rule.Legal.{legal}
use Rattle.fields.specs.rule.Number.{all_spaces}
use Rattle.fields.specs.rule.Field.{Value, missing, number, members, text, truth, Field, holds, illegal, set_fits, text_fits, unended}
use Rattle.fields.specs.rule.Field.{all_plain, text_field}
use Rattle.fields.specs.rule.Row.{fits_by, fits, other_type, reading_of, field_by, places_by}
use Rattle.fields.specs.Facts.{RowFacts, KindFacts, WidthFacts}
use Rattle.fieldlaws.specs.BackLaws.{fit_legal, fit_set}
use Rattle.fieldlaws.specs.RisingLaws.{Rising, none, skip, keep, rising_of}
use Rattle.fieldlaws.specs.TextLaws.{Fitting, fitting}
use Rattle.fieldlaws.specs.Corrections.{read_fits}
use Rattle.sets.specs.rule.Sets.{list_after, filled_of}
use Rattle.readings.specs.Answer.{answer_of, RowRead, illegal_answer}
use Rattle.readings.specs.declared.Answer.{Answer}
use Rattle.readings.specs.declared.Answer.TheVariants as answer
use Rattle.lines.specs.Lines.{Codes, Listable, value_of}

-- ---- which values fit a row
no_other : {A : Type 0} → other_type ≡ fits → A
no_other e = let z : ◌≡◌ {A = ℕ} 0 1 = cc in absurd (omega arith)

module _ (t : List ℤ) (v : ℕ) (r : Row) where
  number_legal : (k : Kind) (z : ℤ) → fits_by k t v r (number z) ≡ fits → legal t v r z ≡ true
  unfolding fits_by
  number_legal Single z e = fit_legal (legal t v r z) e
  number_legal (Quantity f) z e = fit_legal (legal t v r z) e
  number_legal (Multiple s) z e = no_other e
  number_legal Character z e = no_other e
  number_legal Logical z e = no_other e

  -- a set that fits is of a multiple
  data SetRow (ms : List ℤ) : Kind → Type 0 where
    set_row : {s : _} → set_fits (legal t v r) ms ≡ true → SetRow ms (Multiple s)

  set_legal : (k : Kind) (ms : List ℤ) → fits_by k t v r (members ms) ≡ fits → SetRow ms k
  unfolding fits_by
  set_legal (Multiple Bits) ms e = set_row (fit_legal (set_fits (legal t v r) ms) e)
  set_legal (Multiple (Fields n b)) ms e = set_row (fit_set (set_fits (legal t v r) ms) (ltb n (length ms)) e).0
  set_legal Single ms e = no_other e
  set_legal (Quantity f) ms e = no_other e
  set_legal Character ms e = no_other e
  set_legal Logical ms e = no_other e

  text_legal : (k : Kind) (s : List ℕ) → fits_by k t v r (text s) ≡ fits → (k ≡ Character) × Fitting r.width s
  unfolding fits_by
  text_legal Character s e = (refl, fitting r.width s (fit_legal (text_fits r.width s) e))
  text_legal Single s e = no_other e
  text_legal (Multiple x) s e = no_other e
  text_legal (Quantity f) s e = no_other e
  text_legal Logical s e = no_other e

-- ---- a set: some of 1 to 9,999
rising_few : {c n : ℕ} {ms : List ℤ} → Rising c n ms → length ms ≤ n
rising_few none = omega arith
rising_few (skip s) = let h = rising_few s in omega arith
rising_few (keep s) = let h = rising_few s in omega arith

-- member j is a count below c + n
record Code (z : ℤ) (top : ℕ) : Type 0 where
  small : (signed_of z).size < top
  plain : (signed_of z).minus ≡ false

code_of : (c top : ℕ) → c < top → Code (pos c) top
unfolding signed_of
code_of c top h = record { small = h; plain = refl }

rising_code : {c n : ℕ} {ms : List ℤ} → Rising c n ms → (top : ℕ) → c + n ≤ top → (j : ℕ) → j < length ms → Code (get_or ms j (pos 0)) top
rising_code none top h j l = absurd (omega arith)
rising_code (skip s) top h j l = rising_code s top (omega arith) j l
rising_code (keep {c = c} s) top h zero l = code_of c top (omega arith)
rising_code (keep s) top h (suc j) l = rising_code s top (omega arith) j (omega arith)

-- a set at the start of a list
filled_codes : (ms list : List ℤ) → Rising 1 9999 ms → Codes (filled_of ms list) (length ms)
unfolding filled_of
filled_codes ms list s = record {
  many = rw (length-append ms (drop (length ms) list)) (omega arith);
  limit = rising_few s;
  few = λ j h. rw (get_or-append ms (drop (length ms) list) (pos 0) j h) (rising_code s 10000 (omega arith) j h).small;
  plain = λ j h. rw (get_or-append ms (drop (length ms) list) (pos 0) j h) (rising_code s 10000 (omega arith) j h).plain;
}

filled_take : (ms list : List ℤ) → take (length ms) (filled_of ms list) ≡ ms
unfolding filled_of
filled_take ms list = take-append_seam ms (drop (length ms) list)

-- ---- a text: the start of its value places
unended_first : (s : List ℕ) → take (length (unended s)) s ≡ unended s
unfolding unended
unended_first [] = refl
unended_first (b ∷ s) = go (all_spaces (b ∷ s)) (unended_first s)
  where
    go : (q : Bool) → take (length (unended s)) s ≡ unended s
        → take (length (cond q [] (b ∷ unended s))) (b ∷ s) ≡ cond q [] (b ∷ unended s)
    go true h = refl
    go false h = ap (λ (l : List ℕ). b ∷ l) h

text_is : (s x : List ℕ) → text_field s ≡ holds (text x) → x ≡ unended s
unfolding text_field
text_is s x e = go (all_spaces s) (all_plain s) e
  where
    go : (p q : Bool) → cond p (holds missing) (cond q (holds (text (unended s))) illegal) ≡ holds (text x) → x ≡ unended s
    go true q e = let z : ◌≡◌ {A = ℕ} 0 1 = cc in absurd (omega arith)
    go false true e = cc
    go false false e = let z : ◌≡◌ {A = ℕ} 0 1 = cc in absurd (omega arith)

text_field_lem : (t : List ℤ) (v : ℕ) (r : Row) (bytes : List ℕ) (f : Field) (k : Kind) → k ≡ Character
    → field_by k t v r (pick bytes (places_by k t v r)) ≡ f
    → text_field (pick bytes (run (r.start - 1) r.width)) ≡ f
unfolding field_by places_by
text_field_lem t v r bytes f k e q = rw e at q

text_stands : (bytes : List ℕ) (p w : ℕ) (x : List ℕ) → p + w ≤ length bytes → length x ≤ w
    → text_field (pick bytes (run p w)) ≡ holds (text x) → take (length x) (drop p bytes) ≡ x
text_stands bytes p w x h l e =
    let q : x ≡ unended (take w (drop p bytes)) = text_is _ _ (rw (pick_run bytes p w h) at e) in
    sym (take-take (length x) w (drop p bytes) l) ∙ rw q (unended_first (take w (drop p bytes)))

-- ---- WHAT WAS READ: the answer's value is the row's, and it can be listed
pub record Shown (v : Value) (a : Answer) (list : List ℤ) (bytes : List ℕ) : Type 0 where
  pub listable : Listable a list bytes
  pub value : value_of a list bytes ≡ v

character_width : (k : Kind) (r : Row) → k ≡ Character → KindFacts k r → WidthFacts 4096 r
character_width k r e f = rw e at f

module _ (t : List ℤ) (v len : ℕ) (r : Row) (facts : RowFacts t v len r) (bytes : List ℕ) (long : len ≤ length bytes) (list : List ℤ)
    (room : length list ≡ 9999) where
  set_rising : (k : Kind) (ms : List ℤ) → r.kind ≡ k → SetRow t v r ms k → Rising 1 9999 ms
  unfolding lowest highest
  set_rising (Multiple s) ms e (set_row f) =
      rising_of (legal t v r) 9999 (λ z l. rw e at (facts.most z l)) (λ z l. rw e at (facts.least z l)) ms f
  set_rising Single ms e x'' = elim x'' [ ]
  set_rising (Quantity _) ms e x4 = elim x4 [ ]
  set_rising Character ms e x4 = elim x4 [ ]
  set_rising Logical ms e x5 = elim x5 [ ]

  set_shown : (ms : List ℤ) (a : Answer) (list' : List ℤ) (p : ℕ) → Rising 1 9999 ms → a ≡ answer_of p (length list) (holds (members ms))
      → list' ≡ list_after (holds (members ms)) list
      → Shown (members ms) a list' bytes
  unfolding answer_of list_after Listable value_of
  set_shown ms a list' p s e l =
      let h = le-leb (length ms) (length list) (omega (arith, rising_few s)) in
      let e' = rw h at e in
      let l' = rw h at l in
      record {
        listable = rw (e', l') (filled_codes ms list s);
        value = rw (e', l') (ap members (filled_take ms list));
      }

  pub shown : (x : Value) (a : Answer) (list' : List ℤ) → reading_of t v r bytes ≡ holds x → RowRead (r.start - 1) (holds x) list list' a
      → Shown x a list' bytes
  unfolding answer_of list_after Listable value_of reading_of
  shown missing a list' e q = record { listable = rw q.answer tt; value = rw q.answer }
  shown (number z) a list' e q =
      let l = number_legal t v r r.kind z (read_fits t v r (number z) bytes e) in
      let s = size_small r.kind z (facts.least z l) (facts.most z l) in
      record { listable = rw q.answer (omega arith); value = rw q.answer }
  shown (members ms) a list' e q =
      set_shown ms a list' (r.start - 1) (set_rising r.kind ms refl
      (set_legal t v r r.kind ms (read_fits t v r (members ms) bytes e))) q.answer q.leaves
  shown (text s) a list' e q =
      let f = text_legal t v r r.kind s (read_fits t v r (text s) bytes e) in
      let w = character_width r.kind r f.0 facts.kind in
      let p = facts.position in
      let n : length s ≤ r.width = f.1.few in
      let k : r.start - 1 + r.width ≤ length bytes = omega (arith, w.room, p.from_one, p.inside) in
      let g = text_field_lem t v r bytes (holds (text s)) r.kind f.0 e in
      record {
        listable = rw q.answer (omega (arith, w.few), omega arith);
        value = rw q.answer (ap text (text_stands bytes (r.start - 1) r.width s k n g));
      }
  shown (truth b) a list' e q = record { listable = rw q.answer tt; value = rw q.answer }

-- an answer that is not illegal has a value, and one that is has none
pub shown_none : (p n : ℕ) (f : Field) (a : Answer) → a ≡ answer_of p n f → illegal_answer a ≡ true → f ≡ illegal
unfolding answer_of illegal_answer
shown_none p n illegal a e i = refl
shown_none p n (holds missing) a e i = holds_not (rw e at i) refl
shown_none p n (holds (number z)) a e i = holds_not (rw e at i) refl
shown_none p n (holds (members ms)) a e i = go (leb (length ms) n) (rw e at i)
  where
    go : (b : Bool) → illegal_answer (cond b (answer.Set (length ms)) answer.ShortList) ≡ true → holds (members ms) ≡ illegal
    go true h = holds_not h refl
    go false h = holds_not h refl
shown_none p n (holds (text s)) a e i = holds_not (rw e at i) refl
shown_none p n (holds (truth b)) a e i = holds_not (rw e at i) refl

-- a field that holds a value
pub data Held (f : Field) : Type 0 where
  held : (x : Value) → f ≡ holds x → Held f

pub shown_some : (p n : ℕ) (f : Field) (a : Answer) → a ≡ answer_of p n f → illegal_answer a ≡ false → Held f
unfolding answer_of illegal_answer
shown_some p n illegal a e i = holds_not refl (rw e at i)
shown_some p n (holds x) a e i = held x refl
