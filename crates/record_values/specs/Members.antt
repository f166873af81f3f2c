-- How many members a set can have: a bitstring's w, a spread's subfields, and never more than the categories there are.
use Rattle.std.specs.Prelude.{◌≡◌, refl, Bool, true, false, cond, ◌||◌, List, [], ◌∷◌, ℕ, zero, suc, ◌+◌, ◌-◌, ◌^◌, ◌≤◌, eqb, ℤ, pos}
use Rattle.std.specs.Prelude.{negsuc, length, take, drop, get_or}
use Rattle.std.proofs.Common.{arith, eqb-true, ne_eqb}
use Rattle.cells.specs.rule.Cell.{eq_z}
use Rattle.layout.specs.declared.Spread.TheVariants.{Bits, Fields}
use Rattle.layout.specs.declared.Kind.{Kind}
use Rattle.layout.specs.declared.Kind.TheVariants.{Single, Multiple, Quantity, Character, Logical}
use Rattle.layout.specs.declared.Row.{Row}
use Rattle.places.specs.rule.Places.{pick}
use Rattle.fields.specs.rule.Legal.{legal}
use Rattle.fields.specs.rule.Number.{Said, blank, says, wrong, all_spaces, code_of, quantity_of}
use Rattle.fields.specs.rule.Field.{missing, number, members, text, truth, holds, illegal, number_field, single_says, quantity_says}
use Rattle.fields.specs.rule.Field.{all_bits, set_bits, bits_field, entry_is, all_entries, some_entry, passing, spread_set, spread_field}
use Rattle.fields.specs.rule.Field.{all_plain, unended, text_field, truth_field}
use Rattle.fields.specs.rule.Row.{defined, field_by, places_of, reading_of}
use Rattle.fields.specs.Facts.{KindFacts}
use Rattle.readings.specs.Ready.{RowReady}
use Rattle.record_values.specs.rule.Record.{members_of}
use Rattle.record_values.specs.Rows.{most_by, most_of}

-- ---- a bitstring: at most one for each of its categories
bits_few : (cs s : List ℕ) → length (set_bits cs s) ≤ length cs
unfolding set_bits
bits_few [] s = omega arith
bits_few (c ∷ cs) [] = omega arith
bits_few (c ∷ cs) (b ∷ s) = go (eqb b 49) (bits_few cs s)
  where
    go : (x : Bool) → length (set_bits cs s) ≤ length cs → length (cond x (pos c ∷ set_bits cs s) (set_bits cs s)) ≤ suc (length cs)
    go true h = omega arith
    go false h = omega arith

defined_few : (ok : ℤ → Bool) (c n : ℕ) → length (defined ok c n) ≤ n
unfolding defined
defined_few ok c zero = omega arith
defined_few ok c (suc n) = go (ok (pos c)) (defined_few ok (suc c) n)
  where
    go : (x : Bool) → length (defined ok (suc c) n) ≤ n → length (cond x (c ∷ defined ok (suc c) n) (defined ok (suc c) n)) ≤ suc n
    go true h = omega arith
    go false h = omega arith

-- ---- a spread: at most one for each subfield
passing_few : (f : ℤ → Bool) (c n : ℕ) → length (passing f c n) ≤ n
unfolding passing
passing_few f c zero = omega arith
passing_few f c (suc n) = go (f (pos c)) (passing_few f (suc c) n)
  where
    go : (x : Bool) → length (passing f (suc c) n) ≤ n → length (cond x (pos c ∷ passing f (suc c) n) (passing f (suc c) n)) ≤ suc n
    go true h = omega arith
    go false h = omega arith

passing_none : (f : ℤ → Bool) (c n : ℕ) → ((x : ℕ) → c ≤ x → f (pos x) ≡ false) → length (passing f c n) ≤ 0
unfolding passing
passing_none f c zero h = omega arith
passing_none f c (suc n) h = rw (h c (omega arith)) (passing_none f (suc c) n (λ x l. h x (omega arith)))

-- what passes one of two tests
passing_either : (f g : ℤ → Bool) (c n : ℕ) → length (passing (λ x. f x || g x) c n) ≤ length (passing f c n) + length (passing g c n)
unfolding passing
passing_either f g c zero = omega arith
passing_either f g c (suc n) =
    go (f (pos c)) (g (pos c)) (passing (λ x. f x || g x) (suc c) n) (passing f (suc c) n) (passing g (suc c) n)
    (passing_either f g (suc c) n)
  where
    go : (x y : Bool) (p q r : List ℤ) → length p ≤ length q + length r
        → length (cond (x || y) (pos c ∷ p) p) ≤ length (cond x (pos c ∷ q) q) + length (cond y (pos c ∷ r) r)
    go true true p q r h = omega arith
    go true false p q r h = omega arith
    go false true p q r h = omega arith
    go false false p q r h = omega arith

-- a number equals one number at most
passing_same : (m c n : ℕ) → length (passing (λ x. eq_z (pos m) x) c n) ≤ 1
unfolding passing eq_z
passing_same m c zero = omega arith
passing_same m c (suc n) = go (eqb m c) refl (passing_same m (suc c) n)
  where
    go : (x : Bool) → eqb m c ≡ x → length (passing (λ x. eq_z (pos m) x) (suc c) n) ≤ 1
        → length (cond x (pos c ∷ passing (λ x. eq_z (pos m) x) (suc c) n) (passing (λ x. eq_z (pos m) x) (suc c) n)) ≤ 1
    go true e h =
        let same = eqb-true m c e in
        let none = passing_none (λ x. eq_z (pos m) x) (suc c) n (λ x l. ne_eqb m x (λ q. omega arith)) in
        omega arith
    go false e h = h

passing_one : (z : ℤ) (c n : ℕ) → length (passing (λ x. eq_z z x) c n) ≤ 1
unfolding eq_z
passing_one (pos m) c n = passing_same m c n
passing_one (negsuc m) c n = let none = passing_none (λ x. eq_z (negsuc m) x) c n (λ x l. refl) in omega arith

entry_one : (e : Said) (c n : ℕ) → length (passing (λ x. entry_is x e) c n) ≤ 1
unfolding entry_is
entry_one blank c n = let none = passing_none (λ x. entry_is x blank) c n (λ x l. refl) in omega arith
entry_one (says z) c n = passing_one z c n
entry_one wrong c n = let none = passing_none (λ x. entry_is x wrong) c n (λ x l. refl) in omega arith

spread_few : (w n c k : ℕ) (s : List ℕ) → length (passing (λ x. some_entry x w n s) c k) ≤ n
unfolding some_entry
spread_few w zero c k s = passing_none (λ x. some_entry x w zero s) c k (λ x l. refl)
spread_few w (suc n) c k s =
    let a = passing_either (λ x. entry_is x (code_of (take w s))) (λ x. some_entry x w n (drop w s)) c k in
    let b = entry_one (code_of (take w s)) c k in
    let d = spread_few w n c k (drop w s) in
    omega arith

digits_few : (w : ℕ) → w ≤ 4 → 10 ^ w - 1 ≤ 9999
digits_few zero h = omega arith
digits_few (suc zero) h = omega arith
digits_few (suc (suc zero)) h = omega arith
digits_few (suc (suc (suc zero))) h = omega arith
digits_few (suc (suc (suc (suc zero)))) h = omega arith
digits_few (suc (suc (suc (suc (suc w))))) h = absurd (omega arith)

-- ---- fields
set_few : (c d : Bool) (ms : List ℤ) → length (members_of (cond c (holds missing) (cond d (holds (members ms)) illegal))) ≤ length ms
unfolding members_of
set_few true d ms = omega arith
set_few false true ms = omega arith
set_few false false ms = omega arith

bits_most : (ok : ℤ → Bool) (w : ℕ) (s : List ℕ) → length (members_of (bits_field (defined ok 1 w) s)) ≤ w
unfolding bits_field
bits_most ok w s =
    let a = set_few (all_spaces s) (all_bits s) (set_bits (defined ok 1 w) s) in
    let b = bits_few (defined ok 1 w) s in
    let d = defined_few ok 1 w in
    omega arith

spread_most : (ok : ℤ → Bool) (w n : ℕ) (s : List ℕ) → length (members_of (spread_field ok w n s)) ≤ n
unfolding spread_field
spread_most ok w n s =
    let a = set_few (all_spaces s) (all_entries ok w n s) (spread_set w n s) in
    let b = spread_few w n 1 (10 ^ w - 1) s in
    omega arith

spread_many : (ok : ℤ → Bool) (w n : ℕ) (s : List ℕ) → w ≤ 4 → length (members_of (spread_field ok w n s)) ≤ 9999
unfolding spread_field
spread_many ok w n s h =
    let a = set_few (all_spaces s) (all_entries ok w n s) (spread_set w n s) in
    let b = passing_few (λ c. some_entry c w n s) 1 (10 ^ w - 1) in
    let d = digits_few w h in
    omega arith

number_none : (ok : ℤ → Bool) (z : ℤ) → length (members_of (number_field ok z)) ≤ 0
unfolding number_field members_of
number_none ok z = go (ok z)
  where
    go : (c : Bool) → length (members_of (cond c (holds (number z)) illegal)) ≤ 0
    go true = omega arith
    go false = omega arith

single_none : (ok : ℤ → Bool) (s : Said) → length (members_of (single_says ok s)) ≤ 0
unfolding single_says members_of
single_none ok blank = omega arith
single_none ok (says z) = go (eq_z z (pos 0)) (number_none ok z)
  where
    go : (c : Bool) → length (members_of (number_field ok z)) ≤ 0 → length (members_of (cond c (holds missing) (number_field ok z))) ≤ 0
    go true h = omega arith
    go false h = h
single_none ok wrong = omega arith

quantity_none : (ok : ℤ → Bool) (s : Said) → length (members_of (quantity_says ok s)) ≤ 0
unfolding quantity_says members_of
quantity_none ok blank = omega arith
quantity_none ok (says z) = number_none ok z
quantity_none ok wrong = omega arith

text_none : (s : List ℕ) → length (members_of (text_field s)) ≤ 0
unfolding text_field members_of
text_none s = go (all_spaces s) (all_plain s)
  where
    go : (c d : Bool) → length (members_of (cond c (holds missing) (cond d (holds (text (unended s))) illegal))) ≤ 0
    go true d = omega arith
    go false true = omega arith
    go false false = omega arith

truth_none : (s : List ℕ) → length (members_of (truth_field s)) ≤ 0
unfolding truth_field members_of
truth_none s = go (all_spaces s) (eqb (get_or s 0 0) 49) (eqb (get_or s 0 0) 48)
  where
    go : (c d e : Bool)
        → length (members_of (cond c (holds missing) (cond d (holds (truth true)) (cond e (holds (truth false)) illegal)))) ≤ 0
    go true d e = omega arith
    go false true e = omega arith
    go false false true = omega arith
    go false false false = omega arith

field_most_lem : (k : Kind) (t : List ℤ) (v : ℕ) (r : Row) (s : List ℕ) → length (members_of (field_by k t v r s)) ≤ most_by k r.width
unfolding field_by most_by
field_most_lem Single t v r s = single_none (legal t v r) (code_of s)
field_most_lem (Multiple Bits) t v r s = bits_most (legal t v r) r.width s
field_most_lem (Multiple (Fields n b)) t v r s = spread_most (legal t v r) r.width n s
field_most_lem (Quantity f) t v r s = quantity_none (legal t v r) (quantity_of f s)
field_most_lem Character t v r s = text_none s
field_most_lem Logical t v r s = truth_none s

field_many : (k : Kind) (t : List ℤ) (v : ℕ) (r : Row) (s : List ℕ) → KindFacts k r → length (members_of (field_by k t v r s)) ≤ 9999
unfolding field_by
field_many Single t v r s f = let a = single_none (legal t v r) (code_of s) in omega arith
field_many (Multiple Bits) t v r s f = let a = bits_most (legal t v r) r.width s in let b = f.few in omega arith
field_many (Multiple (Fields n b)) t v r s f = spread_many (legal t v r) r.width n s f.few
field_many (Quantity q) t v r s f = let a = quantity_none (legal t v r) (quantity_of q s) in omega arith
field_many Character t v r s f = let a = text_none s in omega arith
field_many Logical t v r s f = let a = truth_none s in omega arith

-- ---- a row of a table
module _ (t : List ℤ) (v : ℕ) (r : Row) (bytes : List ℕ) where
  pub row_most : length (members_of (reading_of t v r bytes)) ≤ most_of r
  unfolding reading_of
  row_most = field_most_lem r.kind t v r (pick bytes (places_of t v r))

  pub row_many : {size : ℕ} → RowReady t v r size → length (members_of (reading_of t v r bytes)) ≤ 9999
  unfolding reading_of
  row_many q = field_many r.kind t v r (pick bytes (places_of t v r)) q.kind
