-- What follows from rule/Lines.antt, and what the code keeps.
use Rattle.std.specs.Prelude.{◌≡◌, Bool, false, cond, List, [], ◌∷◌, ◌++◌, ℕ, ◌+◌, ◌^◌, ◌≤◌, ◌<◌, ℤ, pos, length, take, drop}
use Rattle.std.proofs.Common.{ap, add-one, arith, length-take, drop_of_length-le, drop-cons, get_or-take, length-take-le}
use Rattle.cells.specs.rule.Cell.{cell, signed_of}
use Rattle.fields.specs.rule.Field.{Value, missing, number, members, text, truth}
use Rattle.lines.specs.rule.Text.{number_text, codes_after, codes, value_text}
use Rattle.lines.specs.rule.Appended.{Appended}
use Rattle.lines.specs.Appended.{Left, less_left, left_as, as_text, code_few}
use Rattle.readings.specs.declared.Answer.{Answer}
use Rattle.readings.specs.declared.Answer.TheVariants.{Missing, Number, Set, Text, Truth, BadTable, NoRow, ShortRecord, Illegal}
use Rattle.readings.specs.declared.Answer.TheVariants.{ShortList}

-- the room that a set may take, the least of which is enough: 9,999 members of four digits with their commas; a value with its letter and
-- spaces; a line with its two numbers
abbrev pub others_room : ℕ
others_room = 50008

abbrev pub set_room : ℕ
set_room = 50016

abbrev pub value_room : ℕ
value_room = 50020

-- the first n numbers of a list are codes: at most four digits, no minus
pub record Codes (list : List ℤ) (n : ℕ) : Type 0 where
  pub many : n ≤ length list
  pub limit : n ≤ 9999
  pub few : (j : ℕ) → j < n → (signed_of (cell list j)).size < 10 ^ 4
  pub plain : (j : ℕ) → j < n → (signed_of (cell list j)).minus ≡ false

-- an answer that has a value, which lies within the room of a line
unfoldable pub Listable : Answer → List ℤ → List ℕ → Type 0
Listable Missing list bytes = Unit
Listable (Number z) list bytes = (signed_of z).size < 10 ^ 16
Listable (Set n) list bytes = Codes list n
Listable (Text p n) list bytes = (n ≤ 4096) × (p + n ≤ length bytes)
Listable (Truth b) list bytes = Unit
Listable BadTable list bytes = ⊥
Listable NoRow list bytes = ⊥
Listable ShortRecord list bytes = ⊥
Listable Illegal list bytes = ⊥
Listable ShortList list bytes = ⊥

-- the value that an answer says: a set stands at the start of the list, a text in the record
unfoldable pub value_of : Answer → List ℤ → List ℕ → Value
value_of Missing list bytes = missing
value_of (Number z) list bytes = number z
value_of (Set n) list bytes = members (take n list)
value_of (Text p n) list bytes = text (take n (drop p bytes))
value_of (Truth b) list bytes = truth b
value_of BadTable list bytes = missing
value_of NoRow list bytes = missing
value_of ShortRecord list bytes = missing
value_of Illegal list bytes = missing
value_of ShortList list bytes = missing

-- ---- laws: the codes of a list one by one
module _ (list : List ℤ) (n j : ℕ) (h : j < n) (l : n ≤ length list) where
  next_code : drop j (take n list) ≡ cell list j ∷ drop (j + 1) (take n list)
  next_code =
      let k : j < length (take n list) = rw (length-take-le n list l) h in
      rw (drop-cons (take n list) j (pos 0) k, get_or-take n list j (pos 0) h, add-one j)

  pub codes_next : codes_after (drop j (take n list)) ≡ (44 ∷ []) ++ (number_text (cell list j) ++ codes_after (drop (j + 1) (take n list)))
  unfolding codes_after
  codes_next = rw next_code

pub codes_first : (list : List ℤ) (n : ℕ) → 0 < n → n ≤ length list
    → codes (take n list) ≡ number_text (cell list 0) ++ codes_after (drop 1 (take n list))
unfolding codes
codes_first list n h l = ap codes (next_code list n 0 h l)

pub codes_over : (list : List ℤ) (n j : ℕ) → n ≤ j → codes_after (drop j (take n list)) ≡ []
unfolding codes_after
codes_over list n j h =
    let k : length (take n list) ≤ j = omega (arith, length-take n list) in
    rw (drop_of_length-le (take n list) k)

pub codes_none : (list : List ℤ) (n : ℕ) → n ≡ 0 → 45 ∷ [] ≡ codes (take n list)
unfolding codes
codes_none list n e = rw e

pub code_length : {list : List ℤ} {n : ℕ} → Codes list n → (j : ℕ) → j < n → length (number_text (cell list j)) ≤ 4
code_length {list} c j h = code_few (cell list j) (c.plain j h) (c.few j h)

-- a comma and the next code
module _ {list : List ℤ} {n j : ℕ} (c : Codes list n) (h : j < n) {z : ℤ} (e : z ≡ cell list j) where
  pub code_ends : {out out' : List ℕ} {at at' : ℕ} → Appended out at (number_text z) out' at' → at' ≤ at + 4
  code_ends b = let f = code_length c j h in let g = b.ends in let q = ap (λ (x : ℤ). length (number_text x)) e in omega arith

  pub code_step : {out out₀ whole out' out'' : List ℕ} {at at₀ at' at'' : ℕ}
      → Left out at (codes_after (drop j (take n list))) out₀ at₀ whole
      → Appended out at (44 ∷ []) out' at' → Appended out' at' (number_text z) out'' at''
      → Left out'' at'' (codes_after (drop (j + 1) (take n list))) out₀ at₀ whole
  code_step l a b = less_left (less_left (left_as (codes_next list n j h c.many) l) a) (as_text b (ap number_text e))

-- ---- laws: an answer by its case
module _ {a : Answer} (list : List ℤ) (bytes : List ℕ) where
  pub number_listed : {z : ℤ} → Listable a list bytes → a ≡ Number z → (signed_of z).size < 10 ^ 16
  unfolding Listable
  number_listed l e = rw e at l

  pub set_listed : {n : ℕ} → Listable a list bytes → a ≡ Set n → Codes list n
  unfolding Listable
  set_listed l e = rw e at l

  pub text_listed : {p n : ℕ} → Listable a list bytes → a ≡ Text p n → (n ≤ 4096) × (p + n ≤ length bytes)
  unfolding Listable
  text_listed l e = rw e at l

module _ (a : Answer) (list : List ℤ) (bytes : List ℕ) where
  pub missing_text : a ≡ Missing → 32 ∷ 77 ∷ [] ≡ value_text (value_of a list bytes)
  unfolding value_text value_of
  missing_text e = rw e

  pub number_text_lem : {z : ℤ} → a ≡ Number z → (32 ∷ 78 ∷ 32 ∷ []) ++ number_text z ≡ value_text (value_of a list bytes)
  unfolding value_text value_of
  number_text_lem e = rw e

  pub set_text : {n : ℕ} → a ≡ Set n → (32 ∷ 83 ∷ 32 ∷ []) ++ codes (take n list) ≡ value_text (value_of a list bytes)
  unfolding value_text value_of
  set_text e = rw e

  pub text_text : {p n : ℕ} → a ≡ Text p n → (32 ∷ 84 ∷ 32 ∷ []) ++ take n (drop p bytes) ≡ value_text (value_of a list bytes)
  unfolding value_text value_of
  text_text e = rw e

  pub truth_text : {b : Bool} → a ≡ Truth b → (32 ∷ 76 ∷ 32 ∷ []) ++ (cond b 49 48 ∷ []) ≡ value_text (value_of a list bytes)
  unfolding value_text value_of
  truth_text e = rw e
