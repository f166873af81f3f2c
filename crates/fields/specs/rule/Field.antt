-- What a field of each kind says, and how a value is written: document 01's table "Value places and readings", a line each. Here
-- `ok` is the test that a number is legal, and the bytes are those of the value places, in their order.
use Rattle.std.specs.Prelude.{Bool, true, false, cond, ◌&&◌, ◌||◌, List, [], ◌∷◌, ◌++◌, ℕ, zero, suc, ◌-◌, ◌^◌, eqb, leb, ltb, ℤ, pos}
use Rattle.std.specs.Prelude.{length, take, drop, get_or}
use Rattle.std.specs.Int.Signed.{lt_z}
use Rattle.cells.specs.rule.Cell.{eq_z}
use Rattle.layout.specs.declared.Format.{Format}
use Rattle.fields.specs.rule.Number.{Said, blank, says, wrong, all_spaces, code_of, quantity_of, code_bytes}

-- a row's value: a set in rising order, a text without the spaces at its end
pub data Value : Type 0 where
  missing : Value
  number : ℤ → Value
  members : List ℤ → Value
  text : List ℕ → Value
  truth : Bool → Value

pub data Field : Type 0 where
  holds : Value → Field
  illegal : Field

-- a number that is said must be legal
unfoldable pub number_field : (ℤ → Bool) → ℤ → Field
number_field ok z = cond (ok z) (holds (number z)) illegal

-- SINGLE: zero is missing
unfoldable pub single_says : (ℤ → Bool) → Said → Field
single_says ok blank = holds missing
single_says ok (says z) = cond (eq_z z (pos 0)) (holds missing) (number_field ok z)
single_says ok wrong = illegal

abbrev pub single_field : (ℤ → Bool) → List ℕ → Field
single_field ok s = single_says ok (code_of s)

-- QUANTITY: zero is not missing
unfoldable pub quantity_says : (ℤ → Bool) → Said → Field
quantity_says ok blank = holds missing
quantity_says ok (says z) = number_field ok z
quantity_says ok wrong = illegal

abbrev pub quantity_field : Format → (ℤ → Bool) → List ℕ → Field
quantity_field f ok s = quantity_says ok (quantity_of f s)

-- ---- a bitstring of the categories cs, a byte each
unfoldable pub all_bits : List ℕ → Bool
all_bits [] = true
all_bits (b ∷ s) = (eqb b 48 || eqb b 49) && all_bits s

-- the categories whose byte is `1`
unfoldable pub set_bits : List ℕ → List ℕ → List ℤ
set_bits [] s = []
set_bits (c ∷ cs) [] = []
set_bits (c ∷ cs) (b ∷ s) = cond (eqb b 49) (pos c ∷ set_bits cs s) (set_bits cs s)

unfoldable pub bits_field : List ℕ → List ℕ → Field
bits_field cs s = cond (all_spaces s) (holds missing) (cond (all_bits s) (holds (members (set_bits cs s))) illegal)

-- ---- a spread of n subfields, w bytes each
-- a subfield is unused, where it is spaces or zero, or holds a legal number
unfoldable pub entry_good : (ℤ → Bool) → Said → Bool
entry_good ok blank = true
entry_good ok (says z) = eq_z z (pos 0) || ok z
entry_good ok wrong = false

unfoldable pub entry_is : ℤ → Said → Bool
entry_is c blank = false
entry_is c (says z) = eq_z z c
entry_is c wrong = false

unfoldable pub all_entries : (ℤ → Bool) → ℕ → ℕ → List ℕ → Bool
all_entries ok w zero s = true
all_entries ok w (suc n) s = entry_good ok (code_of (take w s)) && all_entries ok w n (drop w s)

-- some subfield holds c
unfoldable pub some_entry : ℤ → ℕ → ℕ → List ℕ → Bool
some_entry c w zero s = false
some_entry c w (suc n) s = entry_is c (code_of (take w s)) || some_entry c w n (drop w s)

-- of the n numbers from c on, those that pass: rising, none twice
unfoldable pub passing : (ℤ → Bool) → ℕ → ℕ → List ℤ
passing f c zero = []
passing f c (suc n) = cond (f (pos c)) (pos c ∷ passing f (suc c) n) (passing f (suc c) n)

-- the numbers of w digits, from 1 on, that a subfield holds
abbrev pub spread_set : ℕ → ℕ → List ℕ → List ℤ
spread_set w n s = passing (λ c. some_entry c w n s) 1 (10 ^ w - 1)

unfoldable pub spread_field : (ℤ → Bool) → ℕ → ℕ → List ℕ → Field
spread_field ok w n s = cond (all_spaces s) (holds missing) (cond (all_entries ok w n s) (holds (members (spread_set w n s))) illegal)

-- ---- CHARACTER: bytes 32 to 255, trailing spaces cut
unfoldable pub all_plain : List ℕ → Bool
all_plain [] = true
all_plain (b ∷ s) = leb 32 b && all_plain s

-- a text without the spaces at its end
unfoldable pub unended : List ℕ → List ℕ
unended [] = []
unended (b ∷ s) = cond (all_spaces (b ∷ s)) [] (b ∷ unended s)

unfoldable pub text_field : List ℕ → Field
text_field s = cond (all_spaces s) (holds missing) (cond (all_plain s) (holds (text (unended s))) illegal)

-- ---- LOGICAL: one byte
unfoldable pub truth_field : List ℕ → Field
truth_field s =
    cond (all_spaces s) (holds missing)
    (cond (eqb (get_or s 0 0) 49) (holds (truth true)) (cond (eqb (get_or s 0 0) 48) (holds (truth false)) illegal))

-- ---- writing
-- missing "gives spaces"
unfoldable pub spaces : ℕ → List ℕ
spaces zero = []
spaces (suc n) = 32 ∷ spaces n

unfoldable pub is_member : List ℤ → ℤ → Bool
is_member [] c = false
is_member (m ∷ ms) c = eq_z m c || is_member ms c

-- a bitstring's bytes: `1` for a member
unfoldable pub bit_bytes : List ℤ → List ℕ → List ℕ
bit_bytes ms [] = []
bit_bytes ms (c ∷ cs) = cond (is_member ms (pos c)) 49 48 ∷ bit_bytes ms cs

-- "a set fills subfields in rising order, the rest zeros"
unfoldable pub spread_bytes : ℕ → ℕ → List ℤ → List ℕ
spread_bytes w zero ms = []
spread_bytes w (suc n) [] = code_bytes w (pos 0) ++ spread_bytes w n []
spread_bytes w (suc n) (m ∷ ms) = code_bytes w m ++ spread_bytes w n ms

-- "text is padded with spaces"
unfoldable pub text_bytes : ℕ → List ℕ → List ℕ
text_bytes w s = s ++ spaces (w - length s)

unfoldable pub truth_bytes : Bool → List ℕ
truth_bytes b = cond b 49 48 ∷ []

-- ---- which values may be written
-- "strictly rising with legal members"
unfoldable pub rising_from : ℤ → List ℤ → Bool
rising_from a [] = true
rising_from a (m ∷ ms) = lt_z a m && rising_from m ms

unfoldable pub all_legal : (ℤ → Bool) → List ℤ → Bool
all_legal ok [] = true
all_legal ok (m ∷ ms) = ok m && all_legal ok ms

unfoldable pub set_fits : (ℤ → Bool) → List ℤ → Bool
set_fits ok [] = true
set_fits ok (m ∷ ms) = rising_from m ms && all_legal ok (m ∷ ms)

-- "1 to w bytes of 32 to 255 with no space at its end"
unfoldable pub text_fits : ℕ → List ℕ → Bool
text_fits w s = ltb 0 (length s) && (leb (length s) w && (all_plain s && ltb 32 (get_or s (length s - 1) 0)))
