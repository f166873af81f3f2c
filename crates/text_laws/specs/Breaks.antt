-- A break stands in a decoded text exactly where {NL} stands in the string, and nowhere else.
use Rattle.std.specs.Prelude.{◌≡◌, refl, ◌↔◌, ◌⊎◌, Bool, true, false, List, [], ◌∷◌, ◌++◌, ℕ, zero, suc, ◌+◌, length}
use Rattle.std.proofs.Common.{◌∙◌, sym, inl, inr, ⊎_elim, arith, zero-add}
use Rattle.ascii.specs.rule.Class.{class_of, upper_of}
use Rattle.signs.specs.declared.Sign.{Sign}
use Rattle.signs.specs.declared.Sign.TheVariants.{Byte, Break}
use Rattle.signs.specs.rule.Sign.{sign_number}
use Rattle.scan.specs.rule.Text.{Text, sign, kept, text}
use Rattle.scan.specs.rule.Number.{is_digit}
use Rattle.marks.specs.declared.Inside.TheVariants.{Plain}
use Rattle.marks.specs.declared.Skip.TheVariants.{Past}
use Rattle.marks.specs.rule.Marks.{is_hex, inside_of, string_of}
use Rattle.marks.specs.rule.Spelling.{gives_of, decode_of}
use Rattle.marks.specs.Spelling.{Pairs, last, more, Piece, plain, quote, brace, line, bytes, Spelt, closed, piece}
use Rattle.marks.proofs.Complete.{skip_piece, string_decoded, string_complete}
use Rattle.marks.proofs.Spellings.{string_exactly}
use Rattle.texts.specs.rule.Decode.{cut_off, inside_text, signs_at, decoded_as, signs, refused, decode_fitting}
use Rattle.text_laws.specs.Cut.{none, inside_exactly}

-- ---- by computation, over bytes
-- `{NL}` is a break, `{0A}` is byte 10, `{0D0A}` bytes 13 and 10, and CR LF between them is nothing
new_line : signs_at (123 ∷ 78 ∷ 76 ∷ 125 ∷ []) 0 4 ≡ Break ∷ []
unfolding signs_at text kept decode_of gives_of inside_of is_hex is_digit class_of upper_of
new_line = refl

byte_ten : signs_at (123 ∷ 48 ∷ 65 ∷ 125 ∷ []) 0 4 ≡ Byte 10 ∷ []
unfolding signs_at text kept decode_of gives_of inside_of is_hex is_digit class_of upper_of
byte_ten = refl

two_bytes_lem : signs_at (123 ∷ 48 ∷ 68 ∷ 13 ∷ 10 ∷ 48 ∷ 97 ∷ 125 ∷ []) 0 8 ≡ Byte 13 ∷ Byte 10 ∷ []
unfolding signs_at text kept decode_of gives_of inside_of is_hex is_digit class_of upper_of
two_bytes_lem = refl

-- the two are told apart, and so are their numbers
pub told_apart : signs_at (123 ∷ 78 ∷ 76 ∷ 125 ∷ []) 0 4 ≡ signs_at (123 ∷ 48 ∷ 65 ∷ 125 ∷ []) 0 4 → ⊥
told_apart e = let f : Break ∷ [] ≡ Byte 10 ∷ [] = sym new_line ∙ e ∙ byte_ten in let z : ◌≡◌ {A = ℕ} 0 1 = cc in omega arith

numbers_apart : (sign_number Break ≡ 256) × (sign_number (Byte 10) ≡ 10)
unfolding sign_number
numbers_apart = (refl, refl)

-- the call on `a{NL}b` in a list with room for three, for two; on `{nl}`, on a quote, on an unfinished form, beyond the end
three_signs : decoded_as (97 ∷ 123 ∷ 78 ∷ 76 ∷ 125 ∷ 98 ∷ []) 0 6 3 ≡ signs 3
unfolding decoded_as inside_text decode_fitting string_of signs_at text kept decode_of gives_of inside_of is_hex is_digit class_of upper_of
three_signs = refl

no_room : decoded_as (97 ∷ 123 ∷ 78 ∷ 76 ∷ 125 ∷ 98 ∷ []) 0 6 2 ≡ refused 25
unfolding decoded_as inside_text decode_fitting string_of signs_at text kept decode_of gives_of inside_of is_hex is_digit class_of upper_of
no_room = refl

small_letters : decoded_as (123 ∷ 110 ∷ 108 ∷ 125 ∷ []) 0 4 9 ≡ refused 3
unfolding decoded_as inside_text decode_fitting string_of signs_at text kept decode_of gives_of inside_of is_hex is_digit class_of upper_of
small_letters = refl

bare_quote : decoded_as (97 ∷ 34 ∷ 98 ∷ []) 0 3 9 ≡ refused 3
unfolding decoded_as inside_text decode_fitting string_of signs_at text kept decode_of gives_of inside_of is_hex is_digit class_of upper_of
bare_quote = refl

cut_form : decoded_as (97 ∷ 123 ∷ 48 ∷ 65 ∷ 125 ∷ []) 0 4 9 ≡ refused 3
unfolding decoded_as inside_text decode_fitting string_of signs_at text kept decode_of gives_of inside_of is_hex is_digit class_of upper_of
cut_form = refl

past_the_end : decoded_as (97 ∷ []) 1 1 9 ≡ refused 3
unfolding decoded_as inside_text decode_fitting string_of signs_at text kept decode_of gives_of inside_of is_hex is_digit class_of upper_of
past_the_end = refl

nothing_at_the_end : decoded_as (97 ∷ []) 1 0 0 ≡ signs 0
unfolding decoded_as inside_text decode_fitting string_of signs_at text kept decode_of gives_of inside_of is_hex is_digit class_of upper_of
nothing_at_the_end = refl

-- ---- which sign is a break, and which piece is {NL}
abbrev pub is_break : Sign → Bool
is_break (Byte b) = false
is_break Break = true

unfoldable pub break_at : List Sign → ℕ → Bool
break_at [] k = false
break_at (x ∷ m) zero = is_break x
break_at (x ∷ m) (suc k) = break_at m k

-- behind pieces of a string that say k signs stands the piece {NL}
pub data LineAt : Text → ℕ → Type 0 where
  here : {p q r s : ℕ} {u : Text} → LineAt (sign p 123 (sign q 78 (sign r 76 (sign s 125 u)))) 0
  behind : {t u : Text} {m : List Sign} {k : ℕ} → Piece t m u → LineAt u k → LineAt t (length m + k)

-- hex pairs say bytes alone
pairs_bytes : {t u : Text} {m : List Sign} → Pairs t m u → (k : ℕ) → break_at m k ≡ true → ⊥
unfolding break_at
pairs_bytes (last f h) zero e = none cc
pairs_bytes (last f h) (suc k) e = none cc
pairs_bytes (more f h r) zero e = none cc
pairs_bytes (more f h r) (suc k) e = pairs_bytes r k e

-- a break is in what the first part says, or in what the second does
split : (m s : List Sign) (k : ℕ) → break_at (m ++ s) k ≡ true
    → (break_at m k ≡ true) ⊎ ((j : ℕ) × (k ≡ length m + j) × (break_at s j ≡ true))
unfolding break_at
split [] s k e = inr (k, omega arith, e)
split (x ∷ m) s zero e = inl e
split (x ∷ m) s (suc k) e = ⊎_elim (λ h. inl h) (λ h. inr (h.0, omega (arith, h.1), h.2)) (split m s k e)

joined : (m s : List Sign) (k : ℕ) → break_at s k ≡ true → break_at (m ++ s) (length m + k) ≡ true
unfolding break_at
joined [] s k e = rw (zero-add k) e
joined (x ∷ m) s k e = let n : suc (length m) + k ≡ suc (length m + k) = omega arith in rw n (joined m s k e)

first_piece : {t u : Text} {m : List Sign} {k : ℕ} → Piece t m u → break_at m k ≡ true → LineAt t k
unfolding break_at
first_piece {k = zero} (plain f h) e = none cc
first_piece {k = suc k} (plain f h) e = none cc
first_piece {k = zero} quote e = none cc
first_piece {k = suc k} quote e = none cc
first_piece {k = zero} brace e = none cc
first_piece {k = suc k} brace e = none cc
first_piece {k = zero} line e = here
first_piece {k = suc k} line e = none cc
first_piece {k = k} (bytes r) e = absurd (pairs_bytes r k e)

to_line : {t : Text} {m : List Sign} {n : ℕ} → Spelt t m n → (k : ℕ) → break_at m k ≡ true → LineAt t k
unfolding break_at
to_line closed k e = none cc
to_line (piece {m = m} {s = s} x r) k e = ⊎_elim (λ h. first_piece x h) (λ h. rw h.1 (behind x (to_line r h.0 h.2)))
    (split m s k e)

-- behind a piece a string goes on, and says what is left
on_piece : {t u : Text} {m : List Sign} (n : ℕ) → Piece t m u → string_of Plain t ≡ Past n
    → (string_of Plain u ≡ Past n) × (decode_of Plain 0 t ≡ m ++ decode_of Plain 0 u)
on_piece {u = u} n x e =
    let f = sym (skip_piece x) ∙ e in
    (f, string_decoded (piece x ((string_exactly u n).0 f)))

from_line : {t : Text} {k : ℕ} (n : ℕ) → LineAt t k → string_of Plain t ≡ Past n → break_at (decode_of Plain 0 t) k ≡ true
unfolding break_at decode_of gives_of inside_of is_hex is_digit class_of upper_of
from_line n here e = refl
from_line n (behind {u = u} {m = m} {k = k} x r) e =
    let h = on_piece n x e in
    rw h.1 (joined m (decode_of Plain 0 u) k (from_line n r h.0))

-- BREAK: sign k of what a string says is a break exactly when the piece that says it is {NL}
pub break_exactly : (t : Text) (n k : ℕ) → string_of Plain t ≡ Past n → (break_at (decode_of Plain 0 t) k ≡ true) ↔ LineAt t k
break_exactly t n k e = (to_line ((string_exactly t n).0 e) k, λ r. from_line n r e)

-- so of what the call decodes: its sign k is a break exactly when the piece of the text that says it is {NL}
pub text_break_exactly : (d : List ℕ) (place long k : ℕ) → inside_text d place long ≡ true
    → (break_at (signs_at d place long) k ≡ true) ↔ LineAt (text (cut_off d place long ++ 34 ∷ []) place) k
text_break_exactly d place long k e =
    let s = ((inside_exactly d place long).0 e).1 in
    (to_line s k, λ r. rw (← string_decoded s) (from_line (place + long + 1) r (string_complete s)))
