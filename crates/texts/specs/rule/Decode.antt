-- A text of a definition, decoded for a caller (document 02, C-17): 3 where the bytes from that place of that length are not the inside of
-- a text (they pass the definition's end, hold a quote outside a brace form, or a bad or unfinished form); 25 where the list is shorter
-- than the text; the list is then kept, and beyond the count always.
use Rattle.std.specs.Prelude.{◌≡◌, Bool, false, cond, ◌&&◌, List, [], ◌∷◌, ◌++◌, ℕ, ◌+◌, eqb, leb, ltb, ℤ, pos, length, take, drop}
use Rattle.signs.specs.declared.Sign.{Sign}
use Rattle.signs.specs.rule.Sign.{sign_number}
use Rattle.scan.specs.rule.Text.{text}
use Rattle.marks.specs.declared.Inside.TheVariants.{Plain}
use Rattle.marks.specs.declared.Skip.{Skip}
use Rattle.marks.specs.declared.Skip.TheVariants.{Past, Unclosed, Bad}
use Rattle.marks.specs.rule.Marks.{string_of}
use Rattle.marks.specs.rule.Spelling.{decode_of}
use Rattle.texts.specs.declared.Decoded.{Decoded}
use Rattle.texts.specs.declared.Decoded.TheVariants as decoded

-- a string that is over at the place n
abbrev pub closes_at : ℕ → Skip → Bool
closes_at n (Past m) = eqb m n
closes_at n Unclosed = false
closes_at n (Bad p) = false

-- the definition d, cut off where the stretch ends
abbrev pub cut_off : List ℕ → ℕ → ℕ → List ℕ
cut_off d place long = take (place + long) d

-- a stretch is the inside of a text: it lies in the definition, and a quote put behind it is the one that closes it
unfoldable pub inside_text : List ℕ → ℕ → ℕ → Bool
inside_text d place long =
    leb (place + long) (length d) && closes_at (place + long + 1) (string_of Plain (text (cut_off d place long ++ 34 ∷ []) place))

-- the signs that it says
unfoldable pub signs_at : List ℕ → ℕ → ℕ → List Sign
signs_at d place long = decode_of Plain 0 (text (cut_off d place long) place)

unfoldable pub numbers_of : List Sign → List ℤ
numbers_of [] = []
numbers_of (x ∷ s) = pos (sign_number x) ∷ numbers_of s

-- ---- the outcome for a list with room for n: 3 before 25
pub data DecodeOutcome : Type 0 where
  signs : ℕ → DecodeOutcome
  refused : ℕ → DecodeOutcome

unfoldable pub decode_said : Decoded → DecodeOutcome
decode_said (decoded.Signs n) = signs n
decode_said decoded.NotText = refused 3
decode_said decoded.ShortList = refused 25

unfoldable pub decode_fitting : ℕ → List Sign → DecodeOutcome
decode_fitting n s = cond (ltb n (length s)) (refused 25) (signs (length s))

unfoldable pub decoded_as : List ℕ → ℕ → ℕ → ℕ → DecodeOutcome
decoded_as d place long n = cond (inside_text d place long) (decode_fitting n (signs_at d place long)) (refused 3)

-- the list after it: the signs' numbers, and behind them what stood there
unfoldable pub signs_after : DecodeOutcome → List Sign → List ℤ → List ℤ
signs_after (signs n) s list = numbers_of s ++ drop n list
signs_after (refused k) s list = list

-- THE PROMISE of the call
pub record TextDecoded (d : List ℕ) (place long : ℕ) (list list' : List ℤ) (r : Decoded) : Type 0 where
  pub says : decode_said r ≡ decoded_as d place long (length list)
  pub leaves : list' ≡ signs_after (decoded_as d place long (length list)) (signs_at d place long) list
