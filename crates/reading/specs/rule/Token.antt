-- Tokens, each behind its spaces and comments: "Letter case of keywords and parameters is not significant. Tokens need no space between.
-- No space within a keyword or number." A token that is due and does not stand is 2 where another stands, or at the file's length.
use Rattle.std.specs.Prelude.{Bool, true, false, cond, ◌&&◌, List, [], ◌∷◌, ◌++◌, ℕ, ◌+◌, ◌-◌, eqb, ltb, length, Ok, Err}
use Rattle.std.proofs.Math.Option.{Option, none, some}
use Rattle.ascii.specs.rule.Class.{class_of}
use Rattle.scan.specs.rule.Text.{stop, sign, text}
use Rattle.scan.specs.rule.Text as scan
use Rattle.scan.specs.rule.Number.{is_digit, is_value, run_of, run_bytes, decimal_of}
use Rattle.scan.specs.rule.Word.{word_at}
use Rattle.scan.specs.declared.Word.{Word}
use Rattle.scan.specs.declared.Word.TheVariants as spelled
use Rattle.marks.specs.declared.Inside.TheVariants.{Plain}
use Rattle.marks.specs.declared.Skip.{Skip}
use Rattle.marks.specs.declared.Skip.TheVariants.{Past, Unclosed, Bad}
use Rattle.marks.specs.rule.Marks.{string_of}
use Rattle.tokens.specs.rule.Gap.{fault, gap_at, OrFault}
use Rattle.survey.specs.rule.Survey.{Figure, Amount, KeptText}
use Rattle.reading.specs.rule.Result.{Result, Is, Not, Reader, ◌>>=◌, ◌>>◌, give, due}

-- ---- "a value is the longest run of digits, points, `+` and `-`": of its bytes, a minus or none, digits, a point or none, digits
unfoldable pub leading : List ℕ → List ℕ
leading [] = []
leading (b ∷ s) = cond (is_digit b) (b ∷ leading s) []

unfoldable pub after_point : List ℕ → List ℕ
after_point [] = []
after_point (b ∷ s) = cond (is_digit b) (after_point s) (b ∷ s)

unfoldable pub begins : ℕ → List ℕ → Bool
begins c [] = false
begins c (b ∷ s) = eqb b c

unfoldable pub without : ℕ → List ℕ → List ℕ
without c [] = []
without c (b ∷ s) = cond (eqb b c) s (b ∷ s)

-- from its place to its end the bytes s; it is formed if nothing else stands there, and one digit at least
unfoldable pub amount_read : ℕ → ℕ → List ℕ → Amount
amount_read place end s =
    let unsigned = without 45 s in
    let fraction = after_point unsigned in
    let decimals = leading (without 46 fraction) in
    record {
      place = place;
      end = end;
      minus = begins 45 s;
      whole = length (leading unsigned);
      point = begins 46 fraction;
      decimals = length decimals;
      size = decimal_of 0 (leading unsigned ++ decimals);
      formed = eqb (length (after_point (without 46 fraction))) 0 && ltb 0 (length (leading unsigned ++ decimals));
    }

-- ---- "a text's place is the byte just after its opening quote; its length reaches to just before its closing quote"
-- a string that opened at p: 3 at its quote where it does not close, at its brace where a form is bad
abbrev pub closed : ℕ → Skip → Result KeptText
closed p (Past n) = Is (record { place = p + 1; length = n - (p + 1) - 1 }) n
closed p Unclosed = Not (fault 3 p)
closed p (Bad q) = Not (fault 3 q)

unfoldable pub quoted : scan.Text → Result KeptText
quoted (stop p) = due p
quoted (sign p b t) = let k = string_of Plain t in cond (eqb b 34) (closed p k) (due p)

unfoldable pub letter_in : scan.Text → Result ℕ
letter_in (stop p) = due p
letter_in (sign p b t) = cond (eqb (class_of b) 3) (Is b (p + 1)) (due p)

abbrev pub passed : OrFault ℕ → Result Unit
passed (Ok n) = Is tt n
passed (Err f) = Not f

abbrev pub on_word : {A : Type 0} → Reader A → Reader A → ℕ → Word → Result A
on_word p q n (spelled.Matched m) = p m
on_word p q n spelled.Not = q n

module _ (d : List ℕ) where
  -- spaces and comments
  abbrev pub gap : Reader Unit
  gap n = passed (gap_at d n)

  -- the word w, right here, and p behind it; or else q
  abbrev pub either : {A : Type 0} → List ℕ → Reader A → Reader A → Reader A
  either w p q n = on_word p q n (word_at d n w)

  abbrev pub here : List ℕ → Reader Unit
  here w = either w (give tt) due

  abbrev pub word : List ℕ → Reader Unit
  word w = gap >> here w

  -- "with comments before an optional word"
  abbrev pub optional : {A : Type 0} → List ℕ → Reader A → Reader (Option A)
  optional w p = gap >> either w (p >>= λ a. give (some a)) (give none)

  abbrev pub whether : List ℕ → Reader Bool
  whether w = gap >> either w (give true) (give false)

  -- "any other number the longest run of digits; none is 2"
  unfoldable pub figure : Reader Figure
  figure n =
      let s = run_bytes is_digit (text d n) in
      let end = run_of is_digit n (text d n) in
      cond (eqb (length s) 0) (due n) (Is (record { place = n; end = end; digits = length s; value = decimal_of 0 s }) end)

  abbrev pub number : Reader Figure
  number = gap >> figure

  -- a value, right here; none is 2
  unfoldable pub amount : Reader Amount
  amount n =
      let s = run_bytes is_value (text d n) in
      let end = run_of is_value n (text d n) in
      cond (eqb (length s) 0) (due n) (Is (amount_read n end s) end)

  abbrev pub value : Reader Amount
  value = gap >> amount

  abbrev pub string : Reader KeptText
  string = gap >> λ n. quoted (text d n)

  abbrev pub letter : Reader ℕ
  letter = gap >> λ n. letter_in (text d n)
