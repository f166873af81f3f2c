-- Tokens: the code's books pass a refusal on from token to token, and so does `bind`.
use Rattle.std.specs.Prelude.{◌≡◌, Bool, ℕ, ◌+◌, eqb, Ok, Err}
use Rattle.std.proofs.Math.Path.{refl}
use Rattle.std.proofs.Math.Bool.{true, false, cond}
use mathlib.Core.List.{List}
use Rattle.std.proofs.Common.{zero-add}
use Rattle.std.proofs.Math.ListN.{length}
use Rattle.ascii.specs.rule.Class.{class_of}
use Rattle.scan.specs.rule.Text.{text, stop, sign}
use Rattle.scan.specs.rule.Text as scan
use Rattle.scan.specs.rule.Number.{is_digit, run_of, run_bytes, decimal_of}
use Rattle.scan.specs.Number.{capped, digits_from}
use Rattle.scan.specs.rule.Word.{word_at}
use Rattle.scan.specs.declared.Word.{Word}
use Rattle.scan.specs.declared.Word.TheVariants as spelled
use Rattle.marks.specs.declared.Inside.TheVariants.{Plain}
use Rattle.marks.specs.declared.Skip.{Skip}
use Rattle.marks.specs.declared.Skip.TheVariants.{Past, Unclosed, Bad}
use Rattle.marks.specs.rule.Marks.{string_of}
use Rattle.tokens.specs.rule.Gap.{fault, gap_at, OrFault}
use Rattle.tokens.specs.Gap.{then, gap_on, spaces_on}
use Rattle.tokens.specs.Token.{of_word, word_here, word_on, of_digits, number_here, number_on, past_number, of_skip, string_in, phrase_on}
use Rattle.tokens.specs.Token.{string_on}
use Rattle.tokens.specs.Token.{past_string, letter_in, letter_on}
use Rattle.survey.specs.rule.Survey.{Figure, KeptText}
use Rattle.reading.specs.rule.Result.{Result, Is, Not, bind}
use Rattle.reading.specs.rule.Token.{closed, quoted, passed, on_word, gap, here, word, figure, number, string, letter}
use Rattle.reading.specs.rule.Token as reading
use Rattle.reading.specs.rule.Opening.{spaces_skipped}
use Rattle.tokens.specs.declared.Figures.{Figures}
use Rattle.tokens.specs.declared.Quoted.{Quoted}

-- ---- an answer as the code's books have it
abbrev pub to_reading : {A : Type 0} → Result A → OrFault ℕ
to_reading (Is a n) = Ok n
to_reading (Not f) = Err f

abbrev pub to_number : Result Figure → OrFault Figures
to_number (Is x n) = Ok (record { size = capped x.value; count = x.digits; place = x.place; next = n })
to_number (Not f) = Err f

abbrev pub to_phrase : Result KeptText → OrFault Quoted
to_phrase (Is t n) = Ok (record { place = t.place; length = t.length; next = n })
to_phrase (Not f) = Err f

pub past_number_lem : (r : Result Figure) → past_number (to_number r) ≡ to_reading r
unfolding past_number
past_number_lem (Is x n) = refl
past_number_lem (Not f) = refl

pub past_string_lem : (r : Result KeptText) → past_string (to_phrase r) ≡ to_reading r
unfolding past_string
past_string_lem (Is t n) = refl
past_string_lem (Not f) = refl

pub passed_on : (t : OrFault ℕ) → t ≡ to_reading (passed t)
passed_on (Ok n) = refl
passed_on (Err f) = refl

module _ (d : List ℕ) where
  -- ---- gaps and words
  pub gap_on_lem : {A : Type 0} (r : Result A) → gap_on d (to_reading r) ≡ to_reading (bind r λ a. gap d)
  unfolding gap_on
  gap_on_lem (Is a n) = passed_on (gap_at d n)
  gap_on_lem (Not f) = refl

  pub spaces_on_lem : {A : Type 0} (r : Result A) → spaces_on d (to_reading r) ≡ to_reading (bind r λ a. spaces_skipped d)
  unfolding spaces_on
  spaces_on_lem (Is a n) = refl
  spaces_on_lem (Not f) = refl

  pub here_on : {A : Type 0} (r : Result A) (w : List ℕ) → word_here d (to_reading r) w ≡ to_reading (bind r λ a. here d w)
  unfolding word_here
  here_on (Is a n) w = by (word_at d n w) where
    by : (x : Word) → of_word n x ≡ to_reading {A = Unit {0}} (on_word (λ m. Is tt m) (λ m. Not (fault 2 m)) n x)
    by (spelled.Matched m) = refl
    by spelled.Not = refl
  here_on (Not f) w = refl

  pub word_on_lem : {A : Type 0} (r : Result A) (w : List ℕ) → word_on d (to_reading r) w ≡ to_reading (bind r λ a. word d w)
  unfolding word_on word_here gap_on
  word_on_lem (Is a n) w = by (gap_at d n) where
    by : (t : OrFault ℕ) → word_here d t w ≡ to_reading (bind (passed t) λ a. here d w)
    by (Ok m) = here_on (Is a m) w
    by (Err f) = refl
  word_on_lem (Not f) w = refl

  -- ---- numbers
  number_here_lem : (n : ℕ) → number_here d (Ok n) ≡ to_number (figure d n)
  unfolding number_here of_digits digits_from figure
  number_here_lem n =
      let s = run_bytes is_digit (text d n) in
      rw (zero-add (length s)) (by (eqb (length s) 0) s (run_of is_digit n (text d n)))
    where
      by : (q : Bool) (s : List ℕ) (end : ℕ)
          → cond q (Err (fault 2 n))
          (Ok (record { size = capped (decimal_of 0 s); count = length s; place = n; next = end }))
          ≡ to_number (cond q (Not (fault 2 n)) (Is (record { place = n; end = end; digits = length s; value = decimal_of 0 s }) end))
      by true s end = refl
      by false s end = refl

  pub number_on_lem : {A : Type 0} (r : Result A) → number_on d (to_reading r) ≡ to_number (bind r λ a. number d)
  unfolding number_on number_here gap_on
  number_on_lem (Is a n) = by (gap_at d n) where
    by : (t : OrFault ℕ) → number_here d t ≡ to_number (bind (passed t) λ a. figure d)
    by (Ok m) = number_here_lem m
    by (Err f) = refl
  number_on_lem (Not f) = refl

  -- ---- strings
  quoted_on : (t : scan.Text) → string_in t ≡ to_phrase (quoted t)
  unfolding string_in quoted
  quoted_on (stop p) = refl
  quoted_on (sign p b t) = by (eqb b 34) (string_of Plain t) where
    by : (q : Bool) (k : Skip) → cond q (of_skip p k) (Err (fault 2 p)) ≡ to_phrase (cond q (closed p k) (Not (fault 2 p)))
    by true (Past n) = refl
    by true Unclosed = refl
    by true (Bad o) = refl
    by false k = refl

  pub string_on_lem : {A : Type 0} (r : Result A) → string_on d (to_reading r) ≡ to_phrase (bind r λ a. string d)
  unfolding string_on gap_on
  string_on_lem (Is a n) = by (gap_at d n) where
    by : (t : OrFault ℕ) → phrase_on t (λ n. string_in (text d n)) ≡ to_phrase (bind (passed t) λ a n. quoted (text d n))
    by (Ok m) = quoted_on (text d m)
    by (Err f) = refl
  string_on_lem (Not f) = refl

  -- ---- a letter
  letter_in_lem : (t : scan.Text) → letter_in t ≡ to_reading (reading.letter_in t)
  unfolding letter_in reading.letter_in
  letter_in_lem (stop p) = refl
  letter_in_lem (sign p b t) = by (eqb (class_of b) 3) where
    by : (q : Bool) → cond q (Ok (p + 1)) (Err (fault 2 p)) ≡ to_reading (cond q (Is b (p + 1)) (Not (fault 2 p)))
    by true = refl
    by false = refl

  pub letter_on_lem : {A : Type 0} (r : Result A) → letter_on d (to_reading r) ≡ to_reading (bind r λ a. letter d)
  unfolding letter_on gap_on
  letter_on_lem (Is a n) = by (gap_at d n) where
    by : (t : OrFault ℕ) → then t (λ n. letter_in (text d n)) ≡ to_reading (bind (passed t) λ a n. reading.letter_in (text d n))
    by (Ok m) = letter_in_lem (text d m)
    by (Err f) = refl
  letter_on_lem (Not f) = refl
