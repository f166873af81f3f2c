-- Of tokens: what they hand on stands, a place in the text or its length, and what they refuse is met, with a number and such a place.
use Rattle.std.specs.Prelude.{Bool, List, eqb, Ok, Err}
use Prim.Native.Nat.{ℕ, suc, ◌-◌, ◌≤◌, ◌<◌}
use native.Mathlib.Omega.{arith}
use Rattle.std.proofs.Math.ListN.{length}
use Rattle.ascii.specs.rule.Class.{class_of}
use Rattle.scan.specs.rule.Text.{Text, stop, sign, text}
use Rattle.scan.specs.rule.Number.{is_space, is_digit, is_value, run_of}
use Rattle.scan.specs.Number.{digits_from}
use Rattle.scan.specs.rule.Word.{word_at}
use Rattle.scan.specs.rule.Loop.{Next}
use Rattle.scan.specs.declared.Word.{Word}
use Rattle.scan.specs.declared.Word.TheVariants.{Matched, Not}
use Rattle.scan.specs.declared.Digits.{Digits}
use Rattle.marks.specs.declared.Inside.TheVariants.{Plain}
use Rattle.marks.specs.declared.Skip.{Skip}
use Rattle.marks.specs.declared.Skip.TheVariants.{Past, Unclosed, Bad}
use Rattle.marks.specs.rule.Marks.{string_of, comment_of}
use Rattle.tokens.specs.declared.Fault.{Fault}
use Rattle.tokens.specs.declared.Choice.{Choice}
use Rattle.tokens.specs.declared.Choice.TheVariants.{Taken, Left}
use Rattle.tokens.specs.declared.Mark.{Mark}
use Rattle.tokens.specs.declared.Value.{Value}
use Rattle.tokens.specs.rule.Gap.{gap_skip, gap_step, gap_at, OrFault}
use Rattle.tokens.specs.Gap.{then, gap_on, spaces_on}
use Rattle.tokens.specs.Token.{of_word, word_here, word_on, of_choice, choice_of, of_digits, number_here, number_on, past_number}
use Rattle.tokens.specs.Token.{mark_of, value_at, of_value, value_here, value_on, past_value}
use Rattle.tokens.specs.Token.{of_skip, string_in, phrase_on, string_on, past_string, letter_in, letter_on}
use Rattle.refusals.specs.Loops.{Onward, loop_keeps}
use Rattle.refusals.specs.Scanned.{either, Within, text_within, place_within, run_within, WordWithin, word_at_lem}
use Rattle.refusals.specs.Scanned.{SkipWithin, string_within, comment_within}
use Rattle.tokens.specs.declared.Figures.{Figures}
use Rattle.tokens.specs.declared.Quoted.{Quoted}

-- a refusal that is met in reading the text d: 2 to 8
pub record Met (d : List ℕ) (f : Fault) : Type 0 where
  pub from_two : 2 ≤ f.number
  pub to_eight : f.number ≤ 8
  pub inside : f.place ≤ length d

module _ (d : List ℕ) where
  abbrev pub Stands : OrFault ℕ → Type 0
  Stands (Ok n) = n ≤ length d
  Stands (Err f) = Met d f

  -- ---- gaps
  skip_on : (p : ℕ) (s : Skip) → p < length d → SkipWithin (length d) s → Onward (λ n. n ≤ length d) Stands (gap_skip p s)
  skip_on p (Past n) h k = k
  skip_on p Unclosed h k = omega arith
  skip_on p (Bad q) h k = omega arith

  gap_step_lem : (t : Text) → Within (length d) t → Onward (λ n. n ≤ length d) Stands (gap_step t)
  unfolding gap_step
  gap_step_lem (stop p) h = h
  gap_step_lem (sign p b t) h =
      let P : Next ℕ (OrFault ℕ) → Type 0 = Onward (λ n. n ≤ length d) Stands in
      either P (is_space b) (omega arith)
      (either P (eqb b 60) (skip_on p (comment_of 1 t) h.0 (comment_within (length d) 1 t h.1)) (omega arith))

  pub gap_on_lem : (t : OrFault ℕ) → Stands t → Stands (gap_on d t)
  unfolding gap_on gap_at
  gap_on_lem (Ok n) h =
      loop_keeps (λ f n. n ≤ length d) Stands (λ n. gap_step (text d n)) (Ok 0) (λ n p. omega arith)
      (λ f n p. gap_step_lem (text d n) (text_within d n p)) (suc (length d - n)) n h
  gap_on_lem (Err f) h = h

  pub run_on : (f : ℕ → Bool) (n : ℕ) → n ≤ length d → run_of f n (text d n) ≤ length d
  run_on f n h = run_within (length d) f n (text d n) h (text_within d n h)

  pub spaces_on_lem : (t : OrFault ℕ) → Stands t → Stands (spaces_on d t)
  unfolding spaces_on
  spaces_on_lem (Ok n) h =
      let m = run_of is_space n (text d n) in
      place_within (length d) (text d m) (text_within d m (run_on is_space n h))
  spaces_on_lem (Err f) h = h

  -- ---- words
  pub word_here_lem : (t : OrFault ℕ) (w : List ℕ) → Stands t → Stands (word_here d t w)
  unfolding word_here
  word_here_lem (Ok n) w h = by (word_at d n w) (word_at_lem d n w h) where
    by : (r : Word) → WordWithin (length d) r → Stands (of_word n r)
    by (Matched m) k = k
    by Not k = omega arith
  word_here_lem (Err f) w h = h

  pub word_on_lem : (t : OrFault ℕ) (w : List ℕ) → Stands t → Stands (word_on d t w)
  unfolding word_on
  word_on_lem t w h = word_here_lem (gap_on d t) w (gap_on_lem t h)

  abbrev pub ChoiceStands : Choice → Type 0
  ChoiceStands (Taken m) = m ≤ length d
  ChoiceStands Left = Unit

  pub choice_of_lem : (t : OrFault ℕ) (w : List ℕ) → Stands t → ChoiceStands (choice_of d t w)
  unfolding choice_of
  choice_of_lem (Ok n) w h = by (word_at d n w) (word_at_lem d n w h) where
    by : (r : Word) → WordWithin (length d) r → ChoiceStands (of_choice r)
    by (Matched m) k = k
    by Not k = tt
  choice_of_lem (Err f) w h = tt

  -- ---- numbers
  abbrev pub NumberStands : OrFault Figures → Type 0
  NumberStands (Ok x) = (x.place ≤ length d) × (x.next ≤ length d)
  NumberStands (Err f) = Met d f

  of_digits_lem : (n : ℕ) (r : Digits) → n ≤ length d → r.next ≤ length d → NumberStands (of_digits n r)
  unfolding of_digits
  of_digits_lem n r h k = either NumberStands (eqb r.count 0) (omega arith) (h, k)

  number_here_lem : (t : OrFault ℕ) → Stands t → NumberStands (number_here d t)
  unfolding number_here digits_from
  number_here_lem (Ok n) h = of_digits_lem n (digits_from 0 0 n (text d n)) h (run_on is_digit n h)
  number_here_lem (Err f) h = h

  pub number_on_lem : (t : OrFault ℕ) → Stands t → NumberStands (number_on d t)
  unfolding number_on
  number_on_lem t h = number_here_lem (gap_on d t) (gap_on_lem t h)

  pub past_number_lem : (a : OrFault Figures) → NumberStands a → Stands (past_number a)
  unfolding past_number
  past_number_lem (Ok x) h = h.1
  past_number_lem (Err f) h = h

  -- ---- values
  abbrev pub ValueStands : Value → Type 0
  ValueStands v = (v.place ≤ length d) × (v.next ≤ length d)

  abbrev pub AmountStands : OrFault Value → Type 0
  AmountStands (Ok v) = ValueStands v
  AmountStands (Err f) = Met d f

  mark_of_lem : (n b : ℕ) (t : Text) → n ≤ length d → Within (length d) t → (mark_of n b t).next ≤ length d
  unfolding mark_of
  mark_of_lem n b (stop p) h k = h
  mark_of_lem n b (sign p c t) h k = either (λ (m : Mark). m.next ≤ length d) (eqb c b) (omega arith) h

  value_at_lem : (n : ℕ) → n ≤ length d → ValueStands (value_at d n)
  unfolding value_at digits_from
  value_at_lem n h =
      let first = (mark_of n 45 (text d n)).next in
      let whole = run_of is_digit first (text d first) in
      let dot = (mark_of whole 46 (text d whole)).next in
      let a = mark_of_lem n 45 (text d n) h (text_within d n h) in
      let b = run_on is_digit first a in
      let c = mark_of_lem whole 46 (text d whole) b (text_within d whole b) in
      (h, run_on is_value (run_of is_digit dot (text d dot)) (run_on is_digit dot c))

  pub value_here_lem : (t : OrFault ℕ) → Stands t → AmountStands (value_here d t)
  unfolding value_here of_value
  value_here_lem (Ok n) h = either AmountStands (eqb (value_at d n).next n) (omega arith) (value_at_lem n h)
  value_here_lem (Err f) h = h

  pub value_on_lem : (t : OrFault ℕ) → Stands t → AmountStands (value_on d t)
  unfolding value_on
  value_on_lem t h = value_here_lem (gap_on d t) (gap_on_lem t h)

  pub past_value_lem : (a : OrFault Value) → AmountStands a → Stands (past_value a)
  unfolding past_value
  past_value_lem (Ok v) h = h.1
  past_value_lem (Err f) h = h

  -- ---- strings
  abbrev pub PhraseStands : OrFault Quoted → Type 0
  PhraseStands (Ok q) = (q.place ≤ length d) × (q.next ≤ length d)
  PhraseStands (Err f) = Met d f

  of_skip_lem : (p : ℕ) (s : Skip) → p < length d → SkipWithin (length d) s → PhraseStands (of_skip p s)
  of_skip_lem p (Past n) h k = (omega arith, k)
  of_skip_lem p Unclosed h k = omega arith
  of_skip_lem p (Bad q) h k = omega arith

  string_in_lem : (t : Text) → Within (length d) t → PhraseStands (string_in t)
  unfolding string_in
  string_in_lem (stop p) h = omega arith
  string_in_lem (sign p b t) h =
      either PhraseStands (eqb b 34) (of_skip_lem p (string_of Plain t) h.0 (string_within (length d) Plain t tt h.1)) (omega arith)

  pub string_on_lem : (t : OrFault ℕ) → Stands t → PhraseStands (string_on d t)
  unfolding string_on
  string_on_lem t h = by (gap_on d t) (gap_on_lem t h) where
    by : (g : OrFault ℕ) → Stands g → PhraseStands (phrase_on g λ n. string_in (text d n))
    by (Ok n) k = string_in_lem (text d n) (text_within d n k)
    by (Err f) k = k

  pub past_string_lem : (q : OrFault Quoted) → PhraseStands q → Stands (past_string q)
  unfolding past_string
  past_string_lem (Ok q) h = h.1
  past_string_lem (Err f) h = h

  -- ---- a letter
  letter_in_lem : (t : Text) → Within (length d) t → Stands (letter_in t)
  unfolding letter_in
  letter_in_lem (stop p) h = omega arith
  letter_in_lem (sign p b t) h = either Stands (eqb (class_of b) 3) (omega arith) (omega arith)

  pub letter_on_lem : (t : OrFault ℕ) → Stands t → Stands (letter_on d t)
  unfolding letter_on
  letter_on_lem t h = by (gap_on d t) (gap_on_lem t h) where
    by : (g : OrFault ℕ) → Stands g → Stands (then g λ n. letter_in (text d n))
    by (Ok n) k = letter_in_lem (text d n) (text_within d n k)
    by (Err f) k = k
