-- EVERY LINE OF A CLEAN TEXT holds no byte below 32: its words, the kept bytes of d, counts in digits, and the record's letter.
use Rattle.std.specs.Prelude.{◌≡◌, Bool, cond, ℕ, ◌+◌, ◌/◌, eqb, leb, drop}
use Rattle.std.proofs.Math.Path.{refl}
use Rattle.std.proofs.Math.Bool.{true, false}
use mathlib.Core.List.{List, [], ◌∷◌, ◌++◌, map}
use Rattle.std.proofs.Math.Option.{Option, none, some, get_or}
use Rattle.std.proofs.Common.{arith, eqb-true}
use Rattle.ascii.specs.rule.Class.{class_of}
use Rattle.ascii.specs.rule.Tens.{digits_of}
use Rattle.scan.specs.rule.Text.{sign, kept, text}
use Rattle.scan.specs.rule.Number.{is_digit}
use Rattle.statements.specs.rule.Words.{DATE, TIME, ORIGIN, USER, TITLE}
use Rattle.statements.specs.rule.Words.{WITH, SPECIAL}
use Rattle.fields.specs.rule.Number.{padded}
use Rattle.fieldlaws.specs.NumberLaws.{padded_digits}
use Rattle.survey.specs.rule.Survey.{Figure, Amount, KeptText, Range, Line, Block}
use Rattle.survey.specs.rule.Survey.{Spread, Content, single, multiple, quantity, character, logical}
use Rattle.survey.specs.rule.Survey.{Variable, Heading, Survey}
use Rattle.clean_text.specs.rule.Span.{up_to, span_of}
use Rattle.clean_text.specs.rule.Clean.{Token, figure_token, amount_token, quoted_token, perhaps}
use Rattle.clean_text.specs.rule.Clean.{marked, value_line, some_line, range_line, values_lines, plain_digits}
use Rattle.clean_text.specs.rule.Clean.{spread_width, spread_line, type_word, content_lines}
use Rattle.clean_text.specs.rule.Clean.{variable_lines, each_variable, standard_line, head_lines}
use Rattle.clean_text.specs.rule.Clean.{clean_lines}
use Rattle.printed.specs.Left.{each, each_cons, each_append, each_as, plain, plain_byte}
use Rattle.printed.specs.Lines.{All, nil, more, all_append, Clear}
use Rattle.clean_laws.specs.Statements.{digits_each}

-- ---- tokens
span_kept : (e m : ℕ) (s : List ℕ) → each plain (up_to e (kept m s)) ≡ true
unfolding kept up_to each plain
span_kept e m [] = refl
span_kept e m (b ∷ s) = by (eqb (class_of b) 0) (leb e m) refl (span_kept e (m + 1) s) where
  by : (q r : Bool) → eqb (class_of b) 0 ≡ q → each plain (up_to e (kept (m + 1) s)) ≡ true
      → each plain (up_to e (cond q (kept (m + 1) s) (sign m b (kept (m + 1) s)))) ≡ true
  by true r f h = h
  by false r f h = on (leb e m) where
    on : (x : Bool) → each plain (cond x [] (b ∷ up_to e (kept (m + 1) s))) ≡ true
    on true = refl
    on false = rw f h

pub span_clear : (d : List ℕ) (a e : ℕ) → Clear (span_of d a e)
unfolding span_of text
span_clear d a e = span_kept e a (drop a d)

digit_plain : (b : ℕ) → is_digit b ≡ true → plain b ≡ true
unfolding is_digit
digit_plain b h = let e = eqb-true (class_of b) 2 h in plain_byte b (λ f. omega arith)

digits_clear : (n : ℕ) → Clear (plain_digits n)
unfolding plain_digits
digits_clear n = each_as is_digit plain digit_plain (padded (digits_of n) n) (digits_each _ (padded_digits (digits_of n) n))

-- a line of such tokens, one byte at least
pub data ClearLine : List Token → Type 0 where
  word : {b : ℕ} {w : Token} → Clear (b ∷ w) → ClearLine ((b ∷ w) ∷ [])
  words : {w v : Token} {ws : List Token} → Clear w → All Clear (v ∷ ws) → ClearLine (w ∷ v ∷ ws)

abbrev Lines : List (List Token) → Type 0
Lines = All ClearLine

tokens_clear : {l : List Token} → ClearLine l → All Clear l
tokens_clear (word h) = more h nil
tokens_clear (words h r) = more h r

pub lines_tokens : {l : List (List Token)} → Lines l → All (All Clear) l
lines_tokens nil = nil
lines_tokens (more h r) = more (tokens_clear h) (lines_tokens r)

module _ (d : List ℕ) where
  quoted_clear : (t : KeptText) → Clear (quoted_token d t)
  unfolding each plain class_of
  quoted_clear t =
      let k = span_of d t.place (t.place + t.length) in
      each_cons plain 34 (k ++ 34 ∷ []) refl (each_append plain k (34 ∷ []) (span_clear d t.place (t.place + t.length)) refl)

  figure_clear : (x : Figure) → Clear (figure_token d x)
  figure_clear x = span_clear d x.place x.end

  amount_clear : (a : Amount) → Clear (amount_token d a)
  amount_clear a = span_clear d a.place a.end

  perhaps_clear : (w : Token) (o : Option KeptText) → Clear w → Lines (perhaps d w o)
  perhaps_clear w none h = nil
  perhaps_clear w (some t) h = more (words h (more (quoted_clear t) nil)) nil

  -- ---- VALUES
  marked_clear : (q : Bool) (w : Token) → Clear w → All Clear (marked d q w)
  marked_clear true w h = more h nil
  marked_clear false w h = nil

  lines_clear : (ls : List Line) → Lines (map (value_line d) ls)
  unfolding each plain class_of
  lines_clear [] = nil
  lines_clear (l ∷ ls) =
      more (words (amount_clear l.value) (more (quoted_clear l.text) (marked_clear l.special SPECIAL refl))) (lines_clear ls)

  range_clear : (r : Option Range) (ls : List Line) → Lines (range_line d r ls)
  unfolding each plain class_of
  range_clear none ls = nil
  range_clear (some r) ls =
      more (words (amount_clear r.from) (more refl (more (amount_clear r.to) (marked_clear (some_line d ls) WITH refl)))) nil

  values_clear : (b : Block) → Lines (values_lines d b)
  unfolding values_lines each plain class_of
  values_clear b =
      all_append (more (word refl) (all_append (range_clear b.range b.lines) (lines_clear b.lines)))
      (more (words refl (more refl nil)) nil)

  -- ---- a variable
  width_clear : (n : ℕ) (o : Option Figure) → Clear (spread_width d n o)
  width_clear n none = digits_clear n
  width_clear n (some w) = figure_clear w

  spread_clear : (n : ℕ) (o : Option Spread) → Lines (spread_line d n o)
  unfolding each plain class_of
  spread_clear n none = nil
  spread_clear n (some s) =
      more (words refl (more (figure_clear s.count) (more refl (more (width_clear (n / s.count.value) s.width) nil)))) nil

  type_clear : (c : Content) → Clear (type_word d c)
  unfolding each plain class_of
  type_clear (single b) = refl
  type_clear (multiple s b) = refl
  type_clear (quantity b) = refl
  type_clear (character x) = refl
  type_clear logical = refl

  content_clear : (n : ℕ) (c : Content) → Lines (content_lines d n c)
  unfolding each plain class_of
  content_clear n (single b) = values_clear b
  content_clear n (multiple s b) = all_append (spread_clear n s) (values_clear b)
  content_clear n (quantity b) = values_clear b
  content_clear n (character x) = more (words refl (more (figure_clear x) nil)) nil
  content_clear n logical = nil

  variable_clear : (v : Variable) → Lines (variable_lines d v)
  unfolding variable_lines each plain class_of
  variable_clear v =
      more (words refl (more (figure_clear v.ident) nil))
      (more (words refl (more (quoted_clear v.name) nil))
      (more (words refl (more (quoted_clear v.label) nil))
      (more (words refl (more (type_clear v.content) nil))
      (more (words refl (more (figure_clear v.start) (more refl (more (figure_clear (get_or v.finish v.start)) nil))))
      (all_append (content_clear _ v.content) (more (words refl (more refl nil)) nil))))))

  variables_clear : (l : List Variable) → Lines (each_variable d l)
  unfolding each_variable
  variables_clear [] = nil
  variables_clear (v ∷ l) = all_append (variable_clear v) (variables_clear l)

  -- ---- the heading
  standard_clear : (q : Bool) → Lines (standard_line d q)
  unfolding each plain class_of
  standard_clear true = more (words refl (more refl nil)) nil
  standard_clear false = nil

  letter_clear : (b : ℕ) → class_of b ≡ 3 → Clear (b ∷ [])
  unfolding each
  letter_clear b h = rw (plain_byte b (λ f. omega arith))

  head_clear : (h : Heading) → class_of h.letter ≡ 3 → Lines (head_lines d h)
  unfolding head_lines each plain class_of
  head_clear h c =
      more (word refl)
      (more (words refl (more refl nil))
      (all_append (all_append (all_append (all_append (all_append (all_append
      (perhaps_clear DATE h.date refl)
      (perhaps_clear TIME h.time refl))
      (perhaps_clear ORIGIN h.origin refl))
      (perhaps_clear USER h.user refl))
      (standard_clear h.standard))
      (more (word refl) (perhaps_clear TITLE h.title refl)))
      (more (words refl (more (letter_clear h.letter c) nil)) nil)))

  pub clean_clear : (s : Survey) → class_of s.heading.letter ≡ 3 → All ClearLine (clean_lines d s)
  unfolding clean_lines each plain class_of
  clean_clear s c =
      all_append (all_append (head_clear s.heading c) (variables_clear s.variables))
      (more (words refl (more refl nil)) (more (words refl (more refl nil)) (more (words refl (more refl nil)) nil)))
