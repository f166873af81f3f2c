-- THE CODE'S BOOKS, which contracts inside the library name; crate `bridge` proves them equal to the rule of crate `reading`.
-- The tokens: words, numbers, values, strings, a letter, each behind its spaces and comments. A token that is due and does not stand
-- there is refusal 2 at the place of what does; a string that does not close is 3 at its opening quote, a bad brace form 3 at its
-- brace.
use Rattle.std.specs.Prelude.{ℕ, ◌+◌, ◌-◌, true, false, cond, ◌&&◌, ◌||◌, List, eqb, ltb, Ok, Err}
use Rattle.ascii.specs.rule.Class.{class_of}
use Rattle.scan.specs.rule.Text.{Text, stop, sign, text}
use Rattle.scan.specs.declared.Word.{Word}
use Rattle.scan.specs.declared.Word.TheVariants.{Matched, Not}
use Rattle.scan.specs.declared.Digits.{Digits}
use Rattle.scan.specs.rule.Word.{word_at}
use Rattle.scan.specs.Number.{digits_from}
use Rattle.scan.specs.rule.Number.{run_of, is_value}
use Rattle.marks.specs.declared.Inside.TheVariants.{Plain}
use Rattle.marks.specs.declared.Skip.{Skip}
use Rattle.marks.specs.declared.Skip.TheVariants.{Past, Unclosed, Bad}
use Rattle.marks.specs.rule.Marks.{string_of}
use Rattle.tokens.specs.declared.Choice.{Choice}
use Rattle.tokens.specs.declared.Choice.TheVariants.{Taken, Left}
use Rattle.tokens.specs.declared.Mark.{Mark}
use Rattle.tokens.specs.declared.Value.{Value}
use Rattle.tokens.specs.rule.Gap.{fault, OrFault}
use Rattle.tokens.specs.Gap.{then, gap_on}
use Rattle.tokens.specs.declared.Figures.{Figures}
use Rattle.tokens.specs.declared.Quoted.{Quoted}

-- ---- words
abbrev pub of_word : ℕ → Word → OrFault ℕ
of_word n (Matched m) = Ok m
of_word n Not = Err (fault 2 n)

-- a word that is due right here, and one behind a gap
unfoldable pub word_here : List ℕ → OrFault ℕ → List ℕ → OrFault ℕ
word_here d t w = then t λ n. of_word n (word_at d n w)

unfoldable pub word_on : List ℕ → OrFault ℕ → List ℕ → OrFault ℕ
word_on d t w = word_here d (gap_on d t) w

-- a word that may stand right here
abbrev pub of_choice : Word → Choice
of_choice (Matched m) = Taken m
of_choice Not = Left

unfoldable pub choice_of : List ℕ → OrFault ℕ → List ℕ → Choice
choice_of d (Ok n) w = of_choice (word_at d n w)
choice_of d (Err f) w = Left

-- ---- numbers: the longest run of digits
unfoldable pub of_digits : ℕ → Digits → OrFault Figures
of_digits n r =
    cond (eqb r.count 0) (Err (fault 2 n))
    (Ok (record { size = r.size; count = r.count; place = n; next = r.next }))

unfoldable pub number_here : List ℕ → OrFault ℕ → OrFault Figures
number_here d (Ok n) = of_digits n (digits_from 0 0 n (text d n))
number_here d (Err f) = Err f

unfoldable pub number_on : List ℕ → OrFault ℕ → OrFault Figures
number_on d t = number_here d (gap_on d t)

unfoldable pub past_number : OrFault Figures → OrFault ℕ
past_number (Ok r) = Ok r.next
past_number (Err f) = Err f

-- ---- values: the longest run of digits, points, `+` and `-`
-- the byte b, if it stands at `at`
unfoldable pub mark_of : ℕ → ℕ → Text → Mark
mark_of at b (stop p) = record { there = false; next = at }
mark_of at b (sign p c t) = cond (eqb c b) (record { there = true; next = p + 1 }) (record { there = false; next = at })

-- an optional `-` (45), digits, an optional point (46), digits; it is formed if that is all of the run, with a digit in it
unfoldable pub value_at : List ℕ → ℕ → Value
value_at d at =
    let sign = mark_of at 45 (text d at) in
    let whole = digits_from 0 0 sign.next (text d sign.next) in
    let dot = mark_of whole.next 46 (text d whole.next) in
    let rest = digits_from whole.size 0 dot.next (text d dot.next) in
    let end = run_of is_value rest.next (text d rest.next) in
    record {
      minus = sign.there;
      size = rest.size;
      whole = whole.count;
      decimals = rest.count;
      point = dot.there;
      formed = eqb end rest.next && (ltb 0 whole.count || ltb 0 rest.count);
      place = at;
      first = sign.next;
      last = rest.next;
      next = end;
    }

unfoldable pub of_value : ℕ → Value → OrFault Value
of_value n v = cond (eqb v.next n) (Err (fault 2 n)) (Ok v)

unfoldable pub value_here : List ℕ → OrFault ℕ → OrFault Value
value_here d (Ok n) = of_value n (value_at d n)
value_here d (Err f) = Err f

unfoldable pub value_on : List ℕ → OrFault ℕ → OrFault Value
value_on d t = value_here d (gap_on d t)

unfoldable pub past_value : OrFault Value → OrFault ℕ
past_value (Ok v) = Ok v.next
past_value (Err f) = Err f

-- ---- strings: the place is just after the opening quote at p, the length reaches to just before the closing one
abbrev pub of_skip : ℕ → Skip → OrFault Quoted
of_skip p (Past n) = Ok (record { place = p + 1; length = n - (p + 1) - 1; next = n })
of_skip p Unclosed = Err (fault 3 p)
of_skip p (Bad q) = Err (fault 3 q)

-- from an opening quote at p to a closing one at m
abbrev pub closed_at : ℕ → ℕ → OrFault Quoted
closed_at p m = Ok (record { place = p + 1; length = m - p - 1; next = m + 1 })

unfoldable pub string_in : Text → OrFault Quoted
string_in (stop p) = Err (fault 2 p)
string_in (sign p b t) = cond (eqb b 34) (of_skip p (string_of Plain t)) (Err (fault 2 p))

abbrev pub phrase_on : OrFault ℕ → (ℕ → OrFault Quoted) → OrFault Quoted
phrase_on (Ok n) k = k n
phrase_on (Err f) k = Err f

unfoldable pub string_on : List ℕ → OrFault ℕ → OrFault Quoted
string_on d t = phrase_on (gap_on d t) λ n. string_in (text d n)

unfoldable pub past_string : OrFault Quoted → OrFault ℕ
past_string (Ok q) = Ok q.next
past_string (Err f) = Err f

-- ---- one letter
unfoldable pub letter_in : Text → OrFault ℕ
letter_in (stop p) = Err (fault 2 p)
letter_in (sign p b t) = cond (eqb (class_of b) 3) (Ok (p + 1)) (Err (fault 2 p))

unfoldable pub letter_on : List ℕ → OrFault ℕ → OrFault ℕ
letter_on d t = then (gap_on d t) λ n. letter_in (text d n)
