-- THE CLEAN TEXT of a survey (document 02, C-11): "a clean 1.1 file: fixed keyword order, one statement a line with CR LF, widths always
-- stated, texts carried over with dropped bytes removed, comments and notes left out, numbers as they stand, DATE to USER, STANDARD NAMES
-- and TITLE kept." A text is lines, a line is tokens with a space between two. 13 10 is CR LF, 34 the quote.
use Rattle.std.specs.Prelude.{Bool, true, false, List, [], ◌∷◌, ◌++◌, map, ℕ, ◌+◌, ◌-◌, ◌/◌}
use Rattle.std.proofs.Math.Option.{Option, none, some, get_or}
use Rattle.ascii.specs.rule.Tens.{digits_of}
use Rattle.fields.specs.rule.Number.{padded}
use Rattle.statements.specs.rule.Words.{SSS, VERSION, ONE-ONE, DATE, TIME, ORIGIN, USER, STANDARD, NAMES, SURVEY, TITLE, RECORD, VARIABLE}
use Rattle.statements.specs.rule.Words.{NAME, LABEL, TYPE, SINGLE, MULTIPLE, QUANTITY, CHARACTER, LOGICAL, POSITION, TO, SPREAD, OF, SIZE}
use Rattle.statements.specs.rule.Words.{VALUES, WITH, SPECIAL, END}
use Rattle.survey.specs.rule.Survey.{Figure, Amount, KeptText, Range, Line, Block, Spread, Content, single, multiple, quantity, character}
use Rattle.survey.specs.rule.Survey.{logical}
use Rattle.survey.specs.rule.Survey.{Variable, Heading, Survey}
use Rattle.clean_text.specs.rule.Span.{span_of}

-- a line: its tokens, "one space between two", "CR LF behind every line"
abbrev pub Token : Type 0
Token = List ℕ

unfoldable pub line_of : List Token → List ℕ
line_of [] = 13 ∷ 10 ∷ []
line_of (w ∷ []) = w ++ (13 ∷ 10 ∷ [])
line_of (w ∷ v ∷ ws) = w ++ (32 ∷ line_of (v ∷ ws))

unfoldable pub clean_text : List (List Token) → List ℕ
clean_text [] = []
clean_text (l ∷ ls) = line_of l ++ clean_text ls

-- a count "in plain digits"
unfoldable pub plain_digits : ℕ → Token
plain_digits n = padded (digits_of n) n

module _ (d : List ℕ) where
  -- ---- tokens as they stand in d
  abbrev pub figure_token : Figure → Token
  figure_token x = span_of d x.place x.end

  abbrev pub amount_token : Amount → Token
  amount_token a = span_of d a.place a.end

  -- "the kept bytes between the quotes, every brace form as read"
  abbrev pub quoted_token : KeptText → Token
  quoted_token t = 34 ∷ span_of d t.place (t.place + t.length) ++ 34 ∷ []

  -- a statement that may be absent: its word and its text
  abbrev pub perhaps : Token → Option KeptText → List (List Token)
  perhaps w none = []
  perhaps w (some t) = (w ∷ quoted_token t ∷ []) ∷ []

  -- ---- VALUES: "the range with its WITH; each value line with its SPECIAL"
  abbrev pub marked : Bool → Token → List Token
  marked true w = w ∷ []
  marked false w = []

  abbrev pub value_line : Line → List Token
  value_line l = amount_token l.value ∷ quoted_token l.text ∷ marked l.special SPECIAL

  abbrev pub some_line : List Line → Bool
  some_line [] = false
  some_line (l ∷ ls) = true

  abbrev pub range_line : Option Range → List Line → List (List Token)
  range_line none ls = []
  range_line (some r) ls = (amount_token r.from ∷ TO ∷ amount_token r.to ∷ marked (some_line ls) WITH) ∷ []

  unfoldable pub values_lines : Block → List (List Token)
  values_lines b = (VALUES ∷ []) ∷ range_line b.range b.lines ++ map value_line b.lines ++ (END ∷ VALUES ∷ []) ∷ []

  -- ---- a variable
  -- how many positions it has
  abbrev pub positions : Variable → ℕ
  positions v = (get_or v.finish v.start).value + 1 - v.start.value

  -- "OF for every spread (an added one in plain digits)": the positions of each
  abbrev pub spread_width : ℕ → Option Figure → Token
  spread_width each none = plain_digits each
  spread_width each (some w) = figure_token w

  abbrev pub spread_line : ℕ → Option Spread → List (List Token)
  spread_line n none = []
  spread_line n (some s) = (SPREAD ∷ figure_token s.count ∷ OF ∷ spread_width (n / s.count.value) s.width ∷ []) ∷ []

  abbrev pub type_word : Content → Token
  type_word (single b) = SINGLE
  type_word (multiple s b) = MULTIPLE
  type_word (quantity b) = QUANTITY
  type_word (character x) = CHARACTER
  type_word logical = LOGICAL

  abbrev pub content_lines : ℕ → Content → List (List Token)
  content_lines n (single b) = values_lines b
  content_lines n (multiple s b) = spread_line n s ++ values_lines b
  content_lines n (quantity b) = values_lines b
  content_lines n (character x) = (SIZE ∷ figure_token x ∷ []) ∷ []
  content_lines n logical = []

  -- "TO for every POSITION (an added one repeats the start as it stands: `05 TO 05`)"
  unfoldable pub variable_lines : Variable → List (List Token)
  variable_lines v =
      (VARIABLE ∷ figure_token v.ident ∷ [])
      ∷ (NAME ∷ quoted_token v.name ∷ [])
      ∷ (LABEL ∷ quoted_token v.label ∷ [])
      ∷ (TYPE ∷ type_word v.content ∷ [])
      ∷ (POSITION ∷ figure_token v.start ∷ TO ∷ figure_token (get_or v.finish v.start) ∷ [])
      ∷ content_lines (positions v) v.content
      ++ (END ∷ VARIABLE ∷ []) ∷ []

  unfoldable pub each_variable : List Variable → List (List Token)
  each_variable [] = []
  each_variable (v ∷ l) = variable_lines v ++ each_variable l

  -- ---- the whole, in the order of the readings
  abbrev pub standard_line : Bool → List (List Token)
  standard_line true = (STANDARD ∷ NAMES ∷ []) ∷ []
  standard_line false = []

  unfoldable pub head_lines : Heading → List (List Token)
  head_lines h =
      (SSS ∷ [])
      ∷ (VERSION ∷ ONE-ONE ∷ [])
      ∷ perhaps DATE h.date
      ++ perhaps TIME h.time
      ++ perhaps ORIGIN h.origin
      ++ perhaps USER h.user
      ++ standard_line h.standard
      ++ (SURVEY ∷ [])
      ∷ perhaps TITLE h.title
      ++ (RECORD ∷ (h.letter ∷ []) ∷ [])
      ∷ []

  unfoldable pub clean_lines : Survey → List (List Token)
  clean_lines s =
      head_lines s.heading ++ each_variable s.variables ++ (END ∷ RECORD ∷ []) ∷ (END ∷ SURVEY ∷ []) ∷ (END ∷ SSS ∷ []) ∷ []

  unfoldable pub clean_of : Survey → List ℕ
  clean_of s = clean_text (clean_lines s)
