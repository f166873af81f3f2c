-- HOW LONG A CLEAN TEXT IS AT MOST: three bytes for each of its definition's. What stands from n to m is written in 3 * (m - n) bytes or
-- fewer, so that things one behind the other add up; a SPREAD whose OF is added may need 11 more, which the VALUES behind it leave.
use Rattle.std.specs.Prelude.{◌≡◌, refl, Bool, true, false, cond, ℕ, ◌+◌, ◌-◌, ◌*◌, ◌/◌, ◌≤◌, eqb, leb, length, drop}
use Rattle.std.proofs.Common.{ap, ◌∙◌, length-append, leb-false}
use mathlib.Core.List.{List, [], ◌∷◌, ◌++◌, map}
use Rattle.std.proofs.Math.Option.{Option, some, get_or}
use native.Mathlib.Omega.{arith}
use Rattle.ascii.specs.rule.Class.{class_of}
use Rattle.ascii.specs.rule.Tens.{digits_of}
use Rattle.ascii.specs.Tens.{digits_few}
use Rattle.scan.specs.rule.Text.{stop, sign, kept, text, place_of}
use Rattle.scan.specs.rule.Text as scan
use Rattle.scan.specs.Word.{Written}
use Rattle.scan.specs.Word as word
use Rattle.scan.proofs.Texts.{From, at_sign, from_text, place_from}
use Rattle.marks.specs.declared.Inside.TheVariants.{Plain}
use Rattle.marks.specs.declared.Skip.TheVariants.{Past}
use Rattle.marks.proofs.Levels.{ahead, string_ahead, comment_ahead}
use Rattle.marks.proofs.Complete.{string_complete}
use Rattle.token_laws.specs.Comments.{is_past, comment_answered}
use Rattle.token_laws.specs.Gaps as gaps
use Rattle.token_laws.specs.Opening as spaces
use Rattle.fieldlaws.specs.NumberLaws.{length_padded}
use Rattle.statements.specs.rule.Words.{SSS, VERSION, ONE-ONE, DATE, TIME, ORIGIN, USER, STANDARD, NAMES, SURVEY, TITLE, RECORD, VARIABLE}
use Rattle.statements.specs.rule.Words.{NAME, LABEL, TYPE, POSITION, TO, SPREAD, OF, SIZE, VALUES, WITH, SPECIAL, END}
use Rattle.survey.specs.rule.Survey.{Figure, Amount, KeptText, Range, Line, Block, Content, Variable, Survey}
use Rattle.survey.specs.rule.Survey as survey
use Rattle.survey.specs.rule.Width.{some_of}
use Rattle.reading.specs.rule.Token.{amount_read}
use Rattle.reading.specs.rule.Variable.{Sort}
use Rattle.reading.specs.rule.Whole.{HeadingEntry, given, heading}
use Rattle.reading.specs.rule.Whole as reading
use Rattle.grammar.specs.Token.{Gap, Here, Keyword, Run, Number, Value, String, Letter, Notes, Statement, Phrase, End, Optional}
use Rattle.grammar.specs.Token as token
use Rattle.grammar.specs.Grammar as says
use Rattle.clean_text.specs.rule.Span.{up_to, span_of}
use Rattle.clean_text.specs.rule.Clean.{Token, line_of, clean_text, plain_digits, figure_token, amount_token, quoted_token, perhaps, marked}
use Rattle.clean_text.specs.rule.Clean.{value_line, some_line}
use Rattle.clean_text.specs.rule.Clean.{range_line, values_lines, spread_line, type_word, content_lines, positions, variable_lines}
use Rattle.clean_text.specs.rule.Clean.{each_variable}
use Rattle.clean_text.specs.rule.Clean.{standard_line, head_lines, clean_lines, clean_of}
use Rattle.page_laws.specs.Values.{text_append}

-- ---- the kept bytes of a stretch are at most as many as its places
up_cut : (b p e : ℕ) (l : List ℕ) (q : Bool) → leb e p ≡ q → length l ≤ e - (p + 1) → length (cond q [] (b ∷ l)) ≤ e - p
up_cut b p e l true g h = omega arith
up_cut b p e l false g h = let i = leb-false e p g in omega (arith, i, h)

up_most : (s : List ℕ) (p e : ℕ) → length (up_to e (kept p s)) ≤ e - p
unfolding up_to kept
up_most [] p e = omega arith
up_most (b ∷ s) p e = by (eqb (class_of b) 0) (up_most s (p + 1) e) where
  by : (q : Bool) → length (up_to e (kept (p + 1) s)) ≤ e - (p + 1)
      → length (up_to e (cond q (kept (p + 1) s) (sign p b (kept (p + 1) s)))) ≤ e - p
  by true h = omega (arith, h)
  by false h = up_cut b p e (up_to e (kept (p + 1) s)) (leb e p) refl h

-- ---- lines and texts
line_one : (w : List ℕ) → length (line_of (w ∷ [])) ≡ length w + 2
unfolding line_of
line_one w = length-append w (13 ∷ 10 ∷ [])

line_more : (w v : List ℕ) (l : List Token) → length (line_of (w ∷ v ∷ l)) ≡ length w + 1 + length (line_of (v ∷ l))
unfolding line_of
line_more w v l = let e = length-append w (32 ∷ line_of (v ∷ l)) in omega (arith, e)

line_two : (a b : List ℕ) → length (line_of (a ∷ b ∷ [])) ≡ length a + length b + 3
line_two a b = omega (arith, line_more a b [], line_one b)

line_three : (a b c : List ℕ) → length (line_of (a ∷ b ∷ c ∷ [])) ≡ length a + length b + length c + 4
line_three a b c = omega (arith, line_more a b (c ∷ []), line_two b c)

line_four : (a b c e : List ℕ) → length (line_of (a ∷ b ∷ c ∷ e ∷ [])) ≡ length a + length b + length c + length e + 5
line_four a b c e = omega (arith, line_more a b (c ∷ e ∷ []), line_three b c e)

-- how many bytes lines have
unfoldable size : List (List Token) → ℕ
size l = length (clean_text l)

size_none : size [] ≡ 0
unfolding size clean_text
size_none = refl

size_more : (a : List Token) (l : List (List Token)) → size (a ∷ l) ≡ length (line_of a) + size l
unfolding size clean_text
size_more a l = length-append (line_of a) (clean_text l)

size_one : (a : List Token) → size (a ∷ []) ≡ length (line_of a)
size_one a = omega (arith, size_more a [], size_none)

size_both : (a b : List (List Token)) → size (a ++ b) ≡ size a + size b
unfolding size
size_both a b = ap length (text_append a b) ∙ length-append (clean_text a) (clean_text b)

module _ (d : List ℕ) where
  span_most : (a e : ℕ) → length (span_of d a e) ≤ e - a
  unfolding span_of text
  span_most a e = up_most (drop a d) a e

  quoted_size : (t : KeptText) → length (quoted_token d t) ≡ length (span_of d t.place (t.place + t.length)) + 2
  quoted_size t = let e = length-append (34 ∷ span_of d t.place (t.place + t.length)) (34 ∷ []) in omega (arith, e)

  -- ---- what is derived from n to m stands between them
  sign_on : {n p b : ℕ} {t : scan.Text} → text d n ≡ sign p b t → n ≤ p
  unfolding place_of
  sign_on {n} e = rw e at (place_from d n)

  stop_on : {n p : ℕ} → text d n ≡ stop p → n ≤ p
  unfolding place_of
  stop_on {n} e = rw e at (place_from d n)

  blanks_on : {n m : ℕ} → gaps.Gap d n m → n ≤ m
  blanks_on gaps.none = omega arith
  blanks_on (gaps.space e g) = omega (arith, sign_on e, blanks_on g)
  blanks_on (gaps.comment {p = p} {k = k} e c g) =
      let s = (comment_answered d 1 (p + 1) (omega arith) (Past k)).1 (is_past c) in
      omega (arith, sign_on e, ahead (comment_ahead d (from_text d (p + 1)) 1) s, blanks_on g)

  gap_on_lem : {n m : ℕ} → Gap d n m → n ≤ m
  gap_on_lem (gaps.token g e f h) = omega (arith, blanks_on g, sign_on e)
  gap_on_lem (gaps.ended g e) = omega (arith, blanks_on g, stop_on e)

  spaces_on_lem : {n m : ℕ} → spaces.Spaces d n m → n ≤ m
  spaces_on_lem (spaces.byte e f) = sign_on e
  spaces_on_lem (spaces.end e) = stop_on e
  spaces_on_lem (spaces.space e s) = omega (arith, sign_on e, spaces_on_lem s)

  letters_on : {w : List ℕ} {n m : ℕ} {t : scan.Text} → Written w n t m → From d n t → n + length w ≤ m
  letters_on word.none f = omega arith
  letters_on (word.one c y) (at_sign h i e f) = omega (arith, h, letters_on y f)

  letters_within : {x : ℕ} {w : List ℕ} {n m : ℕ} {t : scan.Text} → Written (x ∷ w) n t m → From d n t → m ≤ length d
  letters_within (word.one c word.none) (at_sign h i e f) = omega (arith, i)
  letters_within (word.one c (word.one b y)) (at_sign h i e f) = letters_within (word.one b y) f

  here_on : {w : List ℕ} {n m : ℕ} → Here d w n m → n + length w ≤ m
  here_on {n = n} h = letters_on h (from_text d n)

  run_on : {f : ℕ → Bool} {n m : ℕ} {t : scan.Text} {s : List ℕ} → Run f n t s m → From d n t → n ≤ m
  run_on (token.more q r) (at_sign h w e i) = omega (arith, h, run_on r i)
  run_on (token.other q) i = omega arith
  run_on token.end i = omega arith

  keyword_on : {w : List ℕ} {n m : ℕ} → Keyword d w n m → n + length w ≤ m
  keyword_on (token.keyword g h) = omega (arith, gap_on_lem g, here_on h)

  number_on_lem : {n m : ℕ} {x : Figure} → Number d n x m → n + length (figure_token d x) ≤ m
  number_on_lem (token.number {p = p} {m = m} g r) = omega (arith, gap_on_lem g, run_on r (from_text d p), span_most p m)

  value_on_lem : {n m : ℕ} {a : Amount} → Value d n a m → n + length (amount_token d a) ≤ m
  unfolding amount_read
  value_on_lem (token.value {n = n} {m = m} r) = omega (arith, run_on r (from_text d n), span_most n m)

  string_on_lem : {n m : ℕ} {t : KeptText} → String d n t m → n + length (quoted_token d t) ≤ m
  string_on_lem {t = t} (token.string {p = p} {m = m} g e s) =
      let b = ahead (string_ahead d (from_text d (p + 1)) Plain) (string_complete s) in
      omega (arith, gap_on_lem g, sign_on e, b, quoted_size t, span_most (p + 1) (p + 1 + (m - (p + 1) - 1)))

  letter_on_lem : {n b m : ℕ} → Letter d n b m → n + 1 ≤ m
  letter_on_lem (token.letter g e c) = omega (arith, gap_on_lem g, sign_on e)

  notes_on_lem : {n m : ℕ} → Notes d n m → n ≤ m
  notes_on_lem (token.no_more g) = gap_on_lem g
  notes_on_lem (token.note k s r) = omega (arith, keyword_on k, string_on_lem s, notes_on_lem r)

  statement_on_lem : {w : List ℕ} {n m : ℕ} → Statement d w n m → n + length w ≤ m
  statement_on_lem (token.statement r h) = omega (arith, notes_on_lem r, here_on h)

  end_on : {w : List ℕ} {n m : ℕ} → End d w n m → n + 3 + length w ≤ m
  end_on (token.end s k) = omega (arith, statement_on_lem s, keyword_on k)

  -- ---- statements of a word and a text, or a word and a number
  phrase_fits : {w : List ℕ} {n m : ℕ} {t : KeptText} → Phrase d w n t m → length (line_of (w ∷ quoted_token d t ∷ [])) + 3 * n ≤ 3 * m
  phrase_fits {w} {t = t} (token.phrase s x) = omega
      (arith, line_two w (quoted_token d t), quoted_size t, statement_on_lem s, string_on_lem x)

  number_fits : {w : List ℕ} {n k m : ℕ} {x : Figure} → 2 ≤ length w → Statement d w n k → Number d k x m
      → length (line_of (w ∷ figure_token d x ∷ [])) + 3 * n ≤ 3 * m
  number_fits {w} {x = x} h s y = omega (arith, h, line_two w (figure_token d x), statement_on_lem s, number_on_lem y)

  end_fits : {w : List ℕ} {n m : ℕ} → End d w n m → length (line_of (END ∷ w ∷ [])) + 3 * n + 3 ≤ 3 * m
  end_fits {w} e = omega (arith, line_two END w, end_on e)

  -- ---- VALUES
  line_fits : {n m : ℕ} {l : Line} → says.Line d n l m → length (line_of (value_line d l)) + 3 * n ≤ 3 * m
  line_fits (says.line {a = a} {t = t} r v x (token.yes k)) =
      omega (
        arith,
        line_three (amount_token d a) (quoted_token d t) SPECIAL,
        quoted_size t,
        notes_on_lem r,
        value_on_lem v,
        string_on_lem x,
        keyword_on k,
      )
  line_fits (says.line {a = a} {t = t} r v x (token.no g o)) =
      omega (
        arith,
        line_two (amount_token d a) (quoted_token d t),
        quoted_size t,
        notes_on_lem r,
        value_on_lem v,
        string_on_lem x,
        gap_on_lem g,
      )

  lines_fits : {n m : ℕ} {l : List Line} → says.Lines d n l m → size (map (value_line d) l) + 3 * n + 27 ≤ 3 * m
  lines_fits (says.last {l = l} x e) = omega (arith, size_one (value_line d l), line_fits x, end_on e)
  lines_fits (says.more {l = l} {ls = ls} x y) = omega
      (arith, size_more (value_line d l) (map (value_line d) ls), line_fits x, lines_fits y)

  range_size : (r : Range) (q : Bool)
      → length (line_of (amount_token d r.from ∷ TO ∷ amount_token d r.to ∷ marked d q WITH)) ≤ length (amount_token d r.from)
      + length (amount_token d r.to) + 11
  range_size r true = omega (arith, line_four (amount_token d r.from) TO (amount_token d r.to) WITH)
  range_size r false = omega (arith, line_three (amount_token d r.from) TO (amount_token d r.to))

  bounds_on : {n m : ℕ} {r : Range} → says.Bounds d n r m → n + length (amount_token d r.from) + length (amount_token d r.to) + 2 ≤ m
  bounds_on (says.bounds x a k g b) = omega (arith, notes_on_lem x, value_on_lem a, keyword_on k, gap_on_lem g, value_on_lem b)

  values_size : (b : Block) → size (values_lines d b) ≡ 20 + size (range_line d b.range b.lines) + size (map (value_line d) b.lines)
  unfolding values_lines
  values_size b =
      let range = range_line d b.range b.lines in
      let lines = map (value_line d) b.lines in
      omega (
        arith,
        size_both ((VALUES ∷ []) ∷ range ++ lines) ((END ∷ VALUES ∷ []) ∷ []),
        size_both ((VALUES ∷ []) ∷ range) lines,
        size_more (VALUES ∷ []) range,
        size_one (END ∷ VALUES ∷ []),
        line_one VALUES,
        line_two END VALUES,
      )

  values_fits : {n m : ℕ} {b : Block} → says.Values d n b m → size (values_lines d b) + 3 * n + 11 ≤ 3 * m
  values_fits {b = b} (says.listed s l) = omega (arith, values_size b, size_none, statement_on_lem s, lines_fits l)
  values_fits {b = b} (says.ranged {r = r} s x (token.no g o) e) =
      omega (
        arith,
        values_size b,
        size_none,
        size_one (amount_token d r.from ∷ TO ∷ amount_token d r.to ∷ []),
        range_size r false,
        statement_on_lem s,
        bounds_on x,
        gap_on_lem g,
        end_on e,
      )
  values_fits {b = b} (says.both {r = r} {l = l} s x (token.yes k) y) =
      omega (
        arith,
        values_size b,
        size_one (amount_token d r.from ∷ TO ∷ amount_token d r.to ∷ marked d (some_line d l) WITH),
        range_size r (some_line d l),
        statement_on_lem s,
        bounds_on x,
        keyword_on k,
        lines_fits y,
      )

  -- ---- POSITION, SPREAD, and what a type has

  position_fits : {n m : ℕ} {a : Figure} {b : Option Figure} → says.Position d n a b m
      → length (line_of (POSITION ∷ figure_token d a ∷ TO ∷ figure_token d (get_or b a) ∷ [])) + 3 * n ≤ 3 * m
  position_fits {a = a} (says.position s x (token.given {a = b} k y)) =
      omega (
        arith,
        line_four POSITION (figure_token d a) TO (figure_token d b),
        statement_on_lem s,
        number_on_lem x,
        keyword_on k,
        number_on_lem y,
      )
  position_fits {a = a} (says.position s x (token.absent g o)) =
      omega (arith, line_four POSITION (figure_token d a) TO (figure_token d a), statement_on_lem s, number_on_lem x, gap_on_lem g)

  digits_size : (n : ℕ) → length (plain_digits n) ≤ 16
  unfolding plain_digits
  digits_size n = omega (arith, length_padded (digits_of n) n, digits_few n)

  spread_fits : {n m : ℕ} {s : Option survey.Spread} (room : ℕ) → says.Spread d n s m → size (spread_line d room s) + 3 * n ≤ 3 * m + 11
  spread_fits room (says.spread {x = x} s y (token.given {a = w} k z)) =
      omega (
        arith,
        size_one (SPREAD ∷ figure_token d x ∷ OF ∷ figure_token d w ∷ []),
        line_four SPREAD (figure_token d x) OF (figure_token d w),
        statement_on_lem s,
        number_on_lem y,
        keyword_on k,
        number_on_lem z,
      )
  spread_fits room (says.spread {x = x} s y (token.absent g o)) =
      let each = plain_digits (room / x.value) in
      omega (
        arith,
        size_one (SPREAD ∷ figure_token d x ∷ OF ∷ each ∷ []),
        line_four SPREAD (figure_token d x) OF each,
        digits_size (room / x.value),
        statement_on_lem s,
        number_on_lem y,
        gap_on_lem g,
      )
  spread_fits room says.undivided = omega (arith, size_none)

  rest_fits : {n m : ℕ} {t : Sort} {c : Content} (room : ℕ) → says.Rest d t n c m → size (content_lines d room c) + 3 * n ≤ 3 * m
  rest_fits room (says.single v) = omega (arith, values_fits v)
  rest_fits room (says.multiple {s = s} {b = b} x v) =
      omega (arith, size_both (spread_line d room s) (values_lines d b), spread_fits room x, values_fits v)
  rest_fits room (says.quantity v) = omega (arith, values_fits v)
  rest_fits room (says.character {x = x} s y) = omega (arith, size_one (SIZE ∷ figure_token d x ∷ []), number_fits (omega arith) s y)
  rest_fits room says.logical = omega (arith, size_none)

  -- ---- a variable
  type_fits : {n k m : ℕ} (t : Sort) (c : Content) → type_word d c ≡ says.type_word t → Statement d TYPE n k
      → Keyword d (says.type_word t) k m
      → length (line_of (TYPE ∷ type_word d c ∷ [])) + 3 * n ≤ 3 * m
  type_fits t c e s k = rw e (omega (arith, line_two TYPE (says.type_word t), statement_on_lem s, keyword_on k))

  type_same : {n m : ℕ} {t : Sort} {c : Content} → says.Rest d t n c m → type_word d c ≡ says.type_word t
  type_same (says.single v) = refl
  type_same (says.multiple x v) = refl
  type_same (says.quantity v) = refl
  type_same (says.character s y) = refl
  type_same says.logical = refl

  variable_fits : {n m : ℕ} {v : Variable} → says.Variable d n v m → size (variable_lines d v) + 3 * n ≤ 3 * m
  unfolding variable_lines
  variable_fits {v = v} (says.variable {t = t} s x name label y k p r e) =
      let ident = VARIABLE ∷ figure_token d v.ident ∷ [] in
      let named = NAME ∷ quoted_token d v.name ∷ [] in
      let labelled = LABEL ∷ quoted_token d v.label ∷ [] in
      let typed = TYPE ∷ type_word d v.content ∷ [] in
      let placed = POSITION ∷ figure_token d v.start ∷ TO ∷ figure_token d (get_or v.finish v.start) ∷ [] in
      let rest = content_lines d (positions d v) v.content in
      omega (
        arith,
        size_both (ident ∷ named ∷ labelled ∷ typed ∷ placed ∷ rest) ((END ∷ VARIABLE ∷ []) ∷ []),
        size_more ident (named ∷ labelled ∷ typed ∷ placed ∷ rest),
        size_more named (labelled ∷ typed ∷ placed ∷ rest),
        size_more labelled (typed ∷ placed ∷ rest),
        size_more typed (placed ∷ rest),
        size_more placed rest,
        size_one (END ∷ VARIABLE ∷ []),
        number_fits {w = VARIABLE} (omega arith) s x,
        phrase_fits name,
        phrase_fits label,
        type_fits t v.content (type_same r) y k,
        position_fits p,
        rest_fits (positions d v) r,
        end_fits e,
      )

  variables_fits : {n m : ℕ} {l : List Variable} → says.Variables d n l m → size (each_variable d l) + 3 * n ≤ 3 * m
  unfolding each_variable
  variables_fits (says.one {v = v} x) = omega (arith, size_both (variable_lines d v) [], size_none, variable_fits x)
  variables_fits (says.more {v = v} {l = l} x y) =
      omega (arith, size_both (variable_lines d v) (each_variable d l), variable_fits x, variables_fits y)

  -- ---- the heading: its statements in any order
  unfoldable items_size : List HeadingEntry → ℕ
  items_size l =
      size (perhaps d DATE (reading.entered_text 0 l))
      + size (perhaps d TIME (reading.entered_text 1 l))
      + size (perhaps d ORIGIN (reading.entered_text 2 l))
      + size (perhaps d USER (reading.entered_text 3 l))
      + size (standard_line d (given 4 l))

  perhaps_fits : {w : List ℕ} {n m : ℕ} {t : KeptText} → Phrase d w n t m → size (perhaps d w (some t)) + 3 * n ≤ 3 * m
  perhaps_fits {w} {t = t} x = omega (arith, size_one (w ∷ quoted_token d t ∷ []), phrase_fits x)

  item_fits : {n m : ℕ} {e : HeadingEntry} (l : List HeadingEntry) → says.Item d n e m → items_size (e ∷ l) + 3 * n ≤ items_size l + 3 * m
  unfolding items_size reading.entered_text given some_of
  item_fits l (says.date x) = omega (arith, perhaps_fits x)
  item_fits l (says.time x) = omega (arith, perhaps_fits x)
  item_fits l (says.origin x) = omega (arith, perhaps_fits x)
  item_fits l (says.user x) = omega (arith, perhaps_fits x)
  item_fits l (says.standard_names s k) =
      omega (arith, size_one (STANDARD ∷ NAMES ∷ []), line_two STANDARD NAMES, statement_on_lem s, keyword_on k)

  items_fits : {n m : ℕ} {l k : List HeadingEntry} → says.Items d l n k m → items_size k + 3 * n ≤ items_size l + 3 * m
  items_fits says.no_more = omega arith
  items_fits {l = l} (says.more x q y) = omega (arith, item_fits l x, items_fits y)

  items_none : items_size [] ≡ 0
  unfolding items_size reading.entered_text given some_of
  items_none = omega (arith, size_none)

  title_fits : {n m : ℕ} {t : Option KeptText} → says.Title d n t m → size (perhaps d TITLE t) + 3 * n ≤ 3 * m
  title_fits (says.title x) = perhaps_fits x
  title_fits says.untitled = omega (arith, size_none)

  opening_on : {m : ℕ} → says.Opening d m → 10 ≤ m
  opening_on (says.opening {e = e} h s w r x) = omega
      (arith, here_on h, spaces_on_lem s, here_on w, spaces_on_lem r, run_on x (from_text d e))

  head_size : (l : List HeadingEntry) (t : Option KeptText) (x : ℕ) → size (head_lines d (heading l t x)) ≡ items_size l
      + size (perhaps d TITLE t) + 36
  unfolding head_lines items_size
  head_size l t x =
      let a = perhaps d DATE (reading.entered_text 0 l) in
      let b = perhaps d TIME (reading.entered_text 1 l) in
      let c = perhaps d ORIGIN (reading.entered_text 2 l) in
      let e = perhaps d USER (reading.entered_text 3 l) in
      let f = standard_line d (given 4 l) in
      let g = perhaps d TITLE t in
      let begun = (SSS ∷ []) ∷ (VERSION ∷ ONE-ONE ∷ []) ∷ a in
      omega (
        arith,
        size_both (begun ++ b ++ c ++ e ++ f ++ (SURVEY ∷ []) ∷ g) ((RECORD ∷ (x ∷ []) ∷ []) ∷ []),
        size_both (begun ++ b ++ c ++ e ++ f) ((SURVEY ∷ []) ∷ g),
        size_both (begun ++ b ++ c ++ e) f,
        size_both (begun ++ b ++ c) e,
        size_both (begun ++ b) c,
        size_both begun b,
        size_more (SSS ∷ []) ((VERSION ∷ ONE-ONE ∷ []) ∷ a),
        size_more (VERSION ∷ ONE-ONE ∷ []) a,
        size_more (SURVEY ∷ []) g,
        size_one (RECORD ∷ (x ∷ []) ∷ []),
        line_one SSS,
        line_two VERSION ONE-ONE,
        line_one SURVEY,
        line_two RECORD (x ∷ []),
      )

  -- ---- THE WHOLE
  whole_size : (s : Survey) → length (clean_of d s) ≡ size (head_lines d s.heading) + size (each_variable d s.variables) + 33
  unfolding clean_of clean_lines size
  whole_size s =
      let last = (END ∷ RECORD ∷ []) ∷ (END ∷ SURVEY ∷ []) ∷ (END ∷ SSS ∷ []) ∷ [] in
      omega (
        arith,
        size_both (head_lines d s.heading ++ each_variable d s.variables) last,
        size_both (head_lines d s.heading) (each_variable d s.variables),
        size_more (END ∷ RECORD ∷ []) ((END ∷ SURVEY ∷ []) ∷ (END ∷ SSS ∷ []) ∷ []),
        size_more (END ∷ SURVEY ∷ []) ((END ∷ SSS ∷ []) ∷ []),
        size_one (END ∷ SSS ∷ []),
        line_two END RECORD,
        line_two END SURVEY,
        line_two END SSS,
      )

  end_within : {x : ℕ} {w : List ℕ} {n m : ℕ} → End d (x ∷ w) n m → m ≤ length d
  end_within (token.end s (token.keyword {k = k} g h)) = letters_within h (from_text d k)

  pub clean_most : {s : Survey} {m : ℕ} → says.Definition d s m → length (clean_of d s) ≤ 3 * length d
  clean_most {s} (says.definition {l = l} {t = t} {x = x} o i v u r w y a b c) =
      omega (
        arith,
        whole_size s,
        head_size l t x,
        opening_on o,
        items_fits i,
        items_none,
        statement_on_lem v,
        title_fits u,
        statement_on_lem r,
        letter_on_lem w,
        variables_fits y,
        end_on a,
        end_on b,
        end_on c,
        end_within c,
      )
