-- Where the grammar derives a statement, its page is its clean line, and reading stands behind it.
use Rattle.std.specs.Prelude.{◌≡◌, Bool, true, false, cond, ℕ, ◌+◌, ◌-◌, ◌≤◌, ◌<◌}
use Rattle.std.proofs.Math.Path.{refl, ap}
use Rattle.std.proofs.Common.{sym, ◌∙◌, arith}
use mathlib.Core.List.{List, [], ◌∷◌, ◌++◌, append_assoc}
use Rattle.std.proofs.Math.Option.{Option, none, some, get_or}
use Rattle.scan.specs.rule.Text.{text}
use Rattle.scan.specs.Number.{capped}
use Rattle.scan.specs.Word.{capitals}
use Rattle.scan.proofs.Texts.{from_text}
use Rattle.marks.specs.declared.Inside.TheVariants.{Plain}
use Rattle.marks.proofs.Levels.{ahead, string_ahead}
use Rattle.marks.proofs.Complete.{string_complete}
use Rattle.statements.specs.rule.Words.{NOTE, TYPE, SINGLE, MULTIPLE, QUANTITY, CHARACTER, LOGICAL, POSITION, TO, END}
use Rattle.survey.specs.rule.Survey.{Figure, KeptText}
use Rattle.reading.specs.rule.Variable.{Sort, Single, Multiple, Quantity, Character, Logical}
use Rattle.grammar.specs.Token.{Gap, NoWord, Here, Keyword, keyword, Number, String, Statement, Phrase, End, Optional}
use Rattle.grammar.specs.Token as token
use Rattle.grammar.specs.Grammar.{type_word, Position, position}
use Rattle.grammar_laws.specs.Places.{differ, other_word}
use Rattle.grammar_laws.specs.Views.{word_at_lem, word_not}
use Rattle.clean_text.specs.rule.Span.{span_of}
use Rattle.clean_text.specs.rule.Clean.{line_of, figure_token, quoted_token}
use Rattle.steps.specs.declared.Span.{Span}
use Rattle.steps.specs.Step.{span, number_span, word_found, statement_past}
use Rattle.steps.specs.Law.{statement_past_lem, keyword_past_lem, number_past, string_past, given_past, absent_past}
use Rattle.pages.specs.Page.{page, places, framed, number_page, phrase_page, end_page, sort, type_at, type_text, position_at, position_text}

module _ (d : List ℕ) where
  -- ---- a word and a number, a word and a string, END and a word
  -- a string's last byte stands before its closing quote
  pub string_end : {n m : ℕ} {t : KeptText} → String d n t m → m - 1 ≡ t.place + t.length
  string_end (token.string {p = p} {m = m} g e s) =
      let b = ahead (string_ahead d (from_text d (p + 1)) Plain) (string_complete s) in
      omega (arith, b)

  module _ {w : List ℕ} (c : capitals w ≡ true) (o : differ w NOTE ≡ true) where
    pub number_page_lem : {n k m : ℕ} {x : Figure} → Statement d w n k → Number d k x m
        → number_page d n w (w ++ 32 ∷ []) ≡ page (line_of (w ∷ figure_token d x ∷ [])) m
    unfolding number_page framed line_of
    number_page_lem {m = m} {x = x} s y =
        rw (statement_past_lem d c o s, number_past d y)
        (ap (λ (l : List ℕ). page l m) (append_assoc w (32 ∷ []) (figure_token d x ++ 13 ∷ 10 ∷ [])))

    pub phrase_page_lem : {n m : ℕ} {t : KeptText} → Phrase d w n t m → phrase_page d n w (w ++ 32 ∷ 34 ∷ [])
        ≡ page (line_of (w ∷ quoted_token d t ∷ [])) m
    unfolding phrase_page framed line_of
    phrase_page_lem {m = m} {t = t} (token.phrase s y) =
        rw (statement_past_lem d c o s, string_past d y, string_end y)
        (ap (λ (l : List ℕ). page l m)
        (append_assoc w (32 ∷ 34 ∷ []) (span_of d t.place (t.place + t.length) ++ 34 ∷ 13 ∷ 10 ∷ [])
        ∙ ap (λ (l : List ℕ). w ++ (32 ∷ 34 ∷ l))
        (sym (append_assoc (span_of d t.place (t.place + t.length)) (34 ∷ []) (13 ∷ 10 ∷ [])))))

  end_not : differ END NOTE ≡ true
  unfolding differ
  end_not = refl

  pub end_page_lem : {w : List ℕ} {n m : ℕ} (line : List ℕ) → capitals w ≡ true → End d w n m → end_page d n w line ≡ page line m
  unfolding end_page capitals
  end_page_lem {w} line c (token.end s y) = rw (statement_past_lem d {w = END} refl end_not s, keyword_past_lem d c y)

  -- ---- TYPE
  abbrev pub kind_of : Sort → ℕ
  kind_of Single = 1
  kind_of Multiple = 2
  kind_of Quantity = 3
  kind_of Character = 4
  kind_of Logical = 5

  type_word_lem : {n k m : ℕ} (t : Sort) → Statement d TYPE n k → Keyword d (type_word t) k m → type_at d n ≡ sort (kind_of t) m
  unfolding type_at capitals differ
  type_word_lem Single s (keyword g h) = rw (statement_past_lem d {w = TYPE} refl refl s, given_past d {w = SINGLE} refl (keyword g h))
  type_word_lem Multiple s (keyword g h) =
      rw (
        statement_past_lem d {w = TYPE} refl refl s,
        absent_past d {w = SINGLE} refl g (other_word d {w = MULTIPLE} {v = SINGLE} refl refl refl h),
        given_past d {w = MULTIPLE} refl (keyword g h),
      )
  type_word_lem Quantity s (keyword g h) =
      rw (
        statement_past_lem d {w = TYPE} refl refl s,
        absent_past d {w = SINGLE} refl g (other_word d {w = QUANTITY} {v = SINGLE} refl refl refl h),
        absent_past d {w = MULTIPLE} refl g (other_word d {w = QUANTITY} {v = MULTIPLE} refl refl refl h),
        given_past d {w = QUANTITY} refl (keyword g h),
      )
  type_word_lem Character s (keyword g h) =
      rw (
        statement_past_lem d {w = TYPE} refl refl s,
        absent_past d {w = SINGLE} refl g (other_word d {w = CHARACTER} {v = SINGLE} refl refl refl h),
        absent_past d {w = MULTIPLE} refl g (other_word d {w = CHARACTER} {v = MULTIPLE} refl refl refl h),
        absent_past d {w = QUANTITY} refl g (other_word d {w = CHARACTER} {v = QUANTITY} refl refl refl h),
        given_past d {w = CHARACTER} refl (keyword g h),
      )
  type_word_lem Logical s (keyword g h) =
      rw (
        statement_past_lem d {w = TYPE} refl refl s,
        absent_past d {w = SINGLE} refl g (other_word d {w = LOGICAL} {v = SINGLE} refl refl refl h),
        absent_past d {w = MULTIPLE} refl g (other_word d {w = LOGICAL} {v = MULTIPLE} refl refl refl h),
        absent_past d {w = QUANTITY} refl g (other_word d {w = LOGICAL} {v = QUANTITY} refl refl refl h),
        absent_past d {w = CHARACTER} refl g (other_word d {w = LOGICAL} {v = CHARACTER} refl refl refl h),
        keyword_past_lem d {w = LOGICAL} refl (keyword g h),
      )

  pub type_page : {n k m : ℕ} (t : Sort) → Statement d TYPE n k → Keyword d (type_word t) k m → type_at d n ≡ sort (kind_of t) m
  type_page t s y = type_word_lem t s y

  pub type_text_lem : (t : Sort) → type_text (kind_of t) ≡ line_of (TYPE ∷ type_word t ∷ [])
  unfolding type_text line_of
  type_text_lem Single = refl
  type_text_lem Multiple = refl
  type_text_lem Quantity = refl
  type_text_lem Character = refl
  type_text_lem Logical = refl

  -- ---- POSITION
  pub record Placed (n : ℕ) (a b : Figure) (m : ℕ) : Type 0 where
    pub line : position_text d (position_at d n) ≡ line_of (POSITION ∷ figure_token d a ∷ TO ∷ figure_token d b ∷ [])
    pub stands : (position_at d n).next ≡ m
    pub start : (position_at d n).start.size ≡ capped a.value
    pub finish : (position_at d n).finish.size ≡ capped b.value

  two_numbers : (a b : List ℕ)
      → ((POSITION ++ (32 ∷ [])) ++ (a ++ (32 ∷ 84 ∷ 79 ∷ 32 ∷ []))) ++ ([] ++ (b ++ (13 ∷ 10 ∷ []))) ≡ line_of (POSITION ∷ a ∷ TO ∷ b ∷ [])
  unfolding line_of
  two_numbers a b = ap (λ (l : List ℕ). POSITION ++ (32 ∷ l)) (append_assoc a (32 ∷ 84 ∷ 79 ∷ 32 ∷ []) (b ++ (13 ∷ 10 ∷ [])))

  abbrev said : Figure → ℕ → Span
  said x m = span x.place x.end m (capped x.value)

  position_given : {n k j i m : ℕ} {a b : Figure} → Statement d POSITION n k → Number d k a j → Keyword d TO j i → Number d i b m
      → position_at d n ≡ places (said a j) (said b m) m
  unfolding position_at capitals differ
  position_given s y k z = rw (
    statement_past_lem d {w = POSITION} refl refl s,
    number_past d y,
    given_past d {w = TO} refl k,
    number_past d z,
  )

  position_absent : {n k j m : ℕ} {a : Figure} → Statement d POSITION n k → Number d k a j → Gap d j m → NoWord d TO m
      → position_at d n ≡ places (said a j) (said a j) m
  unfolding position_at capitals differ
  position_absent s y g h = rw (statement_past_lem d {w = POSITION} refl refl s, number_past d y, absent_past d {w = TO} refl g h)

  pub position_page : {n m : ℕ} {a : Figure} {b : Option Figure} → Position d n a b m → Placed n a (get_or b a) m
  unfolding position_text framed
  position_page (position {a = a} s y (token.given {a = b} k z)) =
      let e = position_given s y k z in
      record { line = rw e (two_numbers (figure_token d a) (figure_token d b)); stands = rw e; start = rw e; finish = rw e }
  position_page (position {a = a} s y (token.absent g h)) =
      let e = position_absent s y g h in
      record { line = rw e (two_numbers (figure_token d a) (figure_token d a)); stands = rw e; start = rw e; finish = rw e }
