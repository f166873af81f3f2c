-- THE WHOLE: what is sent of a definition that the grammar derives is the clean text of its survey.
use Rattle.std.specs.Prelude.{◌≡◌, Bool, cond, ℕ, ◌+◌, ◌≤◌, ◌<◌, length, Ok}
use Rattle.std.proofs.Math.Path.{refl, sym, ap}
use Rattle.std.proofs.Common.{◌∙◌}
use Rattle.std.proofs.Math.Bool.{true, false}
use mathlib.Core.List.{List, [], ◌∷◌, ◌++◌, append_assoc, append-nil}
use Rattle.std.proofs.Math.Option.{Option}
use native.Mathlib.Omega.{arith}
use Rattle.scan.specs.Text.{step_of}
use Rattle.scan.specs.Word.{capitals}
use Rattle.token_laws.specs.Opening.{one_one, sss, version, opening_exactly}
use Rattle.statements.specs.rule.Words.{NOTE, SSS, VERSION, ONE-ONE, DATE, TIME, ORIGIN, USER, SURVEY, TITLE, RECORD, END}
use Rattle.survey.specs.rule.Survey.{KeptText, Variable, Survey}
use Rattle.survey.specs.rule.Width.{some_of}
use Rattle.reading.specs.rule.Whole.{HeadingEntry, given, heading}
use Rattle.reading.specs.rule.Whole as reading
use Rattle.grammar.specs.Token.{Here, Notes, Statement, String, Letter}
use Rattle.grammar.specs.Token as token
use Rattle.grammar.specs.Grammar.{Opening, Items, Title, Definition}
use Rattle.grammar.specs.Grammar as says
use Rattle.grammar_laws.specs.Places.{differ, other_word}
use Rattle.grammar_laws.specs.Notes.{note_capitals}
use Rattle.grammar_laws.specs.Tokens.{run_there}
use Rattle.clean_text.specs.rule.Span.{span_of}
use Rattle.clean_text.specs.rule.Clean.{Token, line_of, clean_text, perhaps, standard_line, head_lines, each_variable, clean_lines}
use Rattle.clean_text.specs.rule.Clean.{clean_of}
use Rattle.clean_text.specs.rule.Clean.{quoted_token}
use Rattle.steps.specs.declared.Found.{Found}
use Rattle.steps.specs.Step.{place_in, string_span, statement_found, statement_past}
use Rattle.steps.specs.Law.{gap_past_lem, statement_past_lem, statement_found_lem, statement_missed, string_past}
use Rattle.pages.specs.Page.{Page, framed, variables_page}
use Rattle.page_laws.specs.Tokens.{string_end}
use Rattle.page_laws.specs.Values.{text_append}
use Rattle.page_laws.specs.Variables.{AllFine, variables_page_lem}
use Rattle.fronts.specs.declared.Letter as books
use Rattle.fronts.specs.Front.{item_found, letter_in, letter_at, opening_past, items_of, front_at, perhaps_text, standard_text}
use Rattle.fronts.specs.Front.{opened}
use Rattle.fronts.specs.Front.{head_text, tail_text, closed, whole_text}
use Rattle.front_laws.specs.Items.{Tells, nothing, a_text, items_end, items_standard, items_text}

-- lists one behind the other
flat : (a b c e f g m r : List ℕ) → ((((((a ++ b) ++ c) ++ e) ++ f) ++ g) ++ m) ++ r ≡ (a ++ (b ++ (c ++ (e ++ (f ++ g))))) ++ (m ++ r)
flat a b c e f g m r =
    append_assoc (((((a ++ b) ++ c) ++ e) ++ f) ++ g) m r
    ∙ ap (λ (x : List ℕ). x ++ (m ++ r))
    (append_assoc (((a ++ b) ++ c) ++ e) f g ∙ append_assoc ((a ++ b) ++ c) e (f ++ g) ∙ append_assoc (a ++ b) c (e ++ (f ++ g))
    ∙ append_assoc a b (c ++ (e ++ (f ++ g))))

module _ (d : List ℕ) where
  -- ---- the opening
  pub opening_past_lem : {m : ℕ} → Opening d m → opening_past d ≡ m
  unfolding opening_past place_in
  opening_past_lem {m} (says.opening h s w r x) =
      let c = run_there x in
      rw ((opening_exactly d (Ok m)).1 (rw c.0 at (one_one (version (sss h) s w) r c.1)))

  -- ---- lines that may be absent
  quoted_words : (w t : List ℕ) → (w ++ 32 ∷ 34 ∷ []) ++ (t ++ (34 ∷ 13 ∷ 10 ∷ [])) ≡ line_of (w ∷ (34 ∷ t ++ 34 ∷ []) ∷ [])
  unfolding line_of
  quoted_words w t =
      append_assoc w (32 ∷ 34 ∷ []) (t ++ (34 ∷ 13 ∷ 10 ∷ []))
      ∙ ap (λ (l : List ℕ). w ++ (32 ∷ 34 ∷ l)) (sym (append_assoc t (34 ∷ []) (13 ∷ 10 ∷ [])))

  perhaps_text_lem : (w : List ℕ) {f : Found} {o : Option KeptText} → Tells d f o → perhaps_text d f (w ++ 32 ∷ 34 ∷ [])
      ≡ clean_text (perhaps d w o)
  unfolding perhaps_text framed clean_text
  perhaps_text_lem w (nothing e) = rw e
  perhaps_text_lem w (a_text {t = t} e s) =
      rw (e, s.from, s.end) (quoted_words w (span_of d t.place (t.place + t.length))
      ∙ sym (append-nil (line_of (w ∷ quoted_token d t ∷ []))))

  standard_text_lem : (f : Found) (q : Bool) → f.there ≡ q → standard_text f ≡ clean_text (standard_line d q)
  unfolding standard_text clean_text line_of
  standard_text_lem f true e = rw e
  standard_text_lem f false e = rw e

  -- ---- TITLE, RECORD and its letter
  title_tells : {c e f : ℕ} {t : Option KeptText} → Title d c t e → Statement d RECORD e f → Tells d (statement_found d c TITLE) t
  unfolding capitals differ
  title_tells (says.title {t = t} (token.phrase s x)) r =
      rw (statement_found_lem d {w = TITLE} refl refl s)
      (a_text {t = t} refl (record { from = rw (string_past d x); end = rw (string_past d x) (string_end d x) }))
  title_tells says.untitled (token.statement z h) =
      rw (statement_missed d {w = TITLE} refl z (other_word d {w = RECORD} {v = NOTE} refl note_capitals refl h)
      (other_word d {w = RECORD} {v = TITLE} refl refl refl h)) (nothing refl)

  title_past : {c e f : ℕ} {t : Option KeptText} → Title d c t e → Statement d RECORD e f
      → cond (statement_found d c TITLE).there (string_span d (statement_found d c TITLE).next).next c ≡ e
  unfolding capitals differ
  title_past (says.title (token.phrase s x)) r = rw (statement_found_lem d {w = TITLE} refl refl s, string_past d x)
  title_past says.untitled (token.statement z h) =
      rw (statement_missed d {w = TITLE} refl z (other_word d {w = RECORD} {v = NOTE} refl note_capitals refl h)
      (other_word d {w = RECORD} {v = TITLE} refl refl refl h))

  letter_past : {n b m : ℕ} → Letter d n b m → letter_at d n ≡ record { byte = b; next = m }
  unfolding letter_at letter_in step_of
  letter_past (token.letter g e c) = rw (gap_past_lem d g, e)

  -- ---- where all of it stands
  module _ {a b c e f g : ℕ} {l : List HeadingEntry} {t : Option KeptText} {x : ℕ} (o : Opening d a) (i : Items d [] a l b)
      (v : Statement d SURVEY b c) (u : Title d c t e)
      (r : Statement d RECORD e f) (w : Letter d f x g) where
    none_given : reading.given 0 [] ≡ false
    unfolding given some_of
    none_given = refl

    items_next : (items_of d a).next ≡ b
    unfolding items_of given some_of
    items_next = items_end d 6 i v (omega arith)

    survey_past : statement_past d b SURVEY ≡ c
    unfolding capitals differ
    survey_past = statement_past_lem d {w = SURVEY} refl refl v

    record_past : statement_past d e RECORD ≡ f
    unfolding capitals differ
    record_past = statement_past_lem d {w = RECORD} refl refl r

    front_items : (front_at d).items ≡ items_of d a
    unfolding front_at
    front_items = rw (opening_past_lem o)

    front_title : (front_at d).title ≡ statement_found d c TITLE
    unfolding front_at
    front_title = rw (opening_past_lem o) (rw items_next (rw survey_past refl))

    letter_is : letter_at d (statement_past d (cond (statement_found d c TITLE).there (string_span d (statement_found d c TITLE).next).next
        c)
        RECORD) ≡ record { byte = x; next = g }
    letter_is = rw (title_past u r) (rw record_past (letter_past w))

    front_letter : (front_at d).letter ≡ x
    unfolding front_at
    front_letter = rw (opening_past_lem o) (rw items_next (rw survey_past (ap (λ (q : books.Letter). q.byte) letter_is)))

    front_next : (front_at d).next ≡ g
    unfolding front_at
    front_next = rw (opening_past_lem o) (rw items_next (rw survey_past (ap (λ (q : books.Letter). q.next) letter_is)))

    abbrev heads : List ℕ
    heads =
        opened
        ++ (clean_text (perhaps d DATE (reading.entered_text 0 l))
        ++ (clean_text (perhaps d TIME (reading.entered_text 1 l))
        ++ (clean_text (perhaps d ORIGIN (reading.entered_text 2 l))
        ++ (clean_text (perhaps d USER (reading.entered_text 3 l))
        ++ clean_text (standard_line d (given 4 l))))))

    head_text_lem : head_text d (items_of d a) ≡ heads
    unfolding head_text items_of given some_of
    head_text_lem =
        let few : 5 < 6 = omega arith in
        rw (
          perhaps_text_lem DATE (items_text d 6 0 (omega arith) i v few refl),
          perhaps_text_lem TIME (items_text d 6 1 (omega arith) i v few refl),
          perhaps_text_lem ORIGIN (items_text d 6 2 (omega arith) i v few refl),
          perhaps_text_lem USER (items_text d 6 3 (omega arith) i v few refl),
          standard_text_lem (item_found 6 d a 4) (given 4 l) (items_standard d 6 i v few refl),
        ) refl

    abbrev tails : List ℕ
    tails = (SURVEY ++ 13 ∷ 10 ∷ []) ++ (clean_text (perhaps d TITLE t) ++ ((RECORD ++ 32 ∷ []) ++ ((x ∷ []) ++ (13 ∷ 10 ∷ []))))

    tail_text_lem : tail_text d (statement_found d c TITLE) x ≡ tails
    unfolding tail_text
    tail_text_lem = rw (perhaps_text_lem TITLE (title_tells u r)) refl

    head_lines_lem : clean_text (head_lines d (heading l t x)) ≡ heads ++ tails
    unfolding head_lines clean_text line_of
    head_lines_lem = whole
      where
        p0 : List (List Token)
        p0 = (SSS ∷ []) ∷ (VERSION ∷ ONE-ONE ∷ []) ∷ perhaps d DATE (reading.entered_text 0 l)

        p1 : List (List Token)
        p1 = perhaps d TIME (reading.entered_text 1 l)

        p2 : List (List Token)
        p2 = perhaps d ORIGIN (reading.entered_text 2 l)

        p3 : List (List Token)
        p3 = perhaps d USER (reading.entered_text 3 l)

        p4 : List (List Token)
        p4 = standard_line d (given 4 l)

        p5 : List (List Token)
        p5 = (SURVEY ∷ []) ∷ perhaps d TITLE t

        p6 : List (List Token)
        p6 = (RECORD ∷ (x ∷ []) ∷ []) ∷ []

        whole : clean_text ((((((p0 ++ p1) ++ p2) ++ p3) ++ p4) ++ p5) ++ p6) ≡ heads ++ tails
        whole =
            text_append (((((p0 ++ p1) ++ p2) ++ p3) ++ p4) ++ p5) p6
            ∙ ap (λ (s : List ℕ). s ++ clean_text p6)
            (text_append ((((p0 ++ p1) ++ p2) ++ p3) ++ p4) p5
            ∙ ap (λ (s : List ℕ). s ++ clean_text p5)
            (text_append (((p0 ++ p1) ++ p2) ++ p3) p4
            ∙ ap (λ (s : List ℕ). s ++ clean_text p4)
            (text_append ((p0 ++ p1) ++ p2) p3
            ∙ ap (λ (s : List ℕ). s ++ clean_text p3)
            (text_append (p0 ++ p1) p2 ∙ ap (λ (s : List ℕ). s ++ clean_text p2) (text_append p0 p1)))))
            ∙ flat opened (clean_text (perhaps d DATE (reading.entered_text 0 l))) (clean_text p1) (clean_text p2) (clean_text p3)
            (clean_text p4)
            (clean_text p5)
            (clean_text p6)

    clean_text_lem : (v : List Variable) → clean_of d (record { heading = heading l t x; variables = v }) ≡ heads
        ++ (tails ++ (clean_text (each_variable d v) ++ closed))
    unfolding clean_of clean_lines clean_text line_of
    clean_text_lem v = whole
      where
        h : List (List Token)
        h = head_lines d (heading l t x)

        e' : List (List Token)
        e' = each_variable d v

        z : List (List Token)
        z = (END ∷ RECORD ∷ []) ∷ (END ∷ SURVEY ∷ []) ∷ (END ∷ SSS ∷ []) ∷ []

        whole : clean_text ((h ++ e') ++ z) ≡ heads ++ (tails ++ (clean_text e' ++ closed))
        whole =
            text_append (h ++ e') z
            ∙ ap (λ (s : List ℕ). s ++ closed) (text_append h e' ∙ ap (λ (s : List ℕ). s ++ clean_text e') head_lines_lem)
            ∙ append_assoc (heads ++ tails) (clean_text e') closed
            ∙ append_assoc heads tails (clean_text e' ++ closed)

    whole_front : (v : List Variable) → (variables_page 512 d g).text ≡ clean_text (each_variable d v) → whole_text d ≡ heads
        ++ (tails ++ (clean_text (each_variable d v) ++ closed))
    unfolding whole_text
    whole_front v q = rw (front_items, front_title, front_letter, front_next) (rw (head_text_lem, tail_text_lem, q) refl)

  -- THE WHOLE
  pub whole_is : {s : Survey} {m : ℕ} → Definition d s m → AllFine d s.variables → length s.variables ≤ 512 → whole_text d
      ≡ clean_of d s
  whole_is (says.definition {v = vs} o i v u r w x (token.end y e) a b) fine few =
      whole_front o i v u r w vs (ap (λ (q : Page). q.text) (variables_page_lem d 512 x y fine few)) ∙ sym (clean_text_lem o i v u r w vs)
