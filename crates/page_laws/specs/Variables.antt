-- A variable from VARIABLE to END VARIABLE, and all of them.
use Rattle.std.specs.Prelude.{◌≡◌, Bool, true, false, cond, eqb, ltb, length}
use Rattle.std.proofs.Math.Path.{refl, sym, ap}
use Rattle.std.proofs.Common.{◌∙◌, le_of_suc-le-suc, not-suc-le-zero, arith}
use mathlib.Core.List.{List, [], ◌∷◌, ◌++◌, append_assoc, append-nil}
use Rattle.std.proofs.Math.Option.{Option, none, some, get_or}
use Prim.Native.Nat.{ℕ, zero, suc, ◌+◌, ◌-◌, ◌/◌, ◌≤◌, ◌<◌}
use borrow.Author.Tests.{ne_eqb, le-ltb}
use Rattle.scan.specs.Word.{capitals}
use Rattle.scan.specs.Number.{capped}
use Rattle.statements.specs.rule.Words.{NOTE, VARIABLE, NAME, LABEL, TYPE, SPREAD, OF, SIZE, VALUES, END, POSITION, TO}
use Rattle.survey.specs.rule.Survey.{Figure, KeptText, Spread, Block, Content, single, multiple, quantity, character, logical, Variable}
use Rattle.survey.specs.rule.Width.{block_in}
use Rattle.survey.specs.rule.Table.{lines_of, lines_all}
use Rattle.reading.specs.rule.Variable.{Sort, Single, Multiple, Quantity, Character, Logical}
use Rattle.grammar.specs.Token.{Gap, NoWord, Here, Keyword, keyword, Number, Notes, Statement, End, Optional}
use Rattle.grammar.specs.Token as token
use Rattle.grammar.specs.Grammar.{type_word}
use Rattle.grammar.specs.Grammar as says
use Rattle.grammar_laws.specs.Places.{differ, other_word}
use Rattle.grammar_laws.specs.Notes.{note_capitals}
use Rattle.clean_text.specs.rule.Span.{span_of}
use Rattle.clean_text.specs.rule.Clean.{Token, line_of, clean_text, figure_token, quoted_token, plain_digits, positions, spread_line}
use Rattle.clean_text.specs.rule.Clean.{content_lines}
use Rattle.clean_text.specs.rule.Clean.{variable_lines, each_variable}
use Rattle.clean_text.specs.rule.Clean as clean
use Rattle.steps.specs.Step.{span, number_span, statement_found}
use Rattle.steps.specs.Law.{statement_past_lem, statement_found_lem, statement_missed, number_past, given_past, absent_past}
use Rattle.pages.specs.Page.{Page, page, before, then, framed, number_page, room_of, even_of, spread_at, spread_text, rest_page}
use Rattle.pages.specs.Page.{values_page}
use Rattle.pages.specs.Page.{titles_page, body_page, variable_page, variables_page}
use Rattle.page_laws.specs.Tokens.{number_page_lem, phrase_page_lem, end_page_lem, kind_of, type_page, type_text_lem, Placed, position_page}
use Rattle.page_laws.specs.Values.{text_append, values_page_lem}

-- what the writer asks of a variable that was read: its places are few, and so are its lines; a spread has parts
pub record Fine (v : Variable) : Type 0 where
  pub finish : (get_or v.finish v.start).value ≤ 16384
  pub start : v.start.value ≤ (get_or v.finish v.start).value
  pub lines : length (lines_of v) ≤ 4096
  pub parts : (s : Spread) (b : Block) → v.content ≡ multiple (some s) b → s.width ≡ none → (1 ≤ s.count.value)
      × (s.count.value ≤ 16384)

capped_is : (v : ℕ) → v ≤ 1000000000000000 → capped v ≡ v
capped_is v h = rw (le-ltb 1000000000000000 v h)

room_is : (a b : ℕ) → b ≤ 16384 → a ≤ b → room_of (capped a) (capped b) ≡ b + 1 - a
unfolding room_of
room_is a b h g =
    let e : b - a + 1 ≡ b + 1 - a = omega arith in
    rw (capped_is a (omega arith), capped_is b (omega arith), le-ltb 16384 b h, le-ltb b a g) e

module _ (d : List ℕ) where
  -- ---- SPREAD
  spread_words : (x w : List ℕ) → ((SPREAD ++ (32 ∷ [])) ++ (x ++ (32 ∷ OF ++ 32 ∷ []))) ++ (w ++ (13 ∷ 10 ∷ []))
      ≡ line_of (SPREAD ∷ x ∷ OF ∷ w ∷ [])
  unfolding line_of
  spread_words x w = ap (λ (l : List ℕ). SPREAD ++ (32 ∷ l)) (append_assoc x (32 ∷ OF ++ 32 ∷ []) (w ++ (13 ∷ 10 ∷ [])))

  one_line : (l : List Token) → clean_text (l ∷ []) ≡ line_of l
  unfolding clean_text
  one_line l = append-nil (line_of l)

  pub record Spreads (n room : ℕ) (s : Option Spread) (m : ℕ) : Type 0 where
    pub line : spread_text d room (spread_at d n) ≡ clean_text (spread_line d room s)
    pub stands : (spread_at d n).next ≡ m

  spread_of : {n k j i m : ℕ} {x w : Figure} (room : ℕ) → Statement d SPREAD n k → Number d k x j → Keyword d OF j i → Number d i w m
      → Spreads n room (some (record { count = x; width = some w })) m
  unfolding spread_at spread_text framed capitals differ
  spread_of {x = x} {w = w} room s y o z =
      let a = statement_found_lem d {w = SPREAD} refl refl s in
      let b = number_past d y in
      let c = given_past d {w = OF} refl o in
      let e = number_past d z in
      record {
        line = rw (a, b, c, e) (spread_words (figure_token d x) (figure_token d w)
            ∙ sym (one_line (SPREAD ∷ figure_token d x ∷ OF ∷ figure_token d w ∷ [])));
        stands = rw (a, b, c, e);
      }

  spread_even : {n k j m : ℕ} {x : Figure} (room : ℕ) → 1 ≤ x.value → x.value ≤ 16384 → Statement d SPREAD n k → Number d k x j
      → Gap d j m → NoWord d OF m
      → Spreads n room (some (record { count = x; width = none })) m
  unfolding spread_at spread_text framed even_of capitals differ
  spread_even {x = x} room l h s y g o =
      let a = statement_found_lem d {w = SPREAD} refl refl s in
      let b = number_past d y in
      let c = absent_past d {w = OF} refl g o in
      let e = capped_is x.value (omega arith) in
      let f = ne_eqb x.value 0 (λ q. omega arith) in
      record {
        line = rw (a, b, c, e, f) (spread_words (figure_token d x) (plain_digits (room / x.value))
            ∙ sym (one_line (SPREAD ∷ figure_token d x ∷ OF ∷ plain_digits (room / x.value) ∷ [])));
        stands = rw (a, b, c);
      }

  spread_none : {n k : ℕ} (room : ℕ) → Statement d VALUES n k → Spreads n room none n
  unfolding spread_at spread_text clean_text capitals differ
  spread_none room (token.statement r h) =
      let a = statement_missed d {w = SPREAD} refl r (other_word d {w = VALUES} {v = NOTE} refl note_capitals refl h)
      (other_word d {w = VALUES} {v = SPREAD} refl refl refl h) in
      record { line = rw a; stands = rw a }

  -- ---- what a type has behind its position
  values_start : {n m : ℕ} {b : Block} {A : Type 0} → says.Values d n b m → ((k : ℕ) → Statement d VALUES n k → A) → A
  values_start (says.listed {k = k} s x) f = f k s
  values_start (says.ranged {k = k} s b w e) f = f k s
  values_start (says.both {k = k} s b w x) f = f k s

  pub rest_page_lem : {t : Sort} {n m : ℕ} {c : Content} (room : ℕ) → says.Rest d t n c m → length (block_in c).lines ≤ 4096
      → ((s : Spread) (b : Block) → c ≡ multiple (some s) b → s.width ≡ none → (1 ≤ s.count.value) × (s.count.value ≤ 16384))
      → rest_page d n (kind_of d t) room ≡ page (clean_text (content_lines d room c)) m
  unfolding rest_page clean_text capitals differ
  rest_page_lem room (says.single x) h p = values_page_lem d x h
  rest_page_lem room (says.quantity x) h p = values_page_lem d x h
  rest_page_lem {m = m} room (says.character {x = x} s y) h p = rw (number_page_lem d {w = SIZE} refl refl s y)
      (ap (λ (l : List ℕ). page l m) (sym (one_line (SIZE ∷ figure_token d x ∷ []))))
  rest_page_lem room says.logical h p = refl
  rest_page_lem {m = m} room (says.multiple {b = b} (says.spread {x = x} s y (token.given {a = w} o z)) v) h p =
      let q = spread_of room s y o z in
      rw (q.line, q.stands, values_page_lem d v h) (ap (λ (l : List ℕ). page l m)
      (sym (text_append (spread_line d room (some (record { count = x; width = some w }))) (clean.values_lines d b))))
  rest_page_lem {m = m} room (says.multiple {b = b} (says.spread {x = x} s y (token.absent g o)) v) h p =
      let l = p _ b refl refl in
      let q = spread_even room l.0 l.1 s y g o in
      rw (q.line, q.stands, values_page_lem d v h) (ap (λ (l : List ℕ). page l m)
      (sym (text_append (spread_line d room (some (record { count = x; width = none }))) (clean.values_lines d b))))
  rest_page_lem room (says.multiple says.undivided v) h p =
      let q = values_start v (λ k s. spread_none room s) in
      rw (q.line, q.stands, values_page_lem d v h)

  -- ---- a variable
  titles_page_lem : {n a b c m : ℕ} {x : Figure} {name label : KeptText} → Statement d VARIABLE n a → Number d a x b
      → token.Phrase d NAME b name c
      → token.Phrase d LABEL c label m
      → titles_page d n ≡ page (line_of (VARIABLE ∷ figure_token d x ∷ [])
      ++ (line_of (NAME ∷ quoted_token d name ∷ []) ++ line_of (LABEL ∷ quoted_token d label ∷ []))) m
  unfolding titles_page capitals differ
  titles_page_lem s y p q = rw (
    number_page_lem d {w = VARIABLE} refl refl s y,
    phrase_page_lem d {w = NAME} refl refl p,
    phrase_page_lem d {w = LABEL} refl refl q,
  )

  type_same : {t : Sort} {n m : ℕ} {c : Content} → says.Rest d t n c m → type_word t ≡ clean.type_word d c
  type_same (says.single x) = refl
  type_same (says.multiple s x) = refl
  type_same (says.quantity x) = refl
  type_same (says.character s y) = refl
  type_same says.logical = refl

  abbrev end_line : List ℕ
  end_line = END ++ 32 ∷ VARIABLE ++ 13 ∷ 10 ∷ []

  body_page_lem : {e f g h i m : ℕ} {s : Figure} {o : Option Figure} {t : Sort} {r : Content} → (get_or o s).value ≤ 16384 → s.value
      ≤ (get_or o s).value
      → length (block_in r).lines ≤ 4096
      → ((s : Spread) (b : Block) → r ≡ multiple (some s) b → s.width ≡ none → (1 ≤ s.count.value) × (s.count.value ≤ 16384))
      → Statement d TYPE e f → Keyword d (type_word t) f g → says.Position d g s o h → says.Rest d t h r i → End d VARIABLE i m
      → body_page d e
      ≡ page (line_of (TYPE ∷ clean.type_word d r ∷ [])
      ++ (line_of (POSITION ∷ figure_token d s ∷ TO ∷ figure_token d (get_or o s) ∷ [])
      ++ (clean_text (content_lines d ((get_or o s).value + 1 - s.value) r) ++ end_line))) m
  unfolding body_page capitals
  body_page_lem {m = m} {s = s} {o = o} {t = t} {r = r} high low few parts x y p q e =
      let P = position_page d p in
      rw (type_page d t x y, P.line, P.start, P.finish, P.stands)
      (rw (
        room_is s.value (get_or o s).value high low,
        rest_page_lem ((get_or o s).value + 1 - s.value) q few parts,
        end_page_lem d {w = VARIABLE} end_line refl e,
      )
      (rw (type_text_lem d t, type_same q) refl))

  variable_text : (v : Variable)
      → clean_text (variable_lines d v)
      ≡ (line_of (VARIABLE ∷ figure_token d v.ident ∷ [])
      ++ (line_of (NAME ∷ quoted_token d v.name ∷ []) ++ line_of (LABEL ∷ quoted_token d v.label ∷ [])))
      ++ (line_of (TYPE ∷ clean.type_word d v.content ∷ [])
      ++ (line_of (POSITION ∷ figure_token d v.start ∷ TO ∷ figure_token d (get_or v.finish v.start) ∷ [])
      ++ (clean_text (content_lines d (positions d v) v.content) ++ end_line)))
  unfolding variable_lines clean_text line_of
  variable_text v = whole
    where
      a : List Token
      a = VARIABLE ∷ figure_token d v.ident ∷ []

      b : List Token
      b = NAME ∷ quoted_token d v.name ∷ []

      c : List Token
      c = LABEL ∷ quoted_token d v.label ∷ []

      e : List Token
      e = TYPE ∷ clean.type_word d v.content ∷ []

      f : List Token
      f = POSITION ∷ figure_token d v.start ∷ TO ∷ figure_token d (get_or v.finish v.start) ∷ []

      l : List (List Token)
      l = content_lines d (positions d v) v.content

      last : List (List Token)
      last = (END ∷ VARIABLE ∷ []) ∷ []

      whole : clean_text ((a ∷ b ∷ c ∷ e ∷ f ∷ l) ++ last) ≡ (line_of a ++ (line_of b ++ line_of c))
          ++ (line_of e ++ (line_of f ++ (clean_text l ++ line_of (END ∷ VARIABLE ∷ []))))
      whole =
          ap (λ (s : List ℕ). line_of a ++ (line_of b ++ (line_of c ++ (line_of e ++ (line_of f ++ s)))))
          (text_append l last ∙ ap (λ (s : List ℕ). clean_text l ++ s) (one_line (END ∷ VARIABLE ∷ [])))
          ∙ sym (append_assoc (line_of a) (line_of b ++ line_of c)
          (line_of e ++ (line_of f ++ (clean_text l ++ line_of (END ∷ VARIABLE ∷ []))))
          ∙ ap (λ (s : List ℕ). line_of a ++ s) (append_assoc (line_of b) (line_of c)
          (line_of e ++ (line_of f ++ (clean_text l ++ line_of (END ∷ VARIABLE ∷ []))))))

  pub variable_page_lem : {n m : ℕ} {v : Variable} → says.Variable d n v m → Fine v → variable_page d n
      ≡ page (clean_text (variable_lines d v)) m
  unfolding variable_page line_of
  variable_page_lem {m = m} {v = v} (says.variable s x n l t k p r e) fine =
      rw (titles_page_lem s x n l, body_page_lem fine.finish fine.start fine.lines fine.parts t k p r e)
      (ap (λ (q : List ℕ). page q m) (sym (variable_text v)))

  -- ---- all of them: another VARIABLE is no END
  missed : {n k m : ℕ} → Notes d n k → Here d VARIABLE k m → (statement_found d n END).there ≡ false
  unfolding capitals differ
  missed z h = rw (statement_missed d {w = END} refl z (other_word d {w = VARIABLE} {v = NOTE} refl note_capitals refl h)
      (other_word d {w = VARIABLE} {v = END} refl refl refl h))

  next_found : {n m : ℕ} {l : List Variable} → says.Variables d n l m → (statement_found d n END).there ≡ false
  next_found (says.one v) = by v where
    by : {n m : ℕ} {v : Variable} → says.Variable d n v m → (statement_found d n END).there ≡ false
    by (says.variable (token.statement z h) x n l t k p r e) = missed z h
  next_found (says.more v y) = by v where
    by : {n m : ℕ} {v : Variable} → says.Variable d n v m → (statement_found d n END).there ≡ false
    by (says.variable (token.statement z h) x n l t k p r e) = missed z h

  pub data AllFine : List Variable → Type 0 where
    no_more : AllFine []
    and_more : {v : Variable} {l : List Variable} → Fine v → AllFine l → AllFine (v ∷ l)

  pub variables_page_lem : (k : ℕ) {n m i : ℕ} {l : List Variable} → says.Variables d n l m → Statement d END m i → AllFine l → length l ≤ k
      → variables_page k d n ≡ page (clean_text (each_variable d l)) m
  unfolding variables_page each_variable clean_text capitals differ
  variables_page_lem zero (says.one x) e f h = absurd (not-suc-le-zero h)
  variables_page_lem zero (says.more x y) e f h = absurd (not-suc-le-zero h)
  variables_page_lem (suc k) {m = m} (says.one {v = v} x) e (and_more f g) h =
      rw (variable_page_lem x f, statement_found_lem d {w = END} refl refl e)
      (ap (λ (s : List ℕ). page s m) (sym (text_append (variable_lines d v) [])))
  variables_page_lem (suc k) {m = m} (says.more {v = v} {l = l} x y) e (and_more f g) h =
      rw (variable_page_lem x f, next_found y, variables_page_lem k y e g (le_of_suc-le-suc h))
      (ap (λ (s : List ℕ). page s m) (sym (text_append (variable_lines d v) (each_variable d l))))
