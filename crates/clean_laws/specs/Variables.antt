-- PRINTED VARIABLES: its lines one after another, and variables one behind the other.
use Rattle.std.specs.Prelude.{◌≡◌, true, ℕ}
use Rattle.std.proofs.Math.Path.{refl, ap}
use mathlib.Core.List.{List, [], ◌∷◌, ◌++◌, append-nil}
use Rattle.std.proofs.Math.Option.{get_or}
use Rattle.ascii.specs.rule.Class.{class_of}
use Rattle.scan.specs.rule.Number.{is_digit}
use Rattle.statements.specs.rule.Words.{VARIABLE, NAME, LABEL, TYPE, POSITION, TO, END}
use Rattle.survey.specs.rule.Survey.{Figure, Block, Content, single, multiple, quantity, character, logical, Variable}
use Rattle.survey.specs.rule.Width.{room_in}
use Rattle.reading.specs.rule.Variable.{Sort, Single, Multiple, Quantity, Character, Logical}
use Rattle.clean_text.specs.rule.Clean.{figure_token, quoted_token, type_word, content_lines, spread_line, values_lines, variable_lines}
use Rattle.clean_text.specs.rule.Clean.{each_variable}
use Rattle.grammar.specs.Token.{Keyword}
use Rattle.grammar.specs.Grammar.{Rest, variable, Variables, one}
use Rattle.grammar.specs.Grammar as grammar
use Rattle.printed.specs.Left.{Left, Ends, Yields, yields, after, taking}
use Rattle.printed.specs.Words.{solid, keyword_there, statement_there, end_there}
use Rattle.printed.specs.Runs.{stops}
use Rattle.printed.specs.Lines.{All, ink_then, inks_then, inks_append}
use Rattle.printed.specs.Lines as printed
use Rattle.clean_laws.specs.Said.{ContentSaid, VariableSaid}
use Rattle.clean_laws.specs.Said as said
use Rattle.clean_laws.specs.Same.{Alike, nil, more, SameContent, SameVariable}
use Rattle.clean_laws.specs.Same as same
use Rattle.clean_laws.specs.Statements.{figure_there, phrase_there, positioned, position_printed, spread_printed}
use Rattle.clean_laws.specs.Statements.{SizeThere, size_there, size_printed}
use Rattle.clean_laws.specs.Values.{values_printed}

module _ (d p : List ℕ) where
  -- ---- by type: the word of TYPE, and the lines behind POSITION
  abbrev sort_of : Content → Sort
  sort_of (single b) = Single
  sort_of (multiple s b) = Multiple
  sort_of (quantity b) = Quantity
  sort_of (character x) = Character
  sort_of logical = Logical

  type_there : {room : ℕ} {c : Content} {n : ℕ} {u : List ℕ} → ContentSaid d room c → Left p n (32 ∷ type_word d c ++ u)
      → Ends p (Keyword p (grammar.type_word (sort_of c)) n) u
  unfolding solid
  type_there (said.of_single b) l = keyword_there p refl l
  type_there (said.of_multiple s b) l = keyword_there p refl l
  type_there (said.of_quantity b) l = keyword_there p refl l
  type_there (said.of_character x) l = keyword_there p refl l
  type_there said.of_logical l = keyword_there p refl l

  values_begin : (b : Block) (u : List ℕ) → stops is_digit (inks_then (values_lines d b) u) ≡ true
  unfolding values_lines inks_then ink_then stops is_digit class_of
  values_begin b u = refl

  rest_there : {room : ℕ} {c : Content} {n : ℕ} {u : List ℕ} → ContentSaid d room c → stops is_digit u ≡ true
      → Left p n (inks_then (content_lines d room c) u) → Yields p (Rest p (sort_of c) n) (SameContent d p room c) u
  unfolding inks_then ink_then
  rest_there (said.of_single b) h l = taking p (values_printed d p b l) λ a m z r l. yields (grammar.single z) (same.of_single r) l
  rest_there {room} {u = u} (said.of_multiple {s = o} {b = k} s b) h l =
      let e = inks_append (spread_line d room o) (values_lines d k) u in
      taking p (spread_printed d p s (values_begin k u) (rw e at l)) λ a j z r l.
      taking p (values_printed d p b l) λ c m y q l.
      yields (grammar.multiple z y) (same.of_multiple r q) l
  rest_there (said.of_quantity b) h l = taking p (values_printed d p b l) λ a m z r l. yields (grammar.quantity z) (same.of_quantity r) l
  rest_there (said.of_character x) h l = by (size_printed d p x h l) where
    by : {room n : ℕ} {x : Figure} {u : List ℕ} → SizeThere d p n x u
        → Yields p (Rest p Character n) (SameContent d p room (character x)) u
    by (size_there s z r l) = yields (grammar.character s z) (same.of_character r) l
  rest_there said.of_logical h l = yields grammar.logical same.of_logical l

  -- what begins behind POSITION is no digit
  rest_begins : {room : ℕ} {c : Content} (u : List ℕ) → ContentSaid d room c
      → stops is_digit (inks_then (content_lines d room c) (END ++ u)) ≡ true
  unfolding values_lines inks_then ink_then stops is_digit class_of
  rest_begins u (said.of_single b) = refl
  rest_begins u (said.of_multiple said.undivided b) = refl
  rest_begins u (said.of_multiple (said.stated x w) b) = refl
  rest_begins u (said.of_multiple (said.even x h) b) = refl
  rest_begins u (said.of_quantity b) = refl
  rest_begins u (said.of_character x) = refl
  rest_begins u said.of_logical = refl

  -- ---- a variable
  abbrev ending : List ℕ → List ℕ
  ending u = END ++ (32 ∷ VARIABLE ++ u)

  abbrev lead : Variable → List ℕ → List ℕ
  lead v u =
      VARIABLE ++ (32 ∷ figure_token d v.ident
      ++ (NAME ++ (32 ∷ quoted_token d v.name
      ++ (LABEL ++ (32 ∷ quoted_token d v.label
      ++ (TYPE ++ (32 ∷ type_word d v.content
      ++ (POSITION ++ (32 ∷ figure_token d v.start ++ (32 ∷ TO ++ (32 ∷ figure_token d (get_or v.finish v.start) ++ u)))))))))))

  variable_ink : (v : Variable) (u : List ℕ)
      → inks_then (variable_lines d v) u ≡ lead v (inks_then (content_lines d (room_in v) v.content) (ending u))
  unfolding variable_lines inks_then ink_then
  variable_ink v u = ap (lead v) (inks_append (content_lines d (room_in v) v.content) ((END ∷ VARIABLE ∷ []) ∷ []) u)

  pub variable_printed : {v : Variable} {n : ℕ} {u : List ℕ} → VariableSaid d v → Left p n (inks_then (variable_lines d v) u)
      → Yields p (grammar.Variable p n) (SameVariable d p v) u
  unfolding solid stops is_digit class_of
  variable_printed {v} {n} {u} s l =
      after p (statement_there p refl (rw (variable_ink v u) at l)) λ a x₁ l.
      taking p (figure_there d p s.ident refl l) λ i b x₂ r₂ l.
      taking p (phrase_there d p refl s.name l) λ name c x₃ r₃ l.
      taking p (phrase_there d p refl s.label l) λ label e x₄ r₄ l.
      after p (statement_there p refl l) λ f x₅ l.
      after p (type_there s.content l) λ g x₆ l.
      positioned d p (position_printed d p s.start s.finish (rest_begins _ s.content) l) λ start finish h x₇ r₇ q₇ l.
      taking p (rest_there s.content refl l) λ content k x₈ r₈ l.
      after p (end_there p refl l) λ m x₉ l.
      yields (variable x₁ x₂ x₃ x₄ x₅ x₆ x₇ x₈ x₉)
      (record { ident = r₂; name = r₃; label = r₄; start = r₇; finish = q₇; content = r₈ }) l

  -- ---- variables
  pub variables_printed : {v : Variable} {l : List Variable} {n : ℕ} {u : List ℕ} → All (VariableSaid d) (v ∷ l)
      → Left p n (inks_then (each_variable d (v ∷ l)) u) → Yields p (Variables p n) (Alike (SameVariable d p) (v ∷ l)) u
  unfolding each_variable
  variables_printed {v} {u = u} (printed.more s printed.nil) x =
      let e = append-nil (variable_lines d v) in
      taking p (variable_printed s (rw e at x)) λ w m z r x.
      yields (one z) (more r nil) x
  variables_printed {v} {u = u} (printed.more s (printed.more {a = w} {l = l} t q)) x =
      let e = inks_append (variable_lines d v) (each_variable d (w ∷ l)) u in
      taking p (variable_printed s (rw e at x)) λ a k z r x.
      taking p (variables_printed (printed.more t q) x) λ b m y o x.
      yields (grammar.Variables.more z y) (more r o) x
