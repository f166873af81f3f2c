-- ONE TEXT, ONE SURVEY: whatever is at fault in it, the grammar derives a text in one way, saying one survey up to one place.
use Rattle.std.specs.Prelude.{◌≡◌, Bool, true, List, [], ◌∷◌, ℕ}
use Rattle.std.proofs.Math.Path.{refl}
use Rattle.std.proofs.Common.{sym, ◌∙◌, arith}
use Rattle.std.proofs.Math.Option.{Option}
use Rattle.scan.specs.Word.{capitals}
use Rattle.statements.specs.rule.Words.{SSS, SURVEY, RECORD, VARIABLE, NAME, LABEL, POSITION, TO, SPREAD, OF, SIZE, VALUES, WITH, SPECIAL}
use Rattle.statements.specs.rule.Words.{END, NOTE}
use Rattle.survey.specs.rule.Survey.{Figure, Amount, KeptText, Range, Block, Content, Survey}
use Rattle.survey.specs.rule.Survey as says
use Rattle.reading.specs.rule.Result.{Is, Reader}
use Rattle.reading.specs.rule.Token.{number, amount, string, word, whether, optional}
use Rattle.reading.specs.rule.Statement.{notes, statement, phrase}
use Rattle.reading.specs.rule.Variable.{Sort, type}
use Rattle.reading.specs.rule.Whole.{front}
use Rattle.bridge.specs.Lowest.{never}
use Rattle.grammar.specs.Token.{Gap, Here, Keyword, keyword, Number, Value, String, Notes, Statement, Phrase, End, Optional, Whether}
use Rattle.grammar.specs.Token as token
use Rattle.grammar.specs.Grammar.{Line, Lines, Bounds, Values, Position, Spread, Rest, Variable, Variables, Definition, definition}
use Rattle.grammar.specs.Grammar as grammar
use Rattle.grammar.specs.Refusal.{Noted, noted}
use Rattle.grammar.specs.Refusal as refusal
use Rattle.grammar_laws.specs.Places.{gap_same, differ, other_word}
use Rattle.grammar_laws.specs.Tokens.{number_is, amount_is, string_is, word_is, whether_is, optional_is}
use Rattle.grammar_laws.specs.Notes.{note_capitals, notes_is, statement_is, phrase_is}
use Rattle.grammar_laws.specs.Lines.{value_no_word, quote_no_word}
use Rattle.grammar_laws.specs.Statements.{type_is}
use Rattle.grammar_laws.specs.Whole.{front_is}

-- a reader answers one thing at one place
pin : {A : Type 0} (p : Reader A) {n n' m k : ℕ} {a b : A} → n ≡ n' → p n ≡ Is a m → p n' ≡ Is b k → (a ≡ b) × (m ≡ k)
pin p {n} {n'} {m} {k} {a} {b} q e f =
    let g : p n ≡ Is b k = rw q f in
    let h = sym e ∙ g in
    (cc, cc)

module _ (d : List ℕ) where
  -- ---- tokens
  number_once : {n n' m k : ℕ} {x y : Figure} → n ≡ n' → Number d n x m → Number d n' y k → (x ≡ y) × (m ≡ k)
  number_once q x y = pin (number d) q (number_is d x) (number_is d y)

  value_once : {n n' m k : ℕ} {x y : Amount} → n ≡ n' → Value d n x m → Value d n' y k → (x ≡ y) × (m ≡ k)
  value_once q x y = pin (amount d) q (amount_is d x) (amount_is d y)

  string_once : {n n' m k : ℕ} {x y : KeptText} → n ≡ n' → String d n x m → String d n' y k → (x ≡ y) × (m ≡ k)
  string_once q x y = pin (string d) q (string_is d x) (string_is d y)

  noted_once : {n n' m k : ℕ} → n ≡ n' → Noted d n m → Noted d n' k → m ≡ k
  noted_once q x y = (pin (notes d) q (notes_is d x) (notes_is d y)).1

  module _ {w : List ℕ} (c : capitals w ≡ true) where
    keyword_once : {n n' m k : ℕ} → n ≡ n' → Keyword d w n m → Keyword d w n' k → m ≡ k
    keyword_once q x y = (pin (word d w) q (word_is d c x) (word_is d c y)).1

    whether_once : {n n' m k : ℕ} {a b : Bool} → n ≡ n' → Whether d w n a m → Whether d w n' b k → (a ≡ b) × (m ≡ k)
    whether_once q x y = pin (whether d w) q (whether_is d c x) (whether_is d c y)

    optional_once : {n n' m k : ℕ} {a b : Option Figure} → n ≡ n' → Optional d w (Number d) n a m → Optional d w (Number d) n' b k
        → (a ≡ b) × (m ≡ k)
    optional_once q x y =
        let r : (n m : ℕ) (a : Figure) → Number d n a m → number d n ≡ Is a m = λ n m a. number_is d in
        pin (optional d w (number d)) q (optional_is d c (number d) r x) (optional_is d c (number d) r y)

    module _ (o : differ w NOTE ≡ true) where
      statement_once : {n n' m k : ℕ} → n ≡ n' → Statement d w n m → Statement d w n' k → m ≡ k
      statement_once q x y = (pin (statement d w) q (statement_is d c o x) (statement_is d c o y)).1

      phrase_once : {n n' m k : ℕ} {x y : KeptText} → n ≡ n' → Phrase d w n x m → Phrase d w n' y k → (x ≡ y) × (m ≡ k)
      phrase_once q x y = pin (phrase d w) q (phrase_is d c o x) (phrase_is d c o y)

      -- a statement's word and another one do not begin at one place
      statement_other : {v : List ℕ} → capitals v ≡ true → differ v NOTE ≡ true → differ w v ≡ true → {n n' m k : ℕ} → n ≡ n'
          → Statement d w n m → Statement d v n' k → ⊥
      statement_other {v} c' o' i {k = k} q (token.statement {k = a} s h) (token.statement {k = b} r g) =
          let e = noted_once q (noted s (other_word d c note_capitals o h)) (noted r (other_word d c' note_capitals o' g)) in
          let x : Here d v a k = rw e g in
          other_word d c c' i h k x

  end_once : {w : List ℕ} → capitals w ≡ true → {n n' m k : ℕ} → n ≡ n' → End d w n m → End d w n' k → m ≡ k
  unfolding capitals differ
  end_once c q (token.end s x) (token.end r y) = keyword_once c (statement_once {w = END} refl refl q s r) x y

  -- ---- VALUES
  value_noted : {n k m : ℕ} {a : Amount} → Notes d n k → Value d k a m → Noted d n k
  value_noted s v = noted s (value_no_word d 78 (79 ∷ 84 ∷ 69 ∷ []) (omega arith) v)

  line_once : {n n' m k : ℕ} {x y : says.Line} → n ≡ n' → Line d n x m → Line d n' y k → (x ≡ y) × (m ≡ k)
  unfolding capitals
  line_once q (grammar.line s v t w) (grammar.line s' v' t' w') =
      let a = noted_once q (value_noted s v) (value_noted s' v') in
      let b = value_once a v v' in
      let c = string_once b.1 t t' in
      let e = whether_once {w = SPECIAL} refl c.1 w w' in
      (rw (b.0, c.0, e.0), e.1)

  -- a line is no END
  line_end : {n n' m k : ℕ} {x : says.Line} {w : List ℕ} → n ≡ n' → Line d n x m → End d w n' k → ⊥
  unfolding capitals differ
  line_end q (grammar.line {k = a} s v t w) (token.end (token.statement {m = i} r h) x) =
      let e = noted_once q (value_noted s v) (noted r (other_word d {w = END} refl note_capitals refl h)) in
      let y : Here d END a i = rw e h in
      value_no_word d 69 (78 ∷ 68 ∷ []) (omega arith) v i y

  lines_end : {n n' m k : ℕ} {x : List says.Line} {w : List ℕ} → n ≡ n' → Lines d n x m → End d w n' k → ⊥
  lines_end q (grammar.last x e) f = line_end q x f
  lines_end q (grammar.Lines.more x r) f = line_end q x f

  lines_once : {n n' m k : ℕ} {x y : List says.Line} → n ≡ n' → Lines d n x m → Lines d n' y k → (x ≡ y) × (m ≡ k)
  unfolding capitals
  lines_once q (grammar.last x e) (grammar.last y f) =
      let a = line_once q x y in (rw a.0, end_once {w = VALUES} refl a.1 e f)
  lines_once q (grammar.last x e) (grammar.Lines.more y r) = absurd (lines_end (sym (line_once q x y).1) r e)
  lines_once q (grammar.Lines.more x r) (grammar.last y e) = absurd (lines_end (line_once q x y).1 r e)
  lines_once q (grammar.Lines.more x r) (grammar.Lines.more y s) =
      let a = line_once q x y in
      let b = lines_once a.1 r s in
      (rw (a.0, b.0), b.1)

  bounds_once : {n n' m k : ℕ} {x y : Range} → n ≡ n' → Bounds d n x m → Bounds d n' y k → (x ≡ y) × (m ≡ k)
  unfolding capitals
  bounds_once q (grammar.bounds {i = i} {h = h} s v t g w) (grammar.bounds {h = h'} s' v' t' g' w') =
      let a = noted_once q (value_noted s v) (value_noted s' v') in
      let b = value_once a v v' in
      let c = keyword_once {w = TO} refl b.1 t t' in
      let x : Gap d i h' = rw c g' in
      let e = value_once (gap_same d g x) w w' in
      (rw (b.0, e.0), e.1)

  -- a string is no TO, and lines are no range
  string_to : {n n' m k : ℕ} {t : KeptText} → n ≡ n' → String d n t m → Keyword d TO n' k → ⊥
  string_to {n} {k = k} q (token.string {k = a} g e s) (keyword {k = b} g' h) =
      let x : Gap d n b = rw q g' in
      let i = gap_same d g x in
      let y : Here d TO a k = rw i h in
      quote_no_word d 84 (79 ∷ []) (omega arith) e k y

  line_bounds : {n n' m k : ℕ} {x : says.Line} {r : Range} → n ≡ n' → Line d n x m → Bounds d n' r k → ⊥
  line_bounds q (grammar.line s v t w) (grammar.bounds s' v' t' g' w') =
      let a = noted_once q (value_noted s v) (value_noted s' v') in
      string_to (value_once a v v').1 t t'

  lines_bounds : {n n' m k : ℕ} {x : List says.Line} {r : Range} → n ≡ n' → Lines d n x m → Bounds d n' r k → ⊥
  lines_bounds q (grammar.last x e) b = line_bounds q x b
  lines_bounds q (grammar.Lines.more x r) b = line_bounds q x b

  values_word : {n n' m k : ℕ} → n ≡ n' → Statement d VALUES n m → Statement d VALUES n' k → m ≡ k
  unfolding capitals differ
  values_word = statement_once {w = VALUES} refl refl

  with_once : {n n' m k : ℕ} {a b : Bool} → n ≡ n' → Whether d WITH n a m → Whether d WITH n' b k → (a ≡ b) × (m ≡ k)
  unfolding capitals
  with_once = whether_once {w = WITH} refl

  values_once : {n n' m k : ℕ} {x y : Block} → n ≡ n' → Values d n x m → Values d n' y k → (x ≡ y) × (m ≡ k)
  unfolding capitals
  values_once q (grammar.listed s l) (grammar.listed s' l') = let a = lines_once (values_word q s s') l l' in (rw a.0, a.1)
  values_once q (grammar.listed s l) (grammar.ranged s' b w e) = absurd (lines_bounds (values_word q s s') l b)
  values_once q (grammar.listed s l) (grammar.both s' b w l') = absurd (lines_bounds (values_word q s s') l b)
  values_once q (grammar.ranged s b w e) (grammar.listed s' l) = absurd (lines_bounds (sym (values_word q s s')) l b)
  values_once q (grammar.ranged s b w e) (grammar.ranged s' b' w' e') =
      let x = bounds_once (values_word q s s') b b' in
      (rw x.0, end_once {w = VALUES} refl (with_once x.1 w w').1 e e')
  values_once q (grammar.ranged s b w e) (grammar.both s' b' w' l) =
      let x = bounds_once (values_word q s s') b b' in let y = (with_once x.1 w w').0 in never cc
  values_once q (grammar.both s b w l) (grammar.listed s' l') = absurd (lines_bounds (sym (values_word q s s')) l' b)
  values_once q (grammar.both s b w l) (grammar.ranged s' b' w' e) =
      let x = bounds_once (values_word q s s') b b' in let y = (with_once x.1 w w').0 in never cc
  values_once q (grammar.both s b w l) (grammar.both s' b' w' l') =
      let x = bounds_once (values_word q s s') b b' in
      let y = lines_once (with_once x.1 w w').1 l l' in
      (rw (x.0, y.0), y.1)

  -- ---- a variable
  position_once : {n n' m k : ℕ} {x y : Figure} {a b : Option Figure} → n ≡ n' → Position d n x a m → Position d n' y b k
      → (x ≡ y) × (a ≡ b) × (m ≡ k)
  unfolding capitals differ
  position_once q (grammar.position s x o) (grammar.position s' x' o') =
      let a = number_once (statement_once {w = POSITION} refl refl q s s') x x' in
      let b = optional_once {w = TO} refl a.1 o o' in
      (a.0, b.0, b.1)

  spread_values : {n n' m k : ℕ} {b : Block} → n ≡ n' → Statement d SPREAD n m → Values d n' b k → ⊥
  unfolding capitals differ
  spread_values q s (grammar.listed t l) = statement_other {w = SPREAD} refl refl {v = VALUES} refl refl refl q s t
  spread_values q s (grammar.ranged t b w e) = statement_other {w = SPREAD} refl refl {v = VALUES} refl refl refl q s t
  spread_values q s (grammar.both t b w l) = statement_other {w = SPREAD} refl refl {v = VALUES} refl refl refl q s t

  divided_once : {n n' m k i j : ℕ} {x y : Option says.Spread} {a b : Block} → n ≡ n' → Spread d n x m → Spread d n' y k → Values d m a i
      → Values d k b j
      → (x ≡ y) × (m ≡ k)
  unfolding capitals differ
  divided_once q (grammar.spread s x o) (grammar.spread s' x' o') v v' =
      let a = number_once (statement_once {w = SPREAD} refl refl q s s') x x' in
      let b = optional_once {w = OF} refl a.1 o o' in
      (rw (a.0, b.0), b.1)
  divided_once q (grammar.spread s x o) grammar.undivided v v' = absurd (spread_values q s v')
  divided_once q grammar.undivided (grammar.spread s x o) v v' = absurd (spread_values (sym q) s v)
  divided_once q grammar.undivided grammar.undivided v v' = (refl, q)

  rest_once : {t : Sort} {n n' m k : ℕ} {x y : Content} → n ≡ n' → Rest d t n x m → Rest d t n' y k → (x ≡ y) × (m ≡ k)
  unfolding capitals differ
  rest_once q (grammar.single v) (grammar.single v') = let a = values_once q v v' in (rw a.0, a.1)
  rest_once q (grammar.multiple s v) (grammar.multiple s' v') =
      let a = divided_once q s s' v v' in
      let b = values_once a.1 v v' in
      (rw (a.0, b.0), b.1)
  rest_once q (grammar.quantity v) (grammar.quantity v') = let a = values_once q v v' in (rw a.0, a.1)
  rest_once q (grammar.character s x) (grammar.character s' x') =
      let a = number_once (statement_once {w = SIZE} refl refl q s s') x x' in (rw a.0, a.1)
  rest_once q grammar.logical grammar.logical = (refl, q)

  variable_once : {n n' m k : ℕ} {x y : says.Variable} → n ≡ n' → Variable d n x m → Variable d n' y k → (x ≡ y) × (m ≡ k)
  unfolding capitals differ
  variable_once q (grammar.variable {t = t} s₁ s₂ s₃ s₄ s₅ s₆ s₇ s₈ s₉)
      (grammar.variable {h = h} {i = i} {t = t'} {r = r} z₁ z₂ z₃ z₄ z₅ z₆ z₇ z₈ z₉) =
      let a = number_once (statement_once {w = VARIABLE} refl refl q s₁ z₁) s₂ z₂ in
      let b = phrase_once {w = NAME} refl refl a.1 s₃ z₃ in
      let c = phrase_once {w = LABEL} refl refl b.1 s₄ z₄ in
      let e = pin (type d) c.1 (type_is d t (refusal.type s₅ s₆)) (type_is d t' (refusal.type z₅ z₆)) in
      let f = position_once e.1 s₇ z₇ in
      let z : Rest d t h r i = rw e.0 z₈ in
      let g = rest_once f.2 s₈ z in
      (rw (a.0, b.0, c.0, f.0, f.1, g.0), end_once {w = VARIABLE} refl g.1 s₉ z₉)

  -- another variable is no END
  variable_end : {n n' m k : ℕ} {x : says.Variable} {w : List ℕ} → n ≡ n' → Variable d n x m → End d w n' k → ⊥
  unfolding capitals differ
  variable_end q (grammar.variable s₁ s₂ s₃ s₄ s₅ s₆ s₇ s₈ s₉) (token.end r x) =
      statement_other {w = VARIABLE} refl refl {v = END} refl refl refl q s₁ r

  variables_end : {n n' m k : ℕ} {x : List says.Variable} {w : List ℕ} → n ≡ n' → Variables d n x m → End d w n' k → ⊥
  variables_end q (grammar.one v) e = variable_end q v e
  variables_end q (grammar.Variables.more v r) e = variable_end q v e

  variables_once : {n n' m k i j : ℕ} {x y : List says.Variable} → n ≡ n' → Variables d n x m → Variables d n' y k → End d RECORD m i
      → End d RECORD k j
      → (x ≡ y) × (m ≡ k)
  variables_once q (grammar.one v) (grammar.one w) e f = let a = variable_once q v w in (rw a.0, a.1)
  variables_once q (grammar.one v) (grammar.Variables.more w r) e f = absurd (variables_end (sym (variable_once q v w).1) r e)
  variables_once q (grammar.Variables.more v r) (grammar.one w) e f = absurd (variables_end (variable_once q v w).1 r f)
  variables_once q (grammar.Variables.more v r) (grammar.Variables.more w s) e f =
      let a = variable_once q v w in
      let b = variables_once a.1 r s e f in
      (rw (a.0, b.0), b.1)

  -- ONE TEXT, ONE SURVEY
  pub derived_once : {s t : Survey} {m k : ℕ} → Definition d s m → Definition d t k → (s ≡ t) × (m ≡ k)
  unfolding capitals differ
  derived_once (definition o i v t r w x e₁ e₂ e₃) (definition o' i' v' t' r' w' x' f₁ f₂ f₃) =
      let a = pin (λ n. front d n) refl (front_is d (refusal.front o i v t r w)) (front_is d (refusal.front o' i' v' t' r' w')) in
      let b = variables_once a.1 x x' e₁ f₁ in
      let c = end_once {w = RECORD} refl b.1 e₁ f₁ in
      let e = end_once {w = SURVEY} refl c e₂ f₂ in
      (rw (a.0, b.0), end_once {w = SSS} refl e e₃ f₃)
