-- THE GRAMMAR OF TWO FILES THAT ARE THE SAME UP TO A PLACE: what the one says before it, with room behind that for a word as long as
-- SPECIAL, the other says too, type by type, from the same place to the same place.
use Rattle.std.specs.Prelude.{◌≡◌, Bool, List, ℕ, ◌+◌, ◌≤◌, length}
use Rattle.std.proofs.Common.{sym, ◌∙◌, arith}
use Rattle.std.proofs.Math.Option.{Option}
use Rattle.scan.specs.rule.Text.{text, place_of}
use Rattle.marks.specs.declared.Inside.TheVariants.{Plain}
use Rattle.marks.specs.rule.Spelling.{decode_of}
use Rattle.marks.proofs.Complete.{string_decoded}
use Rattle.statements.specs.rule.Words.{SSS, TO, OF, WITH, SPECIAL, END}
use Rattle.survey.specs.rule.Survey.{Figure, Amount, KeptText, Range, Block, Content}
use Rattle.survey.specs.rule.Survey as says
use Rattle.reading.specs.rule.Variable.{Sort}
use Rattle.reading.specs.rule.Whole.{HeadingEntry}
use Rattle.definition.specs.rule.Definition.{names_of}
use Rattle.grammar.specs.Token.{Gap, Here, Keyword, keyword, Number, Value, String}
use Rattle.grammar.specs.Token.{Letter, Notes, Statement, Phrase, End, Optional, Whether}
use Rattle.grammar.specs.Token as token
use Rattle.grammar.specs.Grammar.{Opening, Item, Items, Title, Line, Lines, Bounds, Values, Position, Spread, Rest, Variable, Variables}
use Rattle.grammar.specs.Grammar as grammar
use Rattle.follow_laws.specs.Beginnings.{Alike, Ahead, fewer, here_on, no_word_on}
use Rattle.follow_laws.specs.Beginnings.{run_on, spelt_on, gap_on_lem, spaces_on_lem, start_on, back}

module _ {d d' : List ℕ} {M : ℕ} (files : Alike d d' M) where
  -- ---- tokens, with r bytes ahead
  pub keyword_on : {w : List ℕ} {r n m : ℕ} → 1 ≤ length w + r → Keyword d w n m → Ahead d M r m
      → Keyword d' w n m × Ahead d M (length w + r) n
  keyword_on l (keyword g h) a =
      let x = here_on files h a in
      let y = gap_on_lem files l g x.1 in
      (keyword y.0 x.0, y.1)

  string_on_lem : {r n m : ℕ} {t : KeptText} → String d n t m → Ahead d M r m → String d' n t m × Ahead d M r n
  string_on_lem {r} (token.string {p = p} g e s) a =
      let x = spelt_on files s a in
      let y = back files (sym e) x.1 in
      let z = gap_on_lem files (omega arith) g y.1 in
      (token.string z.0 y.0 x.0, fewer z.1 r (omega arith))

  -- and it says the same
  string_says : {r n m : ℕ} {t : KeptText} → String d n t m → Ahead d M r m
      → decode_of Plain 0 (text d t.place) ≡ decode_of Plain 0 (text d' t.place)
  string_says (token.string g e s) a = let x = spelt_on files s a in string_decoded s ∙ sym (string_decoded x.0)

  pub notes_on_lem : {r n m : ℕ} → 1 ≤ r → Notes d n m → Ahead d M r m → Notes d' n m × Ahead d M r n
  notes_on_lem l (token.no_more g) a = let x = gap_on_lem files l g a in (token.no_more x.0, x.1)
  notes_on_lem {r} l (token.note k s o) a =
      let x = notes_on_lem l o a in
      let y = string_on_lem s x.1 in
      let z = keyword_on (omega arith) k y.1 in
      (token.note z.0 y.0 x.0, fewer z.1 r (omega arith))

  pub statement_on_lem : {w : List ℕ} {r n m : ℕ} → 1 ≤ length w + r → Statement d w n m → Ahead d M r m
      → Statement d' w n m × Ahead d M (length w + r) n
  statement_on_lem l (token.statement s h) a =
      let x = here_on files h a in
      let y = notes_on_lem l s x.1 in
      (token.statement y.0 x.0, y.1)

  pub end_on : {w : List ℕ} {r n m : ℕ} → 1 ≤ length w + r → End d w n m → Ahead d M r m
      → End d' w n m × Ahead d M (length END + (length w + r)) n
  end_on l (token.end s k) a =
      let x = keyword_on l k a in
      let y = statement_on_lem (omega arith) s x.1 in
      (token.end y.0 x.0, y.1)

  -- ---- far from the place: seven bytes ahead, as many as SPECIAL has
  abbrev pub Far : ℕ → Type 0
  Far n = Ahead d M 7 n

  gap_far : {n m : ℕ} → Gap d n m → Far m → Gap d' n m × Far n
  gap_far g a = gap_on_lem files (omega arith) g a

  keyword_far : {w : List ℕ} {n m : ℕ} → Keyword d w n m → Far m → Keyword d' w n m × Far n
  keyword_far k a = let x = keyword_on (omega arith) k a in (x.0, fewer x.1 7 (omega arith))

  pub notes_far : {n m : ℕ} → Notes d n m → Far m → Notes d' n m × Far n
  notes_far s a = notes_on_lem (omega arith) s a

  pub statement_far : {w : List ℕ} {n m : ℕ} → Statement d w n m → Far m → Statement d' w n m × Far n
  statement_far s a = let x = statement_on_lem (omega arith) s a in (x.0, fewer x.1 7 (omega arith))

  end_far : {w : List ℕ} {n m : ℕ} → End d w n m → Far m → End d' w n m × Far n
  end_far s a = let x = end_on (omega arith) s a in (x.0, fewer x.1 7 (omega arith))

  phrase_far : {w : List ℕ} {n m : ℕ} {t : KeptText} → Phrase d w n t m → Far m → Phrase d' w n t m × Far n
  phrase_far (token.phrase s x) a =
      let y = string_on_lem x a in
      let z = statement_far s y.1 in
      (token.phrase z.0 y.0, z.1)

  number_far : {n m : ℕ} {x : Figure} → Number d n x m → Far m → Number d' n x m × Far n
  number_far (token.number g r) a =
      let x = run_on files (omega arith) r a in
      let y = gap_far g x.1 in
      (token.number y.0 x.0, y.1)

  value_far : {n m : ℕ} {x : Amount} → Value d n x m → Far m → Value d' n x m × Far n
  value_far (token.value r) a = let x = run_on files (omega arith) r a in (token.value x.0, x.1)

  pub letter_far : {n m b : ℕ} → Letter d n b m → Far m → Letter d' n b m × Far n
  letter_far (token.letter g e c) a =
      let y = back files (sym e) a in
      let z = gap_on_lem files (omega arith) g y.1 in
      (token.letter z.0 y.0 c, fewer z.1 7 (omega arith))

  whether_far : {w : List ℕ} {n m : ℕ} {q : Bool} → length w ≤ 7 → Whether d w n q m → Far m → Whether d' w n q m × Far n
  whether_far l (token.yes k) a = let x = keyword_far k a in (token.yes x.0, x.1)
  whether_far l (token.no g f) a = let x = gap_far g a in (token.no x.0 (no_word_on files l a f), x.1)

  optional_far : {w : List ℕ} {n m : ℕ} {x : Option Figure} → length w ≤ 7 → Optional d w (Number d) n x m → Far m
      → Optional d' w (Number d') n x m × Far n
  optional_far l (token.given k x) a =
      let y = number_far x a in
      let z = keyword_far k y.1 in
      (token.given z.0 y.0, z.1)
  optional_far l (token.absent g f) a = let x = gap_far g a in (token.absent x.0 (no_word_on files l a f), x.1)

  -- ---- VALUES
  line_far : {n m : ℕ} {l : says.Line} → Line d n l m → Far m → Line d' n l m × Far n
  line_far (grammar.line s v t w) a =
      let x = whether_far {w = SPECIAL} (omega arith) w a in
      let y = string_on_lem t x.1 in
      let z = value_far v y.1 in
      let u = notes_far s z.1 in
      (grammar.line u.0 z.0 y.0 x.0, u.1)

  lines_far : {n m : ℕ} {l : List says.Line} → Lines d n l m → Far m → Lines d' n l m × Far n
  lines_far (grammar.last s e) a =
      let x = end_far e a in
      let y = line_far s x.1 in
      (grammar.last y.0 x.0, y.1)
  lines_far (grammar.Lines.more s r) a =
      let x = lines_far r a in
      let y = line_far s x.1 in
      (grammar.Lines.more y.0 x.0, y.1)

  bounds_far : {n m : ℕ} {r : Range} → Bounds d n r m → Far m → Bounds d' n r m × Far n
  bounds_far (grammar.bounds s v k g w) a =
      let x = value_far w a in
      let y = gap_far g x.1 in
      let z = keyword_far k y.1 in
      let u = value_far v z.1 in
      let t = notes_far s u.1 in
      (grammar.bounds t.0 u.0 z.0 y.0 x.0, t.1)

  values_far : {n m : ℕ} {b : Block} → Values d n b m → Far m → Values d' n b m × Far n
  values_far (grammar.listed s r) a =
      let x = lines_far r a in
      let y = statement_far s x.1 in
      (grammar.listed y.0 x.0, y.1)
  values_far (grammar.ranged s b w e) a =
      let x = end_far e a in
      let y = whether_far {w = WITH} (omega arith) w x.1 in
      let z = bounds_far b y.1 in
      let u = statement_far s z.1 in
      (grammar.ranged u.0 z.0 y.0 x.0, u.1)
  values_far (grammar.both s b w r) a =
      let x = lines_far r a in
      let y = whether_far {w = WITH} (omega arith) w x.1 in
      let z = bounds_far b y.1 in
      let u = statement_far s z.1 in
      (grammar.both u.0 z.0 y.0 x.0, u.1)

  -- ---- a variable
  position_far : {n m : ℕ} {x : Figure} {o : Option Figure} → Position d n x o m → Far m → Position d' n x o m × Far n
  position_far (grammar.position s v o) a =
      let x = optional_far {w = TO} (omega arith) o a in
      let y = number_far v x.1 in
      let z = statement_far s y.1 in
      (grammar.position z.0 y.0 x.0, z.1)

  spread_far : {n m : ℕ} {s : Option says.Spread} → Spread d n s m → Far m → Spread d' n s m × Far n
  spread_far (grammar.spread s v o) a =
      let x = optional_far {w = OF} (omega arith) o a in
      let y = number_far v x.1 in
      let z = statement_far s y.1 in
      (grammar.spread z.0 y.0 x.0, z.1)
  spread_far grammar.undivided a = (grammar.undivided, a)

  rest_far : {t : Sort} {n m : ℕ} {c : Content} → Rest d t n c m → Far m → Rest d' t n c m × Far n
  rest_far (grammar.single v) a = let x = values_far v a in (grammar.single x.0, x.1)
  rest_far (grammar.multiple s v) a =
      let x = values_far v a in
      let y = spread_far s x.1 in
      (grammar.multiple y.0 x.0, y.1)
  rest_far (grammar.quantity v) a = let x = values_far v a in (grammar.quantity x.0, x.1)
  rest_far (grammar.character s v) a =
      let x = number_far v a in
      let y = statement_far s x.1 in
      (grammar.character y.0 x.0, y.1)
  rest_far grammar.logical a = (grammar.logical, a)

  -- what a name says in the two files
  abbrev NameSame : says.Variable → Type 0
  NameSame v = decode_of Plain 0 (text d v.name.place) ≡ decode_of Plain 0 (text d' v.name.place)

  phrase_says : {w : List ℕ} {n m : ℕ} {t : KeptText} → Phrase d w n t m → Far m
      → decode_of Plain 0 (text d t.place) ≡ decode_of Plain 0 (text d' t.place)
  phrase_says (token.phrase s x) a = string_says x a

  variable_far : {n m : ℕ} {v : says.Variable} → Variable d n v m → Far m → Variable d' n v m × Far n × NameSame v
  variable_far (grammar.variable s₁ s₂ s₃ s₄ s₅ s₆ s₇ s₈ s₉) a =
      let x₉ = end_far s₉ a in
      let x₈ = rest_far s₈ x₉.1 in
      let x₇ = position_far s₇ x₈.1 in
      let x₆ = keyword_far s₆ x₇.1 in
      let x₅ = statement_far s₅ x₆.1 in
      let x₄ = phrase_far s₄ x₅.1 in
      let x₃ = phrase_far s₃ x₄.1 in
      let x₂ = number_far s₂ x₃.1 in
      let x₁ = statement_far s₁ x₂.1 in (
        grammar.variable x₁.0 x₂.0 x₃.0 x₄.0 x₅.0 x₆.0 x₇.0 x₈.0 x₉.0,
        x₁.1,
        phrase_says s₃ x₄.1,
      )

  pub variables_far : {n m : ℕ} {l : List says.Variable} → Variables d n l m → Far m
      → Variables d' n l m × Far n × (names_of d l ≡ names_of d' l)
  unfolding names_of
  variables_far (grammar.one v) a =
      let x = variable_far v a in
      (grammar.one x.0, x.1, rw x.2)
  variables_far (grammar.Variables.more v r) a =
      let x = variables_far r a in
      let y = variable_far v x.1 in
      (grammar.Variables.more y.0 x.0, y.1, rw (y.2, x.2))

  -- ---- the heading
  item_far : {n m : ℕ} {e : HeadingEntry} → Item d n e m → Far m → Item d' n e m × Far n
  item_far (grammar.date p) a = let x = phrase_far p a in (grammar.date x.0, x.1)
  item_far (grammar.time p) a = let x = phrase_far p a in (grammar.time x.0, x.1)
  item_far (grammar.origin p) a = let x = phrase_far p a in (grammar.origin x.0, x.1)
  item_far (grammar.user p) a = let x = phrase_far p a in (grammar.user x.0, x.1)
  item_far (grammar.standard_names s k) a =
      let x = keyword_far k a in
      let y = statement_far s x.1 in
      (grammar.standard_names y.0 x.0, y.1)

  pub items_far : {l k : List HeadingEntry} {n m : ℕ} → Items d l n k m → Far m → Items d' l n k m × Far n
  items_far grammar.Items.no_more a = (grammar.Items.no_more, a)
  items_far (grammar.Items.more s e r) a =
      let x = items_far r a in
      let y = item_far s x.1 in
      (grammar.Items.more y.0 e x.0, y.1)

  pub title_far : {n m : ℕ} {t : Option KeptText} → Title d n t m → Far m → Title d' n t m × Far n
  title_far (grammar.title p) a = let x = phrase_far p a in (grammar.title x.0, x.1)
  title_far grammar.untitled a = (grammar.untitled, a)

  pub opening_far : {m : ℕ} → Opening d m → Far m → Opening d' m
  opening_far (grammar.opening {a = i} h s v t r) a =
      let x₅ = run_on files (omega arith) r a in
      let x₄ = spaces_on_lem files (omega arith) t x₅.1 in
      let x₃ = here_on files v x₄.1 in
      let x₂ = spaces_on_lem files (omega arith) s x₃.1 in
      let x₁ = here_on files h x₂.1 in
      let q = start_on files (omega arith) x₁.1 in
      let y : Here d' SSS (place_of (text d' 0)) i = rw q x₁.0 in
      grammar.opening y x₂.0 x₃.0 x₄.0 x₅.0
