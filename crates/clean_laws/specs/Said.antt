-- WHAT A DERIVED SURVEY SAYS: each of its numbers, values and texts is decided by its kept bytes, and its blocks have their shape.
use Rattle.std.specs.Prelude.{◌≡◌, Bool, cond, List, ◌∷◌, ℕ, ◌/◌, ◌^◌, ◌<◌, eqb}
use Rattle.std.proofs.Math.Bool.{true, false}
use Rattle.std.proofs.Math.Option.{Option, none, some, get_or}
use Rattle.ascii.specs.rule.Class.{class_of}
use Rattle.survey.specs.rule.Survey.{Figure, KeptText, Range, Line, Block, Spread, Content, single, multiple, quantity, character, logical}
use Rattle.survey.specs.rule.Survey.{Variable, Heading, Survey}
use Rattle.survey.specs.rule.Width.{room_in}
use Rattle.reading.specs.rule.Whole.{HeadingEntry, entered_text, heading}
use Rattle.grammar.specs.Token as token
use Rattle.grammar.specs.Grammar as grammar
use Rattle.printed.specs.Runs.{FigureSaid, number_said, AmountSaid, value_said}
use Rattle.printed.specs.Strings.{TextSaid, string_said}
use Rattle.printed.specs.Lines.{All, nil, more}

-- a room whose parts have few digits
pub record Short (room : ℕ) : Type 0 where
  pub short : (n : ℕ) → room / n < 10 ^ 16

module _ (d : List ℕ) where
  -- ---- VALUES
  pub record LineSaid (l : Line) : Type 0 where
    pub value : AmountSaid d l.value
    pub text : TextSaid d l.text

  pub record RangeSaid (r : Range) : Type 0 where
    pub from : AmountSaid d r.from
    pub to : AmountSaid d r.to

  -- without a range one line at least
  pub data BlockSaid : Block → Type 0 where
    listed : {l : Line} {ls : List Line} → All LineSaid (l ∷ ls) → BlockSaid (record { range = none; lines = l ∷ ls })
    ranged : {r : Range} {ls : List Line} → RangeSaid r → All LineSaid ls → BlockSaid (record { range = some r; lines = ls })

  -- ---- what a type has behind its POSITION, of `room` bytes: a width that is not stated is a number of few digits
  pub data SpreadSaid (room : ℕ) : Option Spread → Type 0 where
    undivided : SpreadSaid room none
    stated : {x w : Figure} → FigureSaid d x → FigureSaid d w → SpreadSaid room (some (record { count = x; width = some w }))
    even : {x : Figure} → FigureSaid d x → room / x.value < 10 ^ 16 → SpreadSaid room (some (record { count = x; width = none }))

  pub data ContentSaid (room : ℕ) : Content → Type 0 where
    of_single : {b : Block} → BlockSaid b → ContentSaid room (single b)
    of_multiple : {s : Option Spread} {b : Block} → SpreadSaid room s → BlockSaid b → ContentSaid room (multiple s b)
    of_quantity : {b : Block} → BlockSaid b → ContentSaid room (quantity b)
    of_character : {x : Figure} → FigureSaid d x → ContentSaid room (character x)
    of_logical : ContentSaid room logical

  pub record VariableSaid (v : Variable) : Type 0 where
    pub ident : FigureSaid d v.ident
    pub name : TextSaid d v.name
    pub label : TextSaid d v.label
    pub start : FigureSaid d v.start
    pub finish : FigureSaid d (get_or v.finish v.start)
    pub content : ContentSaid (room_in v) v.content

  -- ---- the heading
  pub data TextsSaid : Option KeptText → Type 0 where
    silent : TextsSaid none
    says : {t : KeptText} → TextSaid d t → TextsSaid (some t)

  pub record HeadingSaid (h : Heading) : Type 0 where
    pub date : TextsSaid h.date
    pub time : TextsSaid h.time
    pub origin : TextsSaid h.origin
    pub user : TextsSaid h.user
    pub title : TextsSaid h.title
    pub letter : class_of h.letter ≡ 3

  -- one variable at least
  pub data SurveySaid : Survey → Type 0 where
    survey_said : {h : Heading} {v : Variable} {l : List Variable} → HeadingSaid h → All VariableSaid (v ∷ l)
        → SurveySaid (record { heading = h; variables = v ∷ l })

  -- ---- FROM A DERIVATION
  line_said : {n m : ℕ} {l : Line} → grammar.Line d n l m → LineSaid l
  line_said (grammar.line s v t w) = record { value = value_said d v; text = string_said d t }

  data SomeSaid : List Line → Type 0 where
    some_said : {l : Line} {ls : List Line} → All LineSaid (l ∷ ls) → SomeSaid (l ∷ ls)

  lines_said : {n m : ℕ} {l : List Line} → grammar.Lines d n l m → SomeSaid l
  lines_said (grammar.last x e) = some_said (more (line_said x) nil)
  lines_said (grammar.Lines.more x r) = by x (lines_said r) where
    by : {n m : ℕ} {l : Line} {ls : List Line} → grammar.Line d n l m → SomeSaid ls → SomeSaid (l ∷ ls)
    by x (some_said y) = some_said (more (line_said x) y)

  range_said : {n m : ℕ} {r : Range} → grammar.Bounds d n r m → RangeSaid r
  range_said (grammar.bounds s a w g b) = record { from = value_said d a; to = value_said d b }

  block_said : {n m : ℕ} {b : Block} → grammar.Values d n b m → BlockSaid b
  block_said (grammar.listed s l) = by (lines_said l) where
    by : {l : List Line} → SomeSaid l → BlockSaid (record { range = none; lines = l })
    by (some_said x) = listed x
  block_said (grammar.ranged s r w e) = ranged (range_said r) nil
  block_said (grammar.both s r w l) = by (range_said r) (lines_said l) where
    by : {r : Range} {l : List Line} → RangeSaid r → SomeSaid l → BlockSaid (record { range = some r; lines = l })
    by r (some_said x) = ranged r x

  spread_said : {n m room : ℕ} {s : Option Spread} → Short room → grammar.Spread d n s m → SpreadSaid room s
  spread_said h (grammar.spread {x = x} s a (token.given k b)) = stated (number_said d a) (number_said d b)
  spread_said h (grammar.spread {x = x} s a (token.absent g z)) = even (number_said d a) (h.short x.value)
  spread_said h grammar.undivided = undivided

  content_said : {n m room : ℕ} {t : _} {c : Content} → Short room → grammar.Rest d t n c m → ContentSaid room c
  content_said h (grammar.single x) = of_single (block_said x)
  content_said h (grammar.multiple s x) = of_multiple (spread_said h s) (block_said x)
  content_said h (grammar.quantity x) = of_quantity (block_said x)
  content_said h (grammar.character s x) = of_character (number_said d x)
  content_said h grammar.logical = of_logical

  finish_said : {n m : ℕ} {a : Figure} {b : Option Figure} → grammar.Position d n a b m → FigureSaid d a × FigureSaid d (get_or b a)
  finish_said (grammar.position s a (token.given k b)) = (number_said d a, number_said d b)
  finish_said (grammar.position s a (token.absent g z)) = (number_said d a, number_said d a)

  phrase_said : {w : List ℕ} {n m : ℕ} {t : KeptText} → token.Phrase d w n t m → TextSaid d t
  phrase_said (token.phrase s x) = string_said d x

  pub variable_said : {n m : ℕ} {v : Variable} → Short (room_in v) → grammar.Variable d n v m → VariableSaid v
  variable_said h (grammar.variable s x n l t k o r e) = record {
    ident = number_said d x;
    name = phrase_said n;
    label = phrase_said l;
    start = (finish_said o).0;
    finish = (finish_said o).1;
    content = content_said h r;
  }

  -- ---- the heading: of the statements given, each has its text said
  entries_said : {l k : List HeadingEntry} {n m : ℕ} → All (λ (e : HeadingEntry). TextsSaid e.text) l → grammar.Items d l n k m
      → All (λ (e : HeadingEntry). TextsSaid e.text) k
  entries_said h grammar.Items.no_more = h
  entries_said h (grammar.Items.more i g r) = entries_said (more (by i) h) r where
    by : {n m : ℕ} {e : HeadingEntry} → grammar.Item d n e m → TextsSaid e.text
    by (grammar.date x) = says (phrase_said x)
    by (grammar.time x) = says (phrase_said x)
    by (grammar.origin x) = says (phrase_said x)
    by (grammar.user x) = says (phrase_said x)
    by (grammar.standard_names s k) = silent

  entry_said : (k : ℕ) {l : List HeadingEntry} → All (λ (e : HeadingEntry). TextsSaid e.text) l → TextsSaid (entered_text k l)
  unfolding entered_text
  entry_said k nil = silent
  entry_said k (more {a = e} {l = l} x r) = by (eqb k e.item) (entry_said k r) where
    by : (q : Bool) → TextsSaid (entered_text k l) → TextsSaid (cond q e.text (entered_text k l))
    by true y = x
    by false y = y

  title_said : {n m : ℕ} {t : Option KeptText} → grammar.Title d n t m → TextsSaid t
  title_said (grammar.title x) = says (phrase_said x)
  title_said grammar.untitled = silent

  letter_said : {n m b : ℕ} → token.Letter d n b m → class_of b ≡ 3
  letter_said (token.letter g e c) = c

  -- "one or more variables", each of them short
  data VariablesSaid : List Variable → Type 0 where
    variables_are : {v : Variable} {l : List Variable} → All VariableSaid (v ∷ l) → VariablesSaid (v ∷ l)

  variables_said : {n m : ℕ} {l : List Variable} → All (λ (v : Variable). Short (room_in v)) l → grammar.Variables d n l m → VariablesSaid l
  variables_said nil i = elim i [ ]
  variables_said (more h nil) (grammar.one x) = variables_are (more (variable_said h x) nil)
  variables_said (more h r) (grammar.Variables.more x y) = by (variable_said h x) (variables_said r y) where
    by : {v : Variable} {l : List Variable} → VariableSaid v → VariablesSaid l → VariablesSaid (v ∷ l)
    by x (variables_are y) = variables_are (more x y)

  pub survey_says : {s : Survey} {m : ℕ} → All (λ (v : Variable). Short (room_in v)) s.variables → grammar.Definition d s m → SurveySaid s
  survey_says h (grammar.definition {l = l} {t = z} {x = c} o i v t r x y e f g) = by (variables_said h y) where
    by : {w : List Variable} → VariablesSaid w → SurveySaid (record { heading = heading l z c; variables = w })
    by (variables_are q) = survey_said (record {
      date = entry_said 0 (entries_said nil i);
      time = entry_said 1 (entries_said nil i);
      origin = entry_said 2 (entries_said nil i);
      user = entry_said 3 (entries_said nil i);
      title = title_said t;
      letter = letter_said x;
    }) q
