-- What each element of the table says, and what is at fault in it: by the judging functions that the rule has (crates `reading` and
-- `xml_reading`). No tag, no attribute and no order is here. Above it: the theorems that the rule is the reader of the table.
use Rattle.std.specs.Prelude.{Bool, true, false, cond, not, ◌&&◌, List, [], ◌∷◌, ◌++◌, ℕ, suc, ◌+◌, eqb}
use Rattle.std.proofs.Math.Option.{Option, none, some, get_or}
use Rattle.layout.specs.rule.Layout.{most_rows, most_lines}
use Rattle.tags.specs.declared.Held.{Held}
use Rattle.tokens.specs.rule.Gap.{fault}
use Rattle.survey.specs.rule.Survey.{Figure, Amount, KeptText, Content, Block, single, multiple, quantity, character, logical}
use Rattle.survey.specs.rule.Survey as survey
use Rattle.survey.specs.rule.Table.{lines_all}
use Rattle.reading.specs.rule.Result.{Reader, ◌>>=◌, give}
use Rattle.reading.specs.rule.Least.{Charge, ◌when◌, judged}
use Rattle.reading.specs.rule.Statement.{position_charges, spread_charges, size_charges}
use Rattle.reading.specs.rule.Statement as statement
use Rattle.reading.specs.rule.Values.{line_charges, with_line, range_from, unlisted}
use Rattle.reading.specs.rule.Variable.{Sort, Single, Multiple, Quantity, Character, Logical, room, ident_charges, variable_of, held}
use Rattle.xml_reading.specs.rule.Word.{ONE-ONE, ONE-TWO}
use Rattle.xml_reading.specs.rule.Element.{figure_of, amount_in, given_at}
use Rattle.xml_reading.specs.rule.Block.{pair_charges}
use Rattle.xml_reading.specs.rule.Role.{XmlEntry, variables_of, type_at, use_at, use_wrong, has_served, filter_of}
use Rattle.xml_reading.specs.rule.Variable.{Manner}
use Rattle.xml_reading.specs.rule.Sheet.{says_word}
use Rattle.xml_grammar.specs.Grammar.{Element, Sss, Date, Time, Origin, User, Survey, SurveyName, SurveyVersion, Title, Record}
use Rattle.xml_grammar.specs.Grammar.{Variable, Name, Label, Position, Filter, Spread, Size, Values, Range, Value}
use Rattle.xml_grammar.specs.Grammar.{Attribute, required, implied, later, rule_of}
use Rattle.xml_grammar.specs.Reader.{Meaning, Meanings}

-- ---- what was read so far: of the file, and of the variable that is open
pub record State : Type 0 where
  pub manner : Manner
  pub entries : List XmlEntry
  pub ident : Figure
  pub sort : Sort
  pub usage : ℕ
  pub name : KeptText
  pub label : KeptText
  pub place : statement.Position
  pub filter : ℕ
  pub spread : Option survey.Spread
  pub block : Block
  pub size : Figure

abbrev pub state : Manner → List XmlEntry → Figure → Sort → ℕ → KeptText → KeptText → statement.Position → ℕ → Option survey.Spread → Block
    → Figure
    → State
state m l i k u n b p f s v z = record {
  manner = m;
  entries = l;
  ident = i;
  sort = k;
  usage = u;
  name = n;
  label = b;
  place = p;
  filter = f;
  spread = s;
  block = v;
  size = z;
}

abbrev pub no_figure : Figure
no_figure = record { place = 0; end = 0; digits = 0; value = 0 }

abbrev pub no_name : KeptText
no_name = record { place = 0; length = 0 }

abbrev pub no_place : statement.Position
no_place = record { start = no_figure; finish = none }

-- a variable of which the start tag was read
abbrev pub begun : Manner → List XmlEntry → Figure → Sort → ℕ → State
begun m l i k u = state m l i k u no_name no_name no_place 0 none (unlisted none) no_figure

-- between variables
abbrev pub between : Manner → List XmlEntry → State
between m l = begun m l no_figure Logical 0

abbrev pub with_name : State → KeptText → State
with_name s x = state s.manner s.entries s.ident s.sort s.usage x s.label s.place s.filter s.spread s.block
    s.size

abbrev pub with_label : State → KeptText → State
with_label s x = state s.manner s.entries s.ident s.sort s.usage s.name x s.place s.filter s.spread s.block
    s.size

abbrev pub with_place : State → statement.Position → State
with_place s x = state s.manner s.entries s.ident s.sort s.usage s.name s.label x s.filter s.spread s.block
    s.size

abbrev pub with_filter : State → ℕ → State
with_filter s x = state s.manner s.entries s.ident s.sort s.usage s.name s.label s.place x s.spread s.block
    s.size

abbrev pub with_spread : State → survey.Spread → State
with_spread s x =
    state s.manner s.entries s.ident s.sort s.usage s.name s.label s.place s.filter (some x) s.block s.size

abbrev pub with_block : State → Block → State
with_block s x = state s.manner s.entries s.ident s.sort s.usage s.name s.label s.place s.filter s.spread x
    s.size

abbrev pub with_size : State → Figure → State
with_size s x = state s.manner s.entries s.ident s.sort s.usage s.name s.label s.place s.filter s.spread
    s.block x

-- ---- types
abbrev pub sort_of : ℕ → Sort
sort_of t = cond (eqb t 1) Single (cond (eqb t 2) Multiple (cond (eqb t 3) Quantity (cond (eqb t 4) Character Logical)))

abbrev pub is_quantity : Sort → Bool
is_quantity Single = false
is_quantity Multiple = false
is_quantity Quantity = true
is_quantity Character = false
is_quantity Logical = false

abbrev pub content_in : Sort → State → Content
content_in Single s = single s.block
content_in Multiple s = multiple s.spread s.block
content_in Quantity s = quantity s.block
content_in Character s = character s.size
content_in Logical s = logical

abbrev pub lines_before : State → ℕ
lines_before s = lines_all (variables_of s.entries)

-- the third of the attributes is not in version 1.1
abbrev pub is_later : Attribute → Bool
is_later (required w f) = false
is_later (implied w f) = false
is_later (later w f) = true

abbrev pub third_later : List Attribute → Bool
third_later [] = false
third_later (x ∷ []) = false
third_later (x ∷ y ∷ []) = false
third_later (x ∷ y ∷ z ∷ l) = is_later z

-- the variable that is open, once all of it was read; and what is known behind it
abbrev pub variable_in : State → survey.Variable
variable_in s = variable_of s.ident s.name s.label s.place (content_in s.sort s)

abbrev pub with_entry : State → survey.Variable → State
with_entry s v = between s.manner (s.entries ++ record { variable = v; usage = s.usage; filter = s.filter } ∷ [])

-- ---- elements that say something
-- says nothing that a table has
abbrev pub mute : Meaning State
mute = record { charges = λ s h t. []; also = λ s h t. []; said = λ s h t. give s; closed = give }

-- says something, with no charge but those of its form
abbrev pub tells : (State → KeptText → Reader State) → Meaning State
tells f = record { charges = λ s h t. []; also = λ s h t. []; said = λ s h t. f s t; closed = give }

-- is charged, and says something
abbrev pub judges : (State → Held → KeptText → List Charge) → (State → Held → KeptText → State) → Meaning State
judges c f = record { charges = c; also = λ s h t. []; said = λ s h t. give (f s h t); closed = give }

module _ (d : List ℕ) where
  -- an attribute's number or amount, by the order of the table
  abbrev pub figure_a : Held → Figure
  figure_a h = figure_of d h.a h.ae

  abbrev pub figure_b : Held → Option Figure
  figure_b h = given_at h.b (figure_of d h.b h.be)

  abbrev pub amount_a : Held → Amount
  amount_a h = amount_in d h.a h.ae

  abbrev pub amount_b : Held → Amount
  amount_b h = amount_in d h.b h.be

  -- the row, plus one, that a filter names
  abbrev pub filter_in : State → KeptText → ℕ
  filter_in s t = filter_of s.manner.latin s.manner.standard d s.entries s.name s.usage t

  -- ---- what each element says: what is known behind it, or behind its start tag where it holds others
  abbrev pub says_of : Element → State → Held → KeptText → State
  says_of Sss s h t =
      between (record {
        old = says_word d h.a h.ae ONE-ONE;
        languages = not (eqb h.c 0);
        standard = not (eqb h.b 0);
        latin = s.manner.latin;
      }) []
  says_of Date s h t = s
  says_of Time s h t = s
  says_of Origin s h t = s
  says_of User s h t = s
  says_of Survey s h t = s
  says_of SurveyName s h t = s
  says_of SurveyVersion s h t = s
  says_of Title s h t = s
  says_of Record s h t = s
  says_of Variable s h t =
      begun s.manner s.entries (figure_a h) (sort_of (type_at d h.b h.be)) (use_at d h.c h.ce)
  says_of Name s h t = with_name s t
  says_of Label s h t = with_label s t
  says_of Position s h t = with_place s (record { start = figure_a h; finish = figure_b h })
  says_of Filter s h t = with_filter s (filter_in s t)
  says_of Spread s h t = with_spread s (record { count = figure_a h; width = figure_b h })
  says_of Size s h t = with_size s (figure_of d t.place (t.place + t.length))
  says_of Values s h t = with_block s (unlisted none)
  says_of Range s h t = with_block s (unlisted (some (range_from (amount_a h) (amount_b h))))
  says_of Value s h t = with_block s (with_line s.block (record { value = amount_a h; text = t; special = false }))

  -- what is charged behind all else in an element: names and filters
  abbrev pub behind_of : Element → State → KeptText → List Charge
  behind_of Sss s t = []
  behind_of Date s t = []
  behind_of Time s t = []
  behind_of Origin s t = []
  behind_of User s t = []
  behind_of Survey s t = []
  behind_of SurveyName s t = []
  behind_of SurveyVersion s t = []
  behind_of Title s t = []
  behind_of Record s t = []
  behind_of Variable s t = []
  behind_of Name s t = fault 52 t.place when has_served s.manner.latin s.manner.standard d s.entries t ∷ []
  behind_of Label s t = []
  behind_of Position s t = []
  behind_of Filter s t = fault 52 t.place when eqb (filter_in s t) 0 ∷ []
  behind_of Spread s t = []
  behind_of Size s t = []
  behind_of Values s t = []
  behind_of Range s t = []
  behind_of Value s t = []

  -- "4 in XML a version not 1.1 or 1.2"; "Version 1.1 has no .. languages": the version is known only with the tag read
  abbrev pub sss : Meaning State
  sss = record {
    charges = λ s h t. fault 4 h.a when (not (says_word d h.a h.ae ONE-ONE) && not (says_word d h.a h.ae ONE-TWO)) ∷ [];
    also = λ s h t.
        cond (third_later (rule_of Sss).attributes) (fault 51 h.third when (says_word d h.a h.ae ONE-ONE && not (eqb h.c 0)) ∷ [])
        [];
    said = λ s h t. give (says_of Sss s h t);
    closed = give;
  }

  -- 5, 8; "a second serial or weight, or a wrong type: 52"; its width is judged behind its end tag
  abbrev pub variable : Meaning State
  variable = record {
    charges = λ s h t. ident_charges (variables_of s.entries) (figure_a h);
    also = λ s h t. fault 52 h.c when use_wrong s.entries (use_at d h.c h.ce) (type_at d h.b h.be) ∷ [];
    said = λ s h t. give (says_of Variable s h t);
    closed = λ s. held (variable_in s) >>= λ v. give (with_entry s v);
  }

  -- "A later variable with the name of a logical that has served as a filter is 52 at its name's text"
  abbrev pub named : State → KeptText → Reader State
  named s t = judged (behind_of Name s t) (with_name s t)

  -- "exactly one has the decoded text as its name, and that is an earlier logical; else .. 52 at the text's place"
  abbrev pub filtered : State → KeptText → Reader State
  filtered s t = judged (behind_of Filter s t) (with_filter s (filter_in s t))

  abbrev pub meaning_of : Element → Meaning State
  meaning_of Sss = sss
  meaning_of Date = mute
  meaning_of Time = mute
  meaning_of Origin = mute
  meaning_of User = mute
  meaning_of Survey = mute
  meaning_of SurveyName = mute
  meaning_of SurveyVersion = mute
  meaning_of Title = mute
  meaning_of Record = mute
  meaning_of Variable = variable
  meaning_of Name = tells named
  meaning_of Label = tells λ s t. give (with_label s t)
  meaning_of Position =
      judges (λ s h t. position_charges (figure_a h) (get_or (figure_b h) (figure_a h))) (says_of Position)
  meaning_of Filter = tells filtered
  meaning_of Spread = judges (λ s h t. spread_charges (room s.place) (figure_a h) (figure_b h)) (says_of Spread)
  meaning_of Size = judges (λ s h t. size_charges (figure_of d t.place (t.place + t.length))) (says_of Size)
  meaning_of Values = judges (λ s h t. []) (says_of Values)
  meaning_of Range = judges (λ s h t. pair_charges (is_quantity s.sort) (amount_a h) (amount_b h)) (says_of Range)
  meaning_of Value =
      judges (λ s h t. line_charges (is_quantity s.sort) (lines_before s) s.block (amount_a h)) (says_of Value)

  -- "4,096 value lines in all", "512 variables"
  abbrev pub turns_of : Element → ℕ
  turns_of Sss = 0
  turns_of Date = 0
  turns_of Time = 0
  turns_of Origin = 0
  turns_of User = 0
  turns_of Survey = 0
  turns_of SurveyName = 0
  turns_of SurveyVersion = 0
  turns_of Title = 0
  turns_of Record = 0
  turns_of Variable = suc most_rows
  turns_of Name = 0
  turns_of Label = 0
  turns_of Position = 0
  turns_of Filter = 0
  turns_of Spread = 0
  turns_of Size = 0
  turns_of Values = 0
  turns_of Range = 0
  turns_of Value = suc most_lines

  abbrev pub meanings : Meanings State
  meanings = record {
    old = λ s. s.manner.old;
    languages = λ s. s.manner.languages;
    sort = λ s. s.sort;
    turns = turns_of;
    of = meaning_of;
  }
