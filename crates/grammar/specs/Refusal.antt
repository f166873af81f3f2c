-- WHERE A DEFINITION IS REFUSED, a type a reader of the rule: what was read before is a beginning of a derivation, and then a token that
-- was
-- due does not stand there (2 at the first kept byte behind the gap, or at the length), a string or comment is bad (3), or a statement
-- that was read whole has a fault (4 to 8), of which the least is named.
use Rattle.std.specs.Prelude.{◌≡◌, Bool, true, false, List, [], ◌∷◌, ◌++◌, ℕ, ◌+◌, Err}
use Rattle.std.proofs.Math.Option.{Option, none, some, get_or}
use Rattle.ascii.specs.rule.Class.{class_of}
use Rattle.scan.specs.rule.Text.{sign, text}
use Rattle.scan.specs.rule.Number.{is_digit, is_value}
use Rattle.tokens.specs.declared.Fault.{Fault}
use Rattle.tokens.specs.rule.Gap.{fault}
use Rattle.token_laws.specs.Comments.{StringOpen, StringBad}
use Rattle.token_laws.specs.Gaps.{Behind}
use Rattle.token_laws.specs.Opening.{Opens}
use Rattle.statements.specs.rule.Words.{NOTE, DATE, TIME, ORIGIN, USER, STANDARD, NAMES, SURVEY, TITLE, RECORD, SSS, VARIABLE, NAME, LABEL}
use Rattle.statements.specs.rule.Words.{TYPE, SINGLE, MULTIPLE, QUANTITY, CHARACTER, LOGICAL, POSITION, TO, SPREAD, OF, SIZE, VALUES, WITH}
use Rattle.statements.specs.rule.Words.{SPECIAL, END}
use Rattle.survey.specs.rule.Survey.{Figure, Amount, KeptText, Block, Content, Variable}
use Rattle.survey.specs.rule.Survey as says
use Rattle.survey.specs.rule.Table.{lines_all}
use Rattle.reading.specs.rule.Least.{Charge, named, first, least}
use Rattle.reading.specs.rule.Statement.{position_charges, spread_charges, size_charges}
use Rattle.reading.specs.rule.Statement as rule
use Rattle.reading.specs.rule.Values.{range_charges, line_charges, with_line, unlisted, range_from}
use Rattle.reading.specs.rule.Variable.{ident_charges, Sort, Single, Multiple, Quantity, Character, Logical, room, variable_of}
use Rattle.reading.specs.rule.Whole.{HeadingEntry}
use Rattle.reading.specs.rule.Whole as whole
use Rattle.grammar.specs.Token.{Gap, Here, NoWord, Keyword, Run, Number, Value, String, Letter, Notes, Statement, Phrase}
use Rattle.grammar.specs.Token.{Optional, Whether}
use Rattle.grammar.specs.Grammar.{Opening, Item, Items, Position, Values, Rest, type_word}
use Rattle.grammar.specs.Grammar as grammar
use Rattle.grammar.specs.Faults.{Clean, block_faults, content_faults, width_faults, variable_faults, variables_faults}

-- ---- the words
-- f is the least of the charges that hold: "4 to 8 by lowest number, equal numbers by earlier place" (theorem `lowest_first`)
abbrev pub Lowest : List Charge → Fault → Type 0
Lowest l f = least (named l) ≡ first f

-- "2 another token was due", here
pub data Due (why : Type 0) (n : ℕ) : Fault → Type 0 where
  due : why → Due why n (fault 2 n)

-- one thing behind another: it stops in the first, or the first was read and it stops behind that
pub data Then {A : Type 0} (S : Fault → Type 0) (P : A → ℕ → Type 0) (T : A → ℕ → Fault → Type 0) : Fault → Type 0 where
  inside : {f : Fault} → S f → Then S P T f
  behind : {a : A} {m : ℕ} {f : Fault} → P a m → T a m f → Then S P T f

-- what was read, with none of its charges named
pub data Sound {A : Type 0} (P : A → ℕ → Type 0) (c : A → List Charge) : A → ℕ → Type 0 where
  sound : {a : A} {m : ℕ} → P a m → Clean (c a) → Sound P c a m

-- a thing that says nothing but where it ends
abbrev pub only : (ℕ → Type 0) → Unit {0} → ℕ → Type 0
only P u m = P m

-- a word that may stand here: it stops behind it, or where it does not stand
pub data Or (d w : List ℕ) (n : ℕ) (S : ℕ → Fault → Type 0) (T : Fault → Type 0) : Fault → Type 0 where
  stands : {m : ℕ} {f : Fault} → Here d w n m → S m f → Or d w n S T f
  absent : {f : Fault} → NoWord d w n → T f → Or d w n S T f

-- a statement of the heading, behind those of l: a second one is 2 at its word
pub data Once (l : List HeadingEntry) (item n : ℕ) (S : Fault → Type 0) : Fault → Type 0 where
  second : whole.given item l ≡ true → Once l item n S (fault 2 n)
  first_time : {f : Fault} → whole.given item l ≡ false → S f → Once l item n S f

-- it does not stop here
abbrev pub Never : Fault → Type 0
Never f = ⊥

module _ (d : List ℕ) where
  -- ---- tokens
  -- "3 .. comment unclosed .. level 33 .. of marks unclosed at the end the outermost"
  abbrev pub GapStops : ℕ → Fault → Type 0
  GapStops n f = Behind d n (Err f)

  abbrev pub HereStops : List ℕ → ℕ → Fault → Type 0
  HereStops w n = Due (NoWord d w n) n

  abbrev pub WordStops : List ℕ → ℕ → Fault → Type 0
  WordStops w n = Then (GapStops n) (only (Gap d n)) λ u m. HereStops w m

  abbrev pub NumberStops : ℕ → Fault → Type 0
  NumberStops n = Then (GapStops n) (only (Gap d n)) λ u m. Due (Run is_digit m (text d m) [] m) m

  abbrev pub ValueStops : ℕ → Fault → Type 0
  ValueStops n = Due (Run is_value n (text d n) [] n) n

  -- 3 at the quote of a string that does not close, at the brace of a bad form; 2 where no quote stands
  pub data QuoteStops (n : ℕ) : Fault → Type 0 where
    unclosed : {p : ℕ} → text d n ≡ sign p 34 (text d (p + 1)) → StringOpen (text d (p + 1)) → QuoteStops n (fault 3 p)
    bad : {p o : ℕ} → text d n ≡ sign p 34 (text d (p + 1)) → StringBad o (text d (p + 1)) → QuoteStops n (fault 3 o)
    other : ((p : ℕ) → text d n ≡ sign p 34 (text d (p + 1)) → ⊥) → QuoteStops n (fault 2 n)

  abbrev pub StringStops : ℕ → Fault → Type 0
  StringStops n = Then (GapStops n) (only (Gap d n)) λ u m. QuoteStops m

  abbrev pub NoLetter : ℕ → Type 0
  NoLetter n = (p b : ℕ) → text d n ≡ sign p b (text d (p + 1)) → class_of b ≡ 3 → ⊥

  abbrev pub LetterStops : ℕ → Fault → Type 0
  LetterStops n = Then (GapStops n) (only (Gap d n)) λ u m. Due (NoLetter m) m

  -- ---- notes: all of them, up to a place where no NOTE stands
  pub data Noted (n m : ℕ) : Type 0 where
    noted : Notes d n m → NoWord d NOTE m → Noted n m

  pub data NotesStops : ℕ → Fault → Type 0 where
    in_gap : {n : ℕ} {f : Fault} → GapStops n f → NotesStops n f
    in_note : {n k : ℕ} {f : Fault} → Keyword d NOTE n k → StringStops k f → NotesStops n f
    later : {n k j : ℕ} {t : KeptText} {f : Fault} → Keyword d NOTE n k → String d k t j → NotesStops j f → NotesStops n f

  abbrev pub StatementStops : List ℕ → ℕ → Fault → Type 0
  StatementStops w n = Then (NotesStops n) (only (Noted n)) λ u m. HereStops w m

  abbrev pub PhraseStops : List ℕ → ℕ → Fault → Type 0
  PhraseStops w n = Then (StatementStops w n) (only (Statement d w n)) λ u m. StringStops m

  abbrev pub OptionalStops : List ℕ → (ℕ → Fault → Type 0) → ℕ → Fault → Type 0
  OptionalStops w S n = Then (GapStops n) (only (Gap d n)) λ u m. Or d w m S Never

  -- ---- statements that are judged once read
  abbrev pub PositionStops : ℕ → Fault → Type 0
  PositionStops n =
      Then (StatementStops POSITION n) (only (Statement d POSITION n)) λ u n.
      Then (NumberStops n) (Number d n) λ a n.
      Then (OptionalStops TO NumberStops n) (Optional d TO (Number d) n) λ b n.
      Lowest (position_charges a (get_or b a))

  abbrev pub SizeStops : ℕ → Fault → Type 0
  SizeStops n =
      Then (StatementStops SIZE n) (only (Statement d SIZE n)) λ u n.
      Then (NumberStops n) (Number d n) λ x n.
      Lowest (size_charges x)

  abbrev pub SpreadStops : ℕ → ℕ → Fault → Type 0
  SpreadStops width n =
      Then (NumberStops n) (Number d n) λ x n.
      Then (OptionalStops OF NumberStops n) (Optional d OF (Number d) n) λ w n.
      Lowest (spread_charges width x w)

  abbrev pub IdentStops : List Variable → ℕ → Fault → Type 0
  IdentStops earlier n =
      Then (StatementStops VARIABLE n) (only (Statement d VARIABLE n)) λ u n.
      Then (NumberStops n) (Number d n) λ x n.
      Lowest (ident_charges earlier x)

  -- ---- what was read and judged good
  abbrev pub PositionRead : ℕ → rule.Position → ℕ → Type 0
  PositionRead n = Sound (λ p. Position d n p.start p.finish) (λ p. position_charges p.start (get_or p.finish p.start))

  pub data IdentRead (earlier : List Variable) (n : ℕ) : Figure → ℕ → Type 0 where
    ident : {k m : ℕ} {x : Figure} → Statement d VARIABLE n k → Number d k x m → Clean (ident_charges earlier x) → IdentRead earlier n x m

  pub data TypeRead (n : ℕ) : Sort → ℕ → Type 0 where
    type : {k m : ℕ} {t : Sort} → Statement d TYPE n k → Keyword d (type_word t) k m → TypeRead n t m

  -- none of the five words
  pub record NoType (n : ℕ) : Type 0 where
    pub no_single : NoWord d SINGLE n
    pub no_multiple : NoWord d MULTIPLE n
    pub no_quantity : NoWord d QUANTITY n
    pub no_character : NoWord d CHARACTER n
    pub no_logical : NoWord d LOGICAL n

  abbrev pub TypeStops : ℕ → Fault → Type 0
  TypeStops n =
      Then (StatementStops TYPE n) (only (Statement d TYPE n)) λ u n.
      Then (GapStops n) (only (Gap d n)) λ u n.
      Due (NoType n) n

  -- SPREAD, right here, in a position of so many bytes
  pub data SpreadRead (width n : ℕ) : Option says.Spread → ℕ → Type 0 where
    given : {k j m : ℕ} {x : Figure} {w : Option Figure} → Here d SPREAD n k → Number d k x j → Optional d OF (Number d) j w m
        → Clean (spread_charges width x w) → SpreadRead width n (some (record { count = x; width = w })) m
    undivided : NoWord d SPREAD n → SpreadRead width n none n

  -- ---- VALUES, of a quantity or not, where `before` lines stand before it
  pub data GapValue (n : ℕ) : Amount → ℕ → Type 0 where
    gap_value : {k m : ℕ} {a : Amount} → Gap d n k → Value d k a m → GapValue n a m

  abbrev pub GapValueStops : ℕ → Fault → Type 0
  GapValueStops n = Then (GapStops n) (only (Gap d n)) λ u m. ValueStops m

  module _ (quantity : Bool) (before : ℕ) where
    -- a line of block b behind its value a
    pub data LineRead (b : Block) (a : Amount) (n : ℕ) : says.Line → ℕ → Type 0 where
      line : {k m : ℕ} {t : KeptText} {s : Bool} → String d n t k → Whether d SPECIAL k s m → Clean (line_charges quantity before b a)
          → LineRead b a n (record { value = a; text = t; special = s }) m

    abbrev pub LineStops : Block → Amount → ℕ → Fault → Type 0
    LineStops b a n =
        Then (StringStops n) (String d n) λ t n.
        Then (GapStops n) (Whether d SPECIAL n) λ s n.
        Lowest (line_charges quantity before b a)

    -- lines, one by one: in a line, in the notes behind it, in END VALUES, where another value was due, or in a later one
    pub data LinesStops : Block → Amount → ℕ → Fault → Type 0 where
      in_line : {b : Block} {a : Amount} {n : ℕ} {f : Fault} → Then (LineStops b a n) (LineRead b a n) (λ l n.
          Then (NotesStops n) (only (Noted n)) λ u n. Or d END n (λ n. WordStops VALUES n) (ValueStops n)) f
          → LinesStops b a n f
      later : {b : Block} {a c : Amount} {n k j i : ℕ} {l : says.Line} {f : Fault} → LineRead b a n l k → Noted k j → NoWord d END j
          → Value d j c i → LinesStops (with_line b l) c i f → LinesStops b a n f

    -- behind `a TO b`: WITH or not, the range is judged, then lines or END VALUES
    abbrev pub WithStops : Bool → says.Range → ℕ → Fault → Type 0
    WithStops true r n = Then (ValueStops n) (Value d n) λ a n. LinesStops (unlisted (some r)) a n
    WithStops false r n = Then (HereStops END n) (only (Here d END n)) λ u n. WordStops VALUES n

    pub data RangeGood (a b : Amount) (n : ℕ) : says.Range → ℕ → Type 0 where
      good : Clean (range_charges quantity a b) → RangeGood a b n (range_from a b) n

    abbrev pub RangeStops : Amount → Amount → ℕ → Fault → Type 0
    RangeStops a b n =
        Then (GapStops n) (Whether d WITH n) λ w n.
        Then (Lowest (range_charges quantity a b)) (RangeGood a b n) λ r n.
        Then (NotesStops n) (only (Noted n)) λ u n.
        WithStops w r n

    abbrev pub RangeOrStops : Amount → Option Amount → ℕ → Fault → Type 0
    RangeOrStops a none n = LinesStops (unlisted none) a n
    RangeOrStops a (some b) n = RangeStops a b n

    abbrev pub ValuesStops : ℕ → Fault → Type 0
    ValuesStops n =
        Then (StatementStops VALUES n) (only (Statement d VALUES n)) λ u n.
        Then (NotesStops n) (only (Noted n)) λ u n.
        Then (ValueStops n) (Value d n) λ a n.
        Then (OptionalStops TO GapValueStops n) (Optional d TO GapValue n) λ b n.
        RangeOrStops a b n

    abbrev pub ValuesRead : ℕ → Block → ℕ → Type 0
    ValuesRead n = Sound (Values d n) (block_faults quantity before)

  -- ---- a variable, by type
  abbrev pub RestStops : ℕ → ℕ → Sort → ℕ → Fault → Type 0
  RestStops width before Single n = ValuesStops false before n
  RestStops width before Multiple n =
      Then (NotesStops n) (only (Noted n)) λ u n.
      Then (Or d SPREAD n (SpreadStops width) Never) (SpreadRead width n) λ s n.
      ValuesStops false before n
  RestStops width before Quantity n = ValuesStops true before n
  RestStops width before Character n = SizeStops n
  RestStops width before Logical n = Never

  abbrev pub RestRead : ℕ → ℕ → Sort → ℕ → Content → ℕ → Type 0
  RestRead width before t n = Sound (Rest d t n) (content_faults width before)

  abbrev pub VariableStops : List Variable → ℕ → Fault → Type 0
  VariableStops earlier n =
      Then (IdentStops earlier n) (IdentRead earlier n) λ x n.
      Then (PhraseStops NAME n) (Phrase d NAME n) λ name n.
      Then (PhraseStops LABEL n) (Phrase d LABEL n) λ label n.
      Then (TypeStops n) (TypeRead n) λ t n.
      Then (PositionStops n) (PositionRead n) λ p n.
      Then (RestStops (room p) (lines_all earlier) t n) (RestRead (room p) (lines_all earlier) t n) λ c n.
      Then (StatementStops END n) (only (Statement d END n)) λ u n.
      Then (WordStops VARIABLE n) (only (Keyword d VARIABLE n)) λ u n.
      Lowest (width_faults (variable_of x name label p c))

  abbrev pub VariableRead : List Variable → ℕ → Variable → ℕ → Type 0
  VariableRead earlier n = Sound (grammar.Variable d n) (variable_faults earlier)

  -- variables, one by one
  pub data VariablesStops : List Variable → ℕ → Fault → Type 0 where
    in_variable : {l : List Variable} {n : ℕ} {f : Fault} → Then (VariableStops l n) (VariableRead l n) (λ v n. NotesStops n) f
        → VariablesStops l n f
    later : {l : List Variable} {v : Variable} {n k j : ℕ} {f : Fault} → VariableRead l n v k → Noted k j → NoWord d END j
        → VariablesStops (l ++ v ∷ []) j f → VariablesStops l n f

  -- ---- the heading
  abbrev pub TextedStops : ℕ → Fault → Type 0
  TextedStops n = Then (StringStops n) (String d n) λ t n. NotesStops n

  abbrev pub ItemStops : List HeadingEntry → ℕ → Fault → Type 0
  ItemStops l n =
      Or d DATE n (λ m. Once l 0 n (TextedStops m))
      (Or d TIME n (λ m. Once l 1 n (TextedStops m))
      (Or d ORIGIN n (λ m. Once l 2 n (TextedStops m))
      (Or d USER n (λ m. Once l 3 n (TextedStops m))
      (Or d STANDARD n (λ m. Once l 4 n (Then (WordStops NAMES m) (only (Keyword d NAMES m)) λ u n. NotesStops n))
      Never))))

  pub data ItemsStops : List HeadingEntry → ℕ → Fault → Type 0 where
    in_item : {l : List HeadingEntry} {n : ℕ} {f : Fault} → ItemStops l n f → ItemsStops l n f
    later : {l : List HeadingEntry} {e : HeadingEntry} {n k m : ℕ} {f : Fault} → Item d n e k → whole.given e.item l ≡ false
        → Noted k m → ItemsStops (e ∷ l) m f → ItemsStops l n f

  -- no statement of the heading here
  pub record NoItem (n : ℕ) : Type 0 where
    pub no_date : NoWord d DATE n
    pub no_time : NoWord d TIME n
    pub no_origin : NoWord d ORIGIN n
    pub no_user : NoWord d USER n
    pub no_standard : NoWord d STANDARD n

  pub data ItemsRead (l : List HeadingEntry) (n : ℕ) : List HeadingEntry → ℕ → Type 0 where
    items : {k : List HeadingEntry} {j m : ℕ} → Items d l n k j → Noted j m → NoItem m → ItemsRead l n k m

  pub data TitleRead (n : ℕ) : Option KeptText → ℕ → Type 0 where
    given : {k m : ℕ} {t : KeptText} → Here d TITLE n k → String d k t m → TitleRead n (some t) m
    untitled : NoWord d TITLE n → TitleRead n none n

  -- ---- the whole
  -- "2" where SSS, VERSION or a run was due, "4 version not 1.1"
  abbrev pub OpeningStops : Fault → Type 0
  OpeningStops f = Opens d (Err f)

  abbrev pub FrontStops : Fault → Type 0
  FrontStops =
      Then OpeningStops (only (Opening d)) λ u n.
      Then (NotesStops n) (only (Noted n)) λ u n.
      Then (ItemsStops [] n) (ItemsRead [] n) λ l n.
      Then (HereStops SURVEY n) (only (Here d SURVEY n)) λ u n.
      Then (NotesStops n) (only (Noted n)) λ u n.
      Then (Or d TITLE n StringStops Never) (TitleRead n) λ t n.
      Then (StatementStops RECORD n) (only (Statement d RECORD n)) λ u n.
      LetterStops n

  abbrev pub EndsStops : ℕ → Fault → Type 0
  EndsStops n =
      Then (WordStops RECORD n) (only (Keyword d RECORD n)) λ u n.
      Then (StatementStops END n) (only (Statement d END n)) λ u n.
      Then (WordStops SURVEY n) (only (Keyword d SURVEY n)) λ u n.
      Then (StatementStops END n) (only (Statement d END n)) λ u n.
      WordStops SSS n

  -- up to the letter; all variables, and the END behind them; up to END SSS
  pub data FrontRead : says.Heading → ℕ → Type 0 where
    front : {a b c e f m : ℕ} {l : List HeadingEntry} {t : Option KeptText} {x : ℕ} → Opening d a → Items d [] a l b
        → Statement d SURVEY b c
        → grammar.Title d c t e → Statement d RECORD e f → Letter d f x m → FrontRead (whole.heading l t x) m

  pub data VariablesRead (n : ℕ) : List Variable → ℕ → Type 0 where
    variables : {k m : ℕ} {l : List Variable} → grammar.Variables d n l k → Statement d END k m → Clean (variables_faults [] l)
        → VariablesRead n l m

  abbrev pub Stops : Fault → Type 0
  Stops =
      Then FrontStops FrontRead λ h n.
      Then (VariablesStops [] n) (VariablesRead n) λ l n.
      EndsStops n
