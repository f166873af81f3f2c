-- THE GRAMMAR OF DOCUMENT 01, a type a line of "Reading a definition": from n to m the file d says the thing named between them. No limit
-- and no test of numbers is here (Faults.antt has those), and nothing mentions a reader.
use Rattle.std.specs.Prelude.{◌≡◌, Bool, true, false, List, [], ◌∷◌, ℕ}
use Rattle.std.proofs.Math.Option.{Option, none, some}
use Rattle.scan.specs.rule.Text.{text, place_of}
use Rattle.scan.specs.rule.Number.{is_value}
use Rattle.token_laws.specs.Opening.{Spaces}
use Rattle.statements.specs.rule.Words.{SSS, VERSION, ONE-ONE, DATE, TIME, ORIGIN, USER, STANDARD, NAMES, SURVEY, TITLE, RECORD, VARIABLE}
use Rattle.statements.specs.rule.Words.{NAME, LABEL, TYPE, SINGLE, MULTIPLE, QUANTITY, CHARACTER, LOGICAL, POSITION, TO, SPREAD, OF, SIZE}
use Rattle.statements.specs.rule.Words.{VALUES, WITH, SPECIAL}
use Rattle.survey.specs.rule.Survey.{Figure, Amount, KeptText, Range, Block, Content, Survey}
use Rattle.survey.specs.rule.Survey as says
use Rattle.reading.specs.rule.Variable.{Sort, Single, Multiple, Quantity, Character, Logical}
use Rattle.reading.specs.rule.Whole.{HeadingEntry, entry, given, heading}
use Rattle.grammar.specs.Token.{Gap, Here, Keyword, Run, Number, Value, String, Letter, Notes, Statement, Phrase, End}
use Rattle.grammar.specs.Token.{Optional, Whether}

-- ---- "`SSS` comes first, with no space before it. Then `VERSION 1.1`": spaces alone between them
pub data Opening (d : List ℕ) : ℕ → Type 0 where
  opening : {a b c e m : ℕ} → Here d SSS (place_of (text d 0)) a → Spaces d a b → Here d VERSION b c → Spaces d c e
      → Run is_value e (text d e) ONE-ONE m → Opening d m

-- ---- "DATE, TIME, ORIGIN, USER, STANDARD NAMES in any order, each at most once": `l` were given before
pub data Item (d : List ℕ) : ℕ → HeadingEntry → ℕ → Type 0 where
  date : {n m : ℕ} {t : KeptText} → Phrase d DATE n t m → Item d n (entry 0 (some t)) m
  time : {n m : ℕ} {t : KeptText} → Phrase d TIME n t m → Item d n (entry 1 (some t)) m
  origin : {n m : ℕ} {t : KeptText} → Phrase d ORIGIN n t m → Item d n (entry 2 (some t)) m
  user : {n m : ℕ} {t : KeptText} → Phrase d USER n t m → Item d n (entry 3 (some t)) m
  standard_names : {n k m : ℕ} → Statement d STANDARD n k → Keyword d NAMES k m → Item d n (entry 4 none) m

pub data Items (d : List ℕ) : List HeadingEntry → ℕ → List HeadingEntry → ℕ → Type 0 where
  no_more : {l : List HeadingEntry} {n : ℕ} → Items d l n l n
  more : {l k : List HeadingEntry} {e : HeadingEntry} {n j m : ℕ} → Item d n e j → given e.item l ≡ false → Items d (e ∷ l) j k m
      → Items d l n k m

-- ---- "optional TITLE"
pub data Title (d : List ℕ) : ℕ → Option KeptText → ℕ → Type 0 where
  title : {n m : ℕ} {t : KeptText} → Phrase d TITLE n t m → Title d n (some t) m
  untitled : {n : ℕ} → Title d n none n

-- ---- "VALUES: a range `a TO b`, followed by WITH exactly when lines follow; lines are a value, a string, optional SPECIAL; `END VALUES`.
-- Without a range, at least one line"; notes "before a range, line or END"
pub data Line (d : List ℕ) : ℕ → says.Line → ℕ → Type 0 where
  line : {n k j i m : ℕ} {a : Amount} {t : KeptText} {s : Bool} → Notes d n k → Value d k a j → String d j t i → Whether d SPECIAL i s m
      → Line d n (record { value = a; text = t; special = s }) m

pub data Lines (d : List ℕ) : ℕ → List says.Line → ℕ → Type 0 where
  last : {n k m : ℕ} {l : says.Line} → Line d n l k → End d VALUES k m → Lines d n (l ∷ []) m
  more : {n k m : ℕ} {l : says.Line} {ls : List says.Line} → Line d n l k → Lines d k ls m → Lines d n (l ∷ ls) m

pub data Bounds (d : List ℕ) : ℕ → Range → ℕ → Type 0 where
  bounds : {n k j i h m : ℕ} {a b : Amount} → Notes d n k → Value d k a j → Keyword d TO j i → Gap d i h → Value d h b m
      → Bounds d n (record { from = a; to = b }) m

pub data Values (d : List ℕ) : ℕ → Block → ℕ → Type 0 where
  listed : {n k m : ℕ} {l : List says.Line} → Statement d VALUES n k → Lines d k l m → Values d n (record { range = none; lines = l }) m
  ranged : {n k j i m : ℕ} {r : Range} → Statement d VALUES n k → Bounds d k r j → Whether d WITH j false i → End d VALUES i m
      → Values d n (record { range = some r; lines = [] }) m
  both : {n k j i m : ℕ} {r : Range} {l : List says.Line} → Statement d VALUES n k → Bounds d k r j → Whether d WITH j true i
      → Lines d i l m
      → Values d n (record { range = some r; lines = l }) m

-- ---- "POSITION a [TO b], then by type. SINGLE and QUANTITY: VALUES. MULTIPLE: optional `SPREAD` n [`OF` w], then VALUES. CHARACTER: SIZE.
-- LOGICAL: nothing."
pub data Position (d : List ℕ) : ℕ → Figure → Option Figure → ℕ → Type 0 where
  position : {n k j m : ℕ} {a : Figure} {b : Option Figure} → Statement d POSITION n k → Number d k a j → Optional d TO (Number d) j b m
      → Position d n a b m

pub data Spread (d : List ℕ) : ℕ → Option says.Spread → ℕ → Type 0 where
  spread : {n k j m : ℕ} {x : Figure} {w : Option Figure} → Statement d SPREAD n k → Number d k x j → Optional d OF (Number d) j w m
      → Spread d n (some (record { count = x; width = w })) m
  undivided : {n : ℕ} → Spread d n none n

pub data Rest (d : List ℕ) : Sort → ℕ → Content → ℕ → Type 0 where
  single : {n m : ℕ} {b : Block} → Values d n b m → Rest d Single n (says.single b) m
  multiple : {n k m : ℕ} {s : Option says.Spread} {b : Block} → Spread d n s k → Values d k b m → Rest d Multiple n (says.multiple s b) m
  quantity : {n m : ℕ} {b : Block} → Values d n b m → Rest d Quantity n (says.quantity b) m
  character : {n k m : ℕ} {x : Figure} → Statement d SIZE n k → Number d k x m → Rest d Character n (says.character x) m
  logical : {n : ℕ} → Rest d Logical n says.logical n

-- ---- "A variable: `VARIABLE` id, NAME, LABEL, TYPE, POSITION a [TO b], then by type .. Then `END VARIABLE`."
abbrev pub type_word : Sort → List ℕ
type_word Single = SINGLE
type_word Multiple = MULTIPLE
type_word Quantity = QUANTITY
type_word Character = CHARACTER
type_word Logical = LOGICAL

pub data Variable (d : List ℕ) : ℕ → says.Variable → ℕ → Type 0 where
  variable : {n a b c e f g h i m : ℕ} {x s : Figure} {name label : KeptText} {t : Sort} {o : Option Figure} {r : Content}
      → Statement d VARIABLE n a → Number d a x b
      → Phrase d NAME b name c
      → Phrase d LABEL c label e
      → Statement d TYPE e f → Keyword d (type_word t) f g
      → Position d g s o h
      → Rest d t h r i
      → End d VARIABLE i m
      → Variable d n (record { ident = x; name = name; label = label; start = s; finish = o; content = r }) m

pub data Variables (d : List ℕ) : ℕ → List says.Variable → ℕ → Type 0 where
  one : {n m : ℕ} {v : says.Variable} → Variable d n v m → Variables d n (v ∷ []) m
  more : {n k m : ℕ} {v : says.Variable} {l : List says.Variable} → Variable d n v k → Variables d k l m → Variables d n (v ∷ l) m

-- ---- the whole: ".. `SURVEY`; optional TITLE; `RECORD` and one letter; one or more variables; `END RECORD`, `END SURVEY`, `END SSS`. What
-- follows is ignored."
pub data Definition (d : List ℕ) : Survey → ℕ → Type 0 where
  definition : {a b c e f g h i j m : ℕ} {l : List HeadingEntry} {t : Option KeptText} {x : ℕ} {v : List says.Variable}
      → Opening d a
      → Items d [] a l b
      → Statement d SURVEY b c
      → Title d c t e
      → Statement d RECORD e f → Letter d f x g
      → Variables d g v h
      → End d RECORD h i → End d SURVEY i j → End d SSS j m
      → Definition d (record { heading = heading l t x; variables = v }) m
