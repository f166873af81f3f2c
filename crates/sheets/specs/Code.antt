-- THE CODE'S BOOKS: the answers of the rule's readers (`xml_reading`) as the code of a sheet holds them, and what it keeps of the variables
-- that
-- were read.
use Rattle.std.specs.Prelude.{◌≡◌, Bool, List, [], ◌∷◌, ◌++◌, ℕ, ◌+◌, ◌*◌, ◌≤◌, ◌<◌, ℤ, length, Ok, Err}
use Rattle.std.proofs.Math.Option.{Option, none, some, get_or}
use Rattle.cells.specs.rule.Cell.{pasted}
use Rattle.layout.specs.rule.Layout.{row_size, line_size, most_rows, most_lines, mark_xml}
use Rattle.rows.specs.rule.Cells.{row_cells}
use Rattle.scan.specs.Number.{capped}
use Rattle.scan.specs.rule.Loop.{Next, Again, Done}
use Rattle.tokens.specs.declared.Quoted.{Quoted}
use Rattle.values.specs.Block.{empty_block}
use Rattle.variables.specs.declared.Head.{Head}
use Rattle.variables.specs.declared.Rest.{Rest}
use Rattle.survey.specs.rule.Survey.{Figure, KeptText, Spread, Block, Content}
use Rattle.survey.specs.rule.Width.{block_in}
use Rattle.survey.specs.rule.Table.{lines_of, lines_all, highest_in, cells_of, all_lines, spread_in}
use Rattle.reading.specs.rule.Result.{Result, Is, Not, Reader, bind, give}
use Rattle.statements.specs.declared.Position as books
use Rattle.reading.specs.rule.Statement.{Position}
use Rattle.bridge.specs.Statements.{even_or}
use Rattle.prologs.specs.rule.Told.{declaration_of}
use Rattle.xml_reading.specs.rule.Word.{VARIABLE, NAME, LABEL, POSITION, VALUES, SIZE, RECORD}
use Rattle.xml_reading.specs.rule.Open.{within_element, due, over}
use Rattle.xml_reading.specs.rule.Open as rule
use Rattle.xml_reading.specs.rule.Element.{text, position, size}
use Rattle.xml_reading.specs.rule.Block.{rich, values}
use Rattle.xml_reading.specs.rule.Role.{XmlEntry, Title, variables_of, title, naming, filter}
use Rattle.xml_reading.specs.rule.Variable.{Manner, Then, with, filtered, content, variable}
use Rattle.xml_reading.specs.rule.Sheet.{on_open}
use Rattle.xml_reading.specs.rule.Whole.{columns_for, xml_rows, xml_table, XmlOutcome, Refusal, xml_fitting, judge_xml_names, declared}
use Rattle.laying.specs.declared.Tally.{Tally}
use Rattle.laying.specs.declared.Rooms.{Rooms}
use Rattle.laying.specs.declared.Rooms.TheVariants as rooms
use Rattle.laying.specs.Code.{tally_with, cells_in}
use Rattle.elements.specs.declared.Open.TheVariants as opened
use Rattle.elements.specs.declared.Due.{Due}
use Rattle.elements.specs.declared.Due.TheVariants as dues
use Rattle.elements.specs.Code.{open_of, phrase_of, Within}
use Rattle.filters.specs.Code.{RowsOf, Idents}
use Rattle.filters.specs.Sums.{Summing}
use Rattle.xml_bridge.specs.Book.{quoted_as, size_in, block_as}
use Rattle.xml_bridge.specs.Table.{FineEntries}
use Rattle.xml_laws.specs.Reads.{Positioned}
use Rattle.xml_laws.specs.Parts.{after_position}
use Rattle.xml_laws.specs.Entries.{Titled}
use Rattle.xml_laws.specs.Sheets.{Named}
use Rattle.sheets.specs.declared.Fronted.{Fronted}
use Rattle.sheets.specs.declared.Fronted.TheVariants as fronted
use Rattle.sheets.specs.declared.Sifted.{Sifted}
use Rattle.sheets.specs.declared.Entered.{Entered}
use Rattle.sheets.specs.declared.Entered.TheVariants as entered
use Rattle.sheets.specs.declared.Turn.{Turn}
use Rattle.sheets.specs.declared.Turn.TheVariants as turns
use Rattle.sheets.specs.declared.Run.{Run}
use Rattle.sheets.specs.declared.Run.TheVariants as run
use Rattle.tokens.specs.rule.Gap.{OrFault}

-- ---- inside a variable
module _ (bad : Bool) (d : List ℕ) where
  -- the start tag of an element w is due
  abbrev pub due_in : List ℕ → Reader ℕ
  due_in w n = bind (within_element bad d VARIABLE n) λ o. due bad d w o give

  abbrev pub label_in : Bool → Reader KeptText
  label_in languages n = bind (within_element bad d VARIABLE n) λ o. due bad d LABEL o (text bad d LABEL (rich languages))

  abbrev pub position_in : Reader Position
  position_in n = bind (within_element bad d VARIABLE n) λ o. due bad d POSITION o (position bad d)

  -- the end tag of the variable
  abbrev pub end_in : Reader Unit
  end_in n = bind (within_element bad d VARIABLE n) (over bad d)

-- ---- where answers lie
abbrev pub DueEnds : List ℕ → Due → Type 0
DueEnds d (dues.At p e) = (1 ≤ e) × (e ≤ length d)
DueEnds d (dues.Not f) = Unit

abbrev pub PhraseEnds : List ℕ → OrFault Quoted → Type 0
PhraseEnds d (Ok q) = (q.place + q.length ≤ length d) × (q.next ≤ length d)
PhraseEnds d (Err f) = Unit

-- a head that may be measured
abbrev pub FrontEnds : List ℕ → Fronted → Type 0
FrontEnds d (fronted.Is h u n) =
    (n ≤ length d) × (h.name.place + h.name.length ≤ length d) × (1 ≤ h.start) × (h.start ≤ h.finish) × (h.finish ≤ 16384)
FrontEnds d (fronted.Not f) = Unit

abbrev pub StatedEnds : List ℕ → OrFault books.Position → Type 0
StatedEnds d (Ok q) = (q.next ≤ length d) × (1 ≤ q.start) × (q.start ≤ q.finish) × (q.finish ≤ 16384)
StatedEnds d (Err f) = Unit

-- ---- by type: what the code keeps of it, for a position of `room` bytes, behind `before` lines
abbrev pub count_in : Option Spread → ℕ
count_in none = 0
count_in (some s) = capped s.count.value

abbrev pub width_in : ℕ → Option Spread → ℕ
width_in room none = 0
width_in room (some s) = even_or room (capped s.count.value) s.width

-- without the place behind it
abbrev pub placeless_of : Rest → Rest
placeless_of r = record { block = r.block; last = r.last; subfields = r.subfields; subwidth = r.subwidth; size = r.size; next = 0 }

abbrev pub rested_in : ℕ → ℕ → Result Content → OrFault Rest
rested_in room before (Is c n) = Ok (record {
  block = block_as (block_in c);
  last = before + length (block_in c).lines;
  subfields = count_in (spread_in c);
  subwidth = width_in room (spread_in c);
  size = capped (size_in c);
  next = n;
})
rested_in room before (Not f) = Err f

-- a position of so many bytes
abbrev pub roomy : ℕ → Position
roomy k = record {
  start = record { place = 0; end = 0; digits = 0; value = 1 };
  finish = some (record { place = 0; end = 0; digits = 0; value = k });
}

module _ (bad : Bool) (d : List ℕ) (m : Manner) where
  abbrev pub content_by : ℕ → ℕ → ℕ → rule.Open → Reader Content
  content_by room before kind = content bad d m (roomy room) before kind

-- its lines stand in the room behind `before` others
pub record Rests (room before : ℕ) (k : Result Content) (lines lines' : List ℤ) (r : OrFault Rest) : Type 0 where
  pub is : r ≡ rested_in room before k
  pub line : (c : Content) (n : ℕ) → k ≡ Is c n → lines' ≡ pasted lines (line_size * before) (cells_of (block_in c).lines)

-- a block, or a size, and the end tag of the variable
module _ (bad : Bool) (d : List ℕ) where
  abbrev pub values_ended : Bool → Bool → ℕ → rule.Open → Reader Block
  values_ended languages is_quantity before o n =
      bind (due bad d VALUES o (values bad d languages is_quantity before) n) λ b n. bind (end_in bad d n) λ u n. Is b n

  abbrev pub size_ended : rule.Open → Reader Figure
  size_ended o n = bind (due bad d SIZE o (size bad d) n) λ x n. bind (end_in bad d n) λ u n. Is x n

abbrev pub valued_of : ℕ → ℕ → ℕ → Result Block → OrFault Rest
valued_of c w before (Is b n) = Ok (record {
  block = block_as b;
  last = before + length b.lines;
  subfields = c;
  subwidth = w;
  size = 0;
  next = n;
})
valued_of c w before (Not f) = Err f

pub record Valued (c w before : ℕ) (k : Result Block) (lines lines' : List ℤ) (r : OrFault Rest) : Type 0 where
  pub is : r ≡ valued_of c w before k
  pub line : (b : Block) (n : ℕ) → k ≡ Is b n → lines' ≡ pasted lines (line_size * before) (cells_of b.lines)

abbrev pub plain_of : ℕ → ℕ → OrFault ℕ → OrFault Rest
plain_of size before (Ok n) = Ok (record
    { block = empty_block; last = before; subfields = 0; subwidth = 0; size = size; next = n })
plain_of size before (Err f) = Err f

abbrev pub sized_of : ℕ → Result Figure → OrFault Rest
sized_of before (Is x n) = plain_of (capped x.value) before (Ok n)
sized_of before (Not f) = Err f

-- ---- a variable up to its position
pub record Front : Type 0 where
  pub title : Title
  pub name : KeptText
  pub label : KeptText
  pub position : Position

module _ (bad : Bool) (d : List ℕ) (m : Manner) (l : List XmlEntry) where
  abbrev pub name_in : Reader KeptText
  name_in n = bind (within_element bad d VARIABLE n) λ o. due bad d NAME o (naming bad d m.latin m.standard l)

  unfoldable pub front_of : ℕ → Reader Front
  front_of q e =
      bind (title bad d m.old l q e) λ t n. bind (name_in n) λ name n. bind (label_in bad d m.languages n) λ label n.
      bind (position_in bad d n) λ p n. Is (record { title = t; name = name; label = label; position = p }) n

  -- behind it
  unfoldable pub behind_front : Front → Reader XmlEntry
  behind_front x = after_position bad d m l x.title x.name x.label x.position

  -- a filter or none
  abbrev pub sifted_in : KeptText → ℕ → Reader (Then ℕ)
  sifted_in name usage n = bind (within_element bad d VARIABLE n) λ o. filtered bad d m l name usage o

abbrev pub head_of : Front → Head
head_of x = record {
  ident = capped x.title.ident.value;
  name = quoted_as x.name 0;
  label = quoted_as x.label 0;
  kind = x.title.type;
  start = capped x.position.start.value;
  finish = capped (get_or x.position.finish x.position.start).value;
  place = x.position.start.place;
  next = 0;
}

abbrev pub fronted_of : Result Front → Fronted
fronted_of (Is x n) = fronted.Is (head_of x) x.title.usage n
fronted_of (Not f) = fronted.Not f

abbrev pub placed_of : ℕ → ℕ → ℕ → Quoted → Quoted → Result Position → Fronted
placed_of ident kind usage a b (Is p n) = fronted.Is (record {
  ident = ident;
  name = record { place = a.place; length = a.length; next = 0 };
  label = record { place = b.place; length = b.length; next = 0 };
  kind = kind;
  start = capped p.start.value;
  finish = capped (get_or p.finish p.start).value;
  place = p.start.place;
  next = 0;
}) usage n
placed_of ident kind usage a b (Not f) = fronted.Not f

-- what was read of a variable up to its position, behind l
pub record FrontRead (bad : Bool) (d : List ℕ) (m : Manner) (l : List XmlEntry) (h : Head) (usage at : ℕ) : Type 0 where
  pub front : Front
  pub head_is : h ≡ head_of front
  pub usage_is : usage ≡ front.title.usage
  pub behind : ℕ
  pub titled : Titled bad d m.old l front.title behind
  pub short : front.title.ident.value < 10000
  pub typed : (1 ≤ front.title.type) × (front.title.type ≤ 5)
  pub placed : Positioned bad d front.position at
  pub name_in : front.name.place + front.name.length ≤ length d
  pub label_in : front.label.place + front.label.length ≤ length d

-- a tag that stands behind it, or the refusal
abbrev pub sifted_of : Result (Then ℕ) → Sifted
sifted_of (Is x n) = record { filter = x.it; tag = open_of (Is x.behind n) }
sifted_of (Not f) = record { filter = 0; tag = opened.Not f }

-- ---- what the code keeps of the variables l that were read
unfoldable pub tally_of : List XmlEntry → Tally
tally_of l = record { rows = length l; lines = lines_all (variables_of l); length = highest_in (variables_of l) }

pub record Before (d : List ℕ) (seen : List ℕ) (y : Tally) (rows : List ℤ) (l : List XmlEntry) : Type 0 where
  pub tally : y ≡ tally_of l
  pub held : RowsOf rows y.rows l
  pub idents : Idents seen l
  pub fine : FineEntries l
  pub named : Named d l

pub record Sofar (d : List ℕ) (seen : List ℕ) (y : Tally) (rows : List ℤ) : Type 0 where
  pub read : List XmlEntry
  pub before : Before d seen y rows read
  pub seen_long : length seen ≡ 10000
  pub rows_long : length rows ≡ row_size * most_rows

-- and the room of sums has their names
pub record Knowing (latin : Bool) (d : List ℕ) (seen : List ℕ) (y : Tally) (rows : List ℤ) (sums : List ℕ) : Type 0 where
  pub sofar : Sofar d seen y rows
  pub summing : Summing latin d rows y.rows sums

-- ---- what the code says, for whatever variables stand before
module _ (bad : Bool) (d : List ℕ) (m : Manner) (rows : List ℤ) (count : ℕ) where
  pub record NameSaid (at : ℕ) (r : OrFault Quoted) : Type 0 where
    pub is : (l : List XmlEntry) → RowsOf rows count l → r ≡ phrase_of (name_in bad d m l at)
    pub ends : PhraseEnds d r

  pub record FrontSaid (seen : List ℕ) (q e : ℕ) (r : Fronted) : Type 0 where
    pub is : (l : List XmlEntry) → RowsOf rows count l → Idents seen l → r ≡ fronted_of (front_of bad d m l q e)
    pub ends : FrontEnds d r

  pub record SiftSaid (name : KeptText) (usage at : ℕ) (r : Sifted) : Type 0 where
    pub is : (l : List XmlEntry) → RowsOf rows count l → r ≡ sifted_of (sifted_in bad d m l name usage at)
    pub ends : Within d 0 r.tag

  pub record FilterSaid (name : KeptText) (usage p e : ℕ) (r : Sifted) : Type 0 where
    pub is : (l : List XmlEntry) → RowsOf rows count l
        → r ≡ sifted_of (bind (filter bad d m.latin m.standard l name usage p e) λ f n. bind (within_element bad d VARIABLE n) λ o k. Is
        (with f o) k)
    pub ends : Within d 0 r.tag

abbrev pub entered_of : Tally → Result XmlEntry → Entered
entered_of y (Is v n) =
    entered.Is v.variable.ident.value (tally_with y (columns_for y.lines v) (y.lines + length (lines_of v.variable))) n
entered_of y (Not f) = entered.Not f

-- what a reader k of one more variable gives, and its row and lines behind those before
pub record Joined (d : List ℕ) (seen : List ℕ) (y : Tally) (rows rows' lines lines' : List ℤ) (k : List XmlEntry → Result XmlEntry)
    (r : Entered) : Type 0 where
  pub is : (l : List XmlEntry) → Before d seen y rows l → r ≡ entered_of y (k l)
  pub row : (l : List XmlEntry) → Before d seen y rows l → (v : XmlEntry) (n : ℕ) → k l ≡ Is v n
      → rows' ≡ pasted rows (row_size * y.rows) (row_cells (columns_for y.lines v))
  pub line : (l : List XmlEntry) → Before d seen y rows l → (v : XmlEntry) (n : ℕ) → k l ≡ Is v n
      → lines' ≡ pasted lines (line_size * y.lines) (cells_of (lines_of v.variable))

-- behind the position
pub record Bodied (bad : Bool) (d : List ℕ) (m : Manner) (seen : List ℕ) (y : Tally) (h : Head) (usage at : ℕ)
    (rows rows' lines lines' : List ℤ) (r : Entered)
    : Type 0 where
  pub is : (l : List XmlEntry) → Before d seen y rows l → (x : FrontRead bad d m l h usage at) → r
      ≡ entered_of y (behind_front bad d m l x.front at)
  pub row : (l : List XmlEntry) → Before d seen y rows l → (x : FrontRead bad d m l h usage at) → (v : XmlEntry) (n : ℕ)
      → behind_front bad d m l x.front at ≡ Is v n → rows' ≡ pasted rows (row_size * y.rows) (row_cells (columns_for y.lines v))
  pub line : (l : List XmlEntry) → Before d seen y rows l → (x : FrontRead bad d m l h usage at) → (v : XmlEntry) (n : ℕ)
      → behind_front bad d m l x.front at ≡ Is v n → lines' ≡ pasted lines (line_size * y.lines) (cells_of (lines_of v.variable))

-- ---- all variables
module _ (bad : Bool) (d : List ℕ) (m : Manner) where
  -- one more: the first is due, behind it the record may end
  abbrev pub or_over : List XmlEntry → rule.Open → Reader (Next (List XmlEntry) (List XmlEntry))
  or_over [] o = due bad d VARIABLE o (λ p n. bind (variable bad d m [] p n) λ v k. Is (Again (v ∷ [])) k)
  or_over (w ∷ l) o = on_open bad d m (w ∷ l) o

  unfoldable pub one_more : List XmlEntry → Reader (Next (List XmlEntry) (List XmlEntry))
  one_more l n = bind (within_element bad d RECORD n) (or_over l)

-- the ident of the last one
unfoldable pub last_ident : List XmlEntry → ℕ
last_ident [] = 0
last_ident (v ∷ []) = v.variable.ident.value
last_ident (v ∷ w ∷ l) = last_ident (w ∷ l)

abbrev pub turn_of : Tally → Result (Next (List XmlEntry) (List XmlEntry)) → Turn
turn_of y (Is (Again l) n) = turns.More (last_ident l) (tally_of l) n
turn_of y (Is (Done l) n) = turns.Over y n
turn_of y (Not f) = turns.Not f

pub record Turned (bad : Bool) (d : List ℕ) (m : Manner) (seen : List ℕ) (y : Tally) (at : ℕ) (rows rows' lines lines' : List ℤ)
    (r : Turn) : Type 0 where
  pub is : (l : List XmlEntry) → Before d seen y rows l → r ≡ turn_of y (one_more bad d m l at)
  pub row : (l : List XmlEntry) → Before d seen y rows l → (v : XmlEntry) (n : ℕ) → one_more bad d m l at ≡ Is (Again (l ++ v ∷ [])) n
      → rows' ≡ pasted rows (row_size * y.rows) (row_cells (columns_for y.lines v))
  pub line : (l : List XmlEntry) → Before d seen y rows l → (v : XmlEntry) (n : ℕ) → one_more bad d m l at ≡ Is (Again (l ++ v ∷ [])) n
      → lines' ≡ pasted lines (line_size * y.lines) (cells_of (lines_of v.variable))

abbrev pub run_of : Result (List XmlEntry) → Run
run_of (Is l n) = run.Is (tally_of l) n
run_of (Not f) = run.Not f

-- their rows and lines stand at the start of the rooms
pub record Laid (r : Result (List XmlEntry)) (rows rows' lines lines' : List ℤ) : Type 0 where
  pub rows_laid : (l : List XmlEntry) (n : ℕ) → r ≡ Is l n → rows' ≡ pasted rows 0 (xml_rows 0 l)
  pub lines_laid : (l : List XmlEntry) (n : ℕ) → r ≡ Is l n → lines' ≡ pasted lines 0 (all_lines (variables_of l))

-- ---- the whole: the rooms hold its table, which is all but for the room of a lent one; or it is refused
pub record Standing (o : ℕ → XmlOutcome) (rows lines : List ℤ) (y : Tally) : Type 0 where
  pub read : List XmlEntry
  pub fine : FineEntries read
  pub tally : y ≡ tally_of read
  pub few : (y.rows ≤ most_rows) × (y.lines ≤ most_lines) × (y.length ≤ 16384)
  pub cells : cells_in mark_xml y rows lines ≡ xml_table read
  pub outcome : (n : ℕ) → o n ≡ xml_fitting n read

pub record RoomsRead (o : ℕ → XmlOutcome) (rows lines : List ℤ) (r : Rooms) : Type 0 where
  pub stands : {y : Tally} → r ≡ rooms.Held y → Standing o rows lines y
  pub refuses : {k p : ℕ} → r ≡ rooms.Refused k p → (n : ℕ) → o n ≡ Refusal k p

-- 9 judged of the variables that the rooms hold
pub record NamesSettled (d : List ℕ) (m : Manner) (y : Tally) (rows : List ℤ) (r : Rooms) : Type 0 where
  pub passes : {z : Tally} → r ≡ rooms.Held z → (l : List XmlEntry) → RowsOf rows y.rows l
      → (z ≡ y) × ((n : ℕ) → judge_xml_names m.latin d n m.standard l ≡ xml_fitting n l)
  pub fails : {k p : ℕ} → r ≡ rooms.Refused k p → (l : List XmlEntry) → RowsOf rows y.rows l
      → (n : ℕ) → judge_xml_names m.latin d n m.standard l ≡ Refusal k p

-- for a lent table of n numbers
abbrev pub outcome_in : List ℕ → ℕ → XmlOutcome
outcome_in d n = declared d n (declaration_of d)
