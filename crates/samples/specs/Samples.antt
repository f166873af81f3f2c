-- Good and bad tables, decided by computation in the definitions.
use Rattle.std.specs.Prelude.{◌≡◌, refl, Bool, true, false, cond, ◌&&◌, List, [], ◌∷◌, ◌++◌, ℕ, ◌+◌, ◌*◌, ◌-◌, eqb, leb, ℤ, pos, negsuc}
use Rattle.std.specs.Prelude.{length, set, take}
use Rattle.ascii.specs.rule.Tens.{count_from, digits_of}
use Rattle.below.specs.rule.Below.{◌and◌, all_below, sum_below, max_below}
use Rattle.cells.specs.rule.Cell.{count_of, signed_of, number_of, eq_z}
use Rattle.layout.specs.rule.Layout.{mark, mark_xml, header_size, row_base, lines_base, line_base, header_of, columns_at, line_at}
use Rattle.layout.specs.rule.Row.{row_of, row_at, kind_of, spread_of}
use Rattle.layout.specs.declared.Columns.{Columns}
use Rattle.layout.specs.declared.Row.{Row}
use Rattle.rows.specs.rule.Cells.{row_cells, header_cells}
use Rattle.uses.specs.rule.Uses.{rows_unused, use_known, serial_typed, weight_typed, unfiltered, filter_good, use_good, is_use, uses_of}
use Rattle.uses.specs.rule.Uses.{uses_good}
use Rattle.uses.specs.rule.Uses.{specials_none, xml_good, kind_good}
use Rattle.widths.specs.rule.Width.{need, tail_of, least_whole, whole_digits, quantity_width, most_size, lowest, highest}
use Rattle.strides.specs.rule.Stride.{number_new, all_differ}
use Rattle.sound.specs.rule.Sound.{head_counts, head_sums, type_known, decimals_few, range_flag, point_known, lacked_zero, point_given}
use Rattle.sound.specs.rule.Sound.{shares_given}
use Rattle.sound.specs.rule.Sound.{values_given}
use Rattle.sound.specs.rule.Sound.{ident_good, position_good, subfields_good, texts_good, range_lacked, range_good, lines_plain, values_fit}
use Rattle.sound.specs.rule.Sound.{value_at, range_width, widest, width_good, room_good, lines_good, values_good, widths_good, counts_good}
use Rattle.sound.specs.rule.Sound.{places_good, columns_good, row_good, columns_of, lines_before, highest_finish, idents_differ, rows_good}
use Rattle.sound.specs.rule.Sound.{well_formed}

-- ---- a header, rows and lines from what they hold
abbrev pub header : ℕ → ℕ → ℕ → ℕ → List ℤ
header mark rows lines length =
    header_cells (record {
      mark = mark;
      rows = rows;
      lines = lines;
      length = length;
      rows_at = header_size;
      lines_at = lines_base rows;
    })

-- columns that only some types have
pub record Own : Type 0 where
  pub decimals : ℕ
  pub point : ℕ
  pub subfields : ℕ
  pub subwidth : ℕ
  pub range : ℕ
  pub from : ℤ
  pub to : ℤ

abbrev none : Own
none = record { decimals = 0; point = 0; subfields = 0; subwidth = 0; range = 0; from = pos 0; to = pos 0 }

abbrev ranged : ℤ → ℤ → Own
ranged from to = record { decimals = 0; point = 0; subfields = 0; subwidth = 0; range = 1; from = from; to = to }

abbrev tenths : ℤ → ℤ → Own
tenths from to = record { decimals = 1; point = 1; subfields = 0; subwidth = 0; range = 1; from = from; to = to }

-- a row of this ident, type, position, width and lines; its texts stand at places of their own
abbrev pub columns : ℕ → ℕ → ℕ → ℕ → ℕ → Own → ℕ → ℕ → ℕ → ℕ → List ℤ
columns ident kind start finish width own before lines usage filter =
    row_cells (record {
      ident = ident;
      kind = kind;
      start = start;
      finish = finish;
      width = width;
      decimals = own.decimals;
      point = own.point;
      subfields = own.subfields;
      subwidth = own.subwidth;
      range = own.range;
      from = own.from;
      to = own.to;
      before = before;
      lines = lines;
      name = 100 * ident;
      name_len = 4;
      label = 100 * ident + 13;
      label_len = 4;
      usage = usage;
      filter = filter;
    })

abbrev line : ℕ → ℕ → ℕ → ℕ → List ℤ
line value special text length = pos value ∷ pos special ∷ pos text ∷ pos length ∷ []

-- where a number of a row stands, and one of a line in a table of six rows
abbrev pub in_row : ℕ → ℕ → ℕ
in_row i column = row_base i + column

abbrev on_line : ℕ → ℕ → ℕ
on_line j column = line_base 6 j + column

abbrev IDENT : ℕ
IDENT = 0

abbrev TYPE : ℕ
TYPE = 1

abbrev START : ℕ
START = 2

abbrev pub FINISH : ℕ
FINISH = 3

abbrev pub WIDTH : ℕ
WIDTH = 4

abbrev pub DECIMALS : ℕ
DECIMALS = 5

abbrev pub POINT : ℕ
POINT = 6

abbrev SUBFIELDS : ℕ
SUBFIELDS = 7

abbrev SUBWIDTH : ℕ
SUBWIDTH = 8

abbrev RANGE : ℕ
RANGE = 9

abbrev FROM : ℕ
FROM = 10

abbrev pub TO : ℕ
TO = 11

abbrev BEFORE : ℕ
BEFORE = 12

abbrev NAME : ℕ
NAME = 14

abbrev LABEL-LEN : ℕ
LABEL-LEN = 17

abbrev USE : ℕ
USE = 18

abbrev FILTER : ℕ
FILTER = 19

abbrev VALUE : ℕ
VALUE = 0

abbrev SPECIAL : ℕ
SPECIAL = 1

abbrev TEXT : ℕ
TEXT = 2

-- ---- a sound table: a SINGLE from 1 to 12; a bitstring of 1, 2 and 4; a spread of two subfields of three bytes, from 1 to 9; a quantity
-- from -1.0 to 99.5 with 999.0 on a line; a text of ten bytes; a truth
abbrev spread_own : Own
spread_own = record { decimals = 0; point = 0; subfields = 2; subwidth = 3; range = 1; from = pos 1; to = pos 9 }

abbrev pub good : List ℤ
good =
    header 11 6 4 29
    ++ columns 1 1 1 2 2 (ranged (pos 1) (pos 12)) 0 0 0 0
    ++ columns 2 2 3 6 4 none 0 3 0 0
    ++ columns 3 2 7 12 1 spread_own 3 0 0 0
    ++ columns 4 3 13 18 5 (tenths (negsuc 9) (pos 995)) 3 1 0 0
    ++ columns 5 4 19 28 10 none 4 0 0 0
    ++ columns 6 5 29 29 1 none 4 0 0 0
    ++ line 1 0 160 1 ++ line 2 0 166 1 ++ line 4 0 172 1 ++ line 9990 1 372 2

-- the same with shares: the quantity from -.9 to .9, with .5 on a line, has point code 2 and is three bytes wide
abbrev pub share : List ℤ
share = set (set (set (set (set good (in_row 3 POINT) (pos 2)) (in_row 3 FROM) (negsuc 8)) (in_row 3 TO) (pos 9)) (on_line 3 VALUE) (pos 5))
    (in_row 3 WIDTH) (pos 3)

-- a sound table of XML: a truth; a truth that it filters; a SINGLE that the second filters; a text that is the serial; a quantity that is
-- the weight; a quantity with a line, filtered by the first
abbrev pub xml : List ℤ
xml =
    header 12 6 1 26
    ++ columns 1 5 1 1 1 none 0 0 0 0
    ++ columns 2 5 2 2 1 none 0 0 0 1
    ++ columns 3 1 3 4 2 (ranged (pos 1) (pos 12)) 0 0 0 2
    ++ columns 4 4 5 14 10 none 0 0 1 0
    ++ columns 5 3 15 20 4 (tenths (negsuc 9) (pos 995)) 0 0 2 0
    ++ columns 6 3 21 26 5 (tenths (negsuc 9) (pos 995)) 0 1 0 1
    ++ line 9990 0 372 2

-- ---- the clauses of the test, and those that fail on a table
pub data Clause : Type 0 where
  counts : Clause
  sums : Clause
  types : Clause
  decimals : Clause
  flags : Clause
  codes : Clause
  lacked : Clause
  points : Clause
  shares : Clause
  values : Clause
  idents : Clause
  positions : Clause
  subfields : Clause
  texts : Clause
  ranges_lacked : Clause
  lines_before_lem : Clause
  lines_added : Clause
  ranges : Clause
  lines_plain_lem : Clause
  numbers_fit : Clause
  numbers_differ : Clause
  widths : Clause
  rooms : Clause
  lengths : Clause
  idents_differ_lem : Clause
  uses_none : Clause
  uses_known : Clause
  serials : Clause
  weights : Clause
  used_filtered : Clause
  filters : Clause
  serials_once : Clause
  weights_once : Clause
  specials : Clause

abbrev unless : Bool → Clause → List Clause → List Clause
unless b c cs = cond b cs (c ∷ cs)

-- a test of every row's columns, and of every row
abbrev all : List ℤ → (Columns → Bool) → Bool
all t f = all_below (header_of t).rows (λ i. f (columns_of t i))

abbrev each : List ℤ → (Row → Bool) → Bool
each t f = all_below (header_of t).rows (λ i. f (row_at t i))

-- those that the mark of XML brings
abbrev xml_failing : List ℤ → List Clause → List Clause
xml_failing t cs =
    let v = (header_of t).rows in
    cond (eqb (header_of t).mark mark_xml)
    (unless (all t use_known) uses_known
    (unless (all t serial_typed) serials
    (unless (all t weight_typed) weights
    (unless (all t unfiltered) used_filtered
    (unless (all_below v (λ i. filter_good t i (columns_of t i))) filters
    (unless (leb (uses_of t v 1) 1) serials_once
    (unless (leb (uses_of t v 2) 1) weights_once
    (unless (specials_none t v (header_of t).lines) specials cs)))))))) cs

abbrev pub failing : List ℤ → List Clause
failing t =
    let v = (header_of t).rows in
    let e = (header_of t).lines in
    unless (head_counts (header_of t)) counts
    (unless (head_sums (header_of t) (length t)) sums
    (unless (all t type_known) types
    (unless (all t decimals_few) decimals
    (unless (all t range_flag) flags
    (unless (all t point_known) codes
    (unless (all t lacked_zero) lacked
    (unless (all t point_given) points
    (unless (all t shares_given) shares
    (unless (all t values_given) values
    (unless (all t ident_good) idents
    (unless (all t position_good) positions
    (unless (all t subfields_good) subfields
    (unless (all t texts_good) texts
    (unless (all t range_lacked) ranges_lacked
    (unless (all_below v (λ i. eqb (columns_of t i).before (lines_before t i))) lines_before_lem
    (unless (all_below v (λ i. leb (lines_before t i + (columns_of t i).lines) e) && eqb (lines_before t v) e) lines_added
    (unless (each t range_good) ranges
    (unless (each t (λ r. lines_plain t v r.before r.lines)) lines_plain_lem
    (unless (each t (λ r. values_fit r.kind (value_at t v r.before) r.lines)) numbers_fit
    (unless (each t (λ r. all_differ (value_at t v r.before) r.lines)) numbers_differ
    (unless (each t (λ r. width_good r.kind r.width (widest t v r))) widths
    (unless (each t (λ r. room_good r.kind r)) rooms
    (unless (eqb (highest_finish t v) (header_of t).length) lengths
    (unless (idents_differ t v) idents_differ_lem
    (unless (cond (eqb (header_of t).mark mark) (rows_unused t v) true) uses_none (xml_failing t []))))))))))))))))))))))))))

-- nothing fails on the sound tables; numbers beyond one are not looked at; the empty table is refused
pub decided : (well_formed good ≡ true) × (failing good ≡ []) × (well_formed (good ++ negsuc 6 ∷ pos 3 ∷ []) ≡ true)
    × (well_formed [] ≡ false)
    × (well_formed share ≡ true) × (failing share ≡ []) × (well_formed xml ≡ true) × (failing xml ≡ [])
unfolding well_formed rows_good row_good columns_good counts_good places_good values_good lines_good widths_good lines_plain values_fit
    all_differ number_new range_width widest width_good room_good idents_differ ◌and◌ all_below sum_below max_below count_of signed_of eq_z
    header_of columns_at line_at row_of kind_of spread_of need tail_of least_whole whole_digits quantity_width most_size lowest highest
    digits_of
    count_from number_of row_cells header_cells kind_good rows_unused xml_good uses_good use_good filter_good is_use specials_none
decided = (refl, refl, refl, refl, refl, refl, refl, refl)

-- ---- tables that break one clause each
pub record Broken : Type 0 where
  pub table : List ℤ
  pub clause : Clause

abbrev breaks : Clause → List ℤ → Broken
breaks c t = record { table = t; clause = c }

abbrev pub broken : List Broken
broken =
    -- another first number
    breaks counts (set good 0 (pos 10))
    ∷ breaks counts (set xml 0 (pos 13))
    -- no rows at all
    ∷ breaks counts (header 11 0 0 0)
    -- rows elsewhere
    ∷ breaks sums (set good 4 (pos 7))
    -- too short by one number
    ∷ breaks sums (take (line_base 6 4 - 1) good)
    -- a sixth type
    ∷ breaks types (set good (in_row 5 TYPE) (pos 6))
    -- ten decimals, with their width
    ∷ breaks decimals (set (set (set good (in_row 3 DECIMALS) (pos 10)) (in_row 3 WIDTH) (pos 13)) (in_row 3 FINISH) (pos 25))
    -- a range flag of 2
    ∷ breaks flags (set (set (set good (in_row 3 RANGE) (pos 2)) (in_row 3 FROM) (pos 0)) (in_row 3 TO) (pos 0))
    -- point 3
    ∷ breaks codes (set good (in_row 3 POINT) (pos 3))
    -- a SINGLE with subfields
    ∷ breaks lacked (set (set good (in_row 0 SUBFIELDS) (pos 2)) (in_row 0 SUBWIDTH) (pos 3))
    -- a SINGLE with a decimal and its point
    ∷ breaks lacked (set (set good (in_row 0 DECIMALS) (pos 1)) (in_row 0 POINT) (pos 1))
    -- a LOGICAL with a range
    ∷ breaks lacked (set (set (set good (in_row 5 RANGE) (pos 1)) (in_row 5 FROM) (pos 1)) (in_row 5 TO) (pos 1))
    -- a decimal and no point
    ∷ breaks points (set (set good (in_row 3 POINT) (pos 0)) (in_row 3 WIDTH) (pos 3))
    -- point code 2 and no decimals
    ∷ breaks shares (set (set (set (set (set (set good (in_row 3 DECIMALS) (pos 0)) (in_row 3 POINT) (pos 2)) (in_row 3 FROM) (pos 0))
    (in_row 3 TO) (pos 0)) (on_line 3 VALUE) (pos 0)) (in_row 3 WIDTH) (pos 1))
    -- a SINGLE with neither range nor line
    ∷ breaks values (set (set (set (set good (in_row 0 RANGE) (pos 0)) (in_row 0 FROM) (pos 0)) (in_row 0 TO) (pos 0)) (in_row 0 WIDTH)
    (pos 0))
    -- ident 0
    ∷ breaks idents (set good (in_row 0 IDENT) (pos 0))
    -- ident of five digits
    ∷ breaks idents (set good (in_row 5 IDENT) (pos 10000))
    -- a negative ident
    ∷ breaks idents (set good (in_row 0 IDENT) (negsuc 0))
    -- start 0
    ∷ breaks positions (set good (in_row 4 START) (pos 0))
    -- finish past 16,384
    ∷ breaks positions (set (set good (in_row 5 FINISH) (pos 16385)) 3 (pos 16385))
    -- a subfield width and no subfields
    ∷ breaks subfields (set good (in_row 1 SUBWIDTH) (pos 3))
    -- a text place past 1,048,576
    ∷ breaks texts (set good (in_row 0 NAME) (pos 1048577))
    -- a negative label length
    ∷ breaks texts (set good (in_row 5 LABEL-LEN) (negsuc 0))
    -- from without a range
    ∷ breaks ranges_lacked (set good (in_row 1 FROM) (pos 1))
    -- lines before miscounted
    ∷ breaks lines_before_lem (set good (in_row 5 BEFORE) (pos 3))
    -- a fifth line that no row has
    ∷ breaks lines_added (set (good ++ line 5 0 0 0) 2 (pos 5))
    -- a range reversed
    ∷ breaks ranges (set (set good (in_row 0 FROM) (pos 12)) (in_row 0 TO) (pos 1))
    -- SPECIAL 2
    ∷ breaks lines_plain_lem (set good (on_line 0 SPECIAL) (pos 2))
    -- a negative text place
    ∷ breaks lines_plain_lem (set good (on_line 3 TEXT) (negsuc 0))
    -- 1.0 on a line, under point code 2
    ∷ breaks numbers_fit (set share (on_line 3 VALUE) (pos 10))
    -- -1.0 at the range's start, under point code 2
    ∷ breaks ranges (set (set share (in_row 3 FROM) (negsuc 9)) (in_row 3 WIDTH) (pos 4))
    -- a digit before the point counted, under point code 2
    ∷ breaks widths (set share (in_row 3 WIDTH) (pos 4))
    -- category 0
    ∷ breaks numbers_fit (set good (on_line 0 VALUE) (pos 0))
    -- a negative category
    ∷ breaks numbers_fit (set good (on_line 0 VALUE) (negsuc 0))
    -- 4 labelled twice
    ∷ breaks numbers_differ (set good (on_line 1 VALUE) (pos 4))
    -- w one digit short
    ∷ breaks widths (set good (in_row 0 WIDTH) (pos 1))
    -- SIZE 0
    ∷ breaks widths (set good (in_row 4 WIDTH) (pos 0))
    -- a position too narrow
    ∷ breaks rooms (set (set good (in_row 0 TO) (pos 123)) (in_row 0 WIDTH) (pos 3))
    -- subfields past the position
    ∷ breaks rooms (set good (in_row 2 SUBFIELDS) (pos 3))
    -- L above the highest finish
    ∷ breaks lengths (set good 3 (pos 30))
    -- ident 1 twice
    ∷ breaks idents_differ_lem (set good (in_row 1 IDENT) (pos 1))
    -- a use, and a filter, under the mark of 1.1
    ∷ breaks uses_none (set good (in_row 3 USE) (pos 1))
    ∷ breaks uses_none (set (set (set xml 0 (pos 11)) (in_row 3 USE) (pos 0)) (in_row 4 USE) (pos 0))
    -- a SPECIAL line under the mark of XML
    ∷ breaks specials (set good 0 (pos 12))
    -- a third use, and a negative one
    ∷ breaks uses_known (set (set xml (in_row 5 USE) (pos 3)) (in_row 5 FILTER) (pos 0))
    ∷ breaks uses_known (set (set xml (in_row 5 USE) (negsuc 0)) (in_row 5 FILTER) (pos 0))
    -- a SINGLE, and a LOGICAL, as the serial
    ∷ breaks serials (set (set (set xml (in_row 3 USE) (pos 0)) (in_row 2 USE) (pos 1)) (in_row 2 FILTER) (pos 0))
    ∷ breaks serials (set (set xml (in_row 3 USE) (pos 0)) (in_row 0 USE) (pos 1))
    -- a CHARACTER as the weight
    ∷ breaks weights (set (set xml (in_row 3 USE) (pos 2)) (in_row 4 USE) (pos 0))
    -- a serial, and a weight, with a filter
    ∷ breaks used_filtered (set xml (in_row 3 FILTER) (pos 1))
    ∷ breaks used_filtered (set xml (in_row 4 FILTER) (pos 2))
    -- filtered by itself, by a later LOGICAL, by a SINGLE, and by no row
    ∷ breaks filters (set xml (in_row 1 FILTER) (pos 2))
    ∷ breaks filters (set xml (in_row 0 FILTER) (pos 2))
    ∷ breaks filters (set xml (in_row 5 FILTER) (pos 3))
    ∷ breaks filters (set xml (in_row 5 FILTER) (pos 7))
    ∷ breaks filters (set xml (in_row 5 FILTER) (negsuc 0))
    -- a second serial, and a second weight
    ∷ breaks serials_once (set (set xml (in_row 5 USE) (pos 1)) (in_row 5 FILTER) (pos 0))
    ∷ breaks weights_once (set (set xml (in_row 5 USE) (pos 2)) (in_row 5 FILTER) (pos 0))
    ∷ []

abbrev refused : List Broken → List Bool
refused [] = []
refused (b ∷ bs) = well_formed b.table ∷ refused bs

abbrev never : List Broken → List Bool
never [] = []
never (b ∷ bs) = false ∷ never bs

abbrev failings : List Broken → List (List Clause)
failings [] = []
failings (b ∷ bs) = failing b.table ∷ failings bs

abbrev alone : List Broken → List (List Clause)
alone [] = []
alone (b ∷ bs) = (b.clause ∷ []) ∷ alone bs

-- each is refused, and for its one clause alone
pub each_breaks_one : (refused broken ≡ never broken) × (failings broken ≡ alone broken)
unfolding well_formed rows_good row_good columns_good counts_good places_good values_good lines_good widths_good lines_plain values_fit
    all_differ number_new range_width widest width_good room_good idents_differ ◌and◌ all_below sum_below max_below count_of signed_of eq_z
    header_of columns_at line_at row_of kind_of spread_of need tail_of least_whole whole_digits quantity_width most_size lowest highest
    digits_of
    count_from number_of row_cells header_cells kind_good rows_unused xml_good uses_good use_good filter_good is_use specials_none
each_breaks_one = (refl, refl)
