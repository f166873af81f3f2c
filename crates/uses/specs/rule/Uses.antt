-- "use (0 none, 1 serial, 2 weight) and filter (row number plus one of an earlier logical, 0 none); the first header number becomes 12 for
-- XML, and the rows of 1.1 files carry 0 in both. .. At most one serial, a character or quantity, and one weight, a quantity; neither may
-- have a filter. .. SPECIAL is always 0 here." A negative number counts as more than every limit (`count_of`).
use Rattle.std.specs.Prelude.{Bool, cond, not, ◌&&◌, ◌||◌, List, ℕ, ◌-◌, eqb, leb, ℤ}
use Rattle.below.specs.rule.Below.{◌and◌, all_below, sum_below}
use Rattle.layout.specs.rule.Layout.{mark_xml, row_base, line_base, columns_at, line_at}
use Rattle.layout.specs.declared.Header.{Header}
use Rattle.layout.specs.declared.Columns.{Columns}

-- ---- a table of a 1.1 definition
-- "the rows of 1.1 files carry 0 in both"
abbrev pub unused : Columns → Bool
unused c = eqb c.usage 0 && eqb c.filter 0

unfoldable pub rows_unused : List ℤ → ℕ → Bool
rows_unused t v = all_below v (λ i. unused (columns_at t (row_base i)))

-- ---- a table of one in XML
-- "0 none, 1 serial, 2 weight"
abbrev pub use_known : Columns → Bool
use_known c = leb c.usage 2

-- a serial is "a character or quantity"
abbrev pub serial_typed : Columns → Bool
serial_typed c = not (eqb c.usage 1) || (leb 3 c.kind && leb c.kind 4)

-- a weight is "a quantity"
abbrev pub weight_typed : Columns → Bool
weight_typed c = not (eqb c.usage 2) || eqb c.kind 3

-- "neither may have a filter"
abbrev pub unfiltered : Columns → Bool
unfiltered c = eqb c.usage 0 || eqb c.filter 0

abbrev pub own_use : Columns → Bool
own_use c = use_known c && serial_typed c && weight_typed c && unfiltered c

-- of row i: "row number plus one of an earlier logical, 0 none"
unfoldable pub filter_good : List ℤ → ℕ → Columns → Bool
filter_good t i c = eqb c.filter 0 || (leb c.filter i && eqb (columns_at t (row_base (c.filter - 1))).kind 5)

unfoldable pub use_good : List ℤ → ℕ → Columns → Bool
use_good t i c = own_use c && filter_good t i c

-- "at most one serial .. and one weight": 1 for each row of use k, added up
unfoldable pub is_use : ℕ → ℕ → ℕ
is_use usage k = cond (eqb usage k) 1 0

abbrev pub uses_of : List ℤ → ℕ → ℕ → ℕ
uses_of t v k = sum_below v (λ i. is_use (columns_at t (row_base i)).usage k)

abbrev pub once_each : List ℤ → ℕ → Bool
once_each t v = leb (uses_of t v 1) 1 && leb (uses_of t v 2) 1

unfoldable pub uses_good : List ℤ → ℕ → Bool
uses_good t v = all_below v (λ i. use_good t i (columns_at t (row_base i))) and once_each t v

-- "SPECIAL is always 0 here"
unfoldable pub specials_none : List ℤ → ℕ → ℕ → Bool
specials_none t v e = all_below e (λ j. eqb (line_at t (line_base v j)).special 0)

unfoldable pub xml_good : List ℤ → ℕ → ℕ → Bool
xml_good t v e = uses_good t v and specials_none t v e

-- ---- by the mark
unfoldable pub kind_good : List ℤ → Header → Bool
kind_good t h = cond (eqb h.mark mark_xml) (xml_good t h.rows h.lines) (rows_unused t h.rows)
