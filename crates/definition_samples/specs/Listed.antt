-- Document 01's sample, whole, from the bytes of its definition and of its data: the definition is read into a lent table, and by that
-- table the data give the lister's four lines; and a second record at fault gives the lines of the first and the fault.
use Rattle.std.specs.Prelude.{◌≡◌, refl, List, ◌++◌, ℕ, ◌≤◌, ℤ, length, drop}
use Rattle.std.proofs.Common.{arith, le-leb}
use Rattle.rows.specs.rule.Cells.{row_cells, header_cells}
use Rattle.definition.specs.rule.Definition.{sss_outcome, sss_table_after}
use Rattle.listing.specs.Listing.{listing_of}
use Rattle.definition_samples.specs.Bytes.{bytes}
use Rattle.definition_samples.specs.Tables.{tables}
use Rattle.definition_samples.specs.Sample.{sample, sample_table, sample_laid}

-- the record of the sample, and one whose `seen` is illegal
abbrev first : List ℕ
first = bytes " 710x1x-1.0\n"

abbrev second : List ℕ
second = bytes " 713x1x-1.0\n"

abbrev lines : List ℕ
lines = bytes "1 1 N 7\n" ++ bytes "1 2 S 1,4\n" ++ bytes "1 3 N -10\n"

-- what is listed by a table
abbrev Lists : List ℤ → Type 0
Lists t = (listing_of t first ≡ lines ++ bytes "ok 1\n") × (listing_of t (first ++ second) ≡ lines ++ bytes "fault 241 2 2\n")

long_enough : (rest : List ℤ) → 78 ≤ length (sample_table ++ rest)
unfolding row_cells header_cells
long_enough rest = omega arith

by_table : (rest : List ℤ) → Lists (sample_table ++ rest)
unfolding tables row_cells header_cells
by_table rest = rw (le-leb 78 (length (sample_table ++ rest)) (long_enough rest)) (refl, refl)

-- THE SAMPLE, whatever the lent table held and however long it is, from 78 numbers on (the lister's has 8,192)
pub samples_listed : (t : List ℤ) → 78 ≤ length t → Lists (sss_table_after (sss_outcome sample (length t)) t)
samples_listed t h = rw (sample_laid t h).1 (by_table (drop 78 t))
