-- WHAT THE TEST GIVES: of every row of a well-formed table the facts that the calls on records lean on, proved here once.
use Rattle.std.specs.Prelude.{List, ℕ, ℤ}
use Rattle.layout.specs.rule.Layout.{header_of}

-- ---- THE FACTS of row i of a well-formed table
abbrev pub rows_of : List ℤ → ℕ
rows_of t = (header_of t).rows

abbrev pub length_of : List ℤ → ℕ
length_of t = (header_of t).length
