-- The records of a data file: "records are cut from the left at each full terminator"; what follows the last one, if anything, is a
-- record with no terminator. An empty file has no records.
use Rattle.std.specs.Prelude.{cond, List, [], ◌∷◌, ◌++◌, ℕ, zero, suc, ◌+◌, ◌-◌, eqb, length}
use Rattle.cuts.specs.declared.Terminator.{Terminator}
use Rattle.cuts.specs.rule.Cut.{begins_at, terminator_of}

pub data Records : Type 0 where
  over : Records
  unended : List ℕ → Records
  record_and : List ℕ → Records → Records

-- at the end of the file: nothing, or what was read of a record
unfoldable pub at_end : List ℕ → Records
at_end [] = over
at_end (b ∷ r) = unended (b ∷ r)

-- the records of s, after `skip` bytes of a terminator, with r read of the first
unfoldable pub cut : Terminator → ℕ → List ℕ → List ℕ → Records
cut w skip r [] = at_end r
cut w (suc skip) r (b ∷ s) = cut w skip r s
cut w zero r (b ∷ s) = cond (begins_at w (b ∷ s)) (record_and r (cut w (w.size - 1) [] s)) (cut w 0 (r ++ b ∷ []) s)

-- the records of what follows a place
abbrev pub records_from : Terminator → List ℕ → Records
records_from w s = cut w 0 [] s

-- THE RECORDS of a file
unfoldable pub records_of : List ℕ → Records
records_of d = records_from (terminator_of d) d

-- the first record's length
unfoldable pub length_of_first : Records → ℕ
length_of_first over = 0
length_of_first (unended r) = 0
length_of_first (record_and r rs) = length r

-- the bytes of a terminator, and records laid end to end with it
unfoldable pub terminator_bytes : Terminator → List ℕ
terminator_bytes w = cond (eqb w.size 2) (w.first ∷ w.second ∷ []) (w.first ∷ [])

unfoldable pub laid : Terminator → Records → List ℕ
laid w over = []
laid w (unended r) = r
laid w (record_and r rs) = r ++ terminator_bytes w ++ laid w rs

-- how many terminators were passed
unfoldable pub count_ended : Records → ℕ
count_ended over = 0
count_ended (unended r) = 0
count_ended (record_and r rs) = count_ended rs + 1
