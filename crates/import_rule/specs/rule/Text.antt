-- A text that is imported (document 02, C-23): "compare the name line column by column". "61 text malformed, 62 name line differs, 63 ..,
-- 64 ..,
-- each with line and column from 1, by line and then lowest number". The name line is line 1; it differs at the first column that is not
-- the
-- same on both sides, or is on one side only. The records are "ended by CR LF".
use Rattle.std.specs.Prelude.{Bool, true, false, cond, ◌&&◌, List, [], ◌∷◌, ◌++◌, ℕ, ◌+◌, eqb, ℤ}
use Rattle.csv_fields.specs.rule.Page.{fresh, page, Lines, done, broken, line, page_lines}
use Rattle.import_rule.specs.rule.Line.{LineSays, builds, faulty, line_says}

-- records, or a refusal's number, line and column
pub data TextSays : Type 0 where
  accepts : List (List ℕ) → TextSays
  refuses : ℕ → ℕ → ℕ → TextSays

-- a record in front of those that follow, unless they are refused
unfoldable pub and_record : List ℕ → TextSays → TextSays
and_record r (accepts rs) = accepts (r ∷ rs)
and_record r (refuses k n c) = refuses k n c

-- line n, and what the lines behind it say
unfoldable pub after_line : ℕ → LineSays → TextSays → TextSays
after_line n (builds r) rest = and_record r rest
after_line n (faulty k c) rest = refuses k n c

-- the lines from line n on
unfoldable pub lines_say : List ℤ → ℕ → Lines → TextSays
lines_say t n done = accepts []
lines_say t n (broken c) = refuses 61 n c
lines_say t n (line fs ls) = after_line n (line_says t fs) (lines_say t (n + 1) ls)

unfoldable pub same_bytes : List ℕ → List ℕ → Bool
same_bytes [] [] = true
same_bytes [] (b ∷ s) = false
same_bytes (a ∷ r) [] = false
same_bytes (a ∷ r) (b ∷ s) = eqb a b && same_bytes r s

-- the first column from c on in which names and fields differ; 0 where none does
unfoldable pub differ_at : ℕ → List (List ℕ) → List (List ℕ) → ℕ
differ_at c [] [] = 0
differ_at c [] (f ∷ fs) = c
differ_at c (m ∷ ms) [] = c
differ_at c (m ∷ ms) (f ∷ fs) = cond (same_bytes m f) (differ_at (c + 1) ms fs) c

-- the name line, and what the lines behind it say
unfoldable pub names_then : ℕ → TextSays → TextSays
names_then c rest = cond (eqb c 0) rest (refuses 62 1 c)

unfoldable pub names_say : List ℤ → List (List ℕ) → Lines → TextSays
names_say t names done = refuses 61 1 1
names_say t names (broken c) = refuses 61 1 c
names_say t names (line fs ls) = names_then (differ_at 1 names fs) (lines_say t 2 ls)

-- WHAT A TEXT SAYS, where these names are due
unfoldable pub text_says : List ℤ → List (List ℕ) → List ℕ → TextSays
text_says t names s = names_say t names (page_lines (page fresh s))

-- the data file of the records
unfoldable pub file_bytes : List (List ℕ) → List ℕ
file_bytes [] = []
file_bytes (r ∷ rs) = r ++ ((13 ∷ 10 ∷ []) ++ file_bytes rs)

-- the data file of what a text says
unfoldable pub data_of : TextSays → List ℕ
data_of (accepts rs) = file_bytes rs
data_of (refuses k n c) = []
