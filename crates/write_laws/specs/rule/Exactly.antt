-- Which answer exactly when (document 02, C-11): "40 the table is not the one this definition yields, 41 the clean text passes 1,048,576
-- bytes, 42 output room too short, judged in that order after 1 to 9." "Answer: the length". And (READINGS-02, C-11) a table is the one
-- yielded whose first numbers are those of reading, text places and lengths included; an exact fit is enough, and exactly 1,048,576 bytes
-- are no 41.
use Rattle.std.specs.Prelude.{◌≡◌, List, ℕ, ◌≤◌, ◌<◌, ℤ, length, take}
use Rattle.survey.specs.rule.Survey.{Survey}
use Rattle.survey.specs.rule.Table.{table_of}
use Rattle.definition.specs.rule.Definition.{Refusal, sss_outcome}
use Rattle.clean_text.specs.rule.Clean.{clean_of}
use Rattle.clean_laws.specs.rule.Reads.{Reads}
use Rattle.clean.specs.declared.Written.{Written}
use Rattle.clean.specs.declared.Written.TheVariants.{Done, Refused}

-- reading refuses d so, whatever the room of the table lent to it: 1 to 9, since 10 goes by that room
abbrev pub Unread : List ℕ → ℕ → ℕ → Type 0
Unread d number place = (n : ℕ) → sss_outcome d n ≡ Refusal number place

-- the numbers t begin with the table of the survey s
abbrev pub Begins : Survey → List ℤ → Type 0
Begins s t = take (length (table_of s.variables)) t ≡ table_of s.variables

pub data WriteOutcome (d : List ℕ) (t : List ℤ) (room : ℕ) : Written → Type 0 where
  unread : {number place : ℕ} → Unread d number place → WriteOutcome d t room (Refused number place)
  other_table : {s : Survey} → Reads d s → (Begins s t → ⊥) → WriteOutcome d t room (Refused 40 0)
  too_large : {s : Survey} → Reads d s → Begins s t → 1048576 < length (clean_of d s) → WriteOutcome d t room (Refused 41 0)
  short_room : {s : Survey} → Reads d s → Begins s t → length (clean_of d s) ≤ 1048576 → room < length (clean_of d s)
      → WriteOutcome d t room (Refused 42 0)
  all_written : {s : Survey} → Reads d s → Begins s t → length (clean_of d s) ≤ 1048576 → length (clean_of d s) ≤ room
      → WriteOutcome d t room (Done (length (clean_of d s)))
