-- "Refusals: 40 the table is not the one this definition yields, 41 the clean text passes 1,048,576 bytes, 42 output room too short, judged
-- in
-- that order after 1 to 9." "Answer: the length; output beyond is kept, and all of it on a refusal."
use Rattle.std.specs.Prelude.{◌≡◌, cond, List, ◌++◌, ℕ, ltb, ℤ, length, drop}
use Rattle.survey.specs.rule.Survey.{Survey}
use Rattle.reading.specs.rule.Result.{Result, Is, Not}
use Rattle.reading.specs.rule.Whole.{survey_of}
use Rattle.definition.specs.declared.Against.{Against}
use Rattle.definition.specs.declared.Against.TheVariants.{Same, Other, Refused}
use Rattle.definition.specs.rule.Against.{sss_against}
use Rattle.clean_text.specs.rule.Clean.{clean_of}
use Rattle.clean.specs.declared.Written.{Written}
use Rattle.clean.specs.declared.Written.TheVariants as written

pub data Writing : Type 0 where
  Text : List ℕ → Writing
  Refusal : ℕ → ℕ → Writing

-- a text for an output of n bytes: "Exactly 1,048,576 bytes is no 41; 41 before 42; an exact fit is enough."
unfoldable pub clean_fitted : ℕ → List ℕ → Writing
clean_fitted n s = cond (ltb 1048576 (length s)) (Refusal 41 0) (cond (ltb n (length s)) (Refusal 42 0) (Text s))

-- the clean text of what the definition says
abbrev pub cleaned : List ℕ → ℕ → Result Survey → Writing
cleaned d n (Is s m) = clean_fitted n (clean_of d s)
cleaned d n (Not f) = Refusal f.number f.place

-- "1 to 9 come first, with their place; 40, 41, 42 with 0"
abbrev pub judged_against : List ℕ → ℕ → Against → Writing
judged_against d n Same = cleaned d n (survey_of d)
judged_against d n Other = Refusal 40 0
judged_against d n (Refused number place) = Refusal number place

unfoldable pub writing_of : List ℕ → List ℤ → ℕ → Writing
writing_of d t n = judged_against d n (sss_against d t)

-- ---- what the call answers, and what the output then holds
unfoldable pub clean_written : Writing → Written
clean_written (Text s) = written.Done (length s)
clean_written (Refusal number place) = written.Refused number place

unfoldable pub out_after : Writing → List ℕ → List ℕ
out_after (Text s) out = s ++ drop (length s) out
out_after (Refusal number place) out = out

-- THE PROMISE of the call: the answer, and the output afterwards
pub record DefinitionWritten (d : List ℕ) (t : List ℤ) (out out' : List ℕ) (a : Written) : Type 0 where
  pub says : a ≡ clean_written (writing_of d t (length out))
  pub leaves : out' ≡ out_after (writing_of d t (length out)) out
