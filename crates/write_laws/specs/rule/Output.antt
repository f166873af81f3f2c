-- What the output then holds, and what its text says: "Answer: the length; output beyond is kept, and all of it on a refusal." "Reading its
-- output gives the same table apart from text places and lengths, and equal decoded texts; cleaning that output again gives it again, byte
-- for byte" (document 02, C-11).
use Rattle.std.specs.Prelude.{◌≡◌, false, List, ◌++◌, map, ℕ, ◌≤◌, ℤ, length, take, drop}
use Rattle.cells.specs.rule.Cell.{cell}
use Rattle.survey.specs.rule.Survey.{Survey}
use Rattle.survey.specs.rule.Table.{table_of}
use Rattle.definition.specs.declared.Answer.{Answer}
use Rattle.definition.specs.rule.Definition.{SssRead}
use Rattle.clean_text.specs.rule.Clean.{clean_of}
use Rattle.clean_laws.specs.rule.Texts.{text_at, decoded_texts}
use Rattle.clean_laws.specs.rule.Reads.{head_texts, Reads}
use Rattle.clean.specs.declared.Written.{Written}
use Rattle.clean.specs.declared.Written.TheVariants.{Done}
use Rattle.clean.specs.rule.Written.{DefinitionWritten}
use Rattle.write_laws.specs.rule.Exactly.{Begins}

-- the first n bytes of the output are the clean text of d, whose own table t is; the bytes behind them are kept
pub record CleanStands (d : List ℕ) (t : List ℤ) (out out' : List ℕ) (n : ℕ) : Type 0 where
  pub survey : Survey
  pub reads : Reads d survey
  pub own : Begins survey t
  pub long : n ≡ length (clean_of d survey)
  pub short : n ≤ 1048576
  pub fits : n ≤ length out
  pub text : take n out' ≡ clean_of d survey
  pub behind : drop n out' ≡ drop n out

-- the text c of n bytes says what d says, where d is read as s
pub record SaysSame (d c : List ℕ) (s : Survey) (n : ℕ) : Type 0 where
  pub survey : Survey
  -- it is read: refused by none of 1 to 9
  pub reads : Reads c survey
  -- by the call that reads, of both into one lent table: the same answer, and tables that agree but for text places and lengths
  pub called : {u u₁ u₂ : List ℤ} {a₁ a₂ : Answer} → length (table_of s.variables) ≤ length u
      → SssRead d u u₁ a₁ → SssRead c u u₂ a₂
      → (a₂ ≡ a₁) × ((k : ℕ) → text_at (length s.variables) k ≡ false → cell u₂ k ≡ cell u₁ k)
  -- equal decoded texts: the heading's, and by the places and lengths of the two tables every name, label and value text
  pub heading_texts : head_texts c survey.heading ≡ head_texts d s.heading
  pub texts : map (decoded_texts c) survey.variables ≡ map (decoded_texts d) s.variables
  -- written again, with the table that its own reading leaves and room for it, it comes out byte for byte
  pub again : {u u' : List ℤ} {a : Answer} {out out' : List ℕ} {w : Written} → length (table_of s.variables) ≤ length u
      → SssRead c u u' a → n ≤ length out → DefinitionWritten c u' out out' w → (w ≡ Done n) × (out' ≡ c ++ drop n out)
