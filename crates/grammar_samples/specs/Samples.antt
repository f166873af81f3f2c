-- Document 01's sample is derived by its grammar, with no fault; and 003's example, whose WITH is missing, stops with 2 at `500`.
use Rattle.std.specs.Prelude.{◌≡◌, refl, List, ◌++◌, ℕ, length}
use Rattle.std.proofs.Common.{arith}
use Rattle.survey.specs.rule.Survey.{Variable, Survey}
use Rattle.survey.specs.rule.Table.{table_of}
use Rattle.definition.specs.rule.Definition.{Built, Refusal}
use Rattle.grammar.specs.Grammar.{Definition}
use Rattle.grammar.specs.Faults.{Clean, faults_of}
use Rattle.grammar.specs.Refusal.{sound}
use Rattle.grammar_laws.specs.Outcome.{Settles, read, outcome_exactly}
use Rattle.definition_samples.specs.Bytes.{bytes}
use Rattle.definition_samples.specs.Sample.{sample, sample_table, sample_read}
use Rattle.definition_samples.specs.Refused.{variable, refused_2}

-- the text d is derived, with nothing at fault, and says the variables l
pub data Derived (d : List ℕ) (l : List Variable) : Type 0 where
  derived : {s : Survey} {m : ℕ} → Definition d s m → Clean (faults_of s) → s.variables ≡ l → Derived d l

built_derived : {d : List ℕ} {n : ℕ} {l : List Variable} → Settles d n (Built l) → Derived d l
built_derived (read h (sound x c) w r) = derived x c refl

-- THE SAMPLE: derived, saying the variables that give its table
pub sample_derived : (l : List Variable) × Derived sample l × (table_of l ≡ sample_table)
sample_derived =
    let r = sample_read 78 (omega arith) in
    (r.0, built_derived ((outcome_exactly sample 78 (Built r.0)).0 r.1), r.2)

-- 003's EXAMPLE, its VALUES alone: whatever table is lent, the grammar stops at `500`
pub example_stops : (n : ℕ) →
    let begins = variable "QUANTITY POSITION 1 TO 3 VALUES 0 TO 499 " in
    Settles (begins ++ bytes "500 \"more\" END VALUES") n (Refusal 2 (length begins))
example_stops n = (outcome_exactly _ n _).0 (refused_2.5 n)
