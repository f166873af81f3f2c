-- "No two outcomes" for the exported functions: each promise settles the number given back, all four numbers of the answer, and every
-- buffer that was lent.
use Rattle.std.specs.Prelude.{◌≡◌, refl, Bool, true, false, cond, List, ℕ, eqb, ℤ}
use Rattle.std.proofs.Common.{sym, ap, ◌∙◌, ⊎_elim, arith}
use Rattle.std.proofs.lemmas.Bool.{eqb-false}
use Rattle.below.specs.Below.{lt_or_le}
use Rattle.fields.specs.rule.Field.{Value, truth}
use Rattle.writes.specs.rule.Public.{Written}
use Rattle.zarfolin.specs.rule.Face.{Telling, verdict_cells, outcome_cells, file_cells, definition_cells, next_cells}
use Rattle.zarfolin.specs.rule.Face.{RecordTold, ValueTold, FileTold, DefinitionTold, NextTold}
use Rattle.zarfolin.specs.rule.Part.{part_cells, PartTold}
use Rattle.zarfolin.specs.rule.Matrix.{matrix_cells, MatrixTold}
use Rattle.zarfolin.specs.rule.Export.{export_cells, export_length, TellingFive, ExportTold}
use Rattle.zarfolin.specs.rule.Import.{import_cells, ImportTold}
use Rattle.zarfolin.specs.rule.Clean.{clean_cells, CleanTold}
use Rattle.zarfolin.specs.rule.Whole.{whole_cells, WholeTold}
use Rattle.zarfolin.specs.rule.Texts.{text_cells, TextTold}
use Rattle.zarfolin.specs.rule.Mend.{mend_cells, MendTold}
use Rattle.corrections.specs.declared.Correction.{Correction}
use Rattle.corrections.specs.rule.Truth.{no_truth}
use Rattle.corrections.specs.rule.Correction.{ListCorrected}
use Rattle.zarfolin.specs.rule.Truth.{TruthTold}
use Rattle.zarfolin.specs.rule.Normal.{NormalTold}
use Rattle.zarfolin.specs.declared.Told.{Told}

-- what tells equal numbers is equal
telling_one : {c₁ c₂ : Told} {a₁ a₂ : List ℤ} {r₁ r₂ : ℕ} → c₁ ≡ c₂ → Telling c₁ a₁ r₁ → Telling c₂ a₂ r₂ → (r₁ ≡ r₂) × (a₁ ≡ a₂)
telling_one {c₁} {c₂} {a₁} {a₂} {r₁} {r₂} e x y =
    let z : Telling c₁ a₂ r₂ = rw e y in
    (x.gives ∙ sym z.gives, x.holds ∙ sym z.holds)

-- ---- zarfolin_judge_record, zarfolin_judge_file, zarfolin_judge_part, zarfolin_next_record: the number and the answer
pub record_told_one : {t : List ℤ} {bytes : List ℕ} {a₁ a₂ : List ℤ} {r₁ r₂ : ℕ} → RecordTold t bytes a₁ r₁ → RecordTold t bytes a₂ r₂
    → (r₁ ≡ r₂) × (a₁ ≡ a₂)
record_told_one x y = telling_one (ap verdict_cells (x.promise.says ∙ sym y.promise.says)) x.tells y.tells

pub file_told_one : {t : List ℤ} {d : List ℕ} {a₁ a₂ : List ℤ} {r₁ r₂ : ℕ} → FileTold t d a₁ r₁ → FileTold t d a₂ r₂
    → (r₁ ≡ r₂) × (a₁ ≡ a₂)
file_told_one x y = telling_one (ap file_cells (x.promise.says ∙ sym y.promise.says)) x.tells y.tells

pub part_told_one : {t : List ℤ} {d : List ℕ} {terminator first last : ℕ} {a₁ a₂ : List ℤ} {r₁ r₂ : ℕ}
    → PartTold t d terminator first last a₁ r₁ → PartTold t d terminator first last a₂ r₂ → (r₁ ≡ r₂) × (a₁ ≡ a₂)
part_told_one x y = telling_one (ap part_cells (x.promise.says ∙ sym y.promise.says)) x.tells y.tells

-- zarfolin_matrix: the output too
pub matrix_told_one : {t : List ℤ} {d out o₁ o₂ : List ℕ} {a₁ a₂ : List ℤ} {r₁ r₂ : ℕ}
    → MatrixTold t d out o₁ a₁ r₁ → MatrixTold t d out o₂ a₂ r₂ → ((r₁ ≡ r₂) × (a₁ ≡ a₂)) × (o₁ ≡ o₂)
matrix_told_one x y = (
  telling_one (ap matrix_cells (x.promise.says ∙ sym y.promise.says)) x.tells y.tells,
  x.promise.leaves ∙ sym y.promise.leaves,
)

-- zarfolin_export: five numbers, and the output
pub export_told_one : {def d out o₁ o₂ : List ℕ} {t a₁ a₂ : List ℤ} {r₁ r₂ : ℕ}
    → ExportTold def t d out o₁ a₁ r₁ → ExportTold def t d out o₂ a₂ r₂ → ((r₁ ≡ r₂) × (a₁ ≡ a₂)) × (o₁ ≡ o₂)
export_told_one {a₂ = a₂} {r₂ = r₂} x y =
    let e : y.outcome ≡ x.outcome = y.promise.says ∙ sym x.promise.says in
    let z : TellingFive (export_cells x.outcome) (export_length x.outcome) a₂ r₂ = rw e at y.tells in
    ((x.tells.gives ∙ sym z.gives, x.tells.holds ∙ sym z.holds), x.promise.leaves ∙ sym y.promise.leaves)

-- zarfolin_import: the output too
pub import_told_one : {def s out o₁ o₂ : List ℕ} {t a₁ a₂ : List ℤ} {r₁ r₂ : ℕ}
    → ImportTold def t s out o₁ a₁ r₁ → ImportTold def t s out o₂ a₂ r₂ → ((r₁ ≡ r₂) × (a₁ ≡ a₂)) × (o₁ ≡ o₂)
import_told_one x y = (
  telling_one (ap import_cells (x.promise.says ∙ sym y.promise.says)) x.tells y.tells,
  x.promise.leaves ∙ sym y.promise.leaves,
)

-- zarfolin_write_definition: the output too
pub clean_told_one : {d : List ℕ} {t : List ℤ} {out o₁ o₂ : List ℕ} {a₁ a₂ : List ℤ} {r₁ r₂ : ℕ}
    → CleanTold d t out o₁ a₁ r₁ → CleanTold d t out o₂ a₂ r₂ → ((r₁ ≡ r₂) × (a₁ ≡ a₂)) × (o₁ ≡ o₂)
clean_told_one x y = (
  telling_one (ap clean_cells (x.promise.says ∙ sym y.promise.says)) x.tells y.tells,
  x.promise.leaves ∙ sym y.promise.leaves,
)

pub next_told_one : {d : List ℕ} {from : ℕ} {a₁ a₂ : List ℤ} {r₁ r₂ : ℕ} → NextTold d from a₁ r₁ → NextTold d from a₂ r₂
    → (r₁ ≡ r₂) × (a₁ ≡ a₂)
next_told_one x y = telling_one (ap next_cells (x.promise.says ∙ sym y.promise.says)) x.tells y.tells

-- ---- zarfolin_read_value: the list too; zarfolin_read_definition: the table too
pub value_told_one : {t : List ℤ} {i : ℕ} {bytes : List ℕ} {list list₁ list₂ a₁ a₂ : List ℤ} {r₁ r₂ : ℕ}
    → ValueTold t i bytes list list₁ a₁ r₁ → ValueTold t i bytes list list₂ a₂ r₂ → ((r₁ ≡ r₂) × (a₁ ≡ a₂)) × (list₁ ≡ list₂)
value_told_one x y = (
  telling_one (ap outcome_cells (x.promise.says ∙ sym y.promise.says)) x.tells y.tells,
  x.promise.leaves ∙ sym y.promise.leaves,
)

pub definition_told_one : {d : List ℕ} {t t₁ t₂ a₁ a₂ : List ℤ} {r₁ r₂ : ℕ}
    → DefinitionTold d t t₁ a₁ r₁ → DefinitionTold d t t₂ a₂ r₂ → ((r₁ ≡ r₂) × (a₁ ≡ a₂)) × (t₁ ≡ t₂)
definition_told_one x y = (
  telling_one (ap definition_cells (x.promise.says ∙ sym y.promise.says)) x.tells y.tells,
  x.promise.leaves ∙ sym y.promise.leaves,
)

-- ---- zarfolin_read_record: the rows' numbers and the list too
pub whole_told_one : {t : List ℤ} {bytes : List ℕ} {out out₁ out₂ list list₁ list₂ a₁ a₂ : List ℤ} {r₁ r₂ : ℕ}
    → WholeTold t bytes out out₁ list list₁ a₁ r₁ → WholeTold t bytes out out₂ list list₂ a₂ r₂
    → ((r₁ ≡ r₂) × (a₁ ≡ a₂)) × ((out₁ ≡ out₂) × (list₁ ≡ list₂))
whole_told_one x y = (
  telling_one (ap whole_cells (x.promise.says ∙ sym y.promise.says)) x.tells y.tells,
  (x.promise.rows ∙ sym y.promise.rows, x.promise.leaves ∙ sym y.promise.leaves),
)

-- ---- zarfolin_decode_text: the list too
pub text_told_one : {d : List ℕ} {place long : ℕ} {list list₁ list₂ a₁ a₂ : List ℤ} {r₁ r₂ : ℕ}
    → TextTold d place long list list₁ a₁ r₁ → TextTold d place long list list₂ a₂ r₂ → ((r₁ ≡ r₂) × (a₁ ≡ a₂)) × (list₁ ≡ list₂)
text_told_one x y = (
  telling_one (ap text_cells (x.promise.says ∙ sym y.promise.says)) x.tells y.tells,
  x.promise.leaves ∙ sym y.promise.leaves,
)

-- ---- zarfolin_mend: the output and the list too
pub mend_told_one : {t : List ℤ} {d out out₁ out₂ : List ℕ} {list list₁ list₂ a₁ a₂ : List ℤ} {r₁ r₂ : ℕ}
    → MendTold t d out out₁ list list₁ a₁ r₁ → MendTold t d out out₂ list list₂ a₂ r₂
    → ((r₁ ≡ r₂) × (a₁ ≡ a₂)) × ((out₁ ≡ out₂) × (list₁ ≡ list₂))
mend_told_one x y = (
  telling_one (ap mend_cells (x.promise.says ∙ sym y.promise.says)) x.tells y.tells,
  (x.promise.mended ∙ sym y.promise.mended, x.promise.listed ∙ sym y.promise.listed),
)

-- ---- zarfolin_write_missing, _number, _set, _text promise `Written`, as the call does: the number and the record
pub write_told_one : {t : List ℤ} {i : ℕ} {x : Value} {old new₁ new₂ : List ℕ} {r₁ r₂ : ℕ}
    → Written t i x old new₁ r₁ → Written t i x old new₂ r₂ → (r₁ ≡ r₂) × (new₁ ≡ new₂)
write_told_one x y = (x.says ∙ sym y.says, x.leaves ∙ sym y.leaves)

-- ---- zarfolin_write_truth
pub truth_told_one : {t : List ℤ} {i b : ℕ} {old new₁ new₂ : List ℕ} {r₁ r₂ : ℕ}
    → TruthTold t i b old new₁ r₁ → TruthTold t i b old new₂ r₂ → (r₁ ≡ r₂) × (new₁ ≡ new₂)
truth_told_one {t} {i} {b} x y =
    ⊎_elim (λ l. write_told_one (x.given l) (y.given l))
    (λ l. let p = x.other l in let q = y.other l in (p.says ∙ sym q.says, p.keeps ∙ sym q.keeps)) (lt_or_le b 2)

-- ---- zarfolin_correct promises `ListCorrected`: the number, the list and the record
pub list_told_one : {t : List ℤ} {list list₁ list₂ : List Correction} {old new₁ new₂ : List ℕ} {r₁ r₂ : ℕ}
    → ListCorrected t list list₁ old new₁ r₁ → ListCorrected t list list₂ old new₂ r₂
    → (r₁ ≡ r₂) × ((list₁ ≡ list₂) × (new₁ ≡ new₂))
list_told_one x y = (x.says ∙ sym y.says, (x.marks ∙ sym y.marks, x.leaves ∙ sym y.leaves))

-- THE BRIDGE to the laws of corrections: a truth that is done is the write of a truth, so that each law of `Written` holds of it; and what
-- is not done keeps the record, as the laws say of `Written` too
not_done : (k : ℕ) → 0 ≡ no_truth k → ⊥
unfolding no_truth
not_done k e = go (eqb k 0) refl e
  where
    go : (c : Bool) → eqb k 0 ≡ c → 0 ≡ cond c 27 k → ⊥
    go true q f = omega arith
    go false q f = eqb-false k 0 q (sym f)

pub truth_written : {t : List ℤ} {i b : ℕ} {old new : List ℕ} → TruthTold t i b old new 0 → Written t i (truth (eqb b 1)) old new 0
truth_written {t} {i} {b} x = ⊎_elim (λ l. x.given l) (λ l. absurd (not_done _ (x.other l).says)) (lt_or_le b 2)

-- ---- zarfolin_normal: the record too
pub normal_told_one : {t : List ℤ} {old new₁ new₂ : List ℕ} {a₁ a₂ : List ℤ} {r₁ r₂ : ℕ}
    → NormalTold t old new₁ a₁ r₁ → NormalTold t old new₂ a₂ r₂ → ((r₁ ≡ r₂) × (a₁ ≡ a₂)) × (new₁ ≡ new₂)
normal_told_one x y = (
  telling_one (ap verdict_cells (x.promise.says ∙ sym y.promise.says)) x.tells y.tells,
  x.promise.leaves ∙ sym y.promise.leaves,
)
