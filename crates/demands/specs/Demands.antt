-- THE DEMANDS, one by one: the final theorems over the promises of the public calls, restated here and each proved by name elsewhere. The
-- promises stand in specs/rule of their crates: TableTested (sound), ValueRead and RecordJudged (records), Written (writes), NextFound
-- (cuts), FileJudged (files), PartJudged (parts), MatrixWritten (matrices), Exported (exports), Imported (imports), DefinitionRead
-- (kinds), DefinitionWritten (clean), ListCorrected (corrections), Mends (mends), Normalised (normal); those of the exported functions
-- (zarfolin) hold them, or are they.
use Rattle.std.specs.Prelude.{◌≡◌, ◌↔◌, Bool, true, false, List, [], ◌∷◌, ◌++◌, map, ℕ, suc, ◌+◌, ◌*◌, ◌-◌, ◌≤◌, ◌<◌, eqb, ℤ, length}
use Rattle.std.specs.Prelude.{get_or, take, drop}
use Rattle.std.proofs.Common.{⊎_elim}
use Rattle.below.specs.Below.{lt_or_le}
use Rattle.places.specs.rule.Places.{Out, Apart}
use Rattle.layout.specs.rule.Row.{row_at}
use Rattle.layout.specs.declared.Kind.{Kind}
use Rattle.layout.specs.declared.Row.{Row}
use Rattle.fields.specs.rule.Field.{Value, holds, illegal, text, truth}
use Rattle.fields.specs.rule.Row.{places_of, field_by, Fit, fits_by}
use Rattle.sound.specs.rule.Sound.{well_formed, TableTested}
use Rattle.sound.specs.rule.Rows.{rows_of}
use Rattle.cuts.specs.declared.Next.{Next}
use Rattle.cuts.specs.declared.Terminator.{Terminator}
use Rattle.cuts.specs.rule.Cut.{NextFound, terminator_of}
use Rattle.cuts.specs.rule.Records.{Records, records_from, records_of, laid, count_ended, length_of_first}
use Rattle.cuts.specs.Records.{laid_again}
use Rattle.faults.specs.rule.Fault.{fault_number}
use Rattle.faults.specs.declared.Fault.{Fault}
use Rattle.records.specs.rule.First.{row_fault}
use Rattle.records.specs.rule.Value as value
use Rattle.records.specs.rule.Value.{Outcome, refused, outcome_of, reading_at, ValueRead}
use Rattle.sets.specs.rule.Sets.{list_after}
use Rattle.records.specs.rule.Verdict as verdict
use Rattle.records.specs.rule.Verdict.{Verdict, RecordJudged, bad_field}
use Rattle.files.specs.rule.File.{FileVerdict, sound_with, bad_table, file_verdict, FileJudged}
use Rattle.parts.specs.rule.Part.{numbered, PartVerdict, judged_as, part_verdict, PartJudged}
use Rattle.little.specs.rule.Bytes as little
use Rattle.little.specs.rule.Bytes.{put_at}
use Rattle.summary.specs.rule.Summary.{summary_of}
use Rattle.matrix.specs.rule.Entry.{presence_of, float_of, present_of}
use Rattle.matrix.specs.rule.Bytes.{presence_at, values_at, total_of, summary_bytes}
use Rattle.columns.specs.rule.Columns.{of_row, entry_of}
use Rattle.matrices.specs.rule.Matrix as matrix-rule
use Rattle.matrices.specs.rule.Matrix.{ended_of, table_columns, column_entries, matrix_of, MatrixVerdict, refused_as, matrix_verdict}
use Rattle.matrices.specs.rule.Matrix.{MatrixWritten}
use Rattle.matrix_laws.specs.rule.Exactly.{Refusal, SizeOutcome}
use Rattle.matrix_laws.specs.rule.Header.{Headed}
use Rattle.matrix_laws.specs.rule.Summary.{Summarises}
use Rattle.matrix_laws.specs.Header as headed
use Rattle.matrix_laws.specs.Sound as summaries
use Rattle.matrix_laws.specs.Exactly as sizes
use Rattle.matrix_laws.specs.Matrix as matrix
use Rattle.matrix_laws.specs.Kept as matrix-kept
use Rattle.zarfolin.specs.rule.Matrix.{MatrixTold}
use Rattle.commas.specs.rule.Csv.{doubled, field_bytes, line_bytes}
use Rattle.record_lines.specs.rule.Lines.{sound_before, record_line}
use Rattle.exports.specs.rule.Text.{export_lines, export_text, ExportVerdict}
use Rattle.exports.specs.rule.Text as export
use Rattle.exports.specs.rule.Export.{export_verdict, Exported}
use Rattle.export_laws.specs.rule.Exactly.{ExportOutcome}
use Rattle.export_laws.specs.rule.Quoted.{HoldsOne}
use Rattle.export_laws.specs.Exactly as exports
use Rattle.export_laws.specs.Lines as lines
use Rattle.export_laws.specs.Quoted as quoted
use Rattle.export_laws.specs.Apart as apart
use Rattle.value_fields.specs.rule.Values.{row_field}
use Rattle.zarfolin.specs.rule.Export.{ExportTold}
use Rattle.csv_fields.specs.rule.Page.{fresh, page}
use Rattle.csv_fields.specs.rule.Page as csv
use Rattle.import_rule.specs.rule.Text.{TextSays, accepts, text_says, file_bytes, data_of}
use Rattle.imports.specs.rule.Import.{ImportVerdict, import_says, import_verdict, Imported}
use Rattle.imports.specs.rule.Import as import'
use Rattle.import_laws.specs.rule.Exported.{IsExport, Original, Accepts}
use Rattle.import_laws.specs.rule.Exactly.{TextOutcome, ImportOutcome}
use Rattle.import_laws.specs.rule.Trip.{Table, Returned, CameBack}
use Rattle.import_laws.specs.Trip as trip
use Rattle.import_laws.specs.Calls as calls
use Rattle.import_laws.specs.Accepted as accepted
use Rattle.import_laws.specs.Exactly as imports
use Rattle.import_laws.specs.Equal as equal
use Rattle.zarfolin.specs.rule.Import.{ImportTold}
use Rattle.survey.specs.rule.Survey.{Survey}
use Rattle.clean_text.specs.rule.Clean.{clean_lines, clean_of}
use Rattle.clean.specs.declared.Written as clean
use Rattle.clean.specs.declared.Written.TheVariants as clean-answer
use Rattle.clean.specs.rule.Written.{writing_of, clean_written, DefinitionWritten}
use Rattle.clean_laws.specs.rule.Lined.{Lined}
use Rattle.clean_laws.specs.rule.Reads.{Reads}
use Rattle.clean_laws.specs.Reads as Clean-back
use Rattle.write_laws.specs.rule.Exactly.{Unread, WriteOutcome}
use Rattle.write_laws.specs.rule.Output.{CleanStands, SaysSame}
use Rattle.write_laws.specs.Low as low
use Rattle.write_laws.specs.Exactly as cleaning
use Rattle.write_laws.specs.Output as cleaned
use Rattle.zarfolin.specs.rule.Clean.{CleanTold}
use Rattle.std.specs.Float.{binary64}
use Rattle.std.specs.Float.Ieee.{to_bits}
use Rattle.writes.specs.rule.Public.{refusal_of, Written}
use Rattle.definition.specs.declared.Answer.{Answer}
use Rattle.definition.specs.declared.Answer.TheVariants as definition
use Rattle.kinds.specs.rule.Definition.{DefinitionRead}
use Rattle.kinds.specs.Settled as kinds
use Rattle.table_laws.specs.rule.Signs.{TableSigns}
use Rattle.table_laws.specs.Signs as signs
use Rattle.blind_laws.specs.rule.Blind.{Alike, SameRules}
use Rattle.blind_laws.specs.Blind as blind
use Rattle.read_laws.specs.Settled as reads
use Rattle.read_laws.specs.rule.Exactly.{Given, Illegal}
use Rattle.read_laws.specs.Exactly as exactly
use Rattle.read_laws.specs.rule.Reading.{ReadOutcome}
use Rattle.read_laws.specs.Reading as reading
use Rattle.read_laws.specs.rule.Refused.{RecordOutcome}
use Rattle.read_laws.specs.Refused as judging
use Rattle.file_laws.specs.rule.Files.{FileOutcome}
use Rattle.read_laws.specs.rule.Faults.{Told}
use Rattle.read_laws.specs.Faults as faults
use Rattle.file_laws.specs.Files as files
use Rattle.file_laws.specs.rule.Only.{Clean}
use Rattle.file_laws.specs.Only as cutting
use Rattle.part_laws.specs.rule.Exactly.{IsNumber, PartOutcome}
use Rattle.part_laws.specs.Exactly as part
use Rattle.part_laws.specs.rule.Parts.{in_parts, FileNumber}
use Rattle.part_laws.specs.Parts as parts
use Rattle.part_laws.specs.rule.Each.{Driven, Drive}
use Rattle.part_laws.specs.Each as each
use Rattle.laws.specs.Settled as settled
use Rattle.laws.specs.rule.Writing as rule
use Rattle.laws.specs.Writing as writing
use Rattle.laws.specs.ReadBack as back
use Rattle.laws.specs.rule.WriteBack.{Answered}
use Rattle.laws.specs.WriteBack as again
use Rattle.rule_laws.specs.rule.Fits.{Fitting}
use Rattle.rule_laws.specs.Fits as fits
use Rattle.rule_laws.specs.rule.Terminators.{First}
use Rattle.rule_laws.specs.Terminators as terminators
use Rattle.corrections.specs.declared.Correction.{Correction}
use Rattle.corrections.specs.rule.Correction.{asks, asked_of, marked_with, mark_of, ListCorrected}
use Rattle.correction_laws.specs.rule.Singles.{Chain, Clear}
use Rattle.correction_laws.specs.rule.Outcomes.{ListOutcome, MarkOutcome}
use Rattle.correction_laws.specs.Singles as singles
use Rattle.correction_laws.specs.Outcomes as numbers
use Rattle.correction_laws.specs.Later as later
use Rattle.zarfolin.specs.rule.Face.{RecordTold, ValueTold, FileTold, DefinitionTold, NextTold}
use Rattle.zarfolin.specs.rule.Texts.{TextTold}
use Rattle.zarfolin.specs.rule.Mend.{MendTold}
use Rattle.pieces.specs.rule.Pieces.{Piece, pieces_of, laid_pieces}
use Rattle.pieces.specs.Laid as pieces
use Rattle.mends.specs.rule.Mend as mending
use Rattle.mends.specs.rule.Mend.{bytes_in, list_in, width_of_records, ending_of, Mends}
use Rattle.mends.specs.declared.Mended.{Mended}
use Rattle.mend_laws.specs.rule.Mended.{AllUnbroken, MendOutcome, SoundLines, NoneOfFour, ByFields, kept_of, RisingEntries, DueIn, In}
use Rattle.mend_laws.specs.Pieces as unbroken
use Rattle.mend_laws.specs.rule.Parted.{Parted}
use Rattle.mend_laws.specs.Parted as parted
use Rattle.mend_laws.specs.Sound as mended
use Rattle.mend_laws.specs.Judged as mend-judged
use Rattle.mend_laws.specs.Once as mend-once
use Rattle.mend_laws.specs.Listed as mend-listed
use Rattle.zarfolin.specs.rule.Part.{PartTold}
use Rattle.zarfolin.specs.rule.Truth.{TruthTold}
use Rattle.normal.specs.rule.Normal.{Normalised}
use Rattle.normal_laws.specs.rule.Alike.{OutAll, AgreeOutside, ReadAlike, back_all, EveryRow}
use Rattle.normal_laws.specs.rule.Exactly.{NormalOutcome}
use Rattle.normal_laws.specs.Normal as forms
use Rattle.normal_laws.specs.Exactly as exact
use Rattle.zarfolin.specs.rule.Normal.{NormalTold}
use Rattle.zarfolin.specs.Settled as face

-- ==== 1. EVERY CALL ENDS AND ANSWERS ON ALL INPUT (no public call has a `requires`; Rattle proves each ends), NO TWO OUTCOMES SATISFY ITS
-- PROMISE TOGETHER, AND EVERY REFUSAL KEEPS WHAT WAS LENT
pub one_test : {t : List ℤ} {r₁ r₂ : Bool} → TableTested t r₁ → TableTested t r₂ → r₁ ≡ r₂
one_test = settled.table_settled

module _ {t : List ℤ} {bytes : List ℕ} where
  pub one_verdict : {v₁ v₂ : Verdict} → RecordJudged t bytes v₁ → RecordJudged t bytes v₂ → v₁ ≡ v₂
  one_verdict = reads.verdict_one

  pub one_record_told : {a₁ a₂ : List ℤ} {r₁ r₂ : ℕ} → RecordTold t bytes a₁ r₁ → RecordTold t bytes a₂ r₂ → (r₁ ≡ r₂) × (a₁ ≡ a₂)
  one_record_told = face.record_told_one

module _ {t : List ℤ} {i : ℕ} {bytes : List ℕ} {l : List ℤ} where
  pub one_value : {l₁ l₂ : List ℤ} {o₁ o₂ : Outcome} → ValueRead t i bytes l l₁ o₁ → ValueRead t i bytes l l₂ o₂ → (o₁ ≡ o₂) × (l₁ ≡ l₂)
  one_value = reads.value_one

  pub one_value_told : {l₁ l₂ a₁ a₂ : List ℤ} {r₁ r₂ : ℕ} → ValueTold t i bytes l l₁ a₁ r₁ → ValueTold t i bytes l l₂ a₂ r₂
      → ((r₁ ≡ r₂) × (a₁ ≡ a₂)) × (l₁ ≡ l₂)
  one_value_told = face.value_told_one

  pub refused_read_keeps : {l' : List ℤ} {k : ℕ} → ValueRead t i bytes l l' (refused k) → l' ≡ l
  refused_read_keeps = reading.read_refused_keeps

module _ {t : List ℤ} {d : List ℕ} where
  pub one_file : {v₁ v₂ : FileVerdict} → FileJudged t d v₁ → FileJudged t d v₂ → v₁ ≡ v₂
  one_file = settled.file_one

  pub one_file_told : {a₁ a₂ : List ℤ} {r₁ r₂ : ℕ} → FileTold t d a₁ r₁ → FileTold t d a₂ r₂ → (r₁ ≡ r₂) × (a₁ ≡ a₂)
  one_file_told = face.file_told_one

module _ {t : List ℤ} {d : List ℕ} {terminator first last : ℕ} where
  pub one_part : {v₁ v₂ : PartVerdict} → PartJudged t d terminator first last v₁ → PartJudged t d terminator first last v₂ → v₁ ≡ v₂
  one_part = part.part_one

  pub one_part_told : {a₁ a₂ : List ℤ} {r₁ r₂ : ℕ} → PartTold t d terminator first last a₁ r₁ → PartTold t d terminator first last a₂ r₂
      → (r₁ ≡ r₂) × (a₁ ≡ a₂)
  one_part_told = face.part_told_one

module _ {t : List ℤ} {d out : List ℕ} where
  pub one_matrix : {o₁ o₂ : List ℕ} {v₁ v₂ : MatrixVerdict} → MatrixWritten t d out o₁ v₁ → MatrixWritten t d out o₂ v₂ → (v₁ ≡ v₂)
      × (o₁ ≡ o₂)
  one_matrix = matrix.matrix_one

  pub one_matrix_told : {o₁ o₂ : List ℕ} {a₁ a₂ : List ℤ} {r₁ r₂ : ℕ} → MatrixTold t d out o₁ a₁ r₁ → MatrixTold t d out o₂ a₂ r₂
      → ((r₁ ≡ r₂) × (a₁ ≡ a₂)) × (o₁ ≡ o₂)
  one_matrix_told = face.matrix_told_one

module _ {def : List ℕ} {t : List ℤ} {d out : List ℕ} where
  pub one_export : {o₁ o₂ : List ℕ} {v₁ v₂ : ExportVerdict} → Exported def t d out o₁ v₁ → Exported def t d out o₂ v₂ → (v₁ ≡ v₂)
      × (o₁ ≡ o₂)
  one_export = exports.export_one

  pub one_export_told : {o₁ o₂ : List ℕ} {a₁ a₂ : List ℤ} {r₁ r₂ : ℕ} → ExportTold def t d out o₁ a₁ r₁ → ExportTold def t d out o₂ a₂ r₂
      → ((r₁ ≡ r₂) × (a₁ ≡ a₂)) × (o₁ ≡ o₂)
  one_export_told = face.export_told_one

module _ {def : List ℕ} {t : List ℤ} {s out : List ℕ} where
  pub one_import : {o₁ o₂ : List ℕ} {v₁ v₂ : ImportVerdict} → Imported def t s out o₁ v₁ → Imported def t s out o₂ v₂ → (v₁ ≡ v₂)
      × (o₁ ≡ o₂)
  one_import = imports.import_one

  pub one_import_told : {o₁ o₂ : List ℕ} {a₁ a₂ : List ℤ} {r₁ r₂ : ℕ} → ImportTold def t s out o₁ a₁ r₁ → ImportTold def t s out o₂ a₂ r₂
      → ((r₁ ≡ r₂) × (a₁ ≡ a₂)) × (o₁ ≡ o₂)
  one_import_told = face.import_told_one

module _ {d : List ℕ} {from : ℕ} where
  pub one_next : {n₁ n₂ : Next} → NextFound d from n₁ → NextFound d from n₂ → n₁ ≡ n₂
  one_next = settled.next_settled

  pub one_next_told : {a₁ a₂ : List ℤ} {r₁ r₂ : ℕ} → NextTold d from a₁ r₁ → NextTold d from a₂ r₂ → (r₁ ≡ r₂) × (a₁ ≡ a₂)
  one_next_told = face.next_told_one

module _ {d : List ℕ} {t : List ℤ} where
  pub one_definition : {t₁ t₂ : List ℤ} {a₁ a₂ : Answer} → DefinitionRead d t t₁ a₁ → DefinitionRead d t t₂ a₂ → (a₁ ≡ a₂) × (t₁ ≡ t₂)
  one_definition = kinds.definition_settled

  pub one_definition_told : {t₁ t₂ a₁ a₂ : List ℤ} {r₁ r₂ : ℕ} → DefinitionTold d t t₁ a₁ r₁ → DefinitionTold d t t₂ a₂ r₂
      → ((r₁ ≡ r₂) × (a₁ ≡ a₂)) × (t₁ ≡ t₂)
  one_definition_told = face.definition_told_one

  pub refused_definition_keeps : {t' : List ℤ} {n p : ℕ} → DefinitionRead d t t' (definition.Refused n p) → t' ≡ t
  refused_definition_keeps = kinds.definition_refused_keeps

module _ {d : List ℕ} {t : List ℤ} {out : List ℕ} where
  pub one_clean : {o₁ o₂ : List ℕ} {a₁ a₂ : clean.Written} → DefinitionWritten d t out o₁ a₁ → DefinitionWritten d t out o₂ a₂
      → (a₁ ≡ a₂) × (o₁ ≡ o₂)
  one_clean = cleaning.write_one

  pub one_clean_told : {o₁ o₂ : List ℕ} {a₁ a₂ : List ℤ} {r₁ r₂ : ℕ} → CleanTold d t out o₁ a₁ r₁ → CleanTold d t out o₂ a₂ r₂
      → ((r₁ ≡ r₂) × (a₁ ≡ a₂)) × (o₁ ≡ o₂)
  one_clean_told = face.clean_told_one

module _ {d : List ℕ} {place long : ℕ} {l : List ℤ} where
  pub one_text_told : {l₁ l₂ a₁ a₂ : List ℤ} {r₁ r₂ : ℕ} → TextTold d place long l l₁ a₁ r₁ → TextTold d place long l l₂ a₂ r₂
      → ((r₁ ≡ r₂) × (a₁ ≡ a₂)) × (l₁ ≡ l₂)
  one_text_told = face.text_told_one

module _ {t : List ℤ} {d out : List ℕ} {list : List ℤ} where
  pub one_mend_told : {out₁ out₂ : List ℕ} {l₁ l₂ a₁ a₂ : List ℤ} {r₁ r₂ : ℕ} → MendTold t d out out₁ list l₁ a₁ r₁
      → MendTold t d out out₂ list l₂ a₂ r₂ → ((r₁ ≡ r₂) × (a₁ ≡ a₂)) × ((out₁ ≡ out₂) × (l₁ ≡ l₂))
  one_mend_told = face.mend_told_one

module _ {t : List ℤ} {i : ℕ} {old : List ℕ} where
  -- the exported functions but that for a truth promise `Written` too
  pub one_write : {x : Value} {n₁ n₂ : List ℕ} {a₁ a₂ : ℕ} → Written t i x old n₁ a₁ → Written t i x old n₂ a₂ → (n₁ ≡ n₂) × (a₁ ≡ a₂)
  one_write = writing.one_outcome

  pub one_truth_told : {b : ℕ} {n₁ n₂ : List ℕ} {r₁ r₂ : ℕ} → TruthTold t i b old n₁ r₁ → TruthTold t i b old n₂ r₂
      → (r₁ ≡ r₂) × (n₁ ≡ n₂)
  one_truth_told = face.truth_told_one

  pub refused_write_keeps : {x : Value} {new : List ℕ} {a : ℕ} → (a ≡ 0 → ⊥) → Written t i x old new a → new ≡ old
  refused_write_keeps = writing.refused_keeps

  pub refused_truth_keeps : {b : ℕ} {new : List ℕ} {r : ℕ} → (r ≡ 0 → ⊥) → TruthTold t i b old new r → new ≡ old
  refused_truth_keeps {b} n x = ⊎_elim (λ l. writing.refused_keeps n (x.given l)) (λ l. (x.other l).keeps) (lt_or_le b 2)

-- ==== 2. EXACT READING, EXACT REFUSALS BOTH WAYS, READ-BACK
-- a value is read, or refused, exactly when the line of `ReadOutcome` for it is so
pub read_so : (t : List ℤ) (i : ℕ) (bytes : List ℕ) (l : List ℤ) {l' : List ℤ} {o : Outcome}
    → ValueRead t i bytes l l' o → ReadOutcome t i bytes l l' o
read_so = reading.read_named

pub so_read : (t : List ℤ) (i : ℕ) (bytes : List ℕ) (l : List ℤ) {l' : List ℤ} {o : Outcome}
    → ReadOutcome t i bytes l l' o → ValueRead t i bytes l l' o
so_read = reading.read_only

-- a field is illegal exactly when it is neither spaces nor its kind's form with a legal number
pub illegal_so : (t : List ℤ) (v : ℕ) (r : Row) (s : List ℕ) (k : Kind) → Given t v r s k
    → (field_by k t v r s ≡ illegal → Illegal t v r s k) × (Illegal t v r s k → field_by k t v r s ≡ illegal)
illegal_so = exactly.illegal_exactly

-- a record gets its verdict, and a file gets its, exactly when what the verdict says is so; a file's is that of `verdict_of`, record by
-- record
pub record_so : (t : List ℤ) (bytes : List ℕ) {v : Verdict} → RecordJudged t bytes v → RecordOutcome t bytes v
record_so = judging.record_named

pub so_record : (t : List ℤ) (bytes : List ℕ) {v : Verdict} → RecordOutcome t bytes v → RecordJudged t bytes v
so_record = judging.record_only

pub file_so : (t : List ℤ) (d : List ℕ) → FileOutcome t d (file_verdict t d)
file_so = files.file_named

pub so_file : {t : List ℤ} {d : List ℕ} {v : FileVerdict} → FileOutcome t d v → file_verdict t d ≡ v
so_file = files.file_only

-- a part of a file gets its verdict exactly when what the verdict says is so
pub part_so : (t : List ℤ) (d : List ℕ) (terminator first last : ℕ)
    → PartOutcome t d terminator first last (part_verdict t d terminator first last)
part_so = part.part_named

pub so_part : (t : List ℤ) (d : List ℕ) (terminator first last : ℕ) {v : PartVerdict}
    → PartOutcome t d terminator first last v → part_verdict t d terminator first last ≡ v
so_part = part.part_only

-- the matrix is refused by 20 and by the file's own refusal exactly when the file is refused so; that of a sound file by 80, 81, 82, or
-- written, exactly when what that says is so
pub matrix_own : (t : List ℤ) (d : List ℕ) (room : ℕ) (v : FileVerdict) → matrix_verdict t d room ≡ refused_as v → Refusal v
    × (file_verdict t d ≡ v)
matrix_own = sizes.own_named

pub own_matrix : (t : List ℤ) (d : List ℕ) (room : ℕ) (v : FileVerdict) → Refusal v → file_verdict t d ≡ v → matrix_verdict t d room
    ≡ refused_as v
own_matrix = sizes.own_only

pub matrix_so : (t : List ℤ) (d : List ℕ) (room n : ℕ) → file_verdict t d ≡ sound_with n
    → SizeOutcome n (length (table_columns t)) room (matrix_verdict t d room)
matrix_so = sizes.matrix_named

pub so_matrix : (t : List ℤ) (d : List ℕ) (room n : ℕ) → file_verdict t d ≡ sound_with n → {v : MatrixVerdict}
    → SizeOutcome n (length (table_columns t)) room v → matrix_verdict t d room ≡ v
so_matrix t d room n s o = sizes.matrix_only t d room n s o

-- refused, it leaves the output as it was; written, it leaves what lies beyond the total
module _ {t : List ℤ} {d out out' : List ℕ} where
  pub matrix_own_kept : {v : FileVerdict} → MatrixWritten t d out out' (refused_as v) → out' ≡ out
  matrix_own_kept = matrix-kept.own_kept

  pub matrix_refused_kept : {k : ℕ} → MatrixWritten t d out out' (matrix-rule.refused k) → out' ≡ out
  matrix_refused_kept = matrix-kept.refused_kept

  pub matrix_beyond_kept : {k r c : ℕ} → MatrixWritten t d out out' (matrix-rule.written k r c) → drop k out' ≡ drop k out
  matrix_beyond_kept = matrix-kept.beyond_kept

-- its length is its total; the presence byte and the eight bytes of record n, column k are those of the column's entry in the record, and
-- the 24 bytes of column k are the summary of its values that are present
pub matrix_long : (t : List ℤ) (rs : List (List ℕ)) → length (matrix_of t rs) ≡ total_of (length rs) (length (table_columns t))
matrix_long = matrix.matrix_length

module _ (t : List ℤ) (rs : List (List ℕ)) (out : List ℕ) (inside : total_of (length rs) (length (table_columns t)) ≤ length out) where
  pub matrix_presence : (n k : ℕ) → n < length rs → k < length (table_columns t)
      → get_or (put_at out 0 (matrix_of t rs)) (presence_at (length (table_columns t)) + (n * length (table_columns t) + k)) 0
      ≡ presence_of (entry_of t (rows_of t) (get_or rs n []) (get_or (table_columns t) k (of_row 0)))
  matrix_presence = matrix.presence_is t rs out inside

  pub matrix_value : (n k : ℕ) → n < length rs → k < length (table_columns t)
      → take 8 (drop (values_at (length rs) (length (table_columns t)) + 8 * (n * length (table_columns t) + k))
      (put_at out 0 (matrix_of t rs)))
      ≡ little.little_bytes 8 (to_bits binary64 (float_of
      (entry_of t (rows_of t) (get_or rs n []) (get_or (table_columns t) k (of_row 0)))))
  matrix_value = matrix.value_is t rs out inside

  pub matrix_summary : (k : ℕ) → k < length (table_columns t) → take 24 (drop (24 + 24 * k) (put_at out 0 (matrix_of t rs)))
      ≡ summary_bytes (summary_of (present_of (column_entries t (rows_of t) (get_or (table_columns t) k (of_row 0)) rs)))
  matrix_summary = matrix.summary_is t rs out inside

  -- the six numbers of the header, as a reader takes them
  pub matrix_header : 0 < length (table_columns t) → total_of (length rs) (length (table_columns t)) ≤ 16777216
      → Headed (length rs) (length (table_columns t)) (put_at out 0 (matrix_of t rs))
  matrix_header = headed.header_reads t rs out inside

-- and that summary, of each column of a sound file, is the count, a smallest and a largest of the values present, or zeros
pub matrix_extremes : (t : List ℤ) (d : List ℕ) (n k : ℕ) → file_verdict t d ≡ sound_with n → k < length (table_columns t)
    → let xs = present_of (column_entries t (rows_of t) (get_or (table_columns t) k (of_row 0)) (ended_of (records_of d))) in
    Summarises xs (summary_of xs)
matrix_extremes = summaries.sound_summary

-- a file cut into parts of any sizes, each beginning where the one before left off, gets its own verdict; where a part left off, behind its
-- count of records, none of it is ended; every file's terminator has a number, but for one that has none
pub file_in_parts : (t : List ℤ) (d : List ℕ) (terminator : ℕ) (sizes : List ℕ) → terminator_of d ≡ numbered terminator
    → IsNumber terminator → in_parts t terminator (length_of_first (records_of d)) 0 d sizes ≡ judged_as (file_verdict t d)
file_in_parts = parts.in_parts_lem

pub part_left_off : (t : List ℤ) (d : List ℕ) (terminator first last m : ℕ)
    → part_verdict t d terminator first last ≡ judged_as (sound_with m)
    → count_ended (records_from (numbered terminator) (drop (m * (first + (numbered terminator).size)) d)) ≡ 0
part_left_off = parts.left_off

pub file_numbered : (d : List ℕ) → FileNumber d
file_numbered = parts.file_number

-- a file's verdict, its table tested once, is that of each of its records, found by the next-record call and judged by the record call;
-- by a table that is not well formed it is 20
pub file_as_each : (t : List ℤ) (d : List ℕ) → well_formed t ≡ true → {v : FileVerdict} → Driven t d 0 0 0 v → file_verdict t d ≡ v
file_as_each = each.once_as_each

pub each_ends : (t : List ℤ) (d : List ℕ) → Drive t d 0 0 0
each_ends = each.drives

pub bad_told_once : (t : List ℤ) (d : List ℕ) → well_formed t ≡ false → file_verdict t d ≡ bad_table
bad_told_once = each.once_bad

-- the count is that of the terminators passed; a file is cut at each whole terminator, and only so
pub count_so : (t : List ℤ) (d : List ℕ) (n : ℕ) → file_verdict t d ≡ sound_with n → n ≡ count_ended (records_of d)
count_so = files.count_passed

-- a file's terminator is the first one met
pub terminator_so : (d : List ℕ) (w : Terminator) → (terminator_of d ≡ w) ↔ First d w
terminator_so = terminators.terminator_exactly

pub cut_clean : (d : List ℕ) → Clean (terminator_of d) (records_of d)
cut_clean = cutting.no_terminator_inside

pub cut_again : (d : List ℕ) → laid (terminator_of d) (records_of d) ≡ d
cut_again = laid_again

pub cut_one : (d : List ℕ) (rs : Records) → Clean (terminator_of d) rs → laid (terminator_of d) rs ≡ d → rs ≡ records_of d
cut_one = cutting.cut_only

-- a write is refused by its number exactly when what the number says is so
pub write_so : (t : List ℤ) (i : ℕ) (x : Value) (n : ℕ) → rule.WritingOutcome t i x n (refusal_of t i x n)
write_so = writing.named

pub so_write : (t : List ℤ) (i : ℕ) (x : Value) (n : ℕ) {k : ℕ} → rule.WritingOutcome t i x n k → refusal_of t i x n ≡ k
so_write = writing.only

-- and a value fits a row, is of another type (26), not legal (27) or of too many members (28) exactly when, in the paper's words
pub fit_so : (t : List ℤ) (v : ℕ) (r : Row) (k : Kind) (x : Value) → Fitting t v r k x (fits_by k t v r x)
fit_so = fits.fit_named

pub so_fit : (t : List ℤ) (v : ℕ) (r : Row) {k : Kind} {x : Value} {f : Fit} → Fitting t v r k x f → fits_by k t v r x ≡ f
so_fit = fits.fit_only

-- of a well-formed table no number is negative but a quantity's from, to and line values
pub table_signs : (t : List ℤ) → well_formed t ≡ true → TableSigns t
table_signs = signs.formed_not_negative

-- a definition of either kind that is read leaves a well-formed table
pub definition_formed : {d : List ℕ} {t t' : List ℤ} {v e : ℕ} → DefinitionRead d t t' (definition.Read v e) → well_formed t' ≡ true
definition_formed = settled.definition_well_formed

-- what was written is read back
pub read_back : {t : List ℤ} {i : ℕ} {x : Value} {old new : List ℕ} → Written t i x old new 0 → reading_at t i new ≡ holds x
read_back = writing.read_back

pub call_read_back : {t : List ℤ} {i : ℕ} {x : Value} {old new : List ℕ} → Written t i x old new 0 → {l l' : List ℤ} {o : Outcome}
    → ValueRead t i new l l' o → o ≡ outcome_of ((row_at t i).start - 1) (length l) (row_fault t (rows_of t) new i) (holds x)
call_read_back = back.reads_written

pub list_read_back : {t : List ℤ} {i : ℕ} {x : Value} {old new : List ℕ} → Written t i x old new 0 → {l l' : List ℤ} {o : Outcome}
    → ValueRead t i new l l' o → l' ≡ list_after (holds x) l
list_read_back = back.list_written

pub text_read_back : {t : List ℤ} {i : ℕ} {s old new : List ℕ} → Written t i (text s) old new 0
    → take (length s) (drop ((row_at t i).start - 1) new) ≡ s
text_read_back = back.text_there

-- ==== 3. THE LAWS OF CORRECTIONS, for the call and, since they promise `Written` too, for the exported functions
-- locality
pub others_kept : {t : List ℤ} {i : ℕ} {x : Value} {old new : List ℕ} → Written t i x old new 0
    → (q : ℕ) → Out q (places_of t (rows_of t) (row_at t i)) → get_or new q 0 ≡ get_or old q 0
others_kept = writing.locality

pub others_read : {t : List ℤ} {i : ℕ} {x : Value} {old new : List ℕ} → Written t i x old new 0
    → (k : ℕ) → Apart (places_of t (rows_of t) (row_at t k)) (places_of t (rows_of t) (row_at t i)) → reading_at t k new
    ≡ reading_at t k old
others_read = writing.others_unchanged

-- the last write counts, whatever the one before it answered
pub last_counts : {t : List ℤ} {i : ℕ} {x y : Value} {old one two alone : List ℕ} {a b c : ℕ}
    → Written t i x old one a → Written t i y one two b → Written t i y old alone c → b ≡ 0 → two ≡ alone
last_counts = writing.last_write

-- rows with no shared value place are written in either order, whatever is answered
pub in_either_order : {t : List ℤ} {i j : ℕ} {x y : Value} {old one two one' two' : List ℕ} {a b a' b' : ℕ}
    → Apart (places_of t (rows_of t) (row_at t i)) (places_of t (rows_of t) (row_at t j))
    → Written t i x old one a → Written t j y one two b → Written t j y old one' b' → Written t i x one' two' a' → two ≡ two'
in_either_order = writing.either_way

-- write-back: what a read answered is written, and every later read answers the same
module _ {t : List ℤ} {i : ℕ} {x : Value} {old new : List ℕ} {l l' : List ℤ} {o : Outcome} {a : ℕ} where
  pub back_written : ValueRead t i old l l' o → Answered l' old o x → Written t i x old new a → a ≡ 0
  back_written = again.back_done

  pub back_reads : ValueRead t i old l l' o → Answered l' old o x → Written t i x old new a
      → {m m' : List ℤ} {p : Outcome} → ValueRead t i new m m' p → ValueRead t i old m m' p
  back_reads = again.back_read

  pub back_answers : ValueRead t i old l l' o → Answered l' old o x → Written t i x old new a
      → {m m' : List ℤ} {p : Outcome} → length m ≡ length l → ValueRead t i new m m' p → p ≡ o
  back_answers = again.back_same

-- a truth given as a number: what is done is the write of a truth
pub truth_laws : {t : List ℤ} {i b : ℕ} {old new : List ℕ} → TruthTold t i b old new 0 → Written t i (truth (eqb b 1)) old new 0
truth_laws = face.truth_written

-- ==== C-18 OF DOCUMENT 02: WHAT IS WRONG WITH A FIELD
-- where a field is refused, its fault is 241, 242 or 243, the record's by a row of the table; and the list is kept. (That a row is
-- refused in the same cases as before is in `read_so` and `record_so`: they go by the reading, as before.)
pub judged_fault_told : {t : List ℤ} {bytes : List ℕ} {i : ℕ} {x : Fault} → RecordJudged t bytes (bad_field i x)
    → (i < rows_of t) × Told x (fault_number x)
judged_fault_told = faults.judged_fault

pub read_fault_told : {t : List ℤ} {i : ℕ} {bytes : List ℕ} {l : List ℤ} {x : Fault} {l' : List ℤ}
    → ValueRead t i bytes l l' (value.bad_field x) → Told x (fault_number x)
read_fault_told = faults.read_fault

pub fault_read_keeps : {t : List ℤ} {i : ℕ} {bytes : List ℕ} {l l' : List ℤ} {x : Fault}
    → ValueRead t i bytes l l' (value.bad_field x) → l' ≡ l
fault_read_keeps = reading.read_fault_keeps

-- ==== 4. C-14 OF DOCUMENT 02: A LIST OF CORRECTIONS IN ONE CALL
pub one_list_told : {t : List ℤ} {list list₁ list₂ : List Correction} {old new₁ new₂ : List ℕ} {r₁ r₂ : ℕ}
    → ListCorrected t list list₁ old new₁ r₁ → ListCorrected t list list₂ old new₂ r₂
    → (r₁ ≡ r₂) × ((list₁ ≡ list₂) × (new₁ ≡ new₂))
one_list_told = face.list_told_one

module _ {t : List ℤ} {list list' : List Correction} {old new : List ℕ} where
  -- record and marks are what single writes in list order give, and nothing else
  pub list_as_singles : ListCorrected t list list' old new 0 → Chain t list list' old new
  list_as_singles = singles.as_singles

  pub singles_as_list : {done : List Correction} {left : List ℕ} → ListCorrected t list list' old new 0 → Chain t list done old left
      → (list' ≡ done) × (new ≡ left)
  singles_as_list = singles.singles_as

  -- a mark depends on the table, its correction and the record's length alone
  pub marks_alone : ListCorrected t list list' old new 0 → list' ≡ map (λ (c : Correction). marked_with c (mark_of t c (length old))) list
  marks_alone = singles.marks_alone

  -- each number exactly when
  pub list_says : {r : ℕ} → ListCorrected t list list' old new r → ListOutcome t (length old) r
  list_says = numbers.list_named

  pub says_list : {r k : ℕ} → ListCorrected t list list' old new r → ListOutcome t (length old) k → r ≡ k
  says_list p o = numbers.list_only p o

  pub mark_says : ListCorrected t list list' old new 0 → (c : Correction)
      → MarkOutcome t c.row (asked_of c.value) (mark_of t c (length old))
  mark_says = numbers.mark_says

  pub says_mark : {k : ℕ} → ListCorrected t list list' old new 0 → (c : Correction) → MarkOutcome t c.row (asked_of c.value) k
      → mark_of t c (length old) ≡ k
  says_mark p c o = numbers.says_mark p c o

  pub refused_list_keeps : {r : ℕ} → (r ≡ 0 → ⊥) → ListCorrected t list list' old new r → (list' ≡ list) × (new ≡ old)
  refused_list_keeps = singles.whole_refused_keeps

-- the later accepted one counts
pub later_counts : {t : List ℤ} (sound_before : List Correction) (c : Correction) {after list' : List Correction} {x : Value}
    {old new : List ℕ}
    → ListCorrected t (sound_before ++ c ∷ after) list' old new 0 → asked_of c.value ≡ asks x → mark_of t c (length old) ≡ 0
    → Clear t (length old) c.row after → reading_at t c.row new ≡ holds x
later_counts = later.later_counts

-- ==== 5. C-21 OF DOCUMENT 02: ONE NORMAL FORM OF A RECORD
pub normal_told : {t : List ℤ} {old new₁ new₂ : List ℕ} {a₁ a₂ : List ℤ} {r₁ r₂ : ℕ}
    → NormalTold t old new₁ a₁ r₁ → NormalTold t old new₂ a₂ r₂ → ((r₁ ≡ r₂) × (a₁ ≡ a₂)) × (new₁ ≡ new₂)
normal_told = face.normal_told_one

-- each number exactly when: 20; 90, "two rows share a value place"; else that of judging the record
pub normal_says : {t : List ℤ} {old new : List ℕ} {v : Verdict} → Normalised t old new v → NormalOutcome t old v
normal_says = exact.normal_named

pub says_normal : {t : List ℤ} {old new : List ℕ} {v k : Verdict} → Normalised t old new v → NormalOutcome t old k → v ≡ k
says_normal p o = exact.normal_only p o

-- a refusal keeps the record
pub normal_refused : {t : List ℤ} {old new : List ℕ} {v : Verdict} → Normalised t old new v → (v ≡ verdict.sound → ⊥) → new ≡ old
normal_refused = forms.refused_keeps

-- all rows read as before
pub normal_reads : {t : List ℤ} {old new : List ℕ} → Normalised t old new verdict.sound → ReadAlike t new old
normal_reads = forms.reads_as_before

-- a second pass is not refused and changes nothing
pub normal_twice : {t : List ℤ} {old new newer : List ℕ} {v : Verdict} → Normalised t old new verdict.sound → Normalised t new newer v
    → (v ≡ verdict.sound) × (newer ≡ new)
normal_twice p q = forms.second_pass p q

-- "two such records of one length that agree outside the value places have equal normal forms exactly when all rows read equal"
pub normal_same : {t : List ℤ} {a b a' b' : List ℕ} → Normalised t a a' verdict.sound → Normalised t b b' verdict.sound
    → length a ≡ length b → AgreeOutside t a b → (a' ≡ b') ↔ ReadAlike t a b
normal_same = forms.same_exactly

-- bytes outside the value places are kept, and the order of the rows makes no difference
pub normal_keeps : {t : List ℤ} {old new : List ℕ} → Normalised t old new verdict.sound → (q : ℕ) → OutAll t q → get_or new q 0
    ≡ get_or old q 0
normal_keeps = forms.filler_kept

pub normal_any_order : {t : List ℤ} {old new : List ℕ} → Normalised t old new verdict.sound → (ns : List ℕ) → EveryRow t ns
    → back_all t ns old ≡ new
normal_any_order = forms.order_free

-- ==== 6. C-19 OF DOCUMENT 02: A DAMAGED FILE MENDED
-- the mender's pieces, with their boundaries laid end to end, are the file, and none holds CR or LF
pub mender_pieces : (d : List ℕ) → laid_pieces (pieces_of d) ≡ d
unfolding pieces_of
mender_pieces = pieces.pieces_laid

pub mender_unbroken : (d : List ℕ) → AllUnbroken (pieces_of d)
mender_unbroken = unbroken.pieces_unbroken

-- "each CR LF, LF CR, CR or LF as a boundary, pairs first": these are its pieces exactly when they are so parted and make the file
pub mender_parts : (d : List ℕ) (ps : List Piece) → (pieces_of d ≡ ps) ↔ ((laid_pieces ps ≡ d) × Parted ps)
mender_parts = parted.pieces_exactly

-- each refusal exactly when; beyond what is written output and list are kept, on a refusal all of both
pub mend_refusals : (t : List ℤ) (d : List ℕ) (room cells : ℕ) → MendOutcome t d room cells (mending.mended_as t d room cells)
mend_refusals = mend-once.mend_named

pub mend_no_other : {t : List ℤ} {d : List ℕ} {room cells : ℕ} {o : mending.MendAnswer} → MendOutcome t d room cells o
    → mending.mended_as t d room cells ≡ o
mend_no_other = mend-once.mend_only

module _ {t : List ℤ} {d out out' : List ℕ} {list list' : List ℤ} {r : Mended} where
  pub mend_keeps_beyond : Mends t d out out' list list' r
      → (drop (length (bytes_in t d)) out' ≡ drop (length (bytes_in t d)) out)
      × (drop (length (mending.entry_numbers (list_in t d))) list' ≡ drop (length (mending.entry_numbers (list_in t d))) list)
  mend_keeps_beyond = mend-once.kept_beyond

  pub mend_keeps_refused : {k : ℕ} → Mends t d out out' list list' r → mending.mend_said r ≡ mending.refused k → (out' ≡ out)
      × (list' ≡ list)
  mend_keeps_refused = mend-once.kept_refused

-- a file whose line ends, lengths and bytes are sound: no record of it is judged 30, 31, 22 or 23
pub sound_lines_exactly : (t : List ℤ) (d : List ℕ) → SoundLines t d ↔ NoneOfFour t (length_of_first (records_of d)) (records_of d)
sound_lines_exactly = mend-judged.sound_exactly

-- the mended file is sound in line ends, lengths and bytes, and judged with no 30, 31, 22, 23; a file is so exactly when nothing is listed,
-- exactly when it comes out as it went in; twice is once
pub mended_is_sound : (t : List ℤ) (d : List ℕ) → well_formed t ≡ true → SoundLines t (bytes_in t d)
mended_is_sound = mended.mended_sound

pub mended_by_fields : (t : List ℤ) (d : List ℕ) → well_formed t ≡ true → ByFields (file_verdict t (bytes_in t d))
mended_by_fields = mend-judged.mended_judged

pub sound_nothing_listed : (t : List ℤ) (d : List ℕ) → well_formed t ≡ true → SoundLines t d → list_in t d ≡ []
sound_nothing_listed = mended.sound_unlisted

pub nothing_listed_same : (t : List ℤ) (d : List ℕ) → list_in t d ≡ [] → bytes_in t d ≡ d
nothing_listed_same = mended.unlisted_same

pub same_is_sound : (t : List ℤ) (d : List ℕ) → well_formed t ≡ true → bytes_in t d ≡ d → SoundLines t d
same_is_sound = mended.same_sound

pub mended_twice : (t : List ℤ) (d : List ℕ) → well_formed t ≡ true → bytes_in t (bytes_in t d) ≡ bytes_in t d
mended_twice = mended.mend_twice

-- no other byte differs: byte j of the kept record k, where it is 32 or more, stands at its place
pub other_bytes_kept : (t : List ℤ) (d : List ℕ) (k j : ℕ) → k < length (kept_of (pieces_of d)) → j
    < length (get_or (kept_of (pieces_of d)) k [])
    → 32 ≤ get_or (get_or (kept_of (pieces_of d)) k []) j 0
    → get_or (bytes_in t d) (k * (width_of_records t d + (ending_of d).size) + j) 0 ≡ get_or (get_or (kept_of (pieces_of d)) k []) j 0
other_bytes_kept = mend-once.others_kept

-- the list is in input order, and holds just what is due
pub mend_list_rises : (t : List ℤ) (d : List ℕ) → RisingEntries 0 (list_in t d)
mend_list_rises = mend-listed.list_rises

pub due_is_listed : (t : List ℤ) (d : List ℕ) {x : mending.MendEntry} → DueIn (width_of_records t d) (ending_of d) 1 0 (pieces_of d) x
    → In x (list_in t d)
due_is_listed = mend-listed.due_listed

pub listed_is_due : (t : List ℤ) (d : List ℕ) {x : mending.MendEntry} → In x (list_in t d)
    → DueIn (width_of_records t d) (ending_of d) 1 0 (pieces_of d) x
listed_is_due = mend-listed.listed_due

-- ---- AN EXPORT (C-16): 20, 40, 60 or written, exactly when what that says is so
pub export_so : (def : List ℕ) (t : List ℤ) (d : List ℕ) (room : ℕ) → ExportOutcome def t d room (export_verdict def t d room)
export_so = exports.export_named

pub so_export : (def : List ℕ) (t : List ℤ) (d : List ℕ) (room : ℕ) {v : ExportVerdict} → ExportOutcome def t d room v
    → export_verdict def t d room ≡ v
so_export def t d room o = exports.export_only def t d room o

-- what it says of the data is what judging them says; it has a line for the names and one for each record before the first fault
pub export_judged : {def : List ℕ} {t : List ℤ} {d out out' : List ℕ} {v : FileVerdict} {n : ℕ}
    → Exported def t d out out' (export.written v n)
    → v ≡ file_verdict t d
export_judged a = exports.export_judged a

pub export_lines_lem : (def : List ℕ) (t : List ℤ) (d : List ℕ) → well_formed t ≡ true → length (export_lines def t d)
    ≡ suc (sound_before (file_verdict t d))
export_lines_lem = lines.export_lines_lem

-- the output keeps all it held, or holds the text, and behind it what stood there
pub export_kept : {def : List ℕ} {t : List ℤ} {d out out' : List ℕ} {k : ℕ} → Exported def t d out out' (export.refused k) → out' ≡ out
export_kept a = exports.export_kept a

module _ {def : List ℕ} {t : List ℤ} {d out out' : List ℕ} {v : FileVerdict} {n : ℕ} (a : Exported def t d out out' (export.written v n))
  where
    pub export_stands : take (length (export_text def t d)) out' ≡ export_text def t d
    export_stands = exports.export_stands a

    pub export_behind : drop (length (export_text def t d)) out' ≡ drop (length (export_text def t d)) out
    export_behind = exports.export_behind a

-- a field is quoted exactly when it holds a comma, a quote, CR or LF
pub quoted_when : (f : List ℕ) → HoldsOne f → field_bytes f ≡ (34 ∷ []) ++ (doubled f ++ (34 ∷ []))
quoted_when = quoted.quoted_when

pub plain_when : (f : List ℕ) → (HoldsOne f → ⊥) → field_bytes f ≡ f
plain_when = quoted.plain_when

-- equal lines of two records only for equal fields, row by row
pub lines_apart : (t : List ℤ) (r s : List ℕ) → 1 ≤ rows_of t → line_bytes (record_line t r) ≡ line_bytes (record_line t s)
    → (i : ℕ) → i < rows_of t → row_field t r i ≡ row_field t s i
lines_apart = apart.record_same

-- and so of two sound records only where their rows read the same
pub lines_read : (t : List ℤ) → well_formed t ≡ true → (r s : List ℕ) → verdict.verdict_of t r ≡ verdict.sound → verdict.verdict_of t s
    ≡ verdict.sound
    → line_bytes (record_line t r) ≡ line_bytes (record_line t s) → (i : ℕ) → i < rows_of t → reading_at t i r ≡ reading_at t i s
lines_read = equal.equal_lines

-- ---- AN IMPORT (C-23): 20, 40, 90, the text's own refusal, 60, or written, exactly when what that says is so
pub import_so : (def : List ℕ) (t : List ℤ) (s : List ℕ) (room : ℕ) → ImportOutcome def t s room (import_verdict def t s room)
import_so = imports.import_named

pub so_import : (def : List ℕ) (t : List ℤ) (s : List ℕ) (room : ℕ) {v : ImportVerdict} → ImportOutcome def t s room v
    → import_verdict def t s room ≡ v
so_import def t s room o = imports.import_only def t s room o

-- the text's own refusal: that of its first line that has one, of a line the lowest number
module _ (t : List ℤ) (g : well_formed t ≡ true) (names : List (List ℕ)) (s : List ℕ) where
  pub text_so : TextOutcome t names (csv.page_lines (page fresh s)) (text_says t names s)
  text_so = imports.text_named t g names s

  pub so_text : {x : TextSays} → TextOutcome t names (csv.page_lines (page fresh s)) x → text_says t names s ≡ x
  so_text o = imports.text_only t g names s o

-- the output keeps all it held, or holds the data, and behind them what stood there
pub import_kept : {def : List ℕ} {t : List ℤ} {s out out' : List ℕ} {k n c : ℕ} → Imported def t s out out' (import'.refused k n c) → out'
    ≡ out
import_kept a = imports.import_kept a

module _ {def : List ℕ} {t : List ℤ} {s out out' : List ℕ} {n m : ℕ} (a : Imported def t s out out' (import'.written n m)) where
  pub import_stands : take (length (data_of (import_says def t s))) out' ≡ data_of (import_says def t s)
  import_stands = imports.import_stands a

  pub import_behind : drop (length (data_of (import_says def t s))) out' ≡ drop (length (data_of (import_says def t s))) out
  import_behind = imports.import_behind a

-- "For every sound file under a table with no shared value places, importing its export gives records whose rows read as the originals."
pub import_export : (def : List ℕ) {t : List ℤ} (d : List ℕ) {n : ℕ} → Table t → file_verdict t d ≡ sound_with n → Returned def t d
import_export = trip.import_export

-- and by two calls, the text in the export's buffer lent to the import: it is refused for want of room alone, and what is built reads
-- as the originals
module _
    {def : List ℕ}
    {t : List ℤ}
    {d out out' back back' : List ℕ}
    {n m : ℕ}
    {v : FileVerdict}
    (table : Table t)
    (sound : file_verdict t d ≡ sound_with n)
    (exported : Exported def t d out out' (export.written v m))
  where
    pub calls_come_back : {k l : ℕ} → Imported def t (take m out') back back' (import'.written k l) → CameBack t d back' k l
    calls_come_back = calls.came_back table sound exported

    pub calls_room_alone : {k a b : ℕ} → Imported def t (take m out') back back' (import'.refused k a b) → k ≡ 60
    calls_room_alone = calls.room_alone table sound exported

-- exporting what a text builds gives the text again, needless quotes and cut zeros aside; and a text is accepted exactly when it is,
-- these aside, the export of some sound file of records of L bytes
module _ {t : List ℤ} (g : Table t) (def s : List ℕ) where
  pub import_again : (rs : List (List ℕ)) → import_says def t s ≡ accepts rs → IsExport def t (file_bytes rs) s
  import_again rs e = (accepted.import_again g def s rs e).3

  pub accepted_exactly : Accepts def t s ↔ Original def t s
  accepted_exactly = accepted.accepted_exactly g def s

-- ---- A CLEAN DEFINITION (C-11): 1 to 9 as reading refuses, 40, 41, 42, or written, exactly when what that says is so
pub clean_so : (d : List ℕ) (t : List ℤ) (room : ℕ) → WriteOutcome d t room (clean_written (writing_of d t room))
clean_so = cleaning.write_named

pub so_clean : (d : List ℕ) (t : List ℤ) (room : ℕ) {a : clean.Written} → WriteOutcome d t room a → clean_written (writing_of d t room) ≡ a
so_clean d t room o = cleaning.write_only d t room o

pub clean_to_nine : (d : List ℕ) {number place : ℕ} → Unread d number place → (1 ≤ number) × (number ≤ 9) × (place ≤ length d)
clean_to_nine d u = low.unread_told d u

-- the output keeps all it held, or holds the clean text, and behind it what stood there
pub clean_kept : {d : List ℕ} {t : List ℤ} {out out' : List ℕ} {number place : ℕ}
    → DefinitionWritten d t out out' (clean-answer.Refused number place) → out' ≡ out
clean_kept a = cleaned.write_kept a

module _ {d : List ℕ} {t : List ℤ} {out out' : List ℕ} {n : ℕ} where
  pub clean_stands : DefinitionWritten d t out out' (clean-answer.Done n) → CleanStands d t out out' n
  clean_stands a = cleaned.write_stands a

  -- that text is read, says what the definition says, and is written again byte for byte
  pub clean_says_same : (w : CleanStands d t out out' n) → SaysSame d (take n out') w.survey n
  clean_says_same w = cleaned.write_reads w

-- it has as many lines as statements, each of bytes from 32 on, one at least, and CR LF
pub clean_lines_lem : (d : List ℕ) (s : Survey) → Reads d s → Lined (length (clean_lines d s)) (clean_of d s)
clean_lines_lem = Clean-back.clean_lines_lem

-- ==== C-15 OF DOCUMENT 02: DEFINITIONS IN XML, its first step: a row's use and filter, and the mark
-- "Use and filter change no reading or judgement. Record rules are proved once over both kinds of table."
pub both_kinds_alike : (t u : List ℤ) → well_formed t ≡ true → well_formed u ≡ true → Alike t u → SameRules t u
both_kinds_alike t u g h s = blind.blind t u g h s
