-- EQUAL LINES ONLY FOR EQUAL READINGS (document 02, C-16): two sound records of one table whose exported lines are the same bytes read the
-- same in every row.
-- Assumes nothing.
use Rattle.std.specs.Prelude.{◌≡◌, true, List, ℕ, ◌<◌, ℤ}
use Rattle.std.proofs.Common.{sym, ap, ◌∙◌}
use Rattle.layout.specs.rule.Row.{row_at}
use Rattle.fields.specs.rule.Field.{holds}
use Rattle.sound.specs.rule.Sound.{well_formed}
use Rattle.sound.specs.rule.Rows.{rows_of}
use Rattle.sound.specs.Rows.{parts, row_facts}
use Rattle.records.specs.rule.Value.{reading_at}
use Rattle.records.specs.rule.Verdict.{verdict_of, sound}
use Rattle.read_laws.specs.Refused.{sound_passes}
use Rattle.normal_laws.specs.Turns.{held_value}
use Rattle.commas.specs.rule.Csv.{line_bytes}
use Rattle.value_fields.specs.rule.Values.{row_field}
use Rattle.record_lines.specs.rule.Lines.{record_line}
use Rattle.export_laws.specs.Apart.{record_same}
use Rattle.field_values.specs.rule.Value.{IsValue}
use Rattle.field_values.specs.Exactly.{value_one}
use Rattle.import_laws.specs.Built.{own_field}

pub equal_lines : (t : List ℤ) → well_formed t ≡ true → (r s : List ℕ) → verdict_of t r ≡ sound → verdict_of t s ≡ sound
    → line_bytes (record_line t r) ≡ line_bytes (record_line t s) → (i : ℕ) → i < rows_of t → reading_at t i r ≡ reading_at t i s
equal_lines t g r s p q e i h =
    held_value (reading_at t i r) ((sound_passes t g r p).legal_rows i h) (λ x a.
    held_value (reading_at t i s) ((sound_passes t g s q).legal_rows i h) (λ y b.
    let f : row_field t r i ≡ row_field t s i = record_same t r s (parts t g).some_rows e i h in
    let k : IsValue t (rows_of t) (row_at t i) (row_field t r i) y = rw f (own_field t s i y b) in
    a ∙ ap holds (value_one (row_facts t g i h) (row_field t r i) x y (own_field t r i x a) k) ∙ sym b))
