-- A record built from L spaces by ordinary writes in row order reads as what was written, where no two rows share a value place; and a
-- sound record's own line builds such a record.
use Rattle.std.specs.Prelude.{◌≡◌, false, List, eqb, ℤ, length}
use Rattle.std.proofs.Math.Path.{refl, ap}
use Rattle.std.proofs.Common.{sym, ◌∙◌}
use Prim.Native.Nat.{ℕ, zero, suc, ◌+◌, ◌<◌}
use Rattle.std.proofs.Math.Numerals.{add-one}
use native.Mathlib.Omega.{arith}
use borrow.Author.Tests.{eq-eqb, eqb-true, eqb-false}
use Rattle.places.specs.rule.Places.{Apart}
use Rattle.layout.specs.rule.Row.{row_at}
use Rattle.fields.specs.rule.Field.{Value, Field, holds, spaces}
use Rattle.fields.specs.rule.Row.{fits, fit_of, written_of}
use Rattle.fieldlaws.specs.TextLaws.{length_spaces}
use Rattle.fieldlaws.specs.Corrections.{written_length, others_read, reads_back, read_fits}
use Rattle.sets.specs.rule.Sets.{is_illegal}
use Rattle.sound.specs.rule.Rows.{rows_of, length_of}
use Rattle.sound.specs.Rows.{row_facts}
use Rattle.records.specs.rule.Value.{reading_at}
use Rattle.laws.specs.Tops.{row_topped}
use Rattle.sharing.specs.rule.Sharing.{places_at}
use Rattle.sharing.specs.Claims.{by_cases}
use Rattle.sharing.specs.Pairs.{apart_rows}
use Rattle.normal_laws.specs.Turns.{held_value}
use Rattle.commas.specs.rule.Csv.{each}
use Rattle.value_fields.specs.rule.Values.{export_field, row_field}
use Rattle.widths.specs.rule.Width.{decimals_of}
use Rattle.record_lines.specs.rule.Lines.{record_line}
use Rattle.field_values.specs.rule.Value.{whole, IsValue}
use Rattle.field_values.specs.rule.Read.{value_from}
use Rattle.field_values.specs.Exactly.{value_exactly}
use Rattle.import_rule.specs.rule.Line.{LineSays, builds, on_field, record_from, line_says}
use Rattle.import_laws.specs.rule.Trip.{Table}

-- a field that is a value is taken
field_taken : (t : List ℤ) → Table t → (i : ℕ) → i < rows_of t → (f : List ℕ) (x : Value) → IsValue t (rows_of t) (row_at t i) f x
    → value_from t (rows_of t) (row_at t i) f ≡ holds x
field_taken t g i h f x k = (value_exactly (row_facts t g.formed i h) f x).1 k

-- the field that export writes for a row is the row's value
pub own_field : (t : List ℤ) (r : List ℕ) (i : ℕ) (x : Value) → reading_at t i r ≡ holds x
    → IsValue t (rows_of t) (row_at t i) (row_field t r i) x
unfolding row_field export_field
own_field t r i x e = record {
  accepted = read_fits t (rows_of t) (row_at t i) x r e;
  written = whole (sym (ap (export_field (decimals_of (row_at t i).kind)) e));
}

module _ {t : List ℤ} (g : Table t) where
  -- an earlier row shares no place with a later one
  pub earlier_apart : (i n : ℕ) → i < n → n < rows_of t → Apart (places_at t (rows_of t) i) (places_at t (rows_of t) n)
  earlier_apart i n h l = apart_rows t (rows_of t) g.unshared i n h l

  -- the rows before i read as `values` says
  pub record Reads (values : ℕ → Field) (i : ℕ) (s : List ℕ) : Type 0 where
    pub size : length s ≡ length_of t
    pub reads : (j : ℕ) → j < i → reading_at t j s ≡ values j

  pub none_read : (values : ℕ → Field) → Reads values 0 (spaces (length_of t))
  none_read values = record { size = length_spaces (length_of t); reads = λ j h. absurd (omega arith) }

  -- one row more
  pub one_read : {values : ℕ → Field} {i : ℕ} {s : List ℕ} → Reads values i s → i < rows_of t → (x : Value) → values i ≡ holds x
      → fit_of t (rows_of t) (row_at t i) x ≡ fits → Reads values (i + 1) (written_of t (rows_of t) (row_at t i) x s)
  one_read {values} {i} {s} r h x e f = record {
    size = written_length t (rows_of t) (row_at t i) x s ∙ r.size;
    reads = λ j l. by_cases (eqb j i) (λ q. here j (eqb-true j i q)) (λ q. there j l (eqb-false j i q));
  }
    where
      here : (j : ℕ) → j ≡ i → reading_at t j (written_of t (rows_of t) (row_at t i) x s) ≡ values j
      here j q = rw q (reads_back (row_at t i) (row_facts t g.formed i h) s (row_topped t g.formed i h) x (omega (arith, r.size)) f
          ∙ sym e)

      there : (j : ℕ) → j < i + 1 → (j ≡ i → ⊥) → reading_at t j (written_of t (rows_of t) (row_at t i) x s) ≡ values j
      there j l q =
          let k : j < i = omega (arith, q) in
          others_read t (rows_of t) (row_at t i) x s (row_at t j) (earlier_apart j i k h) ∙ r.reads j k

  -- ---- the line of a record whose rows are legal
  module _ (r : List ℕ) (legal_rows : (i : ℕ) → i < rows_of t → is_illegal (reading_at t i r) ≡ false) where
    pub record Built (says : LineSays) : Type 0 where
      pub bytes : List ℕ
      pub is : says ≡ builds bytes
      pub reads : Reads (λ j. reading_at t j r) (rows_of t) bytes

    rows_built : (n i : ℕ) (s : List ℕ) → i + n ≡ rows_of t → Reads (λ j. reading_at t j r) i s
        → Built (record_from t (rows_of t) i (each (row_field t r) i n) s)
    unfolding record_from each on_field
    rows_built zero i s e k = let q : i ≡ rows_of t = omega arith in record { bytes = s; is = refl; reads = rw q at k }
    rows_built (suc n) i s e k =
        let h : i < rows_of t = omega arith in
        held_value (reading_at t i r) (legal_rows i h) (λ x q.
        let v = own_field t r i x q in
        let w = rows_built n (i + 1) (written_of t (rows_of t) (row_at t i) x s) (omega arith) (one_read k h x q v.accepted) in
        rw (field_taken t g i h (row_field t r i) x v, ← add-one i) w)

    length_each : (n i : ℕ) → length (each (row_field t r) i n) ≡ n
    unfolding each
    length_each zero i = refl
    length_each (suc n) i = ap suc (length_each n (suc i))

    -- ITS LINE BUILDS A RECORD OF L BYTES whose rows read as its own
    pub line_built : Built (line_says t (record_line t r))
    unfolding line_says record_line
    line_built =
        rw (length_each (rows_of t) 0, eq-eqb (rows_of t) (rows_of t) refl)
        (rows_built (rows_of t) 0 (spaces (length_of t)) (omega arith) (none_read (λ j. reading_at t j r)))
