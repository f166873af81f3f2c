-- EXPORTING WHAT WAS IMPORTED gives it again, but for needless quotes and cut zeros: each row of a record that a line builds reads as the
-- value that the line's field is, so that what export writes for it is the field, or the field with its zeros.
use Rattle.std.specs.Prelude.{◌≡◌, Bool, ℕ, suc, ◌+◌, ◌≤◌, ◌<◌, min, ℤ}
use Rattle.std.proofs.Math.Path.{refl, ap}
use Rattle.std.proofs.Common.{sym, ◌∙◌}
use Rattle.std.proofs.Math.Bool.{true, false, cond}
use mathlib.Core.List.{List, [], ◌∷◌}
use native.Mathlib.Omega.{arith}
use borrow.Author.Tests.{eqb-true}
use Rattle.std.proofs.Math.Dec.{eqb}
use Rattle.std.proofs.Math.ListN.{length}
use Rattle.layout.specs.rule.Row.{row_at}
use Rattle.fields.specs.rule.Field.{Value, Field, holds, illegal, spaces}
use Rattle.fields.specs.rule.Row.{written_of}
use Rattle.fieldlaws.specs.TextLaws.{length_spaces}
use Rattle.fieldlaws.specs.Corrections.{written_length, others_read, reads_back}
use Rattle.sound.specs.rule.Rows.{rows_of, length_of}
use Rattle.sound.specs.Rows.{row_facts}
use Rattle.records.specs.rule.Value.{reading_at}
use Rattle.laws.specs.Tops.{row_topped}
use Rattle.value_fields.specs.rule.Values.{export_field, row_field}
use Rattle.widths.specs.rule.Width.{decimals_of}
use Rattle.field_values.specs.rule.Value.{Left, IsValue}
use Rattle.field_values.specs.rule.Read.{value_from}
use Rattle.field_values.specs.Exactly.{value_exactly}
use Rattle.import_rule.specs.rule.Line.{builds, faulty, on_field, record_from, line_says}
use Rattle.import_laws.specs.rule.Trip.{Table}
use Rattle.import_laws.specs.Built.{earlier_apart}

-- the fields of the rows from i on are the values that the record's rows read as
pub data AllRead (t : List ℤ) (s : List ℕ) : ℕ → List (List ℕ) → Type 0 where
  none_more : {i : ℕ} → AllRead t s i []
  one_more : {i : ℕ} {f : List ℕ} {fs : List (List ℕ)} (x : Value) → reading_at t i s ≡ holds x → IsValue t (rows_of t) (row_at t i) f x
      → AllRead t s (i + 1) fs → AllRead t s i (f ∷ fs)

-- so export writes each field again, but for cut zeros
pub data AllLeft (t : List ℤ) (s : List ℕ) : ℕ → List (List ℕ) → Type 0 where
  none_more : {i : ℕ} → AllLeft t s i []
  one_more : {i : ℕ} {f : List ℕ} {fs : List (List ℕ)} → Left (decimals_of (row_at t i).kind) (row_field t s i) f → AllLeft t s (i + 1) fs
      → AllLeft t s i (f ∷ fs)

left_of : (t : List ℤ) (s : List ℕ) (i : ℕ) (f : List ℕ) (x : Value) → reading_at t i s ≡ holds x → IsValue t (rows_of t) (row_at t i) f x
    → Left (decimals_of (row_at t i).kind) (row_field t s i) f
unfolding row_field export_field
left_of t s i f x e k = rw e k.written

pub all_left : {t : List ℤ} {s : List ℕ} {i : ℕ} {fs : List (List ℕ)} → AllRead t s i fs → AllLeft t s i fs
all_left AllRead.none_more = AllLeft.none_more
all_left {t} {s} (AllRead.one_more {i = i} {f = f} x e k r) = AllLeft.one_more (left_of t s i f x e k) (all_left r)

no_builds : {A : Type 0} {k c : ℕ} {s : List ℕ} → faulty k c ≡ builds s → A
no_builds e = let z : ◌≡◌ {A = ℕ} 0 1 = cc in absurd (omega arith)

same_builds : {a b : List ℕ} → builds a ≡ builds b → a ≡ b
same_builds e = cc

module _ {t : List ℤ} (g : Table t) where
  -- the writes of later rows keep what earlier ones read, and the length
  record Kept (i : ℕ) (s₀ s : List ℕ) : Type 0 where
    pub size : length s ≡ length s₀
    pub reads : (j : ℕ) → j < i → reading_at t j s ≡ reading_at t j s₀

  kept_by : (i : ℕ) (s₀ s : List ℕ) (fs : List (List ℕ)) → i < rows_of t → (y : Field)
      → ((x : Value) → record_from t (rows_of t) (i + 1) fs (written_of t (rows_of t) (row_at t i) x s₀) ≡ builds s
      → Kept (i + 1) (written_of t (rows_of t) (row_at t i) x s₀) s)
      → on_field y (λ x. record_from t (rows_of t) (i + 1) fs (written_of t (rows_of t) (row_at t i) x s₀)) (i + 1) ≡ builds s → Kept i s₀ s
  unfolding on_field
  kept_by i s₀ s fs h (holds x) rec w =
      let k = rec x w in
      record {
        size = k.size ∙ written_length t (rows_of t) (row_at t i) x s₀;
        reads = λ j l. k.reads j (omega arith) ∙ others_read t (rows_of t) (row_at t i) x s₀ (row_at t j) (earlier_apart g j i l h);
      }
  kept_by i s₀ s fs h illegal rec w = no_builds w

  kept : (fs : List (List ℕ)) (i : ℕ) (s₀ s : List ℕ) → i + length fs ≤ rows_of t → record_from t (rows_of t) i fs s₀ ≡ builds s
      → Kept i s₀ s
  unfolding record_from
  kept [] i s₀ s h e = let q = same_builds e in record { size = ap length (sym q); reads = λ j l. ap (reading_at t j) (sym q) }
  kept (f ∷ fs) i s₀ s h e =
      kept_by i s₀ s fs (omega arith) (value_from t (rows_of t) (row_at t i) f)
      (λ x w. kept fs (i + 1) (written_of t (rows_of t) (row_at t i) x s₀) s (omega arith) w) e

  -- each field is the value that its row reads as
  read_by : (f : List ℕ) (fs : List (List ℕ)) (i : ℕ) (s₀ s : List ℕ) → length s₀ ≡ length_of t → i + suc (length fs) ≤ rows_of t
      → (y : Field)
      → value_from t (rows_of t) (row_at t i) f ≡ y
      → ((x : Value) → record_from t (rows_of t) (i + 1) fs (written_of t (rows_of t) (row_at t i) x s₀) ≡ builds s
      → AllRead t s (i + 1) fs)
      → on_field y (λ x. record_from t (rows_of t) (i + 1) fs (written_of t (rows_of t) (row_at t i) x s₀)) (i + 1) ≡ builds s
      → AllRead t s i (f ∷ fs)
  unfolding on_field
  read_by f fs i s₀ s l h (holds x) q rec w =
      let b : i < rows_of t = omega arith in
      let v = (value_exactly (row_facts t g.formed i b) f x).0 q in
      let k = kept fs (i + 1) (written_of t (rows_of t) (row_at t i) x s₀) s (omega arith) w in
      AllRead.one_more x (k.reads i (omega arith)
      ∙ reads_back (row_at t i) (row_facts t g.formed i b) s₀ (row_topped t g.formed i b) x (omega (arith, l)) v.accepted) v
      (rec x w)
  read_by f fs i s₀ s l h illegal q rec w = no_builds w

  all_read : (fs : List (List ℕ)) (i : ℕ) (s₀ s : List ℕ) → length s₀ ≡ length_of t → i + length fs ≤ rows_of t
      → record_from t (rows_of t) i fs s₀ ≡ builds s
      → AllRead t s i fs
  unfolding record_from
  all_read [] i s₀ s l h e = AllRead.none_more
  all_read (f ∷ fs) i s₀ s l h e =
      read_by f fs i s₀ s l h (value_from t (rows_of t) (row_at t i) f) refl
      (λ x w. all_read fs (i + 1) (written_of t (rows_of t) (row_at t i) x s₀) s (written_length t (rows_of t) (row_at t i) x s₀ ∙ l)
      (omega arith) w) e

  -- A LINE THAT BUILDS A RECORD has a field for each row, the record has L bytes, and each row reads as the value that its field is
  pub record Again (fs : List (List ℕ)) (s : List ℕ) : Type 0 where
    pub many : length fs ≡ rows_of t
    pub size : length s ≡ length_of t
    pub reads : AllRead t s 0 fs

  pub line_again : (fs : List (List ℕ)) (s : List ℕ) → line_says t fs ≡ builds s → Again fs s
  unfolding line_says
  line_again fs s e = go (eqb (length fs) (rows_of t)) refl e
    where
      go : (b : Bool) → eqb (length fs) (rows_of t) ≡ b
          → cond b (record_from t (rows_of t) 0 fs (spaces (length_of t))) (faulty 63 (min (length fs) (rows_of t) + 1)) ≡ builds s
          → Again fs s
      go true q w =
          let n = eqb-true (length fs) (rows_of t) q in
          record {
            many = n;
            size = (kept fs 0 (spaces (length_of t)) s (omega (arith, n)) w).size ∙ length_spaces (length_of t);
            reads = all_read fs 0 (spaces (length_of t)) s (length_spaces (length_of t)) (omega (arith, n)) w;
          }
      go false q w = no_builds w
