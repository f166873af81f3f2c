-- What a row reads, judges and writes goes by the table through the numbers that it allows alone.
use Rattle.std.specs.Prelude.{◌≡◌, List, ℕ, ℤ}
use Rattle.std.proofs.Math.Path.{refl}
use Rattle.layout.specs.declared.Row.{Row}
use Rattle.layout.specs.declared.Spread.TheVariants.{Bits, Fields}
use Rattle.layout.specs.declared.Kind.{Kind}
use Rattle.layout.specs.declared.Kind.TheVariants.{Single, Multiple, Quantity, Character, Logical}
use Rattle.fields.specs.rule.Legal.{legal}
use Rattle.fields.specs.rule.Field.{Value, missing, number, members, text, truth}
use Rattle.fields.specs.rule.Row.{places_by, field_by, reading_of, fits_by, fit_of, bytes_by, written_of}
use Rattle.faults.specs.rule.Fault.{fault_of}

module _ (t u : List ℤ) (v : ℕ) (r : Row) (same : legal t v r ≡ legal u v r) where
  places_same : (k : Kind) → places_by k t v r ≡ places_by k u v r
  unfolding places_by
  places_same Single = refl
  places_same (Multiple Bits) = rw same
  places_same (Multiple (Fields n b)) = refl
  places_same (Quantity f) = refl
  places_same Character = refl
  places_same Logical = refl

  field_same : (k : Kind) (s : List ℕ) → field_by k t v r s ≡ field_by k u v r s
  unfolding field_by
  field_same Single s = rw same
  field_same (Multiple Bits) s = rw same
  field_same (Multiple (Fields n b)) s = rw same
  field_same (Quantity f) s = rw same
  field_same Character s = refl
  field_same Logical s = refl

  fits_same : (k : Kind) (x : Value) → fits_by k t v r x ≡ fits_by k u v r x
  unfolding fits_by
  fits_same Single missing = refl
  fits_same Single (number z) = rw same
  fits_same Single (members ms) = refl
  fits_same Single (text s) = refl
  fits_same Single (truth y) = refl
  fits_same (Multiple Bits) missing = refl
  fits_same (Multiple Bits) (number z) = refl
  fits_same (Multiple Bits) (members ms) = rw same
  fits_same (Multiple Bits) (text s) = refl
  fits_same (Multiple Bits) (truth y) = refl
  fits_same (Multiple (Fields n b)) missing = refl
  fits_same (Multiple (Fields n b)) (number z) = refl
  fits_same (Multiple (Fields n b)) (members ms) = rw same
  fits_same (Multiple (Fields n b)) (text s) = refl
  fits_same (Multiple (Fields n b)) (truth y) = refl
  fits_same (Quantity f) missing = refl
  fits_same (Quantity f) (number z) = rw same
  fits_same (Quantity f) (members ms) = refl
  fits_same (Quantity f) (text s) = refl
  fits_same (Quantity f) (truth y) = refl
  fits_same Character missing = refl
  fits_same Character (number z) = refl
  fits_same Character (members ms) = refl
  fits_same Character (text s) = refl
  fits_same Character (truth y) = refl
  fits_same Logical missing = refl
  fits_same Logical (number z) = refl
  fits_same Logical (members ms) = refl
  fits_same Logical (text s) = refl
  fits_same Logical (truth y) = refl

  bytes_same : (k : Kind) (x : Value) → bytes_by k t v r x ≡ bytes_by k u v r x
  unfolding bytes_by
  bytes_same Single missing = rw (places_same Single)
  bytes_same Single (number z) = refl
  bytes_same Single (members ms) = refl
  bytes_same Single (text s) = refl
  bytes_same Single (truth y) = refl
  bytes_same (Multiple Bits) missing = rw (places_same (Multiple Bits))
  bytes_same (Multiple Bits) (number z) = refl
  bytes_same (Multiple Bits) (members ms) = rw same
  bytes_same (Multiple Bits) (text s) = refl
  bytes_same (Multiple Bits) (truth y) = refl
  bytes_same (Multiple (Fields n b)) missing = rw (places_same (Multiple (Fields n b)))
  bytes_same (Multiple (Fields n b)) (number z) = refl
  bytes_same (Multiple (Fields n b)) (members ms) = refl
  bytes_same (Multiple (Fields n b)) (text s) = refl
  bytes_same (Multiple (Fields n b)) (truth y) = refl
  bytes_same (Quantity f) missing = rw (places_same (Quantity f))
  bytes_same (Quantity f) (number z) = refl
  bytes_same (Quantity f) (members ms) = refl
  bytes_same (Quantity f) (text s) = refl
  bytes_same (Quantity f) (truth y) = refl
  bytes_same Character missing = rw (places_same Character)
  bytes_same Character (number z) = refl
  bytes_same Character (members ms) = refl
  bytes_same Character (text s) = refl
  bytes_same Character (truth y) = refl
  bytes_same Logical missing = rw (places_same Logical)
  bytes_same Logical (number z) = refl
  bytes_same Logical (members ms) = refl
  bytes_same Logical (text s) = refl
  bytes_same Logical (truth y) = refl

  pub reading_same : (bytes : List ℕ) → reading_of t v r bytes ≡ reading_of u v r bytes
  unfolding reading_of
  reading_same bytes = rw (places_same r.kind) (field_same r.kind _)

  pub fault_same : (bytes : List ℕ) → fault_of t v r bytes ≡ fault_of u v r bytes
  unfolding fault_of
  fault_same bytes = rw (places_same r.kind, same)

  pub fit_same : (x : Value) → fit_of t v r x ≡ fit_of u v r x
  fit_same x = fits_same r.kind x

  pub written_same : (x : Value) (old : List ℕ) → written_of t v r x old ≡ written_of u v r x old
  unfolding written_of
  written_same x old = rw (places_same r.kind, bytes_same r.kind x)
