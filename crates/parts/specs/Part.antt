-- What follows from rule/Part.antt, and what the code keeps: a part is judged as if one record of the known length stood before it.
use Rattle.std.specs.Prelude.{◌≡◌, refl, Bool, cond, not, ◌&&◌, List, ℕ, ◌+◌, ◌-◌, ◌≤◌, eqb, leb, ℤ, length, Option, Some, None}
use Rattle.std.proofs.Math.Bool.{true, false}
use native.Mathlib.Omega.{arith}
use borrow.Author.Tests.{eq-eqb, ne_eqb}
use Rattle.lows.specs.rule.Lows.{low_at}
use Rattle.cuts.specs.declared.Terminator.{Terminator}
use Rattle.cuts.specs.rule.Cut.{one_byte, two_bytes, no_ending}
use Rattle.cuts.specs.Cut.{Ending}
use Rattle.cuts.specs.rule.Records.{Records, over, unended, record_and, records_from}
use Rattle.sound.specs.rule.Sound.{well_formed}
use Rattle.sound.specs.rule.Rows.{rows_of, length_of}
use Rattle.records.specs.declared.Judged.{Judged}
use Rattle.records.specs.declared.Judged.TheVariants as J
use Rattle.records.specs.rule.First.{first_from, bad_row, row_fault}
use Rattle.records.specs.rule.Verdict.{Verdict, sound, refused, low_byte, bad_field, row_verdict, byte_verdict, rows_verdict}
use Rattle.records.specs.rule.Verdict as verdict
use Rattle.files.specs.rule.File.{FileVerdict, sound_with, bad_table, fault_in, record_verdict, go_on, first_length, records_verdict}
use Rattle.parts.specs.rule.Part.{numbered, part_records, no_terminator, judged_as, part_verdict}

-- a verdict reached behind n records: its count is n or more, its fault stands behind them
unfoldable pub Behind : ℕ → FileVerdict → Type 0
Behind n (sound_with k) = n ≤ k
Behind n bad_table = Unit {0}
Behind n (fault_in k v) = n + 1 ≤ k

-- "last record has no terminator"
unfoldable pub is_unended : Verdict → Bool
is_unended sound = false
is_unended (refused k) = eqb k 30
is_unended (low_byte p) = false
is_unended (bad_field i x) = false

-- the verdict counted without the one record before; where more follows, a record without its terminator is left alone
unfoldable pub recounted : Bool → FileVerdict → FileVerdict
recounted last (sound_with n) = sound_with (n - 1)
recounted last bad_table = bad_table
recounted last (fault_in n v) = cond (not last && is_unended v) (sound_with (n - 2)) (fault_in (n - 1) v)

-- ---- laws
-- a record is refused by no answer of its own as one without its terminator
pub judged_ended : (j : Judged) → is_unended (verdict.judged_as j) ≡ false
unfolding is_unended verdict.judged_as
judged_ended J.Sound = refl
judged_ended J.BadTable = refl
judged_ended J.ShortRecord = refl
judged_ended (J.LowByte p) = refl
judged_ended (J.Faulty i x) = refl

rows_ended : (t : List ℤ) (v : ℕ) (r : List ℕ) → is_unended (rows_verdict t v r) ≡ false
unfolding is_unended rows_verdict row_verdict byte_verdict
rows_ended t v r = go (first_from (low_at r) 0 (length r)) (first_from (bad_row t v r) 0 v)
  where
    go : (a b : Option ℕ) → is_unended (byte_verdict a (row_verdict (row_fault t v r) b)) ≡ false
    go (Some p) b = refl
    go None (Some i) = refl
    go None None = refl

record_ended : (t : List ℤ) (first : ℕ) (r : List ℕ) → is_unended (record_verdict t first r) ≡ false
unfolding record_verdict is_unended
record_ended t first r = go (eqb (length r) first) (leb (length_of t) (length r))
  where
    go : (p q : Bool) → is_unended (cond p (cond q (rows_verdict t (rows_of t) r) (refused 22)) (refused 31)) ≡ false
    go true true = rows_ended t (rows_of t) r
    go true false = refl
    go false q = refl

pub and_none : (a : Bool) → a && false ≡ false
and_none true = refl
and_none false = refl

module _ (t : List ℤ) (first : ℕ) where
  -- once the first record is past, its length is known
  known : (n size : ℕ) → first_length (n + 1) first size ≡ first
  unfolding first_length
  known n size = rw (ne_eqb (n + 1) 0 (λ e. omega arith))

  go_behind : (v : Verdict) (n : ℕ) (rest : FileVerdict) → Behind (n + 1) rest → Behind n (go_on v n rest)
  unfolding go_on Behind
  go_behind sound n (sound_with k) b = omega arith
  go_behind sound n bad_table b = tt
  go_behind sound n (fault_in k v) b = omega arith
  go_behind (refused k) n rest b = omega arith
  go_behind (low_byte p) n rest b = omega arith
  go_behind (bad_field i x) n rest b = omega arith

  pub behind : (rs : Records) (n f : ℕ) → Behind n (records_verdict t n f rs)
  unfolding records_verdict Behind
  behind over n f = omega arith
  behind (unended r) n f = omega arith
  behind (record_and r rs) n f =
      go_behind (record_verdict t (first_length n f (length r)) r) n _ (behind rs (n + 1) (first_length n f (length r)))

  go_recounted : (last : Bool) (v : Verdict) (n : ℕ) (a b : FileVerdict) → is_unended v ≡ false → recounted last a ≡ b
      → recounted last (go_on v (n + 1) a) ≡ go_on v n b
  unfolding recounted go_on is_unended
  go_recounted last sound n a b u e = e
  go_recounted last (refused k) n a b u e = let z : n + 1 + 1 - 1 ≡ n + 1 = omega arith in rw (u, and_none (not last), z)
  go_recounted last (low_byte p) n a b u e = let z : n + 1 + 1 - 1 ≡ n + 1 = omega arith in rw (and_none (not last), z)
  go_recounted last (bad_field i x) n a b u e = let z : n + 1 + 1 - 1 ≡ n + 1 = omega arith in rw (and_none (not last), z)

  -- THE PART IS JUDGED as the file's records behind the first are, and its own are counted
  pub recounts : (last : Bool) (rs : Records) (n : ℕ) → recounted last (records_verdict t (n + 1) first rs) ≡ part_records t n first last rs
  unfolding records_verdict part_records recounted is_unended
  recounts last over n = let z : n + 1 - 1 ≡ n = omega arith in rw z
  recounts true (unended r) n = let z : n + 1 + 1 - 1 ≡ n + 1 = omega arith in rw z
  recounts false (unended r) n = let z : n + 1 + 1 - 2 ≡ n = omega arith in rw z
  recounts last (record_and r rs) n =
      rw (known n (length r))
      (go_recounted last (record_verdict t first r) n _ _ (record_ended t first r) (recounts last rs (n + 1)))

-- the terminators that have a number
pub numbered_ending : (k : ℕ) → Ending (numbered k)
unfolding numbered
numbered_ending k = go (eqb k 1) (eqb k 2) (eqb k 3) (eqb k 4)
  where
    go : (a b c d : Bool)
        → Ending (cond a (two_bytes 13 10) (cond b (two_bytes 10 13) (cond c (one_byte 13 10) (cond d (one_byte 10 13) no_ending))))
    go true b c d = record { low = omega arith; few = omega arith }
    go false true c d = record { low = omega arith; few = omega arith }
    go false false true d = record { low = omega arith; few = omega arith }
    go false false false true = record { low = omega arith; few = omega arith }
    go false false false false = record { low = omega arith; few = omega arith }

-- ---- the call: 20, then 29, then the records
module _ (t : List ℤ) (d : List ℕ) (terminator first last : ℕ) where
  pub part_bad : well_formed t ≡ false → part_verdict t d terminator first last ≡ judged_as bad_table
  unfolding part_verdict
  part_bad b = rw b

  pub part_none : well_formed t ≡ true → {w : Terminator} → w ≡ numbered terminator → w.size ≡ 0
      → part_verdict t d terminator first last ≡ no_terminator
  unfolding part_verdict
  part_none g {w} e z = rw (g, eq-eqb (numbered terminator).size 0 (rw e at z))

  pub part_judged : well_formed t ≡ true → {w : Terminator} → w ≡ numbered terminator → (w.size ≡ 0 → ⊥) → {v : FileVerdict}
      → v ≡ part_records t 0 first (not (eqb last 0)) (records_from w d) → judged_as v ≡ part_verdict t d terminator first last
  unfolding part_verdict
  part_judged g {w} e n q = rw (g, ← e, ne_eqb w.size 0 n, q)
