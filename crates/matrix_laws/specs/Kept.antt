-- WHAT A MATRIX LEAVES ALONE: refused, it leaves the output as it was; written, it leaves what lies beyond the total.
-- Assumes nothing.
use Rattle.std.proofs.Math.Path.{◌≡◌, refl, ap}
use Rattle.std.proofs.Common.{sym, ◌∙◌, arith}
use Rattle.std.specs.Prelude.{List, ℕ, ℤ, drop}
use Rattle.std.proofs.Math.ListN.{length}
use Rattle.cuts.specs.rule.Records.{records_of}
use Rattle.files.specs.rule.File.{FileVerdict, sound_with, bad_table, fault_in, file_verdict}
use Rattle.little.specs.rule.Bytes.{put_at}
use Rattle.matrix.specs.rule.Bytes.{total_of}
use Rattle.matrices.specs.rule.Matrix.{ended_of, table_columns, matrix_of, MatrixVerdict, refused_as, refused, written}
use Rattle.matrices.specs.rule.Matrix.{size_verdict, verdict_after, matrix_verdict, matrix_after, MatrixWritten}
use Rattle.matrices.specs.Records.{file_sound}
use Rattle.matrices.specs.Summaries.{same_put}
use Rattle.matrix_laws.specs.rule.Exactly.{SizeOutcome, no_column, too_large, short_room, all_written}
use Rattle.matrix_laws.specs.Exactly.{size_named}
use Rattle.matrix_laws.specs.Matrix.{matrix_length}

module _ {t : List ℤ} {d out out' : List ℕ} where
  -- a refusal of the file's own
  pub own_kept : {v : FileVerdict} → MatrixWritten t d out out' (refused_as v) → out' ≡ out
  unfolding matrix_after
  own_kept m = m.leaves ∙ rw (← m.says)

  -- 80, 81, 82
  pub refused_kept : {k : ℕ} → MatrixWritten t d out out' (refused k) → out' ≡ out
  unfolding matrix_after
  refused_kept m = m.leaves ∙ rw (← m.says)

-- the length that is told is the total
told_total : (n c room : ℕ) {k r q : ℕ} → size_verdict n c room ≡ written k r q → total_of n c ≡ k
told_total n c room {k} {r} {q} = go (size_named n c room)
  where
    go : {v : MatrixVerdict} → SizeOutcome n c room v → v ≡ written k r q → total_of n c ≡ k
    go (no_column a) e = let z : ◌≡◌ {A = ℕ} 0 1 = cc in absurd (omega arith)
    go (too_large a b) e = let z : ◌≡◌ {A = ℕ} 0 1 = cc in absurd (omega arith)
    go (short_room a b l) e = let z : ◌≡◌ {A = ℕ} 0 1 = cc in absurd (omega arith)
    go (all_written a b l) e = cc

module _ (t : List ℤ) (d : List ℕ) (room : ℕ) {k r q : ℕ} where
  -- and the matrix has just so many bytes
  matrix_told : matrix_verdict t d room ≡ written k r q → length (matrix_of t (ended_of (records_of d))) ≡ k
  unfolding matrix_verdict verdict_after
  matrix_told = go (file_verdict t d) refl
    where
      go : (v : FileVerdict) → file_verdict t d ≡ v → verdict_after t room v ≡ written k r q
          → length (matrix_of t (ended_of (records_of d))) ≡ k
      go (sound_with n) f e =
          matrix_length t (ended_of (records_of d))
          ∙ ap (λ (m : ℕ). total_of m (length (table_columns t))) (sym (file_sound t d n f).2)
          ∙ told_total n (length (table_columns t)) room e
      go bad_table f e = let z : ◌≡◌ {A = ℕ} 0 1 = cc in absurd (omega arith)
      go (fault_in n x) f e = let z : ◌≡◌ {A = ℕ} 0 1 = cc in absurd (omega arith)

pub beyond_kept : {t : List ℤ} {d out out' : List ℕ} {k r q : ℕ} → MatrixWritten t d out out' (written k r q) → drop k out' ≡ drop k out
unfolding matrix_after
beyond_kept {t} {d} {out} {out'} {k} {r} {q} m =
    let x = matrix_of t (ended_of (records_of d)) in
    let l = matrix_told t d (length out) (sym m.says) in
    let e : out' ≡ put_at out 0 x = m.leaves ∙ rw (← m.says) in
    ap (drop k) e ∙ same_put out k 0 x (omega (arith, l))
