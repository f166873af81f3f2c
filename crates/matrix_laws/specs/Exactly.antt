-- EXACT REFUSALS: 20 and the file's own, then 80, 81, 82, each exactly when what it says is so.
-- Assumes nothing.
use Rattle.std.specs.Prelude.{◌≡◌, Bool, true, false, cond, List, ℕ, eqb, ltb, ℤ, length}
use Rattle.std.proofs.Math.Path.{refl, ap}
use Rattle.std.proofs.Common.{sym, ◌∙◌, subst, arith, eqb-true, ltb-true, ltb-false, eq-eqb, ne_eqb, lt-ltb, le-ltb}
use Rattle.std.proofs.lemmas.Bool.{eqb-false}
use Rattle.files.specs.rule.File.{FileVerdict, sound_with, bad_table, fault_in, file_verdict}
use Rattle.matrix.specs.rule.Bytes.{total_of}
use Rattle.matrices.specs.rule.Matrix.{table_columns, MatrixVerdict, refused_as, refused, written, size_verdict, verdict_after}
use Rattle.matrices.specs.rule.Matrix.{matrix_verdict}
use Rattle.matrix_laws.specs.rule.Exactly.{Refusal, SizeOutcome, no_column, too_large, short_room, all_written}

pub size_named : (n c room : ℕ) → SizeOutcome n c room (size_verdict n c room)
unfolding size_verdict
size_named n c room = go (eqb c 0) (ltb 16777216 (total_of n c)) (ltb room (total_of n c)) refl refl refl
  where
    go : (x y z : Bool) → eqb c 0 ≡ x → ltb 16777216 (total_of n c) ≡ y → ltb room (total_of n c) ≡ z
        → SizeOutcome n c room (cond x (refused 80) (cond y (refused 81) (cond z (refused 82) (written (total_of n c) n c))))
    go true y z p q r = no_column (eqb-true c 0 p)
    go false true z p q r = too_large (eqb-false c 0 p) (ltb-true 16777216 (total_of n c) q)
    go false false true p q r = short_room (eqb-false c 0 p) (ltb-false 16777216 (total_of n c) q) (ltb-true room (total_of n c) r)
    go false false false p q r = all_written (eqb-false c 0 p) (ltb-false 16777216 (total_of n c) q) (ltb-false room (total_of n c) r)

pub size_only : (n c room : ℕ) {v : MatrixVerdict} → SizeOutcome n c room v → size_verdict n c room ≡ v
unfolding size_verdict
size_only n c room (no_column e) = rw (eq-eqb c 0 e)
size_only n c room (too_large e l) = rw (ne_eqb c 0 e, lt-ltb 16777216 (total_of n c) l)
size_only n c room (short_room e l s) = rw (ne_eqb c 0 e, le-ltb 16777216 (total_of n c) l, lt-ltb room (total_of n c) s)
size_only n c room (all_written e l s) = rw (ne_eqb c 0 e, le-ltb 16777216 (total_of n c) l, le-ltb room (total_of n c) s)

-- the same of the call, for a sound file
module _ (t : List ℤ) (d : List ℕ) (room n : ℕ) (sound : file_verdict t d ≡ sound_with n) where
  sized : matrix_verdict t d room ≡ size_verdict n (length (table_columns t)) room
  unfolding matrix_verdict verdict_after
  sized = ap (verdict_after t room) sound

  pub matrix_named : SizeOutcome n (length (table_columns t)) room (matrix_verdict t d room)
  matrix_named = subst (λ (v : MatrixVerdict). SizeOutcome n (length (table_columns t)) room v) (sym sized)
      (size_named n (length (table_columns t)) room)

  pub matrix_only : {v : MatrixVerdict} → SizeOutcome n (length (table_columns t)) room v → matrix_verdict t d room ≡ v
  matrix_only o = sized ∙ size_only n (length (table_columns t)) room o

-- 20 AND THE FILE'S OWN, both ways: the matrix is refused as the file just where the file is refused so
module _ (t : List ℤ) (d : List ℕ) (room : ℕ) where
  -- no size is the file's own refusal
  not_sized : (n c : ℕ) (v : FileVerdict) → size_verdict n c room ≡ refused_as v → ⊥
  not_sized n c v e = go (size_named n c room) e
    where
      go : {w : MatrixVerdict} → SizeOutcome n c room w → w ≡ refused_as v → ⊥
      go (no_column a) q = let z : ◌≡◌ {A = ℕ} 0 1 = cc in omega arith
      go (too_large a b) q = let z : ◌≡◌ {A = ℕ} 0 1 = cc in omega arith
      go (short_room a b l) q = let z : ◌≡◌ {A = ℕ} 0 1 = cc in omega arith
      go (all_written a b l) q = let z : ◌≡◌ {A = ℕ} 0 1 = cc in omega arith

  pub own_named : (v : FileVerdict) → matrix_verdict t d room ≡ refused_as v → Refusal v × (file_verdict t d ≡ v)
  unfolding matrix_verdict verdict_after Refusal
  own_named v e = go (file_verdict t d) refl e
    where
      go : (w : FileVerdict) → file_verdict t d ≡ w → verdict_after t room w ≡ refused_as v → Refusal v × (file_verdict t d ≡ v)
      go (sound_with n) q r = absurd (not_sized n (length (table_columns t)) v r)
      go bad_table q r = let own : refused_as bad_table ≡ refused_as v = r in let same : bad_table ≡ v = cc in rw (← same) (tt, q)
      go (fault_in n x) q r = let own : refused_as (fault_in n x) ≡ refused_as v = r in let same : fault_in n x ≡ v = cc in
          rw (← same) (tt, q)

  pub own_only : (v : FileVerdict) → Refusal v → file_verdict t d ≡ v → matrix_verdict t d room ≡ refused_as v
  unfolding matrix_verdict verdict_after Refusal
  own_only (sound_with n) q e = absurd q
  own_only bad_table q e = ap (verdict_after t room) e
  own_only (fault_in n x) q e = ap (verdict_after t room) e
