-- NO PIECE HOLDS CR OR LF.
use Rattle.std.specs.Prelude.{◌≡◌, refl, Bool, true, false, cond, List, [], ◌∷◌, ℕ, zero, suc, ◌-◌, ◌≤◌, eqb}
use Rattle.std.proofs.Common.{arith, eq-eqb, eqb-true}
use Rattle.cuts.specs.rule.Cut.{one_byte, two_bytes, no_ending, begins_with, terminator_at}
use Rattle.pieces.specs.rule.Pieces.{boundary_at, Piece, piece, first_piece, pieces_behind, onto, cut_from, pieces_of}
use Rattle.mend_laws.specs.rule.Mended.{no_bytes, other_byte, AllUnbroken, no_pieces, one_piece}

unbroken_onto : (b : ℕ) {ps : List Piece} → (b ≡ 13 → ⊥) → (b ≡ 10 → ⊥) → AllUnbroken ps → AllUnbroken (onto b ps)
unfolding onto first_piece pieces_behind
unbroken_onto b m n no_pieces = one_piece (other_byte m n no_bytes) no_pieces
unbroken_onto b m n (one_piece u a) = one_piece (other_byte m n u) a

at_some : (a b : ℕ) (s : List ℕ) → 1 ≤ (terminator_at a b s).size
unfolding terminator_at
at_some a b s = go (begins_with b s)
  where
    go : (q : Bool) → 1 ≤ (cond q (two_bytes a b) (one_byte a b)).size
    go true = omega arith
    go false = omega arith

-- a byte that no boundary begins with is neither
pub not_cr : (b : ℕ) (s : List ℕ) → (boundary_at (b ∷ s)).size ≡ 0 → b ≡ 13 → ⊥
unfolding boundary_at
not_cr b s z e = let h = rw (eq-eqb b 13 e) at z in omega (arith, at_some 13 10 s)

pub not_lf : (b : ℕ) (s : List ℕ) → (boundary_at (b ∷ s)).size ≡ 0 → b ≡ 10 → ⊥
unfolding boundary_at
not_lf b s z e = go (eqb b 13) z
  where
    go : (q : Bool) → (cond q (terminator_at 13 10 s) (cond (eqb b 10) (terminator_at 10 13 s) no_ending)).size ≡ 0 → ⊥
    go true y = omega (arith, at_some 13 10 s)
    go false y = let h = rw (eq-eqb b 10 e) at y in omega (arith, at_some 10 13 s)

cut_unbroken : (s : List ℕ) (k : ℕ) → AllUnbroken (cut_from k s)
unfolding cut_from
cut_unbroken [] k = no_pieces
cut_unbroken (b ∷ s) (suc k) = cut_unbroken s k
cut_unbroken (b ∷ s) zero = go (eqb (boundary_at (b ∷ s)).size 0) refl (cut_unbroken s 0) (cut_unbroken s ((boundary_at (b ∷ s)).size - 1))
  where
    go : (q : Bool) → eqb (boundary_at (b ∷ s)).size 0 ≡ q → AllUnbroken (cut_from 0 s)
        → AllUnbroken (cut_from ((boundary_at (b ∷ s)).size - 1) s)
        → AllUnbroken (cond q (onto b (cut_from 0 s)) (piece [] (boundary_at (b ∷ s)) ∷ cut_from ((boundary_at (b ∷ s)).size - 1) s))
    go true e a c = let z = eqb-true (boundary_at (b ∷ s)).size 0 e in unbroken_onto b (not_cr b s z) (not_lf b s z) a
    go false e a c = one_piece no_bytes c

pub pieces_unbroken : (d : List ℕ) → AllUnbroken (pieces_of d)
unfolding pieces_of
pieces_unbroken d = cut_unbroken d 0
