-- THE PIECES with their boundaries, laid end to end, are the file again.
use Rattle.std.specs.Prelude.{◌≡◌, refl, Bool, true, false, cond, List, [], ◌∷◌, ◌++◌, ℕ, zero, suc, ◌-◌, eqb, drop}
use Rattle.std.proofs.Common.{sym, ap, ◌∙◌, eqb-true}
use Rattle.std.proofs.Math.Seq.{drop-nil}
use Rattle.below.specs.Below.{holds_not}
use Rattle.cuts.specs.rule.Cut.{one_byte, two_bytes, no_ending, begins_with, terminator_at}
use Rattle.cuts.specs.rule.Records.{terminator_bytes}
use Rattle.pieces.specs.rule.Pieces.{boundary_at, Piece, piece, first_piece, pieces_behind, onto, cut_from, boundary_bytes}
use Rattle.pieces.specs.rule.Pieces.{laid_pieces}

-- a byte in front of the first piece is a byte in front of all
laid_onto : (b : ℕ) (ps : List Piece) → laid_pieces (onto b ps) ≡ b ∷ laid_pieces ps
unfolding onto laid_pieces first_piece pieces_behind boundary_bytes
laid_onto b [] = refl
laid_onto b (p ∷ ps) = refl

-- a boundary's bytes, and what is left behind them
at_laid : (a b : ℕ) (s : List ℕ) → boundary_bytes (terminator_at a b s) ++ drop ((terminator_at a b s).size - 1) s ≡ a ∷ s
unfolding terminator_at begins_with boundary_bytes terminator_bytes
at_laid a b [] = refl
at_laid a b (c ∷ s) = go (eqb c b) refl
  where
    go : (q : Bool) → eqb c b ≡ q
        → boundary_bytes (cond q (two_bytes a b) (one_byte a b)) ++ drop ((cond q (two_bytes a b) (one_byte a b)).size - 1) (c ∷ s) ≡ a ∷ c
        ∷ s
    go true e = let z : c ≡ b = eqb-true c b e in rw z
    go false e = refl

boundary_laid : (b : ℕ) (s : List ℕ) → eqb (boundary_at (b ∷ s)).size 0 ≡ false
    → boundary_bytes (boundary_at (b ∷ s)) ++ drop ((boundary_at (b ∷ s)).size - 1) s ≡ b ∷ s
unfolding boundary_at
boundary_laid b s h = go (eqb b 13) refl (eqb b 10) refl h
  where
    go : (p : Bool) → eqb b 13 ≡ p → (q : Bool) → eqb b 10 ≡ q
        → eqb (cond p (terminator_at 13 10 s) (cond q (terminator_at 10 13 s) no_ending)).size 0 ≡ false
        → boundary_bytes (cond p (terminator_at 13 10 s) (cond q (terminator_at 10 13 s) no_ending))
        ++ drop ((cond p (terminator_at 13 10 s) (cond q (terminator_at 10 13 s) no_ending)).size - 1) s
        ≡ b ∷ s
    go true e q f h = let z : b ≡ 13 = eqb-true b 13 e in rw z (at_laid 13 10 s)
    go false e true f h = let z : b ≡ 10 = eqb-true b 10 f in rw z (at_laid 10 13 s)
    go false e false f h = holds_not refl h

laid_cut : (s : List ℕ) (k : ℕ) → laid_pieces (cut_from k s) ≡ drop k s
unfolding cut_from laid_pieces
laid_cut [] k = sym (drop-nil k)
laid_cut (b ∷ s) (suc k) = laid_cut s k
laid_cut (b ∷ s) zero = go (eqb (boundary_at (b ∷ s)).size 0) refl (laid_cut s 0) (laid_cut s ((boundary_at (b ∷ s)).size - 1))
  where
    go : (q : Bool) → eqb (boundary_at (b ∷ s)).size 0 ≡ q → laid_pieces (cut_from 0 s) ≡ s
        → laid_pieces (cut_from ((boundary_at (b ∷ s)).size - 1) s) ≡ drop ((boundary_at (b ∷ s)).size - 1) s
        → laid_pieces (cond q (onto b (cut_from 0 s)) (piece [] (boundary_at (b ∷ s)) ∷ cut_from ((boundary_at (b ∷ s)).size - 1) s)) ≡ b
        ∷ s
    go true e h g = laid_onto b (cut_from 0 s) ∙ ap (λ (x : List ℕ). b ∷ x) h
    go false e h g = rw g (boundary_laid b s e)

pub pieces_laid : (d : List ℕ) → laid_pieces (cut_from 0 d) ≡ d
pieces_laid d = laid_cut d 0
