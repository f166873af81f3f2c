-- What follows from rule/Parted.antt: the pieces that a file is cut into are those, both ways.
use Rattle.std.specs.Prelude.{◌≡◌, refl, ◌↔◌, Bool, true, false, cond, List, [], ◌∷◌, ◌++◌, ℕ, zero, suc, ◌-◌, eqb}
use Rattle.std.proofs.Common.{sym, ap, subst, ◌∙◌, append_assoc, eqb-true, ne_eqb}
use Rattle.below.specs.Below.{holds_not}
use Rattle.cuts.specs.declared.Terminator.{Terminator}
use Rattle.cuts.specs.rule.Cut.{one_byte, two_bytes, no_ending, begins_with, terminator_at}
use Rattle.cuts.specs.rule.Records.{terminator_bytes}
use Rattle.pieces.specs.rule.Pieces.{boundary_at, Piece, piece, first_piece, pieces_behind, onto, cut_from, pieces_of, boundary_bytes}
use Rattle.pieces.specs.rule.Pieces.{laid_pieces}
use Rattle.pieces.specs.Laid.{pieces_laid}
use Rattle.mend_laws.specs.rule.Mended.{Unbroken, no_bytes, other_byte}
use Rattle.mend_laws.specs.rule.Parted.{LineEnd, cr, lf, Parted, nothing, unended, pair, alone}
use Rattle.mend_laws.specs.Pieces.{not_cr, not_lf}

-- ---- the pieces of a file are such
parted_onto : (b : ℕ) {ps : List Piece} → (b ≡ 13 → ⊥) → (b ≡ 10 → ⊥) → Parted ps → Parted (onto b ps)
unfolding onto first_piece pieces_behind
parted_onto b m n nothing = unended (other_byte m n no_bytes)
parted_onto b m n (unended u) = unended (other_byte m n u)
parted_onto b m n (pair e u p) = pair e (other_byte m n u) p
parted_onto b m n (alone e u h p) = alone e (other_byte m n u) h p

-- a boundary, and the pieces behind it
parted_at : {a b : ℕ} → LineEnd a b → (s : List ℕ) → Parted (cut_from 0 s) → Parted (cut_from 1 s)
    → Parted (piece [] (terminator_at a b s) ∷ cut_from ((terminator_at a b s).size - 1) s)
unfolding terminator_at
parted_at {a} {b} e s here past = go (begins_with b s) refl
  where
    go : (q : Bool) → begins_with b s ≡ q
        → Parted (piece [] (cond q (two_bytes a b) (one_byte a b)) ∷ cut_from ((cond q (two_bytes a b) (one_byte a b)).size - 1) s)
    go true h = pair e no_bytes past
    go false h = alone {ps = cut_from 0 s} e no_bytes (rw (pieces_laid s) h) here

parted_boundary : (b : ℕ) (s : List ℕ) → eqb (boundary_at (b ∷ s)).size 0 ≡ false → Parted (cut_from 0 s) → Parted (cut_from 1 s)
    → Parted (piece [] (boundary_at (b ∷ s)) ∷ cut_from ((boundary_at (b ∷ s)).size - 1) s)
unfolding boundary_at
parted_boundary b s h here past = go (eqb b 13) (eqb b 10) h
  where
    go : (p q : Bool) → eqb (cond p (terminator_at 13 10 s) (cond q (terminator_at 10 13 s) no_ending)).size 0 ≡ false
        → Parted (piece [] (cond p (terminator_at 13 10 s) (cond q (terminator_at 10 13 s) no_ending))
        ∷ cut_from ((cond p (terminator_at 13 10 s) (cond q (terminator_at 10 13 s) no_ending)).size - 1) s)
    go true q h = parted_at cr s here past
    go false true h = parted_at lf s here past
    go false false h = holds_not refl h

cut_parted : (s : List ℕ) (k : ℕ) → Parted (cut_from k s)
unfolding cut_from
cut_parted [] k = nothing
cut_parted (b ∷ s) (suc k) = cut_parted s k
cut_parted (b ∷ s) zero = go (eqb (boundary_at (b ∷ s)).size 0) refl (cut_parted s 0) (cut_parted s 1)
  where
    go : (q : Bool) → eqb (boundary_at (b ∷ s)).size 0 ≡ q → Parted (cut_from 0 s) → Parted (cut_from 1 s)
        → Parted (cond q (onto b (cut_from 0 s)) (piece [] (boundary_at (b ∷ s)) ∷ cut_from ((boundary_at (b ∷ s)).size - 1) s))
    go true e here past = let z = eqb-true (boundary_at (b ∷ s)).size 0 e in parted_onto b (not_cr b s z) (not_lf b s z) here
    go false e here past = parted_boundary b s e here past

-- ---- and such pieces are those of the file that they make
-- a byte that is neither CR nor LF stands in front of the first piece
cut_onto : (b : ℕ) (s : List ℕ) → (b ≡ 13 → ⊥) → (b ≡ 10 → ⊥) → cut_from 0 (b ∷ s) ≡ onto b (cut_from 0 s)
unfolding cut_from boundary_at
cut_onto b s m n = rw (ne_eqb b 13 m, ne_eqb b 10 n) refl

cut_front : {r : List ℕ} (rest : List ℕ) {w : Terminator} {ps : List Piece} → Unbroken r → cut_from 0 rest ≡ piece [] w ∷ ps
    → cut_from 0 (r ++ rest) ≡ piece r w ∷ ps
unfolding onto first_piece pieces_behind
cut_front rest no_bytes e = e
cut_front rest (other_byte {b} {r} m n u) e = cut_onto b (r ++ rest) m n ∙ ap (onto b) (cut_front rest u e)

cut_last : {b : ℕ} {r : List ℕ} → Unbroken (b ∷ r) → cut_from 0 (b ∷ r) ≡ piece (b ∷ r) no_ending ∷ []
unfolding onto first_piece pieces_behind cut_from
cut_last {b} (other_byte m n no_bytes) = cut_onto b [] m n
cut_last {b} (other_byte {r = r} m n (other_byte x y u)) = cut_onto b r m n ∙ ap (onto b) (cut_last (other_byte x y u))

cut_pair : {a b : ℕ} → LineEnd a b → (s : List ℕ) → cut_from 0 (a ∷ b ∷ s) ≡ piece [] (two_bytes a b) ∷ cut_from 0 s
unfolding cut_from boundary_at terminator_at begins_with
cut_pair cr s = refl
cut_pair lf s = refl

cut_alone : {a b : ℕ} → LineEnd a b → (s : List ℕ) → begins_with b s ≡ false → cut_from 0 (a ∷ s) ≡ piece [] (one_byte a b) ∷ cut_from 0 s
unfolding cut_from boundary_at terminator_at
cut_alone cr s h = rw h refl
cut_alone lf s h = rw h refl

laid_last : (r : List ℕ) → laid_pieces (piece r no_ending ∷ []) ≡ r
unfolding laid_pieces boundary_bytes
laid_last [] = refl
laid_last (b ∷ r) = ap (λ (x : List ℕ). b ∷ x) (laid_last r)

parted_cut : {ps : List Piece} → Parted ps → cut_from 0 (laid_pieces ps) ≡ ps
unfolding laid_pieces boundary_bytes terminator_bytes cut_from
parted_cut nothing = refl
parted_cut (unended {b} {r} u) = ap (cut_from 0) (laid_last (b ∷ r)) ∙ cut_last u
parted_cut (pair {a} {b} {r} {ps} e u p) =
    ap (cut_from 0) (append_assoc r (a ∷ b ∷ []) (laid_pieces ps))
    ∙ cut_front (a ∷ b ∷ laid_pieces ps) u (cut_pair e (laid_pieces ps)
    ∙ ap (λ (x : List Piece). piece [] (two_bytes a b) ∷ x) (parted_cut p))
parted_cut (alone {a} {b} {r} {ps} e u h p) =
    ap (cut_from 0) (append_assoc r (a ∷ []) (laid_pieces ps))
    ∙ cut_front (a ∷ laid_pieces ps) u (cut_alone e (laid_pieces ps) h
    ∙ ap (λ (x : List Piece). piece [] (one_byte a b) ∷ x) (parted_cut p))

-- THE PIECES OF A FILE ARE ps EXACTLY WHEN these are so parted and, with their boundaries laid end to end, make it
pub pieces_exactly : (d : List ℕ) (ps : List Piece) → (pieces_of d ≡ ps) ↔ ((laid_pieces ps ≡ d) × Parted ps)
unfolding pieces_of
pieces_exactly d ps = (
  λ e. (ap laid_pieces (sym e) ∙ pieces_laid d, subst Parted e (cut_parted d 0)),
  λ h. ap (cut_from 0) (sym h.0) ∙ parted_cut h.1,
)
