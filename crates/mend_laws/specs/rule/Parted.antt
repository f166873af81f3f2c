-- "The mender takes each CR LF, LF CR, CR or LF as a boundary, pairs first" (document 02, C-19): which pieces a file is cut into. 13 is CR,
-- 10 is LF.
use Rattle.std.specs.Prelude.{◌≡◌, false, List, [], ◌∷◌, ℕ}
use Rattle.cuts.specs.rule.Cut.{one_byte, two_bytes, no_ending, begins_with}
use Rattle.pieces.specs.rule.Pieces.{Piece, piece, laid_pieces}
use Rattle.mend_laws.specs.rule.Mended.{Unbroken}

-- CR with LF as the other byte of its pair, or LF with CR
pub data LineEnd : ℕ → ℕ → Type 0 where
  cr : LineEnd 13 10
  lf : LineEnd 10 13

-- Pieces that hold neither CR nor LF. Behind each stands a pair, or one byte where what follows does not go on with the other; bytes
-- behind the last boundary are a piece with none, and nothing there is no piece.
pub data Parted : List Piece → Type 0 where
  nothing : Parted []
  unended : {b : ℕ} {r : List ℕ} → Unbroken (b ∷ r) → Parted (piece (b ∷ r) no_ending ∷ [])
  pair : {a b : ℕ} {r : List ℕ} {ps : List Piece} → LineEnd a b → Unbroken r → Parted ps → Parted (piece r (two_bytes a b) ∷ ps)
  alone : {a b : ℕ} {r : List ℕ} {ps : List Piece} → LineEnd a b → Unbroken r → begins_with b (laid_pieces ps) ≡ false → Parted ps
      → Parted (piece r (one_byte a b) ∷ ps)
