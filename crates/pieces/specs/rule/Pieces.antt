-- "The mender takes each CR LF, LF CR, CR or LF as a boundary, pairs first" (document 02, C-19): a data file cut into pieces, from the
-- left. Bytes behind the last boundary are a piece with none behind it; nothing there is no piece. 13 is CR, 10 is LF.
use Rattle.std.specs.Prelude.{cond, List, [], ◌∷◌, ◌++◌, ℕ, zero, suc, ◌-◌, eqb}
use Rattle.cuts.specs.declared.Terminator.{Terminator}
use Rattle.cuts.specs.rule.Cut.{no_ending, terminator_at}
use Rattle.cuts.specs.rule.Records.{terminator_bytes}

-- the boundary that s begins with: a CR or LF with the other behind it is one boundary, else the one byte; none before any other byte
unfoldable pub boundary_at : List ℕ → Terminator
boundary_at [] = no_ending
boundary_at (b ∷ s) = cond (eqb b 13) (terminator_at 13 10 s) (cond (eqb b 10) (terminator_at 10 13 s) no_ending)

-- a piece: its bytes, and the boundary behind it
pub record Piece : Type 0 where
  pub bytes : List ℕ
  pub boundary : Terminator

abbrev pub piece : List ℕ → Terminator → Piece
piece r w = record { bytes = r; boundary = w }

-- the first piece, where there is one, and those behind it
unfoldable pub first_piece : List Piece → Piece
first_piece [] = piece [] no_ending
first_piece (p ∷ ps) = p

unfoldable pub pieces_behind : List Piece → List Piece
pieces_behind [] = []
pieces_behind (p ∷ ps) = ps

-- a byte in front of the first piece's bytes
unfoldable pub onto : ℕ → List Piece → List Piece
onto b ps = piece (b ∷ (first_piece ps).bytes) (first_piece ps).boundary ∷ pieces_behind ps

-- the pieces of s, after `skip` bytes that are left of a boundary
unfoldable pub cut_from : ℕ → List ℕ → List Piece
cut_from skip [] = []
cut_from (suc skip) (b ∷ s) = cut_from skip s
cut_from zero (b ∷ s) =
    cond (eqb (boundary_at (b ∷ s)).size 0) (onto b (cut_from 0 s))
    (piece [] (boundary_at (b ∷ s)) ∷ cut_from ((boundary_at (b ∷ s)).size - 1) s)

-- THE PIECES of a file
unfoldable pub pieces_of : List ℕ → List Piece
pieces_of d = cut_from 0 d

-- the bytes of a boundary, and pieces with their boundaries laid end to end
unfoldable pub boundary_bytes : Terminator → List ℕ
boundary_bytes w = cond (eqb w.size 0) [] (terminator_bytes w)

unfoldable pub laid_pieces : List Piece → List ℕ
laid_pieces [] = []
laid_pieces (p ∷ ps) = p.bytes ++ boundary_bytes p.boundary ++ laid_pieces ps
