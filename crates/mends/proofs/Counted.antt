-- Theorems of specs/Sizes.antt, kept here: a wrong definition is refused by them.
use Rattle.std.specs.Prelude.{◌≡◌, Bool, ℕ, ◌+◌, ltb}
use Rattle.std.proofs.Math.Path.{refl}
use Rattle.std.proofs.Common.{◌∙◌, length-append}
use Rattle.std.proofs.Math.Bool.{true, false, cond}
use mathlib.Core.List.{List, [], ◌∷◌}
use native.Mathlib.Omega.{arith}
use Rattle.std.proofs.Math.ListN.{length}
use Rattle.cuts.specs.declared.Terminator.{Terminator}
use Rattle.pieces.specs.rule.Pieces.{Piece}
use Rattle.pieces.specs.Pieces.{low_count}
use Rattle.mends.specs.rule.Mend.{is_empty}
use Rattle.mends.specs.rule.Mend.{same_boundary}
use Rattle.mends.specs.rule.Mend.{piece_entries, mend_entries}
use Rattle.mends.specs.Sizes.{length_piece, one, others_in, short_in}

pub length_entries : (w : ℕ) (e : Terminator) (n at : ℕ) (ps : List Piece) → length (mend_entries w e n at ps) ≡ others_in e ps
    + short_in w ps
unfolding mend_entries others_in short_in
length_entries w e n at [] = refl
length_entries w e n at (p ∷ ps) =
    length-append (piece_entries w e n at p) (mend_entries w e (n + 1) (at + length p.bytes + p.boundary.size) ps)
    ∙ rw (length_piece w e n at p, length_entries w e (n + 1) (at + length p.bytes + p.boundary.size) ps) (go (is_empty p))
  where
    go : (q : Bool) → cond q 1 (low_count p.bytes + (one (ltb (length p.bytes) w) + cond (same_boundary e p.boundary) 0 1))
        + (others_in e ps + short_in w ps)
        ≡ cond q 1 (low_count p.bytes + cond (same_boundary e p.boundary) 0 1) + others_in e ps
        + (cond q 0 (one (ltb (length p.bytes) w)) + short_in w ps)
    go true = omega arith
    go false = omega arith
