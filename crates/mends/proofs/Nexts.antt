-- Theorems of specs/Mend.antt, kept here: a wrong definition is refused by them.
use Rattle.std.specs.Prelude.{◌≡◌, drop}
use Rattle.std.proofs.Math.Path.{ap}
use Rattle.std.proofs.Common.{◌∙◌, length-append, drop_of_length-le}
use mathlib.Core.List.{List, [], ◌∷◌, ◌++◌}
use Prim.Native.Nat.{ℕ, ◌+◌, ◌-◌, ◌≤◌}
use native.Mathlib.Omega.{arith}
use borrow.Author.Tests.{ne_eqb}
use Rattle.std.proofs.Math.ListN.{length}
use Rattle.cuts.specs.declared.Terminator.{Terminator}
use Rattle.cuts.specs.Records.{part}
use Rattle.pieces.specs.declared.Span.{Span}
use Rattle.pieces.specs.rule.Pieces.{Piece, piece, first_piece, cut_from}
use Rattle.pieces.specs.Pieces.{Spans, piece_at}
use Rattle.mends.specs.declared.Sizes.{Sizes}
use Rattle.mends.specs.rule.Mend.{width_of, record_of, mended_of, piece_entries, mend_entries, entry_numbers}
use Rattle.mends.specs.rule.Mend.{MendEntry, byte_entries}
use Rattle.mends.specs.Sizes.{sizes_of, numbers_append, width_rest}
use Rattle.mends.specs.Mend.{part_length}

-- ---- the next record mended and listed: what is left goes on from there
module _ (d : List ℕ) (e : Terminator) (w i : ℕ) (p : Span) (u : Spans d i p) where
  pub mended_next : mended_of w e (cut_from 0 (drop i d))
      ≡ record_of w e (piece_at d i p) ++ mended_of w e (cut_from 0 (drop (p.stop + p.boundary.size) d))
  unfolding mended_of
  mended_next = rw u.cuts

  pub mended_length : length (mended_of w e (cut_from 0 (drop i d)))
      ≡ length (record_of w e (piece_at d i p)) + length (mended_of w e (cut_from 0 (drop (p.stop + p.boundary.size) d)))
  mended_length = ap length mended_next ∙ length-append (record_of w e (piece_at d i p))
      (mended_of w e (cut_from 0 (drop (p.stop + p.boundary.size) d)))

  pub entries_next : (n : ℕ) → entry_numbers (mend_entries w e n i (cut_from 0 (drop i d)))
      ≡ entry_numbers (piece_entries w e n i (piece_at d i p))
      ++ entry_numbers (mend_entries w e (n + 1) (p.stop + p.boundary.size) (cut_from 0 (drop (p.stop + p.boundary.size) d)))
  unfolding mend_entries
  entries_next n =
      let l = part_length d i p.stop (omega (arith, u.within)) in
      let q : i + length (part d i p.stop) + p.boundary.size ≡ p.stop + p.boundary.size = omega (arith, u.on) in
      rw (u.cuts, q) (numbers_append (piece_entries w e n i (piece_at d i p)) _)

  pub entries_length : (n : ℕ) → length (entry_numbers (mend_entries w e n i (cut_from 0 (drop i d))))
      ≡ length (entry_numbers (piece_entries w e n i (piece_at d i p)))
      + length (entry_numbers (mend_entries w e (n + 1) (p.stop + p.boundary.size) (cut_from 0 (drop (p.stop + p.boundary.size) d))))
  entries_length n =
      ap length (entries_next n)
      ∙ length-append (entry_numbers (piece_entries w e n i (piece_at d i p)))
      (entry_numbers (mend_entries w e (n + 1) (p.stop + p.boundary.size) (cut_from 0 (drop (p.stop + p.boundary.size) d))))

  pub width_next : width_of 0 (cut_from 0 (drop i d)) ≤ w
      → (p.stop - i ≤ w) × (width_of 0 (cut_from 0 (drop (p.stop + p.boundary.size) d)) ≤ w)
  unfolding width_of
  width_next h =
      let l = part_length d i p.stop (omega (arith, u.within)) in
      let k = rw u.cuts at h in
      let g = width_rest 0 (piece_at d i p) (cut_from 0 (drop (p.stop + p.boundary.size) d)) w k in
      (omega (arith, g.0), g.1)

-- ---- at the end of the file nothing is left
module _ (d : List ℕ) (e : Terminator) (i : ℕ) (h : length d ≤ i) where
  pub sizes_over : (z : Sizes) → sizes_of e z (cut_from 0 (drop i d)) ≡ z
  unfolding sizes_of cut_from
  sizes_over z = rw (drop_of_length-le d h)

  pub mended_over : (w : ℕ) → mended_of w e (cut_from 0 (drop i d)) ≡ []
  unfolding mended_of cut_from
  mended_over w = rw (drop_of_length-le d h)

  pub entries_over : (w n at : ℕ) → entry_numbers (mend_entries w e n at (cut_from 0 (drop i d))) ≡ []
  unfolding mend_entries cut_from entry_numbers
  entries_over w n at = rw (drop_of_length-le d h)

numbers_more : (x a b : List MendEntry) → length (entry_numbers x) ≤ length (entry_numbers (x ++ a ++ b))
numbers_more x a b =
    rw (
      numbers_append (x ++ a) b,
      length-append (entry_numbers (x ++ a)) (entry_numbers b),
      numbers_append x a,
      length-append (entry_numbers x) (entry_numbers a),
    )
    (omega arith)

-- the first piece's bytes are listed among the pieces' entries
pub left_within : (w : ℕ) (e : Terminator) (n at : ℕ) (ps : List Piece)
    → length (entry_numbers (byte_entries n at (first_piece ps).bytes)) ≤ length (entry_numbers (mend_entries w e n at ps))
unfolding first_piece mend_entries piece_entries byte_entries entry_numbers
left_within w e n at [] = omega arith
left_within w e n at (p ∷ ps) =
    let r : List MendEntry = mend_entries w e (n + 1) (at + length p.bytes + p.boundary.size) ps in
    rw (numbers_append (piece_entries w e n at p) r, length-append (entry_numbers (piece_entries w e n at p)) (entry_numbers r))
    (let h = own p.bytes p.boundary in omega arith)
  where
    own : (r : List ℕ) (b : Terminator)
        → length (entry_numbers (byte_entries n at r)) ≤ length (entry_numbers (piece_entries w e n at (piece r b)))
    own [] b = omega arith
    own (x ∷ r) b = rw (ne_eqb (length (x ∷ r)) 0 (λ z. omega arith)) (numbers_more (byte_entries n at (x ∷ r)) _ _)
