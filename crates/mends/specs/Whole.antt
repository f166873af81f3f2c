-- The whole call: what the counts say of it, and what it leaves.
use Rattle.std.specs.Prelude.{◌≡◌, Bool, ◌&&◌, ℕ, ◌+◌, ◌-◌, ◌*◌, ◌≤◌, eqb, ltb, leb, ℤ}
use Rattle.std.proofs.Math.Path.{refl}
use Rattle.std.proofs.Common.{ap, ◌∙◌, arith, eqb-true, ne_eqb, ltb-false, leb-true}
use Rattle.std.proofs.Math.Bool.{true, false, cond}
use mathlib.Core.List.{List, [], ◌∷◌, ◌++◌, map, append-nil}
use Rattle.std.proofs.Math.ListN.{length}
use Rattle.below.specs.Below.{and_left, and_right}
use Rattle.sound.specs.rule.Rows.{length_of}
use Rattle.cuts.specs.declared.Terminator.{Terminator}
use Rattle.fields.specs.rule.Field.{spaces}
use Rattle.pieces.specs.rule.Pieces.{Piece, cut_from, pieces_of, boundary_bytes, laid_pieces}
use Rattle.pieces.specs.Pieces.{low_count}
use Rattle.mends.specs.declared.Sizes.{Sizes}
use Rattle.mends.specs.rule.Mend.{plain_byte, width_of, mended_record, mended_of, same_boundary}
use Rattle.mends.specs.rule.Mend.{width_of_records, bytes_in, list_in}
use Rattle.mends.specs.Sizes.{one, larger, short_in, others_in}
use Rattle.mends.specs.Sizes.{Sized, width_rest, width_least}
use Rattle.mends.specs.Mend.{Ends}

-- ---- a boundary that is the same is the same
abbrev made : ℕ → ℕ → ℕ → Terminator
made f s n = record { first = f; second = s; size = n }

same_fields : (a b : Terminator) → a.first ≡ b.first → a.second ≡ b.second → a.size ≡ b.size → a ≡ b
same_fields a b p q r =
    ap (λ (x : ℕ). made x a.second a.size) p
    ∙ ap (λ (x : ℕ). made b.first x a.size) q
    ∙ ap (λ (x : ℕ). made b.first b.second x) r

pub same_is : (e b : Terminator) → same_boundary e b ≡ true → e ≡ b
unfolding same_boundary
same_is e b h =
    let l = and_left (eqb e.size b.size && eqb e.first b.first) (eqb e.second b.second) h in
    same_fields e b
    (eqb-true e.first b.first (and_right (eqb e.size b.size) (eqb e.first b.first) l))
    (eqb-true e.second b.second (and_right (eqb e.size b.size && eqb e.first b.first) (eqb e.second b.second) h))
    (eqb-true e.size b.size (and_left (eqb e.size b.size) (eqb e.first b.first) l))

-- ---- bytes of which none is below 32 stay
pub plain_kept : (r : List ℕ) → low_count r ≡ 0 → map plain_byte r ≡ r
unfolding low_count plain_byte
plain_kept [] h = refl
plain_kept (b ∷ r) h = go (ltb b 32) refl h (λ z. plain_kept r z)
  where
    go : (q : Bool) → ltb b 32 ≡ q → cond q 1 0 + low_count r ≡ 0 → (low_count r ≡ 0 → map plain_byte r ≡ r)
        → cond (ltb b 32) 32 b ∷ map plain_byte r ≡ b ∷ r
    go true q z f = absurd (omega arith)
    go false q z f = rw (q, f (omega arith))

pub whole_record : (e : Terminator) (r : List ℕ) (w : ℕ) → Sized e → low_count r ≡ 0 → length r ≡ w
    → mended_record w e r ≡ r ++ boundary_bytes e
unfolding mended_record boundary_bytes spaces
whole_record e r w s l h =
    let z : w - length r ≡ 0 = omega arith in
    rw (plain_kept r l, z, ne_eqb e.size 0 (λ x. omega (arith, s.some)), append-nil r)

-- ---- NOTHING LISTED: the output is the input
pub unlisted : (w v : ℕ) (e : Terminator) (ps : List Piece) → Sized e → width_of v ps ≤ w → others_in e ps + short_in w ps ≡ 0
    → mended_of w e ps ≡ laid_pieces ps
unfolding mended_of laid_pieces others_in short_in width_of
unlisted w v e [] s h z = refl
unlisted w v e (p ∷ ps) s h z =
    go (eqb (length p.bytes) 0) (ltb (length p.bytes) w) refl (same_boundary e p.boundary) refl z
    (λ y. unlisted w (larger v (length p.bytes)) e ps s h y)
  where
    go : (q t : Bool) → ltb (length p.bytes) w ≡ t → (x : Bool) → same_boundary e p.boundary ≡ x
        → cond q 1 (low_count p.bytes + cond x 0 1) + others_in e ps + (cond q 0 (one t) + short_in w ps) ≡ 0
        → (others_in e ps + short_in w ps ≡ 0 → mended_of w e ps ≡ laid_pieces ps)
        → cond q [] (mended_record w e p.bytes) ++ mended_of w e ps ≡ p.bytes ++ boundary_bytes p.boundary ++ laid_pieces ps
    go true t b x c y f = absurd (omega arith)
    go false true b x c y f = absurd (omega arith)
    go false false b false c y f = absurd (omega arith)
    go false false b true c y f =
        let k = width_rest v p ps w h in
        let l = ltb-false (length p.bytes) w b in
        rw (whole_record e p.bytes w s (omega arith) (omega (arith, k.0)), f (omega arith), ← (same_is e p.boundary c))

-- ---- the counts of a file say how long its output and its list are
pub record Counts (t : List ℤ) (d : List ℕ) (e : Terminator) (z : Sizes) : Type 0 where
  pub width : z.width ≡ width_of_records t d
  pub bytes : z.kept * (z.width + e.size) ≡ length (bytes_in t d)
  pub entries : z.others + z.short ≡ length (list_in t d)

-- what the code mends and lists is what the call says
pub said_bytes : {t : List ℤ} {d : List ℕ} {e : Terminator} {z : Sizes} → Ends d e → Counts t d e z → mended_of z.width e (cut_from 0 d)
    ≡ bytes_in t d
unfolding bytes_in pieces_of
said_bytes f c = rw (c.width, f.is)

pub wide_enough : {t : List ℤ} {d : List ℕ} {e : Terminator} {z : Sizes} → Counts t d e z → width_of 0 (cut_from 0 d) ≤ z.width
unfolding width_of_records pieces_of
wide_enough {t} {d} c = rw c.width (width_least (length_of t) (cut_from 0 d))

-- ---- how the call ends
pub room_both : (a b c d : ℕ) → leb a b && leb c d ≡ true → (a ≤ b) × (c ≤ d)
room_both a b c d r = (leb-true a b (and_left (leb a b) (leb c d) r), leb-true c d (and_right (leb a b) (leb c d) r))
