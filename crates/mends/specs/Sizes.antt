-- What the first pass counts, and that it is what the definitions measure.
use Rattle.std.specs.Prelude.{◌≡◌, Bool, ℕ, zero, suc, ◌+◌, ◌*◌, ◌≤◌, ltb}
use Rattle.std.proofs.Math.Path.{refl, ap}
use Rattle.std.proofs.Common.{sym, ◌∙◌, ⊎_elim, zero-mul, add-mul, one-mul, length-append}
use Rattle.std.proofs.Math.Bool.{true, false, cond}
use mathlib.Core.List.{List, [], ◌∷◌, ◌++◌, map}
use native.Mathlib.Omega.{arith}
use borrow.Author.Tests.{eqb-true, eqb-false, ltb-true, ltb-false, lt-ltb, le-ltb}
use Rattle.std.proofs.Math.Dec.{eqb}
use Rattle.std.proofs.Math.ListN.{length}
use Rattle.below.specs.Below.{lt_or_le}
use Rattle.cuts.specs.declared.Terminator.{Terminator}
use Rattle.cuts.specs.rule.Records.{terminator_bytes}
use Rattle.fields.specs.rule.Field.{spaces}
use Rattle.pieces.specs.rule.Pieces.{Piece}
use Rattle.pieces.specs.Pieces.{low_count}
use Rattle.mends.specs.declared.Sizes.{Sizes}
use Rattle.mends.specs.rule.Mend.{plain_byte, width_of, is_empty, mended_record, mended_of, MendEntry, mend_entry, listed_if, byte_entries}
use Rattle.mends.specs.rule.Mend.{same_boundary}
use Rattle.mends.specs.rule.Mend.{piece_entries, entry_numbers}

abbrev pub one : Bool → ℕ
one b = cond b 1 0

abbrev pub larger : ℕ → ℕ → ℕ
larger w n = cond (ltb w n) n w

-- one record more, of `long` bytes, of which `lows` are below 32
unfoldable pub tallied : Sizes → ℕ → ℕ → Bool → Sizes
tallied z long lows same =
    cond (eqb long 0)
    (record { kept = z.kept; width = z.width; short = z.short; others = z.others + 1 })
    (record {
      kept = z.kept + 1;
      width = larger z.width long;
      short = cond (ltb z.width long) z.kept (z.short + one (ltb long z.width));
      others = z.others + lows + cond same 0 1;
    })

abbrev pub tallied_by : Terminator → Sizes → Piece → Sizes
tallied_by e z p = tallied z (length p.bytes) (low_count p.bytes) (same_boundary e p.boundary)

unfoldable pub sizes_of : Terminator → Sizes → List Piece → Sizes
sizes_of e z [] = z
sizes_of e z (p ∷ ps) = sizes_of e (tallied_by e z p) ps

-- the records that are kept; of those the ones shorter than w; and the entries that are no pads
unfoldable pub kept_in : List Piece → ℕ
kept_in [] = 0
kept_in (p ∷ ps) = cond (is_empty p) 0 1 + kept_in ps

unfoldable pub short_in : ℕ → List Piece → ℕ
short_in w [] = 0
short_in w (p ∷ ps) = cond (is_empty p) 0 (one (ltb (length p.bytes) w)) + short_in w ps

unfoldable pub others_in : Terminator → List Piece → ℕ
others_in e [] = 0
others_in e (p ∷ ps) = cond (is_empty p) 1 (low_count p.bytes + cond (same_boundary e p.boundary) 0 1) + others_in e ps

-- ---- laws of one step
larger_above : (w n : ℕ) → w ≤ larger w n
larger_above w n = go (ltb w n) refl
  where
    go : (q : Bool) → ltb w n ≡ q → w ≤ cond q n w
    go true e = let h = ltb-true w n e in omega arith
    go false e = omega arith

larger_both : (w n : ℕ) → n ≤ larger w n
larger_both w n = go (ltb w n) refl
  where
    go : (q : Bool) → ltb w n ≡ q → n ≤ cond q n w
    go true e = omega arith
    go false e = let h = ltb-false w n e in omega arith

pub width_above : (w : ℕ) (ps : List Piece) → w ≤ width_of w ps
unfolding width_of
width_above w [] = omega arith
width_above w (p ∷ ps) = let h = larger_above w (length p.bytes) in let g = width_above (larger w (length p.bytes)) ps in omega arith

larger_mono : (v w n : ℕ) → v ≤ w → larger v n ≤ larger w n
larger_mono v w n h = go (ltb v n) refl
  where
    go : (q : Bool) → ltb v n ≡ q → cond q n v ≤ larger w n
    go true q = larger_both w n
    go false q = let a = larger_above w n in omega arith

width_mono : (v w : ℕ) (ps : List Piece) → v ≤ w → width_of v ps ≤ width_of w ps
unfolding width_of
width_mono v w [] h = h
width_mono v w (p ∷ ps) h = width_mono (larger v (length p.bytes)) (larger w (length p.bytes)) ps
    (larger_mono v w (length p.bytes) h)

pub width_least : (w : ℕ) (ps : List Piece) → width_of 0 ps ≤ width_of w ps
width_least w ps = width_mono 0 w ps (omega arith)

-- what all of them keep to, the first keeps to, and those behind it
pub width_rest : (v : ℕ) (p : Piece) (ps : List Piece) (w : ℕ) → width_of (larger v (length p.bytes)) ps ≤ w
    → (length p.bytes ≤ w) × (width_of v ps ≤ w)
width_rest v p ps w h =
    let a = larger_both v (length p.bytes) in
    let b = width_above (larger v (length p.bytes)) ps in
    let c = width_mono v (larger v (length p.bytes)) ps (larger_above v (length p.bytes)) in
    (omega arith, omega arith)

-- ---- the pass counts what the definitions say
module _ (e : Terminator) where
  pub sizes_width : (z : Sizes) (ps : List Piece) → (sizes_of e z ps).width ≡ width_of z.width ps
  unfolding sizes_of width_of tallied
  sizes_width z [] = refl
  sizes_width z (p ∷ ps) = sizes_width (tallied_by e z p) ps ∙ ap (λ (w : ℕ). width_of w ps) (go (eqb (length p.bytes) 0) refl)
    where
      go : (q : Bool) → eqb (length p.bytes) 0 ≡ q → (tallied_by e z p).width ≡ larger z.width (length p.bytes)
      go true q = let k : length p.bytes ≡ 0 = eqb-true (length p.bytes) 0 q in rw (q, k, le-ltb z.width 0 (omega arith))
      go false q = rw q

  pub sizes_kept : (z : Sizes) (ps : List Piece) → (sizes_of e z ps).kept ≡ z.kept + kept_in ps
  unfolding sizes_of kept_in tallied
  sizes_kept z [] = omega arith
  sizes_kept z (p ∷ ps) = sizes_kept (tallied_by e z p) ps ∙ go (eqb (length p.bytes) 0) refl
    where
      go : (q : Bool) → eqb (length p.bytes) 0 ≡ q → (tallied_by e z p).kept + kept_in ps ≡ z.kept + (cond (is_empty p) 0 1 + kept_in ps)
      go true q = rw q (omega arith)
      go false q = rw q (omega arith)

  pub sizes_others : (z : Sizes) (ps : List Piece) → (sizes_of e z ps).others ≡ z.others + others_in e ps
  unfolding sizes_of others_in tallied
  sizes_others z [] = omega arith
  sizes_others z (p ∷ ps) = sizes_others (tallied_by e z p) ps ∙ go (eqb (length p.bytes) 0) refl
    where
      go : (q : Bool) → eqb (length p.bytes) 0 ≡ q
          → (tallied_by e z p).others + others_in e ps
          ≡ z.others + (cond (is_empty p) 1 (low_count p.bytes + cond (same_boundary e p.boundary) 0 1) + others_in e ps)
      go true q = rw q (omega arith)
      go false q = rw q (omega arith)

  -- those that are shorter than the widest: all that were kept, if a wider one comes
  short_step : (v n w k s r : ℕ) → larger v n ≤ w
      → cond (ltb (larger v n) w) (k + 1) (cond (ltb v n) k (s + one (ltb n v))) + r ≡ cond (ltb v w) k s + (one (ltb n w) + r)
  short_step v n w k s r h = go (ltb v n) refl h
    where
      wider : (x : Bool) → cond x (k + 1) k + r ≡ k + (one x + r)
      wider true = omega arith
      wider false = omega arith

      go : (a : Bool) → ltb v n ≡ a → cond a n v ≤ w
          → cond (ltb (cond a n v) w) (k + 1) (cond a k (s + one (ltb n v))) + r ≡ cond (ltb v w) k s + (one (ltb n w) + r)
      go true a l = let m = ltb-true v n a in rw (lt-ltb v w (omega arith)) (wider (ltb n w))
      go false a l = ⊎_elim
          (λ m. let g = ltb-false v n a in rw (lt-ltb v w m, lt-ltb n w (omega arith)) (omega arith))
          (λ m. let q : v ≡ w = omega arith in rw (q, le-ltb w w (omega arith)) (omega arith)) (lt_or_le v w)

  pub sizes_short : (z : Sizes) (ps : List Piece)
      → (sizes_of e z ps).short ≡ cond (ltb z.width (width_of z.width ps)) z.kept z.short + short_in (width_of z.width ps) ps
  unfolding sizes_of short_in tallied width_of
  sizes_short z [] = rw (le-ltb z.width z.width (omega arith)) (omega arith)
  sizes_short z (p ∷ ps) = sizes_short (tallied_by e z p) ps ∙ go (eqb (length p.bytes) 0) refl
    where
      go : (q : Bool) → eqb (length p.bytes) 0 ≡ q
          → cond (ltb (tallied_by e z p).width (width_of (tallied_by e z p).width ps)) (tallied_by e z p).kept (tallied_by e z p).short
          + short_in (width_of (tallied_by e z p).width ps) ps
          ≡ cond (ltb z.width (width_of z.width (p ∷ ps))) z.kept z.short
          + (cond (is_empty p) 0 (one (ltb (length p.bytes) (width_of z.width (p ∷ ps)))) + short_in (width_of z.width (p ∷ ps)) ps)
      go true q = let k : length p.bytes ≡ 0 = eqb-true (length p.bytes) 0 q in
          rw (q, k, le-ltb z.width 0 (omega arith)) (omega arith)
      go false q =
          rw q
          (short_step z.width (length p.bytes) (width_of (larger z.width (length p.bytes)) ps) z.kept z.short
          (short_in (width_of (larger z.width (length p.bytes)) ps) ps) (width_above (larger z.width (length p.bytes)) ps))

-- ---- how long the list is
length_listed : (q : Bool) (x : MendEntry) → length (listed_if q x) ≡ one q
unfolding listed_if
length_listed true x = refl
length_listed false x = refl

pub length_bytes : (n at : ℕ) (r : List ℕ) → length (byte_entries n at r) ≡ low_count r
unfolding byte_entries low_count
length_bytes n at [] = refl
length_bytes n at (b ∷ r) = length-append (listed_if (ltb b 32) (mend_entry 2 n at)) (byte_entries n (at + 1) r)
    ∙ rw (length_listed (ltb b 32) (mend_entry 2 n at), length_bytes n (at + 1) r)

length_unended : (q : Bool) (x : MendEntry) → length (cond q [] (x ∷ [])) ≡ cond q 0 1
length_unended true x = refl
length_unended false x = refl

pub length_piece : (w : ℕ) (e : Terminator) (n at : ℕ) (p : Piece) → length (piece_entries w e n at p)
    ≡ cond (is_empty p) 1 (low_count p.bytes + (one (ltb (length p.bytes) w) + cond (same_boundary e p.boundary) 0 1))
unfolding piece_entries
length_piece w e n at p = go (is_empty p)
  where
    x : MendEntry
    x = mend_entry 3 n (at + length p.bytes)

    y : MendEntry
    y = mend_entry 4 n (at + length p.bytes)

    go : (q : Bool) → length (cond q (mend_entry 1 n at ∷ []) (byte_entries n at p.bytes ++ listed_if (ltb (length p.bytes) w) x
        ++ cond (same_boundary e p.boundary) [] (y ∷ [])))
        ≡ cond q 1 (low_count p.bytes + (one (ltb (length p.bytes) w) + cond (same_boundary e p.boundary) 0 1))
    go true = refl
    go false = simp (length-append, length_bytes, length_listed, length_unended) (omega arith)

pub length_numbers : (l : List MendEntry) → length (entry_numbers l) ≡ 3 * length l
unfolding entry_numbers
length_numbers [] = refl
length_numbers (x ∷ l) = let h = length_numbers l in omega arith

pub numbers_append : (a b : List MendEntry) → entry_numbers (a ++ b) ≡ entry_numbers a ++ entry_numbers b
unfolding entry_numbers
numbers_append [] b = refl
numbers_append (x ∷ a) b = rw (numbers_append a b)

-- ---- how long the output is
-- a terminator of one byte or two
pub record Sized (e : Terminator) : Type 0 where
  pub some : 1 ≤ e.size
  pub few : e.size ≤ 2

pub length_ending : (e : Terminator) → Sized e → length (terminator_bytes e) ≡ e.size
unfolding terminator_bytes
length_ending e s = go (eqb e.size 2) refl
  where
    go : (q : Bool) → eqb e.size 2 ≡ q → length (cond q (e.first ∷ e.second ∷ []) (e.first ∷ [])) ≡ e.size
    go true q = sym (eqb-true e.size 2 q)
    go false q = let n = eqb-false e.size 2 q in omega (arith, s.some, s.few)

pub length_spaces : (n : ℕ) → length (spaces n) ≡ n
unfolding spaces
length_spaces zero = refl
length_spaces (suc n) = ap suc (length_spaces n)

pub length_plain : (r : List ℕ) → length (map plain_byte r) ≡ length r
length_plain [] = refl
length_plain (b ∷ r) = ap suc (length_plain r)

pub length_record : (w : ℕ) (e : Terminator) (r : List ℕ) → Sized e → length r ≤ w → length (mended_record w e r) ≡ w + e.size
unfolding mended_record
length_record w e r s h = simp (length-append, length_plain, length_spaces, length_ending e s) (omega arith)

pub length_mended : (w v : ℕ) (e : Terminator) (ps : List Piece) → Sized e → width_of v ps ≤ w
    → length (mended_of w e ps) ≡ kept_in ps * (w + e.size)
unfolding mended_of kept_in width_of
length_mended w v e [] s h = sym (zero-mul (w + e.size))
length_mended w v e (p ∷ ps) s h =
    length-append (cond (is_empty p) [] (mended_record w e p.bytes)) (mended_of w e ps)
    ∙ rw (length_mended w (larger v (length p.bytes)) e ps s h) (go (is_empty p))
  where
    go : (q : Bool) → length (cond q [] (mended_record w e p.bytes)) + kept_in ps * (w + e.size)
        ≡ (cond q 0 1 + kept_in ps) * (w + e.size)
    go true = sym (add-mul 0 (kept_in ps) (w + e.size) ∙ ap (λ (k : ℕ). k + kept_in ps * (w + e.size)) (zero-mul (w + e.size)))
    go false =
        rw (
          length_record w e p.bytes s (omega (arith, larger_both v (length p.bytes), width_above (larger v (length p.bytes)) ps)),
          add-mul 1 (kept_in ps) (w + e.size),
          one-mul,
        )
