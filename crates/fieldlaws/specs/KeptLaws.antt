-- Which fields keep their very bytes when what was read is written back: bitstrings, texts, truths and fields of spaces. (A number
-- may stand there as `  7` or `-0`, a spread with repeats, gaps or another order: those bytes become the value's own.)
use Rattle.std.specs.Prelude.{◌≡◌, Bool, ◌||◌, ℤ, pos, length, get_or}
use Rattle.std.proofs.Math.Path.{refl}
use Rattle.std.proofs.Common.{ap, arith}
use Rattle.std.proofs.Math.Bool.{true, false, cond}
use mathlib.Core.List.{List, [], ◌∷◌, ◌++◌}
use Prim.Native.Nat.{ℕ, zero, suc, ◌+◌, ◌-◌, ◌≤◌, ◌<◌}
use Rattle.std.proofs.Math.Nat.{sub-zero}
use borrow.Author.Tests.{eqb-true}
use Rattle.std.proofs.Math.Dec.{eqb}
use Rattle.below.specs.Below.{and_left, and_right}
use Rattle.cells.specs.Cell.{same_self}
use Rattle.fields.specs.rule.Number.{all_spaces}
use Rattle.fields.specs.rule.Field.{is_member, all_bits, set_bits, bit_bytes, unended, spaces, text_bytes, truth_bytes}
use Rattle.fields.specs.rule.Row.{defined}
use Rattle.fieldlaws.specs.Tests.{or_left, counts_differ}
use Rattle.fieldlaws.specs.RisingLaws.{not_below}
use Rattle.fieldlaws.specs.BitLaws.{set_rising}

-- spaces are spaces
pub spaces_kept : (s : List ℕ) → all_spaces s ≡ true → spaces (length s) ≡ s
unfolding all_spaces spaces
spaces_kept [] e = refl
spaces_kept (b ∷ s) e =
    let q : b ≡ 32 = eqb-true b 32 (and_left (eqb b 32) (all_spaces s) e) in
    rw q (ap (λ (l : List ℕ). 32 ∷ l) (spaces_kept s (and_right (eqb b 32) (all_spaces s) e)))

-- a text and the spaces that were cut
text_split : (s : List ℕ) → (length (unended s) ≤ length s) × (unended s ++ spaces (length s - length (unended s)) ≡ s)
unfolding unended spaces
text_split [] = (omega arith, refl)
text_split (b ∷ s) = go (all_spaces (b ∷ s)) refl (text_split s)
  where
    go : (a : Bool) → all_spaces (b ∷ s) ≡ a → (length (unended s) ≤ length s) × (unended s ++ spaces (length s - length (unended s)) ≡ s)
        → (length (cond a [] (b ∷ unended s)) ≤ suc (length s))
        × (cond a [] (b ∷ unended s) ++ spaces (suc (length s) - length (cond a [] (b ∷ unended s))) ≡ b ∷ s)
    go true q ih = (omega arith, rw sub-zero (spaces_kept (b ∷ s) q))
    go false q ih =
        let e : suc (length s) - suc (length (unended s)) ≡ length s - length (unended s) = omega arith in
        (omega arith, ap (λ (l : List ℕ). b ∷ l) (rw e ih.1))

pub text_kept : (w : ℕ) (s : List ℕ) → length s ≡ w → text_bytes w (unended s) ≡ s
unfolding text_bytes
text_kept w s e = rw (← e) (text_split s).1

-- a bitstring's bytes
module _ (ok : ℤ → Bool) where
  -- a member below every category does not matter
  pub other_member : (m c n : ℕ) (ms : List ℤ) → m < c → bit_bytes (pos m ∷ ms) (defined ok c n) ≡ bit_bytes ms (defined ok c n)
  unfolding defined bit_bytes is_member
  other_member m c zero ms h = refl
  other_member m c (suc n) ms h = go (ok (pos c)) (other_member m (suc c) n ms (omega arith))
    where
      go : (a : Bool) → bit_bytes (pos m ∷ ms) (defined ok (suc c) n) ≡ bit_bytes ms (defined ok (suc c) n)
          → bit_bytes (pos m ∷ ms) (cond a (c ∷ defined ok (suc c) n) (defined ok (suc c) n))
          ≡ bit_bytes ms (cond a (c ∷ defined ok (suc c) n) (defined ok (suc c) n))
      go true e = rw (counts_differ m c (λ q. omega arith)) (ap (λ (l : List ℕ). cond (is_member ms (pos c)) 49 48 ∷ l) e)
      go false e = e

  pub bits_kept : (c n : ℕ) (s : List ℕ) → length s ≡ length (defined ok c n) → all_bits s ≡ true
      → bit_bytes (set_bits (defined ok c n) s) (defined ok c n) ≡ s
  unfolding defined bit_bytes set_bits all_bits is_member
  bits_kept c zero [] q e = refl
  bits_kept c zero (b ∷ s) q e = absurd (omega arith)
  bits_kept c (suc n) s q e = go (ok (pos c)) s q e (bits_kept (suc c) n)
    where
      one : (b : Bool) (x : ℕ) (s : List ℕ) → eqb x 49 ≡ b → (eqb x 48 || b) ≡ true
          → bit_bytes (set_bits (defined ok (suc c) n) s) (defined ok (suc c) n) ≡ s
          → bit_bytes (cond b (pos c ∷ set_bits (defined ok (suc c) n) s) (set_bits (defined ok (suc c) n) s))
          (c ∷ defined ok (suc c) n) ≡ x ∷ s
      one true x s p o ih =
          let y : x ≡ 49 = eqb-true x 49 p in
          rw (same_self (pos c), y, other_member c (suc c) n (set_bits (defined ok (suc c) n) s) (omega arith))
          (ap (λ (l : List ℕ). 49 ∷ l) ih)
      one false x s p o ih =
          let y : x ≡ 48 = eqb-true x 48 (or_left (eqb x 48) o) in
          rw (not_below c (set_rising ok (suc c) n s) (omega arith), y) (ap (λ (l : List ℕ). 48 ∷ l) ih)

      go : (a : Bool) (s : List ℕ) → length s ≡ length (cond a (c ∷ defined ok (suc c) n) (defined ok (suc c) n)) → all_bits s ≡ true
          → ((s : List ℕ) → length s ≡ length (defined ok (suc c) n) → all_bits s ≡ true
          → bit_bytes (set_bits (defined ok (suc c) n) s) (defined ok (suc c) n) ≡ s)
          → bit_bytes (set_bits (cond a (c ∷ defined ok (suc c) n) (defined ok (suc c) n)) s)
          (cond a (c ∷ defined ok (suc c) n) (defined ok (suc c) n)) ≡ s
      go true [] q e ih = absurd (omega arith)
      go true (x ∷ s) q e ih =
          one (eqb x 49) x s refl (and_left (eqb x 48 || eqb x 49) (all_bits s) e)
          (ih s (omega arith) (and_right (eqb x 48 || eqb x 49) (all_bits s) e))
      go false s q e ih = ih s q e

-- a truth's byte
pub truth_kept : (b : Bool) (s : List ℕ) → length s ≡ 1 → get_or s 0 0 ≡ cond b 49 48 → truth_bytes b ≡ s
unfolding truth_bytes
truth_kept b [] n e = absurd (omega arith)
truth_kept b (x ∷ []) n e = rw e
truth_kept b (x ∷ y ∷ s) n e = absurd (omega arith)
