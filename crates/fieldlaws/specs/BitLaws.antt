-- A bitstring: a set that may be written reads back, and what is read may be written.
use Rattle.std.specs.Prelude.{◌≡◌, Bool, ◌&&◌, ◌||◌, eqb, ℤ, length}
use Rattle.std.proofs.Math.Path.{refl}
use Rattle.std.proofs.Common.{sym, ap, ◌∙◌, ⊎_elim, eq-or-lt_of_le, arith}
use Rattle.std.proofs.Math.Bool.{true, false, cond}
use mathlib.Core.List.{List, [], ◌∷◌}
use Prim.Native.Nat.{ℕ, zero, suc, ◌+◌, ◌-◌, ◌≤◌, ◌<◌}
use Rattle.std.proofs.Math.IntN.{pos}
use Rattle.below.specs.Below.{holds_not, and_true}
use Rattle.fields.specs.rule.Number.{all_spaces}
use Rattle.fields.specs.rule.Field.{members, holds, all_bits, set_bits, bits_field, bit_bytes, is_member, passing, all_legal, set_fits}
use Rattle.fields.specs.rule.Row.{defined}
use Rattle.fieldlaws.specs.Tests.{either}
use Rattle.fieldlaws.specs.RisingLaws.{Rising, none, skip, keep, rising_empty, fits_of, members_back, not_member}

pub length_bit_bytes : (ms : List ℤ) (cs : List ℕ) → length (bit_bytes ms cs) ≡ length cs
unfolding bit_bytes
length_bit_bytes ms [] = refl
length_bit_bytes ms (c ∷ cs) = ap suc (length_bit_bytes ms cs)

bytes_bits : (ms : List ℤ) (cs : List ℕ) → all_bits (bit_bytes ms cs) ≡ true
unfolding bit_bytes all_bits
bytes_bits ms [] = refl
bytes_bits ms (c ∷ cs) = go (is_member ms (pos c)) (bytes_bits ms cs)
  where
    go : (b : Bool) → all_bits (bit_bytes ms cs) ≡ true
        → ((eqb (cond b 49 48) 48 || eqb (cond b 49 48) 49) && all_bits (bit_bytes ms cs)) ≡ true
    go true e = e
    go false e = e

bytes_seen : (ms : List ℤ) (cs : List ℕ) → 0 < length cs → all_spaces (bit_bytes ms cs) ≡ false
unfolding bit_bytes all_spaces
bytes_seen ms [] h = absurd (omega arith)
bytes_seen ms (c ∷ cs) h = go (is_member ms (pos c))
  where
    go : (b : Bool) → (eqb (cond b 49 48) 32 && all_spaces (bit_bytes ms cs)) ≡ false
    go true = refl
    go false = refl

-- a category makes the categories some
pub some_defined : (ok : ℤ → Bool) (c n k : ℕ) → c ≤ k → k < c + n → ok (pos k) ≡ true → 0 < length (defined ok c n)
unfolding defined
some_defined ok c zero k h l e = absurd (omega arith)
some_defined ok c (suc n) k h l e = go (ok (pos c)) refl (λ g. some_defined ok (suc c) n k g (omega arith) e)
  where
    go : (b : Bool) → ok (pos c) ≡ b → (suc c ≤ k → 0 < length (defined ok (suc c) n))
        → 0 < length (cond b (c ∷ defined ok (suc c) n) (defined ok (suc c) n))
    go true q r = omega arith
    go false q r = ⊎_elim (λ s. holds_not e (ap (λ (i : ℕ). ok (pos i)) (sym s) ∙ q)) r (eq-or-lt_of_le h)

module _ (ok : ℤ → Bool) (ms : List ℤ) (legal : all_legal ok ms ≡ true) where
  set_members : (c n : ℕ) → set_bits (defined ok c n) (bit_bytes ms (defined ok c n)) ≡ passing (is_member ms) c n
  unfolding defined bit_bytes set_bits passing
  set_members c zero = refl
  set_members c (suc n) = go (ok (pos c)) (is_member ms (pos c)) refl refl (set_members (suc c) n)
    where
      go : (a b : Bool) → ok (pos c) ≡ a → is_member ms (pos c) ≡ b
          → set_bits (defined ok (suc c) n) (bit_bytes ms (defined ok (suc c) n)) ≡ passing (is_member ms) (suc c) n
          → set_bits (cond a (c ∷ defined ok (suc c) n) (defined ok (suc c) n))
          (bit_bytes ms (cond a (c ∷ defined ok (suc c) n) (defined ok (suc c) n)))
          ≡ cond b (pos c ∷ passing (is_member ms) (suc c) n) (passing (is_member ms) (suc c) n)
      go true true p q e = rw q (ap (λ (l : List ℤ). pos c ∷ l) e)
      go true false p q e = rw q e
      go false true p q e = holds_not q (not_member ok ms (pos c) legal p)
      go false false p q e = e

  pub bits_back : (w : ℕ) → Rising 1 w ms → 0 < length (defined ok 1 w)
      → bits_field (defined ok 1 w) (bit_bytes ms (defined ok 1 w)) ≡ holds (members ms)
  unfolding bits_field
  bits_back w rising some =
      rw (bytes_seen ms (defined ok 1 w) some, bytes_bits ms (defined ok 1 w), set_members 1 w, members_back rising)

-- ---- what is read may be written
module _ (ok : ℤ → Bool) where
  pub set_rising : (c n : ℕ) (s : List ℕ) → Rising c n (set_bits (defined ok c n) s)
  unfolding defined set_bits
  set_rising c zero s = none
  set_rising c (suc n) s = go (ok (pos c)) s (set_rising (suc c) n)
    where
      go : (a : Bool) (s : List ℕ) → ((s : List ℕ) → Rising (suc c) n (set_bits (defined ok (suc c) n) s))
          → Rising c (suc n) (set_bits (cond a (c ∷ defined ok (suc c) n) (defined ok (suc c) n)) s)
      go true [] ih = rising_empty c (suc n)
      go true (b ∷ s) ih =
          either (Rising c (suc n)) (eqb b 49) (pos c ∷ set_bits (defined ok (suc c) n) s) (set_bits (defined ok (suc c) n) s)
          (keep (ih s)) (skip (ih s))
      go false s ih = skip (ih s)

  set_legal : (c n : ℕ) (s : List ℕ) → all_legal ok (set_bits (defined ok c n) s) ≡ true
  unfolding defined set_bits all_legal
  set_legal c zero s = refl
  set_legal c (suc n) s = go (ok (pos c)) refl s (set_legal (suc c) n)
    where
      go : (a : Bool) → ok (pos c) ≡ a → (s : List ℕ) → ((s : List ℕ) → all_legal ok (set_bits (defined ok (suc c) n) s) ≡ true)
          → all_legal ok (set_bits (cond a (c ∷ defined ok (suc c) n) (defined ok (suc c) n)) s) ≡ true
      go true q [] ih = refl
      go true q (b ∷ s) ih =
          either (λ (l : List ℤ). all_legal ok l ≡ true) (eqb b 49) (pos c ∷ set_bits (defined ok (suc c) n) s)
          (set_bits (defined ok (suc c) n) s)
          (and_true (ok (pos c)) (all_legal ok (set_bits (defined ok (suc c) n) s)) q (ih s)) (ih s)
      go false q s ih = ih s

  pub bits_fit : (w : ℕ) (s : List ℕ) → set_fits ok (set_bits (defined ok 1 w) s) ≡ true
  bits_fit w s = fits_of ok (set_rising 1 w s) (set_legal 1 w s)
