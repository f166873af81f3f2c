-- Bytes that are all alike, and entries of value zero, sixteen at once.
-- Assumes nothing.
use Rattle.std.specs.Prelude.{◌≡◌, refl, Bool, true, false, cond, ◌&&◌, List, [], ◌∷◌, ℕ, zero, suc, ◌+◌, ◌-◌, ◌*◌, ◌≤◌, ◌<◌, eqb}
use Rattle.std.specs.Prelude.{pos, length, get_or, set}
use Rattle.std.proofs.Common.{sym, ap, ◌∙◌, arith, eqb-true}
use Rattle.std.specs.Int.{from_bool}
use Rattle.std.specs.Float.Ieee.{div, of_int, to_bits}
use Rattle.below.specs.rule.Below.{all_below}
use Rattle.below.specs.Below.{all_none, all_next, all_at_lem}
use Rattle.quotient.specs.rule.Value.{value_of}
use Rattle.little.specs.rule.Bytes.{little_bytes, put_at}
use Rattle.little.specs.Runs.{put_more}
use Rattle.matrix.specs.declared.Entry.{Entry}
use Rattle.matrix.specs.declared.Entry.TheVariants.{Absent, Scaled}
use Rattle.matrix.specs.rule.Entry.{presence_of, float_of, flags_of, value_bytes}
use Rattle.matrix.specs.Put.{put_entries}

-- the n bytes from i on are all b
unfoldable pub all_are : List ℕ → ℕ → ℕ → ℕ → Bool
all_are s i n b = all_below n (λ k. eqb (get_or s (i + k) 0) b)

-- n entries of value zero, present or not
unfoldable pub noughts : Bool → ℕ → List Entry
noughts there zero = []
noughts there (suc n) = cond there (Scaled (pos 0) 1) Absent ∷ noughts there n

-- ---- laws
pub are_none : (s : List ℕ) (i b : ℕ) → all_are s i 0 b ≡ true
unfolding all_are
are_none s i b = all_none (λ k. eqb (get_or s (i + k) 0) b)

pub are_more : (s : List ℕ) (i n b : ℕ) (a : Bool) → a ≡ all_are s i n b → (a && eqb (get_or s (i + n) 0) b) ≡ all_are s i (n + 1) b
unfolding all_are
are_more s i n b a e = ap (λ (x : Bool). x && eqb (get_or s (i + n) 0) b) e ∙ sym (all_next (λ k. eqb (get_or s (i + k) 0) b) n)

pub are_at : (s : List ℕ) (i n b : ℕ) → all_are s i n b ≡ true → (k : ℕ) → k < n → get_or s (i + k) 0 ≡ b
unfolding all_are
are_at s i n b e k h = eqb-true (get_or s (i + k) 0) b (all_at_lem (λ k. eqb (get_or s (i + k) 0) b) n k h e)

pub length_noughts : (there : Bool) (n : ℕ) → length (noughts there n) ≡ n
unfolding noughts
length_noughts there zero = refl
length_noughts there (suc n) = ap suc (length_noughts there n)

-- ---- n of them, byte by byte
flags_on : (there : Bool) (n : ℕ) → flags_of (noughts there (suc n)) ≡ from_bool there ∷ flags_of (noughts there n)
unfolding flags_of noughts presence_of
flags_on true n = refl
flags_on false n = refl

pub flags_next : (r : List ℕ) (f i n : ℕ) (there : Bool) → i < n
    → put_at (set r (f + i) (from_bool there)) (f + (i + 1)) (flags_of (noughts there (n - (i + 1))))
    ≡ put_at r (f + i) (flags_of (noughts there (n - i)))
flags_next r f i n there h =
    let d : n - i ≡ suc (n - (i + 1)) = omega arith in
    let w : f + (i + 1) ≡ f + i + 1 = omega arith in
    rw (d, w, flags_on there (n - (i + 1))) (put_more r (f + i) (from_bool there) (flags_of (noughts there (n - (i + 1)))))

pub flags_end : (r : List ℕ) (f i n : ℕ) (there : Bool) → n ≤ i → put_at r f (flags_of (noughts there (n - i))) ≡ r
unfolding flags_of noughts put_at
flags_end r f i n there h = let d : n - i ≡ 0 = omega arith in rw d

pub zeros_are : (there : Bool) (n : ℕ) → little_bytes (8 * n) 0 ≡ value_bytes (noughts there n)
unfolding little_bytes value_bytes noughts float_of value_of div of_int to_bits
zeros_are there zero = refl
zeros_are there (suc n) =
    let d : 8 * suc n ≡ suc (suc (suc (suc (suc (suc (suc (suc (8 * n)))))))) = omega arith in
    rw d (go there (zeros_are there n))
  where
    go : (b : Bool) → little_bytes (8 * n) 0 ≡ value_bytes (noughts b n)
        → little_bytes (suc (suc (suc (suc (suc (suc (suc (suc (8 * n))))))))) 0 ≡ value_bytes (noughts b (suc n))
    go true e = ap (λ (l : List ℕ). 0 ∷ 0 ∷ 0 ∷ 0 ∷ 0 ∷ 0 ∷ 0 ∷ 0 ∷ l) e
    go false e = ap (λ (l : List ℕ). 0 ∷ 0 ∷ 0 ∷ 0 ∷ 0 ∷ 0 ∷ 0 ∷ 0 ∷ l) e

pub many_put : (r : List ℕ) (f v n : ℕ) (there : Bool)
    → put_at (put_at r f (flags_of (noughts there n))) v (little_bytes (8 * n) 0) ≡ put_entries r f v (noughts there n)
many_put r f v n there = ap (λ (x : List ℕ). put_at (put_at r f (flags_of (noughts there n))) v x) (zeros_are there n)
