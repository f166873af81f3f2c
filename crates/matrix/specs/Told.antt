-- A column of zeros and ones: its summary by how many values it has, whether one of them is 1, and whether one is below 1.
-- Assumes nothing.
use Rattle.std.specs.Prelude.{◌≡◌, refl, Bool, true, false, cond, ◌||◌, List, [], ◌∷◌, ◌⊎◌, ℕ, zero, suc, ◌+◌, ◌≤◌, ◌<◌, length}
use Rattle.std.specs.Prelude.{Float}
use Rattle.std.proofs.Common.{sym, ap, ◌∙◌, inl, inr, add-zero, zero-add, arith}
use Rattle.std.specs.Float.Ieee.{of_bits, lt}
use Rattle.below.specs.Below.{holds_not}
use Rattle.summary.specs.declared.Summary.{Summary}
use Rattle.summary.specs.rule.Summary.{nought, extend_of, extended_by, summary_of}
use Rattle.matrix.specs.Ones.{unit, told_of, told_nought, told_unit, told_none, told_both}

-- a value is below 1
unfoldable pub any_less : List Float → Bool
any_less [] = false
any_less (x ∷ xs) = lt x unit || any_less xs

-- how many are not
unfoldable pub ones_of : List Float → ℕ
ones_of [] = 0
ones_of (x ∷ xs) = cond (lt x unit) (ones_of xs) (suc (ones_of xs))

-- each is 0 or 1
unfoldable pub EachBit : List Float → Type 0
EachBit [] = Unit {0}
EachBit (x ∷ xs) = ((x ≡ nought) ⊎ (x ≡ unit)) × EachBit xs

-- 1 where there are some
unfoldable pub some_of : ℕ → ℕ
some_of zero = 0
some_of (suc n) = 1

-- ---- laws
less_nought : lt nought unit ≡ true
unfolding lt of_bits
less_nought = refl

less_unit : lt unit unit ≡ false
unfolding lt of_bits
less_unit = refl

pub first_less : (x : Float) (xs : List Float) → lt x unit ≡ true → any_less (x ∷ xs) ≡ true
unfolding any_less
first_less x xs e = rw e

pub later_less : (x : Float) (xs : List Float) → lt x unit ≡ false → any_less (x ∷ xs) ≡ any_less xs
unfolding any_less
later_less x xs e = rw e

pub ones_nought : (xs : List Float) → ones_of (nought ∷ xs) ≡ ones_of xs
unfolding ones_of
ones_nought xs = ap (λ (b : Bool). cond b (ones_of xs) (suc (ones_of xs))) less_nought

pub ones_unit : (xs : List Float) → ones_of (unit ∷ xs) ≡ suc (ones_of xs)
unfolding ones_of
ones_unit xs = ap (λ (b : Bool). cond b (ones_of xs) (suc (ones_of xs))) less_unit

-- what is told so far, extended by zeros and ones
bits_told : (xs : List Float) (n o : ℕ) → o ≤ n → EachBit xs → extended_by (told_of n o) xs ≡ told_of (n + length xs) (o + ones_of xs)
unfolding extended_by ones_of EachBit
bits_told [] n o h b = rw (add-zero n, add-zero o)
bits_told (x ∷ xs) n o h b =
    go b.0 (bits_told xs (n + 1) o (omega arith) b.1) (bits_told xs (n + 1) (o + 1) (omega arith) b.1)
  where
    longer : n + suc (length xs) ≡ n + 1 + length xs
    longer = omega arith

    more : o + suc (ones_of xs) ≡ o + 1 + ones_of xs
    more = omega arith

    go : (x ≡ nought) ⊎ (x ≡ unit) → extended_by (told_of (n + 1) o) xs ≡ told_of (n + 1 + length xs) (o + ones_of xs)
        → extended_by (told_of (n + 1) (o + 1)) xs ≡ told_of (n + 1 + length xs) (o + 1 + ones_of xs)
        → extended_by (extend_of (told_of n o) x) xs ≡ told_of (n + length (x ∷ xs)) (o + ones_of (x ∷ xs))
    go (inl e) off on = rw (e, told_nought n o h, longer, ones_nought xs) off
    go (inr e) off on = rw (e, told_unit n o h, longer, ones_unit xs, more) on

bits_summary : (xs : List Float) → EachBit xs → summary_of xs ≡ told_of (length xs) (ones_of xs)
unfolding summary_of
bits_summary xs b =
    ap (λ (s : Summary). extended_by s xs) (sym told_none) ∙ bits_told xs 0 0 (omega arith) b
    ∙ ap (λ (k : ℕ). told_of k (0 + ones_of xs)) (zero-add (length xs)) ∙ ap (told_of (length xs)) (zero-add (ones_of xs))

ones_few : (xs : List Float) → ones_of xs ≤ length xs
unfolding ones_of
ones_few [] = omega arith
ones_few (x ∷ xs) = go (lt x unit) (ones_few xs)
  where
    go : (b : Bool) → ones_of xs ≤ length xs → cond b (ones_of xs) (suc (ones_of xs)) ≤ suc (length xs)
    go true h = omega arith
    go false h = omega arith

less_some : (xs : List Float) → any_less xs ≡ true → ones_of xs < length xs
unfolding any_less ones_of
less_some [] e = holds_not e refl
less_some (x ∷ xs) e = go (lt x unit) e (λ q. less_some xs q)
  where
    go : (b : Bool) → (b || any_less xs) ≡ true → (any_less xs ≡ true → ones_of xs < length xs)
        → cond b (ones_of xs) (suc (ones_of xs)) < suc (length xs)
    go true q r = omega (arith, ones_few xs)
    go false q r = omega (arith, r q)

less_none : (xs : List Float) → any_less xs ≡ false → ones_of xs ≡ length xs
unfolding any_less ones_of
less_none [] e = refl
less_none (x ∷ xs) e = go (lt x unit) e (λ q. less_none xs q)
  where
    go : (b : Bool) → (b || any_less xs) ≡ false → (any_less xs ≡ false → ones_of xs ≡ length xs)
        → cond b (ones_of xs) (suc (ones_of xs)) ≡ suc (length xs)
    go true q r = holds_not refl q
    go false q r = ap suc (r q)

some_none : (n : ℕ) → some_of n ≡ 0 → n ≡ 0
unfolding some_of
some_none zero e = refl
some_none (suc n) e = absurd (omega (arith, e))

some_some : (n : ℕ) → (some_of n ≡ 0 → ⊥) → n ≡ 0 → ⊥
unfolding some_of
some_some n h e = h (ap some_of e)

-- THE SUMMARY of n zeros and ones: no one among them, both, or ones alone
module _ (xs : List Float) (bits : EachBit xs) {n mark : ℕ} (long : n ≡ length xs) (marked : mark ≡ some_of (ones_of xs)) where
  pub told_unmet : mark ≡ 0 → told_of n 0 ≡ summary_of xs
  told_unmet e =
      rw long (ap (told_of (length xs)) (sym (some_none (ones_of xs) (sym marked ∙ e))) ∙ sym (bits_summary xs bits))

  met : (mark ≡ 0 → ⊥) → ones_of xs ≡ 0 → ⊥
  met h = some_some (ones_of xs) (λ e. h (marked ∙ e))

  pub told_mixed : (mark ≡ 0 → ⊥) → any_less xs ≡ true → told_of n 1 ≡ summary_of xs
  told_mixed h e =
      let a = less_some xs e in
      let some : length xs ≡ 0 → ⊥ = λ z. absurd (omega (arith, a, z)) in
      let two : 1 ≡ length xs → ⊥ = λ z. met h (omega (arith, a, z)) in
      rw long (told_both (length xs) 1 some (λ z. absurd (omega (arith, z))) two
      ∙ sym (told_both (length xs) (ones_of xs) some (met h) (λ z. absurd (omega (arith, a, z)))) ∙ sym (bits_summary xs bits))

  pub told_full : any_less xs ≡ false → told_of n n ≡ summary_of xs
  told_full e = rw long (ap (told_of (length xs)) (sym (less_none xs e)) ∙ sym (bits_summary xs bits))
