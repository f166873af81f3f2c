-- What is asked of the first n numbers of a row of numbers does not turn on any others.
use Rattle.std.specs.Prelude.{◌≡◌, refl, true, ℕ, zero, suc, ◌<◌, ℤ}
use Rattle.std.proofs.Common.{arith}
use Rattle.below.specs.rule.Below.{max_below}
use Rattle.below.specs.Below.{all_of, all_at_lem}
use Rattle.strides.specs.rule.Stride.{unlike, number_new, all_differ}
use Rattle.layout.specs.declared.Kind.{Kind}
use Rattle.widths.specs.rule.Width.{fits_kind}
use Rattle.sound.specs.rule.Sound.{values_fit}

pub max_same : (n : ℕ) (f g : ℕ → ℕ) → ((k : ℕ) → k < n → f k ≡ g k) → max_below n f ≡ max_below n g
unfolding max_below
max_same zero f g same = refl
max_same (suc n) f g same = rw (max_same n f g (λ k h. same k (omega arith)), same n (omega arith))

module _ (f g : ℕ → ℤ) (n : ℕ) (same : (k : ℕ) → k < n → f k ≡ g k) where
  pub fit_same : (k : Kind) → values_fit k g n ≡ true → values_fit k f n ≡ true
  unfolding values_fit
  fit_same k e = all_of (λ j. fits_kind k (f j)) n (λ j h. rw (same j h) (all_at_lem (λ i. fits_kind k (g i)) n j h e))

  pub differ_same : all_differ g n ≡ true → all_differ f n ≡ true
  unfolding all_differ number_new
  differ_same e =
      all_of (number_new f) n
      (λ k h. all_of (unlike f k) k
      (λ j l. rw (same k h, same j (omega arith)) (all_at_lem (unlike g k) k j l (all_at_lem (number_new g) n k h e))))
