-- "Every byte is judged by its class; one table of 256 classes serves every scanner." Scanners of words, numbers and gaps read the table.
-- Where a scanner compares a byte itself (strings, comments, digits side by side, quick passes over plain stretches), these laws say which
-- class it asks for: the table and the comparison tell the same bytes.
use Rattle.std.specs.Prelude.{ℕ, ◌<◌, ◌≡◌, refl, Bool, true, false, not, ◌&&◌, ◌||◌, eqb, ltb}
use Rattle.below.specs.rule.Below.{all_below}
use Rattle.below.specs.Below.{all_at_lem}
use Rattle.ascii.specs.rule.Class.{class_of}

-- both or neither
agree : Bool → Bool → Bool
agree true b = b
agree false b = not b

agree_same : (a b : Bool) → agree a b ≡ true → a ≡ b
unfolding agree
agree_same true true e = refl
agree_same true false e = cc
agree_same false true e = cc
agree_same false false e = refl

-- a class is told by a test of the byte, for all 256 bytes
agrees : ℕ → (ℕ → Bool) → ℕ → Bool
agrees k f b = agree (eqb (class_of b) k) (f b)

tells : (k : ℕ) (f : ℕ → Bool) → all_below 256 (agrees k f) ≡ true → (b : ℕ) → b < 256 → eqb (class_of b) k ≡ f b
unfolding agrees
tells k f e b h = agree_same (eqb (class_of b) k) (f b) (all_at_lem (agrees k f) 256 b h e)

pub dropped_is : (b : ℕ) → b < 256 → eqb (class_of b) 0 ≡ ltb b 32
unfolding agree agrees class_of all_below
dropped_is = tells 0 (λ b. ltb b 32) refl

pub space_is : (b : ℕ) → b < 256 → eqb (class_of b) 1 ≡ eqb b 32
unfolding agree agrees class_of all_below
space_is = tells 1 (λ b. eqb b 32) refl

pub digit_is : (b : ℕ) → b < 256 → eqb (class_of b) 2 ≡ (ltb 47 b && ltb b 58)
unfolding agree agrees class_of all_below
digit_is = tells 2 (λ b. ltb 47 b && ltb b 58) refl

pub quote_is : (b : ℕ) → b < 256 → eqb (class_of b) 4 ≡ eqb b 34
unfolding agree agrees class_of all_below
quote_is = tells 4 (λ b. eqb b 34) refl

-- of the braces the open one begins a form; of the angles the first opens a comment and the second closes it
pub brace_is : (b : ℕ) → b < 256 → eqb (class_of b) 5 ≡ (eqb b 123 || eqb b 125)
unfolding agree agrees class_of all_below
brace_is = tells 5 (λ b. eqb b 123 || eqb b 125) refl

pub angle_is : (b : ℕ) → b < 256 → eqb (class_of b) 6 ≡ (eqb b 60 || eqb b 62)
unfolding agree agrees class_of all_below
angle_is = tells 6 (λ b. eqb b 60 || eqb b 62) refl
