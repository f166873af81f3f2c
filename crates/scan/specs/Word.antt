-- What follows from rule/Word.antt, and what the code keeps.
use Rattle.std.specs.Prelude.{ℕ, ◌+◌, Bool, true, false, cond, List, [], ◌∷◌, leb}
use Rattle.scan.specs.rule.Text.{Text, sign}

-- a capital letter x, in either case
pub data Either (x : ℕ) : ℕ → Type 0 where
  capital : Either x x
  small : Either x (x + 32)

-- a text is the letters of w, each in either case, from `at` on, and n is the place after them
pub data Written : List ℕ → ℕ → Text → ℕ → Type 0 where
  none : {at : ℕ} {t : Text} → Written [] at t at
  one : {at p b x n : ℕ} {w : List ℕ} {t : Text} → Either x b → Written w (p + 1) t n → Written (x ∷ w) at (sign p b t) n

unfoldable pub capitals : List ℕ → Bool
capitals [] = true
capitals (x ∷ w) = cond (leb 65 x) (cond (leb x 90) (capitals w) false) false
