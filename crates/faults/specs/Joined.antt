-- Of two faults the first that is one, and spaces byte by byte: what loops over a row keep. `numeral_fault` is the code's own case: a
-- number's bytes by what they say, where zero is no number (SINGLE, a subfield) and where it is one (QUANTITY).
use Rattle.std.specs.Prelude.{◌≡◌, refl, Bool, true, false, ◌&&◌, List, [], ◌∷◌, ◌++◌, ℕ, ◌≤◌, eqb, ℤ}
use Rattle.std.proofs.Common.{sym, arith}
use Rattle.std.proofs.Math.Bool.{and_assoc}
use Rattle.below.specs.Below.{holds_not}
use Rattle.fields.specs.rule.Number.{Said, all_spaces}
use Rattle.faults.specs.declared.Fault.{Fault}
use Rattle.faults.specs.declared.Fault.TheVariants.{Sound, Stray, NotLegal, Point}
use Rattle.faults.specs.rule.Fault.{fault_number, or_else, value_fault, usable}

unfoldable pub some_fault : Fault → Bool
some_fault Sound = false
some_fault (Stray p) = true
some_fault (NotLegal z) = true
some_fault (Point p) = true

-- a number of three digits
pub number_few : (x : Fault) → fault_number x ≤ 243
unfolding fault_number
number_few Sound = omega arith
number_few (Stray p) = omega arith
number_few (NotLegal z) = omega arith
number_few (Point p) = omega arith

unfoldable pub numeral_fault : Bool → (ℤ → Bool) → Said → Fault
numeral_fault true ok s = value_fault (usable ok) s
numeral_fault false ok s = value_fault ok s

-- ---- the first of two
pub none_fault : some_fault Sound ≡ false
unfolding some_fault
none_fault = refl

pub sound_is : (a : Fault) → some_fault a ≡ false → a ≡ Sound
unfolding some_fault
sound_is Sound e = refl
sound_is (Stray p) e = holds_not refl e
sound_is (NotLegal z) e = holds_not refl e
sound_is (Point p) e = holds_not refl e

pub else_sound : (a b : Fault) → some_fault a ≡ false → or_else a b ≡ b
unfolding or_else
else_sound a b e = rw (sound_is a e)

pub else_fault : (a b : Fault) → some_fault a ≡ true → or_else a b ≡ a
unfolding some_fault or_else
else_fault Sound b e = holds_not e refl
else_fault (Stray p) b e = refl
else_fault (NotLegal z) b e = refl
else_fault (Point p) b e = refl

-- ---- spaces
pub spaces_more : (x : List ℕ) (b : ℕ) → all_spaces (x ++ (b ∷ [])) ≡ (all_spaces x && eqb b 32)
unfolding all_spaces
spaces_more [] b = go (eqb b 32)
  where
    go : (c : Bool) → (c && true) ≡ c
    go true = refl
    go false = refl
spaces_more (a ∷ x) b = rw (spaces_more x b) (sym (and_assoc (eqb a 32) (all_spaces x) (eqb b 32)))
