-- STANDARD NAMES in the paper's words: each decoded name has 1 to 8 letters or digits, begins with a letter, and no two names agree when
-- case is set aside. A break is neither letter nor digit, and agrees with a break alone. The numbers of crate `names` say the same
-- (proofs/Standards.antt).
use Rattle.std.specs.Prelude.{ℕ, zero, suc, ◌+◌, Bool, true, false, cond, not, ◌&&◌, ◌||◌, List, [], ◌∷◌, eqb, leb, length, get_or}
use Rattle.signs.specs.declared.Sign.{Sign}
use Rattle.signs.specs.declared.Sign.TheVariants.{Byte, Break}
use Rattle.ascii.specs.rule.Class.{class_of, upper_of}
use Rattle.scan.specs.rule.Number.{is_digit}
use Rattle.below.specs.rule.Below.{any_below}

-- a letter has class 3; a digit (`is_digit`) has class 2
unfoldable pub is_letter : ℕ → Bool
is_letter b = eqb (class_of b) 3

unfoldable pub letters_or_digits : List Sign → Bool
letters_or_digits [] = true
letters_or_digits (Byte b ∷ s) = (is_letter b || is_digit b) && letters_or_digits s
letters_or_digits (Break ∷ s) = false

unfoldable pub begins_with_letter : List Sign → Bool
begins_with_letter [] = false
begins_with_letter (Byte b ∷ s) = is_letter b
begins_with_letter (Break ∷ s) = false

-- 1 to 8 letters or digits, a letter first
unfoldable pub well_named : List Sign → Bool
well_named s = leb 1 (length s) && (leb (length s) 8 && (letters_or_digits s && begins_with_letter s))

-- the same signs once each byte is put in capitals
abbrev pub same_capital : Sign → Sign → Bool
same_capital (Byte b) (Byte c) = eqb (upper_of b) (upper_of c)
same_capital (Byte b) Break = false
same_capital Break (Byte c) = false
same_capital Break Break = true

unfoldable pub agree : List Sign → List Sign → Bool
agree [] [] = true
agree [] (y ∷ t) = false
agree (x ∷ s) [] = false
agree (x ∷ s) (y ∷ t) = same_capital x y && agree s t

abbrev pub name_at : List (List Sign) → ℕ → List Sign
name_at names i = get_or names i []

-- name j breaks the rule: it is not well named, or agrees with an earlier one
unfoldable pub name_wrong : List (List Sign) → ℕ → Bool
name_wrong names j = not (well_named (name_at names j)) || any_below j (λ i. agree (name_at names i) (name_at names j))

-- the first name from k on, within f steps, that breaks the rule; else k + f
unfoldable pub name_fault_from : List (List Sign) → ℕ → ℕ → ℕ
name_fault_from names zero k = k
name_fault_from names (suc f) k = cond (name_wrong names k) k (name_fault_from names f (k + 1))

-- the first name that breaks the rule; the number of names if none does
unfoldable pub name_fault : List (List Sign) → ℕ
name_fault names = name_fault_from names (length names) 0
