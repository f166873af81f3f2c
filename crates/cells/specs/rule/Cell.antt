-- One number of a table: where it stands, as a count, as a sign and a size; and numbers over numbers.
use Rattle.std.specs.Prelude.{Bool, true, false, List, ◌++◌, eqb, length, take, drop, get_or, ℕ, suc, ◌+◌, ◌-◌, ℤ, pos, negsuc, neg_ℤ}
use Rattle.cells.specs.declared.Signed.{Signed}

-- the number at i of a table, and 0 past its end
abbrev pub cell : List ℤ → ℕ → ℤ
cell t i = get_or t i (pos 0)

-- a number as a count; a negative one counts as 2 ^ 63 or more (by its bits, which the code reads), so that no limit lets it pass
unfoldable pub count_of : ℤ → ℕ
count_of (pos n) = n
count_of (negsuc n) = 9223372036854775808 + (9223372036854775807 - n)

unfoldable pub signed_of : ℤ → Signed
signed_of (pos n) = record { minus = false; size = n }
signed_of (negsuc n) = record { minus = true; size = suc n }

unfoldable pub number_of : Bool → ℕ → ℤ
number_of false n = pos n
number_of true n = neg_ℤ (pos n)

unfoldable pub eq_z : ℤ → ℤ → Bool
eq_z (pos a) (pos b) = eqb a b
eq_z (pos a) (negsuc b) = false
eq_z (negsuc a) (pos b) = false
eq_z (negsuc a) (negsuc b) = eqb a b

-- the list l with the numbers s in place of those from at on
unfoldable pub pasted : List ℤ → ℕ → List ℤ → List ℤ
pasted l at s = take at l ++ s ++ drop (at + length s) l
