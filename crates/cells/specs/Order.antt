-- The order of signed numbers, as a test.
use Rattle.std.specs.Prelude.{◌≡◌, refl, true, false, ℤ, pos, negsuc}
use Rattle.std.proofs.Common.{arith, leb-true, leb-false, le-leb}
use Rattle.std.specs.Int.Signed.{le_z}
use Rattle.below.specs.Below.{holds_not}

pub le_self : (a : ℤ) → le_z a a ≡ true
le_self (pos a) = le-leb a a (omega arith)
le_self (negsuc a) = le-leb a a (omega arith)

pub le_join : (a b c : ℤ) → le_z a b ≡ true → le_z b c ≡ true → le_z a c ≡ true
le_join (pos a) (pos b) (pos c) h g = le-leb a c (omega (arith, leb-true a b h, leb-true b c g))
le_join (pos a) (pos b) (negsuc c) h g = g
le_join (pos a) (negsuc b) c h g = holds_not h refl
le_join (negsuc a) (pos b) (pos c) h g = refl
le_join (negsuc a) (pos b) (negsuc c) h g = holds_not g refl
le_join (negsuc a) (negsuc b) (pos c) h g = refl
le_join (negsuc a) (negsuc b) (negsuc c) h g = le-leb c a (omega (arith, leb-true b a h, leb-true c b g))

-- what is not at most b lies above it
pub le_else : (a b : ℤ) → le_z a b ≡ false → le_z b a ≡ true
le_else (pos a) (pos b) h = le-leb b a (omega (arith, leb-false a b h))
le_else (pos a) (negsuc b) h = refl
le_else (negsuc a) (pos b) h = holds_not refl h
le_else (negsuc a) (negsuc b) h = le-leb a b (omega (arith, leb-false b a h))
