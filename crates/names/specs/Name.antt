-- With STANDARD NAMES each decoded name has 1 to 8 letters or digits and begins with a letter. Its number has its bytes, in capitals,
-- as digits to the base 256; it is 0 where the name is ill-formed, as one with a break is.
use Rattle.std.specs.Prelude.{ℕ, ◌+◌, ◌*◌, Bool, cond, ◌&&◌, ◌||◌, List, [], ◌∷◌, eqb, ltb}
use Rattle.signs.specs.declared.Sign.{Sign}
use Rattle.signs.specs.declared.Sign.TheVariants.{Byte, Break}
use Rattle.ascii.specs.rule.Class.{class_of, upper_of}

-- a byte b behind c others: a letter (class 3), or not first a digit (class 2)
unfoldable pub fits : ℕ → ℕ → Bool
fits c b = eqb (class_of b) 3 || (ltb 0 c && eqb (class_of b) 2)

-- the number of a name, of which c signs were read, which said k
unfoldable pub key_of : ℕ → ℕ → List Sign → ℕ
key_of c k [] = k
key_of c k (Byte b ∷ s) = cond (fits c b) (cond (ltb c 8) (key_of (c + 1) (k * 256 + upper_of b) s) 0) 0
key_of c k (Break ∷ s) = 0
