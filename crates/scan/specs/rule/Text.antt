-- A definition as its reader has it: the bytes of 32 and above, each with its place in the file, and the place of the end.
use Rattle.std.specs.Prelude.{ℕ, ◌+◌, cond, List, [], ◌∷◌, drop, eqb}
use Rattle.ascii.specs.rule.Class.{class_of}

pub data Text : Type 0 where
  stop : ℕ → Text
  sign : ℕ → ℕ → Text → Text

-- the bytes of a list that starts at place p
unfoldable pub kept : ℕ → List ℕ → Text
kept p [] = stop p
kept p (b ∷ s) = let rest = kept (p + 1) s in cond (eqb (class_of b) 0) rest (sign p b rest)

-- what is left to read of the file d from a place on
unfoldable pub text : List ℕ → ℕ → Text
text d at = kept at (drop at d)

-- the place of the first byte that is left, or of the end
unfoldable pub place_of : Text → ℕ
place_of (stop p) = p
place_of (sign p b t) = p
