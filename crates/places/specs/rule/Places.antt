-- Value places: reading bytes at a list of places, writing bytes at a list of places; places apart.
-- Assumes nothing.
use Rattle.std.specs.Prelude.{ℕ, zero, suc, List, [], ◌∷◌, ◌≡◌, get_or, set}

-- the bytes of r at the places ps, in their order
abbrev pub pick : List ℕ → List ℕ → List ℕ
pick r [] = []
pick r (p ∷ ps) = get_or r p 0 ∷ pick r ps

-- r with the bytes vs put at the places ps, in their order
abbrev pub put : List ℕ → List ℕ → List ℕ → List ℕ
put r [] vs = r
put r (p ∷ ps) [] = r
put r (p ∷ ps) (v ∷ vs) = put (set r p v) ps vs

-- the n places from a on
abbrev pub run : ℕ → ℕ → List ℕ
run a zero = []
run a (suc n) = a ∷ run (suc a) n

-- q is none of ps
abbrev pub Out : ℕ → List ℕ → Type 0
Out q [] = Unit
Out q (p ∷ ps) = (q ≡ p → ⊥) × Out q ps

-- no place of ps is one of qs
abbrev pub Apart : List ℕ → List ℕ → Type 0
Apart [] qs = Unit
Apart (p ∷ ps) qs = Out p qs × Apart ps qs
