-- "A statement is judged once read ..: 4 to 8 by lowest number, equal numbers by earlier place": of the faults that a statement has, a
-- charge each, the least is named.
use Rattle.std.specs.Prelude.{Bool, true, false, cond, List, [], ◌∷◌, ℕ, eqb, ltb, leb}
use Rattle.tokens.specs.declared.Fault.{Fault}
use Rattle.reading.specs.rule.Result.{Result, Is, Not, Reader}

-- a fault, and when it is named
infix 80 ◌when◌
pub data Charge : Type 0 where
  ◌when◌ : Fault → Bool → Charge

unfoldable pub named : List Charge → List Fault
named [] = []
named (f when q ∷ l) = cond q (f ∷ named l) (named l)

-- f goes first: its number is lower, or equal and its place no later
unfoldable pub goes_before : Fault → Fault → Bool
goes_before f g = cond (ltb f.number g.number) true (cond (eqb f.number g.number) (leb f.place g.place) false)

pub data Finding : Type 0 where
  clean : Finding
  first : Fault → Finding

unfoldable pub lower : Fault → Finding → Finding
lower f clean = first f
lower f (first g) = cond (goes_before f g) (first f) (first g)

unfoldable pub least : List Fault → Finding
least [] = clean
least (f ∷ l) = lower f (least l)

-- a thing with nothing at fault, or the least fault
abbrev pub found : {A : Type 0} → A → ℕ → Finding → Result A
found a n clean = Is a n
found a n (first f) = Not f

unfoldable pub judged : {A : Type 0} → List Charge → A → Reader A
judged l a n = found a n (least (named l))
