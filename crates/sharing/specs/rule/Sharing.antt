-- Refusal 90: "two rows share a value place".
use Rattle.std.specs.Prelude.{Bool, true, not, ◌&&◌, List, [], ◌∷◌, ℕ, eqb, ℤ}
use Rattle.below.specs.rule.Below.{all_below}
use Rattle.layout.specs.rule.Row.{row_at}
use Rattle.fields.specs.rule.Row.{places_of}

-- q is none of the places ps
unfoldable pub is_out : ℕ → List ℕ → Bool
is_out q [] = true
is_out q (p ∷ ps) = not (eqb q p) && is_out q ps

-- no place of ps is one of qs
unfoldable pub are_apart : List ℕ → List ℕ → Bool
are_apart [] qs = true
are_apart (p ∷ ps) qs = is_out p qs && are_apart ps qs

-- the value places of row i
abbrev pub places_at : List ℤ → ℕ → ℕ → List ℕ
places_at t v i = places_of t v (row_at t i)

-- no two of a table's v rows share a value place
unfoldable pub shares_none : List ℤ → ℕ → Bool
shares_none t v = all_below v (λ j. all_below j (λ i. are_apart (places_at t v i) (places_at t v j)))
