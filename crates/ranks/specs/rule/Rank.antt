-- "It is judged once read: the first 2 or 50 met, then 4, 5, 6, 7, 8, 51, 52 by lowest number, equal numbers by place." The faults of a
-- statement in which no 2 or 50 was met. Number 0 is none.
use Rattle.std.specs.Prelude.{◌≡◌, Bool, true, false, cond, ◌&&◌, ◌||◌, List, [], ◌∷◌, ℕ, ltb, eqb}
use Rattle.ranks.specs.declared.Found.{Found}

abbrev pub none_found : Found
none_found = record { number = 0; place = 0 }

-- a fault at a place, where 0 says that there is none
abbrev pub found_at : ℕ → ℕ → Found
found_at number place = cond (eqb place 0) none_found (record { number = number; place = place })

-- one comes before another
unfoldable pub precedes : Found → Found → Bool
precedes b a = ltb b.number a.number || (eqb b.number a.number && ltb b.place a.place)

-- of two the one that counts
unfoldable pub lower_found : Found → Found → Found
lower_found a b = cond (eqb a.number 0) b (cond (eqb b.number 0) a (cond (precedes b a) b a))

-- of all
unfoldable pub lowest_of : List Found → Found
lowest_of [] = none_found
lowest_of (a ∷ s) = lower_found a (lowest_of s)

-- ---- in the paper's words
pub data Among (f : Found) : List Found → Type 0 where
  here : {s : List Found} → Among f (f ∷ s)
  later : {g : Found} {s : List Found} → Among f s → Among f (g ∷ s)

-- it is one of them, and none of them comes before it
pub record Lowest (s : List Found) (f : Found) : Type 0 where
  pub among : Among f s
  pub fault : f.number ≡ 0 → ⊥
  pub least : (g : Found) → Among g s → (g.number ≡ 0 → ⊥) → precedes g f ≡ false
