-- What the code keeps while it goes by sixteen bytes at once.
use Rattle.std.specs.Prelude.{◌≡◌, Bool, List, ℕ, ◌+◌, ◌≤◌, length, drop, get_or}
use Rattle.below.specs.rule.Below.{all_below}
use Rattle.utf.specs.rule.Cut.{plain_of, character_width, first_bad}

-- the n bytes from i on are characters of their own
unfoldable pub all_plain : Bool → List ℕ → ℕ → ℕ → Bool
all_plain l d i n = all_below n (λ k. plain_of l (get_or d (i + k) 0))

-- from i on r may be gone on from: whole characters lie between, and some do unless none stands at i
pub record Stride (l : Bool) (d : List ℕ) (i r : ℕ) : Type 0 where
  pub again : first_bad l d i ≡ first_bad l d r
  pub on : i ≤ r
  pub within : r ≤ length d
  pub over : r ≡ i → character_width l (drop i d) ≡ 0
