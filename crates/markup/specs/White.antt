-- What the code keeps while it passes white space.
use Rattle.std.specs.Prelude.{◌≡◌, Bool, false, List, ℕ, ◌≤◌, ◌<◌, length, get_or}
use Rattle.markup.specs.rule.Bytes.{is_white}
use Rattle.markup.specs.rule.Gap.{gap_of}

-- from p on a gap may be read from r on
pub record Whites (d : List ℕ) (p r : ℕ) : Type 0 where
  pub again : (bad : Bool) → gap_of bad d p ≡ gap_of bad d r
  pub on : p ≤ r
  pub within : r ≤ length d

-- all of it was passed
pub record Passed (d : List ℕ) (p r : ℕ) : Type 0 where
  pub whites : Whites d p r
  pub over : r < length d → is_white (get_or d r 0) ≡ false
