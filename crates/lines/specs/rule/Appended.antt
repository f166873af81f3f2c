-- Text laid into a lent buffer behind what it holds so far.
use Rattle.std.specs.Prelude.{◌≡◌, List, ℕ, ◌+◌, ◌≤◌, length}
use Rattle.places.specs.rule.Places.{put, run}

-- the buffer with the text s from the place at on
unfoldable pub laid_at : List ℕ → ℕ → List ℕ → List ℕ
laid_at out at s = put out (run at (length s)) s

-- THE PROMISE of every call that appends: the text stands behind what was there, and the answer is where it ends
pub record Appended (out : List ℕ) (at : ℕ) (s : List ℕ) (out' : List ℕ) (r : ℕ) : Type 0 where
  pub leaves : out' ≡ laid_at out at s
  pub ends : r ≡ at + length s
  pub inside : r ≤ length out'
