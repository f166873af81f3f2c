-- A data file is cut at each whole terminator, and only there: no record holds one, the records laid end to end with their terminators
-- are the file again (`laid_again` of crate `cuts`), and no other records have both.
use Rattle.std.specs.Prelude.{◌≡◌, false, List, ◌∷◌, ℕ, ◌≤◌, drop}
use Rattle.cuts.specs.declared.Terminator.{Terminator}
use Rattle.cuts.specs.rule.Cut.{begins_at}
use Rattle.cuts.specs.rule.Records.{Records, over, unended, record_and}

-- ---- the words
-- no place of s begins with the whole terminator
pub record NoneInside (w : Terminator) (s : List ℕ) : Type 0 where
  pub nowhere : (p : ℕ) → begins_at w (drop p s) ≡ false

-- no record holds a whole terminator; only one that there is ends a record; and a last record without one is not empty
pub data Clean (w : Terminator) : Records → Type 0 where
  none_left : Clean w over
  last : {b : ℕ} {r : List ℕ} → NoneInside w (b ∷ r) → Clean w (unended (b ∷ r))
  next : {r : List ℕ} {rs : Records} → 1 ≤ w.size → NoneInside w r → Clean w rs → Clean w (record_and r rs)
