-- What a column's summary is, said of the values present: "the count present, then the smallest and largest present value as floats, both
-- zero when there is none".
use Rattle.std.specs.Prelude.{◌≡◌, false, List, [], ◌∷◌, ◌⊎◌, length, Float}
use Rattle.std.specs.Float.Ieee.{lt}
use Rattle.summary.specs.declared.Summary.{Summary}
use Rattle.summary.specs.rule.Summary.{none_summed}

-- x is one of these
unfoldable pub Present : Float → List Float → Type 0
Present x [] = ⊥
Present x (y ∷ ys) = (x ≡ y) ⊎ Present x ys

-- both are present, and none is below the one or above the other
pub record Extremes (xs : List Float) (s : Summary) : Type 0 where
  pub smallest : Present s.least xs
  pub none_below : (x : Float) → Present x xs → lt x s.least ≡ false
  pub largest : Present s.most xs
  pub none_above : (x : Float) → Present x xs → lt s.most x ≡ false

unfoldable pub Summarises : List Float → Summary → Type 0
Summarises [] s = s ≡ none_summed
Summarises (x ∷ xs) s = (s.count ≡ length (x ∷ xs)) × Extremes (x ∷ xs) s
