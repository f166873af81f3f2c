-- "A column summary holds the count present, then the smallest and largest present value as floats, both zero when there is none."
use Rattle.std.specs.Prelude.{◌+◌, false, cond, List, [], ◌∷◌, pos, eqb, Float}
use Rattle.std.specs.Float.{fin}
use Rattle.std.specs.Float.Ieee.{lt}
use Rattle.summary.specs.declared.Summary.{Summary}

-- the float zero, with no minus
abbrev pub nought : Float
nought = fin false 0 (pos 0)

unfoldable pub none_summed : Summary
none_summed = record { count = 0; least = nought; most = nought }

unfoldable pub lower_of : Float → Float → Float
lower_of a x = cond (lt x a) x a

unfoldable pub higher_of : Float → Float → Float
higher_of a x = cond (lt a x) x a

-- one value more: the first is both the smallest and the largest
unfoldable pub extend_of : Summary → Float → Summary
extend_of s x =
    cond (eqb s.count 0) (record { count = 1; least = x; most = x })
    (record { count = s.count + 1; least = lower_of s.least x; most = higher_of s.most x })

unfoldable pub extended_by : Summary → List Float → Summary
extended_by s [] = s
extended_by s (x ∷ xs) = extended_by (extend_of s x) xs

-- THE SUMMARY of the values present
unfoldable pub summary_of : List Float → Summary
summary_of xs = extended_by none_summed xs
