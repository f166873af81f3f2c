-- "7 is met less often": for one text the width by point code 1 is never smaller than by code 2.
use Rattle.std.specs.Prelude.{List, [], ◌∷◌, ℕ, ◌≤◌}
use Rattle.std.proofs.Common.{arith}
use Rattle.layout.specs.declared.Kind.TheVariants.{Quantity}
use Rattle.widths.specs.rule.Width.{need}
use Rattle.widths.specs.Width.{share_narrower}
use Rattle.survey.specs.rule.Survey.{Amount}
use Rattle.survey.specs.rule.Width.{scaled, widest_amount}

pub block_narrower : (d : ℕ) (l : List Amount)
    → widest_amount (Quantity (record { decimals = d; point = 2 })) l ≤ widest_amount (Quantity (record { decimals = d; point = 1 })) l
unfolding widest_amount need
block_narrower d [] = omega arith
block_narrower d (a ∷ l) = omega (arith, share_narrower d (scaled a), block_narrower d l)
