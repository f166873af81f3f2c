use mathlib.Core.Path.{◌≡◌, ap₂, ◌∙◌}
use mathlib.Core.Bool.{cond}
use lib.IntN.{ℤ}
use lib.Signed.{le_z}
use mir.Facts.{to_z-of_z}
use mir.Syntax.{w64}
use mir.Val.{to_z, of_z}
use borrow.Author.Rules.{rules, sfits_of}
use Rattle.strides.specs.Hull.{hull_with}
use Rattle.strides.proofs.hull_with.Goals as goal
use Rattle.strides.proofs.hull_with.Goals.{After-greater, After-lesser, After-struct_told-2-1}

-- a number read back from its bits is as it was
least_back : (c : After-struct_told-2-1) → to_z w64 (of_z w64 c.args.h.least) ≡ c.args.h.least
least_back c = search rules

most_back : (c : After-struct_told-2-1) → to_z w64 (of_z w64 c.args.h.most) ≡ c.args.h.most
most_back c = search rules

lesser_is : (c : After-lesser) → c.lesser.result
    ≡ cond (le_z c.args.h.least c.args.z)
    c.args.h.least c.args.z
lesser_is c = c.lesser.ensures ∙ ap₂ (λ (a b : ℤ). cond (le_z a b) a b) (least_back c.before)
    (to_z-of_z c.ranges.z)

greater_is : (c : After-greater) → c.greater.result
    ≡ cond (le_z c.args.z c.args.h.most)
    c.args.h.most c.args.z
greater_is c = c.greater.ensures ∙ ap₂ (λ (a b : ℤ). cond (le_z a b) b a) (to_z-of_z c.ranges.z)
    (most_back c.before.before)

pub returns : goal.returns
unfolding hull_with
returns c = rw (to_z-of_z (sfits_of c.lesser.type_inv), to_z-of_z (sfits_of c.greater.type_inv), lesser_is c.before, greater_is c)
