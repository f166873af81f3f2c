-- `sharing::claim_bits` meets its contract: the places of the range and those of the lines are the bitstring's.
use mathlib.Core.Path.{◌∙◌}
use Rattle.sharing.specs.Claims.{claim_same}
use Rattle.sharing.proofs.Steps.{after, refused}
use Rattle.sharing.specs.Known.{bits_same}
use Rattle.sharing.proofs.claim_bits.Goals as goal

pub returns-then-not-claim_range : goal.returns-then-not-claim_range
returns-then-not-claim_range c = claim_same (bits_same c.requires)
    (refused _ c.claim_range.ensures c.if-not-claim_range.true)

pub returns : goal.returns
returns c =
    claim_same (bits_same c.requires) (after c.claim_range.ensures
    c.if-not-claim_range.false c.claim_lines.ensures)

pub claim_range-requires : goal.claim_range-requires
claim_range-requires c = c.requires

pub shape_of-stamps-then-not-claim_range : goal.shape_of-stamps-then-not-claim_range
shape_of-stamps-then-not-claim_range c = c.claim_range.auto.stamps

pub claim_lines-requires : goal.claim_lines-requires
claim_lines-requires c = rw c.claim_range.auto.stamps
    c.requires

pub shape_of-stamps : goal.shape_of-stamps
shape_of-stamps c = c.claim_lines.auto.stamps
    ∙ c.claim_range.auto.stamps
