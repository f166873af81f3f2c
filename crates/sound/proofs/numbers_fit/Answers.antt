use mathlib.Core.Path.{◌≡◌, sym, ◌∙◌}
use mir.Facts.{to_z-of_z}
use mir.Syntax.{w64}
use mir.Val.{to_z, of_z}
use borrow.Author.Rules.{rules}
use Rattle.below.specs.Below.{and_no, and_yes}
use Rattle.sound.specs.Values.{numbers_within}
use Rattle.sound.proofs.numbers_fit.Goals as goal
use Rattle.sound.proofs.numbers_fit.Goals.{After-struct_told-2-1}

least_back : (c : After-struct_told-2-1) → to_z w64 (of_z w64 c.args.h.least) ≡ c.args.h.least
least_back c = search rules

most_back : (c : After-struct_told-2-1) → to_z w64 (of_z w64 c.args.h.most) ≡ c.args.h.most
most_back c = search rules

pub returns-then-not-range_fits : goal.returns-then-not-range_fits
unfolding numbers_within
returns-then-not-range_fits c =
    sym (and_no _ _ (rw (to_z-of_z c.ranges.low, to_z-of_z c.ranges.high) at
    (sym c.range_fits.ensures ∙ c.if-not-range_fits.true)))

pub returns : goal.returns
unfolding numbers_within
returns c =
    rw (
      to_z-of_z c.ranges.low,
      to_z-of_z c.ranges.high,
      least_back (goal.at.returns c).After-struct_told-2-1,
      most_back (goal.at.returns c).After-struct_told-2-1,
    )
    (sym (and_yes _ _ (rw (to_z-of_z c.ranges.low, to_z-of_z c.ranges.high)
    at (sym c.range_fits.ensures ∙ c.if-not-range_fits.false))))
