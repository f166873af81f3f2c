-- `sound::quantity_fits` meets its contract: the limits are those of the row's format.
use mathlib.Core.Path.{◌≡◌, sym, ◌∙◌}
use native.Mathlib.Nat.{le_trans}
use native.Mathlib.Omega.{arith}
use borrow.Author.Rules.{sfits_of}
use mir.Facts.{to_z-of_z}
use Rattle.below.specs.rule.Below.{◌and◌}
use Rattle.below.specs.Below.{and_no, and_yes}
use Rattle.cells.specs.rule.Cell.{number_of}
use Rattle.layout.specs.rule.Row.{row_of}
use Rattle.widths.specs.rule.Width.{lowest, highest}
use Rattle.widths.specs.Width.{most_upto}
use Rattle.sound.specs.rule.Sound.{width_good, room_good}
use Rattle.sound.specs.Values.{valued_by, numbers_within, quantity_of}
use Rattle.sound.proofs.quantity_fits.Goals as goal
use Rattle.sound.proofs.quantity_fits.Goals.{After-numbers_fit}

within : (c : After-numbers_fit) → let a = c.args in
    c.numbers_fit.result ≡ numbers_within (row_of a.c) a.h (lowest (quantity_of a.c)) (highest (quantity_of a.c))
unfolding lowest highest number_of
within c =
    c.numbers_fit.ensures
    ∙ rw (
      to_z-of_z (sfits_of c.number_of.type_inv),
      to_z-of_z (sfits_of c.number_of-2.type_inv),
      c.number_of.ensures,
      c.number_of-2.ensures,
      c.most_size-most.ensures,
    )

pub number_of-requires : goal.number_of-requires
number_of-requires c = rw c.most_size-most.ensures (le_trans (most_upto _) (omega arith))

pub number_of-requires-2 : goal.number_of-requires-2
number_of-requires-2 c = rw c.most_size-most.ensures (le_trans (most_upto _) (omega arith))

pub returns-then-not-numbers_fit : goal.returns-then-not-numbers_fit
unfolding valued_by
returns-then-not-numbers_fit c = sym (and_no _ _ (sym (within (goal.at.returns-then-not-numbers_fit c).After-numbers_fit)
    ∙ c.if-not-numbers_fit.true))

pub returns : goal.returns
unfolding valued_by width_good room_good row_of ◌and◌
returns c =
    rw (c.width_held.ensures, c.quantity_ends.ensures)
    (sym (and_yes _ _ (sym (within (goal.at.returns c).After-numbers_fit) ∙ c.if-not-numbers_fit.false)))
