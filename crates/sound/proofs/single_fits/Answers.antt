use mathlib.Core.Path.{sym, ◌∙◌}
use Rattle.below.specs.rule.Below.{◌and◌}
use Rattle.below.specs.Below.{and_no, and_yes}
use Rattle.layout.specs.rule.Row.{row_of}
use Rattle.widths.specs.rule.Width.{need, lowest, highest}
use Rattle.sound.specs.rule.Sound.{width_good, room_good}
use Rattle.sound.specs.Values.{valued_by, ends_width}
use Rattle.sound.proofs.single_fits.Goals as goal

pub returns-then-not-numbers_fit : goal.returns-then-not-numbers_fit
unfolding valued_by lowest highest
returns-then-not-numbers_fit c = sym (and_no _ _ (sym c.numbers_fit.ensures ∙ c.if-not-numbers_fit.true))

pub returns : goal.returns
unfolding valued_by lowest highest width_good room_good ends_width need row_of ◌and◌
returns c = rw (c.width_held.ensures, c.top_digits.ensures)
    (sym (and_yes _ _ (sym c.numbers_fit.ensures ∙ c.if-not-numbers_fit.false)))
