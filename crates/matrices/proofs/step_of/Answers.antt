-- `matrices::step_of` meets its contract: by the first record, which all others are as long as.
-- Assumes nothing.
use mathlib.Core.Path.{sym, ◌∙◌}
use Rattle.matrices.specs.Even.{first_ended, first_unended, first_nothing}
use Rattle.matrices.proofs.step_of.Goals as goal

pub returns-in-Ended : goal.returns-in-Ended
returns-in-Ended c =
    let found = c.find_terminator-w.ensures in
    first_ended c.args.d.now found.is found.few c.requires
    (sym c.next_from.ensures ∙ c.in-Ended.is)

pub returns-in-Unended : goal.returns-in-Unended
returns-in-Unended c =
    first_unended c.args.d.now c.find_terminator-w.ensures.is
    (sym c.next_from.ensures ∙ c.in-Unended.is)

pub returns-in-Nothing : goal.returns-in-Nothing
returns-in-Nothing c =
    first_nothing c.args.d.now c.find_terminator-w.ensures.is
    (sym c.next_from.ensures ∙ c.in-Nothing.is)

pub next_from-requires : goal.next_from-requires
next_from-requires c = c.find_terminator-w.ensures.few
