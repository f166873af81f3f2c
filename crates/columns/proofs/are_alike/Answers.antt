-- `columns::are_alike` meets its contract, test by test.
-- Assumes nothing.
use mathlib.Core.Path.{sym, ◌∙◌}
use native.Mathlib.Omega.{arith}
use Rattle.columns.specs.Stretch.{not_alike, are_alike}
use Rattle.columns.proofs.are_alike.Goals as goal

pub returns-then-wait-gt0 : goal.returns-then-wait-gt0
returns-then-wait-gt0 c = not_alike _ _ _

pub returns-then-allowed-c-lt16 : goal.returns-then-allowed-c-lt16
returns-then-allowed-c-lt16 c = not_alike _ _ _

pub returns-then-mark_among : goal.returns-then-mark_among
returns-then-mark_among c = not_alike _ _ _

pub returns : goal.returns
returns c =
    let a = c.args in
    are_alike a.allowed.now a.present.now a.c c.all_are.result
    (omega (arith, c.if-allowed-c-lt16.false, c.requires.0))
    (sym c.mark_among.ensures ∙ c.if-mark_among.false) c.all_are.ensures
