-- `corrections::asked_of` meets its contract, kind by kind.
use mir.Facts.{to_z-of_z}
use borrow.Author.Rules.{sfits_of}
use Rattle.corrections.specs.Correction.{asks_missing, asks_number, asks_truth, asks_other}
use Rattle.corrections.proofs.asked_of.Goals as goal

pub returns-then-kind-eq0 : goal.returns-then-kind-eq0
returns-then-kind-eq0 c = asks_missing _ c.if-kind-eq0.true

pub returns-then-kind-eq1 : goal.returns-then-kind-eq1
returns-then-kind-eq1 c =
    rw (to_z-of_z (sfits_of c.struct_told-1.given.1.0.1)) (asks_number _ c.if-kind-eq0.false c.if-kind-eq1.true)

pub returns-then-kind-eq4 : goal.returns-then-kind-eq4
returns-then-kind-eq4 c =
    asks_truth _ c.if-kind-eq0.false c.if-kind-eq1.false c.if-kind-eq4.true
    (rw (to_z-of_z (sfits_of c.struct_told-1.given.1.0.1)) at c.truth_asked.ensures)

pub returns : goal.returns
returns c = asks_other _ c.if-kind-eq0.false c.if-kind-eq1.false c.if-kind-eq4.false
