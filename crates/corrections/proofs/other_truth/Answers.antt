-- `corrections::other_truth` meets its contract: there is no such row, or its kind decides.
use mathlib.Core.Path.{◌∙◌}
use mathlib.Core.List.{[]}
use Rattle.writes.proofs.Whole.{row_stands}
use Rattle.corrections.specs.Truth.{bad_row, bad_kind}
use Rattle.corrections.specs.Correction.{admitted}
use Rattle.corrections.proofs.other_truth.Goals as goal

pub returns-then-h-i : goal.returns-then-h-i
returns-then-h-i c = bad_row _ _ _ (admitted c.requires).formed _ c.read-h.ensures c.if-h-i.true

pub read-row-requires : goal.read-row-requires
read-row-requires c = row_stands _ _ [] (admitted c.requires).formed _ c.read-h.ensures
    c.if-h-i.false

pub returns : goal.returns
returns c =
    let a = admitted c.requires in
    c.kind_number.ensures
    ∙ bad_kind _ _ _ a.formed _ c.read-h.ensures c.if-h-i.false
    (rw c.read-h.ensures a.long) _ c.read-row.ensures
