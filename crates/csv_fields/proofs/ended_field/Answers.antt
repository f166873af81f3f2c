-- `csv_fields::ended_field` meets its contract.
use native.Mathlib.Omega.{arith}
use Rattle.csv_fields.specs.Page.{bare_stands, found_by, ahead_by, cut_from}
use Rattle.csv_fields.proofs.Page.{bare_ends}
use Rattle.csv_fields.proofs.ended_field.Goals as goal

pub returns : goal.returns
returns c =
    let a = c.args in
    let b = c.requires in
    rw c.field_of.ensures (
      found_by (bare_stands b) (bare_ends b) (omega arith) _ c.stop_at.ensures,
      ahead_by _ a.at a.to a.at a.to _ b.on _ c.stop_at.ensures,
      cut_from _ _ _,
    )
