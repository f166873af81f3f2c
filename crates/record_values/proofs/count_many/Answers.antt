-- `record_values::count_many` meets its contract: no set has more members than there are categories.
use mathlib.Core.Path.{◌∙◌}
use native.Mathlib.Omega.{arith}
use Rattle.record_values.specs.Members.{row_many}
use Rattle.record_values.specs.Room.{read_members}
use Rattle.record_values.proofs.count_many.Goals as goal

pub returns : goal.returns
returns c =
    let a = c.args in
    let m = row_many a.t.now a.rows a.row a.bytes.now c.requires in
    c.members_in.ensures ∙ read_members c.read_row.ensures (omega arith)
