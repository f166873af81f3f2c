-- `record_values::count_row` meets its contract: none are possible, few are, or many.
use mathlib.Core.Path.{◌∙◌}
use native.Mathlib.Omega.{arith}
use Rattle.record_values.specs.Members.{row_most}
use Rattle.record_values.specs.Room.{read_members}
use Rattle.record_values.proofs.count_row.Goals as goal

pub returns-then-most-eq0 : goal.returns-then-most-eq0
returns-then-most-eq0 c =
    let a = c.args in
    let m = row_most a.t.now a.rows a.row a.bytes.now in
    let e = c.most_of-most.ensures in
    let z = c.if-most-eq0.true in
    omega arith

pub returns-then-most-le64 : goal.returns-then-most-le64
returns-then-most-le64 c =
    let a = c.args in
    let m = row_most a.t.now a.rows a.row a.bytes.now in
    let e = c.most_of-most.ensures in
    let z = c.if-most-le64.true in
    c.members_in.ensures ∙ read_members c.read_row.ensures (omega arith)
