use mathlib.Core.Path.{sym, ◌∙◌}
use lib.ListN.{length}
use Rattle.values.proofs.Rooms.{unless_told}
use Rattle.kinds.specs.rule.Definition.{answer_of, table_after}
use Rattle.kinds.proofs.Rooms.{never, zero_answer, few_keeps, long_refused}
use Rattle.kinds.proofs.read_definition.Goals as goal

pub returns-then-d-gt1048576 : goal.returns-then-d-gt1048576
unfolding answer_of table_after
returns-then-d-gt1048576 c =
    let a = c.args in
    let e = long_refused a.d.now (length a.table.now) c.if-d-gt1048576.true in
    record { says = rw e; leaves = rw e }

pub read_short-requires : goal.read_short-requires
read_short-requires c = (c.if-d-gt1048576.false, c.is_xml-xml.ensures)

pub read_any-requires : goal.read_any-requires
read_any-requires c = (
  c.if-d-gt1048576.false,
  c.is_xml-xml.ensures,
)

-- read again, into the table that was kept
pub returns-then-number-eq0 : goal.returns-then-number-eq0
returns-then-number-eq0 c = rw (few_keeps c.read_short.ensures
    c.in-Refused.is) at c.read_any.ensures

pub returns-in-Read : goal.returns-in-Read
returns-in-Read c =
    let g = c.in-Read.is in
    rw g at (unless_told c.read_short.ensures (λ s. let q = sym s.0 ∙ g in never cc))

pub returns-else-number-eq0 : goal.returns-else-number-eq0
returns-else-number-eq0 c =
    let g = c.in-Refused.is in
    rw g at (unless_told c.read_short.ensures
    (λ s. c.if-number-eq0.false (zero_answer (sym s.0 ∙ g))))
