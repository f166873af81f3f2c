-- `import_lines::build_field` meets its contract.
use Prim.Native.Nat.{◌<◌}
use native.Mathlib.Omega.{arith}
use borrow.Author.Tests.{eqb-true}
use Rattle.writes.specs.Write.{ready}
use Rattle.import_lines.specs.Build.{field_none, field_some}
use Rattle.import_lines.proofs.build_field.Goals as goal
use Rattle.import_lines.proofs.build_field.Goals.{Else-rows-j}

-- field j has a row
some : (c : Else-rows-j) → c.args.j < c.args.rows
some c = omega (arith, c.if-rows-j.false)

pub returns-then-bad-ne0 : goal.returns-then-bad-ne0
returns-then-bad-ne0 c = field_none _ _ _ _ _ _ _

pub returns-then-rows-j : goal.returns-then-rows-j
returns-then-rows-j c = field_none _ _ _ _ _ _ _

pub read-requires : goal.read-requires
read-requires c =
    let p = c.requires.table_known.0 in
    let f = p.few in
    let s = p.stand in
    (omega (arith, some (goal.at.read-requires c).Else-rows-j), omega (arith, some (goal.at.read-requires c).Else-rows-j))

pub build_missing-requires : goal.build_missing-requires
build_missing-requires c =
    let p = c.requires.table_known in (
      rw c.read.ensures (ready _ (p.0.row _ (some (goal.at.build_missing-requires c).Else-rows-j)) p.1),
      c.stops.ensures c.if-stops.true,
    )

pub returns-then-stops : goal.returns-then-stops
returns-then-stops c = field_some c.if-bad-ne0.false
    (some (goal.at.returns-then-stops c).Else-rows-j) c.read.ensures
    c.build_missing.ensures

pub read-requires-2 : goal.read-requires-2
read-requires-2 c =
    let p = c.requires.table_known.0 in
    let f = p.few in
    let s = p.stand in
    (omega (arith, some (goal.at.read-requires-2 c).Else-rows-j), omega (arith, some (goal.at.read-requires-2 c).Else-rows-j))

pub bounds-full-j : goal.bounds-full-j
bounds-full-j c = omega (
  arith,
  some (goal.at.bounds-full-j c).Else-rows-j,
  c.requires.table_known.3.long,
)

pub build_at-requires : goal.build_at-requires
build_at-requires c =
    let p = c.requires.table_known in record {
      tens = c.requires.tens;
      ready = rw c.read-2.ensures (ready _ (p.0.row _ (some (goal.at.build_at-requires c).Else-rows-j)) p.1);
      each_legal = (
        λ e. rw c.read-2.ensures (p.3.each c.args.j (some (goal.at.build_at-requires c).Else-rows-j) (eqb-true _ _ e)),
        p.2,
        c.requires.list_len,
      );
    }

pub returns : goal.returns
returns c = field_some c.if-bad-ne0.false
    (some (goal.at.returns c).Else-rows-j)
    c.read-2.ensures c.build_at.ensures
