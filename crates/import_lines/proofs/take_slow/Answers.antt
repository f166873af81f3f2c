-- `import_lines::take_slow` meets its contract.
use mathlib.Core.Path.{refl}
use native.Mathlib.Omega.{arith}
use Rattle.writes.specs.Write.{ready}
use Rattle.import_lines.specs.Walk.{step_good, step_wrong, took_row, took_says}
use Rattle.import_lines.proofs.take_slow.Goals as goal

pub read-requires : goal.read-requires
read-requires c =
    let k = c.requires.table_known in
    let f = k.0.few in
    let s = k.0.stand in
    (omega (arith, k.2), omega (arith, k.2))

pub take_raw-requires : goal.take_raw-requires
take_raw-requires c =
    let k = c.requires.table_known in record {
      tens = c.requires.tens;
      ready = rw c.read.ensures (ready _ (k.0.row c.args.j k.2) k.1);
      raw_of = c.requires.raw_of;
      list_len = c.requires.list_len;
    }

pub returns-then-take_raw : goal.returns-then-take_raw
returns-then-take_raw c =
    step_good _ _ _ _ _ _ refl c.requires.table_known.2
    (took_row c.read.ensures (took_says c.if-take_raw.true
    c.take_raw.ensures))

pub returns : goal.returns
returns c =
    step_wrong _ _ _ _ _ _ refl c.requires.table_known.2
    (took_row c.read.ensures (took_says c.if-take_raw.false
    c.take_raw.ensures))

pub overflow_add-result : goal.overflow_add-result
overflow_add-result c = let k = c.requires.table_known in omega (arith, k.0.few, k.2)
