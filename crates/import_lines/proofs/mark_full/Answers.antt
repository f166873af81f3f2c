use native.Mathlib.Omega.{arith}
use Rattle.import_lines.specs.Build.{full_none, full_more, full_rows}
use Rattle.import_lines.proofs.mark_full.Goals as goal

pub loop-j-init : goal.loop-j-init
loop-j-init c = full_none _ _ _

pub read-requires : goal.read-requires
read-requires c =
    let f = c.requires.0.few in
    let s = c.requires.0.stand in
    (omega (arith, c.loop-j-test.true), omega (arith, c.loop-j-test.true))

pub full_row-requires : goal.full_row-requires
full_row-requires c = rw c.read.ensures (c.requires.0.row _ c.loop-j-test.true).lines

pub bounds-full-j : goal.bounds-full-j
bounds-full-j c = omega (arith, c.requires.0.few)

pub loop-j-preserved : goal.loop-j-preserved
loop-j-preserved c =
    full_more c.full_row.result c.loop-j.invariant (omega (arith, c.requires.0.few)) c.read.ensures c.full_row.ensures

pub returns : goal.returns
returns c = full_rows c.loop-j.invariant (omega arith) (omega (arith, c.requires.0.few))
