use native.Mathlib.Omega.{arith}
use Rattle.listing.specs.RowLaws.{row_stands}
use Rattle.value_fields.specs.Legal.{full_next, row_fits, row_lined}
use Rattle.value_fields.proofs.mark_full.Goals as goal

pub loop-i-init : goal.loop-i-init
loop-i-init c = λ i h e. absurd (omega arith)

pub read-row-requires : goal.read-row-requires
read-row-requires c = row_stands c.requires c.loop-i-test.true

pub each_legal-requires : goal.each_legal-requires
each_legal-requires c = row_lined c.requires c.loop-i-test.true c.read-row.ensures

pub bounds-full-i : goal.bounds-full-i
bounds-full-i c = row_fits c.requires c.loop-i-test.true

pub loop-i-preserved : goal.loop-i-preserved
loop-i-preserved c =
    let l = c.loop-i in
    let a = c.args in
    rw c.bit_of.ensures (full_next a.t.now a.h.rows l.full l.i _ l.invariant (rw c.read-row.ensures at c.each_legal.ensures))

pub returns : goal.returns
returns c = let l = c.loop-i in λ i h e. l.invariant i (omega arith) e
