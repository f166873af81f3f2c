use native.Mathlib.Omega.{arith}
use borrow.Author.Count.{below_more}
use Rattle.readings.specs.Many.{bytes_of}
use Rattle.records.proofs.Laws.{all_legal}
use Rattle.records.proofs.batch_sound.Goals as goal

pub loop-i-preserved : goal.loop-i-preserved
loop-i-preserved c = below_more _ _ c.loop-i.invariant (c.row_legal.ensures c.if-not-row_legal.false)

pub returns : goal.returns
returns c e k l =
    let a = c.args in
    all_legal a.t.now a.rows (bytes_of a.d.now a.batch k) (c.requires.standing.1 k l)
    (λ i h. c.loop-i.invariant i (omega (arith, c.loop-i-test.false)) k l)
