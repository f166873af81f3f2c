use mathlib.Core.Path.{refl}
use Rattle.sink.specs.Sent.{all_owed, less_owed, none_owed}
use Rattle.commas.specs.Csv.{next_doubled, over_doubled}
use Rattle.commas.proofs.send_inside.Goals as goal

pub loop-b-init : goal.loop-b-init
loop-b-init c = all_owed _ _ _ refl

pub loop-b-preserved : goal.loop-b-preserved
loop-b-preserved c = less_owed c.loop-b.invariant
    (next_doubled _ _ c.loop-b-test.true) c.send_doubled-end.ensures

pub returns : goal.returns
returns c = none_owed c.loop-b.invariant (over_doubled _ _ c.loop-b-test.false)
