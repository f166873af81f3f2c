-- `number_fields::size_from` meets its contract.
use native.Mathlib.Omega.{arith}
use Rattle.number_fields.specs.Reads.{size_none, size_whole, size_points}
use Rattle.number_fields.proofs.size_from.Goals as goal

pub returns-then-k-eq0 : goal.returns-then-k-eq0
returns-then-k-eq0 c = size_whole c.if-k-eq0.true c.whole_from-a.ensures

pub returns : goal.returns
returns c =
    size_points c.if-k-eq0.false c.whole_from-a.ensures c.if-p-at.false
    (omega (arith, c.if-d-p.false)) c.if-d-p-ne46.false c.digits_from-b.ensures c.if-to-q.false

pub returns-then-d-at : goal.returns-then-d-at
returns-then-d-at c = size_none _ _ _

pub returns-then-p-at : goal.returns-then-p-at
returns-then-p-at c = size_none _ _ _

pub returns-then-d-p : goal.returns-then-d-p
returns-then-d-p c = size_none _ _ _

pub returns-then-d-p-ne46 : goal.returns-then-d-p-ne46
returns-then-d-p-ne46 c = size_none _ _ _

pub returns-then-to-q : goal.returns-then-to-q
returns-then-to-q c = size_none _ _ _
