use native.Mathlib.Omega.{arith}
use Rattle.contents.proofs.Walking.{walks_none, walks_passes, passes_return}
use Rattle.contents.proofs.pass_one.Goals as goal

pub returns-then-d-at : goal.returns-then-d-at
returns-then-d-at c = walks_none _ _ _ _ (omega arith)

pub pass_open-requires : goal.pass_open-requires
pass_open-requires c = (c.if-d-at.false, c.if-b-eq60.true)

pub returns-then-b-eq60 : goal.returns-then-b-eq60
returns-then-b-eq60 c = c.pass_open.ensures

pub pass_reference-requires : goal.pass_reference-requires
pass_reference-requires c = (c.if-d-at.false, c.if-b-eq38.true)

pub returns-then-b-eq38 : goal.returns-then-b-eq38
returns-then-b-eq38 c = walks_passes _ _ _ _ c.pass_reference.ensures

pub returns-then-b-eq13 : goal.returns-then-b-eq13
returns-then-b-eq13 c = walks_passes _ _ _ _ (passes_return _ _ c.if-d-at.false c.if-b-eq13.true)

pub returns : goal.returns
returns c = walks_passes _ _ _ _ c.pass_plain.ensures
