use native.Mathlib.Omega.{arith}
use Rattle.mends.specs.Mend.{stored_length, laid_none, laid_more}
use Rattle.mends.proofs.lay_far.Goals as goal

pub loop-j-init : goal.loop-j-init
loop-j-init c = (omega arith, laid_none c.args.d.now c.args.from _ _)

pub loop-j-preserved : goal.loop-j-preserved
loop-j-preserved c =
    let l = c.loop-j in
    let a = c.args in
    (omega arith, laid_more a.d.now a.from a.at l.j l.invariant.1 64 c.lay_some.ensures)

pub lay_some-requires : goal.lay_some-requires
lay_some-requires c = (omega arith, omega (arith, stored_length c.loop-j.invariant.1))

pub shape_of-out : goal.shape_of-out
shape_of-out c = stored_length c.loop-j.invariant.1

pub returns : goal.returns
returns c = record {
  upper_bound = omega arith;
  stored = c.loop-j.invariant.1;
}
