use mathlib.Core.Path.{refl, ◌∙◌}
use Prim.Native.Nat.{◌-◌}
use native.Mathlib.Omega.{arith}
use Rattle.mends.specs.Mend.{stored_length, laid_more, laid_last}
use Rattle.mends.proofs.lay_bytes.Goals as goal

pub loop-j-init : goal.loop-j-init
loop-j-init c = (c.lay_far-j.ensures.upper_bound, refl, λ l x. x)

pub lay_some-requires : goal.lay_some-requires
lay_some-requires c =
    let q = c.requires in (
      omega (arith, q.0, q.1),
      omega (arith, q.0, q.2, c.loop-j.invariant.1, stored_length c.lay_far-j.ensures.stored),
    )

pub loop-j-preserved : goal.loop-j-preserved
loop-j-preserved c =
    let a = c.args in
    let i = c.loop-j.invariant in
    let s = c.lay_some.ensures in (
      omega arith,
      stored_length s ∙ i.1,
      λ l x. laid_more a.d.now a.from a.at c.loop-j.j (i.2 l x) 16 s,
    )

pub lay_some-requires-2 : goal.lay_some-requires-2
lay_some-requires-2 c =
    let q = c.requires in (
      omega (arith, q.0, q.1),
      omega (arith, q.0, q.2, c.loop-j.invariant.1, stored_length c.lay_far-j.ensures.stored),
    )

pub returns : goal.returns
returns c =
    let a = c.args in
    let q = c.requires in
    let i = c.loop-j.invariant in
    laid_last a.d.now a.from a.at c.loop-j.j (i.2 _ c.lay_far-j.ensures.stored) (a.stop - a.from - 16) a.stop
    (omega arith) (omega (arith, i.0, q.0)) q.1 (omega (arith, q.0)) c.lay_some-2.ensures

pub overflow_sub-n : goal.overflow_sub-n
overflow_sub-n c = c.requires.0

pub lay_few-requires : goal.lay_few-requires
lay_few-requires c = c.requires

pub shape_of-out-then-n-lt16 : goal.shape_of-out-then-n-lt16
shape_of-out-then-n-lt16 c = stored_length c.lay_few.ensures

pub returns-then-n-lt16 : goal.returns-then-n-lt16
returns-then-n-lt16 c = c.lay_few.ensures

pub lay_far-j-requires : goal.lay_far-j-requires
lay_far-j-requires c = let q = c.requires in (omega (arith, q.0, q.1), q.2)

pub shape_of-out : goal.shape_of-out
shape_of-out c = stored_length (returns c)
