use mathlib.Core.Path.{◌∙◌, ap}
use native.Mathlib.Omega.{arith}
use lib.ListN.{length}
use lib.Seq.{length-sets}
use Rattle.mends.specs.Mend.{stored_length, part_length, copied_none, copied_more, copied_all}
use Rattle.mends.proofs.copy_all.Goals as goal

pub loop-j-init : goal.loop-j-init
loop-j-init c = (omega arith, copied_none c.args.d.now _)

pub loop-j-preserved : goal.loop-j-preserved
loop-j-preserved c =
    let l = c.loop-j in
    let a = c.args in
    (omega arith, copied_more a.d.now l.j l.invariant.1 64 c.copy_some.ensures)

pub returns : goal.returns
returns c =
    let a = c.args in
    let l = c.loop-j in
    copied_all a.d.now l.j l.invariant.1 _ (omega arith) c.copy_in.ensures

pub shape_of-out : goal.shape_of-out
shape_of-out c =
    let a = c.args in
    ap length (returns c) ∙ length-sets a.out.now 0 a.d.now

pub copy_in-requires : goal.copy_in-requires
copy_in-requires c =
    let l = c.loop-j in
    let d = c.args.d.now in (
      omega (arith, part_length d l.j (length d) (omega arith)),
      omega (arith, c.requires, stored_length l.invariant.1),
    )

pub copy_some-requires : goal.copy_some-requires
copy_some-requires c = (omega arith, omega (arith, stored_length c.loop-j.invariant.1))
