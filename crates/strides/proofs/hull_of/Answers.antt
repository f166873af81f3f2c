use mathlib.Core.Path.{◌≡◌}
use native.Mathlib.Omega.{arith}
use mir.Facts.{to_z-of_z}
use borrow.Author.Rules.{sfits_of}
use Rattle.strides.specs.rule.Stride.{stride_at}
use Rattle.strides.specs.Hull.{hulled_one, hulled_more}
use Rattle.strides.proofs.hull_of.Goals as goal

pub loop-k-init : goal.loop-k-init
loop-k-init c = rw (to_z-of_z (sfits_of c.number_at-first.type_inv), c.number_at-first.ensures)
    (hulled_one (stride_at c.args.t.now c.args.at c.args.step))

pub loop-k-preserved : goal.loop-k-preserved
loop-k-preserved c = rw (c.hull_with-h.ensures, to_z-of_z (sfits_of c.number_at.type_inv), c.number_at.ensures)
    (hulled_more (stride_at c.args.t.now c.args.at c.args.step) c.loop-k.k c.loop-k.h c.loop-k.invariant)

pub returns : goal.returns
returns c =
    let e : c.loop-k.k ≡ c.args.n = omega arith in
    rw e at c.loop-k.invariant
