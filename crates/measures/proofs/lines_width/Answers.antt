-- `measures::lines_width` meets its contract: none is wider than the wider of the least and the most.
use mathlib.Core.Path.{◌≡◌, sym, ◌∙◌}
use native.Mathlib.Omega.{arith}
use Rattle.below.specs.Below.{max_none}
use Rattle.sound.specs.Block.{hull_fits_lem, hull_width_lem}
use Rattle.measures.specs.Width.{lines_width}
use Rattle.measures.specs.Width.{number_in}
use Rattle.measures.proofs.lines_width.Goals as goal

pub returns-then-n-eq0 : goal.returns-then-n-eq0
unfolding lines_width
returns-then-n-eq0 c = let e : c.args.r.lines ≡ 0 = omega arith in rw e (sym (max_none _))

pub hull_of-hull-requires : goal.hull_of-hull-requires
hull_of-hull-requires c =
    let p = c.requires.ready in (
      record { few = omega (arith, p.few); apart = omega arith; near = omega arith; stand = omega (arith, p.stand) },
      omega arith,
    )

pub returns : goal.returns
unfolding lines_width
returns c =
    let a = c.args in
    let f = number_in a.room.now a.r.before in
    let u = c.hull_of-hull.ensures in
    let h = c.hull_of-hull.result in
    c.hull_width.ensures
    ∙ sym (hull_width_lem a.r.kind f a.r.lines h u
    (sym (hull_fits_lem a.r.kind f a.r.lines h u) ∙ c.requires.ready.fits))

pub overflow_mul-r : goal.overflow_mul-r
overflow_mul-r c = omega (arith, c.requires.ready.few)
