use mathlib.Core.Path.{◌≡◌, sym, ap, ◌∙◌}
use native.Mathlib.Omega.{arith}
use Prim.Native.Nat.{◌+◌, ◌-◌}
use Rattle.mends.specs.rule.Mend.{same_boundary}
use Rattle.mends.specs.Sizes.{tallied}
use Rattle.mends.specs.Mend.{span_lows, sizes_next, tally_grows}
use Rattle.mends.proofs.Nexts.{sizes_over}
use Rattle.mends.proofs.measure.Goals as goal

pub tally-z-requires : goal.tally-z-requires
tally-z-requires c =
    let l = c.loop-i in
    let u = c.next_piece-p.ensures in
    let n = span_lows _ c.args.e _ _ u in
    (l.invariant.2, omega (arith, l.invariant.3, l.invariant.0), omega (arith, l.invariant.4, n, u.within, c.loop-i-test.true))

pub loop-i-preserved : goal.loop-i-preserved
loop-i-preserved c =
    let l = c.loop-i in
    let a = c.args in
    let p = c.next_piece-p.result in
    let u = c.next_piece-p.ensures in
    let t : c.tally-z.result ≡ tallied l.z (p.stop - l.i) p.lows (same_boundary a.e p.boundary) =
    c.tally-z.ensures ∙ ap (tallied l.z (p.stop - l.i) p.lows) c.same.ensures in
    let n = span_lows _ a.e _ _ u in
    let g = tally_grows l.z (p.stop - l.i) p.lows (p.stop + p.boundary.size - l.i) (a.least + (p.stop + p.boundary.size))
    (same_boundary a.e p.boundary) (omega (arith, n)) (omega (arith, u.ahead)) l.invariant.2 (omega (arith, l.invariant.5, u.ahead))
    (omega arith) in (
      u.within,
      rw t (sym (sizes_next _ a.e _ _ u l.z) ∙ l.invariant.1),
      rw t g.order,
      rw t (omega (arith, g.kept, l.invariant.3, u.ahead)),
      rw t (omega (arith, g.others, l.invariant.4, u.ahead)),
      rw t g.wide,
    )

pub returns : goal.returns
returns c =
    let l = c.loop-i in
    record {
      is = sym (sizes_over _ _ _ c.loop-i-test.false l.z) ∙ l.invariant.1;
      few = omega (arith, l.invariant.3, l.invariant.0);
      low = omega (arith, l.invariant.4, l.invariant.0);
      wide = omega (arith, l.invariant.5, l.invariant.0);
    }

pub next_piece-p-requires : goal.next_piece-p-requires
next_piece-p-requires c = c.loop-i-test.true

pub overflow_sub-stop : goal.overflow_sub-stop
overflow_sub-stop c = c.next_piece-p.ensures.on

pub overflow_add-i : goal.overflow_add-i
overflow_add-i c = omega (arith, c.next_piece-p.ensures.within)

pub loop-i-smaller : goal.loop-i-smaller
loop-i-smaller c = omega (
  arith,
  c.next_piece-p.ensures.within,
  c.next_piece-p.ensures.ahead,
)
