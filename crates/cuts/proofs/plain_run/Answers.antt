use mathlib.Core.Path.{◌≡◌, sym}
use Prim.Native.Nat.{◌+◌, ◌*◌}
use native.Mathlib.Nat.{zero-mul, suc-mul}
use native.Mathlib.Numerals.{add-one}
use native.Mathlib.Omega.{arith}
use borrow.Author.Count.{below_more}
use Rattle.cuts.specs.Records.{PlainNext}
use Rattle.cuts.proofs.plain_run.Goals as goal

found : (c : goal.Else-not-next_short) → let a = c.args in
    PlainNext a.d.now a.w c.loop-k.at a.size
found c = c.next_short.ensures c.if-not-next_short.false

pub loop-k-init : goal.loop-k-init
loop-k-init c =
    let a = c.args in
    let z : a.from + 0 * (a.size + a.w.size) ≡ a.from = omega (arith, zero-mul (a.size + a.w.size)) in
    (sym z, record { reach = rw z (omega (arith, c.requires.size_in_bounds.1)); each = λ k l. absurd (omega arith) })

pub overflow_add-at : goal.overflow_add-at
overflow_add-at c = let h = (found c).inside in omega (arith, c.requires.ending.0.few)

pub loop-k-preserved : goal.loop-k-preserved
loop-k-preserved c =
    let l = c.loop-k in
    let a = c.args in
    let f = c.requires.ending.0.few in
    let h = (found c).inside in
    let m : a.from + (l.k + 1) * (a.size + a.w.size) ≡ l.at + (a.size + a.w.size) =
    rw (add-one l.k) (omega (arith, suc-mul l.k (a.size + a.w.size), l.invariant.0)) in (
      sym m,
      record {
        reach = rw m (omega arith);
        each = below_more _ _ l.invariant.1.each (rw l.invariant.0 at (found c));
      },
    )

pub returns-then-not-next_short : goal.returns-then-not-next_short
returns-then-not-next_short c = c.loop-k.invariant.1

pub returns : goal.returns
returns c = let q : c.loop-k.k ≡ c.args.most = omega arith in rw q at c.loop-k.invariant.1

pub overflow_add-step : goal.overflow_add-step
overflow_add-step c = omega (arith, c.requires.ending.0.few)
