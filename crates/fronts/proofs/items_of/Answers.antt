use mathlib.Core.Path.{◌≡◌, refl, sym, ap, ◌∙◌}
use Prim.Native.Nat.{ℕ, ◌+◌, ◌-◌}
use native.Mathlib.Omega.{arith}
use Rattle.steps.specs.declared.Found.{Found}
use Rattle.fronts.specs.Front.{items_of, item_found}
use Rattle.fronts.specs.Law.{five_next, items_out, items_done, items_more, met_out, met_none, met_more}
use Rattle.fronts.proofs.items_of.Goals as goal

next_of : {f g : Found} → f ≡ g → f.next ≡ g.next
next_of e = ap (λ (f : Found). f.next) e

pub loop-init : goal.loop-init
loop-init c = (refl, refl, refl, refl, refl, refl)

pub returns-then-i-eq5 : goal.returns-then-i-eq5
unfolding items_of
returns-then-i-eq5 c =
    let d = c.args.d.now in
    let s = c.args.start in
    let m = c.loop.m in
    let x = c.loop.counter in
    let l = c.loop.invariant in
    let u = c.if-i-eq5.true in
    let i = c.item_at-i.result in
    let a = c.item_at-i.ensures in
    let h = c.loop-test.true in
    c.end_items.ensures ∙ rw (
      met_none d x m.next 0 (item_found 6 d s 0) m.date l.0 h i a (omega arith) u,
      met_none d x m.next 1 (item_found 6 d s 1) m.time l.1 h i a (omega arith) u,
      met_none d x m.next 2 (item_found 6 d s 2) m.origin l.2 h i a (omega arith) u,
      met_none d x m.next 3 (item_found 6 d s 3) m.user l.3 h i a (omega arith) u,
      met_none d x m.next 4 (item_found 6 d s 4) m.standard l.4 h i a (omega arith) u,
      next_of (l.5 ∙ items_done d x m.next 5 h i a u) ∙ five_next d m.next i a u,
    )

pub loop-preserved : goal.loop-preserved
loop-preserved c =
    let d = c.args.d.now in
    let s = c.args.start in
    let m = c.loop.m in
    let x = c.loop.counter in
    let l = c.loop.invariant in
    let u = c.if-i-eq5.false in
    let o = c.item_past-next.result in
    let p = c.item_past-next.ensures in
    let i = c.item_at-i.result in
    let a = c.item_at-i.ensures in
    let h = c.loop-test.true in
    rw c.meet-m.ensures (
      met_more d x m.next 0 (item_found 6 d s 0) m.date l.0 h i a o p u,
      met_more d x m.next 1 (item_found 6 d s 1) m.time l.1 h i a o p u,
      met_more d x m.next 2 (item_found 6 d s 2) m.origin l.2 h i a o p u,
      met_more d x m.next 3 (item_found 6 d s 3) m.user l.3 h i a o p u,
      met_more d x m.next 4 (item_found 6 d s 4) m.standard l.4 h i a o p u,
      l.5 ∙ items_more d x m.next 5 h i a u u ∙ ap (λ (y : ℕ). item_found (6 - (x + 1)) d y 5) (sym p),
    )

pub returns : goal.returns
unfolding items_of
returns c =
    let d = c.args.d.now in
    let s = c.args.start in
    let m = c.loop.m in
    let x = c.loop.counter in
    let l = c.loop.invariant in
    let g = c.loop-test.false in
    c.end_items-2.ensures ∙ rw (
      met_out d x m.next 0 (item_found 6 d s 0) m.date l.0 g,
      met_out d x m.next 1 (item_found 6 d s 1) m.time l.1 g,
      met_out d x m.next 2 (item_found 6 d s 2) m.origin l.2 g,
      met_out d x m.next 3 (item_found 6 d s 3) m.user l.3 g,
      met_out d x m.next 4 (item_found 6 d s 4) m.standard l.4 g,
      next_of (l.5 ∙ items_out d x m.next 5 g),
    )
