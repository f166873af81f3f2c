use mathlib.Core.Path.{◌≡◌, refl, ◌∙◌}
use native.Mathlib.Omega.{arith}
use lib.Dec.{eqb}
use borrow.Author.Tests.{eqb-false}
use Rattle.pages.specs.Stand.{ran_none, ran_then, line_room, line_ran, passes}
use Rattle.pages.proofs.send_run.Goals as goal

pub slice_bounds-send_bytes-count : goal.slice_bounds-send_bytes-count
slice_bounds-send_bytes-count c =
    let t = passes (eqb c.value_line-e.result 0) c.value_at.result c.if-e-value_at.false in
    let r = line_room (c.value_line-e.ensures (omega (arith, eqb-false c.value_line-e.result 0 t.0))) in
    omega (arith, r.0, r.1)

pub slice_bounds-send_bytes-start : goal.slice_bounds-send_bytes-start
slice_bounds-send_bytes-start c =
    let t = passes (eqb c.value_line-e.result 0) c.value_at.result c.if-e-value_at.false in
    let r = line_room (c.value_line-e.ensures (omega (arith, eqb-false c.value_line-e.result 0 t.0))) in
    omega (arith, r.0, r.1)

pub slice_bounds-send_bytes-end : goal.slice_bounds-send_bytes-end
slice_bounds-send_bytes-end c =
    let t = passes (eqb c.value_line-e.result 0) c.value_at.result c.if-e-value_at.false in
    let r = line_room (c.value_line-e.ensures (omega (arith, eqb-false c.value_line-e.result 0 t.0))) in
    omega (arith, r.0, r.1)

pub loop-k-preserved : goal.loop-k-preserved
loop-k-preserved c =
    let t = passes (eqb c.value_line-e.result 0) c.value_at.result c.if-e-value_at.false in
    ran_then c.loop-k.invariant refl
    (line_ran (c.value_line-e.ensures (omega (arith, eqb-false c.value_line-e.result 0 t.0)))
    c.pass_blanks-h.ensures.0
    (c.value_at.ensures t.1) _ c.loop-k-test.true c.send_bytes-p.ensures)

pub loop-k-init : goal.loop-k-init
loop-k-init c = ran_none _ _ _ _ _ _ c.requires.count_bound

pub value_line-e-requires : goal.value_line-e-requires
value_line-e-requires c = c.requires.classes

pub value_at-requires : goal.value_at-requires
value_at-requires c = c.requires.classes

pub send_last-requires : goal.send_last-requires
send_last-requires c = record {
  classes = c.requires.classes;
  value_line = (c.value_line-e.ensures, c.loop-k-test.true);
}

pub shape_of-out-then-e-value_at : goal.shape_of-out-then-e-value_at
shape_of-out-then-e-value_at c = c.send_last.ensures.sent.room
    ∙ c.loop-k.invariant.sent.room

pub returns-then-e-value_at : goal.returns-then-e-value_at
returns-then-e-value_at c = ran_then c.loop-k.invariant refl
    c.send_last.ensures

pub shape_of-out : goal.shape_of-out
shape_of-out c = c.loop-k.invariant.sent.room

pub returns : goal.returns
returns c =
    let e : c.loop-k.k ≡ 4096 = omega (arith, c.requires.count_bound) in
    rw e at c.loop-k.invariant
