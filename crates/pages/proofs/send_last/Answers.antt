use native.Mathlib.Omega.{arith}
use lib.Dec.{eqb}
use borrow.Author.Tests.{eqb-false}
use Rattle.looks.specs.Stand.{stands_end}
use Rattle.pages.specs.Stand.{last_room, last_ran, neither}
use Rattle.pages.proofs.send_last.Goals as goal

pub slice_bounds-send_bytes-count : goal.slice_bounds-send_bytes-count
slice_bounds-send_bytes-count c =
    let t = neither (eqb c.either_end-m.result 0) (eqb c.stands_to-f.result 0)
    c.if-m-f.false in
    let r = last_room (c.either_end-m.ensures
    (omega (arith, eqb-false c.either_end-m.result 0 t.0))) in
    omega (arith, r.0, r.1)

pub slice_bounds-send_bytes-start : goal.slice_bounds-send_bytes-start
slice_bounds-send_bytes-start c =
    let t = neither (eqb c.either_end-m.result 0) (eqb c.stands_to-f.result 0)
    c.if-m-f.false in
    let r = last_room (c.either_end-m.ensures
    (omega (arith, eqb-false c.either_end-m.result 0 t.0))) in
    omega (arith, r.0, r.1)

pub slice_bounds-send_bytes-end : goal.slice_bounds-send_bytes-end
slice_bounds-send_bytes-end c =
    let t = neither (eqb c.either_end-m.result 0) (eqb c.stands_to-f.result 0)
    c.if-m-f.false in
    let r = last_room (c.either_end-m.ensures
    (omega (arith, eqb-false c.either_end-m.result 0 t.0))) in
    omega (arith, r.0, r.1)

pub overflow_sub-result : goal.overflow_sub-result
overflow_sub-result c =
    let t = neither (eqb c.either_end-m.result 0)
    (eqb c.stands_to-f.result 0) c.if-m-f.false in
    let x = c.stands_to-f.ensures
    (omega (arith, eqb-false c.stands_to-f.result 0 t.1)) in
    omega (arith, stands_end x)

pub returns : goal.returns
returns c =
    let t = neither (eqb c.either_end-m.result 0)
    (eqb c.stands_to-f.result 0) c.if-m-f.false in
    last_ran c.pass_blanks-h.ensures.0
    (c.stands_to-f.ensures
    (omega (arith, eqb-false c.stands_to-f.result 0 t.1))) _
    (c.either_end-m.ensures
    (omega (arith, eqb-false c.either_end-m.result 0 t.0)))
    c.requires.value_line.1
    c.send_bytes-p.ensures

pub overflow_add-result : goal.overflow_add-result
overflow_add-result c = omega (arith, c.requires.value_line.1)

pub shape_of-out : goal.shape_of-out
shape_of-out c = c.send_bytes-p.ensures.room
