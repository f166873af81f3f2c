-- `value_fields::send_roomy` meets its contract: codes from the place before on, each with its semicolon; then that place is as it was.
use mathlib.Core.Path.{refl, ◌∙◌}
use native.Mathlib.Omega.{arith}
use Prim.Native.Nat.{◌+◌, ◌≤◌}
use lib.ListN.{length-set}
use Rattle.value_fields.specs.Legal.{bits_from}
use Rattle.value_fields.specs.Numeral.{digits_one}
use Rattle.value_fields.specs.Stretch.{none_set, some_set}
use Rattle.value_fields.proofs.Stretch.{stretch_then}
use Rattle.value_fields.proofs.send_roomy.Goals as goal

pub returns-then-end-before : goal.returns-then-end-before
returns-then-end-before c =
    let a = c.args in
    let f = c.requires.le_at in
    let m : 18 + 270 ≤ 288 = omega arith in
    let s = stretch_then c.put_run-nine.ensures c.put_tens-many.ensures refl m in
    let whole = (s.owed {bound = a.bound} (omega (arith, f))).pays c.send_hundreds-end.ensures in
    none_set (omega (arith, f)) (omega (arith, f)) (bits_from a.w a.bytes.now a.p 0) whole c.if-end-before.true
    c.send_bytes.ensures

pub shape_of-out : goal.shape_of-out
shape_of-out c =
    rw length-set (c.send_hundreds-end.ensures.room ∙ c.put_tens-many.ensures.room
    ∙ c.put_run-nine.ensures.room)

pub returns : goal.returns
returns c =
    let a = c.args in
    let f = c.requires.le_at in
    let m : 18 + 270 ≤ 288 = omega arith in
    let s = stretch_then c.put_run-nine.ensures c.put_tens-many.ensures refl m in
    let whole = (s.owed {bound = a.bound} (omega (arith, f))).pays c.send_hundreds-end.ensures in
    some_set (omega (arith, f)) (omega (arith, f)) (bits_from a.w a.bytes.now a.p 0) whole c.if-end-before.false

pub bounds-out-before-2 : goal.bounds-out-before-2
bounds-out-before-2 c = omega (
  arith,
  c.send_hundreds-end.ensures.room,
  c.put_tens-many.ensures.room,
  c.put_run-nine.ensures.room,
  c.requires.le_at,
)

pub put_run-nine-requires : goal.put_run-nine-requires
put_run-nine-requires c =
    let f = c.requires.le_at in
    record {
      tens = c.requires.tens;
      digits = (omega arith, omega arith, λ n l h. digits_one n (omega arith));
      w_in_bounds = (omega arith, c.requires.w_bound.1, omega (arith, f));
    }
