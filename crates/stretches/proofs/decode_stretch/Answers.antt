use mathlib.Core.Path.{sym, ◌∙◌}
use Prim.Native.Nat.{◌+◌, ◌≤◌}
use native.Mathlib.Omega.{arith}
use lib.ListN.{length}
use lib.Seq.{length-take-le}
use Rattle.stretches.proofs.Outcomes.{beyond, no_text_lem, no_room, counted, decodes}
use Rattle.stretches.proofs.decode_stretch.Goals as goal

pub returns-then-d-place : goal.returns-then-d-place
returns-then-d-place c = beyond _ _ _ _ _ (omega arith)

pub returns-then-d-place-2 : goal.returns-then-d-place-2
returns-then-d-place-2 c = beyond _ _ _ _ _ (omega arith)

pub is_text-requires : goal.is_text-requires
is_text-requires c =
    let a = c.args in
    let h : a.place + a.long ≤ length a.d.now = omega arith in
    let n = length-take-le (a.place + a.long) a.d.now h in
    omega arith

pub returns-then-not-is_text : goal.returns-then-not-is_text
returns-then-not-is_text c = no_text_lem _ _ _ _ _ (omega arith) (sym c.is_text.ensures ∙ c.if-not-is_text.true)

pub count_signs-requires : goal.count_signs-requires
count_signs-requires c =
    let a = c.args in
    let h : a.place + a.long ≤ length a.d.now = omega arith in
    let n = length-take-le (a.place + a.long) a.d.now h in
    omega arith

pub write_signs-requires : goal.write_signs-requires
write_signs-requires c =
    let a = c.args in
    let h : a.place + a.long ≤ length a.d.now = omega arith in
    let n = length-take-le (a.place + a.long) a.d.now h in
    let k = counted a.latin a.d.now a.place a.long a.list.now h _ _
    c.count_signs.ensures c.in-Some.is in record {
      at_in_bounds = omega arith;
      count_value = k.0;
      count_in_bounds = k.1;
    }

pub returns-in-Some : goal.returns-in-Some
returns-in-Some c =
    let a = c.args in
    let h : a.place + a.long ≤ length a.d.now = omega arith in
    decodes a.latin a.d.now a.place a.long a.list.now h
    (sym c.is_text.ensures
    ∙ c.if-not-is_text.false) _ _ _
    c.count_signs.ensures
    c.in-Some.is c.write_signs.ensures

pub returns-in-None : goal.returns-in-None
returns-in-None c =
    let a = c.args in
    let h : a.place + a.long ≤ length a.d.now = omega arith in
    no_room a.latin a.d.now a.place a.long a.list.now h
    (sym c.is_text.ensures ∙ c.if-not-is_text.false) _
    c.count_signs.ensures c.in-None.is

pub slice_bounds-is_text-end : goal.slice_bounds-is_text-end
slice_bounds-is_text-end c = sym (length-take-le _ _ (omega arith))

pub slice_bounds-count_signs-end : goal.slice_bounds-count_signs-end
slice_bounds-count_signs-end c = sym (length-take-le _ _ (omega arith))

pub slice_bounds-write_signs-end : goal.slice_bounds-write_signs-end
slice_bounds-write_signs-end c = sym (length-take-le _ _ (omega arith))
