-- `texts::decode_text` meets its contract.
use mathlib.Core.Path.{sym}
use native.Mathlib.Omega.{arith}
use Prim.Native.Nat.{◌+◌, ◌≤◌}
use lib.ListN.{length}
use lib.Seq.{length-take-le}
use Rattle.texts.proofs.Outcomes.{beyond, no_text_lem, counted, no_room, decodes}
use Rattle.texts.proofs.decode_text.Goals as goal

pub returns-then-d-place : goal.returns-then-d-place
returns-then-d-place c = beyond _ _ _ _ (omega arith)

pub returns-then-d-place-2 : goal.returns-then-d-place-2
returns-then-d-place-2 c = beyond _ _ _ _ (omega arith)

pub measure-requires : goal.measure-requires
measure-requires c =
    let a = c.args in
    let h : a.place + a.long ≤ length a.d.now = omega arith in
    let n = length-take-le (a.place + a.long) a.d.now h in record {
      classes = c.classes-classes.ensures;
      at_in_bounds = omega arith;
    }

pub returns-then-list-n : goal.returns-then-list-n
returns-then-list-n c = no_room _ _ _ _ (omega arith) c.measure.ensures c.in-Some.is
    c.if-list-n.true

pub write-requires : goal.write-requires
write-requires c =
    let a = c.args in
    let h : a.place + a.long ≤ length a.d.now = omega arith in record {
      classes = c.classes-classes.ensures;
      count_value = counted _ _ _ a.list.now h c.measure.ensures
          c.in-Some.is;
      count_in_bounds = omega arith;
    }

pub returns-else-list-n : goal.returns-else-list-n
returns-else-list-n c = decodes _ _ _ _ (omega arith) c.measure.ensures
    c.in-Some.is c.if-list-n.false
    c.write.ensures

pub returns-in-None : goal.returns-in-None
returns-in-None c = no_text_lem _ _ _ _ (omega arith) c.measure.ensures c.in-None.is

pub slice_bounds-measure-end : goal.slice_bounds-measure-end
slice_bounds-measure-end c = sym (length-take-le _ _ (omega arith))

pub slice_bounds-write-end : goal.slice_bounds-write-end
slice_bounds-write-end c = sym (length-take-le _ _ (omega arith))
