-- `mends::note_rest` meets its contract.
use native.Mathlib.Omega.{arith}
use borrow.Author.Tests.{eq-eqb, ne_eqb}
use Rattle.mends.specs.rule.Mend.{entry_numbers}
use Rattle.mends.specs.Mend.{stored_length}
use Rattle.mends.proofs.note_rest.Goals as goal

pub note-requires : goal.note-requires
unfolding entry_numbers
note-requires c =
    let q = c.requires in
    let r = rw (eq-eqb _ _ c.if-stop-from.true) at q.p_in_bounds in record {
      k_in_bounds = omega arith;
      kind_bound = (omega arith, q.from_le_stop.2, omega (arith, q.from_le_stop.0, q.from_le_stop.1));
    }

pub overflow_add-result : goal.overflow_add-result
unfolding entry_numbers
overflow_add-result c =
    let q = c.requires in
    let r = rw (eq-eqb _ _ c.if-stop-from.true) at q.p_in_bounds in
    omega arith

pub returns-then-stop-from : goal.returns-then-stop-from
returns-then-stop-from c = rw (eq-eqb _ _ c.if-stop-from.true) c.note.ensures

pub note_end-requires : goal.note_end-requires
note_end-requires c =
    let q = c.requires in
    let r = rw (ne_eqb _ _ c.if-stop-from.false) at q.p_in_bounds in record {
      number_bound = (q.from_le_stop.2, q.from_le_stop.1);
      stop_in_bounds = rw c.same.ensures r;
    }

pub returns : goal.returns
returns c =
    rw (ne_eqb _ _ c.if-stop-from.false) (rw c.same.ensures at c.note_end.ensures)

pub shape_of-list-then-stop-from : goal.shape_of-list-then-stop-from
shape_of-list-then-stop-from c = stored_length c.note.ensures

pub overflow_sub-stop : goal.overflow_sub-stop
overflow_sub-stop c = c.requires.from_le_stop.0

pub shape_of-list : goal.shape_of-list
shape_of-list c = stored_length c.note_end.ensures
