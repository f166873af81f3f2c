-- `mends::note_end` meets its contract.
use mathlib.Core.Path.{refl, ◌∙◌}
use native.Mathlib.Omega.{arith}
use Rattle.mends.specs.rule.Mend.{entry_numbers, listed_if}
use Rattle.mends.specs.Mend.{stored_join, stored_length}
use Rattle.mends.proofs.note_end.Goals as goal

pub note-requires : goal.note-requires
unfolding entry_numbers listed_if
note-requires c =
    let r = rw c.if-padded.true at c.requires.stop_in_bounds in record {
      k_in_bounds = omega arith;
      kind_bound = (omega arith, c.requires.number_bound.0, c.requires.number_bound.1);
    }

pub overflow_add-m : goal.overflow_add-m
unfolding entry_numbers listed_if
overflow_add-m c = let r = rw c.if-padded.true at c.requires.stop_in_bounds in omega arith

pub returns-then-ended : goal.returns-then-ended
unfolding listed_if
returns-then-ended c = rw (c.if-padded.true, c.if-ended.true) c.note.ensures

pub note-requires-then-padded : goal.note-requires-then-padded
unfolding entry_numbers listed_if
note-requires-then-padded c =
    let r = rw (c.if-padded.true, c.if-ended.false) at c.requires.stop_in_bounds in record {
      k_in_bounds = omega (arith, stored_length c.note.ensures);
      kind_bound = (
        omega arith,
        c.requires.number_bound.0,
        c.requires.number_bound.1,
      );
    }

pub overflow_add-result : goal.overflow_add-result
unfolding entry_numbers listed_if
overflow_add-result c =
    let r = rw (c.if-padded.true, c.if-ended.false) at
    c.requires.stop_in_bounds in omega arith

pub returns-then-padded : goal.returns-then-padded
unfolding entry_numbers listed_if
returns-then-padded c = rw (c.if-padded.true, c.if-ended.false)
    (stored_join c.note.ensures c.note-then-padded.ensures)

pub returns-then-ended-2 : goal.returns-then-ended-2
unfolding entry_numbers listed_if
returns-then-ended-2 c = rw (c.if-padded.false, c.if-ended-2.true) (record { stored = refl; next = omega arith })

pub note-requires-2 : goal.note-requires-2
unfolding entry_numbers listed_if
note-requires-2 c =
    let r = rw (c.if-padded.false, c.if-ended-2.false) at c.requires.stop_in_bounds in record {
      k_in_bounds = omega arith;
      kind_bound = (omega arith, c.requires.number_bound.0, c.requires.number_bound.1);
    }

pub overflow_add-result-2 : goal.overflow_add-result-2
unfolding entry_numbers listed_if
overflow_add-result-2 c = let r = rw (c.if-padded.false, c.if-ended-2.false) at
    c.requires.stop_in_bounds in omega arith

pub returns : goal.returns
unfolding listed_if
returns c = rw (c.if-padded.false, c.if-ended-2.false) c.note-2.ensures

pub shape_of-list-then-ended : goal.shape_of-list-then-ended
shape_of-list-then-ended c = stored_length c.note.ensures

pub shape_of-list-then-padded : goal.shape_of-list-then-padded
shape_of-list-then-padded c = stored_length c.note-then-padded.ensures ∙ stored_length c.note.ensures

pub shape_of-list : goal.shape_of-list
shape_of-list c = stored_length c.note-2.ensures
