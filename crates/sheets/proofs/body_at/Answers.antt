use mathlib.Core.Path.{sym, ◌∙◌}
use native.Mathlib.Omega.{arith}
use Rattle.sheets.proofs.Rows9.{knows, lines_few, rows_left, measured_all, small_all, body_not, body_unheld, body_held}
use Rattle.sheets.proofs.body_at.Goals as goal

pub sift_in-s-requires : goal.sift_in-s-requires
sift_in-s-requires c = let p = c.requires in record {
  known = knows p.d_len_bound.1;
  length_in_bounds = (p.front_ends.1, p.front_ends.0);
}

pub overflow_sub-room : goal.overflow_sub-room
overflow_sub-room c = let p = c.requires in omega (arith, p.front_ends.3)

pub overflow_add-stamp : goal.overflow_add-stamp
overflow_add-stamp c =
    let p = c.requires in
    omega (
      arith,
      rows_left _ _ p.d_len_bound.0 _ _ c.args.y _ _ _ _ p.d_len_bound.1.sofar p.front_read,
    )

pub overflow_cast-stamp : goal.overflow_cast-stamp
overflow_cast-stamp c =
    let p = c.requires in
    omega (
      arith,
      rows_left _ _ p.d_len_bound.0 _ _ c.args.y _ _ _ _ p.d_len_bound.1.sofar p.front_read,
    )

pub rest_in-requires : goal.rest_in-requires
rest_in-requires c =
    let p = c.requires in
    let f = p.front_ends in record {
      within = (c.sift_in-s.ensures.ends, p.d_len_bound.0, omega (arith, f.3), omega (arith, f.2, f.4));
      lines_len = (p.lines_len.0, lines_few p.d_len_bound.1.sofar, p.lines_len.1);
    }

pub settle-requires : goal.settle-requires
settle-requires c =
    let p = c.requires in record {
      tens = p.tens;
      measurable = measured_all _ _ p.d_len_bound.0 _ _ _ _ _ _ _ _ c.sift_in-s.ensures _ _
          p.lines_len.0 _ (rw c.in-Ok.is at c.rest_in.ensures) _ c.placeless-q.ensures
          p.d_len_bound.1.sofar p.front_read;
    }

pub enter-requires : goal.enter-requires
enter-requires c =
    let p = c.requires in record {
      rows_lt_most_rows = (
        rows_left _ _ p.d_len_bound.0 _ _ c.args.y _ _ _ _ p.d_len_bound.1.sofar p.front_read,
        p.d_len_bound.1.sofar.rows_long,
      );
      small_row = small_all _ _ p.d_len_bound.0 _ _ _ _ _ _ _ _
          c.sift_in-s.ensures _ _ p.lines_len.0 _ (rw c.in-Ok.is at
          c.rest_in.ensures) _ c.placeless-q.ensures _ _ _
          (sym c.in-Is.is ∙ c.settle.ensures) p.d_len_bound.1.sofar p.front_read;
    }

pub returns-in-Is : goal.returns-in-Is
returns-in-Is c =
    let p = c.requires in
    body_held _ _ p.d_len_bound.0 _ _ _ _ _ _ _ _ c.sift_in-s.ensures _ _ p.lines_len.0 _
    (rw c.in-Ok.is at c.rest_in.ensures) _ c.placeless-q.ensures _ _ _
    (sym c.in-Is.is ∙ c.settle.ensures) _ _ c.enter.ensures.value c.enter.ensures.rows_after

pub returns-in-Not : goal.returns-in-Not
returns-in-Not c =
    let p = c.requires in
    body_unheld _ _ p.d_len_bound.0 _ _ _ _ _ _ _ _
    c.sift_in-s.ensures _ _ p.lines_len.0 _ (rw c.in-Ok.is at
    c.rest_in.ensures) _ c.placeless-q.ensures _ _
    (sym c.in-Not.is ∙ c.settle.ensures)

pub returns-in-Err : goal.returns-in-Err
returns-in-Err c =
    let p = c.requires in
    body_not _ _ p.d_len_bound.0 _ _ _ _ _ _ _ _ c.sift_in-s.ensures _ _ p.lines_len.0 _ _
    (rw c.in-Err.is at c.rest_in.ensures)
