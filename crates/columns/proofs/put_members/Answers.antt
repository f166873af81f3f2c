-- `columns::put_members` meets its contract: the stretch before the first gap, and the rest behind it.
-- Assumes nothing.
use mathlib.Core.Path.{◌≡◌, refl, ◌∙◌}
use native.Mathlib.Omega.{arith}
use Prim.Native.Nat.{◌+◌, ◌-◌, ◌*◌, ◌≤◌}
use lib.ListN.{length}
use Rattle.matrix.specs.Noughts.{noughts, length_noughts}
use Rattle.columns.specs.Marked.{marked_entries}
use Rattle.columns.specs.Room.{room_on, room_less, room_behind}
use Rattle.columns.specs.Ones.{marked_left, in_list, stretch_from, length_stretch, gap_made, gap_made_zeros, gap_count, put_then}
use Rattle.columns.proofs.put_members.Goals as goal
use Rattle.columns.proofs.put_members.Goals.{After-all_before, After-put_rest-arg-1}

-- how many stand before the gap, and behind it
counts : (c : After-all_before) → let a = c.args in
    a.m.count ≡ (a.m.gap - 1) + length (marked_left a.there a.allowed.now a.present.now a.m.gap)
counts c =
    let a = c.args in
    let p = c.requires in
    p.count_value.0 ∙ gap_count a.there a.allowed.now a.present.now a.list.now a.n a.m.gap p.marked.0 p.n_in_bounds.1
    p.marked.1

fits : (c : After-put_rest-arg-1) → let a = c.args in
    (a.flags + (a.m.gap - 1) ≤ a.values) × (a.values + 8 * (a.m.gap - 1) ≤ length a.out.now)
fits c =
    let p = c.requires in
    let n = counts (goal.at.After-put_rest-arg-1 c).After-all_before in
    (omega (arith, n, p.count_value.1.behind), omega (arith, n, p.count_value.1.inside))

pub put_stretch-requires : goal.put_stretch-requires
put_stretch-requires c =
    let a = c.args in
    let p = c.requires in
    let g = gap_count a.there a.allowed.now a.present.now a.list.now a.n a.m.gap p.marked.0 p.n_in_bounds.1
    p.marked.1 in
    let m = p.marked.0 in
    (p.n_in_bounds.0, m.on, omega (arith, m.within, p.n_in_bounds.2), room_less (omega (arith, g, p.count_value.0)) p.count_value.1)

pub put_many-requires : goal.put_many-requires
put_many-requires c =
    let p = c.requires in
    let n = counts (goal.at.put_many-requires c).After-all_before in (
      omega (arith, n, p.count_value.1.behind),
      omega (arith, n, p.count_value.1.inside, c.put_stretch.auto.out),
    )

pub returns-then-all_before : goal.returns-then-all_before
returns-then-all_before c =
    let a = c.args in
    let p = c.requires in
    let es = marked_entries a.there a.allowed.now a.present.now in
    let xs = stretch_from a.there (in_list a.list.now a.n) 1 (a.m.gap - 1) in
    let k = a.m.count - (a.m.gap - 1) in
    let e = gap_made_zeros a.there a.allowed.now a.present.now a.list.now a.n a.m.gap a.m.count p.marked.0
    p.n_in_bounds.1 p.n_in_bounds.2 p.marked.1 (c.all_before.ensures c.if-all_before.true)
    p.count_value.0 in
    (put_then es xs (noughts a.there k) a.out.now _ _ a.flags a.values (a.m.gap - 1) (length (noughts a.there k)) e
    (length_stretch a.there (in_list a.list.now a.n) 1 (a.m.gap - 1))
    (omega (arith, counts (goal.at.returns-then-all_before c).After-all_before, length_noughts a.there k, p.count_value.1.behind))
    c.put_stretch.ensures
    (record { count = refl; leaves = c.put_many.ensures })).leaves

pub put_rest-requires : goal.put_rest-requires
put_rest-requires c =
    let p = c.requires in record {
      allowed_in_bounds = omega (arith, p.n_in_bounds.1);
      room = room_on c.put_stretch.auto.out
          (room_behind _ _ (counts (goal.at.put_rest-requires c).After-all_before) p.count_value.1);
    }

pub returns : goal.returns
returns c =
    let a = c.args in
    let p = c.requires in
    (put_then (marked_entries a.there a.allowed.now a.present.now)
    (stretch_from a.there (in_list a.list.now a.n) 1 (a.m.gap - 1))
    (marked_left a.there a.allowed.now a.present.now a.m.gap) a.out.now _ _ a.flags a.values (a.m.gap - 1) _
    (gap_made a.there a.allowed.now a.present.now a.list.now a.n a.m.gap p.marked.0 p.n_in_bounds.1 p.marked.1)
    (length_stretch a.there (in_list a.list.now a.n) 1 (a.m.gap - 1))
    (omega (arith, counts (goal.at.returns c).After-all_before, p.count_value.1.behind))
    c.put_stretch.ensures c.put_rest.ensures).leaves

pub overflow_sub-k : goal.overflow_sub-k
overflow_sub-k c = omega (arith, c.requires.marked.0.on)

pub all_before-requires : goal.all_before-requires
all_before-requires c = c.requires.n_in_bounds.0

pub overflow_add-flags : goal.overflow_add-flags
overflow_add-flags c = omega (
  arith,
  counts (goal.at.overflow_add-flags c).After-all_before,
  c.requires.count_value.1.behind,
  c.requires.count_value.1.inside,
)

pub overflow_mul-k : goal.overflow_mul-k
overflow_mul-k c = omega (
  arith,
  counts (goal.at.overflow_mul-k c).After-all_before,
  c.requires.count_value.1.behind,
  c.requires.count_value.1.inside,
)

pub overflow_add-values : goal.overflow_add-values
overflow_add-values c = omega (
  arith,
  counts (goal.at.overflow_add-values c).After-all_before,
  c.requires.count_value.1.behind,
  c.requires.count_value.1.inside,
)

pub overflow_sub-m : goal.overflow_sub-m
overflow_sub-m c = omega (arith, counts (goal.at.overflow_sub-m c).After-all_before)

pub overflow_add-flags-2 : goal.overflow_add-flags-2
overflow_add-flags-2 c = omega (arith, fits c)

pub overflow_mul-k-2 : goal.overflow_mul-k-2
overflow_mul-k-2 c = omega (arith, fits c)

pub overflow_add-values-2 : goal.overflow_add-values-2
overflow_add-values-2 c = omega (arith, fits c)
