use mathlib.Core.Path.{refl, ◌∙◌, ap}
use Prim.Native.Nat.{◌<◌}
use native.Mathlib.Omega.{arith}
use native.Mathlib.Numerals.{add-one}
use lib.ListN.{length, length-set}
use mir.Facts.{to_z-of_z}
use borrow.Author.Rules.{sfits_of}
use Rattle.marks.specs.Spelling.{idle}
use Rattle.marks.proofs.Parts.{part_said, part_over}
use Rattle.texts.proofs.Measures.{next_stored, all_written}
use Rattle.texts.proofs.write.Goals as goal
use Rattle.texts.proofs.write.Goals.{After-cell_of}

-- a sign that was said has room
more : (c : After-cell_of) → c.copy-run.result.count < c.args.count
more c =
    let s = part_said _ _ _ _ _ _ c.next_part.ensures
    c.in-Said.is in
    omega (arith, ap length s.split, c.copy-run.ensures.same_count, c.loop-k.invariant.1)

room : (c : After-cell_of) → c.copy-run.result.count < length c.args.list.now
room c = omega (arith, more c, c.requires.count_in_bounds)

pub loop-k-init : goal.loop-k-init
unfolding idle
loop-k-init c = (refl, omega (arith, c.requires.count_value), refl, refl)

pub copy-run-requires : goal.copy-run-requires
copy-run-requires c = let l = c.loop-k in record {
  classes = c.requires.classes;
  n_in_bounds = omega (arith, l.invariant.1, l.invariant.2, c.requires.count_in_bounds);
}

pub next_part-requires : goal.next_part-requires
next_part-requires c = record {
  classes = c.requires.classes;
  inside_value = c.loop-k.invariant.3;
}

pub offset_bounds-list-m : goal.offset_bounds-list-m
offset_bounds-list-m c = omega (arith, room c)

pub bounds-list-m : goal.bounds-list-m
bounds-list-m c =
    omega (arith, room c, c.copy-run.ensures.same_room, c.loop-k.invariant.2)

pub overflow_add-k : goal.overflow_add-k
overflow_add-k c = omega (arith, room c)

pub loop-k-smaller : goal.loop-k-smaller
loop-k-smaller c = omega (arith, more c, c.copy-run.ensures.ahead)

pub loop-k-preserved : goal.loop-k-preserved
loop-k-preserved c =
    let l = c.loop-k in
    let p = c.copy-run.ensures in
    let s = part_said _ _ _ _ _ _ c.next_part.ensures
    c.in-Said.is in (
      l.invariant.0
          ∙ p.same_left
          ∙ rw (
            to_z-of_z (sfits_of c.cell_of.type_inv),
            c.cell_of.ensures,
            c.number_of.ensures.0,
            add-one c.copy-run.result.count,
          )
          (next_stored _ _ s.split),
      omega (arith, ap length s.split, p.same_count, l.invariant.1),
      simp length-set (p.same_room ∙ l.invariant.2),
      s.rests,
    )

pub returns-in-Over : goal.returns-in-Over
returns-in-Over c =
    let l = c.loop-k in
    let p = c.copy-run.ensures in
    let e = part_over _ _ _ c.next_part.ensures c.in-Over.is in
    all_written _ _ _ _ _ _ (l.invariant.0 ∙ p.same_left) (ap length e) c.requires.count_value c.requires.count_in_bounds

pub returns : goal.returns
returns c = let l = c.loop-k in all_written _ _ _ _ _ _ l.invariant.0 (omega (arith, l.invariant.1))
    c.requires.count_value c.requires.count_in_bounds

pub cell_of-requires : goal.cell_of-requires
cell_of-requires c = omega (arith, c.number_of.ensures.1)

pub shape_of-list-in-Over : goal.shape_of-list-in-Over
shape_of-list-in-Over c = c.copy-run.ensures.same_room
    ∙ c.loop-k.invariant.2

pub shape_of-list : goal.shape_of-list
shape_of-list c = c.loop-k.invariant.2
