use mathlib.Core.Path.{refl, ◌∙◌, sym}
use lib.ListN.{length}
use native.Mathlib.Omega.{arith}
use borrow.Author.Rules.{rules}
use Rattle.values.specs.Room.{Spare, holds, small}
use Rattle.values.proofs.Lists.{none_held, marked_here, went_more, went_over, turned_not, lines_more, lines_done, listed_over}
use Rattle.values.proofs.Lists.{listed_not}
use Rattle.values.proofs.read_lines.Goals as goal
use Rattle.values.proofs.read_lines.Goals.{After-one_line}

-- the room that there was for the line
spare : (c : After-one_line) → Spare (length c.args.lines.now) c.loop-a.last
spare c =
    rw c.loop-a.invariant.holds.kept at (c.cramped.ensures.spare c.if-cramped.false)

pub loop-a-init : goal.loop-a-init
loop-a-init c =
    let p = c.requires.first_in_bounds in
    record { lines = _; same = refl; holds = none_held _ _ _ _ _ p.1 p.0 refl p.2 }

pub cramped-requires : goal.cramped-requires
cramped-requires c =
    let h = c.loop-a.invariant.holds in
    (omega (arith, h.enough, h.kept), h.most)

pub shape_of-lines-then-cramped : goal.shape_of-lines-then-cramped
shape_of-lines-then-cramped c =
    let h = c.loop-a.invariant.holds.kept in
    search rules

pub shape_of-marks-then-cramped : goal.shape_of-marks-then-cramped
shape_of-marks-then-cramped c =
    let h = c.loop-a.invariant.holds.slots in
    let k = c.requires.first_in_bounds.2 in
    search rules

pub returns-then-cramped : goal.returns-then-cramped
returns-then-cramped c =
    let h = c.loop-a.invariant.holds in
    small c.no_room.ensures (omega (arith, c.cramped.ensures.tight c.if-cramped.true, h.kept))

pub one_line-requires : goal.one_line-requires
one_line-requires c =
    let h = c.loop-a.invariant.holds in
    let p = c.requires in record {
      classes = p.classes;
      d_len_bound = p.d_len_bound;
      spare = (c.cramped.ensures.spare c.if-cramped.false, omega (arith, h.count), h.most, h.slots);
      marked = marked_here h;
    }

-- a line more
pub loop-a-preserved : goal.loop-a-preserved
loop-a-preserved c =
    let i = c.loop-a.invariant in
    let e = c.one_line.ensures in
    let o = went_more _ _ _ _ _ i.holds e.value e.lines_after e.marks_after (spare (goal.at.loop-a-preserved c).After-one_line)
    c.in-More.is in
    record { lines = _; same = i.same ∙ lines_more _ _ _ _ o.step; holds = o.holds }

pub loop-a-smaller : goal.loop-a-smaller
loop-a-smaller c =
    let i = c.loop-a.invariant in
    let e = c.one_line.ensures in
    let o = went_more _ _ _ _ _ i.holds e.value e.lines_after e.marks_after (spare (goal.at.loop-a-smaller c).After-one_line)
    c.in-More.is in
    omega (arith, o.more)

pub returns-in-Over : goal.returns-in-Over
returns-in-Over c =
    let i = c.loop-a.invariant in
    let e = c.one_line.ensures in
    let o = went_over _ _ _ _ _ i.holds e.value e.lines_after e.marks_after (spare (goal.at.returns-in-Over c).After-one_line)
    c.in-Over.is in
    holds (listed_over (i.same ∙ lines_done _ _ _ _ o.step) o.holds)

pub returns-in-Not : goal.returns-in-Not
returns-in-Not c =
    let i = c.loop-a.invariant in
    holds (listed_not _ _ _ (i.same ∙ lines_done _ _ _ _ (turned_not _ _ _ _ _ i.holds (sym c.in-Not.is
    ∙ c.one_line.ensures.value))))

pub overflow_add-last : goal.overflow_add-last
overflow_add-last c = omega (
  arith,
  c.loop-a.invariant.holds.most,
)

pub overflow_add-result : goal.overflow_add-result
overflow_add-result c = omega (
  arith,
  c.loop-a.invariant.holds.most,
)
