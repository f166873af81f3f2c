use mathlib.Core.Path.{◌∙◌, sym}
use borrow.Author.Rules.{rules}
use native.Mathlib.Omega.{arith}
use Rattle.blocks.proofs.Turns.{ran_first, ran_less, ran_more, ran_not, ran_over, ran_none}
use Rattle.blocks.proofs.read_values.Goals as goal

pub loop-place-init : goal.loop-place-init
loop-place-init c = ran_first c.requires.standing c.requires.at_in_bounds.0

pub value_tag-requires : goal.value_tag-requires
value_tag-requires c =
    let w = rw c.in-Start.is at c.find_open.ensures.1 in record {
      place_bound = (w.1, w.2, c.requires.at_in_bounds.1);
      standing = c.loop-place.invariant.standing;
    }

pub loop-place-smaller : goal.loop-place-smaller
loop-place-smaller c =
    let h = ran_less c.loop-place.invariant (sym c.find_open.ensures.0
    ∙ c.in-Start.is) c.value_tag.ensures c.in-Is.is in
    omega arith

pub loop-place-preserved : goal.loop-place-preserved
loop-place-preserved c =
    ran_more c.loop-place.invariant (sym c.find_open.ensures.0
    ∙ c.in-Start.is) c.value_tag.ensures c.in-Is.is

pub returns-in-Not-value_tag : goal.returns-in-Not-value_tag
returns-in-Not-value_tag c =
    ran_not c.loop-place.invariant (sym c.find_open.ensures.0
    ∙ c.in-Start.is) c.value_tag.ensures c.in-Not-value_tag.is

pub returns-in-Shut : goal.returns-in-Shut
returns-in-Shut c =
    let w = rw c.in-Shut.is at c.find_open.ensures.1 in
    ran_over c.loop-place.invariant
    (sym c.find_open.ensures.0 ∙ c.in-Shut.is) w.2

pub returns-in-Not : goal.returns-in-Not
returns-in-Not c = ran_none c.loop-place.invariant
    (sym c.find_open.ensures.0 ∙ c.in-Not.is)

pub shape_of-lines-in-Not-value_tag : goal.shape_of-lines-in-Not-value_tag
shape_of-lines-in-Not-value_tag c =
    let g = c.lines-1.given in
    let h = c.loop-place.invariant.standing.lines.holds.kept in
    let k = c.requires.standing.lines.holds.kept in
    search rules

pub shape_of-marks-in-Not-value_tag : goal.shape_of-marks-in-Not-value_tag
shape_of-marks-in-Not-value_tag c =
    let g = c.marks-1.given in
    let h = c.loop-place.invariant.standing.lines.holds.slots in
    let k = c.requires.standing.lines.holds.slots in
    search rules

pub shape_of-lines-in-Shut : goal.shape_of-lines-in-Shut
shape_of-lines-in-Shut c =
    let h = c.loop-place.invariant.standing.lines.holds.kept in
    let k = c.requires.standing.lines.holds.kept in
    search rules

pub shape_of-marks-in-Shut : goal.shape_of-marks-in-Shut
shape_of-marks-in-Shut c =
    let h = c.loop-place.invariant.standing.lines.holds.slots in
    let k = c.requires.standing.lines.holds.slots in
    search rules

pub shape_of-lines-in-Not : goal.shape_of-lines-in-Not
shape_of-lines-in-Not c =
    let h = c.loop-place.invariant.standing.lines.holds.kept in
    let k = c.requires.standing.lines.holds.kept in
    search rules

pub shape_of-marks-in-Not : goal.shape_of-marks-in-Not
shape_of-marks-in-Not c =
    let h = c.loop-place.invariant.standing.lines.holds.slots in
    let k = c.requires.standing.lines.holds.slots in
    search rules

pub overflow_add-last : goal.overflow_add-last
overflow_add-last c = omega (
  arith,
  c.loop-place.invariant.standing.lines.holds.most,
)
