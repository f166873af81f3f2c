use mathlib.Core.Path.{refl, sym}
use Rattle.values.specs.Line.{listed_of}
use Rattle.values.specs.Block.{range_then}
use Rattle.values.specs.Room.{holds}
use Rattle.values.proofs.Lists.{stored_none, stored_not}
use Rattle.values.proofs.range_then.Goals as goal

pub returns-then-with : goal.returns-then-with
unfolding range_then
returns-then-with c =
    rw (
      c.in-Is.is,
      sym c.notes_on-t.ensures,
      c.if-with.true,
      sym c.value_here-a.ensures,
    ) c.read_lines.ensures

pub returns-in-Not : goal.returns-in-Not
unfolding range_then listed_of
returns-in-Not c = rw c.in-Not.is (holds (refl, stored_not _ _ _ _))

pub returns-else-with : goal.returns-else-with
unfolding range_then
returns-else-with c =
    rw (
      c.in-Is.is,
      sym c.notes_on-t.ensures,
      c.if-with.false,
      sym c.word_here-e.ensures,
      sym c.word_on-v.ensures,
    ) (holds (c.close_block.ensures, stored_none _ _ _ _))
