use mathlib.Core.Path.{refl}
use Rattle.marks.specs.Spelling.{idle}
use Rattle.marks.proofs.Parts.{part_said, part_over}
use Rattle.sink.specs.Sent.{all_owed, less_owed, none_owed}
use Rattle.name_line.specs.rule.Names.{plain_text}
use Rattle.name_line.specs.Names.{doubled_next, doubled_none, shorter}
use Rattle.name_line.proofs.send_signs.Goals as goal

pub loop-sign-init : goal.loop-sign-init
unfolding plain_text idle
loop-sign-init c = (all_owed _ _ _ refl, refl)

pub next_part-requires : goal.next_part-requires
next_part-requires c = record {
  classes = c.requires;
  inside_value = c.loop-sign.invariant.1;
}

pub loop-sign-smaller : goal.loop-sign-smaller
loop-sign-smaller c =
    shorter (part_said _ _ _ _ _ _ c.next_part.ensures c.in-Said.is).split

pub loop-sign-preserved : goal.loop-sign-preserved
loop-sign-preserved c =
    let s = part_said _ _ _ _ _ _ c.next_part.ensures c.in-Said.is in (
      less_owed c.loop-sign.invariant.0
          (doubled_next s.split c.byte_of.ensures) c.send_doubled-end.ensures,
      s.rests,
    )

pub shape_of-out-in-Over : goal.shape_of-out-in-Over
shape_of-out-in-Over c = c.loop-sign.invariant.0.same_room

pub returns-in-Over : goal.returns-in-Over
returns-in-Over c = none_owed c.loop-sign.invariant.0
    (doubled_none (part_over _ _ _ c.next_part.ensures c.in-Over.is))
