use mathlib.Core.Path.{refl, ◌∙◌, sym, ap}
use Rattle.scan.proofs.Texts.{stepped, ended}
use Rattle.marks.specs.Spelling.{given_list}
use Rattle.marks.proofs.Parts.{idle_half, go_half, go_ready, part_gives, part_on, part_closed, part_wrong, part_end}
use native.Mathlib.Omega.{arith}
use Rattle.marks.proofs.next_part.Goals as goal

pub loop-byte-init : goal.loop-byte-init
loop-byte-init c = (refl, idle_half _ _ c.requires.inside_value)

pub completed-requires : goal.completed-requires
completed-requires c = record {
  classes = c.requires.classes;
  b_value = go_ready _ _ _ _ c.loop-byte.invariant.1 (sym c.move_inside.ensures ∙ c.in-Go.is);
}

pub returns-in-One : goal.returns-in-One
returns-in-One c =
    let s = stepped _ _ c.next_byte.ensures
    c.in-Byte.is in
    sym (c.loop-byte.invariant.0
    ∙ part_gives _ _ s.split c.move_inside.ensures c.in-Go.is
    (sym c.completed.ensures ∙ ap given_list c.in-One.is) ∙ rw s.next)

pub loop-byte-smaller : goal.loop-byte-smaller
loop-byte-smaller c =
    let s = stepped _ _ c.next_byte.ensures c.in-Byte.is in
    omega arith

pub loop-byte-preserved : goal.loop-byte-preserved
loop-byte-preserved c =
    let s = stepped _ _ c.next_byte.ensures
    c.in-Byte.is in (
      c.loop-byte.invariant.0 ∙ part_on _ _ s.split c.move_inside.ensures
          c.in-Go.is (sym c.completed.ensures ∙ ap given_list c.in-Nothing.is),
      go_half _ _ _ (sym c.move_inside.ensures ∙ c.in-Go.is),
    )

pub returns-in-Closed : goal.returns-in-Closed
returns-in-Closed c =
    let s = stepped _ _ c.next_byte.ensures
    c.in-Byte.is in
    sym (c.loop-byte.invariant.0
    ∙ part_closed _ _ s.split c.move_inside.ensures c.in-Closed.is)

pub returns-in-Wrong : goal.returns-in-Wrong
returns-in-Wrong c =
    let s = stepped _ _ c.next_byte.ensures
    c.in-Byte.is in
    sym (c.loop-byte.invariant.0
    ∙ part_wrong _ _ s.split c.move_inside.ensures c.in-Wrong.is)

pub returns-in-End : goal.returns-in-End
returns-in-End c = sym (c.loop-byte.invariant.0
    ∙ part_end _ _ (ended _ _ c.next_byte.ensures c.in-End.is))
