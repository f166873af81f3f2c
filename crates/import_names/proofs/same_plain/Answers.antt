use mathlib.Core.Path.{refl, sym, ◌∙◌}
use native.Mathlib.Omega.{arith}
use Rattle.marks.specs.Spelling.{idle}
use Rattle.marks.proofs.Parts.{part_said, part_over}
use Rattle.name_line.specs.rule.Names.{plain_text}
use Rattle.name_line.specs.Names.{shorter}
use Rattle.import_names.specs.Names.{name_short, name_other, name_next, name_ends}
use Rattle.import_names.proofs.same_plain.Goals as goal

pub loop-sign-init : goal.loop-sign-init
unfolding plain_text idle
loop-sign-init c = (refl, refl)

pub next_part-requires : goal.next_part-requires
next_part-requires c = record {
  classes = c.requires;
  inside_value = c.loop-sign.invariant.1;
}

pub returns-then-raw-i : goal.returns-then-raw-i
returns-then-raw-i c =
    let s = part_said _ _ _ _ _ _ c.next_part.ensures c.in-Said.is in
    sym (c.loop-sign.invariant.0 ∙ name_short s.split _ _ c.if-raw-i.true)

pub returns-then-byte_of-b : goal.returns-then-byte_of-b
returns-then-byte_of-b c =
    let s = part_said _ _ _ _ _ _ c.next_part.ensures
    c.in-Said.is in
    sym (c.loop-sign.invariant.0
    ∙ name_other s.split _ _ c.if-raw-i.false c.byte_of.ensures c.if-byte_of-b.true)

pub overflow_add-i : goal.overflow_add-i
overflow_add-i c = omega (arith, c.if-raw-i.false, c.stride_of-i.ensures.2)

pub loop-sign-smaller : goal.loop-sign-smaller
loop-sign-smaller c =
    shorter (part_said _ _ _ _ _ _ c.next_part.ensures c.in-Said.is).split

pub loop-sign-preserved : goal.loop-sign-preserved
loop-sign-preserved c =
    let s = part_said _ _ _ _ _ _ c.next_part.ensures
    c.in-Said.is in (
      c.loop-sign.invariant.0
          ∙ rw c.stride_of-i.ensures.0 (name_next s.split _ _ c.if-raw-i.false
          c.byte_of.ensures c.if-byte_of-b.false),
      s.rests,
    )

pub returns-in-Over : goal.returns-in-Over
returns-in-Over c = name_ends (part_over _ _ _ c.next_part.ensures c.in-Over.is)
    c.args.raw.now c.loop-sign.i
    ∙ sym c.loop-sign.invariant.0
