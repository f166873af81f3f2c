use mathlib.Core.Path.{refl, sym, ◌∙◌}
use Rattle.marks.specs.Spelling.{idle}
use Rattle.marks.proofs.Parts.{part_said, part_over}
use Rattle.name_line.specs.rule.Names.{plain_text}
use Rattle.name_line.specs.Names.{special_next, special_none, shorter}
use Rattle.name_line.proofs.needs_quotes.Goals as goal

pub loop-sign-init : goal.loop-sign-init
unfolding plain_text idle
loop-sign-init c = (refl, refl)

pub next_part-requires : goal.next_part-requires
next_part-requires c = record {
  classes = c.requires;
  inside_value = c.loop-sign.invariant.1;
}

pub returns-then-special : goal.returns-then-special
returns-then-special c =
    let s = part_said _ _ _ _ _ _ c.next_part.ensures
    c.in-Said.is in
    sym (c.loop-sign.invariant.0
    ∙ special_next s.split c.byte_of.ensures ∙ rw (sym c.special.ensures, c.if-special.true))

pub loop-sign-smaller : goal.loop-sign-smaller
loop-sign-smaller c = let s = part_said _ _ _ _ _ _ c.next_part.ensures
    c.in-Said.is in shorter s.split

pub loop-sign-preserved : goal.loop-sign-preserved
loop-sign-preserved c =
    let s = part_said _ _ _ _ _ _ c.next_part.ensures
    c.in-Said.is in (
      c.loop-sign.invariant.0 ∙ special_next s.split c.byte_of.ensures
          ∙ rw (sym c.special.ensures, c.if-special.false),
      s.rests,
    )

pub returns-in-Over : goal.returns-in-Over
returns-in-Over c = sym (c.loop-sign.invariant.0
    ∙ special_none (part_over _ _ _ c.next_part.ensures c.in-Over.is))
