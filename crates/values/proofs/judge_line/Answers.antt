use mathlib.Core.Path.{◌≡◌, ◌∙◌, sym}
use Prim.Native.Nat.{ℕ, ◌+◌, ◌-◌, ◌≤◌}
use native.Mathlib.Omega.{arith}
use mir.Facts.{to_z-of_z}
use borrow.Author.Rules.{sfits_of}
use borrow.Author.Tests.{eq-eqb, ne_eqb, le-leb, lt-leb}
use Rattle.values.specs.Line.{judge_line}
use Rattle.values.proofs.Facts.{sound_value}
use mir.Syntax.{w64}
use Rattle.values.proofs.judge_line.Goals as goal

-- the lines in all
all_lines : (first last : ℕ) → first ≤ last → first + (last - first) ≡ last
all_lines first last h = omega arith

pub returns-then-f-ne0 : goal.returns-then-f-ne0
unfolding judge_line
returns-then-f-ne0 c = rw (sym c.line_fault-f.ensures, ne_eqb _ 0 c.if-f-ne0.true)

pub scaled-z-requires : goal.scaled-z-requires
scaled-z-requires c = (sound_value _ _ _ (sym c.line_fault-f.ensures ∙ c.if-f-ne0.false)).1

pub said_before-requires : goal.said_before-requires
said_before-requires c =
    let p = c.requires in record {
      last_in_bounds = p.last_in_bounds;
      marks_len = p.marks_len;
      marked = p.marked;
      z_value = to_z-of_z {w = w64} (sfits_of c.scaled-z.type_inv) ∙ c.scaled-z.ensures;
    }

pub returns-then-said_before : goal.returns-then-said_before
unfolding judge_line
returns-then-said_before c =
    let e = rw (to_z-of_z (sfits_of c.scaled-z.type_inv)) at (sym c.said_before.ensures ∙ c.if-said_before.true) in
    rw (
      sym c.line_fault-f.ensures,
      eq-eqb _ 0 c.if-f-ne0.false,
      sym c.scaled-z.ensures,
      e,
    )

pub returns-then-last-ge-MOST_LINES : goal.returns-then-last-ge-MOST_LINES
unfolding judge_line
returns-then-last-ge-MOST_LINES c =
    let e = rw (to_z-of_z (sfits_of c.scaled-z.type_inv)) at
    (sym c.said_before.ensures ∙ c.if-said_before.false) in
    rw (
      sym c.line_fault-f.ensures,
      eq-eqb _ 0 c.if-f-ne0.false,
      sym c.scaled-z.ensures,
      e,
      all_lines _ _ c.requires.last_in_bounds.1,
      le-leb 4096 _ c.if-last-ge-MOST_LINES.true,
    )

pub returns : goal.returns
unfolding judge_line
returns c =
    let e = rw (to_z-of_z (sfits_of c.scaled-z.type_inv)) at
    (sym c.said_before.ensures ∙ c.if-said_before.false) in
    rw (
      sym c.line_fault-f.ensures,
      eq-eqb _ 0 c.if-f-ne0.false,
      sym c.scaled-z.ensures,
      e,
      all_lines _ _ c.requires.last_in_bounds.1,
      lt-leb 4096 _ c.if-last-ge-MOST_LINES.false,
      to_z-of_z (sfits_of c.scaled-z.type_inv),
    )
