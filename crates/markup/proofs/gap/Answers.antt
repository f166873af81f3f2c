use mathlib.Core.Path.{refl, sym, ◌∙◌}
use native.Mathlib.Omega.{arith}
use Rattle.markup.proofs.Whites.{gap_over, note_fits, gap_noted, gap_broken}
use Rattle.markup.proofs.gap.Goals as goal

pub loop-bad-init : goal.loop-bad-init
loop-bad-init c = (refl, omega arith)

pub is_note-requires : goal.is_note-requires
is_note-requires c = c.pass_white-i.ensures.whites.within

pub returns-then-not-is_note : goal.returns-then-not-is_note
returns-then-not-is_note c =
    let a = c.args in
    sym (c.loop-bad.invariant.0 ∙ gap_over a.bad a.d.now _ _ c.pass_white-i.ensures
    (sym c.is_note.ensures ∙ c.if-not-is_note.true))

pub overflow_add-i : goal.overflow_add-i
overflow_add-i c =
    let a = c.args in
    omega (
      arith,
      note_fits a.bad a.d.now _ _ c.pass_white-i.ensures
          (sym c.is_note.ensures ∙ c.if-not-is_note.false),
    )

pub comment-requires : goal.comment-requires
comment-requires c =
    let a = c.args in
    note_fits a.bad a.d.now _ _ c.pass_white-i.ensures
    (sym c.is_note.ensures ∙ c.if-not-is_note.false)

pub loop-bad-smaller : goal.loop-bad-smaller
loop-bad-smaller c =
    let a = c.args in
    let w = c.pass_white-i.ensures in
    let g = gap_noted a.bad a.d.now _ _ w (sym c.is_note.ensures
    ∙ c.if-not-is_note.false) _
    (sym c.comment.ensures ∙ c.in-Past.is) in
    let o = w.whites.on in
    omega (arith, g.1, g.2)

pub loop-bad-preserved : goal.loop-bad-preserved
loop-bad-preserved c =
    let a = c.args in
    let g = gap_noted a.bad a.d.now _ _ c.pass_white-i.ensures
    (sym c.is_note.ensures ∙ c.if-not-is_note.false) _
    (sym c.comment.ensures ∙ c.in-Past.is) in
    (c.loop-bad.invariant.0 ∙ g.0, g.2)

pub returns-in-Broken : goal.returns-in-Broken
returns-in-Broken c =
    let a = c.args in
    sym (c.loop-bad.invariant.0
    ∙ gap_broken a.bad a.d.now _ _ c.pass_white-i.ensures
    (sym c.is_note.ensures ∙ c.if-not-is_note.false) _
    (sym c.comment.ensures ∙ c.in-Broken.is))
