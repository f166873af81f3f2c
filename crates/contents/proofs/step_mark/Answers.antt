use mathlib.Core.Path.{sym, ◌∙◌}
use native.Mathlib.Omega.{arith}
use Rattle.contents.specs.rule.Step.{mark_at}
use lib.ListN.{drop, length-drop}
use Rattle.markup.proofs.Gaps.{stands_long}
use Rattle.pairs.proofs.Stands.{angle_start, angle_close, name_long}
use Rattle.contents.proofs.step_mark.Goals as goal

pub step_note-requires : goal.step_note-requires
step_note-requires c = let a = c.args in
    omega (
      arith,
      stands_long _ (drop a.g.next a.d.now) (sym c.is_there.ensures ∙ c.if-is_there.true),
      length-drop a.g.next a.d.now,
    )

pub returns-then-is_there : goal.returns-then-is_there
unfolding mark_at
returns-then-is_there c = rw (sym c.is_there.ensures ∙ c.if-is_there.true) c.step_note.ensures

pub step_start-requires : goal.step_start-requires
step_start-requires c = let a = c.args in
    let n = name_long (angle_start a.bad a.d.now a.g.next _
    (sym c.read_angle.ensures ∙ c.in-Start.is)) in let m = n.0 in (omega arith, n.1)

pub step_close-requires : goal.step_close-requires
step_close-requires c = let a = c.args in
    let n = name_long (angle_close a.bad a.d.now a.g.next _
    (sym c.read_angle.ensures ∙ c.in-Close.is)).1 in let m = n.0 in (omega arith, n.1)

pub returns-in-Start : goal.returns-in-Start
unfolding mark_at
returns-in-Start c = rw (
  sym c.is_there.ensures
      ∙ c.if-is_there.false,
  sym c.read_angle.ensures ∙ c.in-Start.is,
) c.step_start.ensures

pub returns-in-Close : goal.returns-in-Close
unfolding mark_at
returns-in-Close c = rw (
  sym c.is_there.ensures
      ∙ c.if-is_there.false,
  sym c.read_angle.ensures ∙ c.in-Close.is,
) c.step_close.ensures

pub returns-in-Foreign : goal.returns-in-Foreign
unfolding mark_at
returns-in-Foreign c = rw (
  sym c.is_there.ensures ∙ c.if-is_there.false,
  sym c.read_angle.ensures ∙ c.in-Foreign.is,
)

pub returns-in-Broken : goal.returns-in-Broken
unfolding mark_at
returns-in-Broken c = rw (
  sym c.is_there.ensures
      ∙ c.if-is_there.false,
  sym c.read_angle.ensures ∙ c.in-Broken.is,
) c.broken.ensures
