use mathlib.Core.Path.{sym, ◌∙◌}
use Rattle.contents.specs.rule.Step.{note_at}
use Rattle.contents.proofs.step_note.Goals as goal

pub returns-in-Past : goal.returns-in-Past
unfolding note_at
returns-in-Past c = rw (sym c.comment.ensures ∙ c.in-Past.is) c.go_on.ensures

pub returns-in-Broken : goal.returns-in-Broken
unfolding note_at
returns-in-Broken c = rw (sym c.comment.ensures ∙ c.in-Broken.is) c.broken.ensures
