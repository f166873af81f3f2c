-- `statements::notes_apart` meets its contract. The invariant: the notes from here on end as all of them do.
use mathlib.Core.Path.{◌≡◌}
use Rattle.tokens.specs.Gap.{left}
use Rattle.statements.specs.Note.{notes_here}
use Rattle.statements.proofs.notes_apart.Given as goal

abbrev pub invariant-loop-m : goal.invariant-loop-m
invariant-loop-m l = notes_here l.d l.initial.g ≡ notes_here l.d l.g

abbrev pub decreases-loop-m : goal.decreases-loop-m
decreases-loop-m l = left l.d l.g
