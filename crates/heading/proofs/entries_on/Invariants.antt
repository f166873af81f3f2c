-- `heading::entries_on` meets its contract. The invariant: the statements from here on end as all of them do.
use mathlib.Core.Path.{◌≡◌}
use Rattle.tokens.specs.Gap.{left}
use Rattle.heading.specs.Heading.{entered, entries_from}
use Rattle.heading.proofs.entries_on.Given as goal

abbrev pub invariant-loop-which : goal.invariant-loop-which
invariant-loop-which l = entries_from l.d (entered l.initial.h l.initial.g) ≡ entries_from l.d (entered l.h l.g)

abbrev pub decreases-loop-which : goal.decreases-loop-which
decreases-loop-which l = left l.d l.g
