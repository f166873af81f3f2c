use mathlib.Core.Path.{refl}
use Rattle.fronts.specs.Front.{front_at}
use Rattle.fronts.proofs.front_at.Goals as goal

pub returns : goal.returns
unfolding front_at
returns c =
    rw (
      ← c.past_opening-a.ensures,
      ← c.items_of-items.ensures,
      ← c.past_statement-b.ensures,
      ← c.find_statement-title.ensures,
      ← c.string_span-s.ensures,
    ) (rw (← c.either_place-e.ensures, ← c.past_statement-f.ensures, ← c.letter_at-l.ensures) refl)
