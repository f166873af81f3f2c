-- `readings::is_illegal` meets its contract: the one answer, or another.
use mathlib.Core.Path.{◌≡◌, refl}
use mathlib.Core.Bool.{false}
use Rattle.readings.specs.declared.Answer.{Answer}
use Rattle.readings.specs.declared.Answer.TheVariants.{Missing, Number, Set, Text, Truth}
use Rattle.readings.specs.declared.Answer.TheVariants.{BadTable, NoRow, ShortRecord, Illegal, ShortList}
use Rattle.readings.specs.Answer.{illegal_answer}
use Rattle.readings.proofs.is_illegal.Goals as goal

other : (a : Answer) → (a ≡ Illegal → ⊥) → false ≡ illegal_answer a
unfolding illegal_answer
other Missing h = refl
other (Number z) h = refl
other (Set n) h = refl
other (Text p n) h = refl
other (Truth b) h = refl
other BadTable h = refl
other NoRow h = refl
other ShortRecord h = refl
other Illegal h = absurd (h refl)
other ShortList h = refl

pub returns-in-Illegal : goal.returns-in-Illegal
unfolding illegal_answer
returns-in-Illegal c = rw c.in-Illegal.is

pub returns-in_default : goal.returns-in_default
returns-in_default c = other c.args.a c.in_default.not-Illegal
