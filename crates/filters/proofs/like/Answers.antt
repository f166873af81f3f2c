use mathlib.Core.Path.{◌≡◌, refl, ◌∙◌}
use mathlib.Core.Bool.{Bool, true, false, cond}
use Rattle.filters.proofs.like.Goals as goal

either : (b q : Bool) → q ≡ cond b q q
either true q = refl
either false q = refl

pub returns-in-Byte-y : goal.returns-in-Byte-y
returns-in-Byte-y c = c.same_byte.ensures ∙ rw (c.in-Byte.is, c.in-Byte-y.is)

pub returns-in-Break-y : goal.returns-in-Break-y
returns-in-Break-y c = rw (c.in-Byte.is, c.in-Break-y.is)
    (either c.args.standard false)

pub returns-in-Byte-y-2 : goal.returns-in-Byte-y-2
returns-in-Byte-y-2 c = rw (c.in-Break.is, c.in-Byte-y-2.is)
    (either c.args.standard false)

pub returns-in-Break-y-2 : goal.returns-in-Break-y-2
returns-in-Break-y-2 c = rw (c.in-Break.is, c.in-Break-y-2.is)
    (either c.args.standard true)
