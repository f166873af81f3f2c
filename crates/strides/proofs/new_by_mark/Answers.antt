use mathlib.Core.Path.{sym}
use Rattle.strides.proofs.new_by_mark.Goals as goal

pub returns-then-mark-eq0 : goal.returns-then-mark-eq0
returns-then-mark-eq0 c = sym (c.requires.k_value c.if-mark-eq0.true)
