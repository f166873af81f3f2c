use mathlib.Core.Path.{refl, sym, ◌∙◌}
use Rattle.values.specs.Room.{small}
use Rattle.values.proofs.Facts.{or_none}
use Rattle.kinds.proofs.judge_short.Goals as goal

pub returns-then-xml-d : goal.returns-then-xml-d
returns-then-xml-d c = small refl tt

pub judge_few-requires : goal.judge_few-requires
judge_few-requires c =
    let p = c.requires in
    (p.0, sym p.1 ∙ or_none _ _ c.if-xml-d.false)

pub returns : goal.returns
returns c = c.judge_few.ensures
