use mathlib.Core.Path.{sym}
use Rattle.pages.specs.Stand.{range_none}
use Rattle.pages.proofs.range_at.Goals as goal

pub returns-then-v-gt0 : goal.returns-then-v-gt0
returns-then-v-gt0 c = sym (range_none (c.value_opened-v.ensures c.if-v-gt0.true) _ c.pass_blanks-m.ensures.0)

pub value_opened-v-requires : goal.value_opened-v-requires
value_opened-v-requires c = c.requires

pub range_apart-requires : goal.range_apart-requires
range_apart-requires c = c.requires

pub returns : goal.returns
returns c = c.range_apart.ensures
