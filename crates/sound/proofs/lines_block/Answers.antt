use mathlib.Core.Path.{sym, ◌∙◌}
use native.Mathlib.Omega.{arith}
use Rattle.sound.specs.Values.{told_none, told_odd, told_block}
use Rattle.sound.proofs.lines_block.Goals as goal

pub returns-then-c-eq0 : goal.returns-then-c-eq0
returns-then-c-eq0 c = rw c.range_block.ensures (told_none _ _ _ c.if-c-eq0.true)

pub returns-then-not-lines_plain : goal.returns-then-not-lines_plain
returns-then-not-lines_plain c = rw c.range_block-then-not-lines_plain.ensures (told_odd _ _ _
    (sym c.lines_plain.ensures ∙ c.if-not-lines_plain.true))

pub block_of-requires : goal.block_of-requires
block_of-requires c = (c.requires.standing, omega (arith, c.if-c-eq0.false))

pub returns : goal.returns
returns c = told_block _ _ _ _ c.block_of.ensures (sym c.lines_plain.ensures ∙ c.if-not-lines_plain.false)

pub lines_plain-requires : goal.lines_plain-requires
lines_plain-requires c = record { standing = c.requires.standing; n_value = c.requires.lines_value }
