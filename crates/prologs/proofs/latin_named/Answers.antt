use mathlib.Core.Path.{sym, ◌∙◌}
use native.Mathlib.Omega.{arith}
use Rattle.prologs.specs.Pair.{latin_of}
use Rattle.prologs.proofs.latin_named.Goals as goal

pub is_encoding-requires : goal.is_encoding-requires
is_encoding-requires c = (c.requires.0, omega (arith, c.requires.1))

pub overflow_add-end : goal.overflow_add-end
overflow_add-end c = omega (arith, c.requires.1)

pub standalone_at-requires : goal.standalone_at-requires
standalone_at-requires c = omega (arith, c.requires.1)

pub returns-then-is_encoding : goal.returns-then-is_encoding
unfolding latin_of
returns-then-is_encoding c = rw (sym c.is_encoding.ensures ∙ c.if-is_encoding.true) c.standalone_at.ensures

pub returns : goal.returns
unfolding latin_of
returns c = rw (sym c.is_encoding.ensures ∙ c.if-is_encoding.false)
