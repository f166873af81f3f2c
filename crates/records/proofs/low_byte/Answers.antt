use mathlib.Core.Path.{sym, ◌∙◌}
use borrow.Author.Tests.{lt-ltb, le-ltb}
use Rattle.lows.specs.rule.Lows.{low_at}
use Rattle.records.proofs.Laws.{first_here, first_on, first_none, first_clear}
use Rattle.records.proofs.low_byte.Goals as goal

pub loop-i-init : goal.loop-i-init
loop-i-init c = let p = c.plain_to-i.ensures in first_clear (low_at c.args.bytes.now) _ _ p.within p.plain

pub returns-then-bytes-i-lt32 : goal.returns-then-bytes-i-lt32
returns-then-bytes-i-lt32 c = sym (first_here (low_at c.args.bytes.now) _ _
    c.loop-i-test.true (lt-ltb _ _ c.if-bytes-i-lt32.true)) ∙ c.loop-i.invariant

pub loop-i-preserved : goal.loop-i-preserved
loop-i-preserved c = sym (first_on (low_at c.args.bytes.now) _ _
    c.loop-i-test.true (le-ltb _ _ c.if-bytes-i-lt32.false)) ∙ c.loop-i.invariant

pub returns : goal.returns
returns c = sym (first_none (low_at c.args.bytes.now) _ _ c.loop-i-test.false) ∙ c.loop-i.invariant
