use mathlib.Core.Path.{sym, ◌∙◌}
use native.Mathlib.Omega.{arith}
use Rattle.lows.specs.Lows.{clear_none}
use Rattle.pieces.specs.Scan.{clear_join, bits_plain, bits_first}
use Rattle.pieces.proofs.plain_near.Goals as goal

pub loop-i-init : goal.loop-i-init
loop-i-init c = (c.requires.0, clear_none _ _ c.requires.0)

pub returns-then-bits-ne0 : goal.returns-then-bits-ne0
returns-then-bits-ne0 c =
    let l = c.loop-i in
    let b = c.lows_of-bits.ensures in
    let f = c.first_at.ensures in
    rw (f, b) (clear_join _ _ _ _ l.invariant.1 (bits_first _ _ (omega arith) (λ z. c.if-bits-ne0.true (b ∙ z))))

pub loop-i-preserved : goal.loop-i-preserved
loop-i-preserved c =
    let l = c.loop-i in (
      omega arith,
      clear_join _ _ _ _ l.invariant.1 (bits_plain _ _ (omega arith) (sym c.lows_of-bits.ensures ∙ c.if-bits-ne0.false)),
    )

pub returns : goal.returns
returns c = c.loop-i.invariant.1
