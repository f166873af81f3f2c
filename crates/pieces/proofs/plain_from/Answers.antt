-- `pieces::plain_from` meets its contract: what is clear in the first sixteen, the next, far and near is one stretch.
use mathlib.Core.Path.{sym, ◌∙◌}
use native.Mathlib.Omega.{arith}
use Rattle.lows.specs.Lows.{clear_none}
use Rattle.pieces.specs.Scan.{clear_join, bits_plain, bits_first}
use Rattle.pieces.proofs.plain_from.Goals as goal

pub returns-then-n-from-lt32 : goal.returns-then-n-from-lt32
returns-then-n-from-lt32 c = clear_none _ _ (omega arith)

pub returns-then-bits-ne0 : goal.returns-then-bits-ne0
returns-then-bits-ne0 c =
    let b = c.lows_of-bits.ensures in
    rw (c.first_at.ensures, b) (bits_first _ _ (omega arith) (λ z. c.if-bits-ne0.true (b ∙ z)))

pub returns-then-more-ne0 : goal.returns-then-more-ne0
returns-then-more-ne0 c =
    let b = c.lows_of-more.ensures in
    let a = sym c.lows_of-bits.ensures ∙ c.if-bits-ne0.false in
    rw (c.first_at-then-more-ne0.ensures, b)
    (clear_join _ _ _ _ (bits_plain _ _ (omega arith) a) (bits_first _ _ (omega arith) (λ z. c.if-more-ne0.true (b ∙ z))))

pub returns : goal.returns
returns c =
    let b = sym c.lows_of-more.ensures ∙ c.if-more-ne0.false in
    let a = sym c.lows_of-bits.ensures ∙ c.if-bits-ne0.false in
    clear_join _ _ _ _ (bits_plain _ _ (omega arith) a)
    (clear_join _ _ _ _ (bits_plain _ _ (omega arith) b) (clear_join _ _ _ _ c.plain_far-far.ensures c.plain_near.ensures))
