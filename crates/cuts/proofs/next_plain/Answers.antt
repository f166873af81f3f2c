-- `cuts::next_plain` meets its contract: no terminator begins before the one that stands there.
use mathlib.Core.Path.{◌≡◌, sym, ◌∙◌}
use Prim.Native.Nat.{ℕ}
use native.Mathlib.Omega.{arith}
use Rattle.cuts.specs.Records.{plain_next}
use Rattle.cuts.proofs.next_plain.Goals as goal

pub returns-then-d-from : goal.returns-then-d-from
returns-then-d-from c e = let z : ◌≡◌ {A = ℕ} 0 1 = cc in absurd (omega arith)

pub returns-then-begins_at : goal.returns-then-begins_at
returns-then-begins_at c e =
    let at-if2 = c.before.before in
    let start = at-if2.before.before.before.before in
    let a = start.args in
    plain_next a.d.now a.w a.from a.size start.requires.ending.low (omega arith)
    (sym at-if2.begins_at.ensures ∙ at-if2.if-begins_at.true) (c.all_plain.ensures e)

pub returns : goal.returns
returns c e = let z : ◌≡◌ {A = ℕ} 0 1 = cc in absurd (omega arith)
