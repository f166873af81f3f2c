-- `commas::send_comma` meets its contract.
use mathlib.Core.Path.{◌≡◌, refl}
use Prim.Native.Nat.{ℕ, zero, suc}
use mathlib.Core.List.{[], ◌∷◌}
use Rattle.commas.specs.Csv.{comma_before}
use Rattle.sink.specs.Sent.{sent_as, nothing_sent}
use Rattle.commas.proofs.send_comma.Goals as goal

behind : (i : ℕ) → (i ≡ 0 → ⊥) → 44 ∷ [] ≡ comma_before i
unfolding comma_before
behind zero n = absurd (n refl)
behind (suc i) n = refl

pub returns-then-i-eq0 : goal.returns-then-i-eq0
unfolding comma_before
returns-then-i-eq0 c = sent_as (nothing_sent _ _ _) (rw c.if-i-eq0.true)

pub returns : goal.returns
returns c = sent_as c.send_byte.ensures (behind _ c.if-i-eq0.false)
