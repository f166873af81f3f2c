-- `little::put_number` meets its contract. The invariant: what is left to put, from here, gives the whole.
-- Assumes nothing.
use mathlib.Core.Path.{◌≡◌}
use mathlib.Core.List.{List}
use Prim.Native.Nat.{ℕ, ◌+◌, ◌-◌}
use Rattle.little.specs.rule.Bytes.{little_bytes, put_at}
use Rattle.little.proofs.put_number.Given as goal

-- n put in what is left of w places, from i on
abbrev pub rest : List ℕ → ℕ → ℕ → ℕ → ℕ → List ℕ
rest out at w n i = put_at out (at + i) (little_bytes (w - i) n)

abbrev pub invariant-loop-i : goal.invariant-loop-i
invariant-loop-i l = rest l.out l.at l.width l.left l.i ≡ put_at l.initial.out l.at (little_bytes l.width l.n)
