-- `tokens::lead_at` meets its contract. The invariant: the digits so far and those from here on say what the whole says.
use mathlib.Core.Path.{◌≡◌}
use Prim.Native.Nat.{◌-◌, ◌≤◌, max}
use lib.ListN.{length}
use Rattle.scan.specs.rule.Text.{text}
use Rattle.scan.specs.Number.{digits_from}
use Rattle.tokens.proofs.lead_at.Given as goal

abbrev pub invariant-loop-i : goal.invariant-loop-i
invariant-loop-i l = (digits_from 0 0 l.at (text l.d l.at) ≡ digits_from l.v (l.i - l.at) l.i (text l.d l.i))
    × (l.i ≤ max l.at (length l.d)) × (l.v ≤ 1000000000000000)
