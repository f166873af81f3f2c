-- A number that is sent as it stands: its digits are what is written for it.
use Rattle.std.specs.Prelude.{◌≡◌, Bool, cond, ℕ, ◌-◌, ◌≤◌, drop}
use Rattle.std.proofs.Math.Bool.{true, false}
use mathlib.Core.List.{List, []}
use native.Mathlib.Omega.{arith}
use Rattle.std.proofs.Math.Dec.{eqb}
use Rattle.std.proofs.Math.ListN.{length}
use Rattle.layout.specs.declared.Format.{Format}
use Rattle.widths.specs.rule.Width.{tail_of}

abbrev pub tail_text : Format → List ℕ → List ℕ
tail_text f s = cond (eqb f.decimals 0) [] (drop (length s - tail_of f) s)

-- where the text ends
pub end_reach : (b : Bool) (e k n : ℕ) → e ≡ cond b k n → k ≤ n → (k ≤ e) × (e ≤ n)
end_reach true e k n q h = (omega arith, omega arith)
end_reach false e k n q h = (omega arith, omega arith)
