use mathlib.Core.Path.{◌≡◌}
use Prim.Native.Nat.{ℕ}
use native.Mathlib.Omega.{arith}
use Rattle.values.proofs.cramped.Goals as goal

pub returns-then-last-lines : goal.returns-then-last-lines
returns-then-last-lines c = record {
  tight = λ e. let z : ◌≡◌ {A = ℕ} 0 1 = cc in absurd (omega arith);
  spare = λ e. record { so_far = c.requires.0; one_more = λ k. c.if-last-lines.true };
}

pub returns-then-last-ge-MOST_LINES : goal.returns-then-last-ge-MOST_LINES
returns-then-last-ge-MOST_LINES c = record {
  tight = λ e. let z : ◌≡◌ {A = ℕ} 0 1 = cc in absurd (omega arith);
  spare = λ e. record { so_far = c.requires.0; one_more = λ k. absurd (omega (arith, c.if-last-ge-MOST_LINES.true)) };
}

pub returns : goal.returns
returns c = record {
  tight = λ e. omega (arith, c.if-last-lines.false, c.if-last-ge-MOST_LINES.false);
  spare = λ e. let z : ◌≡◌ {A = ℕ} 0 1 = cc in absurd (omega arith);
}
