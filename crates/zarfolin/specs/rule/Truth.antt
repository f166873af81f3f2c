-- A truth that is given as a number, for C and Rust: 0 and 1 are truths, any other is none.
use Rattle.std.specs.Prelude.{List, ℕ, ◌≤◌, ◌<◌, eqb, ℤ}
use Rattle.fields.specs.rule.Field.{truth}
use Rattle.writes.specs.rule.Public.{Written}
use Rattle.corrections.specs.rule.Truth.{NoTruth}

-- THE PROMISE for the number b: the write of that truth, or none
pub record TruthTold (t : List ℤ) (i b : ℕ) (old new : List ℕ) (r : ℕ) : Type 0 where
  pub given : b < 2 → Written t i (truth (eqb b 1)) old new r
  pub other : 2 ≤ b → NoTruth t i old new r
