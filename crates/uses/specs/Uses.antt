-- What follows from rule/Uses.antt.
use Rattle.std.specs.Prelude.{◌≡◌, Bool, ◌&&◌, ℕ, ◌≤◌, eqb}
use Rattle.std.proofs.Common.{◌∙◌, arith, eq-eqb, eqb-true}
use Rattle.std.proofs.Math.Bool.{true, false, cond}
use Rattle.std.specs.Int.Bits.{bit_or, or_add_and}
use Rattle.std.proofs.lemmas.Nat.{and_le_l, and_le_r}
use Rattle.below.specs.Below.{and_left, and_right, and_true, same_bool}
use Rattle.layout.specs.declared.Columns.{Columns}
use Rattle.uses.specs.rule.Uses.{is_use}

-- one number over another is 0 just where both are
or_none : (a b : ℕ) → eqb (bit_or a b) 0 ≡ (eqb a 0 && eqb b 0)
or_none a b =
    same_bool _ _
    (λ e.
    let z = eqb-true (bit_or a b) 0 e in
    and_true (eqb a 0) (eqb b 0) (eq-eqb a 0 (omega (arith, or_add_and a b, and_le_r a b)))
    (eq-eqb b 0 (omega (arith, or_add_and a b, and_le_l a b))))
    (λ e.
    let x = eqb-true a 0 (and_left (eqb a 0) (eqb b 0) e) in
    let y = eqb-true b 0 (and_right (eqb a 0) (eqb b 0) e) in
    rw (x, y))

-- use and filter of a row laid over those of the rows before it
pub laid_none : (n usage filter : ℕ) → eqb (bit_or n (bit_or usage filter)) 0 ≡ (eqb n 0 && (eqb usage 0 && eqb filter 0))
laid_none n usage filter = or_none n (bit_or usage filter) ∙ rw (or_none usage filter)

pub use_one : (usage k : ℕ) → is_use usage k ≤ 1
unfolding is_use
use_one usage k = go (eqb usage k)
  where
    go : (b : Bool) → cond b 1 0 ≤ 1
    go true = omega arith
    go false = omega arith

-- what the test gives of every row, whatever the mark: a use that there is, and a filter, if any, before it
pub record UseFew (i : ℕ) (c : Columns) : Type 0 where
  pub known : c.usage ≤ 2
  pub earlier : c.filter ≤ i
