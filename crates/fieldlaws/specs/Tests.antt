-- What holds of both branches, and of counts that differ.
use Rattle.std.specs.Prelude.{◌≡◌, refl, Bool, true, false, cond, ◌||◌, ℕ, pos}
use Rattle.std.proofs.Common.{ne_eqb}
use Rattle.cells.specs.rule.Cell.{eq_z}

-- what holds of both holds of the one that is taken
pub either : {A : Type 0} (P : A → Type 0) (b : Bool) (x y : A) → P x → P y → P (cond b x y)
either P true x y p q = p
either P false x y p q = q

pub or_left : (a : Bool) → (a || false) ≡ true → a ≡ true
or_left true e = refl
or_left false e = e

pub counts_differ : (a b : ℕ) → (a ≡ b → ⊥) → eq_z (pos a) (pos b) ≡ false
unfolding eq_z
counts_differ a b h = ne_eqb a b h
