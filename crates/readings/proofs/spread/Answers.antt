-- `readings::spread` meets its contract: the set's answer.
use mathlib.Core.Path.{◌≡◌}
use mathlib.Core.Logic.{⊎_elim}
use mathlib.Core.Bool.{Bool, true, ◌&&◌, ◌||◌}
use Prim.Native.Nat.{ℕ, ◌≤◌}
use native.Mathlib.Nat.{pow-le-pow_right}
use native.Mathlib.Omega.{arith}
use borrow.Author.Tests.{leb-true}
use lib.Dec.{leb}
use Rattle.below.specs.Below.{and_left, either_true}
use Rattle.readings.proofs.Laws.{spread_answered}
use Rattle.readings.proofs.spread.Goals as goal

at_most : (n : ℕ) (x : Bool) → (leb n 8 || (leb n 64 && x)) ≡ true → n ≤ 64
at_most n x e =
    ⊎_elim
    (λ l. let h = leb-true n 8 l in omega arith)
    (λ l. leb-true n 64 (and_left (leb n 64) x l))
    (either_true (leb n 8) (leb n 64 && x) e)

pub read_few-requires : goal.read_few-requires
read_few-requires c = record {
  fields_facts = c.requires;
  n_in_bounds = at_most _ _ c.if-n-row.true;
}

pub read_spread-requires : goal.read_spread-requires
read_spread-requires c = let p = c.requires in record {
  fields_facts = p;
  scratch_len_bound = omega arith;
  width_in_bounds = pow-le-pow_right {n = 10} (omega arith) p.few;
}

pub returns-then-n-row : goal.returns-then-n-row
returns-then-n-row c = spread_answered _ _ _ _ _ _ _ _ c.set_answer.ensures c.read_few.ensures

pub returns : goal.returns
returns c = spread_answered _ _ _ _ _ _ _ _ c.set_answer-2.ensures c.read_spread.ensures
