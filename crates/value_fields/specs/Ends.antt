-- The spaces at a text's end, as they are taken away.
use Rattle.std.specs.Prelude.{◌≡◌, List, ℕ, zero, suc, ◌+◌, ◌-◌, ◌≤◌, ◌<◌, length, take, get_or}
use Rattle.std.proofs.Common.{sym, ◌∙◌, add-zero, arith}
use Rattle.fields.specs.rule.Number.{all_spaces}
use Rattle.fields.specs.rule.Field.{unended}
use Rattle.letters.proofs.Ends.{space_unended, space_all}

-- the n bytes from a place on are spaces
abbrev pub SpacesFrom : List ℕ → ℕ → ℕ → Type 0
SpacesFrom s i n = (j : ℕ) → j < n → get_or s (i + j) 0 ≡ 32

-- the first n bytes end where the whole does
pub record EndsAt (s : List ℕ) (n : ℕ) : Type 0 where
  pub few : n ≤ length s
  pub ends : unended (take n s) ≡ unended s
  pub blank : all_spaces (take n s) ≡ all_spaces s

-- a space at the end is taken away, and n of them
one_gone : (s : List ℕ) (n m : ℕ) → n ≡ suc m → EndsAt s n → get_or s m 0 ≡ 32 → EndsAt s m
one_gone s n m q a e =
    let k : n - 1 ≡ m = omega arith in
    let f = a.few in record {
      few = omega arith;
      ends = sym (rw k at (space_unended s n (omega arith) a.few (rw k e))) ∙ a.ends;
      blank = sym (rw k at (space_all s n (omega arith) a.few (rw k e))) ∙ a.blank;
    }

pub spaces_gone : (s : List ℕ) (m k : ℕ) → EndsAt s (m + k) → SpacesFrom s m k → EndsAt s m
spaces_gone s m zero a f = rw (add-zero m) at a
spaces_gone s m (suc k) a f =
    spaces_gone s m k (one_gone s (m + suc k) (m + k) (omega arith) a (f k (omega arith))) (λ j h. f j (omega arith))
