-- What each step of a loop keeps, the loop keeps.
use Prim.Native.Nat.{ℕ, zero, suc}
use Rattle.scan.specs.rule.Loop.{Next, Again, Done, on_next, loop_of}

-- of a step: P where it goes on, Q where it is done
abbrev pub Onward : {S A : Type 0} → (S → Type 0) → (A → Type 0) → Next S A → Type 0
Onward P Q (Again s) = P s
Onward P Q (Done a) = Q a

-- P may speak of the steps that are left
module _ {S A : Type 0} (P : ℕ → S → Type 0) (Q : A → Type 0) (step : S → Next S A) (out : A) (over : (s : S) → P zero s → Q out)
    (keeps : (f : ℕ) (s : S) → P (suc f) s → Onward (P f) Q (step s)) where
  pub loop_keeps : (f : ℕ) (s : S) → P f s → Q (loop_of step out f s)
  unfolding loop_of
  loop_keeps zero s p = over s p
  loop_keeps (suc f) s p = by (step s) (keeps f s p) (loop_keeps f) where
    by : (n : Next S A) → Onward (P f) Q n → ((s' : S) → P f s' → Q (loop_of step out f s')) → Q (on_next n (loop_of step out f))
    by (Again s') p k = k s' p
    by (Done a) q k = q
