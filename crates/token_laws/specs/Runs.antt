-- What is done again and again until it is over, as a relation that counts no steps and makes no answer up; and that a loop of the rule
-- is that, where each step lowers a measure and the loop has one step more than the measure.
use Rattle.std.specs.Prelude.{◌↔◌, ◌≡◌, refl, ℕ, zero, suc, ◌<◌}
use Rattle.std.proofs.Common.{◌∙◌, arith}
use Rattle.scan.specs.rule.Loop.{Next, Again, Done, loop_of}
use Rattle.scan.proofs.Loops.{loop_again, loop_done}

-- from s on the steps lead to the result a
pub data Runs {S A : Type 0} (step : S → Next S A) : S → A → Type 0 where
  done : {s : S} {a : A} → step s ≡ Done a → Runs step s a
  again : {s s' : S} {a : A} → step s ≡ Again s' → Runs step s' a → Runs step s a

module _ {S A : Type 0} (step : S → Next S A) (out : A) (μ : S → ℕ) (less : (s s' : S) → step s ≡ Again s' → μ s' < μ s) where
  runs_to : {s : S} {a : A} → Runs step s a → loop_of step out (suc (μ s)) s ≡ a
  runs_to (done e) = loop_done step out μ less e
  runs_to (again e r) = loop_again step out μ less e ∙ runs_to r

  runs : (f : ℕ) (s : S) → μ s < f → Runs step s (loop_of step out (suc (μ s)) s)
  runs zero s h = absurd (omega arith)
  runs (suc f) s h = by (step s) refl (runs f) where
    by : (n : Next S A) → step s ≡ n → ((u : S) → μ u < f → Runs step u (loop_of step out (suc (μ u)) u))
        → Runs step s (loop_of step out (suc (μ s)) s)
    by (Again u) e ih = let l = less s u e in rw (loop_again step out μ less e) (again e (ih u (omega arith)))
    by (Done a) e ih = rw (loop_done step out μ less e) (done e)

  pub runs_exactly : (s : S) (a : A) → (loop_of step out (suc (μ s)) s ≡ a) ↔ Runs step s a
  runs_exactly s a = (λ e. rw e at (runs (suc (μ s)) s (omega arith)), runs_to)
