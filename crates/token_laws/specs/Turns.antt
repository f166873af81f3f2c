-- The loop over spaces and comments is what its steps lead to, however many they are: those that its definition counts are enough. (The
-- loops of whole statements: bridge/specs/Turns.)
use Rattle.std.specs.Prelude.{◌↔◌, ◌≡◌, List, ℕ, ◌-◌, Ok}
use Rattle.std.proofs.Math.ListN.{length}
use Rattle.scan.specs.rule.Text.{text}
use Rattle.scan.proofs.Texts.{from_text}
use Rattle.tokens.specs.rule.Gap.{gap_step, gap_at, OrFault}
use Rattle.tokens.proofs.Gaps.{gap_less}
use Rattle.token_laws.specs.Runs.{Runs, runs_exactly}

module _ (d : List ℕ) where
  pub gap_enough : (at : ℕ) (r : OrFault ℕ) → (gap_at d at ≡ r) ↔ Runs (λ n. gap_step (text d n)) at r
  unfolding gap_at
  gap_enough = runs_exactly (λ n. gap_step (text d n)) (Ok 0) (λ n. length d - n) (λ s s'. gap_less d (from_text d s))
