-- ONE OUTCOME of reading a definition of either kind, and a refused one keeps the table.
use Rattle.std.proofs.Math.Path.{◌≡◌}
use Rattle.std.specs.Prelude.{refl, List, ℕ, ℤ, length}
use Rattle.std.proofs.Common.{sym, ◌∙◌, arith}
use Rattle.definition.specs.declared.Answer.{Answer}
use Rattle.definition.specs.declared.Answer.TheVariants as answer
use Rattle.kinds.specs.rule.Definition.{DefinitionOutcome, Built, Refusal, definition_outcome, answer_of, table_after, DefinitionRead}

module _ {d : List ℕ} {t : List ℤ} where
  pub definition_settled : {t₁ t₂ : List ℤ} {a₁ a₂ : Answer} → DefinitionRead d t t₁ a₁ → DefinitionRead d t t₂ a₂ → (a₁ ≡ a₂) × (t₁ ≡ t₂)
  definition_settled x y = (x.says ∙ sym y.says, x.leaves ∙ sym y.leaves)

  pub definition_refused_keeps : {t' : List ℤ} {n p : ℕ} → DefinitionRead d t t' (answer.Refused n p) → t' ≡ t
  unfolding answer_of table_after
  definition_refused_keeps {t'} {n} {p} w = go (definition_outcome d (length t)) w.says w.leaves where
    go : (o : DefinitionOutcome) → answer.Refused n p ≡ answer_of o → t' ≡ table_after o t → t' ≡ t
    go (Built v e s) i q = let z : ◌≡◌ {A = ℕ} 0 1 = cc in absurd (omega arith)
    go (Refusal k at) i q = q
