-- "Quantities have an optional `-`, digits, an optional point, at least one digit in all (`1.`, `.1`; not `+1`)": over THE RULE, a value
-- that is read is formed exactly when its run, the longest one, has that form.
use Rattle.std.specs.Prelude.{◌↔◌, ◌≡◌, Bool, true, false, cond, List, ℕ, eqb, Ok, Err}
use Rattle.std.proofs.Math.Path.{refl, ap, sym}
use Rattle.std.proofs.Common.{◌∙◌}
use Rattle.scan.specs.rule.Text.{text}
use Rattle.scan.specs.rule.Number.{is_value, run_bytes}
use Rattle.tokens.specs.declared.Value.{Value}
use Rattle.tokens.specs.rule.Gap.{fault, OrFault}
use Rattle.tokens.specs.Token.{value_at, of_value, value_here}
use Rattle.survey.specs.rule.Survey.{Amount}
use Rattle.reading.specs.rule.Result.{Result, Is}
use Rattle.reading.specs.rule.Token.{amount}
use Rattle.token_laws.specs.Values.{Form, value_exactly}
use Rattle.bridge.specs.Lowest.{never}
use Rattle.bridge.specs.Amounts.{Valued, valued, unvalued, value_on_lem}

module _ (d : List ℕ) (n : ℕ) where
  is_value_lem : {w : Value} (q : Bool) → cond q (Err (fault 2 n)) (Ok (value_at d n)) ≡ Ok w → value_at d n ≡ w
  is_value_lem true e = never cc
  is_value_lem false e = cc

  -- FORMED
  pub amount_form : {a : Amount} {m : ℕ} → amount d n ≡ Is a m → (a.formed ≡ true) ↔ Form (run_bytes is_value (text d n))
  unfolding value_here of_value
  amount_form {a} {m} e = by refl (value_on_lem d n) e where
    by : {v : OrFault Value} {r : Result Amount} → value_here d (Ok n) ≡ v → Valued d n v r → r ≡ Is a m
        → (a.formed ≡ true) ↔ Form (run_bytes is_value (text d n))
    by i (valued {a = b} {x = x} {y = y} {m = k} s f g) j =
        let q : b ≡ a = cc in
        let u : (value_at d n).formed ≡ b.formed = ap (λ (w : Value). w.formed) (is_value_lem (eqb (value_at d n).next n) i) in
        let c : (value_at d n).formed ≡ a.formed = u ∙ ap (λ (w : Amount). w.formed) q in
        (λ h. (value_exactly d n).0 (c ∙ h), λ h. sym c ∙ (value_exactly d n).1 h)
    by i unvalued j = never cc
