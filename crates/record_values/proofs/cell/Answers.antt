-- `record_values::cell` meets its contract.
use mathlib.Core.Path.{◌≡◌, refl, ap, ◌∙◌}
use mathlib.Core.Bool.{Bool, true, false, cond}
use Prim.Native.Nat.{ℕ, ◌<◌}
use native.Mathlib.Omega.{arith}
use borrow.Author.Rules.{sfits_of}
use borrow.Author.Tests.{ltb-true, ltb-false}
use lib.Dec.{ltb}
use lib.IntN.{ℤ, pos}
use mir.Facts.{to_z-of_z}
use mir.Syntax.{w64}
use mir.Val.{SFits}
use Rattle.std.specs.Prelude.{Result, Ok, Err, OkIff}
use Rattle.std.specs.Result.{result_unwrap_or}
use Rattle.record_values.specs.rule.Record.{cell_of}
use Rattle.record_values.proofs.cell.Goals as goal

abbrev most : ℕ
most = 9223372036854775807

told : {E : Type 0} (n : ℕ) (r : Result ℤ E) → OkIff r (SFits w64 (pos n)) (pos n) → result_unwrap_or r (pos most) ≡ cell_of n
unfolding cell_of
told n (Ok x) h = go (ltb n most) refl
  where
    go : (b : Bool) → ltb n most ≡ b → x ≡ cond b (pos n) (pos most)
    go true e = h.1
    go false e = let k : n < 9223372036854775808 = h.0.sfits in h.1 ∙ ap pos (omega (arith, ltb-false n most e))
told n (Err x) h = go (ltb n most) refl
  where
    go : (b : Bool) → ltb n most ≡ b → pos most ≡ cond b (pos n) (pos most)
    go true e = absurd (h (record { sfits = omega (arith, ltb-true n most e) }))
    go false e = refl

pub returns : goal.returns
returns c = to_z-of_z {w = w64} (sfits_of c.unwrap_or.type_inv) ∙ c.unwrap_or.ensures ∙ told c.args.n c.try_from.result c.try_from.ensures
