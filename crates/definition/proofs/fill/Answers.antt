use mathlib.Core.Path.{◌≡◌, refl, sym, ◌∙◌}
use mathlib.Core.Bool.{Bool, true, false, cond}
use Prim.Native.Nat.{ℕ}
use lib.Dec.{ltb}
use Rattle.layout.specs.rule.Layout.{line_base}
use Rattle.laying.specs.declared.Tally.{Tally}
use Rattle.laying.specs.Code.{filled_in}
use Rattle.definition.specs.declared.Answer.TheVariants as answer
use Rattle.definition.specs.Code.{fill_says}
use Rattle.definition.proofs.fill.Goals as goal

-- what is said, by whether it was filled
by_room : (y : Tally) (n : ℕ) → fill_says y n ≡ cond (filled_in y n) (answer.Read y.rows y.lines) (answer.Refused 10 0)
unfolding fill_says filled_in
by_room y n = by (ltb n (line_base y.rows y.lines)) where
  by : (b : Bool) → cond b (answer.Refused 10 0) (answer.Read y.rows y.lines)
      ≡ cond (cond b false true) (answer.Read y.rows y.lines) (answer.Refused 10 0)
  by true = refl
  by false = refl

pub returns-then-fill : goal.returns-then-fill
returns-then-fill c =
    let q = c.fill.ensures in record {
      value = rw (by_room _ _, sym q.value ∙ c.if-fill.true);
      table_after = q.table_after;
    }

pub returns-else-fill : goal.returns-else-fill
returns-else-fill c =
    let q = c.fill.ensures in record {
      value = rw (by_room _ _, sym q.value ∙ c.if-fill.false);
      table_after = q.table_after;
    }
