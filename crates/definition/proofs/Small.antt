-- The columns of a variable that was read are small enough for the numbers of a table.
use mathlib.Core.Path.{◌≡◌, refl}
use Prim.Native.Nat.{ℕ, ◌≤◌}
use native.Mathlib.Omega.{arith}
use Rattle.rows.specs.Cells.{SmallRow}
use Rattle.laying.proofs.Small.{finish_low, ident_low, small_columns}
use Rattle.measures.specs.Width.{full_columns, widened, plain_columns}
use Rattle.measures.specs.Survey.{Variable, counted_in, columns_in, holds_in}
use Rattle.measures.specs.Good.{GoodVariable}

module _ (before : ℕ) (v : Variable) (g : GoodVariable before v) where
  pub small_row : SmallRow (columns_in before v)
  unfolding holds_in columns_in full_columns widened plain_columns counted_in
  small_row = small_columns (columns_in before v) g.counts g.places g.holds (omega (arith, g.few)) (omega (arith, g.few))
      (omega arith) (omega arith)

  pub row_ident : (columns_in before v).ident ≡ v.head.ident
  unfolding columns_in full_columns widened plain_columns
  row_ident = refl

  pub row_finish : (columns_in before v).finish ≡ v.head.finish
  unfolding columns_in full_columns widened plain_columns
  row_finish = refl

  pub ident_few : (columns_in before v).ident ≤ 9999
  unfolding holds_in
  ident_few = ident_low (columns_in before v) g.counts g.places g.holds

  pub finish_few : (columns_in before v).finish ≤ 16384
  unfolding holds_in
  finish_few = finish_low (columns_in before v) g.counts g.places g.holds
