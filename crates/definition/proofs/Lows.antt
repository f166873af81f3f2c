-- The highest finish of good variables lies where positions may.
use mathlib.Core.List.{List}
use Prim.Native.Nat.{◌≤◌}
use native.Mathlib.Omega.{arith}
use Rattle.measures.specs.Survey.{Variable, lines_all, highest_in}
use Rattle.measures.specs.Good.{Good, GoodVariable}
use Rattle.measures.specs.Good as good
use Rattle.measures.proofs.Snoc.{highest_with}
use Rattle.definition.proofs.Small.{row_finish, finish_few}

pub highest_low : {l : List Variable} → Good l → highest_in l ≤ 16384
unfolding highest_in
highest_low good.none = omega arith
highest_low (good.more {l} {v} g w f k) = omega (
  arith,
  highest_with l v,
  highest_low g,
  finish_few (lines_all l) v w,
  row_finish (lines_all l) v w,
)
