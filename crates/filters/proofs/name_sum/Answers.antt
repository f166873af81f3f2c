use mathlib.Core.Path.{sym}
use Prim.Native.Nat.{◌+◌, ◌≤◌}
use native.Mathlib.Omega.{arith}
use lib.ListN.{length}
use lib.Seq.{length-take-le}
use Rattle.xml_reading.specs.rule.Role.{signs_in}
use Rattle.filters.specs.Sums.{sum_in}
use Rattle.filters.proofs.name_sum.Goals as goal

pub sum_from-requires : goal.sum_from-requires
sum_from-requires c =
    let a = c.args in
    let h : a.p + a.n ≤ length a.d.now = c.requires in
    let x = length-take-le (a.p + a.n) a.d.now h in
    omega arith

pub returns : goal.returns
unfolding sum_in signs_in
returns c = c.sum_from.ensures

pub slice_bounds-sum_from-end : goal.slice_bounds-sum_from-end
slice_bounds-sum_from-end c = sym (length-take-le _ _ (omega arith))
