use mathlib.Core.Path.{sym}
use Prim.Native.Nat.{◌+◌, ◌≤◌}
use native.Mathlib.Omega.{arith}
use lib.ListN.{length}
use lib.Seq.{length-take-le}
use Rattle.xml_reading.specs.rule.Role.{signs_in, same_name}
use Rattle.filters.proofs.same_name.Goals as goal

pub same_from-requires : goal.same_from-requires
same_from-requires c =
    let a = c.args in
    let h : a.p + a.n ≤ length a.d.now = c.requires.0 in
    let k : a.q + a.m ≤ length a.d.now = c.requires.1 in
    let x = length-take-le (a.p + a.n) a.d.now h in
    let y = length-take-le (a.q + a.m) a.d.now k in
    (omega arith, omega arith)

pub returns : goal.returns
unfolding same_name signs_in
returns c = c.same_from.ensures

pub slice_bounds-same_from-end : goal.slice_bounds-same_from-end
slice_bounds-same_from-end c = sym (length-take-le _ _ (omega arith))

pub slice_bounds-same_from-end-2 : goal.slice_bounds-same_from-end-2
slice_bounds-same_from-end-2 c = sym (length-take-le _ _ (omega arith))
