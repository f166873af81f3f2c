-- `sink::store_four` meets its contract.
use native.Mathlib.Omega.{arith}
use lib.ListN.{length-set}
use Rattle.sink.specs.Stored.{store_four}
use Rattle.sink.proofs.store_four.Goals as goal

pub returns : goal.returns
returns c =
    let start = c in
    store_four start.args.out.now start.args.s.now start.args.at start.args.i start.requires.0

pub bounds-out-at-2 : goal.bounds-out-at-2
bounds-out-at-2 c = simp length-set (omega arith)

pub bounds-out-at-3 : goal.bounds-out-at-3
bounds-out-at-3 c = simp length-set (omega arith)

pub bounds-out-at-4 : goal.bounds-out-at-4
bounds-out-at-4 c = simp length-set (omega arith)

pub shape_of-out : goal.shape_of-out
shape_of-out c = simp length-set
