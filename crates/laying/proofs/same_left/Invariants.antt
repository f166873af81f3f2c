-- `laying::same_left` meets its contract. The invariant: what is left begins as the whole does.
use mathlib.Core.Path.{◌≡◌}
use Prim.Native.Nat.{◌+◌}
use lib.ListN.{drop}
use Rattle.laying.specs.rule.Begins.{begins_table}
use Rattle.laying.proofs.same_left.Given as goal

abbrev pub invariant-loop-j : goal.invariant-loop-j
invariant-loop-j l = begins_table (drop l.from l.part) (drop (l.at + l.from) l.t) ≡ begins_table (drop l.j l.part) (drop (l.at + l.j) l.t)
