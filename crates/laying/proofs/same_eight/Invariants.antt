-- `laying::same_eight` meets its contract. The invariant: the numbers up to here are the same, and then what is left begins so.
use mathlib.Core.Path.{◌≡◌}
use mathlib.Core.Bool.{◌&&◌}
use Prim.Native.Nat.{◌+◌}
use lib.ListN.{drop}
use Rattle.laying.specs.rule.Begins.{begins_table}
use Rattle.laying.proofs.same_eight.Given as goal

abbrev pub invariant-loop-k : goal.invariant-loop-k
invariant-loop-k l = begins_table (drop l.j l.part) (drop (l.at + l.j) l.t)
    ≡ (l.same && begins_table (drop (l.j + l.k) l.part) (drop (l.at + (l.j + l.k)) l.t))
