-- `records::illegal_row` meets its contract. The invariant: the first from here is the first of all.
use mathlib.Core.Path.{◌≡◌}
use Prim.Native.Nat.{◌-◌}
use Rattle.records.specs.rule.First.{first_from, bad_row}
use Rattle.records.proofs.illegal_row.Given as goal

abbrev pub invariant-loop-i : goal.invariant-loop-i
invariant-loop-i l = first_from (bad_row l.t l.rows l.bytes) l.i (l.rows - l.i) ≡ first_from (bad_row l.t l.rows l.bytes) 0 l.rows
