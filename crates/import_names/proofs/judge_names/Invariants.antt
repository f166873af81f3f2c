-- `import_names::judge_names` meets its contract. The invariant: the fields before a place, and the first column that differs.
use Prim.Native.Nat.{◌-◌}
use lib.ListN.{length}
use Rattle.name_line.specs.Names.{name_at}
use Rattle.import_names.specs.Names.{Naming}
use Rattle.import_names.proofs.judge_names.Given as goal

abbrev pub invariant-loop-from : goal.invariant-loop-from
invariant-loop-from l = Naming (name_at l.def l.t) l.rows l.d l.at l.j l.bad

abbrev pub decreases-loop-from : goal.decreases-loop-from
decreases-loop-from l = length l.d - l.at
