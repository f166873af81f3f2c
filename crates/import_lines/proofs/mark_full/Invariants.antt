-- `import_lines::mark_full` meets its contract. The invariant: the rows before one are marked.
use Rattle.import_lines.specs.Build.{FullBelow}
use Rattle.import_lines.proofs.mark_full.Given as goal

abbrev pub invariant-loop-j : goal.invariant-loop-j
invariant-loop-j l = FullBelow l.t l.rows l.full l.j
