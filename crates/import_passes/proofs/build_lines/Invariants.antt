-- `import_passes::build_lines` meets its contract. The invariant: so many records stand in the output, and as many lines are passed.
use Rattle.import_passes.specs.Build.{Building}
use Rattle.import_passes.proofs.build_lines.Given as goal

abbrev pub invariant-loop : goal.invariant-loop
invariant-loop l = Building l.t l.d l.from l.at l.counter l.k l.initial.out l.out
