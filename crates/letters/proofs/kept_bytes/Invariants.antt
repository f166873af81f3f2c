-- `letters::kept_bytes` meets its contract. The invariant: the first k bytes end where the whole does.
use mathlib.Core.Path.{◌≡◌}
use lib.ListN.{take}
use Rattle.fields.specs.rule.Number.{all_spaces}
use Rattle.fields.specs.rule.Field.{unended}
use Rattle.letters.proofs.kept_bytes.Given as goal

abbrev pub invariant-loop-k : goal.invariant-loop-k
invariant-loop-k l = (unended (take l.k l.s) ≡ unended l.s) × (all_spaces (take l.k l.s) ≡ all_spaces l.s)
