-- `records::batch_sound` meets its contract. The invariant: the rows before this one are legal in every record.
use Prim.Native.Nat.{ℕ, ◌<◌}
use Rattle.layout.specs.rule.Row.{row_at}
use Rattle.readings.specs.Many.{LegalIn}
use Rattle.records.proofs.batch_sound.Given as goal

abbrev pub invariant-loop-i : goal.invariant-loop-i
invariant-loop-i l = (j : ℕ) → j < l.i → LegalIn l.t l.rows (row_at l.t j) l.d l.batch
