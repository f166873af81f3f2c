-- What is so at the start of each turn: i corrections are taken, and from the list and the record as they are now the definitions of the
-- whole give the same as from the start.
use Rattle.std.proofs.Common.{◌≡◌, ◌≤◌, ◌++◌, length, take, drop}
use Rattle.corrections.proofs.Walk.{turns}
use Rattle.corrections.specs.rule.Correction.{corrected_all, written_all}
use Rattle.zarfolin.proofs.zarfolin_correct.Given as goal

abbrev pub invariant-loop-i : goal.invariant-loop-i
invariant-loop-i l = record {
  upto : l.i ≤ turns l.table l.fn.list l.fn.bytes;
  same : length l.list ≡ length l.fn.list;
  kept : length l.bytes ≡ length l.fn.bytes;
  marks : take l.i l.list ++ corrected_all l.table (drop l.i l.list) l.bytes ≡ corrected_all l.table l.fn.list l.fn.bytes;
  bytes : written_all l.table (drop l.i l.list) l.bytes ≡ written_all l.table l.fn.list l.fn.bytes;
  still : l.i ≡ 0 → (l.list ≡ l.fn.list) × (l.bytes ≡ l.fn.bytes);
}
