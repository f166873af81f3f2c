-- `vectors::main` is safe: what it lends has the lengths that are asked. Levels and types are written out, since the comparison of two
-- lists' lengths whose levels are open would count to half a million.
use Rattle.std.proofs.Common.{sym, length, ℕ, ◌≡◌}
use lib.ListN.{replicate, length-replicate}
use Rattle.vectors.proofs.main.Goals as goal

input_length : length {0} {A = ℕ} (replicate {0} {A = ℕ} 524288 0) ≡ 524288
input_length = length-replicate {0} {A = ℕ} 524288 0

pub slice_bounds-read_input-end : goal.slice_bounds-read_input-end
slice_bounds-read_input-end c = sym input_length
