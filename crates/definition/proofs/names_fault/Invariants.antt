-- `definition::names_fault` meets its contract. The invariant: the names before row i have their numbers.
use mathlib.Core.Path.{◌≡◌}
use Prim.Native.Nat.{ℕ, ◌<◌}
use lib.ListN.{length, get_or}
use Rattle.names.specs.Name.{key_of}
use Rattle.definition.specs.Code.{name_in}
use Rattle.definition.proofs.names_fault.Given as goal

abbrev pub invariant-loop-i : goal.invariant-loop-i
invariant-loop-i l = (length l.keys ≡ 512) × ((j : ℕ) → j < l.i → get_or l.keys j 0 ≡ key_of 0 0 (name_in l.d l.rows j))
