-- Bytes sent one behind the other, to be measured or stored. Nothing is stored past the buffer's end, and no place from `bound` on is told
-- from
-- another: so one walk measures a text in a buffer that has no room for it, and stores it in one that has.
use Rattle.std.specs.Prelude.{◌≡◌, List, ℕ, ◌+◌, ◌≤◌, ◌<◌, length}
use Rattle.std.proofs.lemmas.List.Edits.{sets}

-- THE PROMISE of every call that sends: where the bytes s end, if that is below the bound, and that it is not, if it is not; and where the
-- buffer has room to the bound, they are stored there
pub record Sent (bound : ℕ) (out : List ℕ) (at : ℕ) (s out' : List ℕ) (r : ℕ) : Type 0 where
  pub room : length out' ≡ length out
  pub within : at + length s < bound → r ≡ at + length s
  pub beyond : bound ≤ at + length s → bound ≤ r
  pub stored : at + length s < bound → bound ≤ length out + 1 → out' ≡ sets out at s
