-- `lines::append_spaced` meets its contract: a count behind a space.
use native.Mathlib.Omega.{arith}
use Rattle.lines.specs.Appended.{then, room_after}
use Rattle.lines.proofs.append_spaced.Goals as goal

pub append_count-requires : goal.append_count-requires
append_count-requires c = let s = c.requires in record {
  tens = s.tens;
  n_bound = (s.n_bound.0, room_after c.append_byte-end.ensures 1 16 (omega arith) s.n_bound.1);
}

pub returns : goal.returns
returns c = then c.append_byte-end.ensures c.append_count.ensures
