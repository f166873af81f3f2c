-- `lines::append_ok` meets its contract: one part behind the other.
use native.Mathlib.Omega.{arith}
use Rattle.lines.specs.rule.Text.{ok_text}
use Rattle.lines.specs.Appended.{then, room_after, room_count}
use Rattle.lines.proofs.append_ok.Goals as goal

pub append_count-end-requires : goal.append_count-end-requires
append_count-end-requires c = let s = c.requires in
    let r = room_after c.append_text-end.ensures 3 50061 (omega arith) s.n_bound.1 in record {
      tens = s.tens;
      n_bound = (s.n_bound.0, omega arith);
    }

pub append_byte-requires : goal.append_byte-requires
append_byte-requires c =
    let r = room_after c.append_text-end.ensures 3 50061 (omega arith)
    c.requires.n_bound.1 in
    let q = room_count _ c.append_count-end.ensures 50045 r in
    omega arith

pub returns : goal.returns
unfolding ok_text
returns c =
    then c.append_text-end.ensures
    (then c.append_count-end.ensures c.append_byte.ensures)
