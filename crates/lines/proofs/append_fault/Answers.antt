-- `lines::append_fault` meets its contract: one part behind the other.
use native.Mathlib.Omega.{arith}
use Rattle.lines.specs.rule.Text.{fault_text}
use Rattle.lines.specs.Appended.{then, room_after, room_count, room_spaced}
use Rattle.lines.proofs.append_fault.Goals as goal

pub append_count-end-requires : goal.append_count-end-requires
append_count-end-requires c = let s = c.requires in
    let r = room_after c.append_text-end.ensures 6 50058 (omega arith) s.k_bound.3 in record {
      tens = s.tens;
      n_bound = (s.k_bound.0, omega arith);
    }

pub append_spaced-end-requires : goal.append_spaced-end-requires
append_spaced-end-requires c =
    let s = c.requires in
    let r = room_after c.append_text-end.ensures 6 50058 (omega arith) s.k_bound.3 in
    let q = room_count _ c.append_count-end.ensures 50042 r in record {
      tens = s.tens;
      n_bound = (s.k_bound.1, omega arith);
    }

pub append_spaced-end-requires-2 : goal.append_spaced-end-requires-2
append_spaced-end-requires-2 c =
    let s = c.requires in
    let r = room_after c.append_text-end.ensures 6 50058 (omega arith) s.k_bound.3 in
    let q = room_count _ c.append_count-end.ensures 50042 r in
    let p = room_spaced _ c.append_spaced-end.ensures 50025 q in record {
      tens = s.tens;
      n_bound = (s.k_bound.2, omega arith);
    }

pub append_byte-requires : goal.append_byte-requires
append_byte-requires c =
    let r = room_after c.append_text-end.ensures 6 50058 (omega arith)
    c.requires.k_bound.3 in
    let q = room_count _ c.append_count-end.ensures 50042 r in
    let p = room_spaced _ c.append_spaced-end.ensures 50025 q in
    let o = room_spaced _ c.append_spaced-end-2.ensures 50008 p in
    omega arith

pub returns : goal.returns
unfolding fault_text
returns c =
    then c.append_text-end.ensures (then c.append_count-end.ensures
    (then c.append_spaced-end.ensures
    (then c.append_spaced-end-2.ensures c.append_byte.ensures)))
