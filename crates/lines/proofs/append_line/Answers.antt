-- `lines::append_line` meets its contract: one part behind the other.
use native.Mathlib.Omega.{arith}
use Rattle.lines.specs.rule.Text.{line_text}
use Rattle.lines.specs.Appended.{then, keeps_room, room_count, room_spaced}
use Rattle.lines.proofs.append_line.Goals as goal

pub append_spaced-end-requires : goal.append_spaced-end-requires
append_spaced-end-requires c =
    let s = c.requires in
    let r = room_count _ c.append_count-end.ensures 50048 s.listable.1 in record {
      tens = s.tens;
      n_bound = (s.n_bound.1, omega arith);
    }

pub append_value-end-requires : goal.append_value-end-requires
append_value-end-requires c =
    let s = c.requires in
    let r = room_count _ c.append_count-end.ensures 50048 s.listable.1 in
    let q = room_spaced _ c.append_spaced-end.ensures 50031 r in record {
      tens = s.tens;
      listable = (s.listable.0, omega arith);
    }

pub append_byte-requires : goal.append_byte-requires
append_byte-requires c =
    let s = c.requires in
    let r = room_count _ c.append_count-end.ensures 50048 s.listable.1 in
    let q = room_spaced _ c.append_spaced-end.ensures 50031 r in
    let v = c.append_value-end.ensures in
    omega (arith, q, v.upper_bound, keeps_room v.appended)

pub returns : goal.returns
unfolding line_text
returns c =
    then c.append_count-end.ensures (then c.append_spaced-end.ensures
    (then c.append_value-end.ensures.appended c.append_byte.ensures))
