-- `mends::mend` meets its contract.
use mathlib.Core.Path.{◌≡◌, sym, ap, ◌∙◌}
use native.Mathlib.Omega.{arith}
use mathlib.Core.Bool.{true, ◌&&◌}
use mathlib.Core.List.{List}
use Prim.Native.Nat.{ℕ, ◌+◌, ◌*◌, ◌≤◌, ◌<◌}
use lib.Dec.{leb}
use lib.IntN.{ℤ}
use lib.ListN.{length}
use lib.Seq.{sets, length-sets}
use Rattle.sound.specs.rule.Sound.{well_formed}
use Rattle.sound.specs.rule.Rows.{length_of}
use Rattle.sound.specs.Rows.{length_low}
use Rattle.cuts.specs.declared.Terminator.{Terminator}
use Rattle.pieces.specs.rule.Pieces.{cut_from}
use Rattle.mends.specs.declared.Sizes.{Sizes}
use Rattle.mends.specs.rule.Mend.{mended_of, mend_entries, entry_numbers}
use Rattle.mends.specs.Mend.{Ends, Measured}
use Rattle.mends.specs.Whole.{Counts, said_bytes, wide_enough, room_both}
use Rattle.mends.proofs.Whole.{counts, said_list, mends_bad, mends_short, mends_done, mends_stored, room_out, room_list, room_copy}
use Rattle.mends.proofs.mend.Goals as goal
use Rattle.mends.proofs.mend.Goals.{Else-not-has_room}

-- what is known where there is room
abbrev table : (s : Else-not-has_room) → List ℤ
table s = s.args.t.now

abbrev file : (s : Else-not-has_room) → List ℕ
file s = s.args.d.now

abbrev out : (s : Else-not-has_room) → List ℕ
out s = s.args.out.now

abbrev list : (s : Else-not-has_room) → List ℤ
list s = s.args.list.now

abbrev e : (s : Else-not-has_room) → Terminator
e s = s.ending-e.result

abbrev z : (s : Else-not-has_room) → Sizes
z s = s.measure-z.result

good : (s : Else-not-has_room) → well_formed (table s) ≡ true
good s = sym s.well_formed-2.ensures.says
    ∙ s.if-not-well_formed.false

ends : (s : Else-not-has_room) → Ends (file s) (e s)
ends s = s.ending-e.ensures

measured : (s : Else-not-has_room) → Measured (file s) (e s) (length_of (table s)) (z s)
measured s = rw s.read-h.ensures at s.measure-z.ensures

counted : (s : Else-not-has_room) → Counts (table s) (file s) (e s) (z s)
counted s = counts (table s) (file s) (e s) (z s) (ends s) (measured s)

room : (s : Else-not-has_room) → leb (3 * ((z s).others + (z s).short)) (length (list s))
    && leb ((z s).kept * ((z s).width + (e s).size)) (length (out s))
    ≡ true
room s = sym s.has_room.ensures ∙ s.if-not-has_room.false

both : (s : Else-not-has_room) → (3 * ((z s).others + (z s).short) ≤ length (list s))
    × ((z s).kept * ((z s).width + (e s).size) ≤ length (out s))
both s = room_both (3 * ((z s).others + (z s).short)) (length (list s)) ((z s).kept * ((z s).width + (e s).size)) (length (out s)) (room s)

entries_fit : (s : Else-not-has_room) → (z s).others + (z s).short < 18446744073709551616
entries_fit s = let h : length (list s) < 18446744073709551616 = omega arith in omega (arith, (both s).0, h)

sizes_fit : (s : Else-not-has_room) → (z s).width + (e s).size < 18446744073709551616
sizes_fit s =
    let h : length (file s) < 9223372036854775808 = omega arith in
    omega (arith, h, length_low (table s) (good s), (measured s).wide, (ends s).sized.few)

bytes_fit : (s : Else-not-has_room) → (z s).kept * ((z s).width + (e s).size) < 18446744073709551616
bytes_fit s = let h : length (out s) < 18446744073709551616 = omega arith in omega (arith, (both s).1, h)

pub returns-then-not-well_formed : goal.returns-then-not-well_formed
returns-then-not-well_formed c = mends_bad _ _ _ _ (sym c.well_formed-2.ensures.says ∙ c.if-not-well_formed.true)

pub measure-z-requires : goal.measure-z-requires
measure-z-requires c = rw c.read-h.ensures
    (length_low _ (sym c.well_formed-2.ensures.says ∙ c.if-not-well_formed.false))

pub has_room-requires : goal.has_room-requires
has_room-requires c =
    let l = length_low _ (sym c.well_formed-2.ensures.says
    ∙ c.if-not-well_formed.false) in
    let m = rw c.read-h.ensures at c.measure-z.ensures in
    (omega (arith, l, m.wide, c.ending-e.ensures.sized.few), c.ending-e.ensures.sized.some)

pub returns-then-not-has_room : goal.returns-then-not-has_room
returns-then-not-has_room c =
    let g = sym c.well_formed-2.ensures.says
    ∙ c.if-not-well_formed.false in
    let k = counts _ _ _ _ c.ending-e.ensures
    (rw c.read-h.ensures at c.measure-z.ensures) in
    mends_short _ _ _ _ g _ _ k (sym c.has_room.ensures ∙ c.if-not-has_room.true)

pub overflow_add-entries : goal.overflow_add-entries
overflow_add-entries c = record { fits = entries_fit (goal.at.overflow_add-entries c).Else-not-has_room }

pub overflow_add-bytes : goal.overflow_add-bytes
overflow_add-bytes c = record { fits = sizes_fit (goal.at.overflow_add-bytes c).Else-not-has_room }

pub overflow_mul-bytes : goal.overflow_mul-bytes
overflow_mul-bytes c = record { fits = bytes_fit (goal.at.overflow_mul-bytes c).Else-not-has_room }

pub copy_all-requires : goal.copy_all-requires
copy_all-requires c =
    room_copy (table (goal.at.copy_all-requires c).Else-not-has_room) (file (goal.at.copy_all-requires c).Else-not-has_room)
    (out (goal.at.copy_all-requires c).Else-not-has_room) (list (goal.at.copy_all-requires c).Else-not-has_room)
    (good (goal.at.copy_all-requires c).Else-not-has_room) (e (goal.at.copy_all-requires c).Else-not-has_room)
    (z (goal.at.copy_all-requires c).Else-not-has_room) (counted (goal.at.copy_all-requires c).Else-not-has_room)
    (room (goal.at.copy_all-requires c).Else-not-has_room) (ends (goal.at.copy_all-requires c).Else-not-has_room) c.if-entries-eq0.true

pub mend_into-requires : goal.mend_into-requires
mend_into-requires c = record {
  sized = (
    (ends (goal.at.mend_into-requires c).Else-not-has_room).sized,
    wide_enough (counted (goal.at.mend_into-requires c).Else-not-has_room),
  );
  d_in_bounds = rw (said_bytes (ends (goal.at.mend_into-requires c).Else-not-has_room)
      (counted (goal.at.mend_into-requires c).Else-not-has_room))
      (room_out (table (goal.at.mend_into-requires c).Else-not-has_room) (file (goal.at.mend_into-requires c).Else-not-has_room)
      (out (goal.at.mend_into-requires c).Else-not-has_room) (list (goal.at.mend_into-requires c).Else-not-has_room)
      (good (goal.at.mend_into-requires c).Else-not-has_room) (e (goal.at.mend_into-requires c).Else-not-has_room)
      (z (goal.at.mend_into-requires c).Else-not-has_room) (counted (goal.at.mend_into-requires c).Else-not-has_room)
      (room (goal.at.mend_into-requires c).Else-not-has_room));
  d_in_bounds_2 = rw (said_list (ends (goal.at.mend_into-requires c).Else-not-has_room)
      (counted (goal.at.mend_into-requires c).Else-not-has_room))
      (room_list (table (goal.at.mend_into-requires c).Else-not-has_room) (file (goal.at.mend_into-requires c).Else-not-has_room)
      (out (goal.at.mend_into-requires c).Else-not-has_room) (list (goal.at.mend_into-requires c).Else-not-has_room)
      (good (goal.at.mend_into-requires c).Else-not-has_room) (e (goal.at.mend_into-requires c).Else-not-has_room)
      (z (goal.at.mend_into-requires c).Else-not-has_room) (counted (goal.at.mend_into-requires c).Else-not-has_room)
      (room (goal.at.mend_into-requires c).Else-not-has_room));
}

pub returns-then-entries-eq0 : goal.returns-then-entries-eq0
returns-then-entries-eq0 c =
    mends_stored (table (goal.at.returns-then-entries-eq0 c).Else-not-has_room)
    (file (goal.at.returns-then-entries-eq0 c).Else-not-has_room) (out (goal.at.returns-then-entries-eq0 c).Else-not-has_room)
    (list (goal.at.returns-then-entries-eq0 c).Else-not-has_room) (good (goal.at.returns-then-entries-eq0 c).Else-not-has_room)
    (e (goal.at.returns-then-entries-eq0 c).Else-not-has_room) (z (goal.at.returns-then-entries-eq0 c).Else-not-has_room)
    (counted (goal.at.returns-then-entries-eq0 c).Else-not-has_room) (room (goal.at.returns-then-entries-eq0 c).Else-not-has_room)
    (ends (goal.at.returns-then-entries-eq0 c).Else-not-has_room)
    c.if-entries-eq0.true _ c.copy_all.ensures

pub returns-else-entries-eq0 : goal.returns-else-entries-eq0
returns-else-entries-eq0 c =
    mends_done (table (goal.at.returns-else-entries-eq0 c).Else-not-has_room) (file (goal.at.returns-else-entries-eq0 c).Else-not-has_room)
    (out (goal.at.returns-else-entries-eq0 c).Else-not-has_room) (list (goal.at.returns-else-entries-eq0 c).Else-not-has_room)
    (good (goal.at.returns-else-entries-eq0 c).Else-not-has_room) (e (goal.at.returns-else-entries-eq0 c).Else-not-has_room)
    (z (goal.at.returns-else-entries-eq0 c).Else-not-has_room) (counted (goal.at.returns-else-entries-eq0 c).Else-not-has_room)
    (room (goal.at.returns-else-entries-eq0 c).Else-not-has_room) _ _
    (c.mend_into.ensures.out_after ∙ ap (sets _ 0)
    (said_bytes (ends (goal.at.returns-else-entries-eq0 c).Else-not-has_room)
    (counted (goal.at.returns-else-entries-eq0 c).Else-not-has_room)))
    (c.mend_into.ensures.list_after ∙ ap (sets _ 0)
    (said_list (ends (goal.at.returns-else-entries-eq0 c).Else-not-has_room)
    (counted (goal.at.returns-else-entries-eq0 c).Else-not-has_room)))

pub shape_of-out-then-entries-eq0 : goal.shape_of-out-then-entries-eq0
shape_of-out-then-entries-eq0 c = ap length c.copy_all.ensures
    ∙ length-sets (out (goal.at.shape_of-out-then-entries-eq0 c).Else-not-has_room) 0
    (file (goal.at.shape_of-out-then-entries-eq0 c).Else-not-has_room)

pub shape_of-out-else-entries-eq0 : goal.shape_of-out-else-entries-eq0
shape_of-out-else-entries-eq0 c = ap length c.mend_into.ensures.out_after
    ∙ length-sets (out (goal.at.shape_of-out-else-entries-eq0 c).Else-not-has_room) 0
    (mended_of (z (goal.at.shape_of-out-else-entries-eq0 c).Else-not-has_room).width
    (e (goal.at.shape_of-out-else-entries-eq0 c).Else-not-has_room)
    (cut_from 0 (file (goal.at.shape_of-out-else-entries-eq0 c).Else-not-has_room)))

pub shape_of-list : goal.shape_of-list
shape_of-list c = ap length c.mend_into.ensures.list_after
    ∙ length-sets (list (goal.at.shape_of-list c).Else-not-has_room) 0
    (entry_numbers (mend_entries (z (goal.at.shape_of-list c).Else-not-has_room).width (e (goal.at.shape_of-list c).Else-not-has_room) 1 0
    (cut_from 0 (file (goal.at.shape_of-list c).Else-not-has_room))))
