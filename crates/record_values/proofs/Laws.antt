-- One more row read: what the code keeps from row to row. And the answers of the public call, by the tests that led to them.
-- Assumes nothing.
use mathlib.Core.Path.{◌≡◌, sym, ap, ◌∙◌}
use mathlib.Core.Bool.{Bool, true, false, cond}
use mathlib.Core.List.{List, [], ◌++◌, append_assoc, append-nil}
use Prim.Native.Nat.{ℕ, ◌+◌, ◌-◌, ◌*◌, ◌≤◌, ◌<◌}
use native.Mathlib.Omega.{arith}
use native.Mathlib.Nat.{zero-add}
use borrow.Author.Tests.{le-leb, lt-leb}
use borrow.Author.Rules.{part_to_end}
use borrow.Rule.Slice.PartMut.{post_of, put_mid, Post-is}
use lib.Dec.{leb}
use lib.IntN.{ℤ}
use lib.ListN.{length, take, drop, length-drop, drop_of_length-le}
use lib.Seq.{drop-drop}
use Rattle.cells.specs.rule.Cell.{pasted}
use Rattle.cells.specs.Cell.{paste_more}
use Rattle.layout.specs.rule.Layout.{header_of}
use Rattle.layout.specs.rule.Row.{row_at}
use Rattle.layout.specs.declared.Header.{Header}
use Rattle.layout.specs.declared.Row.{Row}
use Rattle.fields.specs.rule.Row.{reading_of}
use Rattle.sets.specs.rule.Sets.{filled_of}
use Rattle.readings.specs.Answer.{illegal_answer, RowRead}
use Rattle.readings.specs.declared.Answer.{Answer}
use Rattle.faults.specs.rule.Fault.{fault_of}
use Rattle.records.specs.Value.{said_by}
use Rattle.records.specs.Tables.{TableReady, table_ready}
use Rattle.sound.specs.rule.Sound.{well_formed}
use Rattle.sound.specs.rule.Rows.{rows_of, length_of}
use Rattle.record_values.specs.declared.Tally.{Tally}
use Rattle.record_values.specs.declared.Whole.TheVariants as whole
use Rattle.record_values.specs.rule.Record.{row_reading, members_of, members_below, refused_below, four_of, row_outcome, cells_below}
use Rattle.record_values.specs.rule.Record.{room_for, whole_of, written_by, RecordRead}
use Rattle.record_values.specs.Rows.{members_in, refusals_in, RowsRead}
use Rattle.record_values.specs.Room.{members_next, members_count, members_step, refused_next, cells_next, length_cells}
use Rattle.record_values.specs.Room.{read_outcome, read_members, read_refusals, read_list}

-- ---- numbers laid over the start of a list, and behind them
pub pasted_filled : (l s : List ℤ) → pasted l 0 s ≡ filled_of s l
unfolding pasted filled_of
pasted_filled l s = rw (zero-add (length s))

-- the part of a list that was lent, back in its place
part_pasted : (at : ℕ) (list last ms : List ℤ) → at ≤ length list → last ≡ filled_of ms (take (length list - at) (drop at list))
    → put_mid at (length list - at) list last ≡ pasted list at ms
unfolding filled_of pasted
part_pasted at list last ms h e =
    let w = part_to_end list at in
    let p : post_of at (length list - at) list ≡ [] = Post-is at (length list) list h
    ∙ drop_of_length-le list {i = length list} (omega arith) in
    let l : last ≡ ms ++ drop (at + length ms) list = e ∙ rw (w, drop-drop (length ms) at list) in
    rw (p, l, append-nil) (sym (append_assoc (take at list) ms (drop (at + length ms) list)))

pasted_more : (l₀ xs ms l : List ℤ) (at : ℕ) → l ≡ pasted l₀ 0 xs → at ≡ length xs → length xs ≤ length l₀ → pasted l at ms
    ≡ pasted l₀ 0 (xs ++ ms)
pasted_more l₀ xs ms l at e a h = let z : at ≡ 0 + length xs = omega arith in rw (e, z) (paste_more l₀ xs ms 0 (omega arith))

pub refusals_one : (a : Answer) → refusals_in a ≤ 1
unfolding refusals_in
refusals_one a = go (illegal_answer a)
  where
    go : (c : Bool) → cond c 1 0 ≤ 1
    go true = omega arith
    go false = omega arith

-- ---- row i, after the rows before it
module _ (t : List ℤ) (v : ℕ) (bytes : List ℕ) (i : ℕ) (low : i < v) (list₀ list : List ℤ) (at : ℕ)
    (at-is : at ≡ length (members_below (row_reading t v bytes) i)) (long : length list ≡ length list₀)
    (room : length (members_below (row_reading t v bytes) v) ≤ length list₀) where
  pub set_room : at + length (members_of (row_reading t v bytes i)) ≤ length list
  set_room = omega (arith, members_step (row_reading t v bytes) i v low)

  module _ (row : Row) (row_is : row ≡ row_at t i) (last : List ℤ) (a : Answer)
      (q : RowRead (row.start - 1) (reading_of t v row bytes) (take (length list - at) (drop at list)) last a) where
    read : RowRead ((row_at t i).start - 1) (row_reading t v bytes i) (take (length list - at) (drop at list)) last a
    read = rw row_is at q

    fits : length (members_of (row_reading t v bytes i)) ≤ length (take (length list - at) (drop at list))
    fits =
        let s = set_room in
        let w = part_to_end list at in
        rw (w, length-drop) (omega arith)

    pub step_at : at + members_in a ≡ length (members_below (row_reading t v bytes) (i + 1))
    step_at = omega (arith, read_members read fits, members_count (row_reading t v bytes) i)

    pub step_fits : at + members_in a ≤ length list
    step_fits = omega (arith, read_members read fits, set_room)

    pub step_refused : (refused : ℕ) → refused ≡ refused_below (row_reading t v bytes) i → refused + refusals_in a
        ≡ refused_below (row_reading t v bytes) (i + 1)
    step_refused refused e = rw (read_refusals read fits, refused_next (row_reading t v bytes) i, e)

    pub step_list : list ≡ pasted list₀ 0 (members_below (row_reading t v bytes) i)
        → put_mid at (length list - at) list last ≡ pasted list₀ 0 (members_below (row_reading t v bytes) (i + 1))
    step_list e =
        let s = set_room in
        part_pasted at list last (members_of (row_reading t v bytes i)) (omega arith) (read_list read fits)
        ∙ pasted_more list₀ (members_below (row_reading t v bytes) i) (members_of (row_reading t v bytes i)) list at e at-is (omega arith)
        ∙ ap (λ (l : List ℤ). pasted list₀ 0 l) (sym (members_next (row_reading t v bytes) i))

    pub step_out : (out₀ out out' four : List ℤ) → 4 * v ≤ length out₀ → out ≡ pasted out₀ 0 (cells_below t v bytes i)
        → four ≡ four_of at (said_by (fault_of t v row bytes) a) → out' ≡ pasted out (4 * i) four → out'
        ≡ pasted out₀ 0 (cells_below t v bytes (i + 1))
    step_out out₀ out out' four wide e f o =
        let n = length_cells t v bytes i in
        let g : four ≡ four_of (length (members_below (row_reading t v bytes) i)) (row_outcome t v bytes i) =
        f ∙ rw (row_is, at-is, read_outcome read fits (fault_of t v (row_at t i) bytes)) in
        o
        ∙ pasted_more out₀ (cells_below t v bytes i) four out (4 * i) e (sym n) (omega arith)
        ∙ ap (λ (l : List ℤ). pasted out₀ 0 l) (ap (λ (l : List ℤ). cells_below t v bytes i ++ l) g ∙ sym (cells_next t v bytes i))

pub rows_read : (t : List ℤ) (v : ℕ) (bytes : List ℕ) (out₀ list₀ out list : List ℤ) (at refused i : ℕ) → i ≡ v
    → at ≡ length (members_below (row_reading t v bytes) i) → refused ≡ refused_below (row_reading t v bytes) i
    → out ≡ pasted out₀ 0 (cells_below t v bytes i) → list ≡ pasted list₀ 0 (members_below (row_reading t v bytes) i)
    → RowsRead t v bytes out₀ out list₀ list (record { members = at; refused = refused })
rows_read t v bytes out₀ list₀ out list at refused i e a r o l = record {
  members = rw e at a;
  refused = rw e at r;
  rows = (rw e at o) ∙ pasted_filled out₀ (cells_below t v bytes v);
  sets = (rw e at l) ∙ pasted_filled list₀ (members_below (row_reading t v bytes) v);
}

-- ---- the answers
module _ (t : List ℤ) (bytes : List ℕ) (out list : List ℤ) where
  pub whole_table : well_formed t ≡ false → RecordRead t bytes out out list list whole.BadTable
  unfolding whole_of written_by
  whole_table e = record { says = rw e; rows = rw e; leaves = rw e }

  module _ (good : well_formed t ≡ true) (h : Header) (head : h ≡ header_of t) where
    pub whole_short : length bytes < h.length → RecordRead t bytes out out list list whole.ShortRecord
    unfolding whole_of written_by
    whole_short l =
        let k : length bytes < length_of t = rw head at l in
        record { says = rw (good, lt-leb _ _ k); rows = rw (good, lt-leb _ _ k); leaves = rw (good, lt-leb _ _ k) }

    module _ (long : h.length ≤ length bytes) where
      reaches : length_of t ≤ length bytes
      reaches = rw head at long

      pub rows_ready : TableReady t h.rows (length bytes)
      rows_ready = rw head (table_ready t good (length bytes) reaches)

      no_room : room_for t bytes (length out) (length list) ≡ false → RecordRead t bytes out out list list whole.ShortRoom
      unfolding whole_of written_by
      no_room e = record {
        says = rw (good, le-leb _ _ reaches, e);
        rows = rw (good, le-leb _ _ reaches, e);
        leaves = rw (good, le-leb _ _ reaches, e);
      }

      pub whole_out : length out < 4 * h.rows → RecordRead t bytes out out list list whole.ShortRoom
      unfolding room_for
      whole_out l = let k : length out < 4 * rows_of t = rw head at l in no_room (rw (lt-leb _ _ k))

      module _ (wide : 4 * h.rows ≤ length out) where
        wide_is : 4 * rows_of t ≤ length out
        wide_is = rw head at wide

        pub whole_list : false ≡ leb (length (members_below (row_reading t h.rows bytes) h.rows)) (length list)
            → RecordRead t bytes out out list list whole.ShortRoom
        unfolding room_for
        whole_list e = let k = sym (rw head at e) in no_room (rw (le-leb _ _ wide_is, k))

        pub whole_read : true ≡ leb (length (members_below (row_reading t h.rows bytes) h.rows)) (length list)
            → (out' list' : List ℤ) (y : Tally) → RowsRead t h.rows bytes out out' list list' y
            → RecordRead t bytes out out' list list' (whole.Read y.members y.refused)
        unfolding whole_of written_by room_for
        whole_read e out' list' y q =
            let k = sym (rw head at e) in
            let r : RowsRead t (rows_of t) bytes out out' list list' y = rw head at q in
            record {
              says = rw (good, le-leb _ _ reaches, le-leb _ _ wide_is, k, r.members, r.refused);
              rows = rw (good, le-leb _ _ reaches, le-leb _ _ wide_is, k) r.rows;
              leaves = rw (good, le-leb _ _ reaches, le-leb _ _ wide_is, k) r.sets;
            }
