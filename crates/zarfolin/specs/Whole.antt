-- What follows from rule/Whole.antt: reading a whole record is reading its rows one by one, in the promises of the two calls.
use Rattle.std.specs.Prelude.{◌≡◌, refl, ℕ, ◌*◌, ◌≤◌, ◌<◌, ℤ, pos, drop}
use Rattle.std.proofs.Math.Path.{sym}
use Rattle.std.proofs.Common.{ap, ◌∙◌, arith}
use mathlib.Core.List.{List, [], ◌∷◌}
use borrow.Author.Tests.{lt-ltb, le-leb}
use Rattle.std.proofs.Math.ListN.{length, take}
use Rattle.std.proofs.Math.Seq.{take-append_seam}
use Rattle.records.specs.rule.Value.{Outcome, nothing, number_is, set_of, text_at, truth_is, refused, bad_field, reading_at, list_as}
use Rattle.sets.specs.rule.Sets.{filled_of}
use Rattle.sound.specs.rule.Rows.{rows_of}
use Rattle.record_values.specs.declared.Whole.{Whole}
use Rattle.record_values.specs.declared.Whole.TheVariants as whole
use Rattle.record_values.specs.rule.Record.{members_of, four_of, RecordRead, cell_of, flag_of}
use Rattle.record_values.specs.Room.{list_room}
use Rattle.record_values.specs.Record.{start_of, row_numbers, row_members, usable}
use Rattle.zarfolin.specs.declared.Told.{Told}
use Rattle.zarfolin.specs.rule.Face.{outcome_cells, Telling, ValueTold}
use Rattle.zarfolin.specs.rule.Whole.{whole_cells, WholeTold}

-- "just those that read_value answers for it, but for a set: kind, count, and in the fourth where its members start in the list"
pub data Same (start : ℕ) : List ℤ → List ℤ → Type 0 where
  alike : {a : List ℤ} → Same start a a
  set : (n : ℕ) → Same start (pos 0 ∷ pos 2 ∷ cell_of n ∷ cell_of start ∷ []) (pos 0 ∷ pos 2 ∷ cell_of n ∷ pos 0 ∷ [])

-- the four numbers of an outcome, as the two calls tell them
four_same : (start : ℕ) (o : Outcome) (c : Told) → c ≡ outcome_cells o
    → Same start (four_of start o) (cell_of c.number ∷ c.first ∷ c.second ∷ c.third ∷ [])
unfolding four_of outcome_cells cell_of flag_of
four_same start nothing c e = rw e alike
four_same start (number_is z) c e = rw e alike
four_same start (set_of n) c e = rw e (set n)
four_same start (text_at p n) c e = rw e alike
four_same start (truth_is b) c e = rw e alike
four_same start (refused k) c e = rw e alike
four_same start (bad_field x) c e = rw e alike

-- what is told for the answer 0 is that the record was read
read_whole : (w : Whole) (answer : List ℤ) → Telling (whole_cells w) answer 0 → (P : Type 0) → ((m k : ℕ) → w ≡ whole.Read m k → P) → P
unfolding whole_cells
read_whole (whole.Read m k) answer h P f = f m k refl
read_whole whole.BadTable answer h P f = absurd (omega (arith, h.gives))
read_whole whole.ShortRecord answer h P f = absurd (omega (arith, h.gives))
read_whole whole.ShortRoom answer h P f = absurd (omega (arith, h.gives))

-- ---- a record that was read, and one of its rows read with a list that has room
module _ {t : List ℤ} {bytes : List ℕ} {out out' list list' answer : List ℤ} (p : WholeTold t bytes out out' list list' answer 0)
    {i r : ℕ} {one one' told : List ℤ} (q : ValueTold t i bytes one one' told r) (low : i < rows_of t)
    (room : length (members_of (reading_at t i bytes)) ≤ length one) where
  whole_read : (P : Type 0) → ((m k : ℕ) → RecordRead t bytes out out' list list' (whole.Read m k) → P) → P
  whole_read P f =
      read_whole p.outcome answer p.tells P
      (λ m k e. f m k (record { says = sym e ∙ p.promise.says; rows = p.promise.rows; leaves = p.promise.leaves }))

  -- ROW BY ROW: four numbers of out are the answer of read_value for the row, but for a set's start
  pub record_row : Same (start_of t bytes i) (take 4 (drop (4 * i) out')) told
  record_row = whole_read (Same (start_of t bytes i) (take 4 (drop (4 * i) out')) told) (λ m k w.
      rw (row_numbers w i (length one) low room, ← q.promise.says, q.tells.holds)
      (four_same (start_of t bytes i) q.outcome (outcome_cells q.outcome) refl))

  -- AND ITS MEMBERS: the list holds from that start on what read_value leaves at the start of its own
  pub record_members : let n = length (members_of (reading_at t i bytes)) in take n (drop (start_of t bytes i) list') ≡ take n one'
  unfolding list_as filled_of
  record_members = let n = length (members_of (reading_at t i bytes)) in
      whole_read (take n (drop (start_of t bytes i) list') ≡ take n one') (λ m k w.
      row_members w i low
      ∙ sym (ap (λ (l : List ℤ). take n l)
      (q.promise.leaves ∙ rw ((usable w).0, lt-ltb _ _ low, le-leb _ _ (usable w).1) (list_room (reading_at t i bytes) one room))
      ∙ take-append_seam (members_of (reading_at t i bytes)) (drop n one)))
