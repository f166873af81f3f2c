-- "The same row twice is allowed and the later accepted one counts": the last accepted correction of a row reads back, where no accepted
-- one after it touches one of its value places.
use Rattle.std.specs.Prelude.{◌≡◌, refl, Bool, true, false, eqb, ℤ}
use Rattle.std.proofs.Common.{◌∙◌, eqb-true}
use Rattle.std.proofs.Math.Path.{ap}
use mathlib.Core.List.{List, [], ◌∷◌, ◌++◌}
use Prim.Native.Nat.{ℕ}
use Rattle.std.proofs.lemmas.Bool.{eqb-false}
use Rattle.std.proofs.Math.ListN.{length}
use Rattle.places.specs.rule.Places.{Apart}
use Rattle.layout.specs.rule.Row.{row_at}
use Rattle.fields.specs.rule.Field.{Value, holds, Field}
use Rattle.fields.specs.rule.Row.{places_of, reading_of}
use Rattle.sound.specs.rule.Rows.{rows_of}
use Rattle.writes.specs.rule.Public.{refusal_of, record_after, Written}
use Rattle.laws.specs.Writing.{refused_keeps, others_unchanged, read_back}
use Rattle.corrections.specs.declared.Correction.{Correction}
use Rattle.corrections.specs.rule.Correction.{Asked, asks, other_truth, other_kind, asked_of, mark_by, record_by, mark_of, corrected_by}
use Rattle.corrections.specs.rule.Correction.{written_all, record_left, ListCorrected}
use Rattle.corrections.specs.Correction.{length_kept}
use Rattle.correction_laws.specs.rule.Singles.{Clear, over, refused, apart}
use Rattle.correction_laws.specs.Singles.{length_all}

-- a write as the promise of the single call says it
write_as : (t : List ℤ) (i : ℕ) (x : Value) (s : List ℕ) → Written t i x s (record_after t i x s) (refusal_of t i x (length s))
write_as t i x s = record { says = refl; leaves = refl }

-- a correction that is refused keeps the record
refused_by : (t : List ℤ) (i : ℕ) (a : Asked) (s : List ℕ) → (mark_by t i (length s) a ≡ 0 → ⊥) → record_by t i a s ≡ s
unfolding mark_by record_by
refused_by t i (asks x) s f = refused_keeps f (write_as t i x s)
refused_by t i other_truth s f = refl
refused_by t i other_kind s f = refl

-- what row i reads, in a record
abbrev reads : List ℤ → ℕ → List ℕ → Field
reads t i s = reading_of t (rows_of t) (row_at t i) s

-- a correction of a row that shares no place with row i leaves what row i reads
apart_by : (t : List ℤ) (i j : ℕ) (a : Asked) (s : List ℕ)
    → Apart (places_of t (rows_of t) (row_at t i)) (places_of t (rows_of t) (row_at t j)) → reads t i (record_by t j a s) ≡ reads t i s
unfolding record_by
apart_by t i j (asks x) s o = go (eqb (refusal_of t j x (length s)) 0) refl
  where
    go : (b : Bool) → eqb (refusal_of t j x (length s)) 0 ≡ b → reads t i (record_after t j x s) ≡ reads t i s
    go true e =
        let w : Written t j x s (record_after t j x s) 0 = rw (eqb-true (refusal_of t j x (length s)) 0 e) at (write_as t j x s) in
        others_unchanged w i o
    go false e = ap (reads t i) (refused_keeps (eqb-false (refusal_of t j x (length s)) 0 e) (write_as t j x s))
apart_by t i j other_truth s o = refl
apart_by t i j other_kind s o = refl

-- corrections that leave row i alone
clear_kept : (t : List ℤ) (n i : ℕ) (list : List Correction) (s : List ℕ) → length s ≡ n → Clear t n i list
    → reads t i (written_all t list s) ≡ reads t i s
unfolding written_all
clear_kept t n i [] s e over = refl
clear_kept t n i (c ∷ cs) s e (refused f k) =
    let h : corrected_by t s c ≡ s = refused_by t c.row (asked_of c.value) s (rw (← e) at f) in
    rw h (clear_kept t n i cs s e k)
clear_kept t n i (c ∷ cs) s e (apart o k) =
    clear_kept t n i cs (corrected_by t s c) (length_kept t c.row (asked_of c.value) s ∙ e) k
    ∙ apart_by t i c.row (asked_of c.value) s o

-- the corrections of two lists, one after the other
all_joined : (t : List ℤ) (before after : List Correction) (s : List ℕ)
    → written_all t (before ++ after) s ≡ written_all t after (written_all t before s)
unfolding written_all
all_joined t [] after s = refl
all_joined t (c ∷ cs) after s = all_joined t cs after (corrected_by t s c)

-- a correction that is written, and those after it that leave its row alone
after_it : (t : List ℤ) (c : Correction) (after : List Correction) (x : Value) (n : ℕ) (s : List ℕ)
    → Written t c.row x s (record_after t c.row x s) 0 → corrected_by t s c ≡ record_after t c.row x s → length s ≡ n
    → Clear t n c.row after → reads t c.row (written_all t (c ∷ after) s) ≡ holds x
unfolding written_all
after_it t c after x n s w here long clear =
    clear_kept t n c.row after (corrected_by t s c) (length_kept t c.row (asked_of c.value) s ∙ long) clear
    ∙ ap (reads t c.row) here ∙ read_back w

-- THE LATER ACCEPTED ONE COUNTS
module _ {t : List ℤ} (before : List Correction) (c : Correction) {after list' : List Correction} {x : Value} {old new : List ℕ} where
  pub later_counts : ListCorrected t (before ++ c ∷ after) list' old new 0 → asked_of c.value ≡ asks x → mark_of t c (length old) ≡ 0
      → Clear t (length old) c.row after → reading_of t (rows_of t) (row_at t c.row) new ≡ holds x
  unfolding record_left mark_by record_by
  later_counts p asked accepted clear =
      let i : ℕ = c.row in
      let s : List ℕ = written_all t before old in
      let long : length s ≡ length old = length_all t before old in
      let m : refusal_of t i x (length s) ≡ 0 = rw long (rw asked at accepted) in
      let w : Written t i x s (record_after t i x s) 0 = rw m at (write_as t i x s) in
      let here : corrected_by t s c ≡ record_after t i x s = rw asked in
      let q : new ≡ written_all t (before ++ c ∷ after) old = p.leaves ∙ rw (← p.says) in
      ap (reads t i) (q ∙ all_joined t before (c ∷ after) old) ∙ after_it t c after x (length old) s w here long clear
