-- READ-BACK by the public call that reads one row: after an accepted write it answers the value that was written. A set fills the
-- start of a list with room for it, and is refused by 25 otherwise; a text is found where the answer says.
use Rattle.std.specs.Prelude.{◌≡◌, refl, Bool, true, List, ℕ, ◌+◌, ◌-◌, ◌≤◌, ◌<◌, ℤ, length, take, drop}
use Rattle.std.proofs.Common.{sym, ap, ◌∙◌, arith, take-take}
use borrow.Author.Tests.{lt-ltb, le-leb, lt-leb}
use Rattle.std.proofs.Math.Seq.{take-append_seam}
use Rattle.places.specs.rule.Places.{pick, run}
use Rattle.places.specs.Laws.{pick_run}
use Rattle.layout.specs.rule.Row.{row_at}
use Rattle.layout.specs.declared.Row.{Row}
use Rattle.layout.specs.declared.Kind.{Kind}
use Rattle.layout.specs.declared.Kind.TheVariants.{Single, Multiple, Quantity, Character, Logical}
use Rattle.fields.specs.rule.Field.{Value, missing, number, members, text, truth, holds, spaces, text_bytes, text_fits}
use Rattle.fields.specs.rule.Row.{fits, places_by, fits_by, bytes_by}
use Rattle.fields.specs.Facts.{KindFacts, WidthFacts}
use Rattle.fieldlaws.specs.BackLaws.{fit_legal}
use Rattle.fieldlaws.specs.TextLaws.{fitting}
use Rattle.sound.specs.rule.Rows.{rows_of, length_of}
use Rattle.sound.specs.Rows.{row_facts}
use Rattle.sets.specs.rule.Sets.{filled_of, list_after}
use Rattle.records.specs.rule.Value.{Outcome, nothing, number_is, set_of, text_at, truth_is, refused, outcome_of}
use Rattle.records.specs.rule.First.{row_fault}
use Rattle.records.specs.rule.Value.{read_as, list_as, ValueRead}
use Rattle.writes.specs.rule.Public.{Written}
use Rattle.laws.specs.Writing.{done_accepted, keeps_length, read_back, bytes_put}

module _ {t : List ℤ} {i : ℕ} {x : Value} {old new : List ℕ} (w : Written t i x old new 0) {list list' : List ℤ} {o : Outcome}
    (read : ValueRead t i new list list' o) where
  long : length_of t ≤ length new
  long = rw (keeps_length w) (done_accepted w).sound.long

  -- what is read is what was written
  pub reads_written : o ≡ outcome_of ((row_at t i).start - 1) (length list) (row_fault t (rows_of t) new i) (holds x)
  unfolding read_as
  reads_written =
      let s = (done_accepted w).sound in
      read.says ∙ rw (s.formed, lt-ltb i (rows_of t) s.row, le-leb (length_of t) (length new) long, read_back w)

  pub list_written : list' ≡ list_after (holds x) list
  unfolding list_as
  list_written =
      let s = (done_accepted w).sound in
      read.leaves ∙ rw (s.formed, lt-ltb i (rows_of t) s.row, le-leb (length_of t) (length new) long, read_back w)

module _ {t : List ℤ} {i : ℕ} {old new : List ℕ} {list list' : List ℤ} {o : Outcome} where
  -- missing reads back as missing, a number and a truth as themselves
  pub missing_back : Written t i missing old new 0 → ValueRead t i new list list' o → o ≡ nothing
  unfolding outcome_of
  missing_back w read = reads_written w read

  pub number_back : {z : ℤ} → Written t i (number z) old new 0 → ValueRead t i new list list' o → o ≡ number_is z
  unfolding outcome_of
  number_back w read = reads_written w read

  -- a set that the list has room for fills its start
  pub set_back : {ms : List ℤ} → Written t i (members ms) old new 0 → ValueRead t i new list list' o → length ms ≤ length list
      → (o ≡ set_of (length ms)) × (list' ≡ filled_of ms list)
  unfolding outcome_of list_after
  set_back {ms} w read h =
      (reads_written w read ∙ rw (le-leb (length ms) (length list) h), list_written w read ∙ rw (le-leb (length ms) (length list) h))

  -- and 25 otherwise, which keeps the list
  pub set_short : {ms : List ℤ} → Written t i (members ms) old new 0 → ValueRead t i new list list' o → length list < length ms
      → (o ≡ refused 25) × (list' ≡ list)
  unfolding outcome_of list_after
  set_short {ms} w read h =
      (reads_written w read ∙ rw (lt-leb (length ms) (length list) h), list_written w read ∙ rw (lt-leb (length ms) (length list) h))

  pub truth_back : {b : Bool} → Written t i (truth b) old new 0 → ValueRead t i new list list' o → o ≡ truth_is b
  unfolding outcome_of
  truth_back w read = reads_written w read

-- ---- a text: the bytes where the answer says are the text
pub text_kind : (k : Kind) (t : List ℤ) (v : ℕ) (r : Row) (s : List ℕ) → fits_by k t v r (text s) ≡ fits
    → (k ≡ Character) × (text_fits r.width s ≡ true)
unfolding fits_by
text_kind Character t v r s e = (refl, fit_legal (text_fits r.width s) e)
text_kind Single t v r s e = let z : ◌≡◌ {A = ℕ} 0 1 = cc in absurd (omega arith)
text_kind (Multiple x) t v r s e = let z : ◌≡◌ {A = ℕ} 0 1 = cc in absurd (omega arith)
text_kind (Quantity f) t v r s e = let z : ◌≡◌ {A = ℕ} 0 1 = cc in absurd (omega arith)
text_kind Logical t v r s e = let z : ◌≡◌ {A = ℕ} 0 1 = cc in absurd (omega arith)

text_bytes_lem : (k : Kind) (t : List ℤ) (v : ℕ) (r : Row) (s new : List ℕ) → k ≡ Character
    → pick new (places_by k t v r) ≡ bytes_by k t v r (text s)
    → pick new (run (r.start - 1) r.width) ≡ text_bytes r.width s
unfolding places_by bytes_by
text_bytes_lem k t v r s new e q = rw e at q

pub text_room : (k : Kind) (r : Row) → k ≡ Character → KindFacts k r → WidthFacts 4096 r
text_room k r e f = rw e at f

-- the first bytes of a text with spaces behind it
pub text_first : (w p : ℕ) (s new : List ℕ) → length s ≤ w → take w (drop p new) ≡ text_bytes w s → take (length s) (drop p new) ≡ s
unfolding text_bytes
text_first w p s new h e =
    sym (take-take (length s) w (drop p new) h) ∙ ap (take (length s)) e ∙ take-append_seam s (spaces (w - length s))

module _ {t : List ℤ} {i : ℕ} {s : List ℕ} {old new : List ℕ} (w : Written t i (text s) old new 0) where
  pub text_back : {list list' : List ℤ} {o : Outcome} → ValueRead t i new list list' o → o ≡ text_at ((row_at t i).start - 1) (length s)
  unfolding outcome_of
  text_back read = reads_written w read

  pub text_there : take (length s) (drop ((row_at t i).start - 1) new) ≡ s
  text_there =
      let a = done_accepted w in
      let r = row_at t i in
      let f = row_facts t a.sound.formed i a.sound.row in
      let k = text_kind r.kind t (rows_of t) r s a.fitting in
      let g = text_room r.kind r k.0 f.kind in
      let n : r.start - 1 + r.width ≤ length new =
      omega (arith, keeps_length w, a.sound.long, f.position.inside, f.position.from_one, g.room) in
      text_first r.width (r.start - 1) s new (fitting r.width s k.1).few
      (sym (pick_run new (r.start - 1) r.width n) ∙ text_bytes_lem r.kind t (rows_of t) r s new k.0 (bytes_put w))
