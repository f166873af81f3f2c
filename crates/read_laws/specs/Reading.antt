-- What follows from rule/Reading.antt, and what the code keeps.
use Rattle.std.specs.Prelude.{◌≡◌, Bool, cond, List, ◌++◌, ℕ, ◌-◌, ◌<◌, ltb, ℤ, length}
use Rattle.std.proofs.Math.Path.{refl}
use Rattle.std.proofs.Common.{sym, ◌∙◌, arith}
use Rattle.std.proofs.Math.Bool.{true, false}
use borrow.Author.Tests.{leb-true, leb-false, ltb-true, ltb-false, le-leb, lt-leb, lt-ltb, le-ltb}
use Rattle.std.proofs.Math.Dec.{leb}
use Rattle.std.proofs.Math.ListN.{drop}
use Rattle.places.specs.rule.Places.{pick}
use Rattle.places.specs.Laws.{length_pick}
use Rattle.layout.specs.rule.Row.{row_at}
use Rattle.layout.specs.declared.Spread.TheVariants.{Bits, Fields}
use Rattle.layout.specs.declared.Kind.{Kind}
use Rattle.layout.specs.declared.Kind.TheVariants.{Single, Multiple, Quantity, Character, Logical}
use Rattle.layout.specs.declared.Row.{Row}
use Rattle.fields.specs.rule.Field.{missing, number, members, text, truth, Field, holds, illegal}
use Rattle.fields.specs.rule.Row.{categories, places_by, places_of, reading_of}
use Rattle.fields.specs.Facts.{KindFacts}
use Rattle.fieldlaws.specs.PlaceLaws.{length_bits}
use Rattle.sound.specs.rule.Sound.{well_formed}
use Rattle.sound.specs.rule.Rows.{rows_of, length_of}
use Rattle.sound.specs.Rows.{row_facts}
use Rattle.sets.specs.rule.Sets.{filled_of, list_after}
use Rattle.faults.specs.declared.Fault.{Fault}
use Rattle.records.specs.rule.First.{row_fault}
use Rattle.records.specs.rule.Value.{Outcome, set_of, refused, bad_field, outcome_of, reading_at, read_as, list_as, ValueRead}
use Rattle.read_laws.specs.rule.Exactly.{Given}
use Rattle.read_laws.specs.Exactly.{field_named, field_only}
use Rattle.read_laws.specs.rule.Reading.{Readable, Row-says, ReadOutcome, not_formed, no_row, too_short, is_illegal_lem, is_missing}
use Rattle.read_laws.specs.rule.Reading.{is_number, is_set, short_list, is_text_lem, is_truth}

-- ---- a row of a well-formed table gives what the forms lean on
given_by : (k : Kind) (t : List ℤ) (v : ℕ) (r : Row) (bytes : List ℕ) → KindFacts k r → Given t v r (pick bytes (places_by k t v r)) k
unfolding places_by
given_by Single t v r bytes f = tt
given_by (Multiple Bits) t v r bytes f =
    sym (length_pick bytes (places_by (Multiple Bits) t v r) ∙ length_bits (r.start - 1) (categories t v r))
given_by (Multiple (Fields n b)) t v r bytes f = tt
given_by (Quantity g) t v r bytes f = record { few = f.decimals; plain = f.plain }
given_by Character t v r bytes f = tt
given_by Logical t v r bytes f = length_pick bytes (places_by Logical t v r)

module _ (t : List ℤ) (i : ℕ) (bytes : List ℕ) where
  given : Readable t i bytes
      → Given t (rows_of t) (row_at t i) (pick bytes (places_of t (rows_of t) (row_at t i))) (row_at t i).kind
  given s = given_by (row_at t i).kind t (rows_of t) (row_at t i) bytes (row_facts t s.formed i s.row).kind

  pub row_named : Readable t i bytes → Row-says t i bytes (reading_at t i bytes)
  unfolding reading_of
  row_named s =
      field_named t (rows_of t) (row_at t i) (pick bytes (places_of t (rows_of t) (row_at t i))) (row_at t i).kind (given s)

  pub row_only : Readable t i bytes → {f : Field} → Row-says t i bytes f → reading_at t i bytes ≡ f
  unfolding reading_of
  row_only s h = field_only t (rows_of t) (row_at t i) (pick bytes (places_of t (rows_of t) (row_at t i))) (given s) h

  module _ (list : List ℤ) where
    read_sound : Readable t i bytes → read_as t i bytes (length list)
        ≡ outcome_of ((row_at t i).start - 1) (length list) (row_fault t (rows_of t) bytes i) (reading_at t i bytes)
    unfolding read_as
    read_sound s = rw (s.formed, lt-ltb i (rows_of t) s.row, le-leb (length_of t) (length bytes) s.long)

    list_sound : Readable t i bytes → list_as t i bytes list ≡ list_after (reading_at t i bytes) list
    unfolding list_as
    list_sound s = rw (s.formed, lt-ltb i (rows_of t) s.row, le-leb (length_of t) (length bytes) s.long)

    -- ---- WHAT IS SO HAS ITS OUTCOME
    by_field : Readable t i bytes → {f : Field} → Row-says t i bytes f
        → ValueRead t i bytes list (list_after f list)
        (outcome_of ((row_at t i).start - 1) (length list) (row_fault t (rows_of t) bytes i) f)
    by_field s {f} h = record {
      says = rw (read_sound s, row_only s h);
      leaves = rw (list_sound s, row_only s h);
    }

    pub read_only : {list' : List ℤ} {o : Outcome} → ReadOutcome t i bytes list list' o → ValueRead t i bytes list list' o
    unfolding read_as list_as outcome_of list_after filled_of
    read_only (not_formed g) = record { says = rw g; leaves = rw g }
    read_only (no_row g h) = record { says = rw (g, le-ltb i (rows_of t) h); leaves = rw (g, le-ltb i (rows_of t) h) }
    read_only (too_short g h l) = record {
      says = rw (g, lt-ltb i (rows_of t) h, lt-leb (length_of t) (length bytes) l);
      leaves = rw (g, lt-ltb i (rows_of t) h, lt-leb (length_of t) (length bytes) l);
    }
    read_only (is_illegal_lem s h) = by_field s h
    read_only (is_missing s h) = by_field s h
    read_only (is_number s h) = by_field s h
    read_only (is_set {ms} s h l) = rw (le-leb (length ms) (length list) l) at (by_field s h)
    read_only (short_list {ms} s h l) = rw (lt-leb (length ms) (length list) l) at (by_field s h)
    read_only (is_text_lem s h) = by_field s h
    read_only (is_truth s h) = by_field s h

    -- ---- AND THE OUTCOME NAMES WHAT IS SO
    named_by : Readable t i bytes → (f : Field) → Row-says t i bytes f
        → ReadOutcome t i bytes list (list_after f list)
        (outcome_of ((row_at t i).start - 1) (length list) (row_fault t (rows_of t) bytes i) f)
    unfolding outcome_of list_after filled_of
    named_by s illegal h = is_illegal_lem s h
    named_by s (holds missing) h = is_missing s h
    named_by s (holds (number z)) h = is_number s h
    named_by s (holds (text x)) h = is_text_lem s h
    named_by s (holds (truth b)) h = is_truth s h
    named_by s (holds (members ms)) h = go (leb (length ms) (length list)) refl
      where
        go : (b : Bool) → leb (length ms) (length list) ≡ b
            → ReadOutcome t i bytes list (cond b (ms ++ drop (length ms) list) list) (cond b (set_of (length ms)) (refused 25))
        go true e = is_set s h (leb-true (length ms) (length list) e)
        go false e = short_list s h (leb-false (length ms) (length list) e)

    outcome_named : ReadOutcome t i bytes list (list_as t i bytes list) (read_as t i bytes (length list))
    unfolding read_as list_as
    outcome_named = formed (well_formed t) refl
      where
        here : Outcome
        here = outcome_of ((row_at t i).start - 1) (length list) (row_fault t (rows_of t) bytes i) (reading_at t i bytes)

        after : List ℤ
        after = list_after (reading_at t i bytes) list

        longer : well_formed t ≡ true → i < rows_of t → (b : Bool) → leb (length_of t) (length bytes) ≡ b
            → ReadOutcome t i bytes list (cond b after list) (cond b here (refused 22))
        longer g h true e =
            let s : Readable t i bytes = record { formed = g; row = h; long = leb-true (length_of t) (length bytes) e } in
            named_by s (reading_at t i bytes) (row_named s)
        longer g h false e = too_short g h (leb-false (length_of t) (length bytes) e)

        rowed : well_formed t ≡ true → (b : Bool) → ltb i (rows_of t) ≡ b
            → ReadOutcome t i bytes list (cond b (cond (leb (length_of t) (length bytes)) after list) list)
            (cond b (cond (leb (length_of t) (length bytes)) here (refused 22)) (refused 21))
        rowed g true e = longer g (ltb-true i (rows_of t) e) (leb (length_of t) (length bytes)) refl
        rowed g false e = no_row g (ltb-false i (rows_of t) e)

        formed : (b : Bool) → well_formed t ≡ b
            → ReadOutcome t i bytes list
            (cond b (cond (ltb i (rows_of t)) (cond (leb (length_of t) (length bytes)) after list) list) list)
            (cond b (cond (ltb i (rows_of t)) (cond (leb (length_of t) (length bytes)) here (refused 22)) (refused 21)) (refused 20))
        formed true g = rowed g (ltb i (rows_of t)) refl
        formed false g = not_formed g

    pub read_named : {list' : List ℤ} {o : Outcome} → ValueRead t i bytes list list' o → ReadOutcome t i bytes list list' o
    read_named w = rw (w.says, w.leaves) outcome_named

-- ALL BUT A SET KEEP THE LIST
kept_unless_set : {t : List ℤ} {i : ℕ} {bytes : List ℕ} {list list' : List ℤ} {o : Outcome} → ReadOutcome t i bytes list list' o
    → ((n : ℕ) → o ≡ set_of n → ◌≡◌ {A = ℕ} 0 1) → list' ≡ list
kept_unless_set (is_set s h n) e = let z = e _ refl in absurd (omega arith)
kept_unless_set (not_formed g) e = refl
kept_unless_set (no_row g h) e = refl
kept_unless_set (too_short g h l) e = refl
kept_unless_set (is_illegal_lem s h) e = refl
kept_unless_set (is_missing s h) e = refl
kept_unless_set (is_number s h) e = refl
kept_unless_set (short_list s h n) e = refl
kept_unless_set (is_text_lem s h) e = refl
kept_unless_set (is_truth s h) e = refl

-- a refusal keeps it
pub read_refused_keeps : {t : List ℤ} {i : ℕ} {bytes : List ℕ} {list list' : List ℤ} {k : ℕ}
    → ValueRead t i bytes list list' (refused k) → list' ≡ list
read_refused_keeps {t} {i} {bytes} {list} w = kept_unless_set (read_named t i bytes list w) (λ n e. cc)

-- and so does a field with a fault
pub read_fault_keeps : {t : List ℤ} {i : ℕ} {bytes : List ℕ} {list list' : List ℤ} {x : Fault}
    → ValueRead t i bytes list list' (bad_field x) → list' ≡ list
read_fault_keeps {t} {i} {bytes} {list} w = kept_unless_set (read_named t i bytes list w) (λ n e. cc)
