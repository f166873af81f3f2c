-- A row written back: what was read, what it gives, and the rows one after the other.
use mathlib.Core.Path.{◌≡◌, refl, sym, ap, subst, ◌∙◌}
use mathlib.Core.Bool.{Bool, true, false}
use mathlib.Core.List.{List}
use Prim.Native.Nat.{ℕ, ◌+◌, ◌≤◌, ◌<◌}
use native.Mathlib.Numerals.{add-one}
use native.Mathlib.Omega.{arith}
use borrow.Author.Tests.{le-leb, lt-leb}
use lib.Dec.{leb}
use lib.IntN.{ℤ}
use lib.ListN.{length, take, drop, length-append}
use lib.Seq.{take-append_seam}
use Rattle.below.specs.Below.{holds_not}
use Rattle.layout.specs.rule.Layout.{header_of}
use Rattle.layout.specs.rule.Row.{row_at}
use Rattle.layout.specs.declared.Header.{Header}
use Rattle.layout.specs.declared.Row.{Row}
use Rattle.layout.specs.declared.Kind.{Kind}
use Rattle.layout.specs.declared.Kind.TheVariants.{Single, Multiple, Quantity, Character, Logical}
use Rattle.layout.specs.declared.Spread.TheVariants.{Bits, Fields}
use Rattle.fields.specs.rule.Field.{Value, missing, number, members, text, truth, Field, holds, illegal}
use Rattle.fields.specs.rule.Legal.{legal}
use Rattle.fields.specs.rule.Row.{reading_of, written_of, places_by, bytes_by, fits, fits_by}
use Rattle.places.specs.rule.Places.{put}
use Rattle.fieldlaws.specs.BackLaws.{fit_legal}
use Rattle.fieldlaws.specs.Corrections.{Plain, bitstring, character, logical, read_fits, writes_back_bytes}
use Rattle.sets.specs.rule.Sets.{list_after, filled_of}
use Rattle.readings.specs.Answer.{answer_of, RowRead}
use Rattle.readings.specs.declared.Answer.{Answer}
use Rattle.writes.specs.declared.Value as given
use Rattle.writes.specs.declared.Wrote.{Wrote}
use Rattle.writes.specs.rule.Write.{lent_value}
use Rattle.writes.specs.Write.{WrittenBy, left_by}
use Rattle.sound.specs.rule.Sound.{well_formed}
use Rattle.sound.specs.rule.Rows.{rows_of, length_of}
use Rattle.sound.specs.Rows.{length_low}
use Rattle.sharing.specs.Known.{TableKnown, table_known}
use Rattle.records.specs.Tables.{TableReady, table_ready}
use Rattle.sharing.specs.rule.Sharing.{shares_none}
use Rattle.records.specs.rule.Verdict.{Verdict, refused, rows_verdict, verdict_of}
use Rattle.files.specs.rule.File.{is_sound}
use Rattle.normal.specs.rule.Normal.{field_back, back_of, settled_row, normal_form, normal_verdict, normal_after, Normalised}
use Rattle.normal.specs.Settle.{stays, HeldAs, Settles}

-- ---- rows that stand as they would be written
stays_plain : (k : Kind) → stays k ≡ true → Plain k
stays_plain Single e = holds_not e refl
stays_plain (Multiple Bits) e = bitstring
stays_plain (Multiple (Fields n b)) e = holds_not e refl
stays_plain (Quantity f) e = holds_not e refl
stays_plain Character e = character
stays_plain Logical e = logical

module _ (t : List ℤ) (v : ℕ) (r : Row) (s : List ℕ) where
  pub stays_back : {b : Bool} → b ≡ stays r.kind → b ≡ true → s ≡ back_of t v r s
  unfolding field_back
  stays_back e y = go (reading_of t v r s) refl
    where
      go : (f : Field) → reading_of t v r s ≡ f → s ≡ field_back t v r f s
      go (holds x) q = sym (writes_back_bytes t v r x s (stays_plain r.kind (sym e ∙ y)) q)
      go illegal q = refl

  -- no row but a text's holds a text, and none but a truth's a truth
  no_text_lem : {A : Type 0} (k : Kind) (x : List ℕ) → stays k ≡ false → fits_by k t v r (text x) ≡ fits → A
  unfolding fits_by
  no_text_lem Single x y e = let z : ◌≡◌ {A = ℕ} 0 1 = cc in absurd (omega arith)
  no_text_lem (Multiple m) x y e = let z : ◌≡◌ {A = ℕ} 0 1 = cc in absurd (omega arith)
  no_text_lem (Quantity f) x y e = let z : ◌≡◌ {A = ℕ} 0 1 = cc in absurd (omega arith)
  no_text_lem Character x y e = holds_not refl y
  no_text_lem Logical x y e = holds_not refl y

  no_truth : {A : Type 0} (k : Kind) (b : Bool) → stays k ≡ false → fits_by k t v r (truth b) ≡ fits → A
  unfolding fits_by
  no_truth Single b y e = let z : ◌≡◌ {A = ℕ} 0 1 = cc in absurd (omega arith)
  no_truth (Multiple m) b y e = let z : ◌≡◌ {A = ℕ} 0 1 = cc in absurd (omega arith)
  no_truth (Quantity f) b y e = let z : ◌≡◌ {A = ℕ} 0 1 = cc in absurd (omega arith)
  no_truth Character b y e = holds_not refl y
  no_truth Logical b y e = holds_not refl y

  -- ---- what was read
  pub held_as : {size : ℕ} {list list' : List ℤ} {p : ℕ} {a : Answer} {b : Bool} → Settles t v r size (length list) → b ≡ stays r.kind
      → b ≡ false
      → RowRead p (reading_of t v r s) list list' a → HeldAs t v r s list' a
  unfolding field_back answer_of list_after filled_of
  held_as {size} {list} {list'} {p} {a} st y z d = go (reading_of t v r s) refl d.answer d.leaves
    where
      quiet : stays r.kind ≡ false
      quiet = sym y ∙ z

      set : (ms : List ℤ) → reading_of t v r s ≡ holds (members ms) → (c : Bool) → leb (length ms) (length list) ≡ c
          → a ≡ answer_of p (length list) (holds (members ms)) → list' ≡ list_after (holds (members ms)) list → HeldAs t v r s list' a
      set ms q false c e l = holds_not (le-leb (length ms) (length list) (st.few s ms quiet q)) c
      set ms q true c e l =
          let u : take (length ms) list' ≡ ms = ap (take (length ms)) (rw c at l) ∙ take-append_seam ms (drop (length ms) list) in
          let n : length ms ≤ length list' = rw (rw c at l, length-append) (omega arith) in
          subst (λ (x : Answer). HeldAs t v r s list' x) (sym (rw c at e)) (n, q ∙ ap (λ (m : List ℤ). holds (members m)) (sym u))

      go : (f : Field) → reading_of t v r s ≡ f → a ≡ answer_of p (length list) f → list' ≡ list_after f list → HeldAs t v r s list' a
      go (holds missing) q e l = subst (λ (x : Answer). HeldAs t v r s list' x) (sym e) q
      go (holds (number k)) q e l = subst (λ (x : Answer). HeldAs t v r s list' x) (sym e) q
      go (holds (members ms)) q e l = set ms q (leb (length ms) (length list)) refl e l
      go (holds (text x)) q e l = no_text_lem r.kind x quiet (read_fits t v r (text x) s q)
      go (holds (truth b)) q e l = no_truth r.kind b quiet (read_fits t v r (truth b) s q)
      go illegal q e l = subst (λ (x : Answer). HeldAs t v r s list' x) (sym e) (ap (λ (f : Field). field_back t v r f s) q)

  -- ---- and written back
  pub written_back : {new : List ℕ} {value : given.Value} {list : List ℤ} {x : List ℕ} {w : Wrote} (h : Value) → reading_of t v r s
      ≡ holds h
      → lent_value value list x ≡ h → WrittenBy r.kind t v r value list x s new w → new ≡ back_of t v r s
  unfolding field_back left_by written_of
  written_back h q e w = w.leaves ∙ rw (e, read_fits t v r h s q, q)

  -- a number that was read is one that the row allows
  by_kind : (k : Kind) (z : ℤ) → fits_by k t v r (number z) ≡ fits → legal t v r z ≡ true
  unfolding fits_by
  by_kind Single z e = fit_legal (legal t v r z) e
  by_kind (Quantity f) z e = fit_legal (legal t v r z) e
  by_kind (Multiple m) z e = let q : ◌≡◌ {A = ℕ} 0 1 = cc in absurd (omega arith)
  by_kind Character z e = let q : ◌≡◌ {A = ℕ} 0 1 = cc in absurd (omega arith)
  by_kind Logical z e = let q : ◌≡◌ {A = ℕ} 0 1 = cc in absurd (omega arith)

  pub number_legal : (z : ℤ) → reading_of t v r s ≡ holds (number z) → legal t v r z ≡ true
  number_legal z q = by_kind r.kind z (read_fits t v r (number z) s q)

  -- and its bytes at its places are what is written back
  pub number_back : {new : List ℕ} (z : ℤ) → reading_of t v r s ≡ holds (number z)
      → new ≡ put s (places_by r.kind t v r) (bytes_by r.kind t v r (number z)) → new ≡ back_of t v r s
  unfolding field_back written_of
  number_back z q e = e ∙ rw q

-- what was read, once its case is known
pub held : (t : List ℤ) (v : ℕ) (r : Row) (s : List ℕ) (list : List ℤ) {a b : Answer} → a ≡ b → HeldAs t v r s list a
    → HeldAs t v r s list b
held t v r s list e h = subst (λ (x : Answer). HeldAs t v r s list x) e h

-- ---- rows one after the other
pub settled_next : (t : List ℤ) (v n : ℕ) (s : List ℕ) → settled_row t v (n + 1) s ≡ back_of t v (row_at t n) (settled_row t v n s)
unfolding settled_row
settled_next t v n s = rw (add-one n)

pub settled_step : (t : List ℤ) (v i : ℕ) (s : List ℕ) {row : Row} {bytes new : List ℕ} → new ≡ back_of t v row bytes → row ≡ row_at t i
    → bytes ≡ settled_row t v i s → new ≡ settled_row t v (i + 1) s
settled_step t v i s {row} {bytes} {new} e q b =
    e ∙ ap (λ (r : Row). back_of t v r bytes) q ∙ ap (back_of t v (row_at t i)) b ∙ sym (settled_next t v i s)

pub settled_whole : (t : List ℤ) (v i : ℕ) (s : List ℕ) {bytes : List ℕ} → bytes ≡ settled_row t v i s → v ≤ i → i ≤ v → bytes
    ≡ settled_row t v v s
settled_whole t v i s e a b = let z : i ≡ v = omega arith in e ∙ rw z

pub settled_none : (t : List ℤ) (v : ℕ) (s : List ℕ) → s ≡ settled_row t v 0 s
unfolding settled_row
settled_none t v s = refl

-- ---- the call
module _ (t : List ℤ) (old : List ℕ) where
  pub not_formed : well_formed t ≡ false → Normalised t old old (refused 20)
  unfolding normal_verdict is_sound normal_after
  not_formed e = record { says = rw e; leaves = rw e }

  module _ (good : well_formed t ≡ true) where
    pub shared : shares_none t (rows_of t) ≡ false → Normalised t old old (refused 90)
    unfolding normal_verdict is_sound normal_after
    shared e = record { says = rw (good, e); leaves = rw (good, e) }

    module _ (apart : shares_none t (rows_of t) ≡ true) where
      verdict_is : normal_verdict t old ≡ verdict_of t old
      unfolding normal_verdict
      verdict_is = rw (good, apart)

      pub refused_as : {v : Verdict} → v ≡ verdict_of t old → is_sound v ≡ false → Normalised t old old v
      unfolding normal_after
      refused_as {v} e y = record { says = e ∙ sym verdict_is; leaves = rw (verdict_is ∙ sym e, y) }

      pub done_as : {v : Verdict} {new : List ℕ} → v ≡ verdict_of t old → is_sound v ≡ true → new ≡ normal_form t old
          → Normalised t old new v
      unfolding normal_after
      done_as {v} e y n = record { says = e ∙ sym verdict_is; leaves = n ∙ rw (verdict_is ∙ sym e, y) }

-- ---- as the code goes through the tests
module _ (t : List ℤ) (good : well_formed t ≡ true) (h : Header) (head : h ≡ header_of t) where
  pub known : TableKnown t h.rows h.length × (h.length ≤ 16384)
  known = rw head (table_known t good, length_low t good)

module _ (t : List ℤ) (old : List ℕ) (good : well_formed t ≡ true) (h : Header) (head : h ≡ header_of t) where
  pub rows_ready : h.length ≤ length old → TableReady t h.rows (length old)
  rows_ready l = let k : length_of t ≤ length old = rw head at l in rw head (table_ready t good (length old) k)

  module _ {b : Bool} (tested : b ≡ shares_none t h.rows) where
    here : {c : Bool} → b ≡ c → shares_none t (rows_of t) ≡ c
    here y = let e : b ≡ shares_none t (rows_of t) = rw head at tested in sym e ∙ y

    pub shared_as : b ≡ false → Normalised t old old (refused 90)
    shared_as y = shared t old good (here y)

    module _ (y : b ≡ true) where
      pub short_as : length old < h.length → Normalised t old old (refused 22)
      unfolding verdict_of is_sound
      short_as l = let k : length old < length_of t = rw head at l in
          refused_as t old good (here y) (rw (good, lt-leb (length_of t) (length old) k)) refl

      module _ (l : h.length ≤ length old) {v : Verdict} (j : v ≡ rows_verdict t h.rows old) {c : Bool} (s : c ≡ is_sound v) where
        judged : v ≡ verdict_of t old
        unfolding verdict_of
        judged = let k : length_of t ≤ length old = rw head at l in j ∙ rw (head, good, le-leb (length_of t) (length old) k)

        pub judged_not : c ≡ false → Normalised t old old v
        judged_not x = refused_as t old good (here y) judged (sym s ∙ x)

        pub judged_done : c ≡ true → {new : List ℕ} → new ≡ settled_row t h.rows h.rows old → Normalised t old new v
        judged_done x e = done_as t old good (here y) judged (sym s ∙ x) (rw head at e)
