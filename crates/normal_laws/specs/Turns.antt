-- Rows written back one after the other, in any order: what each turn keeps, and that the bytes in the end are settled by what the rows
-- read and by the bytes outside the value places.
use Rattle.std.specs.Prelude.{◌≡◌, Bool, ◌&&◌, ◌||◌, ℤ, length, get_or}
use Rattle.std.proofs.Math.Path.{refl, ap}
use Rattle.std.proofs.Common.{sym, ◌∙◌, ext_get_or}
use Rattle.std.proofs.Math.Logic.{⊎_elim}
use Rattle.std.proofs.Math.Bool.{true, false, not}
use mathlib.Core.List.{List, [], ◌∷◌}
use Prim.Native.Nat.{ℕ, zero, suc, ◌≤◌, ◌<◌}
use native.Mathlib.Omega.{arith}
use borrow.Author.Tests.{eqb-true, eqb-false, eq-eqb, ltb-true, lt-ltb}
use Rattle.std.proofs.Math.Dec.{eqb, ltb}
use Rattle.below.specs.rule.Below.{any_below}
use Rattle.below.specs.Below.{any_some, any_holds, or_true, holds_not, decided, lt_or_le}
use Rattle.places.specs.rule.Places.{pick, Apart}
use Rattle.places.specs.Places.{Below}
use Rattle.places.specs.Laws.{apart}
use Rattle.layout.specs.rule.Row.{row_at}
use Rattle.fields.specs.rule.Field.{Value, Field, holds, illegal}
use Rattle.fields.specs.rule.Row.{fits, fit_of, bytes_of, written_of}
use Rattle.fieldlaws.specs.BackLaws.{held}
use Rattle.fieldlaws.specs.Tests.{or_left}
use Rattle.fieldlaws.specs.Corrections.{written_length, written_keeps, others_read, written_bytes, reads_back, read_fits}
use Rattle.sets.specs.rule.Sets.{is_illegal}
use Rattle.sound.specs.rule.Sound.{well_formed}
use Rattle.sound.specs.rule.Rows.{rows_of, length_of}
use Rattle.sound.specs.Rows.{row_facts}
use Rattle.records.specs.rule.Value.{reading_at}
use Rattle.laws.specs.Tops.{row_topped}
use Rattle.sharing.specs.rule.Sharing.{is_out, places_at, shares_none}
use Rattle.sharing.specs.Claims.{by_cases, none_out, out_cases}
use Rattle.sharing.specs.Pairs.{apart_rows, apart_turn, apart_is, is_apart, out_is}
use Rattle.normal.specs.rule.Normal.{field_back, back_of, settled_row, normal_form}
use Rattle.normal_laws.specs.rule.Alike.{OutAll, AgreeOutside, ReadAlike, back_all}

-- a field that is not illegal holds a value
pub held_value : {A : Type 0} (f : Field) → is_illegal f ≡ false → ((x : Value) → f ≡ holds x → A) → A
unfolding is_illegal
held_value (holds x) e g = g x refl
held_value illegal e g = holds_not refl e

-- a table whose rows share no value place, and a record whose rows are all legal
pub record Given (t : List ℤ) (s : List ℕ) : Type 0 where
  pub formed : well_formed t ≡ true
  pub unshared : shares_none t (rows_of t) ≡ true
  pub long : length_of t ≤ length s
  pub legal_rows : (i : ℕ) → i < rows_of t → is_illegal (reading_at t i s) ≡ false

-- the record new, in which of old's rows those that are done were written back
pub record Turned (t : List ℤ) (old new : List ℕ) (done : ℕ → Bool) : Type 0 where
  pub size : length new ≡ length old
  pub kept : (q : ℕ) → OutAll t q → get_or new q 0 ≡ get_or old q 0
  pub reads : ReadAlike t new old
  pub bytes : (i : ℕ) → i < rows_of t → done i ≡ true → (x : Value) → reading_at t i old ≡ holds x
      → pick new (places_at t (rows_of t) i) ≡ bytes_of t (rows_of t) (row_at t i) x

pub turned_none : (t : List ℤ) (s : List ℕ) → Turned t s s (λ i. false)
turned_none t s = record { size = refl; kept = λ q o. refl; reads = λ i h. refl; bytes = λ i h e x q. holds_not e refl }

-- done may be said otherwise
pub turned_as : {t : List ℤ} {old new : List ℕ} {done : ℕ → Bool} (done' : ℕ → Bool)
    → ((i : ℕ) → i < rows_of t → done' i ≡ true → done i ≡ true)
    → Turned t old new done → Turned t old new done'
turned_as done' f d = record { size = d.size; kept = d.kept; reads = d.reads; bytes = λ i h e. d.bytes i h (f i h e) }

module _ {t : List ℤ} {old : List ℕ} (g : Given t old) where
  -- two rows share no place, whichever comes first
  rows_apart : (i n : ℕ) → i < rows_of t → n < rows_of t → (i ≡ n → ⊥) → Apart (places_at t (rows_of t) i) (places_at t (rows_of t) n)
  rows_apart i n h l d =
      ⊎_elim
      (λ a. apart_rows t (rows_of t) g.unshared i n a l)
      (λ a.
      let b : n < i = omega (arith, d) in
      apart_is (places_at t (rows_of t) i) (places_at t (rows_of t) n)
      (apart_turn (places_at t (rows_of t) n) (places_at t (rows_of t) i)
      (is_apart (places_at t (rows_of t) n) (places_at t (rows_of t) i) (apart_rows t (rows_of t) g.unshared n i b h))))
      (lt_or_le i n)

  module _ {new : List ℕ} {done : ℕ → Bool} (n : ℕ) (h : n < rows_of t) (d : Turned t old new done) (x : Value)
      (q : reading_at t n old ≡ holds x) where
    reads_now : reading_at t n new ≡ holds x
    reads_now = d.reads n h ∙ q

    fit_now : fit_of t (rows_of t) (row_at t n) x ≡ fits
    fit_now = read_fits t (rows_of t) (row_at t n) x new reads_now

    long_now : length_of t ≤ length new
    long_now = rw d.size g.long

    back_is : back_of t (rows_of t) (row_at t n) new ≡ written_of t (rows_of t) (row_at t n) x new
    unfolding field_back
    back_is = ap (λ (f : Field). field_back t (rows_of t) (row_at t n) f new) reads_now

    turn_reads : (i : ℕ) → i < rows_of t → reading_at t i (written_of t (rows_of t) (row_at t n) x new) ≡ reading_at t i old
    turn_reads i l =
        by_cases (eqb i n)
        (λ e. rw (eqb-true i n e) (reads_back (row_at t n) (row_facts t g.formed n h) new (row_topped t g.formed n h) x long_now
        fit_now ∙ sym q))
        (λ e. others_read t (rows_of t) (row_at t n) x new (row_at t i) (rows_apart i n l h (eqb-false i n e)) ∙ d.reads i l)

    here_bytes : (y : Value) → reading_at t n old ≡ holds y
        → pick (written_of t (rows_of t) (row_at t n) x new) (places_at t (rows_of t) n) ≡ bytes_of t (rows_of t) (row_at t n) y
    here_bytes y p =
        written_bytes (row_at t n) (row_facts t g.formed n h) new x long_now fit_now
        ∙ ap (bytes_of t (rows_of t) (row_at t n)) (held (sym q ∙ p))

    there_bytes : (i : ℕ) → i < rows_of t → (i ≡ n → ⊥) → done i ≡ true → (y : Value) → reading_at t i old ≡ holds y
        → pick (written_of t (rows_of t) (row_at t n) x new) (places_at t (rows_of t) i) ≡ bytes_of t (rows_of t) (row_at t i) y
    unfolding written_of
    there_bytes i l z e y p =
        apart new (places_at t (rows_of t) n) (bytes_of t (rows_of t) (row_at t n) x) (places_at t (rows_of t) i) (rows_apart i n l h z)
        ∙ d.bytes i l e y p

    turn_bytes : (i : ℕ) → i < rows_of t → (done i || eqb i n) ≡ true → (y : Value) → reading_at t i old ≡ holds y
        → pick (written_of t (rows_of t) (row_at t n) x new) (places_at t (rows_of t) i) ≡ bytes_of t (rows_of t) (row_at t i) y
    turn_bytes i l e y p =
        by_cases (eqb i n)
        (λ w. let z = eqb-true i n w in rw z (here_bytes y (rw z at p)))
        (λ w. there_bytes i l (eqb-false i n w) (or_left (done i) (rw w at e)) y p)

    turn_written : Turned t old (back_of t (rows_of t) (row_at t n) new) (λ i. done i || eqb i n)
    turn_written =
        rw back_is (record {
          size = written_length t (rows_of t) (row_at t n) x new ∙ d.size;
          kept = λ p o. written_keeps t (rows_of t) (row_at t n) x new p (o n h) ∙ d.kept p o;
          reads = turn_reads;
          bytes = turn_bytes;
        })

  -- ONE TURN: row n, done or not, written back as it reads
  pub turn : {new : List ℕ} {done : ℕ → Bool} (n : ℕ) → n < rows_of t → Turned t old new done
      → Turned t old (back_of t (rows_of t) (row_at t n) new) (λ i. done i || eqb i n)
  turn n h d = held_value (reading_at t n old) (g.legal_rows n h) (λ x q. turn_written n h d x q)

  -- the first n rows, in their order
  pub turned_rows : (n : ℕ) → n ≤ rows_of t → Turned t old (settled_row t (rows_of t) n old) (λ i. ltb i n)
  unfolding settled_row
  turned_rows zero h = turned_as (λ i. ltb i 0) (λ i l e. absurd (omega (arith, ltb-true i 0 e))) (turned_none t old)
  turned_rows (suc n) h =
      turned_as (λ i. ltb i (suc n)) (λ i l e. below i (ltb-true i (suc n) e)) (turn n h (turned_rows n (omega arith)))
    where
      below : (i : ℕ) → i < suc n → (ltb i n || eqb i n) ≡ true
      below i l = ⊎_elim (λ a. rw (lt-ltb i n a)) (λ a. let z : i ≡ n = omega arith in rw (eq-eqb i n z) (or_true (ltb i n))) (lt_or_le i n)

  -- THE NORMAL FORM: all rows are done
  pub turned_all : Turned t old (normal_form t old) (λ i. ltb i (rows_of t))
  turned_all = turned_rows (rows_of t) (omega arith)

  -- rows in the order of a list
  pub turned_list : (ns : List ℕ) {new : List ℕ} {done : ℕ → Bool} → Below (rows_of t) ns → Turned t old new done
      → Turned t old (back_all t ns new) (λ i. done i || not (is_out i ns))
  unfolding back_all is_out
  turned_list [] {new} {done} b d = turned_as (λ i. done i || false) (λ i l e. or_left (done i) e) d
  turned_list (n ∷ ns) {new} {done} b d =
      turned_as (λ i. done i || not (is_out i (n ∷ ns))) (λ i l e. again (done i) (eqb i n) (is_out i ns) e)
      (turned_list ns b.1 (turn n b.0 d))
    where
      again : (x y z : Bool) → (x || not (not y && z)) ≡ true → ((x || y) || not z) ≡ true
      again true y z e = refl
      again false true z e = refl
      again false false z e = e

-- a place is one of some row's, or of none
pub out_all : (t : List ℤ) (q : ℕ) {A : Type 0} → ((i : ℕ) → i < rows_of t → is_out q (places_at t (rows_of t) i) ≡ false → A)
    → (OutAll t q → A) → A
out_all t q f g =
    by_cases (any_below (rows_of t) (λ i. not (is_out q (places_at t (rows_of t) i))))
    (λ e. any_some (λ i. not (is_out q (places_at t (rows_of t) i))) (rows_of t) e
    (λ i h x. f i h (turned (is_out q (places_at t (rows_of t) i)) x)))
    (λ e. g (λ i h. out_is q (places_at t (rows_of t) i) (decided (is_out q (places_at t (rows_of t) i)) (λ x.
    holds_not (any_holds (λ i. not (is_out q (places_at t (rows_of t) i))) (rows_of t) i h (rw x)) e))))
  where
    turned : (b : Bool) → not b ≡ true → b ≡ false
    turned true x = sym x
    turned false x = refl

-- equal bytes picked are equal at each place
pub pick_at : (a b ps : List ℕ) → pick a ps ≡ pick b ps → (q : ℕ) → is_out q ps ≡ false → get_or a q 0 ≡ get_or b q 0
pick_at a b [] e q o = none_out q o
pick_at a b (p ∷ ps) e q o =
    out_cases q p ps o (λ z. let x : get_or a p 0 ≡ get_or b p 0 = cc in rw z x)
    (λ z. let x : pick a ps ≡ pick b ps = cc in pick_at a b ps x q z)

-- THE BYTES IN THE END: two records of one length that agree outside the value places and read equal
pub same_bytes : {t : List ℤ} {a b a' b' : List ℕ} {done done' : ℕ → Bool} → Given t a → Turned t a a' done → Turned t b b' done'
    → ((i : ℕ) → i < rows_of t → done i ≡ true) → ((i : ℕ) → i < rows_of t → done' i ≡ true)
    → length a ≡ length b → AgreeOutside t a b → ReadAlike t a b → a' ≡ b'
same_bytes {t} {a} {b} {a'} {b'} g x y f f' n o r =
    ext_get_or 0 a' b' (x.size ∙ n ∙ sym y.size) (λ q h.
    let l : q < length a = rw (← x.size) h in
    out_all t q
    (λ i k z. held_value (reading_at t i a) (g.legal_rows i k) (λ w e.
    pick_at a' b' (places_at t (rows_of t) i) (x.bytes i k (f i k) w e ∙ sym (y.bytes i k (f' i k) w (sym (r i k) ∙ e))) q z))
    (λ z. x.kept q z ∙ o q l z ∙ sym (y.kept q z)))
