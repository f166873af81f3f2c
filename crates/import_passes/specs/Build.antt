-- What the code keeps of the output while it builds the records of a text that is accepted.
use Rattle.std.specs.Prelude.{◌≡◌, refl, Bool, true, false, cond, List, [], ◌∷◌, ◌++◌, ℕ, suc, ◌+◌, ◌-◌, ◌*◌, ◌≤◌, ◌<◌, min, eqb, ℤ}
use Rattle.std.specs.Prelude.{length, take, drop}
use Rattle.std.proofs.Common.{sym, ap, ◌∙◌, append-nil, append_assoc, ⊎_elim, suc-mul, mul-le-mul_right, arith, length-append, length-drop}
use Rattle.std.proofs.Common.{take_at, drop_at, drop-drop}
use Rattle.below.specs.Below.{lt_or_le}
use Rattle.layout.specs.rule.Row.{row_at}
use Rattle.fields.specs.rule.Field.{Value, Field, holds, illegal, spaces}
use Rattle.fields.specs.rule.Row.{written_of}
use Rattle.fieldlaws.specs.TextLaws.{length_spaces}
use Rattle.fieldlaws.specs.Corrections.{written_length}
use Rattle.sound.specs.rule.Rows.{rows_of, length_of}
use Rattle.csv_fields.specs.rule.Page.{start, fresh, page, Lines, done, broken, line, page_lines}
use Rattle.field_values.specs.rule.Read.{value_from}
use Rattle.import_rule.specs.rule.Line.{LineSays, builds, faulty, on_field, record_from, line_says}
use Rattle.import_rule.specs.rule.Text.{TextSays, accepts, refuses, and_record, after_line, lines_say, file_bytes, data_of}
use Rattle.import_lines.specs.Walk.{FaultyLine}
use Rattle.import_passes.specs.Passes.{ahead, ahead_accepts, ahead_refuses, Passing, Accepted, Ended, passing_none, passing_more}
use Rattle.import_passes.specs.Passes.{passing_over, passing_faulty, passing_torn}

-- ---- each record has L bytes
not_builds : {A : Type 0} {k c : ℕ} {s : List ℕ} → faulty k c ≡ builds s → A
not_builds e = let z : ◌≡◌ {A = ℕ} 0 1 = cc in absurd (omega arith)

not_accepts : {A : Type 0} {k n c : ℕ} {rs : List (List ℕ)} → refuses k n c ≡ accepts rs → A
not_accepts e = let z : ◌≡◌ {A = ℕ} 0 1 = cc in absurd (omega arith)

unfoldable records_in : TextSays → List (List ℕ)
records_in (accepts rs) = rs
records_in (refuses k n c) = []

pub same_records : {rs us : List (List ℕ)} → accepts rs ≡ accepts us → rs ≡ us
unfolding records_in
same_records e = ap records_in e

unfoldable built_of : LineSays → List ℕ
built_of (builds s) = s
built_of (faulty k c) = []

same_built : {s u : List ℕ} → builds s ≡ builds u → s ≡ u
unfolding built_of
same_built e = ap built_of e

pub record_sized : (t : List ℤ) (v i : ℕ) (fs : List (List ℕ)) (s : List ℕ) {u : List ℕ} → record_from t v i fs s ≡ builds u → length u
    ≡ length s
unfolding record_from on_field
record_sized t v i [] s e = ap length (sym (same_built e))
record_sized t v i (f ∷ fs) s {u} e = by (value_from t v (row_at t i) f) e
    (λ x h. record_sized t v (i + 1) fs (written_of t v (row_at t i) x s) h)
  where
    by : (x : Field) → on_field x (λ y. record_from t v (i + 1) fs (written_of t v (row_at t i) y s)) (i + 1) ≡ builds u
        → ((y : Value) → record_from t v (i + 1) fs (written_of t v (row_at t i) y s) ≡ builds u → length u
        ≡ length (written_of t v (row_at t i) y s)) → length u ≡ length s
    by (holds y) h k = k y h ∙ written_length t v (row_at t i) y s
    by illegal h k = not_builds h

pub line_sized : (t : List ℤ) (fs : List (List ℕ)) {s : List ℕ} → line_says t fs ≡ builds s → length s ≡ length_of t
unfolding line_says
line_sized t fs {s} e = by (eqb (length fs) (rows_of t)) e
  where
    by : (q : Bool) → cond q (record_from t (rows_of t) 0 fs (spaces (length_of t))) (faulty 63 (min (length fs) (rows_of t) + 1))
        ≡ builds s
        → length s ≡ length_of t
    by true h = record_sized t (rows_of t) 0 fs (spaces (length_of t)) h ∙ length_spaces (length_of t)
    by false h = not_builds h

-- ---- the data of records
no_bytes : (m : ℕ) → length (file_bytes []) ≡ 0 * m
unfolding file_bytes
no_bytes m = omega arith

one_sized : (s : List ℕ) (us : List (List ℕ)) (n : ℕ) → length s ≡ n → length (file_bytes us) ≡ length us * (n + 2)
    → length (file_bytes (s ∷ us)) ≡ length (s ∷ us) * (n + 2)
unfolding file_bytes
one_sized s us n e h = omega (arith, length-append s (13 ∷ 10 ∷ file_bytes us), e, h, suc-mul (length us) (n + 2))

pub lines_sized : (t : List ℤ) (n : ℕ) (ls : Lines) {rs : List (List ℕ)} → lines_say t n ls ≡ accepts rs → length (file_bytes rs)
    ≡ length rs * (length_of t + 2)
unfolding lines_say after_line and_record
lines_sized t n done {rs} e = rw (← same_records e) (no_bytes (length_of t + 2))
lines_sized t n (broken c) e = not_accepts e
lines_sized t n (line fs ls) {rs} e = by (line_says t fs) refl (lines_say t (n + 1) ls) e (λ us h. lines_sized t (n + 1) ls h)
  where
    by : (x : LineSays) → line_says t fs ≡ x → (y : TextSays) → after_line n x y ≡ accepts rs
        → ((us : List (List ℕ)) → y ≡ accepts us → length (file_bytes us) ≡ length us * (length_of t + 2)) → length (file_bytes rs)
        ≡ length rs * (length_of t + 2)
    by (builds s) w (accepts us) h k = rw (← same_records h) (one_sized s us (length_of t) (line_sized t fs w) (k us refl))
    by (builds s) w (refuses a b c) h k = not_accepts h
    by (faulty a c) w y h k = not_accepts h

pub file_more : (rs : List (List ℕ)) (s : List ℕ) → file_bytes (rs ++ (s ∷ [])) ≡ file_bytes rs ++ (s ++ (13 ∷ 10 ∷ []))
unfolding file_bytes
file_more [] s = refl
file_more (r ∷ rs) s =
    ap (λ (x : List ℕ). r ++ ((13 ∷ 10 ∷ []) ++ x)) (file_more rs s)
    ∙ sym (append_assoc r ((13 ∷ 10 ∷ []) ++ file_bytes rs) (s ++ (13 ∷ 10 ∷ [])))

-- these records, so many, stand in the output's first k bytes, and what stood behind is kept
pub record Building (t : List ℤ) (d : List ℕ) (from at i k : ℕ) (out₀ out : List ℕ) : Type 0 where
  pub records : List (List ℕ)
  pub passing : Passing t d from at i records
  pub size : length (file_bytes records) ≡ k
  pub many : k ≡ i * (length_of t + 2)
  pub built : out ≡ file_bytes records ++ drop k out₀
  pub room : length out ≡ length out₀

pub building_none : (t : List ℤ) (d : List ℕ) (from : ℕ) (out : List ℕ) → from ≤ length d → Building t d from from 0 0 out out
unfolding file_bytes
building_none t d from out h =
    record { records = []; passing = passing_none t d from h; size = refl; many = omega arith; built = refl; room = refl }

-- where as many records are said as stand there, they are those
same_all : (rs : List (List ℕ)) (x : TextSays) {us : List (List ℕ)} → ahead rs x ≡ accepts us → length us ≡ length rs → rs ≡ us
same_all rs (refuses k n c) e h = not_accepts (sym (ahead_refuses rs k n c) ∙ e)
same_all rs (accepts xs) {us} e h =
    let g : rs ++ xs ≡ us = same_records (sym (ahead_accepts rs xs) ∙ e) in
    let z : length xs ≡ 0 = omega (arith, ap length g, length-append rs xs, h) in
    sym (append-nil rs) ∙ ap (λ (l : List (List ℕ)). rs ++ l) (sym (none xs z)) ∙ g
  where
    none : (l : List (List ℕ)) → length l ≡ 0 → l ≡ []
    none [] w = refl
    none (y ∷ l) w = absurd (omega arith)

data_of_lem : (rs : List (List ℕ)) → data_of (accepts rs) ≡ file_bytes rs
unfolding data_of
data_of_lem rs = refl

-- a part of a list put in its place
placed : (f x out₀ : List ℕ) (k m : ℕ) → length f ≡ k → length x ≡ m
    → take k (f ++ drop k out₀) ++ (x ++ drop m (drop k (f ++ drop k out₀))) ≡ (f ++ x) ++ drop (k + m) out₀
placed f x out₀ k m e h =
    rw (take_at f (drop k out₀) k e, drop_at f (drop k out₀) k e)
    (ap (λ (y : List ℕ). f ++ (x ++ y)) (drop-drop m k out₀) ∙ sym (append_assoc f x (drop (k + m) out₀)))

module _ {t : List ℤ} {d : List ℕ} {from at i k n : ℕ} {out₀ out : List ℕ} (w : Building t d from at i k out₀ out)
    (a : Accepted (lines_say t 2 (page_lines (page start (drop from d)))) n) where
  -- while records are left, so are lines
  pub lines_left : i < n → at < length d
  lines_left h =
      ⊎_elim (λ x. x)
      (λ x. absurd (omega (arith, ap length (same_records (sym (passing_over w.passing x) ∙ a.is)), w.passing.count, a.count)))
      (lt_or_le at (length d))

  -- and there is room for the next record
  pub room_left : {m : ℕ} → m ≡ length_of t + 2 → n * m ≤ length out₀ → i < n → k + m ≤ length out
  room_left {m} q r h =
      let x : k ≡ i * m = w.many ∙ ap (λ (y : ℕ). i * y) (sym q) in
      omega (arith, w.room, x, suc-mul i m, mul-le-mul_right {m = suc i} {n = n} m h)

  pub not_faulty : {A : Type 0} {x c : ℕ} → i < n → FaultyLine t d at x c → A
  not_faulty h g = not_accepts (sym (passing_faulty w.passing (lines_left h) g) ∙ a.is)

  pub not_torn : {A : Type 0} {c : ℕ} → i < n → page_lines (page fresh (drop at d)) ≡ broken c → A
  not_torn h g = not_accepts (sym (passing_torn w.passing (lines_left h) g) ∙ a.is)

  pub building_more : {slot : List ℕ} {next m : ℕ} → m ≡ length_of t + 2 → n * m ≤ length out₀ → i < n → Ended t d at slot next
      → Building t d from next (i + 1) (k + m) out₀ (take k out ++ (slot ++ drop (k + m - k) (drop k out)))
  building_more {slot} {next} {m} q r h g =
      let s = g.bytes in
      let l : length slot ≡ m = ap length g.is ∙ length-append s (13 ∷ 10 ∷ [])
      ∙ ap (λ (x : ℕ). x + 2) (line_sized t g.good.fields g.good.says) ∙ sym q in
      let y : k + m - k ≡ m = omega arith in
      let b : take k out ++ (slot ++ drop (k + m - k) (drop k out)) ≡ (file_bytes w.records ++ slot) ++ drop (k + m) out₀ =
      rw (y, w.built) (placed (file_bytes w.records) slot out₀ k m w.size l) in
      let f : file_bytes (w.records ++ (s ∷ [])) ≡ file_bytes w.records ++ slot = file_more w.records s
      ∙ ap (λ (x : List ℕ). file_bytes w.records ++ x) (sym g.is) in
      record {
        records = w.records ++ (s ∷ []);
        passing = passing_more w.passing (lines_left h) g.good;
        size = ap length f ∙ length-append (file_bytes w.records) slot ∙ omega (arith, w.size, l);
        many = omega (arith, w.many ∙ ap (λ (x : ℕ). i * x) (sym q), suc-mul i m) ∙ ap (λ (x : ℕ). (i + 1) * x) q;
        built = b ∙ ap (λ (x : List ℕ). x ++ drop (k + m) out₀) (sym f);
        room = ap length b
            ∙ omega (
              arith,
              length-append (file_bytes w.records ++ slot) (drop (k + m) out₀),
              length-append (file_bytes w.records) slot,
              length-drop (k + m) out₀,
              w.size,
              l,
              room_left q r h,
              w.room,
            );
      }

  -- no record is left
  pub building_all : i ≡ n → out ≡ data_of (lines_say t 2 (page_lines (page start (drop from d))))
      ++ drop (length (data_of (lines_say t 2 (page_lines (page start (drop from d)))))) out₀
  building_all h =
      let e = same_all w.records (lines_say t (i + 2) (page_lines (page start (drop at d)))) (sym w.passing.says ∙ a.is)
      (a.count ∙ sym h ∙ sym w.passing.count) in
      let f : data_of (lines_say t 2 (page_lines (page start (drop from d)))) ≡ file_bytes w.records = ap data_of a.is
      ∙ data_of_lem a.records
      ∙ ap file_bytes (sym e) in
      rw f (w.built ∙ ap (λ (x : ℕ). file_bytes w.records ++ drop x out₀) (sym w.size))
