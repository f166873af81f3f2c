-- A TEXT IS ACCEPTED EXACTLY WHEN it is, needless quotes and cut zeros aside, the export of some sound file of records of L bytes; and
-- exporting what an accepted text builds gives the text again, these aside.
-- Assumes nothing.
use Rattle.std.specs.Prelude.{◌≡◌, ◌↔◌, Bool, true, false, cond, eqb, ℤ}
use Rattle.std.proofs.Math.Path.{refl, sym, ap}
use Rattle.std.proofs.Common.{subst, ◌∙◌, eqb-true, eq-eqb}
use mathlib.Core.List.{List, [], ◌∷◌}
use Prim.Native.Nat.{ℕ, zero, suc, ◌+◌, ◌≤◌, ◌<◌}
use Rattle.std.proofs.Math.Numerals.{add-one}
use native.Mathlib.Omega.{arith}
use Rattle.std.proofs.Math.ListN.{length}
use Rattle.below.specs.Below.{and_left, and_right}
use Rattle.layout.specs.rule.Row.{row_at}
use Rattle.fields.specs.rule.Field.{Value, holds, spaces}
use Rattle.fields.specs.rule.Row.{written_of}
use Rattle.fieldlaws.specs.Corrections.{read_fits}
use Rattle.cuts.specs.rule.Records.{over, records_of}
use Rattle.sets.specs.rule.Sets.{is_illegal}
use Rattle.sound.specs.rule.Rows.{rows_of, length_of}
use Rattle.sound.specs.Rows.{row_facts}
use Rattle.records.specs.rule.Value.{reading_at}
use Rattle.records.specs.rule.Verdict.{verdict_of, sound}
use Rattle.read_laws.specs.Refused.{sound_passes}
use Rattle.normal_laws.specs.Turns.{held_value}
use Rattle.files.specs.rule.File.{sound_with, file_verdict}
use Rattle.file_laws.specs.rule.Files.{records_before, AllSound, none_yet, one_more}
use Rattle.commas.specs.rule.Csv.{each}
use Rattle.csv_fields.specs.rule.Page.{start, fresh, page, page_at_end, Lines, done, broken, line, page_lines}
use Rattle.csv_fields.proofs.Page.{start_fresh}
use Rattle.csv_laws.specs.rule.Grammar.{IsText, all_of}
use Rattle.csv_laws.specs.Complete.{text_read_fresh}
use Rattle.csv_laws.specs.Sound.{text_exactly}
use Rattle.value_fields.specs.rule.Values.{export_field, row_field}
use Rattle.widths.specs.rule.Width.{decimals_of}
use Rattle.record_lines.specs.rule.Lines as rows
use Rattle.field_values.specs.rule.Value.{Left, IsValue}
use Rattle.field_values.specs.Exactly.{value_exactly}
use Rattle.name_line.specs.rule.Names.{name_line}
use Rattle.name_line.specs.Names.{name_at}
use Rattle.import_rule.specs.rule.Line.{LineSays, builds, faulty, on_field, record_from, line_says}
use Rattle.import_rule.specs.rule.Text.{TextSays, accepts, refuses, and_record, after_line, lines_say, same_bytes, differ_at, names_then}
use Rattle.import_rule.specs.rule.Text.{names_say}
use Rattle.import_rule.specs.rule.Text.{text_says, file_bytes}
use Rattle.imports.specs.rule.Import.{import_says}
use Rattle.import_laws.specs.rule.Exported.{FieldsLeft, no_field, and_field, LinesLeft, no_line, and_line, TextLeft, and_names}
use Rattle.import_laws.specs.rule.Exported.{IsExport, Original, Accepts}
use Rattle.import_laws.specs.rule.Trip.{Table}
use Rattle.import_laws.specs.Round.{none_differ}
use Rattle.import_laws.specs.Again.{AllLeft, all_left, line_again}
use Rattle.import_laws.specs.Again as again
use Rattle.import_laws.specs.File.{line_sound, AllLines, no_more, and_more, file_cut, file_sound}
use Rattle.import_laws.specs.Trip.{sound_before, sound_lines}

-- ---- names that don't differ are the same
pub same_is : (a b : List ℕ) → same_bytes a b ≡ true → a ≡ b
unfolding same_bytes
same_is [] [] e = refl
same_is [] (c ∷ b) e = let z : ◌≡◌ {A = ℕ} 0 1 = cc in absurd (omega arith)
same_is (c ∷ a) [] e = let z : ◌≡◌ {A = ℕ} 0 1 = cc in absurd (omega arith)
same_is (c ∷ a) (x ∷ b) e =
    let p : c ≡ x = eqb-true c x (and_left (eqb c x) (same_bytes a b) e) in
    let q = same_is a b (and_right (eqb c x) (same_bytes a b) e) in
    rw (p, q)

pub differ_none : (c : ℕ) (ms fs : List (List ℕ)) → 1 ≤ c → differ_at c ms fs ≡ 0 → ms ≡ fs
unfolding differ_at
differ_none c [] [] h e = refl
differ_none c [] (f ∷ fs) h e = absurd (omega arith)
differ_none c (m ∷ ms) [] h e = absurd (omega arith)
differ_none c (m ∷ ms) (f ∷ fs) h e = go (same_bytes m f) refl e (λ w. differ_none (c + 1) ms fs (omega arith) w)
  where
    go : (q : Bool) → same_bytes m f ≡ q → cond q (differ_at (c + 1) ms fs) c ≡ 0 → (differ_at (c + 1) ms fs ≡ 0 → ms ≡ fs) → m ∷ ms ≡ f
        ∷ fs
    go true q w k = let a = same_is m f q in let b = k w in rw (a, b)
    go false q w k = absurd (omega arith)

no_accepts : {A : Type 0} {k n c : ℕ} {rs : List (List ℕ)} → refuses k n c ≡ accepts rs → A
no_accepts e = let z : ◌≡◌ {A = ℕ} 0 1 = cc in absurd (omega arith)

-- ---- the lines that are accepted, one by one
data AllBuilt (t : List ℤ) : List (List (List ℕ)) → List (List ℕ) → Type 0 where
  none_built : AllBuilt t [] []
  one_built : {fs : List (List ℕ)} {ms : List (List (List ℕ))} {r : List ℕ} {rs : List (List ℕ)} → line_says t fs ≡ builds r
      → AllBuilt t ms rs
      → AllBuilt t (fs ∷ ms) (r ∷ rs)

record Lined (t : List ℤ) (ls : Lines) (rs : List (List ℕ)) : Type 0 where
  pub fields : List (List (List ℕ))
  pub are : ls ≡ all_of fields
  pub all : AllBuilt t fields rs

lined : (t : List ℤ) (n : ℕ) (ls : Lines) (rs : List (List ℕ)) → lines_say t n ls ≡ accepts rs → Lined t ls rs
unfolding lines_say after_line and_record all_of
lined t n done [] e = record { fields = []; are = refl; all = none_built }
lined t n done (r ∷ rs) e = let z : ◌≡◌ {A = ℕ} 0 1 = cc in absurd (omega arith)
lined t n (broken c) rs e = no_accepts e
lined t n (line fs ls) rs e = go (line_says t fs) refl (lines_say t (n + 1) ls) refl e (λ us w. lined t (n + 1) ls us w)
  where
    go : (x : LineSays) → line_says t fs ≡ x → (y : TextSays) → lines_say t (n + 1) ls ≡ y → after_line n x y ≡ accepts rs
        → ((us : List (List ℕ)) → lines_say t (n + 1) ls ≡ accepts us → Lined t ls us) → Lined t (line fs ls) rs
    go (faulty k c) p y q w rec = no_accepts w
    go (builds r) p (refuses k m c) q w rec = no_accepts w
    go (builds r) p (accepts us) q w rec =
        let z : r ∷ us ≡ rs = cc in
        let l = rec us q in
        rw (← z) (record { fields = fs ∷ l.fields; are = ap (line fs) l.are; all = one_built p l.all })

-- ---- the text of an import that is accepted
record Texted (t : List ℤ) (names : List (List ℕ)) (s : List ℕ) (rs : List (List ℕ)) : Type 0 where
  pub fields : List (List (List ℕ))
  pub spelt : IsText (names ∷ fields) s
  pub all : AllBuilt t fields rs

not_empty : (s : List ℕ) {fs : List (List ℕ)} {ls : Lines} → page_lines (page fresh s) ≡ line fs ls → 0 < length s
unfolding page page_at_end page_lines
not_empty [] e = let z : ◌≡◌ {A = ℕ} 0 1 = cc in absurd (omega arith)
not_empty (b ∷ s) e = omega arith

texted : (t : List ℤ) (names : List (List ℕ)) (s : List ℕ) (rs : List (List ℕ)) → text_says t names s ≡ accepts rs → Texted t names s rs
unfolding text_says names_say names_then all_of
texted t names s rs e = go (page_lines (page fresh s)) refl e
  where
    go : (x : Lines) → page_lines (page fresh s) ≡ x → names_say t names x ≡ accepts rs → Texted t names s rs
    go done p w = no_accepts w
    go (broken c) p w = no_accepts w
    go (line fs ls) p w = by (eqb (differ_at 1 names fs) 0) refl w
      where
        by : (b : Bool) → eqb (differ_at 1 names fs) 0 ≡ b → cond b (lines_say t 2 ls) (refuses 62 1 (differ_at 1 names fs)) ≡ accepts rs
            → Texted t names s rs
        by false q k = no_accepts k
        by true q k =
            let l = lined t 2 ls rs k in
            let n : names ≡ fs = differ_none 1 names fs (omega arith) (eqb-true (differ_at 1 names fs) 0 q) in
            let h : page_lines (page start s) ≡ all_of (names ∷ l.fields) = ap page_lines (start_fresh s 0 (not_empty s p)) ∙ p
            ∙ ap (line fs) l.are ∙ ap (λ (x : List (List ℕ)). line x (all_of l.fields)) (sym n) in
            record { fields = l.fields; spelt = (text_exactly s (names ∷ l.fields)).0 h; all = l.all }

-- ---- what is exported of the records
module _ {t : List ℤ} (g : Table t) where
  all_lines : {fs : List (List (List ℕ))} {rs : List (List ℕ)} → AllBuilt t fs rs → AllLines g rs
  all_lines none_built = no_more
  all_lines (one_built {fs = fs} {r = r} e k) = and_more (line_sound g fs r e) (all_lines k)

  fields_left : {s : List ℕ} {i : ℕ} {fs : List (List ℕ)} → AllLeft t s i fs → FieldsLeft t i (each (row_field t s) i (length fs)) fs
  unfolding each
  fields_left again.AllLeft.none_more = no_field
  fields_left {s} {i} (again.AllLeft.one_more {fs = fs} l k) =
      and_field l (subst (λ (j : ℕ). FieldsLeft t (i + 1) (each (row_field t s) j (length fs)) fs) (add-one i) (fields_left k))

  line_left : (fs : List (List ℕ)) (r : List ℕ) → line_says t fs ≡ builds r → FieldsLeft t 0 (rows.record_line t r) fs
  unfolding rows.record_line
  line_left fs r e = let a = line_again g fs r e in rw (← a.many) (fields_left (all_left a.reads))

  lines_left : {fs : List (List (List ℕ))} {rs : List (List ℕ)} → AllBuilt t fs rs
      → LinesLeft t (rows.records_lines t (length rs) (records_before rs over)) fs
  unfolding rows.records_lines records_before
  lines_left none_built = no_line
  lines_left (one_built {fs = fs} {r = r} e k) = and_line (line_left fs r e) (lines_left k)

  all_sized : {rs : List (List ℕ)} → AllLines g rs → AllSound t (length_of t) rs
  all_sized no_more = none_yet
  all_sized (and_more a k) = one_more a.size a.judged (all_sized k)

  -- EXPORTING WHAT WAS IMPORTED: the file that was built is sound, and its export is the text again, needless quotes and cut zeros aside
  pub import_again : (def s : List ℕ) (rs : List (List ℕ)) → import_says def t s ≡ accepts rs
      → (file_verdict t (file_bytes rs) ≡ sound_with (length rs)) × (records_of (file_bytes rs) ≡ records_before rs over)
      × AllSound t (length_of t) rs
      × IsExport def t (file_bytes rs) s
  unfolding import_says name_line
  import_again def s rs e =
      let x = texted t (each (name_at def t) 0 (rows_of t)) s rs e in
      let a = all_lines x.all in
      let v = file_sound g a in
      let c = file_cut g a in (
        v,
        c,
        all_sized a,
        record {
          lines = each (name_at def t) 0 (rows_of t) ∷ x.fields;
          spelt = x.spelt;
          left = rw (sound_lines def t (file_bytes rs) rs v refl c) (and_names (lines_left x.all));
        },
      )

  -- ---- and the other way: what is left of a sound record's line builds a record
  left_value : (r : List ℕ) (i : ℕ) (f : List ℕ) (x : Value) → reading_at t i r ≡ holds x
      → Left (decimals_of (row_at t i).kind) (row_field t r i) f
      → IsValue t (rows_of t) (row_at t i) f x
  unfolding row_field export_field
  left_value r i f x e l = record { accepted = read_fits t (rows_of t) (row_at t i) x r e; written = rw e at l }

  record Some (says : LineSays) : Type 0 where
    pub bytes : List ℕ
    pub is : says ≡ builds bytes

  left_built : (r : List ℕ) → ((i : ℕ) → i < rows_of t → is_illegal (reading_at t i r) ≡ false)
      → (n i : ℕ) (fs : List (List ℕ)) (s : List ℕ)
      → i + n ≡ rows_of t
      → FieldsLeft t i (each (row_field t r) i n) fs → Some (record_from t (rows_of t) i fs s)
  unfolding each record_from on_field
  left_built r legal zero i [] s h no_field = record { bytes = s; is = refl }
  left_built r legal (suc n) i (f ∷ fs) s h (and_field l k) =
      let b : i < rows_of t = omega arith in
      held_value (reading_at t i r) (legal i b) (λ x q.
      let v = left_value r i f x q l in
      let w = left_built r legal n (i + 1) fs (written_of t (rows_of t) (row_at t i) x s) (omega arith) (rw (← add-one i) at k) in
      rw ((value_exactly (row_facts t g.formed i b) f x).1 v) w)
  left_built r legal zero i (f ∷ fs) s h k = elim k [ ]
  left_built r legal (suc n) i [] s h k = elim k [ ]

  left_many : {i : ℕ} {es fs : List (List ℕ)} → FieldsLeft t i es fs → length es ≡ length fs
  left_many no_field = refl
  left_many (and_field l k) = ap suc (left_many k)

  length_each : (f : ℕ → List ℕ) (n i : ℕ) → length (each f i n) ≡ n
  unfolding each
  length_each f zero i = refl
  length_each f (suc n) i = ap suc (length_each f n (suc i))

  line_some : (r : List ℕ) → verdict_of t r ≡ sound → (fs : List (List ℕ)) → FieldsLeft t 0 (rows.record_line t r) fs
      → Some (line_says t fs)
  unfolding rows.record_line line_says
  line_some r e fs k =
      let n : length fs ≡ rows_of t = sym (left_many k) ∙ length_each (row_field t r) (rows_of t) 0 in
      rw (eq-eqb (length fs) (rows_of t) n) (left_built r (sound_passes t g.formed r e).legal_rows (rows_of t) 0 fs (spaces (length_of t))
      (omega arith) k)

  record Taken (says : TextSays) : Type 0 where
    pub records : List (List ℕ)
    pub is : says ≡ accepts records

  lines_taken : {first : ℕ} (rs : List (List ℕ)) → AllSound t first rs → (ms : List (List (List ℕ))) (k : ℕ)
      → LinesLeft t (rows.records_lines t (length rs) (records_before rs over)) ms → Taken (lines_say t k (all_of ms))
  unfolding rows.records_lines records_before all_of lines_say after_line and_record
  lines_taken [] a [] k no_line = record { records = []; is = refl }
  lines_taken (r ∷ rs) (one_more l q a) (fs ∷ ms) k (and_line x y) =
      let b = line_some r q fs x in
      let w = lines_taken rs a ms (k + 1) y in
      record { records = b.bytes ∷ w.records; is = rw (b.is, w.is) }
  lines_taken [] a (fs ∷ ms) k x = elim x [ ]
  lines_taken (r ∷ rs) (one_more l q a) [] k x = elim x [ ]

  text_taken : (names : List (List ℕ)) (s : List ℕ) (ms : List (List (List ℕ))) → IsText (names ∷ ms) s → Taken (lines_say t 2 (all_of ms))
      → Taken (text_says t names s)
  unfolding text_says names_say names_then
  text_taken names s ms x w = record {
    records = w.records;
    is = ap (names_say t names) (text_read_fresh x)
        ∙ rw (none_differ 1 names) w.is;
  }

  left_text : {names : List (List ℕ)} {es ls : List (List (List ℕ))} {A : Type 0} → TextLeft t (names ∷ es) ls
      → ((ms : List (List (List ℕ))) → ls ≡ names ∷ ms → LinesLeft t es ms → A) → A
  left_text (and_names {ms = ms} k) f = f ms refl k

  pub export_accepted : (def s d : List ℕ) {n : ℕ} → file_verdict t d ≡ sound_with n → IsExport def t d s → Accepts def t s
  unfolding import_says name_line
  export_accepted def s d e x =
      sound_before t d e (λ rs b m.
      left_text (rw (sound_lines def t d rs e m b.records) at x.left) (λ ms p k.
      let w = text_taken (each (name_at def t) 0 (rows_of t)) s ms (rw p at x.spelt) (lines_taken rs b.all ms 2 k) in
      record { records = w.records; is = w.is }))

  -- EXACTLY WHEN
  pub accepted_exactly : (def s : List ℕ) → Accepts def t s ↔ Original def t s
  accepted_exactly def s = (there, λ o. export_accepted def s o.file o.judged o.exported)
    where
      there : Accepts def t s → Original def t s
      there a =
          let k = import_again def s a.records a.is in
          record {
            file = file_bytes a.records;
            count = length a.records;
            judged = k.0;
            records = a.records;
            are = k.1;
            sized = k.2;
            exported = k.3;
          }
