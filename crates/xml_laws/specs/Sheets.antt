-- ALL VARIABLES THAT WERE READ ARE FINE, one at least: so that the table built of a definition in XML is well formed.
use Rattle.std.specs.Prelude.{◌≡◌, refl, Bool, true, false, cond, ltb, ℤ, take}
use Rattle.std.proofs.Common.{ap, arith, length-append, length-take, ltb-false}
use mathlib.Core.List.{List, [], ◌∷◌, ◌++◌}
use Prim.Native.Nat.{ℕ, zero, suc, ◌+◌, ◌≤◌, ◌<◌}
use Rattle.std.proofs.Math.ListN.{length}
use Rattle.cells.specs.rule.Cell.{pasted}
use Rattle.layout.specs.rule.Layout.{most_rows}
use Rattle.scan.specs.rule.Loop.{Next, Again, Done}
use Rattle.utf.specs.rule.Cut.{first_bad}
use Rattle.names.specs.rule.Standard.{name_fault}
use Rattle.sound.specs.rule.Sound.{well_formed}
use Rattle.prologs.specs.rule.Told.{declaration_of}
use Rattle.prologs.specs.declared.Prolog.{Prolog}
use Rattle.prologs.specs.declared.Prolog.TheVariants as prolog
use Rattle.reading.specs.rule.Result.{Result, Is, Not, bind, turn, repeat}
use Rattle.bridge.specs.Lowest.{never}
use Rattle.xml_reading.specs.rule.Word.{RECORD, VARIABLE}
use Rattle.xml_reading.specs.rule.Open.{Open, start, shut, within_element, due}
use Rattle.xml_reading.specs.rule.Role.{XmlEntry, Title, title}
use Rattle.xml_reading.specs.rule.Variable.{Manner, variable}
use Rattle.xml_reading.specs.rule.Sheet.{XmlSurvey, preface, on_open, another_element, variables, sheet_closed, sheet}
use Rattle.xml_reading.specs.rule.Whole.{xml_table, Built, Refusal, xml_fitting, xml_names, entry_place, judge_xml_names}
use Rattle.xml_reading.specs.rule.Whole.{xml_settled}
use Rattle.xml_reading.specs.rule.Whole.{sheet_of}
use Rattle.xml_reading.specs.rule.Whole.{declared, xml_outcome}
use Rattle.xml_bridge.specs.Table.{FineEntries, nothing, more, table_well_formed}
use Rattle.xml_laws.specs.Reads.{moved, bound, within_long}
use Rattle.xml_laws.specs.Entries.{due_is, entry_read}

-- each name lies within the file
pub data Named (d : List ℕ) : List XmlEntry → Type 0 where
  none_named : Named d []
  more_named : {l : List XmlEntry} (v : XmlEntry) → Named d l → v.variable.name.place + v.variable.name.length ≤ length d
      → Named d (l ++ v ∷ [])

module _ (bad : Bool) (d : List ℕ) (long : length d ≤ 1048576)
    (few : (old : Bool) (l : List XmlEntry) (p e : ℕ) (t : Title) (n : ℕ) → title bad d old l p e ≡ Is t n → t.ident.value < 10000) where
  pub record Gathered (l : List XmlEntry) (n : ℕ) : Type 0 where
    pub fine : FineEntries l
    pub named : Named d l
    pub some : 1 ≤ length l
    pub next : n ≤ length d

  module _ (m : Manner) where
    joined : (l : List XmlEntry) (p e : ℕ) {v : XmlEntry} {n : ℕ} → FineEntries l → Named d l → variable bad d m l p e ≡ Is v n
        → Gathered (l ++ v ∷ []) n
    joined l p e {v} g s f =
        let r = entry_read bad d long m l g (λ p e t n. few m.old l p e t n) p e f in
        record { fine = more g r.fine; named = more_named v s r.name; some = omega (arith, length-append l (v ∷ [])); next = r.next }

    data Kept : Next (List XmlEntry) (List XmlEntry) → ℕ → Type 0 where
      onward : {l : List XmlEntry} {n : ℕ} → Gathered l n → Kept (Again l) n
      over : {l : List XmlEntry} {n : ℕ} → Gathered l n → Kept (Done l) n

    step_fine : (l : List XmlEntry) (e : ℕ) → Gathered l e → {x : Next (List XmlEntry) (List XmlEntry)} {n : ℕ}
        → another_element bad d m l e
        ≡ Is x n
        → Kept x n
    unfolding another_element
    step_fine l e s {x} {n} f =
        let o = bound (within_element bad d RECORD e) _ x n f in
        by o.value o.place (within_long bad d RECORD e o.first_is).1 o.then_is
      where
        by : (z : Open) (k : ℕ) → k ≤ length d → on_open bad d m l z k ≡ Is x n → Kept x n
        by (shut p) k h f =
            let q : Done l ≡ x = cc in
            let r : k ≡ n = cc in
            moved Kept q r (over (record { fine = s.fine; named = s.named; some = s.some; next = h }))
        by (start p) k h f =
            let g = due_is bad d VARIABLE (start p) (λ p n. bind (variable bad d m l p n) λ v j. Is (Again (l ++ v ∷ [])) j) k f in
            let o = bound (variable bad d m l g.place k) _ x n g.then_is in
            let q : Again (l ++ o.value ∷ []) ≡ x = cc in
            let r : o.place ≡ n = cc in
            moved Kept q r (onward (joined l g.place k s.fine s.named o.first_is))

    pub all_fine : (f : ℕ) (l : List XmlEntry) (e : ℕ) → Gathered l e → {k : List XmlEntry} {n : ℕ} → repeat f (another_element bad d m) l e
        ≡ Is k n
        → Gathered k n
    unfolding repeat
    all_fine zero l e s g = never cc
    all_fine (suc f) l e s {k} {n} g =
        let o = bound (another_element bad d m l e) _ k n g in
        by o.value (step_fine l e s o.first_is) o.then_is (λ x j t q. all_fine f x j t q)
      where
        by : (x : Next (List XmlEntry) (List XmlEntry)) {j : ℕ} → Kept x j → turn (repeat f (another_element bad d m)) x j ≡ Is k n
            → ((l : List XmlEntry) (e : ℕ) → Gathered l e → repeat f (another_element bad d m) l e ≡ Is k n → Gathered k n)
            → Gathered k n
        by (Again y) {j} (onward t) g ih = ih y j t g
        by (Done y) {j} (over t) g ih =
            let q : y ≡ k = cc in
            let r : j ≡ n = cc in
            moved Gathered q r t

    pub variables_fine : (e : ℕ) {l : List XmlEntry} {n : ℕ} → variables bad d m e ≡ Is l n → Gathered l n
    unfolding variables
    variables_fine e {l} {n} f =
        let o = bound (within_element bad d RECORD e) _ l n f in
        let c = bound (due bad d VARIABLE o.value (variable bad d m []) o.place) _ l n o.then_is in
        let x = due_is bad d VARIABLE o.value (variable bad d m []) o.place c.first_is in
        all_fine (suc most_rows) (c.value ∷ []) c.place (joined [] x.place o.place nothing none_named x.then_is) c.then_is

  pub sheet_fine : (latin : Bool) (e : ℕ) {s : XmlSurvey} {n : ℕ} → sheet bad d latin e ≡ Is s n → FineEntries s.entries
      × (1 ≤ length s.entries)
  unfolding sheet
  sheet_fine latin e {s} {n} f =
      let a = bound (preface bad d latin e) _ s n f in
      let b = bound (variables bad d a.value a.place) _ s n a.then_is in
      let c = bound (sheet_closed bad d b.place) _ s n b.then_is in
      let g = variables_fine a.value a.place b.first_is in
      let q : record { manner = a.value; entries = b.value } ≡ s = cc in
      same b.value s (ap (λ (s : XmlSurvey). s.entries) q) (g.fine, g.some)
    where
      same : (v : List XmlEntry) (s : XmlSurvey) → v ≡ s.entries → FineEntries v × (1 ≤ length v) → FineEntries s.entries
          × (1 ≤ length s.entries)
      same v s e h = rw (← e) h

-- ---- THE TABLE
fitting_built : (n : ℕ) (v l : List XmlEntry) → xml_fitting n v ≡ Built l → (v ≡ l) × (length (xml_table v) ≤ n)
unfolding xml_fitting
fitting_built n v l = by (ltb n (length (xml_table v))) refl where
  by : (b : Bool) → ltb n (length (xml_table v)) ≡ b → cond b (Refusal 10 0) (Built v) ≡ Built l → (v ≡ l) × (length (xml_table v) ≤ n)
  by true i e = never cc
  by false i e = (cc, ltb-false n (length (xml_table v)) i)

named_built : (latin : Bool) (d : List ℕ) (n : ℕ) (standard : Bool) (v l : List XmlEntry) → judge_xml_names latin d n standard v ≡ Built l
    → (v ≡ l)
    × (length (xml_table v) ≤ n)
unfolding judge_xml_names
named_built latin d n false v l e = fitting_built n v l e
named_built latin d n true v l e = by (ltb (name_fault (xml_names latin d v)) (length v)) e where
  by : (b : Bool) → cond b (Refusal 9 (entry_place v (name_fault (xml_names latin d v)))) (xml_fitting n v) ≡ Built l → (v ≡ l)
      × (length (xml_table v) ≤ n)
  by true i = never cc
  by false i = fitting_built n v l i

-- every title has an ident of at most four digits
abbrev pub Few : Type 0
Few = (bad : Bool) (d : List ℕ) (old : Bool) (l : List XmlEntry) (p e : ℕ) (t : Title) (n : ℕ) → title bad d old l p e ≡ Is t n
    → t.ident.value < 10000

pub built_fine : Few → (d : List ℕ) (n : ℕ) (l : List XmlEntry) → xml_outcome d n ≡ Built l → FineEntries l × (1 ≤ length l)
    × (length (xml_table l) ≤ n)
unfolding xml_outcome sheet_of
built_fine few d n l = by (ltb 1048576 (length d)) refl where
  same : (v : List XmlEntry) → v ≡ l → FineEntries v × (1 ≤ length v) × (length (xml_table v) ≤ n) → FineEntries l × (1 ≤ length l)
      × (length (xml_table l) ≤ n)
  same v e h = rw (← e) h

  whole : (latin : Bool) (at : ℕ) (c : List ℕ) (bad : Bool) → length c ≤ 1048576 → (r : Result XmlSurvey) → sheet bad c latin at ≡ r
      → xml_settled latin c n r ≡ Built l
      → FineEntries l × (1 ≤ length l) × (length (xml_table l) ≤ n)
  whole latin at c bad h (Is s k) i e =
      let q = named_built latin c n s.manner.standard s.entries l e in
      let g = sheet_fine bad c h (few bad c) latin at i in
      same s.entries q.0 (g.0, g.1, q.1)
  whole latin at c bad h (Not f) i e = never cc

  short : (k : ℕ) → length d ≤ 1048576 → length (take k d) ≤ 1048576
  short k h = rw (length-take k d) (omega arith)

  told : length d ≤ 1048576 → (p : Prolog) → declared d n p ≡ Built l → FineEntries l × (1 ≤ length l) × (length (xml_table l) ≤ n)
  told h (prolog.Read latin at) e =
      let k = first_bad latin d at in
      whole latin at (take k d) (ltb k (length d)) (short k h) (sheet (ltb k (length d)) (take k d) latin at) refl e
  told h (prolog.Fault k p) e = never cc

  by : (b : Bool) → ltb 1048576 (length d) ≡ b → cond b (Refusal 1 0) (declared d n (declaration_of d)) ≡ Built l → FineEntries l
      × (1 ≤ length l) × (length (xml_table l) ≤ n)
  by true i e = never cc
  by false i e = told (ltb-false 1048576 (length d) i) (declaration_of d) e

-- THE TABLE BUILT IS WELL FORMED, for every definition in XML that is read
pub read_well_formed : Few → (d : List ℕ) (t : List ℤ) (l : List XmlEntry) → xml_outcome d (length t) ≡ Built l
    → well_formed (pasted t 0 (xml_table l)) ≡ true
read_well_formed few d t l e =
    let g = built_fine few d (length t) l e in
    table_well_formed t l g.0 g.1 g.2
