-- What is asked of the rows one by one, is asked of the variables that they are.
use mathlib.Core.Path.{◌≡◌, refl, sym, ap, ◌∙◌}
use mathlib.Core.Logic.{⊎_elim}
use mathlib.Core.Bool.{Bool, true, false, cond, ◌&&◌, ◌||◌}
use mathlib.Core.List.{List, [], ◌∷◌}
use Prim.Native.Nat.{ℕ, zero, suc, ◌+◌, ◌-◌, ◌≤◌, ◌<◌}
use native.Mathlib.Numerals.{add-one}
use native.Mathlib.Nat.{eq-or-lt_of_le}
use native.Mathlib.Omega.{arith}
use lib.Dec.{eqb, ltb}
use lib.IntN.{ℤ}
use lib.ListN.{length, drop, get_or, set, drop_of_length-le}
use lib.Seq.{get_or-set_same, get_or-set_other}
use borrow.Author.Tests.{ltb-true, lt-ltb, le-ltb, eq-eqb, ne_eqb}
use Rattle.names.specs.Name.{key_of}
use Rattle.names.specs.Clash.{fault_of}
use Rattle.names.specs.rule.Standard.{name_at}
use Rattle.names.proofs.Standards.{keys_fault}
use Rattle.survey.specs.rule.Survey.{KeptText}
use Rattle.survey.specs.rule.Width.{some_of}
use Rattle.xml_reading.specs.rule.Role.{XmlEntry, may_serve, use_wrong, signs_in, same_name, is_name_of, has_served, count_named}
use Rattle.xml_reading.specs.rule.Role.{filter_from}
use Rattle.xml_reading.specs.rule.Role.{filter_of}
use Rattle.xml_reading.specs.rule.Whole.{xml_names}
use Rattle.filters.specs.rule.Kept.{At, name_of, entry_kind}
use Rattle.filters.specs.rule.Kept as kept
use Rattle.filters.specs.Code.{column_in, name_in, Lying, RowsOf, ServedSaid, CountSaid, FoundSaid, FilterSaid, TakenSaid, UseSaid}
use Rattle.filters.specs.Code.{NamesSaid}
use Rattle.filters.proofs.Rooms.{RowReads, row_reads, next_row, name_in_lem}

pub above : (f : ℕ) → (f ≡ 0 → ⊥) → 0 < f
above zero k = absurd (k refl)
above (suc n) k = omega arith

-- ---- whether one of them passes
module _ (rows : List ℤ) (count : ℕ) (all : List XmlEntry → XmlEntry → Bool) where
  -- those before row i don't
  abbrev pub SomeFrom : ℕ → Type 0
  SomeFrom i = (l : List XmlEntry) → RowsOf rows count l → some_of (all l) l ≡ some_of (all l) (drop i l)

  -- row i passes, or not
  abbrev pub Passes : ℕ → Bool → Type 0
  Passes i q = (l : List XmlEntry) → RowsOf rows count l → (v : XmlEntry) → RowReads rows i v → all l v ≡ q

  some_step : (i : ℕ) (q : Bool) → i < count → SomeFrom i → Passes i q → (l : List XmlEntry) → RowsOf rows count l
      → some_of (all l) l ≡ (q || some_of (all l) (drop (i + 1) l))
  unfolding some_of
  some_step i q k s f l h =
      let n = h.counted in
      let r = next_row l i (omega arith) in
      s l h ∙ rw (add-one i, r.cut) (rw (f l h r.row (row_reads h r.at)))

  pub some_found : (i : ℕ) → i < count → SomeFrom i → Passes i true → (l : List XmlEntry) → RowsOf rows count l → true ≡ some_of (all l) l
  some_found i k s f l h = sym (some_step i true k s f l h)

  pub some_next : (i : ℕ) → i < count → SomeFrom i → Passes i false → SomeFrom (i + 1)
  some_next i k s f l h = some_step i false k s f l h

  pub some_over : (i : ℕ) → count ≤ i → SomeFrom i → (l : List XmlEntry) → RowsOf rows count l → false ≡ some_of (all l) l
  unfolding some_of
  some_over i k s l h =
      let n = h.counted in
      let g : length l ≤ i = omega arith in
      sym (s l h ∙ rw (drop_of_length-le l g))

-- ---- names that have served
abbrev pub served_by : Bool → Bool → List ℕ → KeptText → List XmlEntry → XmlEntry → Bool
served_by latin standard d t l v = ltb 0 v.filter && is_name_of (same_name latin standard d t) l (v.filter - 1)

pub none_served : (f : ℕ) (q : Bool) → f ≡ 0 → false ≡ (ltb 0 f && q)
none_served f q e = rw (le-ltb 0 f (omega arith))

pub some_served : (f : ℕ) (q : Bool) → (f ≡ 0 → ⊥) → q ≡ (ltb 0 f && q)
some_served f q k = rw (lt-ltb 0 f (above f k))

module _ (latin standard : Bool) (d : List ℕ) (rows : List ℤ) (count : ℕ) (t : KeptText) where
  pub served_begin : SomeFrom rows count (served_by latin standard d t) 0
  served_begin l h = refl

  pub served_row : {n : ℕ} → Lying n rows count → (i : ℕ) → i < count → (q : Bool)
      → q ≡ (ltb 0 (column_in rows i 19) && same_name latin standard d t (name_in rows (column_in rows i 19 - 1)))
      → Passes rows count (served_by latin standard d t) i q
  served_row y i k q e l h v r = by (ltb 0 v.filter) refl ∙ sym (e ∙ rw r.filter) where
    by : (b : Bool) → ltb 0 v.filter ≡ b
        → (ltb 0 v.filter && is_name_of (same_name latin standard d t) l (v.filter - 1))
        ≡ (ltb 0 v.filter && same_name latin standard d t (name_in rows (v.filter - 1)))
    by true f =
        let a = ltb-true 0 v.filter f in
        let b = y.filters i k in
        let c = r.filter in
        rw (name_in_lem (same_name latin standard d t) h (v.filter - 1) (omega arith))
    by false f = rw f

  pub served_said : (r : Bool) → ((l : List XmlEntry) → RowsOf rows count l → r ≡ some_of (served_by latin standard d t l) l)
      → ServedSaid latin standard d rows count t r
  unfolding has_served
  served_said r f = record { is = f }

  -- ---- how many have the name
  abbrev same : KeptText → Bool
  same = same_name latin standard d t

  abbrev pub CountFrom : ℕ → ℕ → Type 0
  CountFrom found i = (l : List XmlEntry) → RowsOf rows count l → count_named (same_name latin standard d t) l ≡ found
      + count_named (same_name latin standard d t) (drop i l)

  pub count_begin : CountFrom 0 0
  count_begin l h = omega arith

  count_step : (found i : ℕ) (q : Bool) → i < count → CountFrom found i → q ≡ same (name_in rows i) → (l : List XmlEntry)
      → RowsOf rows count l
      → count_named same l ≡ found + cond q (1 + count_named same (drop (i + 1) l)) (count_named same (drop (i + 1) l))
  unfolding count_named
  count_step found i q k s e l h =
      let n = h.counted in
      let r = next_row l i (omega arith) in
      s l h ∙ rw (add-one i, r.cut) (rw (e ∙ ap same (row_reads h r.at).name))

  pub count_yes : (found i : ℕ) → i < count → CountFrom found i → true ≡ same (name_in rows i) → CountFrom (found + 1) (i + 1)
  count_yes found i k s e l h = let g = count_step found i true k s e l h in omega arith

  pub count_no : (found i : ℕ) → i < count → CountFrom found i → false ≡ same (name_in rows i) → CountFrom found (i + 1)
  count_no found i k s e l h = count_step found i false k s e l h

  pub count_over : (found i : ℕ) → count ≤ i → CountFrom found i → CountSaid latin standard d rows count t found
  unfolding count_named
  count_over found i k s = record {
    is = λ l h.
        let n = h.counted in
        let g : length l ≤ i = omega arith in
        let e : count_named same l ≡ found + 0 = s l h ∙ rw (drop_of_length-le l g) in
        omega arith;
  }

  -- ---- the first logical that has it
  abbrev pub FoundFrom : ℕ → Type 0
  FoundFrom i = (l : List XmlEntry) → RowsOf rows count l → filter_from (same_name latin standard d t) 0 l
      ≡ filter_from (same_name latin standard d t) i (drop i l)

  pub found_begin : FoundFrom 0
  found_begin l h = refl

  found_step : (i : ℕ) (q : Bool) → i < count → FoundFrom i → q ≡ (same (name_in rows i) && eqb (column_in rows i 1) 5)
      → (l : List XmlEntry)
      → RowsOf rows count l
      → filter_from same 0 l ≡ cond q (i + 1) (filter_from same (i + 1) (drop (i + 1) l))
  unfolding filter_from
  found_step i q k s e l h =
      let n = h.counted in
      let r = next_row l i (omega arith) in
      let x = row_reads h r.at in
      let f : q ≡ (same (name_of r.row) && eqb (entry_kind r.row) 5) = e ∙ rw (x.name, x.kind) in
      let c : drop i l ≡ r.row ∷ drop (i + 1) l = r.cut ∙ rw (add-one i) in
      s l h ∙ rw (c, ← f)

  pub found_here : (i : ℕ) → i < count → FoundFrom i → true ≡ (same (name_in rows i) && eqb (column_in rows i 1) 5)
      → FoundSaid latin standard d rows count t (i + 1)
  found_here i k s e = record { is = λ l h. sym (found_step i true k s e l h) }

  pub found_next : (i : ℕ) → i < count → FoundFrom i → false ≡ (same (name_in rows i) && eqb (column_in rows i 1) 5) → FoundFrom (i + 1)
  found_next i k s e l h = found_step i false k s e l h

  pub found_none : (i : ℕ) → count ≤ i → FoundFrom i → FoundSaid latin standard d rows count t 0
  unfolding filter_from
  found_none i k s = record {
    is = λ l h.
        let n = h.counted in
        let g : length l ≤ i = omega arith in
        sym (s l h ∙ rw (drop_of_length-le l g));
  }

  -- ---- the filter
  module _ (name : KeptText) (usage : ℕ) where
    pub filter_used : (usage ≡ 0 → ⊥) → FilterSaid latin standard d rows count name usage t 0
    unfolding filter_of
    filter_used k = record { is = λ l h. rw (ne_eqb usage 0 k) }

    module _ (u : usage ≡ 0) where
      pub filter_own : same_name latin standard d t name ≡ true → FilterSaid latin standard d rows count name usage t 0
      unfolding filter_of
      filter_own e = record { is = λ l h. rw (eq-eqb usage 0 u, e) }

      module _ (o : same_name latin standard d t name ≡ false) where
        pub filter_many : (r : ℕ) → CountSaid latin standard d rows count t r → (r ≡ 1 → ⊥)
            → FilterSaid latin standard d rows count name usage t 0
        unfolding filter_of
        filter_many r c k = record { is = λ l h. rw (eq-eqb usage 0 u, o, ← c.is l h, ne_eqb r 1 k) }

        pub filter_one : (r f : ℕ) → CountSaid latin standard d rows count t r → r ≡ 1 → FoundSaid latin standard d rows count t f
            → FilterSaid latin standard d rows count name usage t f
        unfolding filter_of
        filter_one r f c k g = record { is = λ l h. rw (eq-eqb usage 0 u, o, ← c.is l h, eq-eqb r 1 k) (g.is l h) }

-- ---- uses
abbrev pub taken : ℕ → List XmlEntry → XmlEntry → Bool
taken usage l v = eqb v.usage usage

module _ (rows : List ℤ) (count usage : ℕ) where
  pub taken_begin : SomeFrom rows count (taken usage) 0
  taken_begin l h = refl

  pub taken_row : (i : ℕ) (q : Bool) → eqb (column_in rows i 18) usage ≡ q → Passes rows count (taken usage) i q
  taken_row i q e l h v r = rw r.usage at e

  module _ (kind : ℕ) where
    pub use_none : usage ≡ 0 → UseSaid rows count usage kind false
    unfolding use_wrong
    use_none e = record { is = λ l h. rw (le-ltb 0 usage (omega arith)) }

    pub use_mistyped : (usage ≡ 0 → ⊥) → may_serve usage kind ≡ false → UseSaid rows count usage kind true
    unfolding use_wrong
    use_mistyped k e = record { is = λ l h. rw (lt-ltb 0 usage (above usage k), e) }

    pub use_asked : (usage ≡ 0 → ⊥) → may_serve usage kind ≡ true → (r : Bool) → TakenSaid rows count usage r
        → UseSaid rows count usage kind r
    unfolding use_wrong
    use_asked k e r x = record { is = λ l h. rw (lt-ltb 0 usage (above usage k), e) (x.is l h) }

-- ---- standard names
names_count : (latin : Bool) (d : List ℕ) (l : List XmlEntry) → length (xml_names latin d l) ≡ length l
unfolding xml_names
names_count latin d [] = refl
names_count latin d (v ∷ l) = ap suc (names_count latin d l)

name_at_lem : (latin : Bool) (d : List ℕ) {l : List XmlEntry} {i : ℕ} {v : XmlEntry} → At l i v → name_at (xml_names latin d l) i
    ≡ signs_in latin d (name_of v)
unfolding xml_names
name_at_lem latin d kept.here = refl
name_at_lem latin d (kept.there a) = name_at_lem latin d a

pub names_said : (latin : Bool) (d : List ℕ) (rows : List ℤ) (keys : List ℕ) (count i r : ℕ) → i ≡ count
    → ((j : ℕ) → j < i → get_or keys j 0 ≡ key_of 0 0 (signs_in latin d (name_in rows j))) → r ≡ fault_of keys count
    → NamesSaid latin d rows count r
names_said latin d rows keys count i r q g e = record
    { is = λ l h. e ∙ ap (fault_of keys) (sym (names_count latin d l ∙ h.counted)) ∙ keys_fault keys (xml_names latin d l) (told l h) }
  where
    told : (l : List XmlEntry) → RowsOf rows count l → (j : ℕ) → j < length (xml_names latin d l) → get_or keys j 0
        ≡ key_of 0 0 (name_at (xml_names latin d l) j)
    told l h j m =
        let n = h.counted in
        let o = names_count latin d l in
        let x = next_row l j (omega arith) in
        g j (omega arith) ∙ ap (key_of 0 0) (ap (signs_in latin d) (row_reads h x.at).name ∙ sym (name_at_lem latin d x.at))

pub keys_more : (f : ℕ → ℕ) (keys : List ℕ) (i k : ℕ) → i < length keys → ((j : ℕ) → j < i → get_or keys j 0 ≡ f j) → k ≡ f i
    → (j : ℕ) → j < i + 1 → get_or (set keys i k) j 0 ≡ f j
keys_more f keys i k h g e j l = ⊎_elim here before (eq-or-lt_of_le le)
  where
    le : j ≤ i
    le = omega arith

    here : j ≡ i → get_or (set keys i k) j 0 ≡ f j
    here q = rw q (get_or-set_same keys i k 0 h ∙ e)

    before : j < i → get_or (set keys i k) j 0 ≡ f j
    before m = get_or-set_other keys i j k 0 (λ q. omega arith) ∙ g j m
