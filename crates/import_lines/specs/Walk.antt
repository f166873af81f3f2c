-- What the code keeps of a line: the record so far, the first column that is no value, and how many fields there were.
use Rattle.std.specs.Prelude.{◌≡◌, refl, Bool, true, false, cond, not, ℕ, suc, ◌+◌, ◌-◌, ◌≤◌, ◌<◌, min, eqb, ltb, ℤ, length, take}
use Rattle.std.specs.Prelude.{drop}
use Rattle.std.proofs.Math.Path.{sym, ap}
use Rattle.std.proofs.Common.{◌∙◌, arith}
use mathlib.Core.List.{List, [], ◌∷◌, ◌++◌}
use borrow.Author.Tests.{eq-eqb, ne_eqb, eqb-true, lt-ltb, le-ltb}
use Rattle.std.proofs.Math.ListN.{length-append}
use Rattle.below.specs.Below.{holds_not}
use Rattle.layout.specs.rule.Row.{row_at}
use Rattle.layout.specs.declared.Row.{Row}
use Rattle.fields.specs.rule.Field.{Field, holds, illegal, spaces}
use Rattle.fields.specs.rule.Row.{written_of}
use Rattle.sound.specs.rule.Rows.{rows_of, length_of}
use Rattle.field_values.specs.rule.Read.{value_from}
use Rattle.field_values.specs.Steps.{is_held, took_by, Took}
use Rattle.csv_fields.specs.rule.Page.{Page, torn, more, last, start, fresh, page, Lines, broken, line, with_field, page_lines}
use Rattle.commas.specs.rule.Csv.{doubled}
use Rattle.csv_fields.specs.Page.{Stands, Found, has_quote, doubled_bare}
use Rattle.import_rule.specs.rule.Line.{LineSays, builds, faulty, on_field, record_from, line_says}
use Rattle.import_lines.specs.Undoubled.{undoubled, undoubled_back}
use Rattle.import_lines.specs.declared.LineEnd.{LineEnd}
use Rattle.import_lines.specs.declared.LineEnd.TheVariants.{Good, Refused, Torn}

-- the first column that is no value, 0 while there is none, and the record
pub record Walk : Type 0 where
  pub bad : ℕ
  pub bytes : List ℕ

abbrev pub walk_of : ℕ → List ℕ → Walk
walk_of b s = record { bad = b; bytes = s }

-- one field of row j: its value is written, unless a field before it was none, or there is no such row
unfoldable pub step_by : List ℤ → ℕ → ℕ → Field → List ℕ → Walk
step_by t v j (holds x) s = walk_of 0 (written_of t v (row_at t j) x s)
step_by t v j illegal s = walk_of (j + 1) s

unfoldable pub step : List ℤ → ℕ → ℕ → List ℕ → ℕ → List ℕ → Walk
step t v j f bad s = cond (eqb bad 0) (cond (ltb j v) (step_by t v j (value_from t v (row_at t j) f) s) (walk_of 0 s)) (walk_of bad s)

unfoldable pub walk : List ℤ → ℕ → ℕ → List (List ℕ) → ℕ → List ℕ → Walk
walk t v j [] bad s = walk_of bad s
walk t v j (f ∷ fs) bad s = walk t v (j + 1) fs (step t v j f bad s).bad (step t v j f bad s).bytes

pub walk_more : (t : List ℤ) (v j : ℕ) (fs : List (List ℕ)) (f : List ℕ) (bad : ℕ) (s : List ℕ) {b : ℕ} {u : List ℕ}
    → walk t v j fs bad s ≡ walk_of b u → walk t v j (fs ++ (f ∷ [])) bad s ≡ step t v (j + length fs) f b u
unfolding walk
walk_more t v j [] f bad s {b} {u} e = let z : j + 0 ≡ j = omega arith in rw z (ap (λ (w : Walk). step t v j f w.bad w.bytes) e)
walk_more t v j (g ∷ fs) f bad s e =
    let z : j + suc (length fs) ≡ j + 1 + length fs = omega arith in
    rw z (walk_more t v (j + 1) fs f (step t v j g bad s).bad (step t v j g bad s).bytes e)

-- a field that is none stops the writes
stuck : (t : List ℤ) (v j : ℕ) (fs : List (List ℕ)) (bad : ℕ) (s : List ℕ) → (bad ≡ 0 → ⊥) → walk t v j fs bad s ≡ walk_of bad s
unfolding walk step
stuck t v j [] bad s n = refl
stuck t v j (f ∷ fs) bad s n = rw (ne_eqb bad 0 n) (stuck t v (j + 1) fs bad s n)

-- what the walk says
unfoldable pub walk_says : Walk → LineSays
walk_says w = cond (eqb w.bad 0) (builds w.bytes) (faulty 64 w.bad)

field_says : (t : List ℤ) (v j : ℕ) (fs : List (List ℕ)) (s : List ℕ) (x : Field)
    → ((u : List ℕ) → record_from t v (j + 1) fs u ≡ walk_says (walk t v (j + 1) fs 0 u))
    → on_field x (λ y. record_from t v (j + 1) fs (written_of t v (row_at t j) y s)) (j + 1)
    ≡ walk_says (walk t v (j + 1) fs (step_by t v j x s).bad (step_by t v j x s).bytes)
unfolding on_field step_by walk_says
field_says t v j fs s (holds y) k = k (written_of t v (row_at t j) y s)
field_says t v j fs s illegal k =
    let n : j + 1 ≡ 0 → ⊥ = λ e. omega arith in
    rw (stuck t v (j + 1) fs (j + 1) s n, ne_eqb (j + 1) 0 n)

step_first : (t : List ℤ) (v j : ℕ) (f s : List ℕ) → j < v → step t v j f 0 s ≡ step_by t v j (value_from t v (row_at t j) f) s
unfolding step
step_first t v j f s h = rw (lt-ltb j v h)

pub walk_says_lem : (t : List ℤ) (v j : ℕ) (fs : List (List ℕ)) (s : List ℕ) → j + length fs ≤ v → record_from t v j fs s
    ≡ walk_says (walk t v j fs 0 s)
unfolding walk record_from walk_says
walk_says_lem t v j [] s h = refl
walk_says_lem t v j (f ∷ fs) s h =
    field_says t v j fs s (value_from t v (row_at t j) f) (λ u. walk_says_lem t v (j + 1) fs u (omega arith))
    ∙ ap (λ (w : Walk). walk_says (walk t v (j + 1) fs w.bad w.bytes)) (sym (step_first t v j f s (omega arith)))

-- ---- fields in front of what is read
unfoldable pub with_fields : List (List ℕ) → Lines → Lines
with_fields [] ls = ls
with_fields (f ∷ fs) ls = with_field f (with_fields fs ls)

pub fields_more : (fs : List (List ℕ)) (f : List ℕ) (ls : Lines) → with_fields (fs ++ (f ∷ [])) ls ≡ with_fields fs (with_field f ls)
unfolding with_fields
fields_more [] f ls = refl
fields_more (g ∷ fs) f ls = ap (with_field g) (fields_more fs f ls)

pub fields_broken : (fs : List (List ℕ)) (c : ℕ) → with_fields fs (broken c) ≡ broken (length fs + c)
unfolding with_fields with_field
fields_broken [] c = let z : c ≡ 0 + c = omega arith in ap broken z
fields_broken (f ∷ fs) c = let z : length fs + c + 1 ≡ suc (length fs) + c = omega arith in
    ap (with_field f) (fields_broken fs c) ∙ ap broken z

pub fields_line : (fs gs : List (List ℕ)) (ls : Lines) → with_fields fs (line gs ls) ≡ line (fs ++ gs) ls
unfolding with_fields with_field
fields_line [] gs ls = refl
fields_line (f ∷ fs) gs ls = ap (with_field f) (fields_line fs gs ls)

-- in a line that began at `from`: the fields before a place, and what was made of them
pub record Walking (t : List ℤ) (v : ℕ) (d : List ℕ) (from at j bad : ℕ) (blank s : List ℕ) : Type 0 where
  pub fields : List (List ℕ)
  pub count : j ≡ length fields
  pub on : from + j ≤ at
  pub within : at ≤ length d
  pub reads : page_lines (page fresh (drop from d)) ≡ with_fields fields (page_lines (page fresh (drop at d)))
  pub walked : walk t v 0 fields 0 blank ≡ walk_of bad s

pub walking_none : (t : List ℤ) (v : ℕ) (d : List ℕ) (from : ℕ) (blank : List ℕ) → from ≤ length d → Walking t v d from from 0 0 blank blank
unfolding with_fields walk
walking_none t v d from blank h = record { fields = []; count = refl; on = omega arith; within = h; reads = refl; walked = refl }

pub record GoodLine (t : List ℤ) (d : List ℕ) (from : ℕ) (s : List ℕ) (next : ℕ) : Type 0 where
  pub fields : List (List ℕ)
  pub reads : page_lines (page fresh (drop from d)) ≡ line fields (page_lines (page start (drop next d)))
  pub says : line_says t fields ≡ builds s
  pub ahead : from < next
  pub within : next ≤ length d

pub record FaultyLine (t : List ℤ) (d : List ℕ) (from k c : ℕ) : Type 0 where
  pub fields : List (List ℕ)
  pub rest : Lines
  pub reads : page_lines (page fresh (drop from d)) ≡ line fields rest
  pub says : line_says t fields ≡ faulty k c

-- THE END OF A LINE: what it says, with the record in the slot
abbrev pub LineTaken : List ℤ → List ℕ → ℕ → List ℕ → LineEnd → Type 0
LineTaken t d from s (Good next) = GoodLine t d from s next
LineTaken t d from s (Refused k c) = FaultyLine t d from k c
LineTaken t d from s (Torn c) = page_lines (page fresh (drop from d)) ≡ broken c

-- ---- a field as it stands in the text
pub record RawOf (raw : List ℕ) (b : Bool) : Type 0 where
  pub f : List ℕ
  pub raw_is : raw ≡ doubled f
  pub plain : b ≡ not (has_quote f)

pub raw_of : {d : List ℕ} {from to : ℕ} {b : Bool} {f : List ℕ} → Stands d from to b f → RawOf (take (to - from) (drop from d)) b
raw_of {f = f} s = record { f = f; raw_is = s.raw; plain = s.plain }

-- without doubled quotes it is the field
pub raw_field : {raw : List ℕ} {b : Bool} (r : RawOf raw b) → undoubled false raw ≡ r.f
raw_field r = ap (undoubled false) r.raw_is ∙ undoubled_back r.f

pub raw_bare : {raw : List ℕ} {b : Bool} → RawOf raw b → b ≡ true → raw ≡ undoubled false raw
raw_bare {raw} {b} r e = let q = not_quoted (has_quote r.f) (sym r.plain ∙ e) in r.raw_is ∙ doubled_bare r.f q ∙ sym (raw_field r)
  where
    not_quoted : (x : Bool) → not x ≡ true → x ≡ false
    not_quoted true w = holds_not w refl
    not_quoted false w = refl

pub stands_field : {d : List ℕ} {from to : ℕ} {b : Bool} {f : List ℕ} → Stands d from to b f
    → undoubled false (take (to - from) (drop from d)) ≡ f
stands_field {f = f} s = ap (undoubled false) s.raw ∙ undoubled_back f

-- ---- one field
good_by : (t : List ℤ) (v j : ℕ) (s u : List ℕ) (x : Field) → true ≡ is_held x → u ≡ took_by t v (row_at t j) x s → walk_of 0 u
    ≡ step_by t v j x s
unfolding is_held took_by step_by
good_by t v j s u (holds y) e k = ap (walk_of 0) k
good_by t v j s u illegal e k = holds_not refl e

wrong_by : (t : List ℤ) (v j : ℕ) (s u : List ℕ) (x : Field) → false ≡ is_held x → u ≡ took_by t v (row_at t j) x s → walk_of (j + 1) u
    ≡ step_by t v j x s
unfolding is_held took_by step_by
wrong_by t v j s u (holds y) e k = holds_not refl (sym e)
wrong_by t v j s u illegal e k = ap (walk_of (j + 1)) k

module _ (t : List ℤ) (v j : ℕ) (f : List ℕ) (s : List ℕ) where
  pub step_bad : (bad : ℕ) → (bad ≡ 0 → ⊥) → walk_of bad s ≡ step t v j f bad s
  unfolding step
  step_bad bad n = rw (ne_eqb bad 0 n)

  pub step_none : (bad : ℕ) → bad ≡ 0 → v ≤ j → walk_of 0 s ≡ step t v j f bad s
  unfolding step
  step_none bad e h = rw (e, le-ltb j v h)

  step_some : (bad : ℕ) → bad ≡ 0 → j < v → step t v j f bad s ≡ step_by t v j (value_from t v (row_at t j) f) s
  unfolding step
  step_some bad e h = rw (e, lt-ltb j v h)

  pub step_good : (bad : ℕ) → bad ≡ 0 → j < v → {u : List ℕ} → Took t v (row_at t j) f s u true → walk_of 0 u ≡ step t v j f bad s
  step_good bad e h {u} k = good_by t v j s u (value_from t v (row_at t j) f) k.says k.leaves ∙ sym (step_some bad e h)

  pub step_wrong : (bad : ℕ) → bad ≡ 0 → j < v → {u : List ℕ} → Took t v (row_at t j) f s u false → walk_of (j + 1) u ≡ step t v j f bad s
  step_wrong bad e h {u} k = wrong_by t v j s u (value_from t v (row_at t j) f) k.says k.leaves ∙ sym (step_some bad e h)

-- ---- the fields one by one
module _ {t : List ℤ} {v : ℕ} {d : List ℕ} {from at j bad : ℕ} {blank s : List ℕ} (w : Walking t v d from at j bad blank s) where
  walked_more : (f : List ℕ) {b : ℕ} {u : List ℕ} → walk_of b u ≡ step t v j f bad s → walk t v 0 (w.fields ++ (f ∷ [])) 0 blank
      ≡ walk_of b u
  walked_more f {b} {u} e =
      let z : 0 + length w.fields ≡ j = omega (arith, w.count) in
      walk_more t v 0 w.fields f 0 blank w.walked ∙ ap (λ (i : ℕ). step t v i f bad s) z ∙ sym e

  pub walking_more : {p q next b : ℕ} {c : Bool} {u : List ℕ}
      → Found d (page fresh (drop at d)) p q c next (λ f. more f (page fresh (drop next d)))
      → walk_of b u ≡ step t v j (undoubled false (take (q - p) (drop p d))) bad s → at < next → Walking t v d from next (j + 1) b blank u
  unfolding page_lines
  walking_more {p} {q} {next} {b} {c} {u} k e l = record {
    fields = w.fields ++ (k.f ∷ []);
    count = omega (arith, w.count, length-append w.fields (k.f ∷ []));
    on = omega (arith, w.on);
    within = k.inside';
    reads = w.reads ∙ ap (λ (x : Page). with_fields w.fields (page_lines x)) k.reads
        ∙ sym (fields_more w.fields k.f (page_lines (page fresh (drop next d))));
    walked = walked_more k.f (e ∙ ap (λ (x : List ℕ). step t v j x bad s) (stands_field k.stands));
  }

  pub walking_torn : page fresh (drop at d) ≡ torn → page_lines (page fresh (drop from d)) ≡ broken (j + 1)
  unfolding page_lines
  walking_torn e = w.reads ∙ ap (λ (x : Page). with_fields w.fields (page_lines x)) e ∙ fields_broken w.fields 1
      ∙ ap (λ (i : ℕ). broken (i + 1)) (sym w.count)

  -- the whole line
  pub record Whole (next b : ℕ) (u : List ℕ) : Type 0 where
    pub fields : List (List ℕ)
    pub count : length fields ≡ j + 1
    pub reads : page_lines (page fresh (drop from d)) ≡ line fields (page_lines (page start (drop next d)))
    pub walked : walk t v 0 fields 0 blank ≡ walk_of b u

  pub walking_last : {p q next b : ℕ} {c : Bool} {u : List ℕ}
      → Found d (page fresh (drop at d)) p q c next (λ f. last f (page start (drop next d)))
      → walk_of b u ≡ step t v j (undoubled false (take (q - p) (drop p d))) bad s → Whole next b u
  unfolding page_lines
  walking_last {p} {q} {next} {b} {c} {u} k e = record {
    fields = w.fields ++ (k.f ∷ []);
    count = omega (arith, w.count, length-append w.fields (k.f ∷ []));
    reads = w.reads ∙ ap (λ (x : Page). with_fields w.fields (page_lines x)) k.reads
        ∙ fields_line w.fields (k.f ∷ []) (page_lines (page start (drop next d)));
    walked = walked_more k.f (e ∙ ap (λ (x : List ℕ). step t v j x bad s) (stands_field k.stands));
  }

-- ---- what a line of so many fields says
unfoldable pub end_of : ℕ → ℕ → ℕ → ℕ → LineEnd
end_of v count bad next = cond (eqb count v) (cond (eqb bad 0) (Good next) (Refused 64 bad)) (Refused 63 (min count v + 1))

module _ (t : List ℤ) (fields : List (List ℕ)) (count : ℕ) (b : ℕ) (u : List ℕ) (n : length fields ≡ count)
    (w : walk t (rows_of t) 0 fields 0 (spaces (length_of t)) ≡ walk_of b u) (x : eqb count (rows_of t) ≡ true) where
  said : line_says t fields ≡ walk_says (walk_of b u)
  unfolding line_says
  said =
      let e = eqb-true count (rows_of t) x in
      rw (eq-eqb (length fields) (rows_of t) (n ∙ e))
      (walk_says_lem t (rows_of t) 0 fields (spaces (length_of t)) (omega (arith, n, e)) ∙ ap walk_says w)

  said_good : eqb b 0 ≡ true → line_says t fields ≡ builds u
  unfolding walk_says
  said_good y = said ∙ rw y

  said_wrong : eqb b 0 ≡ false → line_says t fields ≡ faulty 64 b
  unfolding walk_says
  said_wrong y = said ∙ rw y

said_count : (t : List ℤ) (fields : List (List ℕ)) (count : ℕ) → length fields ≡ count → eqb count (rows_of t) ≡ false → line_says t fields
    ≡ faulty 63 (min count (rows_of t) + 1)
unfolding line_says
said_count t fields count n x = rw (n, x)

pub line_taken : (t : List ℤ) (d : List ℕ) {from next count b : ℕ} {fields : List (List ℕ)} {u : List ℕ} → length fields ≡ count
    → page_lines (page fresh (drop from d)) ≡ line fields (page_lines (page start (drop next d)))
    → walk t (rows_of t) 0 fields 0 (spaces (length_of t)) ≡ walk_of b u → from < next → next ≤ length d
    → LineTaken t d from u (end_of (rows_of t) count b next)
unfolding end_of
line_taken t d {from} {next} {count} {b} {fields} {u} n e w h l = go (eqb count (rows_of t)) (eqb b 0) refl refl
  where
    go : (p q : Bool) → eqb count (rows_of t) ≡ p → eqb b 0 ≡ q
        → LineTaken t d from u (cond p (cond q (Good next) (Refused 64 b)) (Refused 63 (min count (rows_of t) + 1)))
    go true true x y = record { fields = fields; reads = e; says = said_good t fields count b u n w x y; ahead = h; within = l }
    go true false x y = record {
      fields = fields;
      rest = page_lines (page start (drop next d));
      reads = e;
      says = said_wrong t fields count b u
          n w x y;
    }
    go false q x y = record {
      fields = fields;
      rest = page_lines (page start (drop next d));
      reads = e;
      says = said_count t fields count n
          x;
    }

-- ---- a value taken, said otherwise
pub took_as : {t : List ℤ} {v : ℕ} {r : Row} {f g old new : List ℕ} {b : Bool} → f ≡ g → Took t v r f old new b → Took t v r g old new b
took_as e k = rw e at k

pub took_row : {t : List ℤ} {v : ℕ} {r r' : Row} {f old new : List ℕ} {b : Bool} → r ≡ r' → Took t v r f old new b → Took t v r' f old new b
took_row e k = rw e at k

pub took_says : {t : List ℤ} {v : ℕ} {r : Row} {f old new : List ℕ} {b q : Bool} → b ≡ q → Took t v r f old new b → Took t v r f old new q
took_says e k = rw e at k

pub whole_taken : {t : List ℤ} {rows len : ℕ} {d : List ℕ} {from at j bad : ℕ} {s : List ℕ} → rows ≡ rows_of t → len ≡ length_of t
    → (w : Walking t rows d from at j bad (spaces len) s) {next b : ℕ} {u : List ℕ} → Whole w next b u → from < next → next ≤ length d
    → LineTaken t d from u (end_of rows (j + 1) b next)
whole_taken {t} {rows} {len} {d} {from} {at} {j} p q w {next} {b} {u} k h l =
    let e : walk t (rows_of t) 0 k.fields 0 (spaces (length_of t)) ≡ walk_of b u =
    ap (λ (i : ℕ). walk t i 0 k.fields 0 (spaces (length_of t))) (sym p) ∙ ap (λ (i : ℕ). walk t rows 0 k.fields 0 (spaces i)) (sym q)
    ∙ k.walked in
    rw p (line_taken t d k.count k.reads e h l)
