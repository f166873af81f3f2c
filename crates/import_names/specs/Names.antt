-- What the code keeps of the name line: the first column that differs, and how many fields there were.
use Rattle.std.specs.Prelude.{◌≡◌, Bool, ◌&&◌, ℕ, zero, suc, ◌+◌, ◌-◌, ◌≤◌, ◌<◌, eqb, ltb, leb, ℤ, length, take, drop, get_or}
use Rattle.std.proofs.Math.Path.{refl, sym, ap}
use Rattle.std.proofs.Common.{◌∙◌, ⊎_elim, add-one, arith}
use Rattle.std.proofs.Math.Bool.{true, false, cond}
use mathlib.Core.List.{List, [], ◌∷◌, ◌++◌, append-nil, append_assoc}
use borrow.Author.Tests.{eq-eqb, ne_eqb, eqb-true, eqb-false, lt-ltb, le-ltb, ltb-true, ltb-false, lt-leb, le-leb}
use Rattle.std.proofs.Math.ListN.{length-append}
use Rattle.below.specs.Below.{lt_or_le}
use Rattle.signs.specs.declared.Sign.{Sign}
use Rattle.commas.specs.rule.Csv.{each}
use Rattle.csv_fields.specs.rule.Page.{Page, torn, more, last, start, fresh, page, Lines, broken, line, page_lines}
use Rattle.csv_fields.specs.Page.{Found}
use Rattle.layout.specs.rule.Layout.{row_base, most_rows}
use Rattle.name_line.specs.rule.Names.{sign_byte, name_text, place_at, long_at, name_line}
use Rattle.name_line.specs.Names.{bytes_of, name_at}
use Rattle.import_rule.specs.rule.Text.{same_bytes, differ_at}
use Rattle.import_lines.specs.Undoubled.{undoubled, stride, undoubled_next, undoubled_over}
use Rattle.import_lines.specs.Walk.{with_fields, fields_more, fields_broken, fields_line, stands_field}
use Rattle.import_names.specs.declared.NamesEnd.{NamesEnd}
use Rattle.import_names.specs.declared.NamesEnd.TheVariants.{Same, Differs, Torn}

pos_of : (b : ℕ) → (b ≡ 0 → ⊥) → 1 ≤ b
pos_of zero n = absurd (n refl)
pos_of (suc b) n = omega arith

-- ---- a name, sign by sign
module _ {l m : List Sign} {x : Sign} (e : l ≡ x ∷ m) (raw : List ℕ) (i : ℕ) where
  pub name_short : length raw ≤ i → same_bytes (bytes_of l) (undoubled false (drop i raw)) ≡ false
  unfolding same_bytes
  name_short h = rw (e, undoubled_over raw i h)

  name_byte : i < length raw
      → same_bytes (bytes_of l) (undoubled false (drop i raw))
      ≡ (eqb (sign_byte x) (get_or raw i 0) && same_bytes (bytes_of m) (undoubled false (drop (i + stride (get_or raw i 0)) raw)))
  unfolding same_bytes
  name_byte h = rw (e, undoubled_next raw i h)

  pub name_other : i < length raw → {b : ℕ} → b ≡ sign_byte x → (b ≡ get_or raw i 0 → ⊥)
      → same_bytes (bytes_of l) (undoubled false (drop i raw))
      ≡ false
  name_other h is n = name_byte h ∙ rw (ne_eqb (sign_byte x) (get_or raw i 0) (λ k. n (is ∙ k)))

  pub name_next : i < length raw → {b : ℕ} → b ≡ sign_byte x → b ≡ get_or raw i 0
      → same_bytes (bytes_of l) (undoubled false (drop i raw))
      ≡ same_bytes (bytes_of m) (undoubled false (drop (i + stride (get_or raw i 0)) raw))
  name_next h is k = name_byte h ∙ rw (eq-eqb (sign_byte x) (get_or raw i 0) (sym is ∙ k))

module _ {l : List Sign} (e : l ≡ []) (raw : List ℕ) (i : ℕ) where
  pub name_over : length raw ≤ i → same_bytes (bytes_of l) (undoubled false (drop i raw)) ≡ true
  unfolding same_bytes
  name_over h = rw (e, undoubled_over raw i h)

  pub name_long : i < length raw → same_bytes (bytes_of l) (undoubled false (drop i raw)) ≡ false
  unfolding same_bytes
  name_long h = rw (e, undoubled_next raw i h)

  pub name_ends : leb (length raw) i ≡ same_bytes (bytes_of l) (undoubled false (drop i raw))
  name_ends = ⊎_elim (λ h. lt-leb (length raw) i h ∙ sym (name_long h)) (λ h. le-leb (length raw) i h ∙ sym (name_over h))
      (lt_or_le i (length raw))

-- ---- field by field: the first column that differs, 0 while there is none
unfoldable pub name_step : (ℕ → List ℕ) → ℕ → ℕ → List ℕ → ℕ → ℕ
name_step g rows j f bad = cond (eqb bad 0) (cond (ltb j rows) (cond (same_bytes (g j) f) 0 (j + 1)) (j + 1)) bad

module _ (g : ℕ → List ℕ) (rows j : ℕ) (f : List ℕ) (bad : ℕ) where
  pub one_bad : (bad ≡ 0 → ⊥) → bad ≡ name_step g rows j f bad
  unfolding name_step
  one_bad n = rw (ne_eqb bad 0 n)

  pub one_over : bad ≡ 0 → rows ≤ j → j + 1 ≡ name_step g rows j f bad
  unfolding name_step
  one_over e h = rw (eq-eqb bad 0 e, le-ltb j rows h)

  one_row : bad ≡ 0 → j < rows → {q : Bool} → same_bytes (g j) f ≡ q → cond q 0 (j + 1) ≡ name_step g rows j f bad
  unfolding name_step
  one_row e h k = rw (eq-eqb bad 0 e, lt-ltb j rows h, k)

pub row_stands : (t : List ℤ) {rows j : ℕ} → rows ≤ most_rows → row_base rows ≤ length t → j < rows → (j < most_rows)
    × (row_base (j + 1) ≤ length t)
row_stands t h l k = (omega arith, omega arith)

-- the name of row j, whose place and length were found
module _ (def : List ℕ) (t : List ℤ) (rows j : ℕ) (f : List ℕ) {bad p n : ℕ} (e : bad ≡ 0) (h : j < rows) (k : p ≡ place_at t j)
    (i : n ≡ long_at t j) {q : Bool} (w : q ≡ same_bytes (name_text def p n) f) where
  the_row : {b : Bool} → q ≡ b → cond b 0 (j + 1) ≡ name_step (name_at def t) rows j f bad
  the_row {b} x = one_row (name_at def t) rows j f bad e h
      (ap (λ (y : ℕ). same_bytes (name_text def y (long_at t j)) f) (sym k) ∙ ap (λ (y : ℕ). same_bytes (name_text def p y) f) (sym i)
      ∙ sym w
      ∙ x)

  pub one_same : q ≡ true → 0 ≡ name_step (name_at def t) rows j f bad
  one_same x = the_row x

  pub one_other : q ≡ false → j + 1 ≡ name_step (name_at def t) rows j f bad
  one_other x = the_row x

-- a column that differs, or else what the names and fields that are left say
unfoldable pub or_later : ℕ → ℕ → ℕ
or_later bad c = cond (eqb bad 0) c bad

each_next : (g : ℕ → List ℕ) (rows j : ℕ) → j < rows → each g j (rows - j) ≡ g j ∷ each g (j + 1) (rows - (j + 1))
unfolding each
each_next g rows j h =
    let e : rows - j ≡ suc (rows - (j + 1)) = omega arith in
    rw (e, add-one j)

each_over : (g : ℕ → List ℕ) (rows j : ℕ) → rows ≤ j → each g j (rows - j) ≡ []
unfolding each
each_over g rows j h = let e : rows - j ≡ 0 = omega arith in rw e

-- one field more
module _ (g : ℕ → List ℕ) (rows j : ℕ) (f : List ℕ) (gs : List (List ℕ)) where
  abbrev left : ℕ
  left = differ_at (j + 1 + 1) (each g (j + 1) (rows - (j + 1))) gs

  abbrev now' : ℕ
  now' = differ_at (j + 1) (each g j (rows - j)) (f ∷ gs)

  some : eqb (j + 1) 0 ≡ false
  some = ne_eqb (j + 1) 0 (λ e. omega arith)

  step_bad : (bad : ℕ) → eqb bad 0 ≡ false → or_later bad now' ≡ or_later (name_step g rows j f bad) left
  unfolding or_later name_step
  step_bad bad e = rw e (rw e)

  step_over : (bad : ℕ) → eqb bad 0 ≡ true → rows ≤ j → or_later bad now' ≡ or_later (name_step g rows j f bad) left
  unfolding or_later name_step differ_at
  step_over bad e h = rw (e, le-ltb j rows h, each_over g rows j h) (rw some)

  step_row : (bad : ℕ) → eqb bad 0 ≡ true → j < rows → or_later bad now' ≡ or_later (name_step g rows j f bad) left
  unfolding or_later name_step differ_at
  step_row bad e h = rw (e, lt-ltb j rows h, each_next g rows j h) (by (same_bytes (g j) f))
    where
      by : (q : Bool) → cond q left (j + 1) ≡ cond (eqb (cond q 0 (j + 1)) 0) left (cond q 0 (j + 1))
      by true = refl
      by false = rw some

  step_says : (bad : ℕ) → or_later bad now' ≡ or_later (name_step g rows j f bad) left
  step_says bad = go (eqb bad 0) refl
    where
      go : (p : Bool) → eqb bad 0 ≡ p → or_later bad now' ≡ or_later (name_step g rows j f bad) left
      go true e = ⊎_elim (step_row bad e) (step_over bad e) (lt_or_le j rows)
      go false e = step_bad bad e

-- in the name line: the fields before a place, and the first column that differs
pub record Naming (g : ℕ → List ℕ) (rows : ℕ) (d : List ℕ) (at j bad : ℕ) : Type 0 where
  pub fields : List (List ℕ)
  pub count : j ≡ length fields
  pub on : j ≤ at
  pub within : at ≤ length d
  pub reads : page_lines (page fresh d) ≡ with_fields fields (page_lines (page fresh (drop at d)))
  pub differs : (gs : List (List ℕ)) → differ_at 1 (each g 0 rows) (fields ++ gs)
      ≡ or_later bad (differ_at (j + 1) (each g j (rows - j)) gs)

pub naming_none : (g : ℕ → List ℕ) (rows : ℕ) (d : List ℕ) → Naming g rows d 0 0 0
unfolding with_fields or_later
naming_none g rows d =
    let e : rows - 0 ≡ rows = omega arith in
    record { fields = []; count = refl; on = omega arith; within = omega arith; reads = refl; differs = λ gs. rw e }

-- THE END of the name line: where these names are due
pub record SameNames (names : List (List ℕ)) (d : List ℕ) (next : ℕ) : Type 0 where
  pub fields : List (List ℕ)
  pub reads : page_lines (page fresh d) ≡ line fields (page_lines (page start (drop next d)))
  pub same : differ_at 1 names fields ≡ 0
  pub within : next ≤ length d

pub record OtherNames (names : List (List ℕ)) (d : List ℕ) (c : ℕ) : Type 0 where
  pub fields : List (List ℕ)
  pub rest : Lines
  pub reads : page_lines (page fresh d) ≡ line fields rest
  pub differs : differ_at 1 names fields ≡ c
  pub some : 1 ≤ c

abbrev pub NamesTaken : List (List ℕ) → List ℕ → NamesEnd → Type 0
NamesTaken names d (Same next) = SameNames names d next
NamesTaken names d (Differs c) = OtherNames names d c
NamesTaken names d (Torn c) = page_lines (page fresh d) ≡ broken c

unfoldable pub names_end : ℕ → ℕ → ℕ → ℕ → NamesEnd
names_end rows count bad next = cond (eqb bad 0) (cond (ltb count rows) (Differs (count + 1)) (Same next)) (Differs bad)

module _ (g : ℕ → List ℕ) (rows count : ℕ) where
  end_over : rows ≤ count → differ_at (count + 1) (each g count (rows - count)) [] ≡ 0
  unfolding differ_at
  end_over h = rw (each_over g rows count h)

  end_short : count < rows → differ_at (count + 1) (each g count (rows - count)) [] ≡ count + 1
  unfolding differ_at
  end_short h = rw (each_next g rows count h)

later_none : (bad c : ℕ) → bad ≡ 0 → or_later bad c ≡ c
unfolding or_later
later_none bad c e = rw e

later_bad : (bad c : ℕ) → (bad ≡ 0 → ⊥) → or_later bad c ≡ bad
unfolding or_later
later_bad bad c n = rw (ne_eqb bad 0 n)

-- ---- the fields one by one
module _ {g : ℕ → List ℕ} {rows : ℕ} {d : List ℕ} {at j bad : ℕ} (w : Naming g rows d at j bad) where
  one_more : (f : List ℕ) (gs : List (List ℕ)) {b : ℕ} → b ≡ name_step g rows j f bad
      → differ_at 1 (each g 0 rows) ((w.fields ++ (f ∷ [])) ++ gs) ≡ or_later b (differ_at (j + 1 + 1) (each g (j + 1) (rows - (j + 1))) gs)
  one_more f gs {b} e =
      ap (differ_at 1 (each g 0 rows)) (append_assoc w.fields (f ∷ []) gs) ∙ w.differs (f ∷ gs) ∙ step_says g rows j f gs bad
      ∙ ap (λ (x : ℕ). or_later x (differ_at (j + 1 + 1) (each g (j + 1) (rows - (j + 1))) gs)) (sym e)

  pub naming_more : {p q next b : ℕ} {c : Bool} → Found d (page fresh (drop at d)) p q c next (λ f. more f (page fresh (drop next d)))
      → b ≡ name_step g rows j (undoubled false (take (q - p) (drop p d))) bad → at < next → Naming g rows d next (j + 1) b
  unfolding page_lines
  naming_more {p} {q} {next} {b} {c} k e l = record {
    fields = w.fields ++ (k.f ∷ []);
    count = omega (arith, w.count, length-append w.fields (k.f ∷ []));
    on = omega (arith, w.on);
    within = k.inside';
    reads = w.reads ∙ ap (λ (x : Page). with_fields w.fields (page_lines x)) k.reads
        ∙ sym (fields_more w.fields k.f (page_lines (page fresh (drop next d))));
    differs = λ gs. one_more k.f gs (e ∙ ap (λ (x : List ℕ). name_step g rows j x bad) (stands_field k.stands));
  }

  pub naming_torn : page fresh (drop at d) ≡ torn → page_lines (page fresh d) ≡ broken (j + 1)
  unfolding page_lines
  naming_torn e = w.reads ∙ ap (λ (x : Page). with_fields w.fields (page_lines x)) e ∙ fields_broken w.fields 1
      ∙ ap (λ (i : ℕ). broken (i + 1)) (sym w.count)

  pub naming_last : {p q next b : ℕ} {c : Bool} → Found d (page fresh (drop at d)) p q c next (λ f. last f (page start (drop next d)))
      → b ≡ name_step g rows j (undoubled false (take (q - p) (drop p d))) bad
      → NamesTaken (each g 0 rows) d (names_end rows (j + 1) b next)
  unfolding page_lines names_end
  naming_last {p} {q} {next} {b} {c} k e = go (eqb b 0) refl (ltb (j + 1) rows) refl
    where
      fields : List (List ℕ)
      fields = w.fields ++ (k.f ∷ [])

      reads : page_lines (page fresh d) ≡ line fields (page_lines (page start (drop next d)))
      reads = w.reads ∙ ap (λ (x : Page). with_fields w.fields (page_lines x)) k.reads
          ∙ fields_line w.fields (k.f ∷ []) (page_lines (page start (drop next d)))

      differs : differ_at 1 (each g 0 rows) fields ≡ or_later b (differ_at (j + 1 + 1) (each g (j + 1) (rows - (j + 1))) [])
      differs =
          ap (differ_at 1 (each g 0 rows)) (sym (append-nil fields))
          ∙ one_more k.f [] (e ∙ ap (λ (x : List ℕ). name_step g rows j x bad) (stands_field k.stands))

      go : (x : Bool) → eqb b 0 ≡ x → (y : Bool) → ltb (j + 1) rows ≡ y
          → NamesTaken (each g 0 rows) d (cond x (cond y (Differs (j + 1 + 1)) (Same next)) (Differs b))
      go true x true y = record {
        fields = fields;
        rest = page_lines (page start (drop next d));
        reads = reads;
        differs = differs ∙ later_none b _ (eqb-true b 0 x) ∙ end_short g rows (j + 1) (ltb-true (j + 1) rows y);
        some = omega arith;
      }
      go true x false y = record {
        fields = fields;
        reads = reads;
        within = k.inside';
        same = differs ∙ later_none b _ (eqb-true b 0 x) ∙ end_over g rows (j + 1) (ltb-false (j + 1) rows y);
      }
      go false x y z =
          let n = eqb-false b 0 x in
          record {
            fields = fields;
            rest = page_lines (page start (drop next d));
            reads = reads;
            differs = differs ∙ later_bad b _ n;
            some = pos_of b n;
          }

pub names_line : (def : List ℕ) (t : List ℤ) (rows : ℕ) → name_line def t rows ≡ each (name_at def t) 0 rows
unfolding name_line
names_line def t rows = refl
