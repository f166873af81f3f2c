-- What the reader of variables builds keeps the rule of uses and filters: each variable joins those before it.
use mathlib.Core.Path.{◌≡◌, refl, ◌∙◌, sym, ap}
use mathlib.Core.Logic.{◌⊎◌, inl, inr, ⊎_elim}
use mathlib.Core.Bool.{Bool, true, false, cond, not, ◌&&◌, ◌||◌}
use mathlib.Core.List.{List, [], ◌∷◌, ◌++◌}
use Prim.Native.Nat.{ℕ, zero, suc, ◌+◌, ◌-◌, ◌≤◌, ◌<◌}
use native.Mathlib.Omega.{arith}
use lib.Dec.{eqb, ltb}
use lib.ListN.{length, take, drop}
use borrow.Author.Tests.{eqb-true, eqb-false, lt-ltb}
use Rattle.spans.specs.rule.Heard.{heard}
use Rattle.spans.specs.rule.Says.{heard_word}
use Rattle.forms.specs.rule.Form.{serial, weight, use_of}
use Rattle.tags.specs.rule.Tag.{is_named, tag_of}
use Rattle.tags.specs.declared.Tag.{Tag}
use Rattle.tags.specs.declared.Tag.TheVariants as tag
use Rattle.tokens.specs.rule.Gap.{fault}
use Rattle.tokens.specs.declared.Fault.{Fault}
use Rattle.layout.specs.rule.Layout.{most_rows}
use Rattle.scan.specs.rule.Loop.{Next, Again, Done}
use Rattle.survey.specs.rule.Survey.{Figure, KeptText, Content, quantity, character, Variable}
use Rattle.survey.specs.rule.Width.{some_of}
use Rattle.survey.specs.rule.Table.{type_of, holds, lines_all}
use Rattle.reading.specs.rule.Result.{Result, Is, Not, Reader, bind, repeat, turn}
use Rattle.reading.specs.rule.Least.{Charge, ◌when◌, judged}
use Rattle.reading.specs.rule.Statement.{Position}
use Rattle.reading.specs.rule.Variable.{ident_charges, variable_of, held}
use Rattle.bridge.specs.Lowest.{never, Clear, clear}
use Rattle.xml_reading.specs.rule.Word.{IDENT, TYPE, USE, NAME, LABEL, POSITION, FILTER, SIZE, VARIABLE, RECORD}
use Rattle.xml_reading.specs.rule.Open.{Open, start, shut, within_element, misplaced, on_bare, either_element, due, over, unknown_at}
use Rattle.xml_reading.specs.rule.Open.{on_tag}
use Rattle.xml_reading.specs.rule.Open.{entered}
use Rattle.xml_reading.specs.rule.Element.{text, position, size, figure_of}
use Rattle.xml_reading.specs.rule.Block.{rich}
use Rattle.xml_reading.specs.rule.Role.{XmlEntry, Title, variables_of, type_at, use_at, may_serve, use_wrong, same_name, is_name_of}
use Rattle.xml_reading.specs.rule.Role.{has_served}
use Rattle.xml_reading.specs.rule.Role.{title}
use Rattle.xml_reading.specs.rule.Role.{naming, filter, filter_of}
use Rattle.xml_reading.specs.rule.Variable.{Manner, Then, with, filtered, block, ended, content, variable}
use Rattle.xml_reading.specs.rule.Sheet.{on_open, another_element, variables}
use Rattle.filters.specs.rule.Kept.{At, here, there, name_of, entry_kind, Joins, Kept}
use Rattle.filters.proofs.Filtering.{filter_means}
use Rattle.filters.proofs.Keeping.{kept_none, kept_more}
use Rattle.filters.proofs.Rooms.{name_here}
use Rattle.filters.proofs.Texts.{bound, judged_is, text_lies}

-- ---- the use
use_known : (d : List ℕ) (v e : ℕ) → use_at d v e ≤ 2
unfolding use_at use_of
use_known d v e = by (eqb v 0) (heard_word serial (heard (take (e - v) (drop v d)) 0))
    (heard_word weight (heard (take (e - v) (drop v d)) 0))
  where
    by : (p q r : Bool) → cond p 0 (cond q 1 (cond r 2 0)) ≤ 2
    by true q r = omega arith
    by false true r = omega arith
    by false false true = omega arith
    by false false false = omega arith

record Used (l : List XmlEntry) (t : Title) : Type 0 where
  pub known : t.usage ≤ 2
  pub right : use_wrong l t.usage t.type ≡ false

used_charged : (l : List XmlEntry) (x : Figure) (u c t k : ℕ)
    → Clear (ident_charges (variables_of l) x ++ unknown_at k ∷ fault 52 c when use_wrong l u t ∷ []) → use_wrong l u t ≡ false
unfolding ident_charges
used_charged l x u c t k (clear a (clear b (clear e (clear f (clear g (clear h r)))))) = h

used_same : {l : List XmlEntry} {s t : Title} → s ≡ t → Used l s → Used l t
used_same e x = rw (← e) x

title_used : (bad : Bool) (d : List ℕ) (old : Bool) (l : List XmlEntry) (p e : ℕ) {t : Title} {n : ℕ} → title bad d old l p e ≡ Is t n
    → Used l t
unfolding title
title_used bad d old l p e {t} {n} f = on (tag_of bad d p e IDENT TYPE (cond old [] USE) 1 4 (cond old 0 5) 2) f where
  shut_is : (em : Bool) (q : ℕ) (a : Title) (m : ℕ) → cond em (Not (fault 2 q)) (Is a m) ≡ Is t n → a ≡ t
  shut_is true q a m f = never cc
  shut_is false q a m f = cc

  on : (g : Tag)
      → on_tag bad d g (λ h empty q.
      let x = figure_of d h.a h.ae in
      let k = type_at d h.b h.be in
      let u = use_at d h.c h.ce in
      entered bad d (ident_charges (variables_of l) x ++ unknown_at h.unknown ∷ fault 52 h.c when use_wrong l u k ∷ [])
      (record { ident = x; type = k; usage = u }) empty q) ≡ Is t n → Used l t
  on (tag.Read h em q m) f =
      let x = figure_of d h.a h.ae in
      let k = type_at d h.b h.be in
      let u = use_at d h.c h.ce in
      let c = ident_charges (variables_of l) x ++ unknown_at h.unknown ∷ fault 52 h.c when use_wrong l u k ∷ [] in
      let b = bound (judged c (record { ident = x; type = k; usage = u }) m) _ t n f in
      let j = judged_is c (record { ident = x; type = k; usage = u }) m b.first_is in
      used_same (j.0 ∙ shut_is em q b.value b.place b.then_is)
      (record { known = use_known d h.c h.ce; right = used_charged l x u h.c k h.unknown j.2 })
  on (tag.Fault k q) f = never cc

-- a use that is not wrong is one that the type may have, and new
module _ (l : List XmlEntry) (u t : ℕ) (r : use_wrong l u t ≡ false) where
  serves : 0 < u → may_serve u t ≡ true
  unfolding use_wrong
  serves h = by (may_serve u t) (some_of (λ v. eqb v.usage u) l) refl (rw (lt-ltb 0 u h) at r) where
    by : (a b : Bool) → may_serve u t ≡ a → (true && (not a || b)) ≡ false → may_serve u t ≡ true
    by true b e f = e
    by false b e f = never cc

  untaken : 0 < u → some_of (λ v. eqb v.usage u) l ≡ false
  unfolding use_wrong
  untaken h = by (may_serve u t) (some_of (λ v. eqb v.usage u) l) refl (rw (lt-ltb 0 u h) at r) where
    by : (a b : Bool) → some_of (λ v. eqb v.usage u) l ≡ b → (true && (not a || b)) ≡ false → some_of (λ v. eqb v.usage u) l ≡ false
    by a false e f = e
    by true true e f = never cc
    by false true e f = never cc

  typed : 0 < u → (t ≡ 3) ⊎ ((u ≡ 1) × (t ≡ 4))
  unfolding may_serve
  typed h = by (eqb t 3) (eqb u 1) (eqb t 4) refl refl refl (serves h) where
    by : (a b c : Bool) → eqb t 3 ≡ a → eqb u 1 ≡ b → eqb t 4 ≡ c → (a || (b && c)) ≡ true → (t ≡ 3) ⊎ ((u ≡ 1) × (t ≡ 4))
    by true b c e f g h = inl (eqb-true t 3 e)
    by false true true e f g h = inr (eqb-true u 1 f, eqb-true t 4 g)
    by false true false e f g h = never cc
    by false false c e f g h = never cc

none_takes : (g : XmlEntry → Bool) {l : List XmlEntry} {i : ℕ} {v : XmlEntry} → At l i v → some_of g l ≡ false → g v ≡ false
unfolding some_of
none_takes g (here {v = v} {l = l}) e = by (g v) (some_of g l) e where
  by : (a b : Bool) → (a || b) ≡ false → a ≡ false
  by true b e = never cc
  by false b e = refl
none_takes g (there {w = w} {l = l} a) e = none_takes g a (by (g w) (some_of g l) e) where
  by : (a b : Bool) → (a || b) ≡ false → b ≡ false
  by true b e = never cc
  by false b e = e

-- ---- the filter
module _ (bad : Bool) (d : List ℕ) (m : Manner) (l : List XmlEntry) (name : KeptText) (usage : ℕ) where
  record Named (f : ℕ) : Type 0 where
    pub text : KeptText
    pub is : f ≡ filter_of m.latin m.standard d l name usage text

  data Filter : ℕ → Type 0 where
    none : Filter 0
    some : {f : ℕ} → Named f → Filter f

  filter_is : (p e : ℕ) {f n : ℕ} → filter bad d m.latin m.standard l name usage p e ≡ Is f n → Named f
  unfolding filter
  filter_is p e {f} {n} g =
      let b = bound (text bad d FILTER 0 p e) _ f n g in
      let o = filter_of m.latin m.standard d l name usage b.value in
      let j = judged_is (fault 52 b.value.place when eqb o 0 ∷ []) o b.place b.then_is in
      record { text = b.value; is = sym j.0 }

  filter_of_lem : {x y : Then ℕ} → x ≡ y → Filter x.it → Filter y.it
  filter_of_lem e f = rw (← e) f

  filtered_is : (o : Open) (e : ℕ) {x : Then ℕ} {n : ℕ} → filtered bad d m l name usage o e ≡ Is x n → Filter x.it
  unfolding filtered
  filtered_is o e {x} {n} f = by m.old o f where
    absent : (o : Open) → Is (with 0 o) e ≡ Is x n → Filter x.it
    absent o f = let q : with 0 o ≡ x = cc in filter_of_lem q none

    read : (p : ℕ) → bind (filter bad d m.latin m.standard l name usage p e)
        (λ f k. bind (within_element bad d VARIABLE k) λ o j. Is (with f o) j) ≡ Is x n → Filter x.it
    read p f =
        let b = bound (filter bad d m.latin m.standard l name usage p e) _ x n f in
        let c = bound (within_element bad d VARIABLE b.place) _ x n b.then_is in
        let q : with b.value c.value ≡ x = cc in
        filter_of_lem q (some (filter_is p e b.first_is))

    by : (old : Bool) (o : Open)
        → cond old (λ n. Is (with 0 o) n)
        (either_element bad d FILTER o (λ p n. bind (filter bad d m.latin m.standard l name usage p n) λ f k. bind
        (within_element bad d VARIABLE k)
        λ o j. Is (with f o) j)
        (λ n. Is (with 0 o) n)) e ≡ Is x n → Filter x.it
    by true o f = absent o f
    by false (shut p) f = absent (shut p) f
    by false (start p) f = on (is_named d (p + 1) e FILTER) f where
      on : (q : Bool) → cond q (bind (filter bad d m.latin m.standard l name usage p e)
          (λ f k. bind (within_element bad d VARIABLE k) λ o j. Is (with f o) j)) (Is (with 0 (start p)) e) ≡ Is x n
          → Filter x.it
      on true f = read p f
      on false f = absent (start p) f

  named_by : {f : ℕ} → Filter f → (i : ℕ) → f ≡ suc i → Named (suc i)
  named_by none i e = absurd (omega arith)
  named_by (some x) i e = rw (← e) x

-- ---- a tag that is due
record DueIs {A : Type 0} (o : Open) (k : ℕ → Reader A) (n : ℕ) (a : A) (i : ℕ) : Type 0 where
  pub place : ℕ
  pub then_is : k place n ≡ Is a i

-- ---- the type: what a quantity or a character says is one
module _ (bad : Bool) (d : List ℕ) (m : Manner) where
  over_is : {C : Type 0} (c : C) (o : Open) (k : ℕ) {x : C} {n : ℕ} → bind (over bad d o k) (λ a j. Is c j) ≡ Is x n → c ≡ x
  over_is c (shut p) k f = cc
  over_is {C} c (start p) k {x} {n} f = by (on_bare bad d {A = Unit} p (tag_of bad d p k [] [] [] 0 0 0 0)) refl f where
    none : (g : Tag) → on_bare bad d {A = Unit} p g ≡ Is tt n → c ≡ x
    none (tag.Read h em q i) e = never cc
    none (tag.Fault i q) e = never cc

    by : (r : Result Unit) → on_bare bad d {A = Unit} p (tag_of bad d p k [] [] [] 0 0 0 0) ≡ r → bind r (λ a j. Is c j) ≡ Is x n → c ≡ x
    by (Is a j) g f = let q : j ≡ n = cc in none (tag_of bad d p k [] [] [] 0 0 0 0) (rw q at g)
    by (Not z) g f = never cc

  ended_is : (c : Content) (e : ℕ) {x : Content} {n : ℕ} → ended bad d m c e ≡ Is x n → c ≡ x
  ended_is c e {x} {n} f =
      let b = bound (within_element bad d VARIABLE e) _ x n f in
      over_is c b.value b.place b.then_is

  of_three : (p : Position) (before : ℕ) (o : Open) (e : ℕ) {c : Content} {n : ℕ} → content bad d m p before 3 o e ≡ Is c n → type_of c ≡ 3
  unfolding content
  of_three p before o e {c} {n} f =
      let b = bound (block bad d m true before o e) _ c n f in
      ap type_of (sym (ended_is (quantity b.value) b.place b.then_is))

  of_four : (p : Position) (before : ℕ) (o : Open) (e : ℕ) {c : Content} {n : ℕ} → content bad d m p before 4 o e ≡ Is c n → type_of c ≡ 4
  unfolding content
  of_four p before o e {c} {n} f =
      let b = bound (due bad d SIZE o (size bad d) e) _ c n f in
      ap type_of (sym (ended_is (character b.value) b.place b.then_is))

  module _ (p : Position) (before : ℕ) (o : Open) (e t : ℕ) {c : Content} {n : ℕ} where
    content_three : t ≡ 3 → content bad d m p before t o e ≡ Is c n → type_of c ≡ 3
    content_three z f = of_three p before o e (rw z at f)

    content_four : t ≡ 4 → content bad d m p before t o e ≡ Is c n → type_of c ≡ 4
    content_four z f = of_four p before o e (rw z at f)

  due_is : {A : Type 0} (w : List ℕ) (o : Open) (k : ℕ → Reader A) (n : ℕ) {a : A} {i : ℕ} → due bad d w o k n ≡ Is a i → DueIs o k n a i
  due_is {A} w (start p) k n {a} {i} f = by (is_named d (p + 1) n w) f where
    none : (g : Tag) → on_bare bad d {A = A} p g ≡ Is a i → DueIs (start p) k n a i
    none (tag.Read h em q j) e = never cc
    none (tag.Fault j q) e = never cc

    by : (q : Bool) → cond q (k p n) (misplaced bad d {A = A} p n) ≡ Is a i → DueIs (start p) k n a i
    by true f = record { place = p; then_is = f }
    by false f = none (tag_of bad d p n [] [] [] 0 0 0 0) f
  due_is w (shut p) k n f = never cc

given_same : {A : Type 0} {a b : A} {m n : ℕ} → Is a m ≡ Is b n → a ≡ b
given_same e = cc

-- ---- the name: none that has served, within the file
record NameIs (bad latin standard : Bool) (d : List ℕ) (l : List XmlEntry) (t : KeptText) : Type 0 where
  pub unserved : has_served latin standard d l t ≡ false
  pub lies : t.place + t.length ≤ length d

clear_head : {f : Fault} {q : Bool} {l : List Charge} → Clear (f when q ∷ l) → q ≡ false
clear_head (clear e r) = e

name_same : {bad latin standard : Bool} {d : List ℕ} {l : List XmlEntry} {s t : KeptText} → s ≡ t → NameIs bad latin standard d l s
    → NameIs bad latin standard d l t
name_same e x = rw (← e) x

naming_is : (bad latin standard : Bool) (d : List ℕ) (l : List XmlEntry) (p e : ℕ) {t : KeptText} {n : ℕ}
    → naming bad d latin standard l p e
    ≡ Is t n
    → NameIs bad latin standard d l t
unfolding naming
naming_is bad latin standard d l p e {t} {n} f =
    let b = bound (text bad d NAME 0 p e) (λ t. judged (fault 52 t.place when has_served latin standard d l t ∷ []) t) t n f in
    let j = judged_is (fault 52 b.value.place when has_served latin standard d l b.value ∷ []) b.value b.place b.then_is in
    name_same j.0 (record { unserved = clear_head j.2; lies = (text_lies bad d NAME 0 p e b.first_is).inside })

module _ (latin standard : Bool) (d : List ℕ) (l : List XmlEntry) (t : KeptText) (s : has_served latin standard d l t ≡ false) where
  served_no : (j : ℕ) (w : XmlEntry) (i : ℕ) (row : XmlEntry) → At l j w → w.filter ≡ suc i → At l i row
      → same_name latin standard d t (name_of row) ≡ false
  unfolding has_served
  served_no j w i row a e b =
      let x = none_takes (λ v. ltb 0 v.filter && is_name_of (same_name latin standard d t) l (v.filter - 1)) a s in
      let y : suc i - 1 ≡ i = omega arith in
      sym (name_here (same_name latin standard d t) b) ∙ by (rw e at x) y where
        by : (ltb 0 (suc i) && is_name_of (same_name latin standard d t) l (suc i - 1)) ≡ false → suc i - 1 ≡ i
            → is_name_of (same_name latin standard d t) l i ≡ false
        by x y = rw (lt-ltb 0 (suc i) (omega arith), y) at x

-- ---- a variable joins those before it
module _ (bad : Bool) (d : List ℕ) (m : Manner) (l : List XmlEntry) where
  joined : (t : Title) (name : KeptText) (f : ℕ) (v : XmlEntry) → has_served m.latin m.standard d l name ≡ false → Used l t
      → Filter bad d m l name t.usage f → v.usage ≡ t.usage → v.filter ≡ f → name_of v ≡ name
      → (t.type ≡ 3 → entry_kind v ≡ 3) → (t.type ≡ 4 → entry_kind v ≡ 4) → Joins m.latin m.standard d l v
  joined t name f v s u x a b c three four = record {
    unserved = λ j w i row y e z. rw c (served_no m.latin m.standard d l name s j w i row y e z);
    known = let k = u.known in omega arith;
    serial = λ e. ⊎_elim (λ z. inl (three z)) (λ z. inr (four z.1)) (typed l t.usage t.type u.right (omega arith));
    weight = λ e. ⊎_elim three (λ z. let k = z.0 in absurd (omega arith)) (typed l t.usage t.type u.right (omega arith));
    first = λ h j w i g.
        eqb-false w.usage t.usage (none_takes (λ v. eqb v.usage t.usage) i
        (untaken l t.usage t.type u.right (omega arith))) (g ∙ a);
    filter = λ i e.
        let n = named_by bad d m l name t.usage x i (sym b ∙ e) in
        record {
          text = n.text;
          filters = rw (c, a)
              ((filter_means m.latin m.standard d l name t.usage n.text i).0 (sym n.is));
        };
  }

  pub record VariableRead (v : XmlEntry) : Type 0 where
    pub joins : Joins m.latin m.standard d l v
    pub lies : (name_of v).place + (name_of v).length ≤ length d

  -- what follows the title, text by text
  abbrev settled : Title → KeptText → KeptText → Position → ℕ → Content → Reader XmlEntry
  settled t name label p f c k = bind (held (variable_of t.ident name label p c) k)
      (λ w i. Is (record { variable = w; usage = t.usage; filter = f }) i)

  abbrev contained : Title → KeptText → KeptText → Position → Then ℕ → Reader XmlEntry
  contained t name label p f k = bind (content bad d m p (lines_all (variables_of l)) t.type f.behind k)
      (settled t name label p f.it)

  abbrev placed : Title → KeptText → KeptText → Position → Open → Reader XmlEntry
  placed t name label p o k = bind (filtered bad d m l name t.usage o k) (contained t name label p)

  abbrev labelled : Title → KeptText → KeptText → Open → Reader XmlEntry
  labelled t name label o k = bind (due bad d POSITION o (position bad d) k)
      (λ p i. bind (within_element bad d VARIABLE i) (placed t name label p))

  abbrev named : Title → KeptText → Open → Reader XmlEntry
  named t name o k = bind (due bad d LABEL o (text bad d LABEL (rich m.languages)) k)
      (λ label i. bind (within_element bad d VARIABLE i) (labelled t name label))

  abbrev titled : Title → Open → Reader XmlEntry
  titled t o k = bind (due bad d NAME o (naming bad d m.latin m.standard l) k)
      (λ name i. bind (within_element bad d VARIABLE i) (named t name))

  settled_joins : (t : Title) (name label : KeptText) (p : Position) (f : ℕ) (c : Content) (k : ℕ) {v : XmlEntry} {n : ℕ}
      → NameIs bad m.latin m.standard d l name → Used l t
      → Filter bad d m l name t.usage f → (t.type ≡ 3 → type_of c ≡ 3) → (t.type ≡ 4 → type_of c ≡ 4) → settled t name label p f c k
      ≡ Is v n → VariableRead v
  settled_joins t name label p f c k {v} {n} s u x three four g =
      let w = variable_of t.ident name label p c in
      let h = bound (held w k) (λ w i. Is (record { variable = w; usage = t.usage; filter = f }) i) v n g in
      let j = judged_is (fault 7 w.start.place when not (holds w) ∷ []) w k {b = h.value} {m = h.place} h.first_is in
      let z = given_same h.then_is in
      let i : name_of v ≡ name = ap (λ (y : XmlEntry). name_of y) (sym z) ∙ ap (λ (y : Variable). y.name) (sym j.0) in
      record {
        joins = joined t name f v s.unserved u x (ap (λ (y : XmlEntry). y.usage) (sym z)) (ap (λ (y : XmlEntry). y.filter) (sym z)) i
            (λ e. ap (λ (y : XmlEntry). entry_kind y) (sym z) ∙ ap (λ (y : Variable). type_of y.content) (sym j.0) ∙ three e)
            (λ e. ap (λ (y : XmlEntry). entry_kind y) (sym z) ∙ ap (λ (y : Variable). type_of y.content) (sym j.0) ∙ four e);
        lies = omega (arith, ap (λ (t : KeptText). t.place) i, ap (λ (t : KeptText). t.length) i, s.lies);
      }

  placed_joins : (t : Title) (name label : KeptText) (p : Position) (o : Open) (k : ℕ) {v : XmlEntry} {n : ℕ}
      → NameIs bad m.latin m.standard d l name → Used l t → placed t name label p o k ≡ Is v n → VariableRead v
  placed_joins t name label p o k {v} {n} s u g =
      let x = bound (filtered bad d m l name t.usage o k) (contained t name label p) v n g in
      let c = bound (content bad d m p (lines_all (variables_of l)) t.type x.value.behind x.place)
      (settled t name label p x.value.it) v n x.then_is in
      settled_joins t name label p x.value.it c.value c.place s u (filtered_is bad d m l name t.usage o k x.first_is)
      (λ e. content_three bad d m p (lines_all (variables_of l)) x.value.behind x.place t.type e c.first_is)
      (λ e. content_four bad d m p (lines_all (variables_of l)) x.value.behind x.place t.type e c.first_is)
      c.then_is

  labelled_joins : (t : Title) (name label : KeptText) (o : Open) (k : ℕ) {v : XmlEntry} {n : ℕ}
      → NameIs bad m.latin m.standard d l name
      → Used l t → labelled t name label o k ≡ Is v n → VariableRead v
  labelled_joins t name label o k {v} {n} s u g =
      let p = bound (due bad d POSITION o (position bad d) k) (λ p i. bind (within_element bad d VARIABLE i) (placed t name label p)) v n
      g in
      let x = bound (within_element bad d VARIABLE p.place) (placed t name label p.value) v n p.then_is in
      placed_joins t name label p.value x.value x.place s u x.then_is

  named_joins : (t : Title) (name : KeptText) (o : Open) (k : ℕ) {v : XmlEntry} {n : ℕ} → NameIs bad m.latin m.standard d l name
      → Used l t
      → named t name o k ≡ Is v n → VariableRead v
  named_joins t name o k {v} {n} s u g =
      let p = bound (due bad d LABEL o (text bad d LABEL (rich m.languages)) k)
      (λ label i. bind (within_element bad d VARIABLE i) (labelled t name label)) v n g in
      let x = bound (within_element bad d VARIABLE p.place) (labelled t name p.value) v n p.then_is in
      labelled_joins t name p.value x.value x.place s u x.then_is

  titled_joins : (t : Title) (o : Open) (k : ℕ) {v : XmlEntry} {n : ℕ} → Used l t → titled t o k ≡ Is v n → VariableRead v
  titled_joins t o k {v} {n} u g =
      let p = bound (due bad d NAME o (naming bad d m.latin m.standard l) k)
      (λ name i. bind (within_element bad d VARIABLE i) (named t name))
      v n g in
      let x = bound (within_element bad d VARIABLE p.place) (named t p.value) v n p.then_is in
      let y = due_is bad d m NAME o (naming bad d m.latin m.standard l) k p.first_is in
      named_joins t p.value x.value x.place (naming_is bad m.latin m.standard d l y.place k y.then_is) u x.then_is

  -- JOINS: what the reader of a variable answers
  pub variable_read : (q e : ℕ) {v : XmlEntry} {n : ℕ} → variable bad d m l q e ≡ Is v n → VariableRead v
  unfolding variable
  variable_read q e {v} {n} f =
      let t = bound (title bad d m.old l q e) (λ t i. bind (within_element bad d VARIABLE i) (titled t)) v n f in
      let o = bound (within_element bad d VARIABLE t.place) (titled t.value) v n t.then_is in
      titled_joins t.value o.value o.place (title_used bad d m.old l q e t.first_is) o.then_is

-- ---- all of them
abbrev NextKept : Next (List XmlEntry) (List XmlEntry) → Type 0
NextKept (Again l) = Kept l
NextKept (Done l) = Kept l

module _ (bad : Bool) (d : List ℕ) (m : Manner) where
  one_more : (l : List XmlEntry) (p e : ℕ) {v : XmlEntry} {n : ℕ} → Kept l → variable bad d m l p e ≡ Is v n → Kept (l ++ v ∷ [])
  one_more l p e {v} {n} k f = kept_more m.latin m.standard d l v k (variable_read bad d m l p e f).joins

  next_same : {x y : Next (List XmlEntry) (List XmlEntry)} → x ≡ y → NextKept x → NextKept y
  next_same e k = rw (← e) k

  another_kept : (l : List XmlEntry) (n : ℕ) {x : Next (List XmlEntry) (List XmlEntry)} {i : ℕ} → Kept l → another_element bad d m l n
      ≡ Is x i → NextKept x
  unfolding another_element
  another_kept l n {x} {i} k f = let o = bound (within_element bad d RECORD n) _ x i f in by o.place o.value o.then_is where
    by : (j : ℕ) (o : Open) → on_open bad d m l o j ≡ Is x i → NextKept x
    by j (start p) f =
        let y = due_is bad d m VARIABLE (start p) (λ p e. bind (variable bad d m l p e) λ v e. Is (Again (l ++ v ∷ [])) e) j f in
        let b = bound (variable bad d m l y.place j) _ x i y.then_is in
        let z : Again (l ++ b.value ∷ []) ≡ x = cc in
        next_same z (one_more l y.place j k b.first_is)
    by j (shut p) f = let z : Done l ≡ x = cc in next_same z k

  repeat_kept : (g : ℕ) (l : List XmlEntry) (n : ℕ) (s : List XmlEntry) (i : ℕ) → Kept l → repeat g (another_element bad d m) l n ≡ Is s i
      → Kept s
  unfolding repeat
  repeat_kept zero l n s i k f = never cc
  repeat_kept (suc g) l n s i k f =
      let b = bound (another_element bad d m l n) (turn (repeat g (another_element bad d m))) s i f in
      by b.place b.value (another_kept l n k b.first_is) b.then_is (λ y j. repeat_kept g y j s i) where
        by : (j : ℕ) (x : Next (List XmlEntry) (List XmlEntry)) → NextKept x → turn (repeat g (another_element bad d m)) x j ≡ Is s i
            → ((y : List XmlEntry) (j : ℕ) → Kept y → repeat g (another_element bad d m) y j ≡ Is s i → Kept s) → Kept s
        by j (Again y) k f ih = ih y j k f
        by j (Done y) k f ih = rw (← given_same f) k

  -- KEPT: all variables that were read
  pub variables_kept : (n : ℕ) {s : List XmlEntry} {i : ℕ} → variables bad d m n ≡ Is s i → Kept s
  unfolding variables
  variables_kept n {s} {i} f =
      let o = bound (within_element bad d RECORD n) _ s i f in
      let v = bound (due bad d VARIABLE o.value (variable bad d m []) o.place) _ s i o.then_is in
      let y = due_is bad d m VARIABLE o.value (variable bad d m []) o.place v.first_is in
      repeat_kept (suc most_rows) (v.value ∷ []) v.place s i (one_more [] y.place o.place kept_none y.then_is) v.then_is
