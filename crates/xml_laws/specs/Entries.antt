-- A VARIABLE THAT WAS READ IS FINE behind those before it: its numbers and texts, its values, its use and its filter.
use Rattle.std.specs.Prelude.{◌≡◌, Bool, not, ◌&&◌, ◌||◌, ℕ, ◌+◌, ◌-◌, ◌≤◌, ◌<◌, ltb, take, drop}
use Rattle.std.proofs.Math.Path.{refl, ap}
use Rattle.std.proofs.Common.{◌∙◌, sym}
use Rattle.std.proofs.Math.Bool.{true, false, cond}
use mathlib.Core.List.{List, [], ◌∷◌, ◌++◌}
use Rattle.std.proofs.Math.Option.{Option, none, some, get_or}
use native.Mathlib.Omega.{arith}
use Rattle.std.proofs.Math.Dec.{eqb}
use Rattle.std.proofs.Math.ListN.{length}
use borrow.Author.Tests.{eqb-true, eqb-false, ltb-false, leb-false, not-false}
use Rattle.below.specs.Below.{and_right}
use Rattle.layout.specs.rule.Layout.{most_rows}
use Rattle.spans.specs.rule.Heard.{heard}
use Rattle.spans.specs.rule.Says.{heard_word}
use Rattle.forms.specs.rule.Form.{use_of, serial, weight}
use Rattle.tags.specs.declared.Held.{Held}
use Rattle.tags.specs.declared.Tag.TheVariants as tag
use Rattle.tags.specs.rule.Tag.{tag_of, is_named}
use Rattle.tokens.specs.rule.Gap.{fault}
use Rattle.survey.specs.rule.Survey.{Figure, KeptText, Block, Spread, Content, single, multiple, quantity, character, logical}
use Rattle.survey.specs.rule.Survey.{Variable}
use Rattle.survey.specs.rule.Width.{some_of, each_of, block_in}
use Rattle.survey.specs.rule.Table.{type_of, lines_all, holds}
use Rattle.reading.specs.rule.Result.{Result, Is, Not, Reader, bind}
use Rattle.reading.specs.rule.Least.{◌when◌, judged}
use Rattle.reading.specs.rule.Statement.{Position}
use Rattle.reading.specs.rule.Variable.{ident_charges, room, variable_of, held}
use Rattle.bridge.specs.Contents.{Parts, bits}
use Rattle.bridge.specs.Lowest.{never, Clear, clear}
use Rattle.xml_reading.specs.rule.Word.{VARIABLE, NAME, LABEL, POSITION, FILTER, SPREAD, VALUES, SIZE, IDENT, TYPE, USE}
use Rattle.xml_reading.specs.rule.Open.{Open, start, shut, within_element, misplaced, either_element, due, over, unknown_at}
use Rattle.xml_reading.specs.rule.Element.{figure_of, text, position, spread, size}
use Rattle.xml_reading.specs.rule.Block.{rich, values}
use Rattle.xml_reading.specs.rule.Role.{XmlEntry, Title, variables_of, type_at, use_at, may_serve, use_wrong, same_name, count_named}
use Rattle.xml_reading.specs.rule.Role.{filter_from}
use Rattle.xml_reading.specs.rule.Role.{filter_of, has_served, title, naming, filter}
use Rattle.xml_reading.specs.rule.Variable.{Manner, Then, with, filtered, spreading, block, ended, content, variable}
use Rattle.elements.proofs.Bounds.{tag_within}
use Rattle.xml_bridge.specs.Settle.{Told, as_single, as_multiple, as_quantity, as_character, as_logical}
use Rattle.xml_bridge.specs.Good.{FineContent, fine_single, fine_multiple, fine_quantity, fine_character, fine_logical}
use Rattle.xml_bridge.specs.Good.{good_book}
use Rattle.xml_bridge.specs.Table.{Filters, FineEntry, FineEntries, entries_count, entries_few}
use Rattle.xml_bridge.specs.Table as table
use Rattle.xml_laws.specs.Reads.{judged_is, moved, clear_head, opened, bound, Lying, text_long, Positioned}
use Rattle.xml_laws.specs.Reads.{position_fine}
use Rattle.xml_laws.specs.Reads.{spread_fine, size_fine, within_long, misplaced_never}
use Rattle.xml_laws.specs.Parts.{after_content, after_filter, after_position, after_label, after_name, after_title, variable_is}
use Rattle.xml_laws.specs.Values.{Sofar, values_fine, good_values}

pub room_some : (p : Position) → p.start.value ≤ (get_or p.finish p.start).value → 1 ≤ room p
room_some p h = omega arith

pub room_few : (p : Position) → 1 ≤ p.start.value → (get_or p.finish p.start).value ≤ 16384 → room p ≤ 16384
room_few p h k = omega arith

module _ (bad : Bool) (d : List ℕ) where
  -- ---- a tag that is due
  pub record Due {A : Type 0} (w : List ℕ) (o : Open) (k : ℕ → Reader A) (n : ℕ) (a : A) (m : ℕ) : Type 0 where
    pub place : ℕ
    pub start_is : o ≡ start place
    pub then_is : k place n ≡ Is a m

  pub due_is : {A : Type 0} (w : List ℕ) (o : Open) (k : ℕ → Reader A) (n : ℕ) {a : A} {m : ℕ} → due bad d w o k n ≡ Is a m
      → Due w o k n a m
  due_is {A} w (start p) k n {a} {m} f = by (is_named d (p + 1) n w) f where
    by : (q : Bool) → cond q (k p n) (misplaced bad d {A = A} p n) ≡ Is a m → Due w (start p) k n a m
    by true f = record { place = p; start_is = refl; then_is = f }
    by false f = misplaced_never bad d p n f
  due_is w (shut p) k n f = never cc

  -- ---- the start tag
  pub record Titled (old : Bool) (l : List XmlEntry) (t : Title) (n : ℕ) : Type 0 where
    pub some : 1 ≤ t.ident.value
    pub digits : t.ident.digits ≤ 4
    pub fresh : some_of (λ v. eqb v.ident.value t.ident.value) (variables_of l) ≡ false
    pub left : length l < most_rows
    pub known : t.usage ≤ 2
    pub right : use_wrong l t.usage t.type ≡ false
    pub next : n ≤ length d
    -- its tag
    pub place : ℕ
    pub end : ℕ
    pub held : Held
    pub empty : Bool
    pub shut : ℕ
    pub behind : ℕ
    pub tag_is : tag_of bad d place end IDENT TYPE (cond old [] USE) 1 4 (cond old 0 5) 2 ≡ tag.Read held empty shut behind
    pub ident_is : t.ident ≡ figure_of d held.a held.ae

  use_known : (v e : ℕ) → use_at d v e ≤ 2
  unfolding use_at use_of
  use_known v e = by (eqb v 0) (heard_word serial (heard (take (e - v) (drop v d)) 0))
      (heard_word weight (heard (take (e - v) (drop v d)) 0))
    where
      by : (p q r : Bool) → cond p 0 (cond q 1 (cond r 2 0)) ≤ 2
      by true q r = omega arith
      by false true r = omega arith
      by false false true = omega arith
      by false false false = omega arith

  title_charged : (l : List XmlEntry) (x : Figure) (u c t : ℕ) (k : ℕ)
      → Clear (ident_charges (variables_of l) x ++ unknown_at k ∷ fault 52 c when use_wrong l u t ∷ [])
      → (1 ≤ x.value) × (x.digits ≤ 4) × (some_of (λ v. eqb v.ident.value x.value) (variables_of l) ≡ false) × (length l < most_rows)
      × (use_wrong l u t ≡ false)
  unfolding ident_charges
  title_charged l x u c t k (clear a (clear b (clear e (clear f (clear g (clear h r)))))) =
      (some_one x.value a, ltb-false 4 x.digits b, e, rw (entries_count l) at (leb-false most_rows (length (variables_of l)) f), h)
    where
      some_one : (n : ℕ) → eqb n 0 ≡ false → 1 ≤ n
      some_one n e = let z = eqb-false n 0 e in omega arith

  pub title_fine : (old : Bool) (l : List XmlEntry) (p e : ℕ) {t : Title} {n : ℕ} → title bad d old l p e ≡ Is t n → Titled old l t n
  unfolding title
  title_fine old l p e {t} {n} f =
      let o = opened bad d (tag_of bad d p e IDENT TYPE (cond old [] USE) 1 4 (cond old 0 5) 2) _ t n f in
      let h = o.held in
      let x = figure_of d h.a h.ae in
      let k = type_at d h.b h.be in
      let u = use_at d h.c h.ce in
      let c = ident_charges (variables_of l) x ++ unknown_at h.unknown ∷ fault 52 h.c when use_wrong l u k ∷ [] in
      let b = bound (judged c (record { ident = x; type = k; usage = u }) o.next) _ t n o.then_is in
      let j = judged_is c (record { ident = x; type = k; usage = u }) o.next b.first_is in
      let g = title_charged l x u h.c k h.unknown j.2 in
      let s = tag_within bad d p IDENT TYPE (cond old [] USE) 1 4 (cond old 0 5) 2 e h o.empty o.place o.next o.tag_is in
      let z = shut_is o.empty o.place b.value b.place b.then_is in
      moved (Titled old l) (j.0 ∙ z.0) (j.1 ∙ z.1) (record {
        some = g.0;
        digits = g.1;
        fresh = g.2;
        left = g.3;
        known = use_known h.c h.ce;
        right = g.4;
        next = s.2;
        place = p;
        end = e;
        held = h;
        empty = o.empty;
        shut = o.place;
        behind = o.next;
        tag_is = o.tag_is;
        ident_is = refl;
      })
    where
      shut_is : (em : Bool) (q : ℕ) (a : Title) (m : ℕ) → cond em (Not (fault 2 q)) (Is a m) ≡ Is t n → (a ≡ t) × (m ≡ n)
      shut_is true q a m f = never cc
      shut_is false q a m f = (cc, cc)

  -- ---- the filter
  -- the first logical with the name, from row i on
  pub record Logical (i : ℕ) (l : List XmlEntry) (m : ℕ) : Type 0 where
    pub front : List XmlEntry
    pub row : XmlEntry
    pub rest : List XmlEntry
    pub is : l ≡ front ++ row ∷ rest
    pub count : m ≡ i + length front + 1
    pub typed : type_of row.variable.content ≡ 5

  logical_from : (f : KeptText → Bool) (i : ℕ) (l : List XmlEntry) → eqb (filter_from f i l) 0 ≡ false → Logical i l (filter_from f i l)
  unfolding filter_from
  logical_from f i [] e = never cc
  logical_from f i (v ∷ l) e = by (f v.variable.name && eqb (type_of v.variable.content) 5) refl e (λ g. logical_from f (i + 1) l g)
    where
      by : (q : Bool) → (f v.variable.name && eqb (type_of v.variable.content) 5) ≡ q
          → eqb (cond q (i + 1) (filter_from f (i + 1) l)) 0
          ≡ false
          → (eqb (filter_from f (i + 1) l) 0 ≡ false → Logical (i + 1) l (filter_from f (i + 1) l))
          → Logical i (v ∷ l) (cond q (i + 1) (filter_from f (i + 1) l))
      by true g e ih = record {
        front = [];
        row = v;
        rest = l;
        is = refl;
        count = omega arith;
        typed = eqb-true (type_of v.variable.content) 5 (and_right (f v.variable.name) (eqb (type_of v.variable.content) 5) g);
      }
      by false g e ih =
          let o = ih e in
          record {
            front = v ∷ o.front;
            row = o.row;
            rest = o.rest;
            is = ap (λ (m : List XmlEntry). v ∷ m) o.is;
            count = o.count
                ∙ omega arith;
            typed = o.typed;
          }

  pub data Filter (l : List XmlEntry) (usage : ℕ) : ℕ → Type 0 where
    no_filter : Filter l usage 0
    one_filter : {f : ℕ} → usage ≡ 0 → Logical 0 l f → Filter l usage f

  module _ (latin standard : Bool) (l : List XmlEntry) (name : KeptText) (usage : ℕ) where
    filter_named : (t : KeptText) → eqb (filter_of latin standard d l name usage t) 0 ≡ false
        → Filter l usage (filter_of latin standard d l name usage t)
    unfolding filter_of
    filter_named t = by (eqb usage 0) (not (same_name latin standard d t name) && eqb (count_named (same_name latin standard d t) l) 1) refl
      where
        by : (p q : Bool) → eqb usage 0 ≡ p → eqb (cond (p && q) (filter_from (same_name latin standard d t) 0 l) 0) 0 ≡ false
            → Filter l usage (cond (p && q) (filter_from (same_name latin standard d t) 0 l) 0)
        by true true g e = one_filter (eqb-true usage 0 g) (logical_from (same_name latin standard d t) 0 l e)
        by true false g e = never cc
        by false q g e = never cc

    pub filter_fine : (p e : ℕ) {f n : ℕ} → filter bad d latin standard l name usage p e ≡ Is f n → Filter l usage f
    unfolding filter
    filter_fine p e {f} {n} g =
        let b = bound (text bad d FILTER 0 p e) _ f n g in
        let o = filter_of latin standard d l name usage b.value in
        let j = judged_is (fault 52 b.value.place when eqb o 0 ∷ []) o b.place b.then_is in
        moved (λ (x y : ℕ). Filter l usage x) j.0 j.1 (filter_named b.value (clear_head j.2))

  module _ (m : Manner) (l : List XmlEntry) where
    pub filtered_fine : (name : KeptText) (usage : ℕ) (o : Open) (e : ℕ) {x : Then ℕ} {n : ℕ} → 1 ≤ e → e ≤ length d
        → filtered bad d m l name usage o e ≡ Is x n → Filter l usage x.it × (1 ≤ n) × (n ≤ length d)
    unfolding filtered
    filtered_fine name usage o e {x} {n} g h f = by m.old o f where
      none_there : (o : Open) → Is (with 0 o) e ≡ Is x n → Filter l usage x.it × (1 ≤ n) × (n ≤ length d)
      none_there o f =
          let q : with 0 o ≡ x = cc in
          let r : e ≡ n = cc in
          moved (λ (x : Then ℕ) (n : ℕ). Filter l usage x.it × (1 ≤ n) × (n ≤ length d)) q r (no_filter, g, h)

      read : (p : ℕ) → bind (filter bad d m.latin m.standard l name usage p e)
          (λ f k. bind (within_element bad d VARIABLE k) λ o j. Is (with f o) j) ≡ Is x n
          → Filter l usage x.it × (1 ≤ n) × (n ≤ length d)
      read p f =
          let b = bound (filter bad d m.latin m.standard l name usage p e) _ x n f in
          let c = bound (within_element bad d VARIABLE b.place) _ x n b.then_is in
          let q : with b.value c.value ≡ x = cc in
          let r : c.place ≡ n = cc in
          moved (λ (x : Then ℕ) (n : ℕ). Filter l usage x.it × (1 ≤ n) × (n ≤ length d)) q r (
            filter_fine m.latin m.standard l name usage p e b.first_is,
            (within_long bad d VARIABLE b.place c.first_is).0,
            (within_long bad d VARIABLE b.place c.first_is).1,
          )

      by : (old : Bool) (o : Open)
          → cond old (λ n. Is (with 0 o) n)
          (either_element bad d FILTER o (λ p n. bind (filter bad d m.latin m.standard l name usage p n) λ f k. bind
          (within_element bad d VARIABLE k)
          λ o j. Is (with f o) j)
          (λ n. Is (with 0 o) n)) e ≡ Is x n
          → Filter l usage x.it × (1 ≤ n) × (n ≤ length d)
      by true o f = none_there o f
      by false (shut p) f = none_there (shut p) f
      by false (start p) f = on (is_named d (p + 1) e FILTER) f where
        on : (q : Bool) → cond q (bind (filter bad d m.latin m.standard l name usage p e)
            (λ f k. bind (within_element bad d VARIABLE k) λ o j. Is (with f o) j)) (Is (with 0 (start p)) e) ≡ Is x n
            → Filter l usage x.it × (1 ≤ n) × (n ≤ length d)
        on true f = read p f
        on false f = none_there (start p) f

  -- ---- by type, with the end tag of the variable
  over_is : {C : Type 0} (c : C) (o : Open) (k : ℕ) {x : C} {n : ℕ} → bind (over bad d o k) (λ a j. Is c j) ≡ Is x n → (c ≡ x) × (k ≡ n)
  over_is c (shut p) k f = (cc, cc)
  over_is {C} c (start p) k {x} {n} f = by (misplaced bad d {A = Unit} p k) refl f where
    by : (r : Result Unit) → misplaced bad d {A = Unit} p k ≡ r → bind r (λ a j. Is c j) ≡ Is x n → (c ≡ x) × (k ≡ n)
    by (Is a j) g f = misplaced_never bad d p k g
    by (Not z) g f = never cc

  ended_is : (m : Manner) (c : Content) (e : ℕ) {x : Content} {n : ℕ} → ended bad d m c e ≡ Is x n → (c ≡ x) × (n ≤ length d)
  ended_is m c e {x} {n} f =
      let b = bound (within_element bad d VARIABLE e) _ x n f in
      let o = over_is c b.value b.place b.then_is in
      (o.0, rw o.1 at (within_long bad d VARIABLE e b.first_is).1)

  -- a logical serves no use
  idle : (l : List XmlEntry) (u t : ℕ) → eqb t 3 ≡ false → eqb t 4 ≡ false → use_wrong l u t ≡ false → use_wrong l u 5 ≡ false
  unfolding use_wrong may_serve
  idle l u t a b e = by (ltb 0 u) (eqb u 1) (some_of (λ v. eqb v.usage u) l) (rw (a, b) at e) where
    by : (p q r : Bool) → (p && (not (false || (q && false)) || r)) ≡ false → (p && (not (false || (q && false)) || r)) ≡ false
    by p q r e = e

  pub record Contained (l : List XmlEntry) (u : ℕ) (p : Position) (before : ℕ) (c : Content) (n : ℕ) : Type 0 where
    pub subfields : ℕ
    pub subwidth : ℕ
    pub told : Told (room p) subfields subwidth c
    pub fine : FineContent before c
    pub right : use_wrong l u (type_of c) ≡ false
    pub plain : each_of (λ s. not s.special) (block_in c).lines ≡ true
    pub next : n ≤ length d

  module _ (long : length d ≤ 1048576) (m : Manner) (l : List XmlEntry) (u : ℕ) (p : Position) (before : ℕ) (low : before ≤ 4096)
      (some-room : 1 ≤ room p) (few-room : room p ≤ 16384) where
    block_fine : (q : Bool) (o : Open) (e : ℕ) {b : Block} {n : ℕ} → block bad d m q before o e ≡ Is b n → Sofar bad d long q before b n
    block_fine q o e f =
        let x = due_is VALUES o (values bad d m.languages q before) e f in
        values_fine bad d long m.languages q before low x.place e x.then_is

    pub record PartsFor (s : Option Spread) : Type 0 where
      pub count : ℕ
      pub width : ℕ
      pub parts : Parts (room p) count width s

    spreading_fine : (o : Open) (e : ℕ) {x : Then (Option Spread)} {n : ℕ} → spreading bad d m (room p) o e ≡ Is x n → PartsFor x.it
    unfolding spreading
    spreading_fine o e {x} {n} f = by o f where
      none_there : (o : Open) → Is (with none o) e ≡ Is x n → PartsFor x.it
      none_there o f =
          let q : with none o ≡ x = cc in
          let r : e ≡ n = cc in
          moved (λ (x : Then (Option Spread)) (n : ℕ). PartsFor x.it) q r (record { count = 0; width = 0; parts = bits })

      by : (o : Open) → either_element bad d SPREAD o
          (λ p' n. bind (spread bad d (room p) p' n) λ s k. bind (within_element bad d VARIABLE k) λ o j. Is
          (with (some s) o) j)
          (λ n. Is (with none o) n) e ≡ Is x n → PartsFor x.it
      by (shut q) f = none_there (shut q) f
      by (start q) f = on (is_named d (q + 1) e SPREAD) f where
        on : (t : Bool) → cond t (bind (spread bad d (room p) q e) λ s k. bind (within_element bad d VARIABLE k) λ o j. Is (with (some s) o)
            j)
            (Is (with none (start q)) e) ≡ Is x n
            → PartsFor x.it
        on false f = none_there (start q) f
        on true f =
            let b = bound (spread bad d (room p) q e) _ x n f in
            let c = bound (within_element bad d VARIABLE b.place) _ x n b.then_is in
            let z : with (some b.value) c.value ≡ x = cc in
            let r : c.place ≡ n = cc in
            let g = spread_fine bad d (room p) q e some-room few-room b.first_is in
            moved (λ (x : Then (Option Spread)) (n : ℕ). PartsFor x.it) z r (record { count = _; width = _; parts = g.parts })

    pub content_fine : (t : ℕ) (o : Open) (e : ℕ) {c : Content} {n : ℕ} → 1 ≤ e → e ≤ length d → use_wrong l u t ≡ false
        → content bad d m p before t o e ≡ Is c n → Contained l u p before c n
    unfolding content each_of
    content_fine t o e {c} {n} h k w f = by (eqb t 1) (eqb t 2) (eqb t 3) (eqb t 4) refl refl refl refl f where
      right : (j : ℕ) → eqb t j ≡ true → use_wrong l u j ≡ false
      right j g = rw (← eqb-true t j g) w

      one : bind (block bad d m false before o e) (λ b. ended bad d m (single b)) ≡ Is c n → eqb t 1 ≡ true → Contained l u p before c n
      one f g =
          let b = bound (block bad d m false before o e) _ c n f in
          let z = ended_is m (single b.value) b.place b.then_is in
          let s = block_fine false o e b.first_is in
          moved (Contained l u p before) z.0 refl
          (record {
            subfields = 0;
            subwidth = 0;
            told = as_single;
            fine = fine_single (good_values bad d long s);
            right = right 1 g;
            plain = s.plain;
            next = z.1;
          })

      two : bind (spreading bad d m (room p) o e)
          (λ s n. bind (block bad d m false before s.behind n) λ b. ended bad d m (multiple s.it b)) ≡ Is c n → eqb t 2 ≡ true
          → Contained l u p before c n
      two f g =
          let a = bound (spreading bad d m (room p) o e) _ c n f in
          let b = bound (block bad d m false before a.value.behind a.place) _ c n a.then_is in
          let z = ended_is m (multiple a.value.it b.value) b.place b.then_is in
          let s = block_fine false a.value.behind a.place b.first_is in
          let y = spreading_fine o e a.first_is in
          moved (Contained l u p before) z.0 refl
          (record {
            subfields = y.count;
            subwidth = y.width;
            told = as_multiple y.parts;
            fine = fine_multiple
                (good_values bad d long s);
            right = right 2 g;
            plain = s.plain;
            next = z.1;
          })

      three : bind (block bad d m true before o e) (λ b. ended bad d m (quantity b)) ≡ Is c n → eqb t 3 ≡ true → Contained l u p before c n
      three f g =
          let b = bound (block bad d m true before o e) _ c n f in
          let z = ended_is m (quantity b.value) b.place b.then_is in
          let s = block_fine true o e b.first_is in
          moved (Contained l u p before) z.0 refl
          (record {
            subfields = 0;
            subwidth = 0;
            told = as_quantity;
            fine = fine_quantity (good_values bad d long s);
            right = right 3 g;
            plain = s.plain;
            next = z.1;
          })

      four : bind (due bad d SIZE o (size bad d) e) (λ x. ended bad d m (character x)) ≡ Is c n → eqb t 4 ≡ true
          → Contained l u p before c n
      four f g =
          let b = bound (due bad d SIZE o (size bad d) e) _ c n f in
          let z = ended_is m (character b.value) b.place b.then_is in
          let x = due_is SIZE o (size bad d) e b.first_is in
          let s = size_fine bad d x.place e h x.then_is in
          moved (Contained l u p before) z.0 refl
          (record {
            subfields = 0;
            subwidth = 0;
            told = as_character;
            fine = fine_character s.some s.few;
            right = right 4 g;
            plain = refl;
            next = z.1;
          })

      five : bind (over bad d o e) (λ a j. Is logical j) ≡ Is c n → eqb t 3 ≡ false → eqb t 4 ≡ false → Contained l u p before c n
      five f a b =
          let z = over_is logical o e f in
          moved (Contained l u p before) z.0 z.1
          (record { subfields = 0; subwidth = 0; told = as_logical; fine = fine_logical; right = idle l u t a b w; plain = refl; next = k })

      by : (q r s z : Bool) → eqb t 1 ≡ q → eqb t 2 ≡ r → eqb t 3 ≡ s → eqb t 4 ≡ z
          → cond {A = Reader Content} q (λ e. bind (block bad d m false before o e) λ b. ended bad d m (single b))
          (cond r (λ e. bind (spreading bad d m (room p) o e) λ s n. bind (block bad d m false before s.behind n) λ b. ended bad d m
          (multiple s.it b))
          (cond s (λ e. bind (block bad d m true before o e) λ b. ended bad d m (quantity b))
          (cond z (λ e. bind (due bad d SIZE o (size bad d) e) λ x. ended bad d m (character x))
          (λ e. bind (over bad d o e) λ a j. Is logical j)))) e ≡ Is c n
          → Contained l u p before c n
      by true r s z a b x y f = one f a
      by false true s z a b x y f = two f b
      by false false true z a b x y f = three f x
      by false false false true a b x y f = four f y
      by false false false false a b x y f = five f x y

  -- ---- THE WHOLE VARIABLE
  held_is : (v : Variable) (n : ℕ) {w : Variable} {m : ℕ} → held v n ≡ Is w m → (v ≡ w) × (n ≡ m) × (holds v ≡ true)
  held_is v n f =
      let j = judged_is (fault 7 v.start.place when not (holds v) ∷ []) v n f in
      (j.0, j.1, not-false (holds v) (clear_head j.2))

  -- a text that was read lies within the file
  pub record Read (l : List XmlEntry) (v : XmlEntry) (n : ℕ) : Type 0 where
    pub fine : FineEntry l v
    pub name : v.variable.name.place + v.variable.name.length ≤ length d
    pub next : n ≤ length d

  module _ (long : length d ≤ 1048576) (m : Manner) (l : List XmlEntry) (g : FineEntries l)
      (few : (p e : ℕ) (t : Title) (n : ℕ) → title bad d m.old l p e ≡ Is t n → t.ident.value < 10000) where
    abbrev before : ℕ
    before = lines_all (variables_of l)

    naming_long : (p e : ℕ) {t : KeptText} {n : ℕ} → naming bad d m.latin m.standard l p e ≡ Is t n → Lying bad d t n
    unfolding naming
    naming_long p e {t} {n} f =
        let b = bound (text bad d NAME 0 p e) _ t n f in
        let j = judged_is (fault 52 b.value.place when has_served m.latin m.standard d l b.value ∷ []) b.value b.place
        b.then_is in
        moved (Lying bad d) j.0 j.1 (text_long bad d NAME 0 p e b.first_is)

    filters_of : {u f : ℕ} (v : XmlEntry) → v.usage ≡ u → v.filter ≡ f → Filter l u f → Filters l v
    filters_of v a b no_filter = table.unfiltered b
    filters_of v a b (one_filter e x) = table.filtered x.front x.rest x.row (a ∙ e) x.is (b ∙ x.count ∙ omega arith) x.typed

    module _ (t : Title) (n₀ : ℕ) (tf : Titled m.old l t n₀) (short : t.ident.value < 10000) where
      module _ (name label : KeptText) (p : Position) (n₁ : ℕ) (nb : name.place + name.length ≤ length d)
          (lb : label.place + label.length ≤ length d)
          (pf : Positioned bad d p n₁) where
        fine_made : (f : ℕ) (c : Content) {j : ℕ} → holds (variable_of t.ident name label p c) ≡ true → Filter l t.usage f
            → Contained l t.usage p before c j
            → FineEntry l (record { variable = variable_of t.ident name label p c; usage = t.usage; filter = f })
        fine_made f c h flt cf = record {
          good = good_book before cf.subfields cf.subwidth (variable_of t.ident name label p c) (entries_few g).1 (record {
            texts = record {
              name = omega (arith, nb, long);
              name_len = omega (arith, nb, long);
              label = omega (arith, lb, long);
              label_len = omega (arith, lb, long);
            };
            ident_some = tf.some;
            ident_short = omega (arith, short);
            from_one = pf.from_one;
            ordered = pf.ordered;
            low = pf.low;
            told = cf.told;
            content = cf.fine;
          }) h;
          fresh = tf.fresh;
          left = tf.left;
          known = tf.known;
          right = cf.right;
          filters = filters_of (record { variable = variable_of t.ident name label p c; usage = t.usage; filter = f }) refl refl flt;
          plain = cf.plain;
        }

        content_read : (f : ℕ) (c : Content) (e : ℕ) {v : XmlEntry} {n : ℕ} → Filter l t.usage f → Contained l t.usage p before c e
            → after_content bad d m l t name label p f c e ≡ Is v n → Read l v n
        unfolding after_content
        content_read f c e {v} {n} flt cf z =
            let x = bound (held (variable_of t.ident name label p c) e) _ v n z in
            let hh = held_is (variable_of t.ident name label p c) e x.first_is in
            let q : record { variable = x.value; usage = t.usage; filter = f } ≡ v = cc in
            let r : x.place ≡ n = cc in
            moved (Read l) (ap (λ (y : Variable). record { variable = y; usage = t.usage; filter = f }) hh.0 ∙ q) (hh.1 ∙ r)
            (record { fine = fine_made f c hh.2 flt cf; name = nb; next = cf.next })

        position_read : (e : ℕ) {v : XmlEntry} {n : ℕ} → after_position bad d m l t name label p e ≡ Is v n → Read l v n
        unfolding after_position after_filter
        position_read e {v} {n} z =
            let r = bound (within_element bad d VARIABLE e) _ v n z in
            let s = bound (filtered bad d m l name t.usage r.value r.place) _ v n r.then_is in
            let w = bound (content bad d m p before t.type s.value.behind s.place) _ v n s.then_is in
            let rr = within_long bad d VARIABLE e r.first_is in
            let ff = filtered_fine m l name t.usage r.value r.place rr.0 rr.1 s.first_is in
            let cf = content_fine long m l t.usage p before (entries_few g).1 (room_some p pf.ordered)
            (room_few p pf.from_one pf.low) t.type
            s.value.behind s.place ff.1 ff.2 tf.right w.first_is in
            content_read s.value.it w.value w.place ff.0 cf w.then_is

      label_read : (name label : KeptText) (e : ℕ) {v : XmlEntry} {n : ℕ} → name.place + name.length ≤ length d → label.place
          + label.length
          ≤ length d
          → after_label bad d m l t name label e ≡ Is v n → Read l v n
      unfolding after_label
      label_read name label e {v} {n} nb lb z =
          let k = bound (within_element bad d VARIABLE e) _ v n z in
          let o = bound (due bad d POSITION k.value (position bad d) k.place) _ v n k.then_is in
          let pp = due_is POSITION k.value (position bad d) k.place o.first_is in
          position_read name label o.value o.place nb lb (position_fine bad d pp.place k.place pp.then_is) o.place
          o.then_is

      name_read : (name : KeptText) (e : ℕ) {v : XmlEntry} {n : ℕ} → name.place + name.length ≤ length d → after_name bad d m l t name e
          ≡ Is v n
          → Read l v n
      unfolding after_name
      name_read name e {v} {n} nb z =
          let k = bound (within_element bad d VARIABLE e) _ v n z in
          let o = bound (due bad d LABEL k.value (text bad d LABEL (rich m.languages)) k.place) _ v n k.then_is in
          let pp = due_is LABEL k.value (text bad d LABEL (rich m.languages)) k.place o.first_is in
          label_read name o.value o.place nb
          (text_long bad d LABEL (rich m.languages) pp.place k.place pp.then_is).inside o.then_is

      title_read : (e : ℕ) {v : XmlEntry} {n : ℕ} → after_title bad d m l t e ≡ Is v n → Read l v n
      unfolding after_title
      title_read e {v} {n} z =
          let k = bound (within_element bad d VARIABLE e) _ v n z in
          let o = bound (due bad d NAME k.value (naming bad d m.latin m.standard l) k.place) _ v n k.then_is in
          let pp = due_is NAME k.value (naming bad d m.latin m.standard l) k.place o.first_is in
          name_read o.value o.place (naming_long pp.place k.place pp.then_is).inside o.then_is

    pub entry_read : (q e : ℕ) {v : XmlEntry} {n : ℕ} → variable bad d m l q e ≡ Is v n → Read l v n
    entry_read q e {v} {n} f =
        let a = bound (title bad d m.old l q e) (after_title bad d m l) v n (sym (variable_is bad d m l q e) ∙ f) in
        title_read a.value a.place (title_fine m.old l q e a.first_is) (few q e a.value a.place a.first_is) a.place
        a.then_is
