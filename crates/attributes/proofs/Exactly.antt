-- An attribute, in XML's words: white space, a name, white space or none, =, white space or none, a value in either quotes.
use mathlib.Core.Path.{◌≡◌, refl}
use mathlib.Core.Logic.{◌↔◌, ◌⊎◌, inl, inr, ⊎_elim}
use mathlib.Core.Bool.{Bool, true, false, cond, ◌||◌}
use mathlib.Core.List.{List, ◌++◌}
use Prim.Native.Nat.{ℕ, ◌+◌, ◌<◌}
use native.Mathlib.Omega.{arith}
use lib.Dec.{leb, eqb}
use lib.ListN.{length, drop, get_or}
use borrow.Author.Tests.{eq-eqb, ne_eqb, eqb-true, eqb-false, lt-leb, leb-false}
use Rattle.below.specs.Below.{either_true, holds_not}
use Rattle.utf.proofs.Strides.{apart}
use Rattle.markup.specs.rule.Bytes.{is_white, is_name, is_digit, starts_name, of_kind, end_fault}
use Rattle.markup.specs.rule.Grammar.{Each, no_more, each}
use Rattle.markup.specs.declared.Skip.{Skip}
use Rattle.markup.specs.declared.Skip.TheVariants.{Past, Broken}
use Rattle.markup.proofs.Runs.{first_at, run_long}
use Rattle.markup.proofs.Stretches.{Stretch, run_stretch, stretch_run}
use Rattle.attributes.specs.rule.Attribute.{quoted_of, run_at, on_quoted, valued_of, equals_of, named_of, slash_of, behind_of, attribute_of}
use Rattle.attributes.specs.declared.Attribute.TheVariants.{One, Shut, Faulty}
use Rattle.attributes.proofs.Values.{Quoted, quoted_sound, value_exactly}
use Rattle.attributes.proofs.Places.{slash_one}

-- the attribute behind `at`: its name from n to e, its value from v to k
pub record Attributed (d : List ℕ) (at n e v k next : ℕ) : Type 0 where
  pub equals : ℕ
  pub quote : ℕ
  pub spaced : at < n
  pub before : Stretch (of_kind 0) d at n
  pub starts : starts_name (get_or d n 0) ≡ true
  pub name : Stretch (of_kind 1) d n e
  pub gap : Stretch (of_kind 0) d e equals
  pub there : equals < length d
  pub sign : get_or d equals 0 ≡ 61
  pub gap_2 : Stretch (of_kind 0) d (equals + 1) quote
  pub inside : quote < length d
  pub quotes : (get_or d quote 0 ≡ 34) ⊎ (get_or d quote 0 ≡ 39)
  pub value : Quoted (get_or d quote 0) d v k
  pub place : v ≡ quote + 1
  pub behind : next ≡ k + 1

-- ---- bytes of one kind are none of another
pub white_is : (b : ℕ) → is_white b ≡ true → (b ≡ 32) ⊎ ((b ≡ 10) ⊎ ((b ≡ 13) ⊎ (b ≡ 9)))
unfolding is_white
white_is b e =
    ⊎_elim (λ x. inl (eqb-true b 32 x))
    (λ x. inr (⊎_elim (λ y. inl (eqb-true b 10 y))
    (λ y. inr (⊎_elim (λ z. inl (eqb-true b 13 z)) (λ z. inr (eqb-true b 9 z)) (either_true (eqb b 13) (eqb b 9) y)))
    (either_true (eqb b 10) (eqb b 13 || eqb b 9) x)))
    (either_true (eqb b 32) (eqb b 10 || (eqb b 13 || eqb b 9)) e)

pub white_no_name : (b : ℕ) → is_white b ≡ true → is_name b ≡ false
unfolding is_name starts_name is_digit
white_no_name b e = ⊎_elim (λ x. rw x) (⊎_elim (λ x. rw x) (⊎_elim (λ x. rw x) (λ x. rw x))) (white_is b e)

pub name_no_white : (b : ℕ) → starts_name b ≡ true → of_kind 0 b ≡ false
unfolding of_kind is_name
name_no_white b e = by (is_white b) refl where
  or_left : (x y : Bool) → x ≡ true → (x || y) ≡ false → ⊥
  or_left x y f g = holds_not f (go x y f g) where
    go : (x y : Bool) → x ≡ true → (x || y) ≡ false → x ≡ false
    go true y f g = g
    go false y f g = refl

  by : (q : Bool) → is_white b ≡ q → is_white b ≡ false
  by false f = f
  by true f = absurd (or_left (starts_name b) (is_digit b || (eqb b 45 || eqb b 46)) e (white_no_name b f))

-- behind a name white space or = stands, neither of them a name's
pub gap_first : (d : List ℕ) (e m : ℕ) → Stretch (of_kind 0) d e m → m < length d → get_or d m 0 ≡ 61 → (of_kind 1 (get_or d e 0) ≡ false)
    × (e < length d)
unfolding of_kind is_name starts_name is_digit
gap_first d e m s l g = by s.passes s.split s.place where
  by : {u : List ℕ} → Each (of_kind 0) u → drop e d ≡ u ++ drop m d → m ≡ e + length u → (of_kind 1 (get_or d e 0) ≡ false) × (e < length d)
  by no_more h k = let i : e ≡ m = omega arith in (rw (i, g), omega arith)
  by (each {b} {s = t} w r) h k = let i = first_at d e b (t ++ drop m d) h in (rw i.1 (white_no_name b w), i.0)

-- ---- sound
module _ (bad : Bool) (d : List ℕ) (opened : ℕ) where
  record ValueIs (w v k next : ℕ) : Type 0 where
    pub inside : w < length d
    pub quotes : (get_or d w 0 ≡ 34) ⊎ (get_or d w 0 ≡ 39)
    pub quoted : Quoted (get_or d w 0) d v k
    pub place : v ≡ w + 1
    pub behind : next ≡ k + 1

  value_is : (n e w : ℕ) {n' e' v k next : ℕ} → valued_of bad d opened n e w ≡ One n' e' v k next → (n' ≡ n) × (e' ≡ e) × ValueIs w v k next
  unfolding valued_of
  value_is n e w {n'} {e'} {v} {k} {next} f = by (leb (length d) w) (eqb (get_or d w 0) 34 || eqb (get_or d w 0) 39) refl refl f where
    on : (r : Skip) → quoted_of bad opened (get_or d w 0) d (w + 1) ≡ r → w < length d → (eqb (get_or d w 0) 34 || eqb (get_or d w 0) 39)
        ≡ true
        → on_quoted n e (w + 1) r ≡ One n' e' v k next → (n' ≡ n) × (e' ≡ e) × ValueIs w v k next
    on (Past j) g h q f =
        let i : v ≡ w + 1 = cc in
        let l : j ≡ k = cc in
        let x = quoted_sound bad opened (get_or d w 0) d (w + 1) j g in (
          cc,
          cc,
          record {
            inside = h;
            quotes = ⊎_elim (λ y. inl (eqb-true (get_or d w 0) 34 y)) (λ y. inr (eqb-true (get_or d w 0) 39 y))
                (either_true (eqb (get_or d w 0) 34) (eqb (get_or d w 0) 39) q);
            quoted = rw (i, ← l) x;
            place = i;
            behind = cc;
          },
        )
    on (Broken p) g h q f = let z : ◌≡◌ {A = ℕ} 0 1 = cc in absurd (omega arith)

    by : (x y : Bool) → leb (length d) w ≡ x → (eqb (get_or d w 0) 34 || eqb (get_or d w 0) 39) ≡ y
        → cond x (Faulty (end_fault bad w opened))
        (cond y (on_quoted n e (w + 1) (quoted_of bad opened (get_or d w 0) d (w + 1))) (Faulty w))
        ≡ One n' e' v k next
        → (n' ≡ n) × (e' ≡ e) × ValueIs w v k next
    by true y g h f = let z : ◌≡◌ {A = ℕ} 0 1 = cc in absurd (omega arith)
    by false true g h f = on (quoted_of bad opened (get_or d w 0) d (w + 1)) refl (leb-false (length d) w g) h f
    by false false g h f = let z : ◌≡◌ {A = ℕ} 0 1 = cc in absurd (omega arith)

  equals_is : (n e m : ℕ) {n' e' v k next : ℕ} → equals_of bad d opened n e m ≡ One n' e' v k next → (n' ≡ n) × (e' ≡ e) × (m < length d)
      × (get_or d m 0 ≡ 61) × ValueIs (run_at 0 d (m + 1)) v k next
  unfolding equals_of
  equals_is n e m {n'} {e'} {v} {k} {next} f = by (leb (length d) m) (eqb (get_or d m 0) 61) refl refl f where
    by : (x y : Bool) → leb (length d) m ≡ x → eqb (get_or d m 0) 61 ≡ y
        → cond x (Faulty (end_fault bad m opened)) (cond y (valued_of bad d opened n e (run_at 0 d (m + 1))) (Faulty m))
        ≡ One n' e' v k next
        → (n' ≡ n) × (e' ≡ e) × (m < length d) × (get_or d m 0 ≡ 61) × ValueIs (run_at 0 d (m + 1)) v k next
    by true y g h f = let z : ◌≡◌ {A = ℕ} 0 1 = cc in absurd (omega arith)
    by false true g h f = let r = value_is n e (run_at 0 d (m + 1))
        f in (r.0, r.1, leb-false (length d) m g, eqb-true (get_or d m 0) 61 h, r.2)
    by false false g h f = let z : ◌≡◌ {A = ℕ} 0 1 = cc in absurd (omega arith)

  named_is : (at n : ℕ) {n' e v k next : ℕ} → at < n → n ≡ run_at 0 d at → starts_name (get_or d n 0) ≡ true → named_of bad d opened n
      ≡ One n' e v k next → Attributed d at n' e v k next
  unfolding named_of
  named_is at n {n'} {e} {v} {k} {next} h i s f =
      let r = equals_is n (run_at 1 d n) (run_at 0 d (run_at 1 d n)) f in
      let a = r.0 in
      let b = r.1 in
      let x = r.4 in
      record {
        equals = run_at 0 d (run_at 1 d n);
        quote = run_at 0 d (run_at 0 d (run_at 1 d n) + 1);
        spaced = rw a h;
        before = rw (a, i) (run_stretch (of_kind 0) d at);
        starts = rw a s;
        name = rw (a, b) (run_stretch (of_kind 1) d n);
        gap = rw b (run_stretch (of_kind 0) d (run_at 1 d n));
        there = r.2;
        sign = r.3;
        gap_2 = run_stretch (of_kind 0) d (run_at 0 d (run_at 1 d n) + 1);
        inside = x.inside;
        quotes = x.quotes;
        value = x.quoted;
        place = x.place;
        behind = x.behind;
      }

  attribute_sound : (at : ℕ) {n e v k next : ℕ} → attribute_of bad d opened at ≡ One n e v k next → Attributed d at n e v k next
  unfolding attribute_of behind_of
  attribute_sound at {n} {e} {v} {k} {next} f =
      by (leb (length d) (run_at 0 d at)) (eqb (get_or d (run_at 0 d at) 0) 62) (eqb (get_or d (run_at 0 d at) 0) 47)
      (eqb (run_at 0 d at) at)
      (starts_name (get_or d (run_at 0 d at) 0)) refl refl f where
        spaced : eqb (run_at 0 d at) at ≡ false → at < run_at 0 d at
        spaced g = apart at (run_at 0 d at) (omega (arith, run_long (of_kind 0) at (drop at d))) (eqb-false (run_at 0 d at) at g)

        by : (p q r s t : Bool) → eqb (run_at 0 d at) at ≡ s → starts_name (get_or d (run_at 0 d at) 0) ≡ t
            → cond p (Faulty (end_fault bad (run_at 0 d at) opened))
            (cond q (Shut false (run_at 0 d at) (run_at 0 d at + 1))
            (cond r (slash_of bad d opened (run_at 0 d at))
            (cond s (Faulty (run_at 0 d at)) (cond t (named_of bad d opened (run_at 0 d at)) (Faulty (run_at 0 d at)))))) ≡ One n e v k next
            → Attributed d at n e v k next
        by true q r s t g h f = let z : ◌≡◌ {A = ℕ} 0 1 = cc in absurd (omega arith)
        by false true r s t g h f = let z : ◌≡◌ {A = ℕ} 0 1 = cc in absurd (omega arith)
        by false false true s t g h f = absurd (slash_one bad d opened (run_at 0 d at) f)
        by false false false true t g h f = let z : ◌≡◌ {A = ℕ} 0 1 = cc in absurd (omega arith)
        by false false false false true g h f = named_is at (run_at 0 d at) (spaced g) refl h f
        by false false false false false g h f = let z : ◌≡◌ {A = ℕ} 0 1 = cc in absurd (omega arith)

  -- ---- complete
  no_end : (b : ℕ) → starts_name b ≡ true → (b ≡ 62 → ⊥) × (b ≡ 47 → ⊥)
  unfolding starts_name
  no_end b e = (λ x. holds_not e (rw x), λ x. holds_not e (rw x))

  quote_yes : (b : ℕ) → (b ≡ 34) ⊎ (b ≡ 39) → (eqb b 34 || eqb b 39) ≡ true
  quote_yes b = ⊎_elim (λ x. rw x) (λ x. rw x)

  quote_no_white : (b : ℕ) → (b ≡ 34) ⊎ (b ≡ 39) → of_kind 0 b ≡ false
  unfolding of_kind is_white
  quote_no_white b = ⊎_elim (λ x. rw x) (λ x. rw x)

  quote_no_and : (b : ℕ) → (b ≡ 34) ⊎ (b ≡ 39) → b ≡ 38 → ⊥
  quote_no_and b = ⊎_elim (λ x y. omega arith) (λ x y. omega arith)

  equals_no_white : (b : ℕ) → b ≡ 61 → of_kind 0 b ≡ false
  unfolding of_kind is_white
  equals_no_white b e = rw e

  attribute_complete : (at : ℕ) {n e v k next : ℕ} → Attributed d at n e v k next → attribute_of bad d opened at ≡ One n e v k next
  unfolding attribute_of behind_of named_of equals_of valued_of
  attribute_complete at {n} {e} {v} {k} {next} a =
      let m = a.equals in
      let w = a.quote in
      let i = a.name.place in
      let j = a.gap.place in
      let t = a.there in
      let h : n < length d = omega arith in
      let g = gap_first d e m a.gap a.there a.sign in
      let r0 : run_at 0 d at ≡ n = stretch_run (of_kind 0) d at n a.before (name_no_white (get_or d n 0) a.starts) h in
      let r1 : run_at 1 d n ≡ e = stretch_run (of_kind 1) d n e a.name g.0 g.1 in
      let r2 : run_at 0 d e ≡ m = stretch_run (of_kind 0) d e m a.gap (equals_no_white (get_or d m 0) a.sign) a.there in
      let r3 : run_at 0 d (m + 1) ≡ w = stretch_run (of_kind 0) d (m + 1) w a.gap_2 (quote_no_white (get_or d w 0) a.quotes)
      a.inside in
      let p = a.place in
      let q : quoted_of bad opened (get_or d w 0) d (w + 1) ≡ Past k =
      (value_exactly bad opened (get_or d w 0) d (w + 1) k (quote_no_and (get_or d w 0) a.quotes)).1 (rw (← p) a.value) in
      let s = a.spaced in
      let o = no_end (get_or d n 0) a.starts in
      rw (
        r0,
        lt-leb (length d) n h,
        ne_eqb (get_or d n 0) 62 o.0,
        ne_eqb (get_or d n 0) 47 o.1,
        ne_eqb n at (λ x. omega arith),
        a.starts,
      )
      (rw (r1, r2, lt-leb (length d) m t, eq-eqb (get_or d m 0) 61 a.sign)
      (rw (r3, lt-leb (length d) w a.inside, quote_yes (get_or d w 0) a.quotes, q, p, a.behind)))

-- ATTRIBUTE: one is read with these places exactly when it stands there in XML's form
pub attribute_exactly : (bad : Bool) (d : List ℕ) (opened at : ℕ) {n e v k next : ℕ}
    → (attribute_of bad d opened at ≡ One n e v k next) ↔ Attributed d at n e v k next
attribute_exactly bad d opened at = (attribute_sound bad d opened at, attribute_complete bad d opened at)

-- ---- the tag's end
-- behind `at` white space or none, then > or />, and the place after it
pub data Ended (d : List ℕ) (at : ℕ) : Bool → ℕ → ℕ → Type 0 where
  plain : {p : ℕ} → Stretch (of_kind 0) d at p → p < length d → get_or d p 0 ≡ 62 → Ended d at false p (p + 1)
  empty : {p : ℕ} → Stretch (of_kind 0) d at p → p + 1 < length d → get_or d p 0 ≡ 47 → get_or d (p + 1) 0 ≡ 62 → Ended d at true p (p + 2)

module _ (bad : Bool) (d : List ℕ) (opened : ℕ) where
  -- an attribute is no end
  valued_no : (n e w : ℕ) {em : Bool} {p next : ℕ} → valued_of bad d opened n e w ≡ Shut em p next → ⊥
  unfolding valued_of
  valued_no n e w {em} {p} {next} f = by (leb (length d) w) (eqb (get_or d w 0) 34 || eqb (get_or d w 0) 39) f where
    on : (r : Skip) → on_quoted n e (w + 1) r ≡ Shut em p next → ⊥
    on (Past k) f = let z : ◌≡◌ {A = ℕ} 0 1 = cc in omega arith
    on (Broken q) f = let z : ◌≡◌ {A = ℕ} 0 1 = cc in omega arith

    by : (x y : Bool) → cond x (Faulty (end_fault bad w opened))
        (cond y (on_quoted n e (w + 1) (quoted_of bad opened (get_or d w 0) d (w + 1))) (Faulty w)) ≡ Shut em p next → ⊥
    by true y f = let z : ◌≡◌ {A = ℕ} 0 1 = cc in omega arith
    by false true f = on (quoted_of bad opened (get_or d w 0) d (w + 1)) f
    by false false f = let z : ◌≡◌ {A = ℕ} 0 1 = cc in omega arith

  named_no : (n : ℕ) {em : Bool} {p next : ℕ} → named_of bad d opened n ≡ Shut em p next → ⊥
  unfolding named_of equals_of
  named_no n {em} {p} {next} f = by (leb (length d) m) (eqb (get_or d m 0) 61) f where
    m : ℕ
    m = run_at 0 d (run_at 1 d n)

    by : (x y : Bool) → cond x (Faulty (end_fault bad m opened))
        (cond y (valued_of bad d opened n (run_at 1 d n) (run_at 0 d (m + 1))) (Faulty m)) ≡ Shut em p next → ⊥
    by true y f = let z : ◌≡◌ {A = ℕ} 0 1 = cc in omega arith
    by false true f = valued_no n (run_at 1 d n) (run_at 0 d (m + 1)) f
    by false false f = let z : ◌≡◌ {A = ℕ} 0 1 = cc in omega arith

  slash_is : (at n : ℕ) {em : Bool} {p next : ℕ} → Stretch (of_kind 0) d at n → get_or d n 0 ≡ 47 → slash_of bad d opened n ≡ Shut em p next
      → Ended d at em p next
  unfolding slash_of
  slash_is at n {em} {p} {next} s g f = by (leb (length d) (n + 1)) (eqb (get_or d (n + 1) 0) 62) refl refl f where
    by : (x y : Bool) → leb (length d) (n + 1) ≡ x → eqb (get_or d (n + 1) 0) 62 ≡ y
        → cond x (Faulty (end_fault bad n opened)) (cond y (Shut true n (n + 2)) (Faulty n)) ≡ Shut em p next → Ended d at em p next
    by true y h i f = let z : ◌≡◌ {A = ℕ} 0 1 = cc in absurd (omega arith)
    by false true h i f =
        let a : true ≡ em = cc in
        let b : n ≡ p = cc in
        let c : n + 2 ≡ next = cc in
        rw (← a, ← b, ← c) (empty s (leb-false (length d) (n + 1) h) g (eqb-true (get_or d (n + 1) 0) 62 i))
    by false false h i f = let z : ◌≡◌ {A = ℕ} 0 1 = cc in absurd (omega arith)

  shut_sound : (at : ℕ) {em : Bool} {p next : ℕ} → attribute_of bad d opened at ≡ Shut em p next → Ended d at em p next
  unfolding attribute_of behind_of
  shut_sound at {em} {p} {next} f =
      by (leb (length d) n) (eqb (get_or d n 0) 62) (eqb (get_or d n 0) 47) (eqb n at) (starts_name (get_or d n 0)) refl refl refl f where
        n : ℕ
        n = run_at 0 d at

        by : (a b c e t : Bool) → leb (length d) n ≡ a → eqb (get_or d n 0) 62 ≡ b → eqb (get_or d n 0) 47 ≡ c
            → cond a (Faulty (end_fault bad n opened))
            (cond b (Shut false n (n + 1)) (cond c (slash_of bad d opened n)
            (cond e (Faulty n) (cond t (named_of bad d opened n) (Faulty n))))) ≡ Shut em p next
            → Ended d at em p next
        by true b c e t h i j f = let z : ◌≡◌ {A = ℕ} 0 1 = cc in absurd (omega arith)
        by false true c e t h i j f =
            let x : false ≡ em = cc in
            let y : n ≡ p = cc in
            let w : n + 1 ≡ next = cc in
            rw (← x, ← y, ← w) (plain (run_stretch (of_kind 0) d at) (leb-false (length d) n h) (eqb-true (get_or d n 0) 62 i))
        by false false true e t h i j f = slash_is at n (run_stretch (of_kind 0) d at) (eqb-true (get_or d n 0) 47 j) f
        by false false false true t h i j f = let z : ◌≡◌ {A = ℕ} 0 1 = cc in absurd (omega arith)
        by false false false false true h i j f = absurd (named_no n f)
        by false false false false false h i j f = let z : ◌≡◌ {A = ℕ} 0 1 = cc in absurd (omega arith)

  mark_no_white : (b : ℕ) → (b ≡ 62) ⊎ (b ≡ 47) → of_kind 0 b ≡ false
  unfolding of_kind is_white
  mark_no_white b = ⊎_elim (λ x. rw x) (λ x. rw x)

  shut_complete : (at : ℕ) {em : Bool} {p next : ℕ} → Ended d at em p next → attribute_of bad d opened at ≡ Shut em p next
  unfolding attribute_of behind_of slash_of
  shut_complete at (plain {p} s h g) =
      let r : run_at 0 d at ≡ p = stretch_run (of_kind 0) d at p s (mark_no_white (get_or d p 0) (inl g)) h in
      rw (r, lt-leb (length d) p h, g)
  shut_complete at (empty {p} s h g k) =
      let l : p < length d = omega arith in
      let r : run_at 0 d at ≡ p = stretch_run (of_kind 0) d at p s (mark_no_white (get_or d p 0) (inr g)) l in
      rw (r, lt-leb (length d) p l, g, lt-leb (length d) (p + 1) h, eq-eqb (get_or d (p + 1) 0) 62 k)

-- SHUT: a tag is read as ending exactly where white space or none and > or /> stand
pub shut_exactly : (bad : Bool) (d : List ℕ) (opened at : ℕ) {em : Bool} {p next : ℕ}
    → (attribute_of bad d opened at ≡ Shut em p next) ↔ Ended d at em p next
shut_exactly bad d opened at = (shut_sound bad d opened at, shut_complete bad d opened at)
