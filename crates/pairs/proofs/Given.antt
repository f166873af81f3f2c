-- Attributes by their bytes: one, and all of a tag.
use mathlib.Core.Path.{◌≡◌, refl, sym, ap, ◌∙◌}
use mathlib.Core.Bool.{Bool, true, false, cond, ◌&&◌, ◌||◌, not}
use mathlib.Core.List.{List, [], ◌∷◌, ◌++◌}
use Prim.Native.Nat.{ℕ, ◌+◌, ◌-◌, ◌≤◌, ◌<◌}
use native.Mathlib.Omega.{arith}
use lib.Dec.{eqb}
use lib.ListN.{length, get_or}
use borrow.Author.Tests.{eq-eqb, ne_eqb, eqb-true}
use Rattle.below.specs.Below.{holds_not}
use Rattle.markup.specs.rule.Bytes.{of_kind, starts_name}
use Rattle.markup.specs.rule.Grammar.{Each, each}
use Rattle.markup.proofs.Stretches.{Stretch}
use Rattle.attributes.proofs.Exactly.{Attributed, gap_first}
use Rattle.forms.specs.rule.Form.{fits_of}
use Rattle.tags.specs.rule.Tag.{is_named, slot_of, form_of, stretch_fits, placed_of, put_of}
use Rattle.tags.specs.declared.Held.{Held}
use Rattle.tags.specs.declared.Turn.TheVariants.{More, Over}
use Rattle.tags.specs.declared.Tag.TheVariants.{Fault}
use Rattle.tags.proofs.Exactly.{puts, Placed, none, one}
use Rattle.pairs.specs.rule.Grammar.{Name, name, PairGiven, given, Attributes, known, other, first_of}
use Rattle.pairs.specs.rule.Grammar as grammar
use Rattle.pairs.proofs.Stands.{name_kind}
use Rattle.pairs.proofs.Lies.{Lies, lies_none, lies_join, lies_byte, lies_cut, lies_first, lies_same, stretch_lies, quoted_lies}
use Rattle.pairs.proofs.Lies.{lies_named, named_lies}

-- bytes of names from n to e, where a name starts and behind which none goes on
name_of : (d : List ℕ) (n e : ℕ) (u : List ℕ) → Each (of_kind 1) u → Lies d n e u → starts_name (get_or d n 0) ≡ true
    → of_kind 1 (get_or d e 0)
    ≡ false → Name u
name_of d n e [] r l s f =
    let k = l.place in
    let i : e ≡ n = omega arith in
    absurd (holds_not (name_kind (get_or d n 0) s) (rw (← i) f))
name_of d n e (b ∷ t) (each k r) l s f = name {b = b} (rw (← (lies_first l).byte) s) r

-- ---- one attribute
pub record Gave (d : List ℕ) (at n e next : ℕ) : Type 0 where
  pub name : List ℕ
  pub white : ℕ
  pub bytes : List ℕ
  pub given : PairGiven name white bytes
  pub lies : Lies d at next bytes
  pub named : Lies d n e name
  pub place : n ≡ at + white

pub given_sound : {d : List ℕ} {at n e v k next : ℕ} → Attributed d at n e v k next → Gave d at n e next
given_sound {d} {at} {n} {e} {v} {k} {next} a =
    let q = get_or d a.quote 0 in
    let g = gap_first d e a.equals a.gap a.there a.sign in
    let i = a.before.place in
    let s = a.spaced in
    let w = a.value.within in
    let f = a.value.quoted in
    let o = a.place in
    record {
      name = a.name.bytes;
      white = length a.before.bytes;
      bytes = a.before.bytes ++ (a.name.bytes ++ (a.gap.bytes ++ 61 ∷ (a.gap_2.bytes ++ q ∷ (a.value.bytes ++ q ∷ []))));
      given = given a.before.passes (omega arith)
          (name_of d n e a.name.bytes a.name.passes (stretch_lies a.name) a.starts g.0) a.gap.passes a.gap_2.passes
          a.quotes a.value.value;
      lies = lies_join (stretch_lies a.before) (lies_join (stretch_lies a.name) (lies_join (stretch_lies a.gap)
          (lies_join (lies_byte d a.equals (a.equals + 1) 61 a.there a.sign refl) (lies_join (stretch_lies a.gap_2)
          (lies_join (lies_byte d a.quote v q a.inside refl o)
          (lies_join (quoted_lies a.value) (lies_byte d k next q w f a.behind)))))));
      named = stretch_lies a.name;
      place = i;
    }

pub record Taken (d : List ℕ) (at o : ℕ) (n : List ℕ) (next : ℕ) : Type 0 where
  pub value : ℕ
  pub valueend : ℕ
  pub there : Attributed d at (at + o) (at + o + length n) value valueend next
  pub named : Lies d (at + o) (at + o + length n) n

pub as_stretch : {f : ℕ → Bool} {d : List ℕ} {p q : ℕ} {u : List ℕ} → Each f u → Lies d p q u → Stretch f d p q
as_stretch {u = u} r l = record { bytes = u; passes = r; split = l.split; place = l.place }

pub name_each : {n : List ℕ} → Name n → Each (of_kind 1) n
name_each (name {b} s r) = each (name_kind b s) r

pub name_starts : {d : List ℕ} {p e : ℕ} {n : List ℕ} → Name n → Lies d p e n → starts_name (get_or d p 0) ≡ true
name_starts (name s r) l = rw (lies_first l).byte s

pub given_complete : {d : List ℕ} {at o next : ℕ} {n u : List ℕ} → PairGiven n o u → Lies d at next u → Taken d at o n next
given_complete {d} {at} {o} {next} {n} (given {q} {u} {y} {z} {v} wu i na wy wz qu va) l =
    let c0 = lies_cut d at next u (n ++ (y ++ 61 ∷ (z ++ q ∷ (v ++ q ∷ [])))) l in
    let c1 = lies_cut d (at + length u) next n (y ++ 61 ∷ (z ++ q ∷ (v ++ q ∷ []))) c0.1 in
    let c2 = lies_cut d (at + length u + length n) next y (61 ∷ (z ++ q ∷ (v ++ q ∷ []))) c1.1 in
    let f = lies_first c2.1 in
    let c3 = lies_cut d (at + length u + length n + length y + 1) next z (q ∷ (v ++ q ∷ [])) f.rest in
    let g = lies_first c3.1 in
    let c4 = lies_cut d (at + length u + length n + length y + 1 + length z + 1) next v (q ∷ []) g.rest in
    let h = lies_first c4.1 in
    let b = g.byte in
    let k = h.rest.place in
    record {
      value = at + length u + length n + length y + 1 + length z + 1;
      valueend = at + length u + length n + length y + 1 + length z + 1 + length v;
      there = record {
        equals = at + length u + length n + length y;
        quote = at + length u + length n + length y + 1 + length z;
        spaced = omega arith;
        before = as_stretch wu c0.0;
        starts = name_starts na c1.0;
        name = as_stretch (name_each na) c1.0;
        gap = as_stretch wy c2.0;
        there = f.inside;
        sign = f.byte;
        gap_2 = as_stretch wz c3.0;
        inside = g.inside;
        quotes = rw b qu;
        value = rw b (record { bytes = v; value = va; split = c4.0.split; place = c4.0.place; within = h.inside; quoted = h.byte });
        place = refl;
        behind = omega arith;
      };
      named = c1.0;
    }

-- ---- where an attribute is put
any_form : (s : ℕ) → form_of s 0 0 0 ≡ 0
unfolding form_of
any_form s = by (eqb s 1) (eqb s 2) (eqb s 3) where
  by : (a b c : Bool) → ◌≡◌ {A = ℕ} (cond a 0 (cond b 0 (cond c 0 0))) 0
  by true b c = refl
  by false true c = refl
  by false false true = refl
  by false false false = refl

fits_any : (s : ℕ) (d : List ℕ) (v w : ℕ) → stretch_fits (form_of s 0 0 0) d v w ≡ true
unfolding stretch_fits fits_of
fits_any s d v w = rw (any_form s)

no_empty : (d : List ℕ) (n e : ℕ) → n < e → is_named d n e [] ≡ false
unfolding is_named
no_empty d n e h = rw (ne_eqb (e - n) 0 (λ x. omega arith))

-- what is held with an attribute k more, and with another one
abbrev taken : Held → ℕ → ℕ → ℕ → Held
taken h v w next = record { a = v; ae = w; b = h.b; be = h.be; c = h.c; ce = h.ce; third = h.third; unknown = h.unknown; next = next }

abbrev passed : Held → ℕ → ℕ → Held
passed h n next = record {
  a = h.a;
  ae = h.ae;
  b = h.b;
  be = h.be;
  c = h.c;
  ce = h.ce;
  third = h.third;
  unknown = first_of
      h.unknown n;
  next = next;
}

module _ (d k : List ℕ) where
  puts_known : (h : Held) (n e v w next : ℕ) → is_named d n e k ≡ true → puts d k [] [] 0 0 0 h n e v w next
      ≡ placed_of h.a true n v (taken h v w next)
  unfolding put_of slot_of
  puts_known h n e v w next x = rw (x, fits_any 1 d v w)

  puts_other : (h : Held) (n e v w next : ℕ) → is_named d n e k ≡ false → n < e → puts d k [] [] 0 0 0 h n e v w next
      ≡ More (passed h n next)
  unfolding put_of slot_of
  puts_other h n e v w next x l = rw (x, no_empty d n e l)

placed_more : (before m v : ℕ) (h g : Held) → placed_of before true m v h ≡ More g → (before ≡ 0) × (h ≡ g)
placed_more before m v h g e = by (eqb before 0) refl e where
  by : (p : Bool) → eqb before 0 ≡ p → cond p (cond true (More h) (Over (Fault 2 v))) (Over (Fault 50 m)) ≡ More g → (before ≡ 0) × (h ≡ g)
  by true f e = (eqb-true before 0 f, cc)
  by false f e = let z : ◌≡◌ {A = ℕ} 0 1 = cc in absurd (omega arith)

-- ---- attributes one behind the other
-- the attribute k is held
abbrev full : Held → Bool
full h = not (eqb h.a 0)

-- bytes of attributes lie behind what is held before them and lead to what is held after them
pub record Listed (k d : List ℕ) (h j : Held) : Type 0 where
  pub bytes : List ℕ
  pub given : Bool
  pub first : ℕ
  pub attributes : Attributes k h.next bytes given first
  pub lies : Lies d h.next j.next bytes
  pub unknown : j.unknown ≡ first_of h.unknown first
  pub filled : full j ≡ (full h || given)
  pub once : (full h && given) ≡ false

pub first_none : (a : ℕ) → a ≡ first_of a 0
first_none a = by (eqb a 0) refl where
  by : (p : Bool) → eqb a 0 ≡ p → a ≡ cond p 0 a
  by true e = eqb-true a 0 e
  by false e = refl

pub first_join : (a b c : ℕ) → first_of (first_of a b) c ≡ first_of a (first_of b c)
first_join a b c = by (eqb a 0) refl where
  by : (p : Bool) → eqb a 0 ≡ p → first_of (cond p b a) c ≡ cond p (first_of b c) a
  by true e = refl
  by false e = rw e

or_false : (a : Bool) → a ≡ (a || false)
or_false true = refl
or_false false = refl

and_false : (a : Bool) → (a && false) ≡ false
and_false true = refl
and_false false = refl

-- a name lies from n to e: it has bytes
name_some : {n : List ℕ} → Name n → 0 < length n
name_some (name s r) = omega arith

given_name : {n : List ℕ} {o : ℕ} {u : List ℕ} → PairGiven n o u → Name n
given_name (given wu i na wy wz qu va) = na

given_white : {n : List ℕ} {o : ℕ} {u : List ℕ} → PairGiven n o u → 0 < o
given_white (given wu i na wy wz qu va) = i

module _ (k d : List ℕ) where
  with_known : (h i j : Held) (n e v w next : ℕ) → Attributed d h.next n e v w next → is_named d n e k ≡ true
      → placed_of h.a true n v (taken h v w next) ≡ More i → Listed k d i j → Listed k d h j
  with_known h i j n e v w next at x q r =
      let g = given_sound at in
      let m = placed_more h.a n v (taken h v w next) i q in
      let m0 = m.0 in
      let c = at.spaced in
      let o = at.place in
      let b = at.name.place in
      let b2 = at.gap.place in
      let b3 = at.gap_2.place in
      let y : n ≤ e = omega arith in
      let s : g.name ≡ k = lies_same g.named (named_lies d n e k y x) in
      let nx : i.next ≡ next = ap (λ (t : Held). t.next) (sym m.1) in
      let un : i.unknown ≡ h.unknown = ap (λ (t : Held). t.unknown) (sym m.1) in
      let ia : i.a ≡ v = ap (λ (t : Held). t.a) (sym m.1) in
      let fi : full i ≡ true = rw (ia, ne_eqb v 0 (λ z. omega arith)) in
      let fh : full h ≡ false = rw (eq-eqb h.a 0 m0) in
      let gf : r.given ≡ false = sym (ap (λ (t : Bool). t && r.given) fi) ∙ r.once in
      let l = g.lies.place in
      let p : i.next ≡ h.next + length g.bytes = nx ∙ l in
      let gl : Lies d h.next i.next g.bytes = rw nx g.lies in
      record {
        bytes = g.bytes ++ r.bytes;
        given = true;
        first = r.first;
        attributes = known {p = h.next} {o = g.white} {a = r.first} {u = g.bytes} {s = r.bytes} (rw (← s) g.given)
            (rw (← p, ← gf) r.attributes);
        lies = lies_join gl r.lies;
        unknown = r.unknown ∙ rw un;
        filled = r.filled ∙ rw (fi, fh);
        once = rw fh;
      }

  with_other : (h j : Held) (n e v w next : ℕ) → Attributed d h.next n e v w next → is_named d n e k ≡ false
      → Listed k d (passed h n next) j → Listed k d h j
  with_other h j n e v w next at x r =
      let g = given_sound at in
      let l = g.lies.place in
      let p = g.place in
      let z = given_white g.given in
      let u : first_of n r.first ≡ n = rw (ne_eqb n 0 (λ t. omega arith)) in
      record {
        bytes = g.bytes ++ r.bytes;
        given = r.given;
        first = h.next + g.white;
        attributes = other {p = h.next} {o = g.white} {a = r.first} {n = g.name} {u = g.bytes} {s = r.bytes} {g = r.given} g.given
            (λ s. holds_not (lies_named (rw (← s) g.named)) x) (rw (← l) r.attributes);
        lies = lies_join g.lies r.lies;
        unknown = r.unknown ∙ first_join h.unknown n r.first ∙ ap (first_of h.unknown) (u ∙ p);
        filled = r.filled;
        once = r.once;
      }

  -- what attributes lead to is told by their bytes
  pub placed_listed : {h j : Held} → Placed d k [] [] 0 0 0 h j → Listed k d h j
  placed_listed {h} none = record {
    bytes = [];
    given = false;
    first = 0;
    attributes = grammar.none;
    lies = lies_none d h.next h.next refl;
    unknown = first_none h.unknown;
    filled = or_false (full h);
    once = and_false (full h);
  }
  placed_listed {h} {j} (one {i = i} {n} {e} {v} {w} {next} at q r) = by (is_named d n e k) refl (placed_listed r) where
    long : n < e
    long = let g = given_sound at in let b = g.named.place in omega (arith, name_some (given_name g.given))

    by : (b : Bool) → is_named d n e k ≡ b → Listed k d i j → Listed k d h j
    by true x r = with_known h i j n e v w next at x (sym (puts_known d k h n e v w next x) ∙ q) r
    by false x r =
        let m : passed h n next ≡ i = more (sym (puts_other d k h n e v w next x long) ∙ q) in
        with_other h j n e v w next at x (rw m r) where
          more : {x y : Held} → More x ≡ More y → x ≡ y
          more e = cc

  -- and bytes of attributes lead on
  pub record Led (h : Held) (q : ℕ) (g : Bool) (a : ℕ) : Type 0 where
    pub held : Held
    pub placed : Placed d k [] [] 0 0 0 h held
    pub next : held.next ≡ q
    pub unknown : held.unknown ≡ first_of h.unknown a
    pub filled : full held ≡ (full h || g)

  empty_held : (h : Held) → (full h && true) ≡ false → h.a ≡ 0
  empty_held h e = by (eqb h.a 0) refl e where
    by : (b : Bool) → eqb h.a 0 ≡ b → (not b && true) ≡ false → h.a ≡ 0
    by true f e = eqb-true h.a 0 f
    by false f e = let z : ◌≡◌ {A = ℕ} 0 1 = cc in absurd (omega arith)

  pub listed_placed : {p a : ℕ} {s : List ℕ} {g : Bool} → Attributes k p s g a → (h : Held) (q : ℕ) → h.next ≡ p → (full h && g) ≡ false
      → Lies d p q s → Led h q g a
  listed_placed {p} grammar.none h q f o l =
      let i = l.place in
      record { held = h; placed = none; next = omega arith; unknown = first_none h.unknown; filled = or_false (full h) }
  listed_placed {p} (known {o = w} {a} {u} {s} x r) h q f o l =
      let c = lies_cut d p q u s l in
      let t = given_complete x c.0 in
      let v = t.value in
      let ve = t.valueend in
      let b : h.a ≡ 0 = empty_held h o in
      let y = t.there.place in
      let fi : not (eqb v 0) ≡ true = rw (ne_eqb v 0 (λ z. omega arith)) in
      let fh : full h ≡ false = rw (eq-eqb h.a 0 b) in
      let n = p + w in
      let m : puts d k [] [] 0 0 0 h n (n + length k) v ve (p + length u) ≡ More (taken h v ve (p + length u)) =
      puts_known d k h n (n + length k) v ve (p + length u) (lies_named t.named) ∙ rw (eq-eqb h.a 0 b) in
      let th : Attributed d h.next n (n + length k) v ve (p + length u) = rw f t.there in
      let ih = listed_placed r (taken h v ve (p + length u)) q refl (and_false (not (eqb v 0))) c.1 in
      record { held = ih.held; placed = one th m ih.placed; next = ih.next; unknown = ih.unknown; filled = ih.filled ∙ rw (fi, fh) }
  listed_placed {p} (other {o = w} {a} {n} {u} {s} {g} x not-k r) h q f o l =
      let c = lies_cut d p q u s l in
      let t = given_complete x c.0 in
      let m = puts_other d k h (p + w) (p + w + length n) t.value t.valueend (p + length u)
      (unnamed (is_named d (p + w) (p + w + length n) k) refl t.named) (omega (arith, name_some (given_name x))) in
      let z = given_white x in
      let e : first_of (p + w) a ≡ p + w = rw (ne_eqb (p + w) 0 (λ y. omega arith)) in
      let th : Attributed d h.next (p + w) (p + w + length n) t.value t.valueend (p + length u) = rw f t.there in
      let ih = listed_placed r (passed h (p + w) (p + length u)) q refl o c.1 in
      record {
        held = ih.held;
        placed = one th m ih.placed;
        next = ih.next;
        unknown = ih.unknown ∙ first_join h.unknown (p + w) a ∙ ap (first_of h.unknown) e;
        filled = ih.filled;
      } where
        unnamed : (b : Bool) → is_named d (p + w) (p + w + length n) k ≡ b → Lies d (p + w) (p + w + length n) n
            → is_named d (p + w) (p + w + length n) k ≡ false
        unnamed true i y = absurd (not-k (lies_same y (named_lies d (p + w) (p + w + length n) k (omega arith) i)))
        unnamed false i y = i
