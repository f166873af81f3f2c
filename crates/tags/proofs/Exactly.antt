-- A start tag, in XML's words: its attributes one behind the other in whatever order, none of the element's twice, each of its form, those
-- that are required among them; then the tag's end.
use mathlib.Core.Path.{◌≡◌, refl, sym, ap, ◌∙◌}
use mathlib.Core.Logic.{◌↔◌}
use mathlib.Core.Bool.{Bool, true, false, cond}
use mathlib.Core.List.{List}
use Prim.Native.Nat.{ℕ, zero, suc, ◌-◌, ◌≤◌}
use native.Mathlib.Omega.{arith}
use lib.Dec.{eqb}
use lib.ListN.{length}
use Rattle.attributes.specs.rule.Attribute.{attribute_of}
use Rattle.attributes.specs.declared.Attribute.{Attribute}
use Rattle.attributes.specs.declared.Attribute.TheVariants.{One, Shut, Faulty}
use Rattle.attributes.proofs.Exactly.{Attributed, attribute_exactly}
use Rattle.tags.specs.rule.Tag.{slot_of, form_of, stretch_fits, placed_of, put_of, misses_of, shut_tag, turned, turn_of, turns_of}
use Rattle.tags.specs.rule.Tag.{nothing_held}
use Rattle.tags.specs.rule.Tag.{tag_of}
use Rattle.tags.specs.declared.Held.{Held}
use Rattle.tags.specs.declared.Tag.{Tag}
use Rattle.tags.specs.declared.Tag.TheVariants.{Read, Fault}
use Rattle.tags.specs.declared.Turn.{Turn}
use Rattle.tags.specs.declared.Turn.TheVariants.{More, Over}
use Rattle.tags.proofs.Turns.{turn_on, turns_next, turns_over}

-- an attribute that stands behind what is held is put to it
abbrev pub puts : List ℕ → List ℕ → List ℕ → List ℕ → ℕ → ℕ → ℕ → Held → ℕ → ℕ → ℕ → ℕ → ℕ → Turn
puts d x y z f g k h n e v w next = put_of h (slot_of d n e x y z) n next (stretch_fits (form_of (slot_of d n e x y z) f g k) d v w) v w

-- attributes one behind the other lead from what is held to what is held after them
pub data Placed (d x y z : List ℕ) (f g k : ℕ) : Held → Held → Type 0 where
  none : {h : Held} → Placed d x y z f g k h h
  one : {h i j : Held} {n e v w next : ℕ} → Attributed d h.next n e v w next → puts d x y z f g k h n e v w next ≡ More i
      → Placed d x y z f g k i j → Placed d x y z f g k h j

-- ---- a turn that is over with a tag read is over at the tag's end
placed_no : (before : ℕ) (good : Bool) (name v : ℕ) (h j : Held) (em : Bool) (p nx : ℕ) → placed_of before good name v h
    ≡ Over (Read j em p nx) → ⊥
placed_no before good name v h j em p nx e = by (eqb before 0) good e where
  by : (a b : Bool) → cond a (cond b (More h) (Over (Fault 2 v))) (Over (Fault 50 name)) ≡ Over (Read j em p nx) → ⊥
  by true true e = let z : ◌≡◌ {A = ℕ} 0 1 = cc in omega arith
  by true false e = let z : ◌≡◌ {A = ℕ} 0 1 = cc in omega arith
  by false b e = let z : ◌≡◌ {A = ℕ} 0 1 = cc in omega arith

put_no : (h : Held) (slot name next : ℕ) (good : Bool) (v k : ℕ) (j : Held) (em : Bool) (p nx : ℕ) → put_of h slot name next good v k
    ≡ Over (Read j em p nx) → ⊥
unfolding put_of
put_no h slot name next good v k j em p nx e = by (eqb slot 1) (eqb slot 2) (eqb slot 3) e where
  by : (a b c : Bool)
      → cond a (placed_of h.a good name v (record
      { a = v; ae = k; b = h.b; be = h.be; c = h.c; ce = h.ce; third = h.third; unknown = h.unknown; next = next }))
      (cond b (placed_of h.b good name v (record
      { a = h.a; ae = h.ae; b = v; be = k; c = h.c; ce = h.ce; third = h.third; unknown = h.unknown; next = next }))
      (cond c (placed_of h.c good name v (record
      { a = h.a; ae = h.ae; b = h.b; be = h.be; c = v; ce = k; third = name; unknown = h.unknown; next = next }))
      (More (record {
        a = h.a;
        ae = h.ae;
        b = h.b;
        be = h.be;
        c = h.c;
        ce = h.ce;
        third = h.third;
        unknown = cond
            (eqb h.unknown 0) name h.unknown;
        next = next;
      }))))
      ≡ Over (Read j em p nx) → ⊥
  by true b c e = placed_no h.a good name v _ j em p nx e
  by false true c e = placed_no h.b good name v _ j em p nx e
  by false false true e = placed_no h.c good name v _ j em p nx e
  by false false false e = let z : ◌≡◌ {A = ℕ} 0 1 = cc in omega arith

module _ (bad : Bool) (d : List ℕ) (opened : ℕ) (x y z : List ℕ) (f g k required : ℕ) where
  -- the tag from what is held on
  pub record Tagged (h j : Held) (em : Bool) (p nx : ℕ) : Type 0 where
    pub placed : Placed d x y z f g k h j
    pub shut : attribute_of bad d opened j.next ≡ Shut em p nx
    pub whole : misses_of required j ≡ false

  record Step (h i : Held) : Type 0 where
    pub n : ℕ
    pub e : ℕ
    pub v : ℕ
    pub w : ℕ
    pub next : ℕ
    pub there : Attributed d h.next n e v w next
    pub put : puts d x y z f g k h n e v w next ≡ More i

  more_is : (h i : Held) → turn_of bad d opened x y z f g k required h ≡ More i → Step h i
  unfolding turn_of
  more_is h i q = by (attribute_of bad d opened h.next) refl q where
    by : (r : Attribute) → attribute_of bad d opened h.next ≡ r → turned d x y z f g k required h r ≡ More i → Step h i
    by (One n e v w next) o q = record {
      n = n;
      e = e;
      v = v;
      w = w;
      next = next;
      there = (attribute_exactly bad d opened h.next).0 o;
      put = q;
    }
    by (Shut em p nx) o q = let t : ◌≡◌ {A = ℕ} 0 1 = cc in absurd (omega arith)
    by (Faulty p) o q = let t : ◌≡◌ {A = ℕ} 0 1 = cc in absurd (omega arith)

  over_is : (h j : Held) (em : Bool) (p nx : ℕ) → turn_of bad d opened x y z f g k required h ≡ Over (Read j em p nx) → Tagged h j em p nx
  unfolding turn_of shut_tag
  over_is h j em p nx q = by (attribute_of bad d opened h.next) refl q where
    here : (b : Bool) (em' : Bool) (p' nx' : ℕ) → attribute_of bad d opened h.next ≡ Shut em' p' nx' → misses_of required h ≡ b
        → Over (cond b (Fault 2 p') (Read h em' p' nx')) ≡ Over (Read j em p nx) → Tagged h j em p nx
    here true em' p' nx' o m q = let t : ◌≡◌ {A = ℕ} 0 1 = cc in absurd (omega arith)
    here false em' p' nx' o m q =
        let a : h ≡ j = cc in
        let s : Shut em' p' nx' ≡ Shut em p nx = cc in
        record { placed = rw (← a) none; shut = rw (← a) (o ∙ s); whole = rw (← a) m }

    by : (r : Attribute) → attribute_of bad d opened h.next ≡ r → turned d x y z f g k required h r ≡ Over (Read j em p nx)
        → Tagged h j em p nx
    by (One n e v w next) o q = absurd (put_no h (slot_of d n e x y z) n next (stretch_fits (form_of (slot_of d n e x y z) f g k) d v w) v w
        j
        em p nx q)
    by (Shut em' p' nx') o q = here (misses_of required h) em' p' nx' o refl q
    by (Faulty r) o q = let t : ◌≡◌ {A = ℕ} 0 1 = cc in absurd (omega arith)

  joined : (h i j : Held) (em : Bool) (p nx : ℕ) → Step h i → Tagged i j em p nx → Tagged h j em p nx
  joined h i j em p nx s t = record { placed = one s.there s.put t.placed; shut = t.shut; whole = t.whole }

  ended : (h j : Held) (em : Bool) (p nx : ℕ) (t : Tag) → turn_of bad d opened x y z f g k required h ≡ Over t
      → turns_of bad d opened x y z f g k required h ≡ Read j em p nx → Tagged h j em p nx
  ended h j em p nx t o q = over_is h j em p nx (o ∙ ap Over (sym (turns_over bad d opened x y z f g k required h t o) ∙ q))

  sound : (u : ℕ) (h j : Held) (em : Bool) (p nx : ℕ) → length d - h.next ≤ u → turns_of bad d opened x y z f g k required h
      ≡ Read j em p nx → Tagged h j em p nx
  sound zero h j em p nx l q = by (turn_of bad d opened x y z f g k required h) refl where
    by : (r : Turn) → turn_of bad d opened x y z f g k required h ≡ r → Tagged h j em p nx
    by (More i) o = let m = turn_on bad d opened x y z f g k required h i o in absurd (omega (arith, m.0, m.1))
    by (Over t) o = ended h j em p nx t o q
  sound (suc u) h j em p nx l q = by (sound u) (turn_of bad d opened x y z f g k required h) refl where
    by : ((h j : Held) (em : Bool) (p nx : ℕ) → length d - h.next ≤ u → turns_of bad d opened x y z f g k required h ≡ Read j em p nx
        → Tagged h j em p nx)
        → (r : Turn) → turn_of bad d opened x y z f g k required h ≡ r → Tagged h j em p nx
    by ih (More i) o =
        let m = turn_on bad d opened x y z f g k required h i o in
        joined h i j em p nx (more_is h i o) (ih i j em p nx (omega (arith, m.0, m.1))
        (sym (turns_next bad d opened x y z f g k required h i o) ∙ q))
    by ih (Over t) o = ended h j em p nx t o q

  complete : {h j : Held} → Placed d x y z f g k h j → (em : Bool) (p nx : ℕ) → attribute_of bad d opened j.next ≡ Shut em p nx
      → misses_of required j ≡ false → turns_of bad d opened x y z f g k required h ≡ Read j em p nx
  unfolding turn_of shut_tag
  complete {h} none em p nx s m = turns_over bad d opened x y z f g k required h (Read h em p nx) (rw (s, m))
  complete {h} (one {i = i} a q r) em p nx s m =
      turns_next bad d opened x y z f g k required h i (rw ((attribute_exactly bad d opened h.next).1 a) q) ∙ complete r em p nx s m

-- TAG: it is read with j held exactly when attributes in XML's form, each of its element's once and of its form, lead to j, none that is
-- required is missing, and the tag's end stands behind them
pub tag_exactly : (bad : Bool) (d : List ℕ) (opened at : ℕ) (x y z : List ℕ) (f g k required : ℕ) (j : Held) (em : Bool) (p nx : ℕ)
    → (tag_of bad d opened at x y z f g k required ≡ Read j em p nx) ↔ Tagged bad d opened x y z f g k required (nothing_held at) j em p nx
tag_exactly bad d opened at x y z f g k required j em p nx = (
  sound bad d opened x y z f g k required (length d) (nothing_held at) j em p nx (omega arith),
  λ t. complete bad d opened x y z f g k required t.placed em p nx t.shut t.whole,
)
