-- Where a turn leads: onward, and not beyond the end.
use mathlib.Core.Path.{◌≡◌, refl, ap}
use mathlib.Core.Bool.{Bool, true, false, cond}
use mathlib.Core.List.{List}
use Prim.Native.Nat.{ℕ, ◌-◌, ◌≤◌, ◌<◌}
use native.Mathlib.Omega.{arith}
use lib.Dec.{eqb}
use lib.ListN.{length}
use Rattle.scan.specs.rule.Loop.{Next, Again}
use Rattle.scan.proofs.Loops.{loop_again, loop_done}
use Rattle.attributes.specs.rule.Attribute.{attribute_of}
use Rattle.attributes.specs.declared.Attribute.{Attribute}
use Rattle.attributes.specs.declared.Attribute.TheVariants.{One, Shut, Faulty}
use Rattle.attributes.proofs.Places.{attribute_one}
use Rattle.tags.specs.rule.Tag.{slot_of, form_of, stretch_fits, placed_of, put_of, turned, turn_of, on_turn, turns_of}
use Rattle.tags.specs.declared.Held.{Held}
use Rattle.tags.specs.declared.Tag.{Tag}
use Rattle.tags.specs.declared.Tag.TheVariants.{Fault}
use Rattle.tags.specs.declared.Turn.{Turn}
use Rattle.tags.specs.declared.Turn.TheVariants.{More, Over}

-- ---- turns
placed_next : (before : ℕ) (good : Bool) (name v : ℕ) (h g : Held) → placed_of before good name v h ≡ More g → g ≡ h
placed_next before good name v h g e = by (eqb before 0) good e where
  by : (p q : Bool) → cond p (cond q (More h) (Over (Fault 2 v))) (Over (Fault 50 name)) ≡ More g → g ≡ h
  by true true e = cc
  by true false e = let z : ◌≡◌ {A = ℕ} 0 1 = cc in absurd (omega arith)
  by false q e = let z : ◌≡◌ {A = ℕ} 0 1 = cc in absurd (omega arith)

put_next : (h g : Held) (slot name next : ℕ) (good : Bool) (v k : ℕ) → put_of h slot name next good v k ≡ More g → g.next ≡ next
unfolding put_of
put_next h g slot name next good v k e = by (eqb slot 1) (eqb slot 2) (eqb slot 3) e where
  inner : Turn → Turn → Turn → Turn → Bool → Bool → Bool → Turn
  inner a b c o p q r = cond p a (cond q b (cond r c o))

  by : (p q r : Bool)
      → inner
      (placed_of h.a good name v (record {
        a = v;
        ae = k;
        b = h.b;
        be = h.be;
        c = h.c;
        ce = h.ce;
        third = h.third;
        unknown = h.unknown;
        next = next;
      }))
      (placed_of h.b good name v (record {
        a = h.a;
        ae = h.ae;
        b = v;
        be = k;
        c = h.c;
        ce = h.ce;
        third = h.third;
        unknown = h.unknown;
        next = next;
      }))
      (placed_of h.c good name v (record {
        a = h.a;
        ae = h.ae;
        b = h.b;
        be = h.be;
        c = v;
        ce = k;
        third = name;
        unknown = h.unknown;
        next = next;
      }))
      (More (record {
        a = h.a;
        ae = h.ae;
        b = h.b;
        be = h.be;
        c = h.c;
        ce = h.ce;
        third = h.third;
        unknown = cond
            (eqb h.unknown 0) name h.unknown;
        next = next;
      }))
      p q r ≡ More g → g.next ≡ next
  by true q r e = ap (λ (x : Held). x.next) (placed_next h.a good name v _ g e)
  by false true r e = ap (λ (x : Held). x.next) (placed_next h.b good name v _ g e)
  by false false true e = ap (λ (x : Held). x.next) (placed_next h.c good name v _ g e)
  by false false false e = ap (λ (x : Held). x.next) (more e) where
    more : {x : Held} → More x ≡ More g → g ≡ x
    more e = cc

module _ (bad : Bool) (d : List ℕ) (opened : ℕ) (x y z : List ℕ) (f g k required : ℕ) where
  pub turn_on : (h g' : Held) → turn_of bad d opened x y z f g k required h ≡ More g' → (h.next < g'.next) × (g'.next ≤ length d)
  unfolding turn_of
  turn_on h g' e = by (attribute_of bad d opened h.next) refl e where
    by : (r : Attribute) → attribute_of bad d opened h.next ≡ r → turned d x y z f g k required h r ≡ More g' → (h.next < g'.next)
        × (g'.next ≤ length d)
    by (One n e v w next) o q =
        let a = attribute_one bad d opened h.next o in
        let i = put_next h g' (slot_of d n e x y z) n next (stretch_fits (form_of (slot_of d n e x y z) f g k) d v w) v w q in
        let b = a.spaced in
        let c = a.named in
        let j = a.before in
        let l = a.valued in
        let m = a.within in
        let o = a.behind in
        (omega arith, omega arith)
    by (Shut em p n) o q = let w : ◌≡◌ {A = ℕ} 0 1 = cc in absurd (omega arith)
    by (Faulty p) o q = let w : ◌≡◌ {A = ℕ} 0 1 = cc in absurd (omega arith)

  abbrev step : Held → Next Held Tag
  step h = on_turn (turn_of bad d opened x y z f g k required h)

  less : (h g' : Held) → step h ≡ Again g' → length d - g'.next < length d - h.next
  less h g' e = by (turn_of bad d opened x y z f g k required h) refl e where
    by : (r : Turn) → turn_of bad d opened x y z f g k required h ≡ r → on_turn r ≡ Again g' → length d - g'.next < length d - h.next
    by (More i) o e = let q : i ≡ g' = cc in let l = turn_on h i o in rw (← q) (omega arith)
    by (Over t) o e = let w : ◌≡◌ {A = ℕ} 0 1 = cc in absurd (omega arith)

  pub turns_next : (h g' : Held) → turn_of bad d opened x y z f g k required h ≡ More g' → turns_of bad d opened x y z f g k required h
      ≡ turns_of bad d opened x y z f g k required g'
  unfolding turns_of
  turns_next h g' e = loop_again step (Fault 0 0) (λ h. length d - h.next) less (rw e)

  pub turns_over : (h : Held) (t : Tag) → turn_of bad d opened x y z f g k required h ≡ Over t
      → turns_of bad d opened x y z f g k required h
      ≡ t
  unfolding turns_of
  turns_over h t e = loop_done step (Fault 0 0) (λ h. length d - h.next) less (rw e)
