-- What a start tag that was read holds: the values of its attributes lie inside, each of its form, where they are given.
use mathlib.Core.Path.{◌≡◌, refl}
use mathlib.Core.Logic.{◌⊎◌, inl, inr, ⊎_elim}
use mathlib.Core.Bool.{Bool, true, false, cond, ◌&&◌, ◌||◌}
use mathlib.Core.List.{List}
use Prim.Native.Nat.{ℕ, ◌≤◌}
use native.Mathlib.Omega.{arith}
use lib.Dec.{eqb, ltb}
use lib.ListN.{length}
use borrow.Author.Tests.{eqb-false}
use Rattle.tags.specs.rule.Tag.{slot_of, form_of, stretch_fits, placed_of, put_of, misses_of, tag_of}
use Rattle.tags.specs.declared.Held.{Held}
use Rattle.tags.specs.declared.Tag.TheVariants.{Read, Fault}
use Rattle.tags.specs.declared.Turn.TheVariants.{More, Over}
use Rattle.tags.proofs.Exactly.{Placed, none, one, tag_exactly}
use Rattle.values.proofs.Facts.{or_none, or_neither}
use Rattle.elements.specs.Code.{Slot}
use Rattle.elements.proofs.Bounds.{tag_within}

placed_is : (before : ℕ) (good : Bool) (name v : ℕ) (h i : Held) → placed_of before good name v h ≡ More i → (good ≡ true) × (i ≡ h)
placed_is before good name v h i = by (eqb before 0) good where
  by : (p q : Bool) → cond p (cond q (More h) (Over (Fault 2 v))) (Over (Fault 50 name)) ≡ More i → (q ≡ true) × (i ≡ h)
  by true true e = (refl, cc)
  by true false e = let z : ◌≡◌ {A = ℕ} 0 1 = cc in absurd (omega arith)
  by false q e = let z : ◌≡◌ {A = ℕ} 0 1 = cc in absurd (omega arith)

module _ (d : List ℕ) (f g k : ℕ) where
  pub record Slots (h : Held) : Type 0 where
    pub a : (h.a ≡ 0) ⊎ Slot d f h.a h.ae
    pub b : (h.b ≡ 0) ⊎ Slot d g h.b h.be
    pub c : (h.c ≡ 0) ⊎ Slot d k h.c h.ce

  abbrev with_a : Held → ℕ → ℕ → ℕ → Held
  with_a h v w n = record { a = v; ae = w; b = h.b; be = h.be; c = h.c; ce = h.ce; third = h.third; unknown = h.unknown; next = n }

  abbrev with_b : Held → ℕ → ℕ → ℕ → Held
  with_b h v w n = record { a = h.a; ae = h.ae; b = v; be = w; c = h.c; ce = h.ce; third = h.third; unknown = h.unknown; next = n }

  abbrev with_c : Held → ℕ → ℕ → ℕ → ℕ → Held
  with_c h m v w n = record { a = h.a; ae = h.ae; b = h.b; be = h.be; c = v; ce = w; third = m; unknown = h.unknown; next = n }

  abbrev without : Held → ℕ → ℕ → Held
  without h m n = record {
    a = h.a;
    ae = h.ae;
    b = h.b;
    be = h.be;
    c = h.c;
    ce = h.ce;
    third = h.third;
    unknown = cond (eqb h.unknown 0) m h.unknown;
    next = n;
  }

  put_slots : (h i : Held) (s m next v w : ℕ) → v ≤ w → w ≤ length d
      → put_of h s m next (stretch_fits (form_of s f g k) d v w) v w ≡ More i → Slots h → Slots i
  unfolding put_of form_of
  put_slots h i s m next v w l o q t = by (eqb s 1) (eqb s 2) (eqb s 3) q where
    form : Bool → Bool → Bool → Bool
    form x y z = stretch_fits (cond x f (cond y g (cond z k 0))) d v w

    by : (x y z : Bool)
        → cond x (placed_of h.a (form x y z) m v (with_a h v w next))
        (cond y (placed_of h.b (form x y z) m v (with_b h v w next))
        (cond z (placed_of h.c (form x y z) m v (with_c h m v w next)) (More (without h m next)))) ≡ More i
        → Slots i
    by true y z e =
        let p = placed_is h.a (form true y z) m v (with_a h v w next) i e in
        rw p.1 (record { a = inr (record { ends = l; within = o; fits = p.0 }); b = t.b; c = t.c })
    by false true z e =
        let p = placed_is h.b (form false true z) m v (with_b h v w next) i e in
        rw p.1 (record { a = t.a; b = inr (record { ends = l; within = o; fits = p.0 }); c = t.c })
    by false false true e =
        let p = placed_is h.c (form false false true) m v (with_c h m v w next) i e in
        rw p.1 (record { a = t.a; b = t.b; c = inr (record { ends = l; within = o; fits = p.0 }) })
    by false false false e =
        let p : i ≡ without h m next = cc in
        rw p (record { a = t.a; b = t.b; c = t.c })

  placed_slots : {x y z : List ℕ} {h j : Held} → Placed d x y z f g k h j → Slots h → Slots j
  placed_slots none t = t
  placed_slots {x} {y} {z} (one {h} {i} {j} {n} {e} {v} {w} {next} a q r) t =
      let p = a.value.place in
      let s = a.value.within in
      let b = a.behind in
      placed_slots r (put_slots h i (slot_of d n e x y z) n next v w (omega arith) (omega arith) q t)

  pub record Tells (required : ℕ) (j : Held) (nx : ℕ) : Type 0 where
    pub slots : Slots j
    pub next : nx ≤ length d
    pub whole : misses_of required j ≡ false

  pub tag_tells : (bad : Bool) (o at : ℕ) (x y z : List ℕ) (required : ℕ) {j : Held} {em : Bool} {p nx : ℕ}
      → tag_of bad d o at x y z f g k required ≡ Read j em p nx → Tells required j nx
  tag_tells bad o at x y z required {j} {em} {p} {nx} e =
      let t = (tag_exactly bad d o at x y z f g k required j em p nx).0 e in
      record {
        slots = placed_slots t.placed (record { a = inl refl; b = inl refl; c = inl refl });
        next = (tag_within bad d o x y z f g k required at j em p nx e).2;
        whole = t.whole;
      }

  pub there : {form v e : ℕ} → (v ≡ 0) ⊎ Slot d form v e → eqb v 0 ≡ false → Slot d form v e
  there {v = v} s q = ⊎_elim (λ z. absurd (eqb-false v 0 q z)) (λ s. s) s

  -- one that has to be given is there
  pub first_there : {j : Held} {nx : ℕ} → Tells 1 j nx → Slot d f j.a j.ae
  unfolding misses_of
  first_there {j} t =
      there t.slots.a (or_none (eqb j.a 0) ((ltb 1 1 && eqb j.b 0) || (ltb 2 1 && eqb j.c 0)) t.whole)

  pub both_there : {j : Held} {nx : ℕ} → Tells 2 j nx → Slot d f j.a j.ae × Slot d g j.b j.be
  unfolding misses_of
  both_there {j} t =
      let r = or_neither (eqb j.a 0) (eqb j.b 0 || (ltb 2 2 && eqb j.c 0)) t.whole in (
        there t.slots.a (or_none (eqb j.a 0) (eqb j.b 0 || (ltb 2 2 && eqb j.c 0)) t.whole),
        there t.slots.b (or_none (eqb j.b 0) (ltb 2 2 && eqb j.c 0) r),
      )
