-- A START TAG THAT IS REFUSED, in words: behind attributes in XML's form, whatever their order, stands what breaks the tag, "50 at what
-- stands there"; "an attribute of the element given twice: 50 at the second's name"; a value of wrong form, 2 at the value; or the tag's
-- end where "a required attribute" is missing, 2 there.
use Rattle.std.specs.Prelude.{◌≡◌, ◌↔◌, Bool, cond, List, ℕ, zero, suc, ◌-◌, ◌≤◌, ◌<◌, eqb, length}
use Rattle.std.proofs.Math.Path.{refl}
use Rattle.std.proofs.Common.{sym, ap, ◌∙◌, arith, ne_eqb, eqb-true}
use Rattle.std.proofs.Math.Bool.{true, false}
use Rattle.std.proofs.lemmas.Bool.{eqb-false}
use Rattle.attributes.specs.rule.Attribute.{attribute_of}
use Rattle.attributes.specs.declared.Attribute.{Attribute}
use Rattle.attributes.specs.declared.Attribute.TheVariants.{One, Shut, Faulty}
use Rattle.attributes.proofs.Exactly.{Attributed, attribute_exactly, Ended, shut_exactly}
use Rattle.tags.specs.rule.Tag.{is_named, slot_of, form_of, stretch_fits, placed_of, put_of, misses_of, shut_tag, turned, turn_of, turns_of}
use Rattle.tags.specs.rule.Tag.{nothing_held, tag_of}
use Rattle.tags.specs.declared.Held.{Held}
use Rattle.tags.specs.declared.Tag.{Tag}
use Rattle.tags.specs.declared.Tag.TheVariants as tag
use Rattle.tags.specs.declared.Turn.{Turn}
use Rattle.tags.specs.declared.Turn.TheVariants.{More, Over}
use Rattle.tags.proofs.Turns.{turn_on, turns_next, turns_over}
use Rattle.tags.proofs.Exactly.{puts, Placed, none, one}
use Rattle.tokens.specs.declared.Fault.{Fault}
use Rattle.tokens.specs.rule.Gap.{fault}
use Rattle.bridge.specs.Lowest.{never}

-- the value that was given before for this attribute of the element: 1, 2, 3; for one that it doesn't know none
unfoldable pub held_by : ℕ → Held → ℕ
held_by slot h = cond (eqb slot 1) h.a (cond (eqb slot 2) h.b (cond (eqb slot 3) h.c 0))

-- an attribute of the element is given twice, or its value has not its form
pub data Ill (before : ℕ) (good : Bool) (name v : ℕ) : Fault → Type 0 where
  twice : 0 < before → Ill before good name v (fault 50 name)
  formless : before ≡ 0 → good ≡ false → Ill before good name v (fault 2 v)

ill_of : (before : ℕ) (good : Bool) (name v : ℕ) (h : Held) {f : Fault} → placed_of before good name v h
    ≡ Over (tag.Fault f.number f.place)
    → Ill before good name v f
ill_of before good name v h {f} e = by (eqb before 0) good refl refl e where
  by : (a b : Bool) → eqb before 0 ≡ a → good ≡ b → cond a (cond b (More h) (Over (tag.Fault 2 v))) (Over (tag.Fault 50 name))
      ≡ Over (tag.Fault f.number f.place) → Ill before good name v f
  by true true i j e = never cc
  by true false i j e =
      let m : 2 ≡ f.number = cc in
      let n : v ≡ f.place = cc in
      let o : fault 2 v ≡ f = rw (m, n) in
      rw (← o) (formless (eqb-true before 0 i) j)
  by false b i j e =
      let m : 50 ≡ f.number = cc in
      let n : name ≡ f.place = cc in
      let o : fault 50 name ≡ f = rw (m, n) in
      rw (← o) (twice (some before (eqb-false before 0 i)))
    where
      some : (k : ℕ) → (k ≡ 0 → ⊥) → 0 < k
      some zero z = absurd (z refl)
      some (suc k) z = omega arith

of_ill : (before : ℕ) (good : Bool) (name v : ℕ) (h : Held) {f : Fault} → Ill before good name v f
    → placed_of before good name v h ≡ Over (tag.Fault f.number f.place)
of_ill before good name v h (twice i) = rw (ne_eqb before 0 (λ e. omega arith))
of_ill before good name v h (formless i j) = rw (i, j)

-- which of the three it is, put to its place
put_ill : (h : Held) (s name next : ℕ) (good : Bool) (v w : ℕ) {c : Fault} → put_of h s name next good v w
    ≡ Over (tag.Fault c.number c.place) → (0 < s) × Ill (held_by s h) good name v c
unfolding put_of held_by
put_ill h zero name next good v w e = never cc
put_ill h (suc zero) name next good v w e = (omega arith, ill_of h.a good name v _ e)
put_ill h (suc (suc zero)) name next good v w e = (omega arith, ill_of h.b good name v _ e)
put_ill h (suc (suc (suc zero))) name next good v w e = (omega arith, ill_of h.c good name v _ e)
put_ill h (suc (suc (suc (suc s)))) name next good v w e =
    let t = suc (suc (suc (suc s))) in
    let r = rw (ne_eqb t 1 (λ e. omega arith), ne_eqb t 2 (λ e. omega arith), ne_eqb t 3 (λ e. omega arith)) at e in
    never cc

ill_put : (h : Held) (s name next : ℕ) (good : Bool) (v w : ℕ) {c : Fault} → 0 < s → s ≤ 3 → Ill (held_by s h) good name v c
    → put_of h s name next good v w ≡ Over (tag.Fault c.number c.place)
unfolding put_of held_by
ill_put h zero name next good v w i o e = absurd (omega arith)
ill_put h (suc zero) name next good v w i o e = of_ill h.a good name v _ e
ill_put h (suc (suc zero)) name next good v w i o e = of_ill h.b good name v _ e
ill_put h (suc (suc (suc zero))) name next good v w i o e = of_ill h.c good name v _ e
ill_put h (suc (suc (suc (suc s)))) name next good v w i o e = absurd (omega arith)

slot_few : (d : List ℕ) (n e : ℕ) (x y z : List ℕ) → slot_of d n e x y z ≤ 3
unfolding slot_of
slot_few d n e x y z = by (is_named d n e x) (is_named d n e y) (is_named d n e z) where
  by : (a b c : Bool) → cond a 1 (cond b 2 (cond c 3 0)) ≤ 3
  by true b c = omega arith
  by false true c = omega arith
  by false false true = omega arith
  by false false false = omega arith

module _ (bad : Bool) (d : List ℕ) (opened : ℕ) (x y z : List ℕ) (f g k required : ℕ) where
  -- THE FAULTS of a tag, from what is held on
  pub data TagFaults (h : Held) : Fault → Type 0 where
    broken : {j : Held} {p : ℕ} → Placed d x y z f g k h j → attribute_of bad d opened j.next ≡ Faulty p → TagFaults h (fault 50 p)
    ill : {j : Held} {n e v w m : ℕ} {c : Fault} → Placed d x y z f g k h j → Attributed d j.next n e v w m → 0 < slot_of d n e x y z
        → Ill (held_by (slot_of d n e x y z) j) (stretch_fits (form_of (slot_of d n e x y z) f g k) d v w) n v c → TagFaults h c
    missing : {j : Held} {em : Bool} {p m : ℕ} → Placed d x y z f g k h j → Ended d j.next em p m → misses_of required j ≡ true
        → TagFaults h (fault 2 p)

  onward : {h i : Held} {n e v w m : ℕ} {c : Fault} → Attributed d h.next n e v w m → puts d x y z f g k h n e v w m ≡ More i
      → TagFaults i c → TagFaults h c
  onward a q (broken r o) = broken (one a q r) o
  onward a q (ill r o i l) = ill (one a q r) o i l
  onward a q (missing r o i) = missing (one a q r) o i

  same_fault : {h : Held} {a b : ℕ} {c : Fault} → tag.Fault a b ≡ tag.Fault c.number c.place → TagFaults h (fault a b)
      → TagFaults h c
  same_fault {h} {a} {b} {c} e t =
      let i : a ≡ c.number = cc in
      let j : b ≡ c.place = cc in
      let o : fault a b ≡ c = rw (i, j) in
      rw (← o) t

  -- a turn that is over with a fault
  over_fault : (h : Held) {c : Fault} → turn_of bad d opened x y z f g k required h ≡ Over (tag.Fault c.number c.place) → TagFaults h c
  unfolding turn_of shut_tag
  over_fault h {c} q = by (attribute_of bad d opened h.next) refl q where
    here : (b em : Bool) (p m : ℕ) → attribute_of bad d opened h.next ≡ Shut em p m → misses_of required h ≡ b
        → Over (cond b (tag.Fault 2 p) (tag.Read h em p m)) ≡ Over (tag.Fault c.number c.place) → TagFaults h c
    here true em p m o i q =
        let e : tag.Fault 2 p ≡ tag.Fault c.number c.place = cc in
        same_fault e (missing none ((shut_exactly bad d opened h.next).0 o) i)
    here false em p m o i q = never cc

    by : (r : Attribute) → attribute_of bad d opened h.next ≡ r
        → turned d x y z f g k required h r ≡ Over (tag.Fault c.number c.place) → TagFaults h c
    by (One n e v w m) o q =
        let s = slot_of d n e x y z in
        let t = put_ill h s n m (stretch_fits (form_of s f g k) d v w) v w q in
        ill none ((attribute_exactly bad d opened h.next).0 o) t.0 t.1
    by (Shut em p m) o q = here (misses_of required h) em p m o refl q
    by (Faulty p) o q = let e : tag.Fault 50 p ≡ tag.Fault c.number c.place = cc in same_fault e (broken none o)

  more_on : (h i : Held) {c : Fault} → turn_of bad d opened x y z f g k required h ≡ More i → TagFaults i c → TagFaults h c
  unfolding turn_of
  more_on h i {c} q t = by (attribute_of bad d opened h.next) refl q where
    by : (r : Attribute) → attribute_of bad d opened h.next ≡ r → turned d x y z f g k required h r ≡ More i → TagFaults h c
    by (One n e v w m) o q = onward ((attribute_exactly bad d opened h.next).0 o) q t
    by (Shut em p m) o q = never cc
    by (Faulty p) o q = never cc

  sound : (u : ℕ) (h : Held) (c : Fault) → length d - h.next ≤ u → turns_of bad d opened x y z f g k required h
      ≡ tag.Fault c.number c.place → TagFaults h c
  sound zero h c l q = by (turn_of bad d opened x y z f g k required h) refl where
    by : (r : Turn) → turn_of bad d opened x y z f g k required h ≡ r → TagFaults h c
    by (More i) o = let m = turn_on bad d opened x y z f g k required h i o in absurd (omega (arith, m.0, m.1))
    by (Over t) o = over_fault h (o ∙ ap Over (sym (turns_over bad d opened x y z f g k required h t o) ∙ q))
  sound (suc u) h c l q = by (sound u) (turn_of bad d opened x y z f g k required h) refl where
    by : ((h : Held) (c : Fault) → length d - h.next ≤ u → turns_of bad d opened x y z f g k required h
        ≡ tag.Fault c.number c.place → TagFaults h c)
        → (r : Turn) → turn_of bad d opened x y z f g k required h ≡ r → TagFaults h c
    by ih (More i) o =
        let m = turn_on bad d opened x y z f g k required h i o in
        more_on h i o (ih i c (omega (arith, m.0, m.1)) (sym (turns_next bad d opened x y z f g k required h i o) ∙ q))
    by ih (Over t) o = over_fault h (o ∙ ap Over (sym (turns_over bad d opened x y z f g k required h t o) ∙ q))

  -- and back: attributes that were placed lead on to the turn that is over
  placed_over : {h j : Held} {t : Tag} → Placed d x y z f g k h j → turn_of bad d opened x y z f g k required j ≡ Over t
      → turns_of bad d opened x y z f g k required h ≡ t
  unfolding turn_of
  placed_over {h} {t = t} none o = turns_over bad d opened x y z f g k required h t o
  placed_over {h} (one {i = i} a q r) o =
      turns_next bad d opened x y z f g k required h i (rw ((attribute_exactly bad d opened h.next).1 a) q) ∙ placed_over r o

  complete : {h : Held} {c : Fault} → TagFaults h c → turns_of bad d opened x y z f g k required h ≡ tag.Fault c.number c.place
  unfolding turn_of shut_tag
  complete (broken r o) = placed_over r (rw o)
  complete (ill {j = j} {n = n} {e = e} {v = v} {w = w} {m = m} r a i l) =
      let s = slot_of d n e x y z in
      placed_over r
      (rw ((attribute_exactly bad d opened j.next).1 a)
      (ill_put j s n m (stretch_fits (form_of s f g k) d v w) v w i (slot_few d n e x y z) l))
  complete (missing {j = j} r a i) = placed_over r (rw ((shut_exactly bad d opened j.next).1 a, i))

-- TAG: it is refused with c exactly so
pub tag_refused_exactly : (bad : Bool) (d : List ℕ) (opened at : ℕ) (x y z : List ℕ) (f g k required : ℕ) (c : Fault)
    → (tag_of bad d opened at x y z f g k required ≡ tag.Fault c.number c.place)
    ↔ TagFaults bad d opened x y z f g k required (nothing_held at) c
tag_refused_exactly bad d opened at x y z f g k required c =
    (sound bad d opened x y z f g k required (length d) (nothing_held at) c (omega arith), complete bad d opened x y z f g k required)
