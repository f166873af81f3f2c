-- Ranges and lines that were read: their values have their form and lie inside, their texts lie inside, and so does the place after them.
use mathlib.Core.Path.{◌≡◌, refl, ◌∙◌, sym}
use mathlib.Core.Bool.{Bool}
use mathlib.Core.List.{List, [], ◌∷◌, ◌++◌}
use Prim.Native.Nat.{ℕ, ◌≤◌}
use native.Mathlib.Omega.{arith}
use lib.ListN.{length}
use Rattle.tags.specs.rule.Tag.{tag_of}
use Rattle.tags.specs.declared.Held.{Held}
use Rattle.tags.specs.declared.Tag.{Tag}
use Rattle.tags.specs.declared.Tag.TheVariants as tag
use Rattle.survey.specs.rule.Survey.{Amount, Range, Line, Block}
use Rattle.reading.specs.rule.Result.{Result, Is, Not, bind}
use Rattle.reading.specs.rule.Least.{Charge, ◌when◌, judged}
use Rattle.reading.specs.rule.Values.{line_charges, range_from}
use Rattle.bridge.specs.Lowest.{never, Clear, none, clear}
use Rattle.xml_reading.specs.rule.Word.{VALUE, RANGE, CODE, FROM, TO}
use Rattle.xml_reading.specs.rule.Open.{unknown_at, on_tag, nothing}
use Rattle.xml_reading.specs.rule.Element.{Body, amount_in, body}
use Rattle.xml_reading.specs.rule.Block.{rich, pair_charges, range, line}
use Rattle.elements.specs.Code.{Slot}
use Rattle.blocks.specs.Lines.{Wording, line_from, wording}
use Rattle.blocks.proofs.Charges.{Late, judged_clear}
use Rattle.elements.proofs.Tags.{tag_tells, first_there, both_there}
use Rattle.blocks.proofs.Bodies.{nothing_passes, body_lies}
use Rattle.blocks.proofs.Steps.{line_is}

clear_first : (l m : List Charge) → Clear (l ++ m) → Clear l
clear_first [] m c = none
clear_first (f when q ∷ l) m (clear e c) = clear e (clear_first l m c)

clear_behind : (l m : List Charge) → Clear (l ++ m) → Clear m
clear_behind [] m c = c
clear_behind (f when q ∷ l) m (clear e c) = clear_behind l m c

clear_rest : {f : Charge} {m : List Charge} → Clear (f ∷ m) → Clear m
clear_rest (clear e c) = c

-- a value that stood in a stretch of its form
pub record Stood (d : List ℕ) (a : Amount) : Type 0 where
  pub from : ℕ
  pub to : ℕ
  pub slot : Slot d 2 from to
  pub says : a ≡ amount_in d from to

module _ (bad : Bool) (d : List ℕ) where
  -- ---- a line that was read
  pub record Worded (w : Wording) (n : ℕ) : Type 0 where
    pub value : Stood d w.value
    pub place : w.text.place ≤ length d
    pub short : w.text.length ≤ length d
    pub late : Late 51 w.charges
    pub ends : Clear w.charges → n ≤ length d

  abbrev word_of : Held → Body → Wording
  word_of h t = record { value = amount_in d h.a h.ae; text = t.text; charges = unknown_at h.unknown ∷ t.charges }

  pub word_told : (languages : Bool) (p e : ℕ) {w : Wording} {n : ℕ} → e ≤ length d → wording bad d languages p e ≡ Is w n → Worded w n
  unfolding wording
  word_told languages p e {w} {n} l = by (tag_of bad d p e CODE [] [] 2 0 0 1) refl where
    on : (h : Held) (empty : Bool) (q m : ℕ) (r : Result Body) → tag_of bad d p e CODE [] [] 2 0 0 1 ≡ tag.Read h empty q m
        → body bad d VALUE (rich languages) empty m ≡ r → bind r (λ t n. Is (word_of h t) n) ≡ Is w n → Worded w n
    on h empty q m (Is t k) i j f =
        let s = tag_tells d 2 0 0 bad p e CODE [] [] 1 i in
        let b = body_lies bad d (rich languages) empty m s.next j in
        let x : word_of h t ≡ w = cc in
        let y : k ≡ n = cc in
        rw (← x, ← y)
        (record {
          value = record { from = h.a; to = h.ae; slot = first_there d 2 0 0 s; says = refl };
          place = omega (arith, b.place, s.next);
          short = b.short;
          late = (refl, b.late);
          ends = λ c. b.ends (clear_rest c);
        })
    on h empty q m (Not g) i j f = never cc

    by : (t : Tag) → tag_of bad d p e CODE [] [] 2 0 0 1 ≡ t
        → on_tag bad d t (λ h empty q n. bind (body bad d VALUE (rich languages) empty n) (λ t n. Is (word_of h t) n)) ≡ Is w n → Worded w n
    by (tag.Read h empty q m) i f = on h empty q m (body bad d VALUE (rich languages) empty m) i refl f
    by (tag.Fault k q) i f = never cc

  pub record LineTold (quantity : Bool) (before : ℕ) (c : Block) (x : Line) (n : ℕ) : Type 0 where
    pub words : Wording
    pub is : x ≡ line_from words
    pub told : Worded words n
    pub clean : Clear (line_charges quantity before c x.value)
    pub next : n ≤ length d

  pub line_told : (languages quantity : Bool) (before : ℕ) (c : Block) (p e : ℕ) {x : Line} {n : ℕ} → e ≤ length d
      → line bad d languages quantity before c p e ≡ Is x n → LineTold quantity before c x n
  line_told languages quantity before c p e {x} {n} l f =
      by (wording bad d languages p e) refl (sym (line_is bad d languages quantity before c p e) ∙ f)
    where
      by : (r : Result Wording) → wording bad d languages p e ≡ r
          → bind r (λ w. judged (line_charges quantity before c w.value ++ w.charges) (line_from w)) ≡ Is x n
          → LineTold quantity before c x n
      by (Is w m) i g =
          let t = word_told languages p e l i in
          let k = judged_clear (line_charges quantity before c w.value ++ w.charges) (line_from w) m g in
          let y = clear_behind (line_charges quantity before c w.value) w.charges k.0 in
          rw (k.1, k.2)
          (record {
            words = w;
            is = refl;
            told = t;
            clean = clear_first (line_charges quantity before c w.value) w.charges k.0;
            next = t.ends y;
          })
      by (Not f) i g = never cc

  -- ---- a range that was read
  pub record RangeTold (quantity : Bool) (r : Range) (n : ℕ) : Type 0 where
    pub from : Stood d r.from
    pub to : Stood d r.to
    pub clean : Clear (pair_charges quantity r.from r.to)
    pub next : n ≤ length d

  pub range_told : (quantity : Bool) (p e : ℕ) {r : Range} {n : ℕ} → e ≤ length d → range bad d quantity p e ≡ Is r n
      → RangeTold quantity r n
  unfolding range
  range_told quantity p e {r} {n} l = by (tag_of bad d p e FROM TO [] 2 2 0 2) refl where
    made : Held → Range
    made h = range_from (amount_in d h.a h.ae) (amount_in d h.b h.be)

    all : Held → List Charge → List Charge
    all h l = pair_charges quantity (made h).from (made h).to ++ unknown_at h.unknown ∷ l

    on : (h : Held) (empty : Bool) (q m : ℕ) (s : Result (List Charge)) → tag_of bad d p e FROM TO [] 2 2 0 2 ≡ tag.Read h empty q m
        → nothing bad d RANGE empty m ≡ s → bind s (λ l. judged (all h l) (made h)) ≡ Is r n → RangeTold quantity r n
    on h empty q m (Is c k) i j f =
        let s = tag_tells d 2 2 0 bad p e FROM TO [] 2 i in
        let b = nothing_passes bad d RANGE empty m s.next j in
        let t = both_there d 2 2 0 s in
        let y = judged_clear (all h c) (made h) k f in
        let z = clear_behind (pair_charges quantity (made h).from (made h).to) (unknown_at h.unknown ∷ c) y.0 in
        rw (y.1, y.2)
        (record {
          from = record { from = h.a; to = h.ae; slot = t.0; says = refl };
          to = record { from = h.b; to = h.be; slot = t.1; says = refl };
          clean = clear_first (pair_charges quantity (made h).from (made h).to) (unknown_at h.unknown ∷ c) y.0;
          next = b.ends (clear_rest z);
        })
    on h empty q m (Not g) i j f = never cc

    by : (t : Tag) → tag_of bad d p e FROM TO [] 2 2 0 2 ≡ t
        → on_tag bad d t (λ h empty q n. bind (nothing bad d RANGE empty n) (λ l. judged (all h l) (made h))) ≡ Is r n
        → RangeTold quantity r n
    by (tag.Read h empty q m) i f = on h empty q m (nothing bad d RANGE empty m) i refl f
    by (tag.Fault k q) i f = never cc
