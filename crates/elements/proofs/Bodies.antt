-- What the answers of the code say of the rule's: elements that hold nothing, and texts.
use Rattle.std.specs.Prelude.{Ok, Err}
use mathlib.Core.Path.{◌≡◌, refl, sym, ap, ◌∙◌}
use mathlib.Core.Bool.{Bool, true, false, cond}
use mathlib.Core.List.{List, [], ◌∷◌}
use Prim.Native.Nat.{ℕ, ◌+◌, ◌-◌, ◌≤◌}
use native.Mathlib.Omega.{arith}
use lib.ListN.{length}
use Rattle.tokens.specs.declared.Fault.{Fault}
use Rattle.pairs.specs.declared.Pair.{Pair}
use Rattle.pairs.specs.declared.Pair.TheVariants as pair
use Rattle.pairs.specs.rule.Pair.{pair_of}
use Rattle.contents.specs.declared.Content.{Content}
use Rattle.contents.specs.declared.Content.TheVariants as content
use Rattle.contents.specs.rule.Content.{content_of}
use Rattle.ranks.specs.declared.Found.{Found}
use Rattle.ranks.specs.rule.Rank.{found_at, lower_found}
use Rattle.reading.specs.rule.Result.{Result, Is, Not, bind}
use Rattle.reading.specs.rule.Least.{Charge, judged}
use Rattle.xml_reading.specs.rule.Open as rule
use Rattle.xml_reading.specs.rule.Element as element
use Rattle.elements.specs.declared.Body.{Body}
use Rattle.elements.specs.declared.Passed.TheVariants as passed
use Rattle.elements.specs.Code.{found_of, ruled, Numbered, passed_of, bodied_of, phrase_of, Tells}
use Rattle.elements.proofs.Ranking.{found_behind, judged_ruled}
use Rattle.elements.proofs.Bounds.{content_within}
use Rattle.tokens.specs.rule.Gap.{OrFault}

never : {A : Type 0} → ◌≡◌ {A = ℕ} 0 1 → A
never z = absurd (omega arith)

-- ---- elements that hold nothing
pub record PassedIs (r : Result (List Charge)) (x : Found) (n : ℕ) : Type 0 where
  pub charges : List Charge
  pub reads : r ≡ Is charges n
  pub found : found_of charges ≡ x

pub passed_is : (r : Result (List Charge)) {x : Found} {n : ℕ} → passed_of r ≡ passed.Is x n → PassedIs r x n
passed_is (Is l m) {x} {n} e = let i : m ≡ n = cc in record { charges = l; reads = ap (Is l) i; found = cc }
passed_is (Not f) e = never cc

pub passed_refused : (r : Result (List Charge)) {f : Fault} → passed_of r ≡ passed.Not f → r ≡ Not f
passed_refused (Is l m) e = never cc
passed_refused (Not g) {f} e = let i : g ≡ f = cc in ap Not i

pub nothing_numbered : (bad : Bool) (d w : List ℕ) (em : Bool) (n : ℕ) {l : List Charge} {k : ℕ} → rule.nothing bad d w em n ≡ Is l k
    → Numbered l
unfolding rule.nothing
nothing_numbered bad d w em n {l} {k} f = by em (pair_of bad d n w) f where
  is : {m : List Charge} {j : ℕ} → Numbered m → ◌≡◌ {A = Result (List Charge)} (Is m j) (Is l k) → Numbered l
  is {m} h e = let i : m ≡ l = cc in rw (← i) h

  by : (em : Bool) (p : Pair) → cond em (Is [] n) (rule.on_pair bad d p) ≡ Is l k → Numbered l
  by true p e = is tt e
  by false (pair.Past m) e = is tt e
  by false (pair.Cut p) e = is (omega arith, tt) e
  by false (pair.Fault j p) e = never cc

-- ---- texts
pub record BodyIs (r : Result element.Body) (b : Body) : Type 0 where
  pub body : element.Body
  pub reads : r ≡ Is body b.next
  pub text : body.text ≡ record { place = b.place; length = b.length }
  pub whole : body.whole ≡ b.whole
  pub found : found_of body.charges ≡ b.found

abbrev held_by : element.Body → ℕ → Body
held_by x n = record { place = x.text.place; length = x.text.length; whole = x.whole; found = found_of x.charges; next = n }

pub body_is : (r : Result element.Body) {b : Body} → bodied_of r ≡ Ok b → BodyIs r b
body_is (Is x n) {b} e = by b inside where
  inside : held_by x n ≡ b
  inside = cc

  by : (b : Body) → held_by x n ≡ b → BodyIs (Is x n) b
  by b e = rw (← e) (record { body = x; reads = refl; text = refl; whole = refl; found = refl })
body_is (Not f) e = never cc

pub body_refused : (r : Result element.Body) {f : Fault} → bodied_of r ≡ Err f → r ≡ Not f
body_refused (Is b n) e = never cc
body_refused (Not g) {f} e = let i : g ≡ f = cc in ap Not i

pub body_numbered : (bad : Bool) (d w : List ℕ) (m : ℕ) (em : Bool) (n : ℕ) {b : element.Body} {k : ℕ} → element.body bad d w m em n
    ≡ Is b k → Numbered b.charges
unfolding element.body
body_numbered bad d w m em n {b} {k} f = by em (content_of bad d m w n) f where
  is : {x : element.Body} {j : ℕ} → Numbered x.charges → ◌≡◌ {A = Result element.Body} (Is x j) (Is b k) → Numbered b.charges
  is {x} h e = let i : x ≡ b = cc in rw (← i) h

  by : (em : Bool) (c : Content) → cond em (Is (element.body_of n n true []) n) (element.on_content n c) ≡ Is b k → Numbered b.charges
  by true c e = is tt e
  by false (content.Read e' n' u) e = is (omega arith, tt) e
  by false (content.Cut p u) e = is (omega arith, (omega arith, tt)) e
  by false (content.Fault j p) e = never cc

-- what the code holds of a text that was read
pub body_tells : (bad : Bool) (d w : List ℕ) (m : ℕ) (em : Bool) (n : ℕ) {b : Body} (t : BodyIs (element.body bad d w m em n) b)
    → Tells t.body b
body_tells bad d w m em n t = record {
  text = t.text;
  whole = t.whole;
  found = t.found;
  numbered = body_numbered bad d w m em n
      t.reads;
}

-- an attribute that isn't known, before other charges
pub behind_found : (u : ℕ) (l : List Charge) {x y : Found} → Numbered l → found_of l ≡ y → x ≡ lower_found (found_at 51 u) y → x
    ≡ found_of (rule.unknown_at u ∷ l)
behind_found u l {x} {y} h i j = j ∙ sym (found_behind u l h ∙ ap (λ (z : Found). lower_found (found_at 51 u) z) i)

-- an element that is only a text
module _ (bad : Bool) (d w : List ℕ) (m : ℕ) (em : Bool) (n : ℕ) (u : ℕ) (b : Body)
    (e : bodied_of (element.body bad d w m em n) ≡ Ok b) where
  pub text_said : (y : Found) → y ≡ lower_found (found_at 51 u) b.found
      → phrase_of (ruled y (record { place = b.place; length = b.length }) b.next)
      ≡ phrase_of (bind (element.body bad d w m em n) λ t. judged (rule.unknown_at u ∷ t.charges) t.text)
  text_said y j =
      let t = body_is (element.body bad d w m em n) e in
      let h = body_numbered bad d w m em n t.reads in
      let c = t.body in
      let k = behind_found u c.charges h t.found j in
      rw (t.reads, judged_ruled (rule.unknown_at u ∷ c.charges) c.text b.next (omega arith, h), ← k, t.text)

-- a text lies inside; one that is cut is empty
lies_from : (at e n : ℕ) → at ≤ e → e ≤ n → at + (e - at) ≤ n
lies_from at e n h i = omega arith

abbrev pub Kept : List ℕ → Body → Type 0
Kept d b = (b.place + b.length ≤ length d) × (b.whole ≡ false → b.length ≡ 0)

pub body_lies : (bad : Bool) (d w : List ℕ) (m : ℕ) (em : Bool) (n : ℕ) {b : Body} → n ≤ length d → bodied_of (element.body bad d w m em n)
    ≡ Ok b
    → Kept d b
unfolding element.body
body_lies bad d w m em n {b} h f = by em (content_of bad d m w n) refl f where
  is : {x : Body} → Kept d x → ◌≡◌ {A = OrFault Body} (Ok x) (Ok b) → Kept d b
  is {x} h e = let i : x ≡ b = cc in rw (← i) h

  by : (em : Bool) (c : Content) → content_of bad d m w n ≡ c
      → bodied_of (cond em (Is (element.body_of n n true []) n) (element.on_content n c)) ≡ Ok b → Kept d b
  by true c g e = is (omega arith, λ i. omega arith) e
  by false (content.Read e' n' u) g e =
      let t = content_within bad d m w n e' n' u h g in
      let p = t.1 in
      let q = t.2 in
      is (lies_from n e' (length d) t.0 (omega arith), λ i. never (absurd_true i)) e where
        absurd_true : true ≡ false → ◌≡◌ {A = ℕ} 0 1
        absurd_true i = cc
  by false (content.Cut p u) g e = is (omega arith, λ i. omega arith) e
  by false (content.Fault j p) g e = never cc
