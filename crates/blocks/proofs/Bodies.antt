-- Where an element that was read ends, and where its text lies: inside.
use mathlib.Core.Path.{◌≡◌, refl}
use mathlib.Core.Bool.{Bool, true, false, cond}
use mathlib.Core.List.{List, [], ◌∷◌}
use Prim.Native.Nat.{ℕ, ◌≤◌}
use native.Mathlib.Omega.{arith}
use lib.Dec.{eqb}
use lib.ListN.{length}
use borrow.Author.Tests.{eqb-true, not-false}
use Rattle.markup.specs.rule.Bytes.{starts_name, of_kind, is_name, is_digit}
use Rattle.markup.specs.rule.Grammar.{each, no_more}
use Rattle.pairs.specs.rule.Grammar.{Name, name}
use Rattle.pairs.specs.rule.Pair.{pair_of}
use Rattle.pairs.specs.declared.Pair.{Pair}
use Rattle.pairs.specs.declared.Pair.TheVariants as pair
use Rattle.pairs.proofs.Lies.{lies_within}
use Rattle.pairs.proofs.Ends.{pair_sound}
use Rattle.contents.specs.rule.Content.{content_of}
use Rattle.contents.specs.declared.Content.{Content}
use Rattle.contents.specs.declared.Content.TheVariants as content
use Rattle.contents.proofs.Exactly.{content_exactly}
use Rattle.reading.specs.rule.Result.{Is}
use Rattle.reading.specs.rule.Least.{Charge}
use Rattle.bridge.specs.Lowest.{never, Clear, clear}
use Rattle.xml_reading.specs.rule.Word.{VALUE}
use Rattle.xml_reading.specs.rule.Open.{unknown_at, on_pair, nothing}
use Rattle.xml_reading.specs.rule.Element.{Body, body_of, on_content, body}
use Rattle.blocks.proofs.Charges.{Late}

value_name : Name VALUE
unfolding starts_name of_kind is_name is_digit
value_name = name refl (each refl (each refl (each refl (each refl no_more))))

-- a place of 51 that is not named is 0
cut_none : {p : ℕ} {l : List Charge} → Clear (unknown_at p ∷ l) → p ≡ 0
cut_none {p} (clear e c) = eqb-true p 0 (not-false (eqb p 0) e)

cut_rest : {p : ℕ} {l : List Charge} → Clear (unknown_at p ∷ l) → Clear l
cut_rest (clear e c) = c

module _ (bad : Bool) (d : List ℕ) where
  -- ---- an element that holds nothing
  pub record Passes (l : List Charge) (m : ℕ) : Type 0 where
    pub ends : Clear l → m ≤ length d
    pub late : Late 51 l

  pub nothing_passes : (w : List ℕ) (empty : Bool) (n : ℕ) {l : List Charge} {m : ℕ} → n ≤ length d → nothing bad d w empty n ≡ Is l m
      → Passes l m
  unfolding nothing
  nothing_passes w empty n {l} {m} h = by empty where
    on : (r : Pair) → pair_of bad d n w ≡ r → on_pair bad d r ≡ Is l m → Passes l m
    on (pair.Past k) q e =
        let z : k ≡ m = cc in
        let y : [] ≡ l = cc in
        rw (← z, ← y) (record { ends = λ c. lies_within (pair_sound bad d w n k q).lies h; late = tt })
    on (pair.Cut p) q e =
        let z : p ≡ m = cc in
        let y : unknown_at p ∷ [] ≡ l = cc in
        rw (← z, ← y) (record { ends = λ c. let s = cut_none c in omega arith; late = (refl, tt) })
    on (pair.Fault k p) q e = never cc

    by : (x : Bool) → cond x (Is [] n) (on_pair bad d (pair_of bad d n w)) ≡ Is l m → Passes l m
    by true e =
        let z : n ≡ m = cc in
        let y : [] ≡ l = cc in
        rw (← z, ← y) (record { ends = λ c. h; late = tt })
    by false e = on (pair_of bad d n w) refl e

  -- ---- a text
  pub record Lies (n : ℕ) (t : Body) (m : ℕ) : Type 0 where
    pub place : t.text.place ≡ n
    pub short : t.text.length ≤ length d
    pub ends : Clear t.charges → m ≤ length d
    pub late : Late 51 t.charges

  pub body_lies : (k : ℕ) (empty : Bool) (n : ℕ) {t : Body} {m : ℕ} → n ≤ length d → body bad d VALUE k empty n ≡ Is t m → Lies n t m
  unfolding body
  body_lies k empty n {t} {m} h = by empty where
    on : (r : Content) → content_of bad d k VALUE n ≡ r → on_content n r ≡ Is t m → Lies n t m
    on (content.Read e j u) q f =
        let x = (content_exactly false bad d k VALUE n e j u value_name).0 q in
        let i = lies_within x.lies h in
        let o = lies_within x.ends.lies i in
        let y : body_of n e true (unknown_at u ∷ []) ≡ t = cc in
        let z : j ≡ m = cc in
        rw (← y, ← z) (record { place = refl; short = omega arith; ends = λ c. o; late = (refl, tt) })
    on (content.Cut p u) q f =
        let y : body_of n n false (unknown_at u ∷ unknown_at p ∷ []) ≡ t = cc in
        let z : p ≡ m = cc in
        rw (← y, ← z) (record {
          place = refl;
          short = omega arith;
          ends = λ c. let s = cut_none (cut_rest c) in
              omega arith;
          late = (refl, (refl, tt));
        })
    on (content.Fault j p) q f = never cc

    by : (x : Bool) → cond x (Is (body_of n n true []) n) (on_content n (content_of bad d k VALUE n)) ≡ Is t m → Lies n t m
    by true e =
        let y : body_of n n true [] ≡ t = cc in
        let z : n ≡ m = cc in
        rw (← y, ← z) (record { place = refl; short = omega arith; ends = λ c. h; late = tt })
    by false e = on (content_of bad d k VALUE n) refl e
