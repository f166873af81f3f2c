-- A text that was read lies within the file.
use Rattle.std.specs.Prelude.{Ok, Err}
use mathlib.Core.Path.{◌≡◌, refl, ◌∙◌, sym}
use mathlib.Core.Bool.{Bool, true, false}
use mathlib.Core.List.{List, [], ◌∷◌}
use Prim.Native.Nat.{ℕ, ◌+◌, ◌≤◌}
use native.Mathlib.Omega.{arith}
use lib.Dec.{eqb}
use lib.ListN.{length}
use borrow.Author.Tests.{eqb-true, not-false}
use Rattle.contents.specs.rule.Content.{content_of}
use Rattle.contents.specs.declared.Content.{Content}
use Rattle.contents.specs.declared.Content.TheVariants as content
use Rattle.tags.specs.declared.Tag.{Tag}
use Rattle.tags.specs.declared.Tag.TheVariants as tag
use Rattle.pairs.specs.rule.Stand.{bare_of}
use Rattle.tokens.specs.declared.Fault.{Fault}
use Rattle.tokens.specs.declared.Quoted.{Quoted}
use Rattle.survey.specs.rule.Survey.{KeptText}
use Rattle.reading.specs.rule.Result.{Result, Is, Not, Reader, bind}
use Rattle.reading.specs.rule.Least.{Charge, ◌when◌, judged}
use Rattle.bridge.specs.Lowest.{never, Clear, clear, Judged, fine, faulty, judged_view}
use Rattle.xml_reading.specs.rule.Open.{unknown_at, on_tag}
use Rattle.xml_reading.specs.rule.Element.{Body, body_of, on_content, body, text}
use Rattle.elements.specs.Code.{phrase_of}
use Rattle.elements.proofs.Bounds.{tag_within, content_within}
use Rattle.filters.specs.Code.{text_at}
use Rattle.tokens.specs.rule.Gap.{OrFault}

-- ---- readers one behind the other
pub record Bound {A B : Type 0} (r : Result A) (k : A → Reader B) (b : B) (n : ℕ) : Type 0 where
  pub value : A
  pub place : ℕ
  pub first_is : r ≡ Is value place
  pub then_is : k value place ≡ Is b n

pub bound : {A B : Type 0} (r : Result A) (k : A → Reader B) (b : B) (n : ℕ) → bind r k ≡ Is b n → Bound r k b n
bound (Is a m) k b n e = record { value = a; place = m; first_is = refl; then_is = e }
bound (Not f) k b n e = never cc

pub judged_is : {A : Type 0} (l : List Charge) (a : A) (n : ℕ) {b : A} {m : ℕ} → judged l a n ≡ Is b m → (a ≡ b) × (n ≡ m) × Clear l
judged_is l a n e = on (judged_view l a n) e where
  on : {r : Result _} {b : _} {m : ℕ} → Judged l a n r → r ≡ Is b m → (a ≡ b) × (n ≡ m) × Clear l
  on (fine c) e = (cc, cc, c)
  on faulty e = never cc

clear_tail : {f : Fault} {q : Bool} {l : List Charge} → Clear (f when q ∷ l) → Clear l
clear_tail (clear e r) = r

-- 51 that is not named has no place
no_place : {p : ℕ} {l : List Charge} → Clear (unknown_at p ∷ l) → p ≡ 0
no_place {p} (clear e r) = eqb-true p 0 (not-false (eqb p 0) e)

module _ (bad : Bool) (d : List ℕ) where
  pub record Lies (t : KeptText) (n : ℕ) : Type 0 where
    pub inside : t.place + t.length ≤ length d
    pub next : n ≤ length d

  body_lies : (w : List ℕ) (m : ℕ) (em : Bool) (n : ℕ) {b : Body} {k : ℕ} → n ≤ length d → body bad d w m em n ≡ Is b k → Clear b.charges
      → Lies b.text k
  unfolding body
  body_lies w m true n {b} {k} h e c =
      let q : body_of n n true [] ≡ b = cc in
      let o : n ≡ k = cc in
      rw (← q, ← o) (record { inside = omega arith; next = h })
  body_lies w m false n {b} {k} h e c = by (content_of bad d m w n) refl e where
    by : (r : Content) → content_of bad d m w n ≡ r → on_content n r ≡ Is b k → Lies b.text k
    by (content.Read z j u) i e =
        let q : body_of n z true (unknown_at u ∷ []) ≡ b = cc in
        let o : j ≡ k = cc in
        let l = content_within bad d m w n z j u h i in
        rw (← q, ← o) (record { inside = omega (arith, l.0, l.1, l.2); next = l.2 })
    by (content.Cut p u) i e =
        let q : body_of n n false (unknown_at u ∷ unknown_at p ∷ []) ≡ b = cc in
        let o : p ≡ k = cc in
        let z : p ≡ 0 = no_place (clear_tail (rw (← q) at c)) in
        rw (← q, ← o) (record { inside = omega arith; next = omega arith })
    by (content.Fault j p) i e = never cc

  lies_same : {t u : KeptText} {n k : ℕ} → t ≡ u → n ≡ k → Lies t n → Lies u k
  lies_same e f x = rw (← e, ← f) x

  pub text_lies : (w : List ℕ) (m p e : ℕ) {t : KeptText} {n : ℕ} → text bad d w m p e ≡ Is t n → Lies t n
  unfolding text
  text_lies w m p e {t} {n} f = on (bare_of bad d p e) refl f where
    on : (g : Tag) → bare_of bad d p e ≡ g
        → on_tag bad d g (λ h empty q n. bind (body bad d w m empty n) (λ b. judged (unknown_at h.unknown ∷ b.charges) b.text))
        ≡ Is t n → Lies t n
    on (tag.Read h em q k) i f =
        let b = bound (body bad d w m em k) _ t n f in
        let j = judged_is (unknown_at h.unknown ∷ b.value.charges) b.value.text b.place b.then_is in
        lies_same j.0 j.1 (body_lies w m em k (tag_within bad d p [] [] [] 0 0 0 0 e h em q k i).2 b.first_is (clear_tail j.2))
    on (tag.Fault j q) i f = never cc

  -- as the code has it
  pub record TextIs (w : List ℕ) (m p e : ℕ) (q : Quoted) : Type 0 where
    pub reads : text bad d w m p e ≡ Is (text_at q.place q.length) q.next
    pub inside : q.place + q.length ≤ length d
    pub next : q.next ≤ length d

  phrase_is : (r : Result KeptText) (q : Quoted) → phrase_of r ≡ Ok q → r ≡ Is (text_at q.place q.length) q.next
  phrase_is (Is t n) q e = let z : record { place = t.place; length = t.length; next = n } ≡ q = cc in rw (← z)
  phrase_is (Not f) q e = never cc

  phrase_not : (r : Result KeptText) (f : Fault) → phrase_of r ≡ Err f → r ≡ Not f
  phrase_not (Is t n) f e = never cc
  phrase_not (Not g) f e = cc

  pub text_is : (w : List ℕ) (m p e : ℕ) {r : OrFault Quoted} {q : Quoted} → r ≡ phrase_of (text bad d w m p e) → r ≡ Ok q
      → TextIs w m p e q
  text_is w m p e {q = q} s f =
      let g = phrase_is (text bad d w m p e) q (sym s ∙ f) in
      let l = text_lies w m p e g in
      record { reads = g; inside = l.inside; next = l.next }

  pub text_not : (w : List ℕ) (m p e : ℕ) {r : OrFault Quoted} {f : Fault} → r ≡ phrase_of (text bad d w m p e) → r ≡ Err f
      → text bad d w m p e ≡ Not f
  text_not w m p e {f = f} s g = phrase_not (text bad d w m p e) f (sym s ∙ g)
