-- GOODS: what is known of an element that was accepted: where it ends, that nothing cuts it, and the bounds of its numbers, which are held
-- in
-- full.
use mathlib.Core.Path.{◌≡◌, refl, sym, ap, ◌∙◌}
use mathlib.Core.Bool.{Bool, true, false, cond, not}
use mathlib.Core.List.{List, [], ◌∷◌, ◌++◌}
use mathlib.Core.Option.{Option, none, some, get_or}
use Prim.Native.Nat.{ℕ, zero, suc, ◌+◌, ◌-◌, ◌≤◌, ◌<◌, ◌%◌}
use native.Mathlib.Omega.{arith}
use lib.Dec.{eqb}
use lib.ListN.{length, take, drop}
use borrow.Author.Tests.{eqb-true, ltb-false}
use Rattle.tags.specs.declared.Held.{Held}
use Rattle.tags.specs.declared.Tag.{Tag}
use Rattle.tags.specs.declared.Tag.TheVariants as tag
use Rattle.tags.specs.rule.Tag.{tag_of}
use Rattle.pairs.specs.declared.Pair.{Pair}
use Rattle.pairs.specs.declared.Pair.TheVariants as pair
use Rattle.pairs.specs.rule.Pair.{pair_of}
use Rattle.pairs.specs.rule.Stand.{bare_of}
use Rattle.contents.specs.declared.Content.{Content}
use Rattle.contents.specs.declared.Content.TheVariants as content
use Rattle.contents.specs.rule.Content.{content_of}
use Rattle.spans.specs.rule.Heard.{heard}
use Rattle.forms.specs.rule.Form.{fits_of}
use Rattle.tokens.specs.declared.Fault.{Fault}
use Rattle.tokens.specs.rule.Gap.{fault}
use Rattle.survey.specs.rule.Survey.{Figure, KeptText, Spread}
use Rattle.reading.specs.rule.Result.{Result, Is, Not, bind}
use Rattle.reading.specs.rule.Least.{Charge, ◌when◌, judged}
use Rattle.reading.specs.rule.Statement.{Position, position_charges, spread_charges, size_charges}
use Rattle.bridge.specs.Lowest.{Clear, Judged, fine, faulty, judged_view}
use Rattle.bridge.specs.Lowest as clear
use Rattle.xml_reading.specs.rule.Word.{POSITION, START, FINISH, SPREAD, SUBFIELDS, WIDTH, SIZE}
use Rattle.xml_reading.specs.rule.Open.{unknown_at, on_tag, on_pair, nothing}
use Rattle.xml_reading.specs.rule.Element.{Body, body_of, on_content, body, text, figure_of, given_at, position, spread, size_in, size}
use Rattle.elements.specs.Code.{position_judged, position_behind, spread_judged, spread_behind}
use Rattle.elements.proofs.Bounds.{tag_within, content_within}
use Rattle.elements.proofs.Cuts.{pair_cut, pair_past, content_cut}

never : {A : Type 0} → ◌≡◌ {A = ℕ} 0 1 → A
never z = absurd (omega arith)

-- ---- what is judged with nothing at fault
pub record Fine {A : Type 0} (l : List Charge) (a x : A) (n k : ℕ) : Type 0 where
  pub same : a ≡ x
  pub place : n ≡ k
  pub clears : Clear l

pub judged_fine : {A : Type 0} (l : List Charge) (a : A) (n : ℕ) {x : A} {k : ℕ} → judged l a n ≡ Is x k → Fine l a x n k
judged_fine {A} l a n {x} {k} e = by (judged_view l a n) e where
  by : {r : Result A} → Judged l a n r → r ≡ Is x k → Fine l a x n k
  by (fine c) e = record { same = cc; place = cc; clears = c }
  by faulty e = never cc

first_clear : {f : Fault} {q : Bool} {l : List Charge} → Clear (f when q ∷ l) → (q ≡ false) × Clear l
first_clear (clear.clear e c) = (e, c)

join_clear : (l m : List Charge) → Clear (l ++ m) → Clear l × Clear m
join_clear [] m c = (clear.none, c)
join_clear (f when q ∷ l) m c = let t = first_clear c in let u = join_clear l m t.1 in (clear.clear t.0 u.0, u.1)

positive : (n : ℕ) → eqb n 0 ≡ false → 0 < n
positive zero e = never cc
positive (suc n) e = omega arith

-- 51 at a place that is there is named
unknown_named : (p : ℕ) {l : List Charge} → 0 < p → Clear (unknown_at p ∷ l) → ⊥
unknown_named p h c = by (eqb p 0) refl (first_clear c).0 where
  by : (q : Bool) → eqb p 0 ≡ q → not q ≡ false → ⊥
  by true e f = let i = eqb-true p 0 e in omega arith
  by false e f = never cc

-- ---- elements that hold nothing
module _ (bad : Bool) (d w : List ℕ) (em : Bool) (n : ℕ) where
  pub nothing_within : {l : List Charge} {k : ℕ} → n ≤ length d → nothing bad d w em n ≡ Is l k → (n ≤ k) × (k ≤ length d)
  unfolding nothing
  nothing_within {l} {k} h f = by em (pair_of bad d n w) refl f where
    by : (em : Bool) (p : Pair) → pair_of bad d n w ≡ p → cond em (Is [] n) (on_pair bad d p) ≡ Is l k → (n ≤ k) × (k ≤ length d)
    by true p g f = let i : n ≡ k = cc in (omega arith, omega arith)
    by false (pair.Past m) g f = let i : m ≡ k = cc in pair_past bad d w n k h (g ∙ ap pair.Past i)
    by false (pair.Cut p) g f =
        let i : p ≡ k = cc in
        let t = pair_cut bad d w n k (g ∙ ap pair.Cut i) in
        (t.0, omega (arith, t.1))
    by false (pair.Fault j p) g f = never cc

-- ---- texts
-- it lies behind `at` and ends before k; nothing cuts it
pub record Lain (d : List ℕ) (at : ℕ) (b : Body) (k : ℕ) : Type 0 where
  pub starts : b.text.place ≡ at
  pub ends : at + b.text.length ≤ k
  pub within : k ≤ length d
  pub whole : b.whole ≡ true

module _ (bad : Bool) (d w : List ℕ) (m : ℕ) (em : Bool) (n : ℕ) where
  pub body_within : {b : Body} {k : ℕ} → n ≤ length d → body bad d w m em n ≡ Is b k → (n ≤ k) × (k ≤ length d)
  unfolding body
  body_within {b} {k} h f = by em (content_of bad d m w n) refl f where
    by : (em : Bool) (c : Content) → content_of bad d m w n ≡ c → cond em (Is (body_of n n true []) n) (on_content n c) ≡ Is b k → (n ≤ k)
        × (k ≤ length d)
    by true c g f = let i : n ≡ k = cc in (omega arith, omega arith)
    by false (content.Read e q u) g f =
        let i : q ≡ k = cc in
        let t = content_within bad d m w n e q u h g in
        (omega (arith, t.0, t.1), omega (arith, t.2))
    by false (content.Cut p u) g f =
        let i : p ≡ k = cc in
        let t = content_cut bad d m w n p u h g in
        (omega (arith, t.0), omega (arith, t.1))
    by false (content.Fault j p) g f = never cc

  pub body_lain : {b : Body} {k : ℕ} → 0 < n → n ≤ length d → Clear b.charges → body bad d w m em n ≡ Is b k → Lain d n b k
  unfolding body
  body_lain {b} {k} o h c f = by em (content_of bad d m w n) refl f where
    to : {x : Body} {j : ℕ} → Lain d n x j → x ≡ b → j ≡ k → Lain d n b k
    to l e i = rw (← e, ← i) l

    cut : (p u : ℕ) → content_of bad d m w n ≡ content.Cut p u → body_of n n false (unknown_at u ∷ unknown_at p ∷ []) ≡ b → Lain d n b k
    cut p u g e =
        let t = content_cut bad d m w n p u h g in
        let s = (first_clear (rw (← e) at c)).1 in
        absurd (unknown_named p (omega (arith, t.0)) s)

    by : (em : Bool) (c : Content) → content_of bad d m w n ≡ c → cond em (Is (body_of n n true []) n) (on_content n c) ≡ Is b k
        → Lain d n b k
    by true c g f =
        let i : body_of n n true [] ≡ b = cc in
        let j : n ≡ k = cc in
        to {x = body_of n n true []} {j = n} (record { starts = refl; ends = omega arith; within = h; whole = refl }) i j
    by false (content.Read e q u) g f =
        let t = content_within bad d m w n e q u h g in
        let x = t.0 in
        let y = t.1 in
        let i : body_of n e true (unknown_at u ∷ []) ≡ b = cc in
        let j : q ≡ k = cc in
        to {x = body_of n e true (unknown_at u ∷ [])} {j = q} (record { starts = refl; ends = omega arith; within = t.2; whole = refl }) i j
    by false (content.Cut p u) g f = let i : body_of n n false (unknown_at u ∷ unknown_at p ∷ []) ≡ b = cc in cut p u g i
    by false (content.Fault j p) g f = never cc

-- an element that is only a text: it lies behind its start tag, whose name ends at e, and before k
pub record TextGood (d : List ℕ) (e : ℕ) (t : KeptText) (k : ℕ) : Type 0 where
  pub starts : e < t.place
  pub ends : t.place + t.length ≤ k
  pub within : k ≤ length d

pub text_good : (bad : Bool) (d w : List ℕ) (m p e : ℕ) {t : KeptText} {k : ℕ} → text bad d w m p e ≡ Is t k → TextGood d e t k
unfolding text
text_good bad d w m p e {t} {k} f = on (bare_of bad d p e) refl f where
  inner : (h : Held) (n : ℕ) (r : Result Body) → (em : Bool) → e < n → n ≤ length d → body bad d w m em n ≡ r
      → bind r (λ b. judged (unknown_at h.unknown ∷ b.charges) b.text) ≡ Is t k → TextGood d e t k
  inner h n (Is b j) em i o g f =
      let s = judged_fine (unknown_at h.unknown ∷ b.charges) b.text j f in
      let l = body_lain bad d w m em n (omega arith) o (first_clear s.clears).1 g in
      let a = l.starts in
      let c = l.ends in
      let q = l.within in
      let y = s.place in
      rw (← s.same) (record { starts = omega arith; ends = omega arith; within = omega arith })
  inner h n (Not f') em i o g f = never cc

  on : (r : Tag) → bare_of bad d p e ≡ r → on_tag bad d r
      (λ h em q n. bind (body bad d w m em n) (λ b. judged (unknown_at h.unknown ∷ b.charges) b.text)) ≡ Is t k → TextGood d e t k
  on (tag.Read h em q n) g f =
      let s = tag_within bad d p [] [] [] 0 0 0 0 e h em q n g in
      inner h n (body bad d w m em n) em (omega (arith, s.0, s.1)) s.2 refl f
  on (tag.Fault j q) g f = never cc

-- ---- positions
abbrev finish : Position → Figure
finish x = get_or x.finish x.start

pub record PositionGood (d : List ℕ) (e : ℕ) (x : Position) (k : ℕ) : Type 0 where
  pub low : 0 < x.start.value
  pub order : x.start.value ≤ (finish x).value
  pub high : (finish x).value ≤ 16384
  pub after : e < k
  pub within : k ≤ length d

module _ (a y : Figure) where
  record Located : Type 0 where
    pub low : 0 < a.value
    pub order : a.value ≤ y.value
    pub high : y.value ≤ 16384

  position_clear : Clear (position_charges a y) → Located
  unfolding position_charges
  position_clear c =
      let p = first_clear c in
      let q = first_clear p.1 in
      let r = first_clear q.1 in
      let s = first_clear r.1 in
      record { low = positive a.value p.0; order = ltb-false y.value a.value q.0; high = ltb-false 16384 y.value s.0 }

pub position_good : (bad : Bool) (d : List ℕ) (p e : ℕ) {x : Position} {k : ℕ} → position bad d p e ≡ Is x k → PositionGood d e x k
unfolding position
position_good bad d p e {x} {k} f = on (tag_of bad d p e START FINISH [] 1 1 0 1) refl f where
  inner : (h : Held) (n : ℕ) (em : Bool) (r : Result (List Charge)) → e < n → n ≤ length d → nothing bad d POSITION em n ≡ r
      → bind r (λ l. position_judged d h (unknown_at h.unknown ∷ l)) ≡ Is x k → PositionGood d e x k
  inner h n em (Is l j) i o g f =
      let a = figure_of d h.a h.ae in
      let b = given_at h.b (figure_of d h.b h.be) in
      let m = unknown_at h.unknown ∷ l in
      let s = judged_fine (position_charges a (get_or b a) ++ m) (record { start = a; finish = b }) j f in
      let c = position_clear a (get_or b a) (join_clear (position_charges a (get_or b a)) m s.clears).0 in
      let t = nothing_within bad d POSITION em n o g in
      let y = s.place in
      rw (← s.same) (record {
        low = c.low;
        order = c.order;
        high = c.high;
        after = omega (arith, t.0);
        within = omega (arith, t.1);
      })
  inner h n em (Not f') i o g f = never cc

  on : (r : Tag) → tag_of bad d p e START FINISH [] 1 1 0 1 ≡ r → on_tag bad d r (λ h em q. position_behind bad d h em) ≡ Is x k
      → PositionGood d e x k
  on (tag.Read h em q n) g f =
      let s = tag_within bad d p START FINISH [] 1 1 0 1 e h em q n g in
      inner h n em (nothing bad d POSITION em n) (omega (arith, s.0, s.1)) s.2 refl f
  on (tag.Fault j q) g f = never cc

-- ---- spreads
pub data Shared (room : ℕ) (n : Figure) : Option Figure → Type 0 where
  even : room % n.value ≡ 0 → Shared room n none
  fields : {w : Figure} → 0 < w.value → Shared room n (some w)

pub record SpreadGood (d : List ℕ) (room e : ℕ) (x : Spread) (k : ℕ) : Type 0 where
  pub some : 0 < x.count.value
  pub shared : Shared room x.count x.width
  pub after : e < k
  pub within : k ≤ length d

not_not : (q : Bool) → not q ≡ false → q ≡ true
not_not true e = refl
not_not false e = never cc

spread_clear : (room : ℕ) (n : Figure) (w : Option Figure) → Clear (spread_charges room n w) → (0 < n.value) × Shared room n w
unfolding spread_charges
spread_clear room n none c =
    let p = first_clear c in
    let q = first_clear p.1 in
    (positive n.value p.0, even (eqb-true (room % n.value) 0 (not_not (eqb (room % n.value) 0) q.0)))
spread_clear room n (some w) c =
    let p = first_clear c in
    let q = first_clear p.1 in
    (positive n.value p.0, fields (positive w.value q.0))

pub spread_good : (bad : Bool) (d : List ℕ) (room p e : ℕ) {x : Spread} {k : ℕ} → spread bad d room p e ≡ Is x k → SpreadGood d room e x k
unfolding spread
spread_good bad d room p e {x} {k} f = on (tag_of bad d p e SUBFIELDS WIDTH [] 1 1 0 1) refl f where
  inner : (h : Held) (n : ℕ) (em : Bool) (r : Result (List Charge)) → e < n → n ≤ length d → nothing bad d SPREAD em n ≡ r
      → bind r (λ l. spread_judged room (figure_of d h.a h.ae) (given_at h.b (figure_of d h.b h.be))
      (unknown_at h.unknown ∷ l)) ≡ Is x k → SpreadGood d room e x k
  inner h n em (Is l j) i o g f =
      let a = figure_of d h.a h.ae in
      let b = given_at h.b (figure_of d h.b h.be) in
      let m = unknown_at h.unknown ∷ l in
      let s = judged_fine (spread_charges room a b ++ m) (record { count = a; width = b }) j f in
      let c = spread_clear room a b (join_clear (spread_charges room a b) m s.clears).0 in
      let t = nothing_within bad d SPREAD em n o g in
      let y = s.place in
      rw (← s.same) (record { some = c.0; shared = c.1; after = omega (arith, t.0); within = omega (arith, t.1) })
  inner h n em (Not f') i o g f = never cc

  on : (r : Tag) → tag_of bad d p e SUBFIELDS WIDTH [] 1 1 0 1 ≡ r → on_tag bad d r (λ h em q. spread_behind bad d room h em) ≡ Is x k
      → SpreadGood d room e x k
  on (tag.Read h em q n) g f =
      let s = tag_within bad d p SUBFIELDS WIDTH [] 1 1 0 1 e h em q n g in
      inner h n em (nothing bad d SPREAD em n) (omega (arith, s.0, s.1)) s.2 refl f
  on (tag.Fault j q) g f = never cc

-- ---- sizes
pub record SizeGood (d : List ℕ) (e : ℕ) (x : Figure) (k : ℕ) : Type 0 where
  pub low : 0 < x.value
  pub high : x.value ≤ 4096
  pub after : e < k
  pub within : k ≤ length d

size_clear : (x : Figure) → Clear (size_charges x) → (0 < x.value) × (x.value ≤ 4096)
unfolding size_charges
size_clear x c =
    let p = first_clear c in
    let q = first_clear p.1 in
    (positive x.value p.0, ltb-false 4096 x.value q.0)

module _ (bad : Bool) (d : List ℕ) (e : ℕ) {x : Figure} {k : ℕ} where
  judged_size : (y : Figure) (u j : ℕ) (l : List Charge) → e < j → j ≤ length d → judged (size_charges y ++ unknown_at u ∷ l) y j ≡ Is x k
      → SizeGood d e x k
  judged_size y u j l i o f =
      let s = judged_fine (size_charges y ++ unknown_at u ∷ l) y j f in
      let c = size_clear y (join_clear (size_charges y) (unknown_at u ∷ l) s.clears).0 in
      let z = s.place in
      rw (← s.same) (record { low = c.0; high = c.1; after = omega arith; within = omega arith })

  size_body : (u n : ℕ) (em : Bool) (b : Body) (j : ℕ) → e < n → n ≤ length d → body bad d SIZE 0 em n ≡ Is b j → size_in bad d u b j
      ≡ Is x k → SizeGood d e x k
  unfolding size_in
  size_body u n em b j i o g f = by b.whole (fits_of 1 (heard (take (v + b.text.length - v) (drop v d)) 0)) refl f where
    v : ℕ
    v = b.text.place

    y : Figure
    y = figure_of d v (v + b.text.length)

    t : (n ≤ j) × (j ≤ length d)
    t = body_within bad d SIZE 0 em n o g

    cut : b.whole ≡ false → judged (unknown_at u ∷ b.charges) y j ≡ Is x k → SizeGood d e x k
    cut w f =
        let s = judged_fine (unknown_at u ∷ b.charges) y j f in
        let l = body_lain bad d SIZE 0 em n (omega arith) o (first_clear s.clears).1 g in
        never (ap (λ q. cond q 1 0) (sym w ∙ l.whole))

    by : (q r : Bool) → b.whole ≡ q
        → cond q (cond r (judged (size_charges y ++ unknown_at u ∷ b.charges) y j) (Not (fault 2 v)))
        (judged (unknown_at u ∷ b.charges) y j)
        ≡ Is x k → SizeGood d e x k
    by true true w f = judged_size y u j b.charges (omega (arith, t.0)) t.1 f
    by true false w f = never cc
    by false r w f = cut w f

pub size_good : (bad : Bool) (d : List ℕ) (p e : ℕ) {x : Figure} {k : ℕ} → size bad d p e ≡ Is x k → SizeGood d e x k
unfolding size
size_good bad d p e {x} {k} f = on (bare_of bad d p e) refl f where
  inner : (h : Held) (n : ℕ) (em : Bool) (r : Result Body) → e < n → n ≤ length d → body bad d SIZE 0 em n ≡ r
      → bind r (size_in bad d h.unknown) ≡ Is x k → SizeGood d e x k
  inner h n em (Is b j) i o g f = size_body bad d e h.unknown n em b j i o g f
  inner h n em (Not f') i o g f = never cc

  on : (r : Tag) → bare_of bad d p e ≡ r → on_tag bad d r (λ h em q n. bind (body bad d SIZE 0 em n) (size_in bad d h.unknown)) ≡ Is x k
      → SizeGood d e x k
  on (tag.Read h em q n) g f =
      let s = tag_within bad d p [] [] [] 0 0 0 0 e h em q n g in
      inner h n em (body bad d SIZE 0 em n) (omega (arith, s.0, s.1)) s.2 refl f
  on (tag.Fault j q) g f = never cc
