-- What was read and judged with nothing at fault: texts, position, spread, size. Each lies within the file and holds what its charges ask
-- for.
use Rattle.std.specs.Prelude.{◌≡◌, Bool, cond, eqb, ltb, leb, take, drop, get_or, Some, None}
use Rattle.std.specs.Prelude as prelude
use Rattle.std.proofs.Math.Path.{refl}
use Rattle.std.proofs.Common.{div-add-mod', mul-le-mul_right}
use Rattle.std.proofs.Math.Bool.{true, false}
use mathlib.Core.List.{List, [], ◌∷◌, ◌++◌}
use Rattle.std.proofs.Math.Option
use Rattle.std.proofs.Math.Option.{Option, none, some}
use Prim.Native.Nat.{ℕ, zero, suc, ◌+◌, ◌-◌, ◌*◌, ◌/◌, ◌%◌, ◌≤◌}
use native.Mathlib.Omega.{arith}
use Rattle.std.proofs.Math.ListN.{length}
use borrow.Author.Tests.{eqb-true, eqb-false, ltb-false, not-false, le-ltb}
use Rattle.forms.specs.rule.Form.{fits_of}
use Rattle.markup.specs.declared.Skip.{Skip}
use Rattle.markup.specs.declared.Skip.TheVariants as skip
use Rattle.angles.specs.declared.Angle.{Angle}
use Rattle.angles.specs.declared.Angle.TheVariants as angle
use Rattle.contents.specs.declared.Said as said
use Rattle.contents.specs.declared.Said.TheVariants as saids
use Rattle.signs.specs.declared.Sign.{Sign}
use Rattle.markup.specs.rule.Bytes.{stands}
use Rattle.markup.specs.rule.Reference.{reference_of}
use Rattle.markup.specs.rule.Gap.{xml_comment}
use Rattle.angles.specs.rule.Angle.{angle_of}
use Rattle.spans.specs.rule.Heard.{heard}
use Rattle.contents.specs.rule.Step.{broken_at, go_on_saying, break_at, language_at, on_out}
use Rattle.contents.specs.rule.Grammar as grammar
use Rattle.elements.specs.Code.{open_of, Within}
use Rattle.tags.specs.declared.Held.{Held}
use Rattle.tags.specs.declared.Tag.{Tag}
use Rattle.tags.specs.declared.Tag.TheVariants as tag
use Rattle.tags.specs.rule.Tag.{tag_of}
use Rattle.pairs.specs.rule.Stand.{stand_of, shut_of, bare_of}
use Rattle.pairs.specs.declared.Stand.{Stand}
use Rattle.pairs.specs.declared.Stand.TheVariants as stand
use Rattle.pairs.specs.rule.Pair.{pair_of}
use Rattle.pairs.specs.declared.Pair.{Pair}
use Rattle.pairs.specs.declared.Pair.TheVariants as pair
use Rattle.pairs.proofs.Lies.{lies_within}
use Rattle.pairs.proofs.Ends.{pair_sound}
use Rattle.contents.specs.rule.Content.{content_of}
use Rattle.contents.specs.declared.Content.{Content}
use Rattle.contents.specs.declared.Content.TheVariants as content
use Rattle.contents.specs.rule.Content.{begun}
use Rattle.contents.specs.declared.Going.{Going}
use Rattle.contents.specs.declared.Step.{Step}
use Rattle.contents.specs.declared.Step.TheVariants as step
use Rattle.contents.specs.rule.Step.{bracket_at, return_at, on_char, refer_at, on_note, note_at, on_other, other_at, step_kind, start_at}
use Rattle.contents.specs.rule.Step.{on_end}
use Rattle.contents.specs.rule.Step.{close_at, on_angle, mark_at, step_of}
use Rattle.contents.proofs.Goes.{Goes, stay, on, content_reached, step_on}
use Rattle.tokens.specs.rule.Gap.{fault}
use Rattle.tokens.specs.declared.Fault.{Fault}
use Rattle.survey.specs.rule.Survey.{Figure, KeptText, Spread}
use Rattle.reading.specs.rule.Result.{Result, Is, Not, Reader, bind}
use Rattle.reading.specs.rule.Least.{Charge, ◌when◌, judged}
use Rattle.reading.specs.rule.Statement.{Position, position_charges, spread_charges, size_charges}
use Rattle.scan.specs.Number.{capped}
use Rattle.bridge.specs.Statements.{even_or}
use Rattle.bridge.specs.Contents.{Parts, fields}
use Rattle.bridge.specs.Lowest.{never, Clear, clear, Judged, fine, faulty, judged_view}
use Rattle.xml_reading.specs.rule.Word.{SIZE, POSITION, SPREAD, START, FINISH, SUBFIELDS, WIDTH}
use Rattle.xml_reading.specs.rule.Open.{Open, start, shut, on_shut, within_element, misplaced, on_bare, unknown_at, on_tag, on_pair}
use Rattle.xml_reading.specs.rule.Open.{nothing}
use Rattle.xml_reading.specs.rule.Open as rule
use Rattle.elements.proofs.Bounds.{start_within, shut_within, tag_within, content_within}
use Rattle.xml_reading.specs.rule.Element.{Body, body_of, on_content, body, text, given_at, figure_of, position, spread, size_in, size}

-- ---- with nothing at fault
pub judged_is : {A : Type 0} (l : List Charge) (a : A) (n : ℕ) {b : A} {m : ℕ} → judged l a n ≡ Is b m → (a ≡ b) × (n ≡ m) × Clear l
judged_is l a n e = on (judged_view l a n) e where
  on : {r : Result _} {b : _} {m : ℕ} → Judged l a n r → r ≡ Is b m → (a ≡ b) × (n ≡ m) × Clear l
  on (fine c) e = (cc, cc, c)
  on faulty e = never cc

-- so what holds of what was judged holds of what was read
pub moved : {A : Type 0} (P : A → ℕ → Type 0) {a b : A} {n m : ℕ} → a ≡ b → n ≡ m → P a n → P b m
moved P e f h = rw (← e, ← f) h

pub clear_head : {f : Fault} {q : Bool} {l : List Charge} → Clear (f when q ∷ l) → q ≡ false
clear_head (clear e r) = e

pub clear_tail : {f : Fault} {q : Bool} {l : List Charge} → Clear (f when q ∷ l) → Clear l
clear_tail (clear e r) = r

pub clear_right : (l m : List Charge) → Clear (l ++ m) → Clear m
clear_right [] m c = c
clear_right (f when q ∷ l) m (clear e r) = clear_right l m r

-- 51 that is not named has no place
pub no_place : {p : ℕ} {l : List Charge} → Clear (unknown_at p ∷ l) → p ≡ 0
no_place {p} c = eqb-true p 0 (not-false (eqb p 0) (clear_head c))

-- ---- a start tag, and what was read behind it
pub record Opened {A : Type 0} (t : Tag) (k : Held → Bool → ℕ → Reader A) (a : A) (n : ℕ) : Type 0 where
  pub held : Held
  pub empty : Bool
  pub place : ℕ
  pub next : ℕ
  pub tag_is : t ≡ tag.Read held empty place next
  pub then_is : k held empty place next ≡ Is a n

pub opened : {A : Type 0} (bad : Bool) (d : List ℕ) (t : Tag) (k : Held → Bool → ℕ → Reader A) (a : A) (n : ℕ) → on_tag bad d t k ≡ Is a n
    → Opened t k a n
opened bad d (tag.Read h em q m) k a n e = record { held = h; empty = em; place = q; next = m; tag_is = refl; then_is = e }
opened bad d (tag.Fault j q) k a n e = never cc

pub record Bound {A B : Type 0} (r : Result A) (k : A → Reader B) (b : B) (n : ℕ) : Type 0 where
  pub value : A
  pub place : ℕ
  pub first_is : r ≡ Is value place
  pub then_is : k value place ≡ Is b n

pub bound : {A B : Type 0} (r : Result A) (k : A → Reader B) (b : B) (n : ℕ) → bind r k ≡ Is b n → Bound r k b n
bound (Is a m) k b n e = record { value = a; place = m; first_is = refl; then_is = e }
bound (Not f) k b n e = never cc

-- ---- nothing inside
module _ (bad : Bool) (d : List ℕ) where
  pub nothing_long : (w : List ℕ) (em : Bool) (n : ℕ) {l : List Charge} {m : ℕ} → n ≤ length d → nothing bad d w em n ≡ Is l m → Clear l → m
      ≤ length d
  unfolding nothing
  nothing_long w true n {m = m} h e c = let q : n ≡ m = cc in omega arith
  nothing_long w false n {l} {m} h e c = by (pair_of bad d n w) refl e where
    by : (p : Pair) → pair_of bad d n w ≡ p → on_pair bad d p ≡ Is l m → m ≤ length d
    by (pair.Past k) i e = let q : k ≡ m = cc in rw (← q) (lies_within (pair_sound bad d w n k i).lies h)
    by (pair.Cut p) i e =
        let q : p ≡ m = cc in
        let o : unknown_at p ∷ [] ≡ l = cc in
        let z = no_place (rw (← o) at c) in
        omega arith
    by (pair.Fault k p) i e = never cc

  -- ---- a text
  pub record Lying (t : KeptText) (n : ℕ) : Type 0 where
    pub inside : t.place + t.length ≤ length d
    pub next : n ≤ length d

  pub body_long : (w : List ℕ) (m : ℕ) (em : Bool) (n : ℕ) {b : Body} {k : ℕ} → n ≤ length d → body bad d w m em n ≡ Is b k
      → Clear b.charges → Lying b.text k
  unfolding body
  body_long w m true n {b} {k} h e c =
      let q : body_of n n true [] ≡ b = cc in
      let o : n ≡ k = cc in
      rw (← q, ← o) (record { inside = omega arith; next = h })
  body_long w m false n {b} {k} h e c = by (content_of bad d m w n) refl e where
    by : (r : Content) → content_of bad d m w n ≡ r → on_content n r ≡ Is b k → Lying b.text k
    by (content.Read z j u) i e =
        let q : body_of n z true (unknown_at u ∷ []) ≡ b = cc in
        let o : j ≡ k = cc in
        let l = content_within bad d m w n z j u h i in
        rw (← q, ← o) (record { inside = omega (arith, l.0, l.1, l.2); next = l.2 })
    by (content.Cut p u) i e =
        let q : body_of n n false (unknown_at u ∷ unknown_at p ∷ []) ≡ b = cc in
        let o : p ≡ k = cc in
        let z : p ≡ 0 = no_place (clear_tail (rw (← q) at c)) in
        rw (← q, ← o) (record { inside = omega arith; next = omega arith })
    by (content.Fault j p) i e = never cc

  pub bare_long : (p e : ℕ) {h : Held} {em : Bool} {q n : ℕ} → bare_of bad d p e ≡ tag.Read h em q n → n ≤ length d
  bare_long p e {h} {em} {q} {n} f = (tag_within bad d p [] [] [] 0 0 0 0 e h em q n f).2

  -- an element that is only a text
  pub text_long : (w : List ℕ) (m p e : ℕ) {t : KeptText} {n : ℕ} → text bad d w m p e ≡ Is t n → Lying t n
  unfolding text
  text_long w m p e {t} {n} f =
      let o = opened bad d (bare_of bad d p e) _ t n f in
      let b = bound (body bad d w m o.empty o.next) _ t n o.then_is in
      let j = judged_is (unknown_at o.held.unknown ∷ b.value.charges) b.value.text b.place b.then_is in
      moved Lying j.0 j.1 (body_long w m o.empty o.next (bare_long p e o.tag_is) b.first_is (clear_tail j.2))

  -- ---- position
  pub record Positioned (p : Position) (n : ℕ) : Type 0 where
    pub from_one : 1 ≤ p.start.value
    pub ordered : p.start.value ≤ (Option.get_or p.finish p.start).value
    pub low : (Option.get_or p.finish p.start).value ≤ 16384
    pub next : n ≤ length d

  some_value : (n : ℕ) → eqb n 0 ≡ false → 1 ≤ n
  some_value n e = let h = eqb-false n 0 e in omega arith

  charged : (a b : Figure) (l : List Charge) → Clear (position_charges a b ++ l) → (1 ≤ a.value) × (a.value ≤ b.value)
      × (b.value ≤ 16384)
  unfolding position_charges
  charged a b l (clear x (clear y (clear z (clear w r)))) =
      (some_value a.value x, ltb-false b.value a.value y, ltb-false 16384 b.value w)

  pub position_fine : (p e : ℕ) {q : Position} {n : ℕ} → position bad d p e ≡ Is q n → Positioned q n
  unfolding position
  position_fine p e {q} {n} f =
      let o = opened bad d (tag_of bad d p e START FINISH [] 1 1 0 1) _ q n f in
      let h = o.held in
      let a = figure_of d h.a h.ae in
      let c = given_at h.b (figure_of d h.b h.be) in
      let b = bound (nothing bad d POSITION o.empty o.next) _ q n o.then_is in
      let j = judged_is (position_charges a (Option.get_or c a) ++ unknown_at h.unknown ∷ b.value) (record { start = a; finish = c })
      b.place b.then_is in
      let k = charged a (Option.get_or c a) (unknown_at h.unknown ∷ b.value) j.2 in
      let t = tag_within bad d p START FINISH [] 1 1 0 1 e h o.empty o.place o.next o.tag_is in
      let m = nothing_long POSITION o.empty o.next t.2 b.first_is
      (clear_tail (clear_right (position_charges a (Option.get_or c a)) (unknown_at h.unknown ∷ b.value) j.2)) in
      moved Positioned j.0 j.1 (record { from_one = k.0; ordered = k.1; low = k.2; next = m })

  -- ---- spread
  shares : (a n : ℕ) → 1 ≤ a → 1 ≤ n → a % n ≡ 0 → 1 ≤ a / n
  shares a n h k e = by (a / n) (div-add-mod' a n) where
    by : (x : ℕ) → x * n + a % n ≡ a → 1 ≤ x
    by zero f = absurd (omega arith)
    by (suc x) f = omega arith

  -- its parts as the code has them, for a position of `room` bytes
  pub record Parted (room : ℕ) (s : Spread) (n : ℕ) : Type 0 where
    pub parts : Parts room (capped s.count.value) (even_or room (capped s.count.value) s.width) (some s)
    pub next : n ≤ length d

  capped_some : (n : ℕ) → 1 ≤ n → 1 ≤ capped n
  capped_some n h = by (ltb 1000000000000000 n) where
    by : (q : Bool) → 1 ≤ cond q 1000000000000000 n
    by true = omega arith
    by false = h

  capped_low : (n : ℕ) → n ≤ 1000000000000000 → capped n ≡ n
  capped_low n h = rw (le-ltb 1000000000000000 n h)

  divides : (a n : ℕ) → 1 ≤ a → 1 ≤ n → a % n ≡ 0 → n ≤ a
  divides a n h k e = by (a / n) (shares a n h k e) (div-add-mod' a n) where
    by : (x : ℕ) → 1 ≤ x → x * n + a % n ≡ a → n ≤ a
    by x g f = let m : 1 * n ≤ x * n = mul-le-mul_right n g in omega arith

  parted : (room : ℕ) (a : Figure) (b : Option Figure) (l : List Charge) → 1 ≤ room → room ≤ 16384 → Clear (spread_charges room a b ++ l)
      → Parts room (capped a.value) (even_or room (capped a.value) b) (some (record { count = a; width = b }))
  unfolding spread_charges
  parted room a none l h k (clear x (clear y r)) =
      let s = some_value a.value x in
      let m : room % a.value ≡ 0 = eqb-true (room % a.value) 0 (not-false (eqb (room % a.value) 0) y) in
      let c = capped_low a.value (omega (arith, divides room a.value h s m)) in
      fields {s = record { count = a; width = none }} refl refl (capped_some a.value s) (rw c (shares room a.value h s m))
  parted room a (some w) l h k (clear x (clear y r)) =
      fields {s = record { count = a; width = some w }} refl refl (capped_some a.value (some_value a.value x))
      (capped_some w.value (some_value w.value y))

  pub spread_fine : (room p e : ℕ) {s : Spread} {n : ℕ} → 1 ≤ room → room ≤ 16384 → spread bad d room p e ≡ Is s n → Parted room s n
  unfolding spread
  spread_fine room p e {s} {n} u v f =
      let o = opened bad d (tag_of bad d p e SUBFIELDS WIDTH [] 1 1 0 1) _ s n f in
      let h = o.held in
      let a = figure_of d h.a h.ae in
      let c = given_at h.b (figure_of d h.b h.be) in
      let b = bound (nothing bad d SPREAD o.empty o.next) _ s n o.then_is in
      let j = judged_is (spread_charges room a c ++ unknown_at h.unknown ∷ b.value) (record { count = a; width = c }) b.place
      b.then_is in
      let t = tag_within bad d p SUBFIELDS WIDTH [] 1 1 0 1 e h o.empty o.place o.next o.tag_is in
      let m = nothing_long SPREAD o.empty o.next t.2 b.first_is
      (clear_tail (clear_right (spread_charges room a c) (unknown_at h.unknown ∷ b.value) j.2)) in
      moved (Parted room) j.0 j.1 (record { parts = parted room a c (unknown_at h.unknown ∷ b.value) u v j.2; next = m })

  -- ---- where a tag is due
  pub within_long : (w : List ℕ) (n : ℕ) {o : Open} {m : ℕ} → within_element bad d w n ≡ Is o m → (1 ≤ m) × (m ≤ length d)
  unfolding within_element
  within_long w n {o} {m} f = by (stand_of bad d n) refl f where
    by : (s : Stand) → stand_of bad d n ≡ s → rule.opened bad d w s ≡ Is o m → (1 ≤ m) × (m ≤ length d)
    by (stand.Start p e) i f = let q : e ≡ m = cc in let h = start_within bad d n p e i in rw (← q) (omega (arith, h.1), h.2)
    by (stand.Close p e) i f = on (shut_of bad d p e w) (shut_within bad d w n p e i) f where
      on : (k : Skip) → Within d n (open_of (on_shut p k)) → on_shut p k ≡ Is o m → (1 ≤ m) × (m ≤ length d)
      on (skip.Past z) h f = let q : z ≡ m = cc in rw (← q) (omega (arith, h.1), h.2)
      on (skip.Broken z) h f = never cc
    by (stand.Foreign p) i f = never cc
    by (stand.Text p) i f = never cc
    by (stand.Broken p) i f = never cc

  pub misplaced_never : {A B : Type 0} (p e : ℕ) {a : A} {n : ℕ} → misplaced bad d p e ≡ Is a n → B
  misplaced_never {A} {B} p e {a} {n} f = by (bare_of bad d p e) f where
    by : (t : Tag) → on_bare bad d {A = A} p t ≡ Is a n → B
    by (tag.Read h em q m) f = never cc
    by (tag.Fault k q) f = never cc

  -- ---- size: what cuts a text of characters alone stands behind its start tag
  data Steps (g : Going) : Step → Type 0 where
    goes : {h : Going} {s : said.Said} → h.inside ≡ false → Steps g (step.More h s)
    cuts : {u : ℕ} → Steps g (step.Over (content.Cut g.next u))
    reads : {e n u : ℕ} → Steps g (step.Over (content.Read e n u))
    breaks : {k p : ℕ} → Steps g (step.Over (content.Fault k p))

  step_plain : (w : List ℕ) (g : Going) → g.inside ≡ false → Steps g (step_of bad d 0 w g)
  unfolding step_of mark_at refer_at bracket_at return_at note_at start_at step_kind other_at close_at
  step_plain w g e =
      by (leb (length d) g.next) (eqb (get_or d g.next 0) 60) (eqb (get_or d g.next 0) 38) (eqb (get_or d g.next 0) 93)
      (eqb (get_or d g.next 0) 13)
    where
      noted : (k : Skip) → Steps g (on_note g k)
      noted (skip.Past n) = goes e
      noted (skip.Broken p) = breaks

      other : (t : Tag) → Steps g (on_other g t)
      other (tag.Read h em p n) = cuts
      other (tag.Fault k p) = breaks

      ended : (k : Skip) → Steps g (on_end g k)
      ended (skip.Past n) = reads
      ended (skip.Broken p) = breaks

      begun_at : (i : Bool) (z : ℕ) → i ≡ false
          → Steps g (cond (eqb (step_kind d (cond i 1 0) (g.next + 1) z) 1) (break_at bad d g z)
          (cond (eqb (step_kind d (cond i 1 0) (g.next + 1) z) 2) (language_at bad d g z) (other_at bad d g z)))
      begun_at false z q = other (bare_of bad d g.next z)
      begun_at true z q = never cc

      shut_at : (i : Bool) (z : ℕ) → i ≡ false → Steps g
          (cond i (on_out g (shut_of bad d g.next z grammar.text)) (on_end g (shut_of bad d g.next z w)))
      shut_at false z q = ended (shut_of bad d g.next z w)
      shut_at true z q = never cc

      angled : (a : Angle) → Steps g (on_angle bad d 0 w g a)
      angled (angle.Start z) = begun_at g.inside z e
      angled (angle.Close z) = shut_at g.inside z e
      angled angle.Foreign = cuts
      angled (angle.Broken p) = breaks

      marked : (q : Bool) → Steps g (cond q (note_at bad d g) (on_angle bad d 0 w g (angle_of bad d g.next)))
      marked true = noted (xml_comment bad g.next (g.next + 4) (drop (g.next + 4) d))
      marked false = angled (angle_of bad d g.next)

      referred : (c : prelude.Option (ℕ × ℕ)) → Steps g (on_char g c)
      referred (Some (c, n)) = goes e
      referred None = breaks

      bracket : (q : Bool) → Steps g (cond q (broken_at g.next) (go_on_saying g (g.next + 1) (saids.Byte 93)))
      bracket true = breaks
      bracket false = goes e

      by : (p x y z u : Bool) → Steps g (cond p (broken_at g.next)
          (cond x (mark_at bad d 0 w g)
          (cond y (refer_at d g)
          (cond z (bracket_at d g)
          (cond u (return_at d g) (go_on_saying g (g.next + 1) (saids.Byte (get_or d g.next 0))))))))
      by true x y z u = breaks
      by false true y z u = marked (stands (60 ∷ 33 ∷ 45 ∷ 45 ∷ []) (drop g.next d))
      by false false true z u = referred (reference_of g.next (drop (g.next + 1) d))
      by false false false true u = bracket (stands (93 ∷ 93 ∷ 62 ∷ []) (drop g.next d))
      by false false false false true = goes e
      by false false false false false = goes e

  goes_plain : {w : List ℕ} {g k : Going} {cs : List Sign} → Goes false bad d 0 w g k cs → g.inside ≡ false → (k.inside ≡ false)
      × (g.next ≤ k.next)
  goes_plain stay e = (e, omega arith)
  goes_plain {w = w} {g = g} (on {h = h} {s = s} f r) e =
      let t = step_on bad d 0 w g h s f in
      let q = goes_plain r (by (step_plain w g e) f) in
      (q.0, omega (arith, t.0, q.1))
    where
      by : {x : Step} → Steps g x → x ≡ step.More h s → h.inside ≡ false
      by (goes {h = i} q) f = let j : i ≡ h = cc in rw (← j) q
      by cuts f = never cc
      by reads f = never cc
      by breaks f = never cc

  cut_behind : (w : List ℕ) (at p u : ℕ) → content_of bad d 0 w at ≡ content.Cut p u → at ≤ p
  cut_behind w at p u f =
      let r = content_reached false bad d 0 w (begun at) (content.Cut p u) f in
      let q = goes_plain r.goes refl in
      by r.last q.1 (step_plain w r.last q.0) r.over
    where
      by : (g : Going) → at ≤ g.next → {x : Step} → Steps g x → x ≡ step.Over (content.Cut p u) → at ≤ p
      by g h (goes e) f = never cc
      by g h cuts f = let j : g.next ≡ p = cc in omega arith
      by g h reads f = never cc
      by g h breaks f = never cc

  pub record Sized (x : Figure) (n : ℕ) : Type 0 where
    pub some : 1 ≤ x.value
    pub few : x.value ≤ 4096
    pub next : n ≤ length d

  size_charged : (x : Figure) (l : List Charge) → Clear (size_charges x ++ l) → (1 ≤ x.value) × (x.value ≤ 4096)
  unfolding size_charges
  size_charged x l (clear a (clear b r)) = (some_value x.value a, ltb-false 4096 x.value b)

  -- what cuts it is named
  whole_body : (em : Bool) (n : ℕ) {b : Body} {k : ℕ} → 1 ≤ n → body bad d SIZE 0 em n ≡ Is b k → Clear b.charges → b.whole ≡ true
  unfolding body
  whole_body true n {b} {k} h e c = let q : body_of n n true [] ≡ b = cc in rw (← q)
  whole_body false n {b} {k} h e c = by (content_of bad d 0 SIZE n) refl e where
    by : (r : Content) → content_of bad d 0 SIZE n ≡ r → on_content n r ≡ Is b k → b.whole ≡ true
    by (content.Read z j u) i e = let q : body_of n z true (unknown_at u ∷ []) ≡ b = cc in rw (← q)
    by (content.Cut p u) i e =
        let q : body_of n n false (unknown_at u ∷ unknown_at p ∷ []) ≡ b = cc in
        let z : p ≡ 0 = no_place (clear_tail (rw (← q) at c)) in
        absurd (omega (arith, cut_behind SIZE n p u i))
    by (content.Fault j p) i e = never cc

  sized : (u : ℕ) (em : Bool) (n k : ℕ) (b : Body) {x : Figure} {m : ℕ} → 1 ≤ n → n ≤ length d → body bad d SIZE 0 em n ≡ Is b k
      → size_in bad d u b k ≡ Is x m → Sized x m
  unfolding size_in
  sized u em n k b {x} {m} h l f g = by b.whole refl g where
    v : ℕ
    v = b.text.place

    z : ℕ
    z = v + b.text.length

    y : Figure
    y = figure_of d v z

    fits : (q : Bool) → cond q (judged (size_charges y ++ unknown_at u ∷ b.charges) y k) (Not (fault 2 v)) ≡ Is x m → Sized x m
    fits true g =
        let j = judged_is (size_charges y ++ unknown_at u ∷ b.charges) y k g in
        let c = clear_right (size_charges y) (unknown_at u ∷ b.charges) j.2 in
        let t = size_charged y (unknown_at u ∷ b.charges) j.2 in
        moved Sized j.0 j.1 (record { some = t.0; few = t.1; next = (body_long SIZE 0 em n l f (clear_tail c)).next })
    fits false g = never cc

    by : (q : Bool) → b.whole ≡ q
        → cond q (cond (fits_of 1 (heard (take (z - v) (drop v d)) 0)) (judged (size_charges y ++ unknown_at u ∷ b.charges) y k)
        (Not (fault 2 v)))
        (judged (unknown_at u ∷ b.charges) y k) ≡ Is x m → Sized x m
    by true i g = fits (fits_of 1 (heard (take (z - v) (drop v d)) 0)) g
    by false i g =
        let j = judged_is (unknown_at u ∷ b.charges) y k g in
        let o = whole_body em n h f (clear_tail j.2) in
        let w : ◌≡◌ {A = ℕ} 0 1 = cc in
        never w

  pub size_fine : (p e : ℕ) {x : Figure} {n : ℕ} → 1 ≤ e → size bad d p e ≡ Is x n → Sized x n
  unfolding size
  size_fine p e {x} {n} l f =
      let o = opened bad d (bare_of bad d p e) _ x n f in
      let b = bound (body bad d SIZE 0 o.empty o.next) _ x n o.then_is in
      let t = tag_within bad d p [] [] [] 0 0 0 0 e o.held o.empty o.place o.next o.tag_is in
      sized o.held.unknown o.empty o.next b.place b.value (omega (arith, t.0, t.1)) t.2 b.first_is b.then_is
