-- WHAT IS READ IS DERIVED: an element that the reader of the table reads is one of the grammar's, and nothing in it is charged.
use Rattle.std.specs.Prelude.{◌≡◌, Bool, length}
use Rattle.std.proofs.Math.Path.{refl}
use Rattle.std.proofs.Common.{sym, ◌∙◌, arith}
use Rattle.std.proofs.Math.Bool.{true, false, cond}
use mathlib.Core.List.{List, [], ◌∷◌, ◌++◌}
use Prim.Native.Nat.{ℕ, zero, suc, ◌+◌, ◌<◌, ◌≤◌}
use Rattle.scan.specs.rule.Loop.{Next, Again, Done}
use Rattle.tags.specs.declared.Held.{Held}
use Rattle.tags.specs.declared.Tag.{Tag}
use Rattle.tags.specs.declared.Tag.TheVariants as tag
use Rattle.tags.specs.rule.Tag.{is_named, stretch_fits}
use Rattle.pairs.specs.rule.Stand.{bare_of}
use Rattle.pairs.proofs.Lies.{Lies}
use Rattle.tokens.specs.rule.Gap.{fault}
use Rattle.survey.specs.rule.Survey.{KeptText}
use Rattle.reading.specs.rule.Result.{Result, Is, Not, Reader, give, repeat, bind}
use Rattle.reading.specs.rule.Least.{Charge, judged}
use Rattle.bridge.specs.Lowest.{never}
use Rattle.elements.proofs.Bounds.{tag_within}
use Rattle.xml_laws.specs.Reads.{Bound, bound}
use Rattle.grammar.specs.Faults.{Clean}
use Rattle.grammar_laws.specs.Views.{clean_both, clean_left, clean_right}
use Rattle.xml_reading.specs.rule.Open.{Open, start, shut, within_element, unknown_at, on_bare, misplaced, enter}
use Rattle.xml_reading.specs.rule.Open as stands
use Rattle.xml_reading.specs.rule.Element.{Body, body}
use Rattle.xml_grammar.specs.Grammar.{Element, Part, Holds, nothing, plain, number, texts, parts, typed, rule_of, typed_of}
use Rattle.xml_grammar.specs.Grammar as table
use Rattle.xml_grammar.specs.Reader.{Steps, no_text, tag_by, round, steps, judging, counting, entering, holding, element}
use Rattle.xml_grammar.specs.Meaning.{State, says_of, behind_of, meaning_of, meanings, turns_of}
use Rattle.xml_grammar.specs.Loops.{onward, repeat_by}
use Rattle.xml_derivations.specs.Tag.{StartTag, name_of, form_of, needed_of}
use Rattle.xml_derivations.specs.Derivation.{Comes, Passes, Parts, Texts, Thing, the, inside, Says, closed, closing_of, charges_of}
use Rattle.xml_derivations.specs.Derivation as derivation
use Rattle.xml_derivation_laws.specs.Charges.{judged_read, known, clean_none, said_is, closed_is}
use Rattle.xml_derivation_laws.specs.Table.{word_name}
use Rattle.xml_derivation_laws.specs.Tags.{tag_by_lem, start_sound}
use Rattle.xml_derivation_laws.specs.Stands.{found_gap, found_start, found_end}
use Rattle.xml_derivation_laws.specs.Bodies.{nothing_read, text_read}

-- derived, with nothing charged
pub record Told (d : List ℕ) (x : Thing) (s : State) (n : ℕ) (t : State) (m : ℕ) : Type 0 where
  pub charges : List Charge
  pub says : Says d x s n charges t m
  pub clean : Clean charges

passes : {d w : List ℕ} {q : Part} {l : List Part} {s t : State} {n m : ℕ} → Passes q → Told d (inside w l) s n t m
    → Told d (inside w (q ∷ l)) s n t m
passes p y = record { charges = y.charges; says = derivation.pass p y.says; clean = y.clean }

moved : {d : List ℕ} {x : Thing} {s t u : State} {p n m : ℕ} → t ≡ u → n ≡ m → Told d x s p t n → Told d x s p u m
moved e f y = rw (← e, ← f) y

module _ (bad : Bool) (d : List ℕ) where
  bare_no : {A B : Type 0} (p : ℕ) (y : Tag) (K : A → Reader B) {t : B} {m : ℕ} → bind (on_bare bad d {A = A} p y) K ≡ Is t m → ⊥
  bare_no p (tag.Read h em q n) K r = never cc
  bare_no p (tag.Fault a b) K r = never cc

  -- ---- parts, by a reader of elements that reads what is derived
  module _ (C : Element → State → ℕ → Reader State)
      (S : (x : Element) (s : State) (p e : ℕ) (t : State) (m : ℕ) → Lies d p e (60 ∷ (rule_of x).word) → C x s p e ≡ Is t m
      → Told d (the x) s p t m) (w : List ℕ) where
    abbrev steps_of : List Part → Steps State
    steps_of l = steps bad d (meanings d) C w l

    abbrev AtRead : List Part → Type 0
    AtRead l = (s : State) (n : ℕ) (o : Open) (k : ℕ) (t : State) (m : ℕ) → within_element bad d w n ≡ Is o k → (steps_of l).at s o k
        ≡ Is t m
        → Told d (inside w l) s n t m

    abbrev GoRead : List Part → Type 0
    GoRead l = (s : State) (n : ℕ) (t : State) (m : ℕ) → (steps_of l).go s n ≡ Is t m → Told d (inside w l) s n t m

    -- an element that comes next, and what is read behind it
    takes : {q : Part} {l k : List Part} {x : Element} (s : State) {n p e : ℕ} (t : State) (m : ℕ) (K : State → Reader State)
        → Comes s.manner.old q x k → within_element bad d w n ≡ Is (start p) e → is_named d (p + 1) e (rule_of x).word ≡ true
        → ((u : State) (j : ℕ) → K u j ≡ Is t m → Told d (inside w (k ++ l)) u j t m) → bind (C x s p e) K ≡ Is t m
        → Told d (inside w (q ∷ l)) s n t m
    takes {x = x} s {n = n} {p = p} {e = e} t m K c f i g r =
        let b = bound (C x s p e) K t m r in
        let y = S x s p e b.value b.place (found_start bad d w n (rule_of x).word f i) b.first_is in
        let z = g b.value b.place b.then_is in
        record {
          charges = y.charges ++ z.charges;
          says = derivation.next c (found_gap bad d w f) y.says z.says;
          clean = clean_both y.charges z.charges y.clean z.clean;
        }

    -- ---- part by part
    at_end_lem : AtRead []
    unfolding steps
    at_end_lem s n (start p) k t m f r = absurd (bare_no p (bare_of bad d p k) (λ u. give s) r)
    at_end_lem s n (shut p) k t m f r =
        let a : s ≡ t = cc in
        let b : k ≡ m = cc in
        let y = found_end bad d w f in
        rw (← a, ← b) (record { charges = []; says = derivation.end y.0 y.1; clean = clean_none })

    at_once : (x : Element) (l : List Part) → GoRead l → AtRead (table.once x ∷ l)
    unfolding steps
    at_once x l go s n (start p) k t m f r = by (is_named d (p + 1) k (rule_of x).word) refl r where
      by : (b : Bool) → is_named d (p + 1) k (rule_of x).word ≡ b → bind (cond b (C x s p k) (misplaced bad d p k)) (steps_of l).go ≡ Is t m
          → Told d (inside w (table.once x ∷ l)) s n t m
      by true i r = takes s t m (steps_of l).go derivation.once f i (λ u j. go u j t m) r
      by false i r = absurd (bare_no p (bare_of bad d p k) (steps_of l).go r)
    at_once x l go s n (shut p) k t m f r = never cc

    -- x?, where it may come (q) and be left out
    module _ (q : Part) (x : Element) (l : List Part) (o : Passes q) (at : AtRead l) (go : GoRead l) where
      at_maybe : (s : State) (n : ℕ) (o : Open) (k : ℕ) (t : State) (m : ℕ) → Comes s.manner.old q x [] → within_element bad d w n
          ≡ Is o k
          → stands.either_element bad d (rule_of x).word o (λ p n. bind (C x s p n) (steps_of l).go) ((steps_of l).at s o) k ≡ Is t m
          → Told d (inside w (q ∷ l)) s n t m
      at_maybe s n (start p) k t m c f r = by (is_named d (p + 1) k (rule_of x).word) refl r where
        by : (b : Bool) → is_named d (p + 1) k (rule_of x).word ≡ b
            → cond b (bind (C x s p k) (steps_of l).go) ((steps_of l).at s (start p) k) ≡ Is t m → Told d (inside w (q ∷ l)) s n t m
        by true i r = takes s t m (steps_of l).go c f i (λ u j. go u j t m) r
        by false i r = passes o (at s n (start p) k t m f r)
      at_maybe s n (shut p) k t m c f r = passes o (at s n (shut p) k t m f r)

    at_perhaps : (x : Element) (l : List Part) → AtRead l → GoRead l → AtRead (table.perhaps x ∷ l)
    unfolding steps
    at_perhaps x l at go s n o k t m f r =
        at_maybe (table.perhaps x) x l derivation.Passes.perhaps at go s n o k t m derivation.Comes.perhaps f r

    at_newly : (x : Element) (l : List Part) → AtRead l → GoRead l → AtRead (table.newly x ∷ l)
    unfolding steps
    at_newly x l at go s n o k t m f r = by s.manner.old refl r where
      by : (b : Bool) → s.manner.old ≡ b → cond b ((steps_of l).at s o)
          (stands.either_element bad d (rule_of x).word o (λ p n. bind (C x s p n) (steps_of l).go) ((steps_of l).at s o)) k ≡ Is t m
          → Told d (inside w (table.newly x ∷ l)) s n t m
      by true i r = passes derivation.Passes.newly (at s n o k t m f r)
      by false i r = at_maybe (table.newly x) x l derivation.Passes.newly at go s n o k t m (derivation.Comes.newly i) f r

    at_either : (x y : Element) (l : List Part) → GoRead l → AtRead (table.either x y ∷ l)
    unfolding steps
    at_either x y l go s n (start p) k t m f r =
        by (is_named d (p + 1) k (rule_of x).word) (is_named d (p + 1) k (rule_of y).word) refl refl r where
          by : (a b : Bool) → is_named d (p + 1) k (rule_of x).word ≡ a → is_named d (p + 1) k (rule_of y).word ≡ b
              → bind (cond a (C x s p k) (cond b (C y s p k) (misplaced bad d p k))) (steps_of l).go ≡ Is t m
              → Told d (inside w (table.either x y ∷ l)) s n t m
          by true b i j r = takes s t m (steps_of l).go derivation.left f i (λ u j. go u j t m) r
          by false true i j r = takes s t m (steps_of l).go derivation.right f j (λ u j. go u j t m) r
          by false false i j r = absurd (bare_no p (bare_of bad d p k) (steps_of l).go r)
    at_either x y l go s n (shut p) k t m f r = never cc

    -- x*: again and again
    module _ (x : Element) (l : List Part) (at : AtRead l) where
      abbrev last : (State × Open) → Reader State
      last y = (steps_of l).at y.0 y.1

      abbrev again : State → Reader (Next State (State × Open))
      again = round bad d (meanings d) C w x

      abbrev loop : ℕ → State → Reader State
      loop g s n = bind (repeat g again s n) last

      abbrev more : State → Reader (Next State (State × Open))
      more s = give (Again s)

      once_more : (g : ℕ) (r : Result State) → bind (bind r more) (onward (loop g) last) ≡ bind r (loop g)
      once_more g (Is u j) = refl
      once_more g (Not z) = refl

      loop_read : (g : ℕ) (s : State) (n : ℕ) (t : State) (m : ℕ) → loop g s n ≡ Is t m → Told d (inside w (table.any x ∷ l)) s n t m
      unfolding repeat
      loop_read zero s n t m r = never cc
      loop_read (suc g) s n t m r = on (loop_read g) (within_element bad d w n) refl (sym (repeat_by g again s n last) ∙ r) where
        by : ((s : State) (n : ℕ) (t : State) (m : ℕ) → loop g s n ≡ Is t m → Told d (inside w (table.any x ∷ l)) s n t m)
            → (o : Open) (k : ℕ) → within_element bad d w n ≡ Is o k
            → bind (stands.either_element bad d (rule_of x).word o (λ p n. bind (C x s p n) more) (give (Done (s, o))) k)
            (onward (loop g) last)
            ≡ Is t m
            → Told d (inside w (table.any x ∷ l)) s n t m
        by ih (start p) k f r = named (is_named d (p + 1) k (rule_of x).word) refl r where
          named : (b : Bool) → is_named d (p + 1) k (rule_of x).word ≡ b
              → bind (cond b (bind (C x s p k) more) (Is (Done (s, start p)) k)) (onward (loop g) last) ≡ Is t m
              → Told d (inside w (table.any x ∷ l)) s n t m
          named true i r =
              takes s t m (loop g) derivation.Comes.any f i (λ u j. ih u j t m) (sym (once_more g (C x s p k)) ∙ r)
          named false i r = passes derivation.Passes.any (at s n (start p) k t m f r)
        by ih (shut p) k f r = passes derivation.Passes.any (at s n (shut p) k t m f r)

        on : ((s : State) (n : ℕ) (t : State) (m : ℕ) → loop g s n ≡ Is t m → Told d (inside w (table.any x ∷ l)) s n t m)
            → (y : Result Open) → within_element bad d w n ≡ y
            → bind (bind y λ o. stands.either_element bad d (rule_of x).word o (λ p n. bind (C x s p n) more) (give (Done (s, o))))
            (onward (loop g) last) ≡ Is t m
            → Told d (inside w (table.any x ∷ l)) s n t m
        on ih (Is o k) f r = by ih o k f r
        on ih (Not z) f r = never cc

      at_any : AtRead (table.any x ∷ l)
      unfolding steps
      at_any s n (start p) k t m f r = by (is_named d (p + 1) k (rule_of x).word) refl r where
        by : (b : Bool) → is_named d (p + 1) k (rule_of x).word ≡ b
            → cond b (bind (C x s p k) (loop (turns_of d x))) ((steps_of l).at s (start p) k) ≡ Is t m
            → Told d (inside w (table.any x ∷ l)) s n t m
        by true i r = takes s t m (loop (turns_of d x)) derivation.Comes.any f i (λ u j. loop_read (turns_of d x) u j t m) r
        by false i r = passes derivation.Passes.any (at s n (start p) k t m f r)
      at_any s n (shut p) k t m f r = passes derivation.Passes.any (at s n (shut p) k t m f r)

    -- ---- all of them
    look : (l : List Part) → AtRead l → (s : State) (n : ℕ) (t : State) (m : ℕ) → bind (within_element bad d w n) ((steps_of l).at s)
        ≡ Is t m
        → Told d (inside w l) s n t m
    look l at s n t m r = let b = bound (within_element bad d w n) ((steps_of l).at s) t m r in
        at s n b.value b.place t m b.first_is b.then_is

    both : (l : List Part) → AtRead l × GoRead l
    unfolding steps
    both [] = (at_end_lem, look [] at_end_lem)
    both (table.once x ∷ l) = let b = both l in let a = at_once x l b.1 in (a, look (table.once x ∷ l) a)
    both (table.perhaps x ∷ l) = let b = both l in let a = at_perhaps x l b.0 b.1 in (a, look (table.perhaps x ∷ l) a)
    both (table.newly x ∷ l) = let b = both l in let a = at_newly x l b.0 b.1 in (a, look (table.newly x ∷ l) a)
    both (table.either x y ∷ l) = let b = both l in let a = at_either x y l b.1 in (a, look (table.either x y ∷ l) a)
    both (table.any x ∷ l) = let b = both l in (at_any x l b.0, loop_read x l b.0 (turns_of d x))

    pub parts_read : (l : List Part) (s : State) (n : ℕ) (t : State) (m : ℕ) → (steps_of l).go s n ≡ Is t m → Told d (inside w l) s n t m
    parts_read l = (both l).1

  -- ---- an element, behind its start tag
  module _ (x : Element) (s : State) (h : Held) where
    -- judged once read
    record Settled (y : KeptText) (l : List Charge) (n : ℕ) (t : State) (m : ℕ) : Type 0 where
      pub unknown : h.unknown ≡ 0
      pub others : Clean l
      pub charges : Clean (charges_of d x s h y)
      pub same : says_of d x s h y ≡ t
      pub place : n ≡ m

    settled : (y : KeptText) (l : List Charge) {n : ℕ} {t : State} {m : ℕ} → judging bad d (meanings d) x s h y l n ≡ Is t m
        → Settled y l n t m
    settled y l {n} {t} {m} r =
        let a = (meaning_of d x).charges s h y in
        let c = (meaning_of d x).also s h y in
        let b = bound (judged (a ++ unknown_at h.unknown ∷ (c ++ l)) (tt {0}) n) (λ u. (meaning_of d x).said s h y) t m r in
        let j = judged_read (a ++ unknown_at h.unknown ∷ (c ++ l)) (tt {0}) n b.first_is in
        let i = judged_read (behind_of d x s y) (says_of d x s h y) b.place (sym (said_is d x s h y b.place) ∙ b.then_is) in
        let k = known h.unknown (c ++ l) (clean_right a (unknown_at h.unknown ∷ (c ++ l)) j.clean) in
        record {
          unknown = k.0;
          others = clean_right c l k.1;
          charges = clean_both a (c ++ behind_of d x s y) (clean_left a (unknown_at h.unknown ∷ (c ++ l)) j.clean)
              (clean_both c (behind_of d x s y) (clean_left c l k.1) i.clean);
          same = i.same;
          place = j.place ∙ i.place;
        }

  module _ (f : ℕ)
      (S : (x : Element) (s : State) (p e : ℕ) (t : State) (m : ℕ) → Lies d p e (60 ∷ (rule_of x).word)
      → element bad d (meanings d) f x s p e ≡ Is t m → Told d (the x) s p t m)
      (x : Element) (s : State) (p e : ℕ) (t : State) (m : ℕ) (l : Lies d p e (60 ∷ (rule_of x).word)) (h : Held) (em : Bool) (q n : ℕ)
      (g : tag_by bad d s.manner.old (rule_of x).attributes p e ≡ tag.Read h em q n) where
    abbrev w : List ℕ
    w = (rule_of x).word

    within_file : (0 < n) × (n ≤ length d)
    within_file =
        let a = (rule_of x).attributes in
        let old = s.manner.old in
        let b = tag_within bad d p (name_of old a 0) (name_of old a 1) (name_of old a 2) (form_of old a 0) (form_of old a 1)
        (form_of old a 2)
        (needed_of a) e h em q n (sym (tag_by_lem bad d old x p e) ∙ g) in
        (omega (arith, b.1), b.2)

    started : h.unknown ≡ 0 → StartTag d s.manner.old (rule_of x).attributes w p h em n
    started u = start_sound bad d s.manner.old x l g u

    nothing_held : (rule_of x).holds ≡ nothing → bind (stands.nothing bad d w em n) (judging bad d (meanings d) x s h no_text) ≡ Is t m
        → Told d (the x) s p t m
    nothing_held i r =
        let b = bound (stands.nothing bad d w em n) (judging bad d (meanings d) x s h no_text) t m r in
        let j = settled x s h no_text b.value b.then_is in
        let y = nothing_read bad d w em (word_name x) within_file.0 b.first_is j.others in
        moved j.same j.place
        (record { charges = charges_of d x s h no_text; says = derivation.empty i (started j.unknown) y; clean = j.charges })

    text_held : {r : Holds} {mode : ℕ} → (rule_of x).holds ≡ r → Texts s.manner.languages r mode
        → bind (body bad d w mode em n) (λ b. judging bad d (meanings d) x s h b.text b.charges) ≡ Is t m → Told d (the x) s p t m
    text_held {r} {mode} i o r' =
        let b = bound (body bad d w mode em n) (λ b. judging bad d (meanings d) x s h b.text b.charges) t m r' in
        let y = b.value in
        let j = settled x s h y.text y.charges b.then_is in
        let v = text_read bad d w s.manner.latin mode em (word_name x) within_file.0 within_file.1 b.first_is j.others in
        moved j.same j.place
        (record {
          charges = charges_of d x s h y.text;
          says = derivation.text i o (started j.unknown) v.text;
          clean = j.charges;
        })

    number_held : (rule_of x).holds ≡ number → bind (body bad d w 0 em n) (counting bad d (meanings d) x s h) ≡ Is t m
        → Told d (the x) s p t m
    unfolding stretch_fits
    number_held i r = on (bound (body bad d w 0 em n) (counting bad d (meanings d) x s h) t m r) where
      on : Bound (body bad d w 0 em n) (counting bad d (meanings d) x s h) t m → Told d (the x) s p t m
      on b = by y.whole (stretch_fits 1 d v (v + y.text.length)) refl refl b.then_is where
        y : Body
        y = b.value

        v : ℕ
        v = y.text.place

        by : (a c : Bool) → y.whole ≡ a → stretch_fits 1 d v (v + y.text.length) ≡ c
            → cond a (cond c (judging bad d (meanings d) x s h y.text y.charges b.place) (Not (fault 2 v)))
            (bind (judged (unknown_at h.unknown ∷ y.charges) (tt {0}) b.place) λ u. (meaning_of d x).said s h y.text) ≡ Is t m
            → Told d (the x) s p t m
        by true true o z r =
            let j = settled x s h y.text y.charges r in
            let k = text_read bad d w s.manner.latin 0 em (word_name x) within_file.0 within_file.1 b.first_is j.others in
            moved j.same j.place
            (record {
              charges = charges_of d x s h y.text;
              says = derivation.digits i (started j.unknown) k.text z;
              clean = j.charges;
            })
        by true false o z r = never cc
        by false c o z r =
            let a = bound (judged (unknown_at h.unknown ∷ y.charges) (tt {0}) b.place) (λ u. (meaning_of d x).said s h y.text) t m
            r in
            let j = judged_read (unknown_at h.unknown ∷ y.charges) (tt {0}) b.place a.first_is in
            let k = text_read bad d w s.manner.latin 0 em (word_name x) within_file.0 within_file.1 b.first_is
            (known h.unknown y.charges j.clean).1 in
            let z = k.whole in
            never cc

    -- its start tag, its parts, its end tag
    module _ {r : Holds} (ps : State → List Part) (i : (rule_of x).holds ≡ r) (o : (s : State) → Parts s.sort r (ps s)) where
      abbrev begun : State
      begun = says_of d x s h no_text

      parts_done : {u : State} {k : ℕ} → em ≡ false → h.unknown ≡ 0 → Clean (charges_of d x s h no_text)
          → Told d (inside w (ps begun)) begun n u k → Clean (closing_of r u) → Told d (the x) s p (closed r u) k
      parts_done {u} {k} z v c y b = record {
        charges = charges_of d x s h no_text ++ (y.charges ++ closing_of r u);
        says = derivation.holding i (o begun) (rw z at (started v)) y.says;
        clean = clean_both (charges_of d x s h no_text) (y.charges ++ closing_of r u) c
            (clean_both y.charges (closing_of r u) y.clean b);
      }

      abbrev child : Element → State → ℕ → Reader State
      child = element bad d (meanings d) f

      abbrev ending : State → Reader State
      ending u k = bind ((steps bad d (meanings d) child w (ps u)).go u k) (meaning_of d x).closed

      abbrev saying : Unit {0} → Reader State
      saying u k = bind ((meaning_of d x).said s h no_text k) ending

      abbrev front : List Charge
      front = (meaning_of d x).charges s h no_text ++ unknown_at h.unknown ∷ (meaning_of d x).also s h no_text

      -- behind its start tag
      parts_behind : (k : ℕ) → em ≡ false → n ≡ k → Clean front → saying (tt {0}) k ≡ Is t m → Told d (the x) s p t m
      parts_behind k z j c e =
          let a = (meaning_of d x).charges s h no_text in
          let b = (meaning_of d x).also s h no_text in
          let v = known h.unknown b (clean_right a (unknown_at h.unknown ∷ b) c) in
          let b1 = bound ((meaning_of d x).said s h no_text k) ending t m e in
          let i1 = judged_read (behind_of d x s no_text) begun k (sym (said_is d x s h no_text k) ∙ b1.first_is) in
          let b2 = bound ((steps bad d (meanings d) child w (ps b1.value)).go b1.value b1.place) (meaning_of d x).closed t m
          b1.then_is in
          let y = parts_read child S w (ps b1.value) b1.value b1.place b2.value b2.place b2.first_is in
          let i2 = judged_read (closing_of (rule_of x).holds b2.value) (closed (rule_of x).holds b2.value) b2.place
          (sym (closed_is d x b2.value b2.place) ∙ b2.then_is) in
          let place : n ≡ b1.place = j ∙ i1.place in
          let y' : Told d (inside w (ps begun)) begun n b2.value b2.place = rw (i1.same, place) y in
          let c' : Clean (closing_of r b2.value) = rw (← i) i2.clean in
          let t' : closed r b2.value ≡ t = rw (← i) i2.same in
          moved t' i2.place
          (parts_done z v.0
          (clean_both a (b ++ behind_of d x s no_text) (clean_left a (unknown_at h.unknown ∷ b) c)
          (clean_both b (behind_of d x s no_text) v.1 i1.clean)) y' c')

      parts_held : entering bad d (meanings d) x s h child ps em q n ≡ Is t m → Told d (the x) s p t m
      parts_held e =
          let b = bound (enter bad d front em q n) saying t m e in
          on em refl b.value b.place (bound (judged front (tt {0}) n) (λ a m. cond em (Not (fault 2 q)) (Is a m)) b.value
          b.place b.first_is) b.then_is where
            on : (c : Bool) → em ≡ c → (u : Unit {0}) (k : ℕ)
                → Bound (judged front (tt {0}) n) (λ a m. cond c (Not (fault 2 q)) (Is a m)) u k
                → saying u k ≡ Is t m → Told d (the x) s p t m
            on true z u k b e = let y = b.then_is in never cc
            on false z u k b e =
                let y = b.then_is in
                let j = judged_read front (tt {0}) n b.first_is in
                let a : b.place ≡ k = cc in
                parts_behind k z (j.place ∙ a) j.clean e

    held_read : (r : Holds) → (rule_of x).holds ≡ r → holding bad d (meanings d) x s h (element bad d (meanings d) f) r em q n ≡ Is t m
        → Told d (the x) s p t m
    held_read nothing i r = nothing_held i r
    held_read plain i r = text_held i derivation.Texts.characters r
    held_read number i r = number_held i r
    held_read texts i r = text_held i derivation.Texts.rich r
    held_read (parts ps) i r = parts_held (λ s. ps) i (λ s. derivation.Parts.parts) r
    held_read (typed ps) i r = parts_held (λ s. ps ++ typed_of s.sort) i (λ s. derivation.Parts.typed) r

  -- ---- an element: what the reader reads, so many deep, is derived
  pub element_read : (f : ℕ) (x : Element) (s : State) (p e : ℕ) (t : State) (m : ℕ) → Lies d p e (60 ∷ (rule_of x).word)
      → element bad d (meanings d) f x s p e ≡ Is t m → Told d (the x) s p t m
  unfolding element
  element_read zero x s p e t m l r = never cc
  element_read (suc f) x s p e t m l r = on (element_read f) (tag_by bad d s.manner.old (rule_of x).attributes p e) refl r where
    on : ((x : Element) (s : State) (p e : ℕ) (t : State) (m : ℕ) → Lies d p e (60 ∷ (rule_of x).word)
        → element bad d (meanings d) f x s p e ≡ Is t m → Told d (the x) s p t m) → (y : Tag)
        → tag_by bad d s.manner.old (rule_of x).attributes p e ≡ y
        → stands.on_tag bad d y
        (λ h empty q. holding bad d (meanings d) x s h (element bad d (meanings d) f) (rule_of x).holds empty q) ≡ Is t m
        → Told d (the x) s p t m
    on ih (tag.Read h em q n) g r = held_read f ih x s p e t m l h em q n g (rule_of x).holds refl r
    on ih (tag.Fault a b) g r = never cc
