-- WHAT IS REFUSED STOPS: where the reader of the table answers f, a derivation stops with f.
use Rattle.std.specs.Prelude.{◌≡◌, Bool, length}
use Rattle.std.proofs.Math.Path.{refl}
use Rattle.std.proofs.Common.{sym, ◌∙◌, arith}
use Rattle.std.proofs.Math.Bool.{true, false, cond}
use mathlib.Core.List.{List, [], ◌∷◌, ◌++◌}
use Prim.Native.Nat.{ℕ, zero, suc, ◌+◌, ◌-◌, ◌<◌, ◌≤◌}
use Rattle.attributes.proofs.Exactly.{shut_exactly}
use Rattle.tags.specs.declared.Held.{Held}
use Rattle.tags.specs.declared.Tag.{Tag}
use Rattle.tags.specs.declared.Tag.TheVariants as tag
use Rattle.tags.specs.rule.Tag.{is_named, stretch_fits}
use Rattle.tags.specs.rule.Tag as tags
use Rattle.tags.proofs.Exactly.{tag_exactly}
use Rattle.pairs.proofs.Lies.{Lies}
use Rattle.tokens.specs.declared.Fault.{Fault}
use Rattle.tokens.specs.rule.Gap.{fault}
use Rattle.survey.specs.rule.Survey.{KeptText}
use Rattle.reading.specs.rule.Result.{Result, Is, Not, Reader, bind}
use Rattle.reading.specs.rule.Least.{Charge, named, Finding, clean, first, least, found, judged}
use Rattle.bridge.specs.Lowest.{never}
use Rattle.elements.proofs.Bounds.{tag_within}
use Rattle.grammar.specs.Faults.{Clean}
use Rattle.grammar.specs.Refusal.{Lowest}
use Rattle.grammar_laws.specs.Views.{judged_there, clean_both, clean_left, clean_right}
use Rattle.xml_reading.specs.rule.Open.{Open, start, shut, within_element, unknown_at, misplaced, enter}
use Rattle.xml_reading.specs.rule.Open as stands
use Rattle.xml_reading.specs.rule.Element.{Body, body}
use Rattle.xml_grammar.specs.Grammar.{Element, Part, Holds, nothing, plain, number, texts, parts, typed, rule_of, typed_of}
use Rattle.xml_grammar.specs.Grammar.{Sss, Date, Time, Origin, User, Survey, SurveyName, SurveyVersion, Title, Record}
use Rattle.xml_grammar.specs.Grammar.{Variable, Name, Label, Position, Filter, Spread, Size, Values, Range, Value}
use Rattle.xml_grammar.specs.Grammar as table
use Rattle.xml_grammar.specs.Reader.{Steps, no_text, tag_by, steps, judging, counting, entering, holding, element}
use Rattle.xml_grammar.specs.Meaning.{State, says_of, behind_of, meaning_of, meanings, turns_of}
use Rattle.xml_derivations.specs.Tag.{StartTag, name_of, form_of, needed_of}
use Rattle.xml_derivations.specs.Derivation.{Comes, Passes, Parts, Texts, the, inside, closed, closing_of, charges_of}
use Rattle.xml_derivations.specs.Derivation as derivation
use Rattle.xml_derivation_laws.specs.Charges.{judged_read, known, clean_none, said_is, closed_is}
use Rattle.xml_derivation_laws.specs.Table.{word_name, height, some_height, fit_of, rule_fits}
use Rattle.xml_derivation_laws.specs.Tags.{tag_by_lem, start_sound}
use Rattle.xml_derivation_laws.specs.Stands.{found_gap, found_start, found_end}
use Rattle.xml_derivation_laws.specs.Bodies.{text_read}
use Rattle.xml_derivation_laws.specs.Fewer.{left, passes_fits, comes_fits, fewer, turns_suffice}
use Rattle.xml_derivation_laws.specs.Read.{parts_read, element_read}
use Rattle.xml_derivation_laws.specs.Derived.{steps_of, loop, any_turns}
use Rattle.xml_refusals.specs.Tags.{TagFaults, tag_refused_exactly}
use Rattle.xml_refusals.specs.Opens.{Opens, Misplaced, found_opens, misplaced_seen}
use Rattle.xml_refusals.specs.Dues.{no_tag_exactly}
use Rattle.xml_refusals.specs.Voids.{void_exactly, void_refused_exactly}
use Rattle.xml_refusals.specs.Texts.{Texted, texted_exactly, text_refused_exactly}
use Rattle.xml_refusals.specs.Stops.{Leads, here, Owes, AnyTag, Blamed, judged_by, front_of, Stops}
use Rattle.xml_refusals.specs.Stops as stops
use Rattle.xml_refusals.specs.Halts.{leads_fits, loop_by}

-- ---- readers one behind the other: the first is refused, or it is read and the other is refused
pub data Fails {A B : Type 0} (r : Result A) (k : A → Reader B) (f : Fault) : Type 0 where
  before : r ≡ Not f → Fails r k f
  behind : (a : A) (m : ℕ) → r ≡ Is a m → k a m ≡ Not f → Fails r k f

pub fails : {A B : Type 0} (r : Result A) (k : A → Reader B) (f : Fault) → bind r k ≡ Not f → Fails r k f
fails (Is a m) k f e = behind a m refl e
fails (Not z) k f e = let i : z ≡ f = cc in before (rw i)

judged_not : {A : Type 0} (l : List Charge) (a : A) (n : ℕ) {f : Fault} → judged l a n ≡ Not f → Lowest l f
unfolding judged
judged_not l a n {f} e = by (least (named l)) refl e where
  by : (x : Finding) → least (named l) ≡ x → found a n x ≡ Not f → Lowest l f
  by clean i e = never cc
  by (first g) i e = let j : g ≡ f = cc in i ∙ rw j

moved : {bad : Bool} {d : List ℕ} {x : _} {s : State} {n : ℕ} {f g : Fault} → f ≡ g → Stops bad d x s n f → Stops bad d x s n g
moved e y = rw (← e) y

-- an element that holds others is charged with no name or filter
quiet : (d : List ℕ) (x : Element) (s : State) (t : KeptText) {k : _} {r : Holds} {l : List Part} → (rule_of x).holds ≡ r → Parts k r l
    → Clean (behind_of d x s t)
quiet d Sss s t i o = clean_none
quiet d Date s t i o = clean_none
quiet d Time s t i o = clean_none
quiet d Origin s t i o = clean_none
quiet d User s t i o = clean_none
quiet d Survey s t i o = clean_none
quiet d SurveyName s t i o = clean_none
quiet d SurveyVersion s t i o = clean_none
quiet d Title s t i o = clean_none
quiet d Record s t i o = clean_none
quiet d Variable s t i o = clean_none
quiet d Name s t i derivation.Parts.parts = never cc
quiet d Name s t i derivation.Parts.typed = never cc
quiet d Label s t i o = clean_none
quiet d Position s t i o = clean_none
quiet d Filter s t i derivation.Parts.parts = never cc
quiet d Filter s t i derivation.Parts.typed = never cc
quiet d Spread s t i o = clean_none
quiet d Size s t i o = clean_none
quiet d Values s t i o = clean_none
quiet d Range s t i o = clean_none
quiet d Value s t i o = clean_none

-- where nothing is due nothing comes next; what must come is not left out
leads_none : {old : Bool} {l b : List Part} {x : Element} → Leads old l x b → l ≡ [] → ⊥
leads_none (here c) e = never cc
leads_none (stops.Leads.later o h) e = never cc

once_stays : {q : Part} {x : Element} → Passes q → q ≡ table.once x → ⊥
once_stays derivation.Passes.perhaps e = never cc
once_stays derivation.Passes.newly e = never cc
once_stays derivation.Passes.any e = never cc

either_stays : {q : Part} {x y : Element} → Passes q → q ≡ table.either x y → ⊥
either_stays derivation.Passes.perhaps e = never cc
either_stays derivation.Passes.newly e = never cc
either_stays derivation.Passes.any e = never cc

module _ (bad : Bool) (d : List ℕ) where
  abbrev child : ℕ → Element → State → ℕ → Reader State
  child g = element bad d (meanings d) g

  -- ---- tags
  any_sound : (old : Bool) (x : Element) {p e q n : ℕ} {h : Held} {em : Bool} → Opens d p e → Lies d p e (60 ∷ (rule_of x).word)
      → tag_by bad d old (rule_of x).attributes p e ≡ tag.Read h em q n
      → AnyTag d old (rule_of x).attributes (rule_of x).word p h em q n
  any_sound old x {p} {e} {q} {n} {h} {em} o l r =
      let a = (rule_of x).attributes in
      let t = (tag_exactly bad d p e (name_of old a 0) (name_of old a 1) (name_of old a 2) (form_of old a 0) (form_of old a 1)
      (form_of old a 2)
      (needed_of a) h em q n).0 (sym (tag_by_lem bad d old x p e) ∙ r) in
      record {
        behind_name = e;
        opens = o;
        name = l;
        placed = t.placed;
        complete = t.whole;
        ended = (shut_exactly bad d p h.next).0 t.shut;
      }

  tag_faults : (old : Bool) (x : Element) (p e : ℕ) {a b : ℕ} → tag_by bad d old (rule_of x).attributes p e ≡ tag.Fault a b
      → TagFaults bad d p (name_of old (rule_of x).attributes 0) (name_of old (rule_of x).attributes 1)
      (name_of old (rule_of x).attributes 2) (form_of old (rule_of x).attributes 0) (form_of old (rule_of x).attributes 1)
      (form_of old (rule_of x).attributes 2) (needed_of (rule_of x).attributes) (tags.nothing_held e) (fault a b)
  tag_faults old x p e {a} {b} t =
      let l = (rule_of x).attributes in
      (tag_refused_exactly bad d p e (name_of old l 0) (name_of old l 1) (name_of old l 2) (form_of old l 0) (form_of old l 1)
      (form_of old l 2)
      (needed_of l) (fault a b)).0 (sym (tag_by_lem bad d old x p e) ∙ t)

  -- ---- parts no higher than k, by a reader of elements so deep, of which what it refuses stops
  module _ (g k : ℕ) (deep : k ≤ g)
      (H : (x : Element) (s : State) (p e : ℕ) (f : Fault) → height x ≤ g → Opens d p e → Lies d p e (60 ∷ (rule_of x).word)
      → child g x s p e ≡ Not f → Stops bad d (the x) s p f) (w : List ℕ) where
    abbrev steps_by : List Part → Steps State
    steps_by l = steps_of bad d g w l

    -- a start tag: it is that of an element that may come next, which is refused, or behind which it is refused; or of none of them
    data AtStart (l : List Part) (s : State) (p e : ℕ) (f : Fault) : Type 0 where
      in_next : {x : Element} {b : List Part} → Leads s.manner.old l x b → is_named d (p + 1) e (rule_of x).word ≡ true
          → child g x s p e ≡ Not f → AtStart l s p e f
      past : {x : Element} {b : List Part} {t : State} {j : ℕ} → Leads s.manner.old l x b
          → is_named d (p + 1) e (rule_of x).word ≡ true → child g x s p e ≡ Is t j → Stops bad d (inside w b) t j f → AtStart l s p e f
      none : ((x : Element) (b : List Part) → Leads s.manner.old l x b → is_named d (p + 1) e (rule_of x).word ≡ false)
          → Misplaced bad d p e f → AtStart l s p e f

    abbrev GoSeen : List Part → Type 0
    GoSeen l = (s : State) (n : ℕ) (f : Fault) → fit_of d k l ≡ true → (steps_by l).go s n ≡ Not f → Stops bad d (inside w l) s n f

    abbrev StartSeen : List Part → Type 0
    StartSeen l = (s : State) (n p e : ℕ) (f : Fault) → fit_of d k l ≡ true → within_element bad d w n ≡ Is (start p) e
        → (steps_by l).at s (start p) e ≡ Not f → AtStart l s p e f

    taken : {l b : List Part} {x : Element} {s : State} {p e : ℕ} {f : Fault} (K : State → Reader State) → Leads s.manner.old l x b
        → is_named d (p + 1) e (rule_of x).word ≡ true
        → ((t : State) (j : ℕ) → child g x s p e ≡ Is t j → K t j ≡ Not f → Stops bad d (inside w b) t j f)
        → bind (child g x s p e) K ≡ Not f → AtStart l s p e f
    taken {l} {b} {x} {s} {p} {e} {f} K h i r z = by (fails (child g x s p e) K f z) where
      by : Fails (child g x s p e) K f → AtStart l s p e f
      by (before a) = in_next h i a
      by (behind t j a c) = past h i a (r t j a c)

    -- a part that is left out
    passed : {q : Part} {l : List Part} {s : State} {p e : ℕ} {f : Fault} → Passes q
        → ((x : Element) (b : List Part) → Comes s.manner.old q x b → is_named d (p + 1) e (rule_of x).word ≡ false)
        → AtStart l s p e f → AtStart (q ∷ l) s p e f
    passed o u (in_next h i z) = in_next (stops.Leads.later o h) i z
    passed o u (past h i z r) = past (stops.Leads.later o h) i z r
    passed {q} {l} {s} {p} {e} o u (none v m) = none by m where
      by : (x : Element) (b : List Part) → Leads s.manner.old (q ∷ l) x b → is_named d (p + 1) e (rule_of x).word ≡ false
      by x b (here {k = a} c) = u x a c
      by x b (stops.Leads.later y h) = v x b h

    -- ---- the end tag
    early : (l : List Part) (s : State) (p m : ℕ) {f : Fault} → (steps_by l).at s (shut p) m ≡ Not f → Owes l × (fault 2 p ≡ f)
    unfolding steps
    early [] s p m e = never cc
    early (table.once x ∷ l) s p m e = (stops.Owes.once, cc)
    early (table.perhaps x ∷ l) s p m e = let r = early l s p m e in (stops.Owes.later derivation.Passes.perhaps r.0, r.1)
    early (table.newly x ∷ l) s p m {f} e =
        by (λ e. let r = early l s p m e in (stops.Owes.later derivation.Passes.newly r.0, r.1)) s.manner.old e where
          by : ((steps_by l).at s (shut p) m ≡ Not f → Owes (table.newly x ∷ l) × (fault 2 p ≡ f)) → (b : Bool)
              → cond b ((steps_by l).at s (shut p)) ((steps_by l).at s (shut p)) m ≡ Not f → Owes (table.newly x ∷ l) × (fault 2 p ≡ f)
          by rest true e = rest e
          by rest false e = rest e
    early (table.either x y ∷ l) s p m e = (stops.Owes.either, cc)
    early (table.any x ∷ l) s p m e = let r = early l s p m e in (stops.Owes.later derivation.Passes.any r.0, r.1)

    -- ---- a start tag, part by part
    start_end : StartSeen []
    unfolding steps
    start_end s n p e f i t r = none none_leads (misplaced_seen bad d _ r) where
      none_leads : (x : Element) (b : List Part) → Leads s.manner.old [] x b → is_named d (p + 1) e (rule_of x).word ≡ false
      none_leads x b h = absurd (leads_none h refl)

    start_once : (x : Element) (l : List Part) → GoSeen l → StartSeen (table.once x ∷ l)
    unfolding steps
    start_once x l go s n p e f i t r = by (is_named d (p + 1) e (rule_of x).word) refl r where
      by : (b : Bool) → is_named d (p + 1) e (rule_of x).word ≡ b
          → bind (cond b (child g x s p e) (misplaced bad d p e)) (steps_by l).go ≡ Not f → AtStart (table.once x ∷ l) s p e f
      by true o r =
          let c : Comes s.manner.old (table.once x) x [] = derivation.Comes.once in
          taken (steps_by l).go (here c) o (λ u j a. go u j f (comes_fits d k l c i).rest) r
      by false o r = none only (misplaced_seen bad d (steps_by l).go r) where
        only : (y : Element) (b : List Part) → Leads s.manner.old (table.once x ∷ l) y b → is_named d (p + 1) e (rule_of y).word ≡ false
        only y b (here derivation.Comes.once) = o
        only y b (stops.Leads.later z h) = absurd (once_stays z refl)

    -- x?, where it may come (q) and be left out
    module _ (q : Part) (x : Element) (l : List Part) (o : Passes q) (at : StartSeen l) (go : GoSeen l) where
      start_maybe : (s : State) (n p e : ℕ) (f : Fault) → Comes s.manner.old q x []
          → ((y : Element) (b : List Part) → Comes s.manner.old q y b → y ≡ x) → fit_of d k (q ∷ l) ≡ true
          → within_element bad d w n ≡ Is (start p) e
          → stands.either_element bad d (rule_of x).word (start p) (λ p n. bind (child g x s p n) (steps_by l).go)
          ((steps_by l).at s (start p)) e
          ≡ Not f
          → AtStart (q ∷ l) s p e f
      start_maybe s n p e f c u i t r = by (is_named d (p + 1) e (rule_of x).word) refl r where
        fit : fit_of d k l ≡ true
        fit = passes_fits d k l o i

        by : (b : Bool) → is_named d (p + 1) e (rule_of x).word ≡ b
            → cond b (bind (child g x s p e) (steps_by l).go) ((steps_by l).at s (start p) e) ≡ Not f → AtStart (q ∷ l) s p e f
        by true j r = taken (steps_by l).go (here c) j (λ u m a. go u m f fit) r
        by false j r = passed o (λ y b z. let v = u y b z in rw v j) (at s n p e f fit t r)

    perhaps_one : {old : Bool} {x : Element} (y : Element) (b : List Part) → Comes old (table.perhaps x) y b → y ≡ x
    perhaps_one y b derivation.Comes.perhaps = refl

    newly_one : {old : Bool} {x : Element} (y : Element) (b : List Part) → Comes old (table.newly x) y b → y ≡ x
    newly_one y b (derivation.Comes.newly o) = refl

    newly_none : {x : Element} (y : Element) (b : List Part) → Comes true (table.newly x) y b → ⊥
    newly_none y b (derivation.Comes.newly o) = never cc

    start_perhaps : (x : Element) (l : List Part) → StartSeen l → GoSeen l → StartSeen (table.perhaps x ∷ l)
    unfolding steps
    start_perhaps x l at go s n p e f i t r =
        start_maybe (table.perhaps x) x l derivation.Passes.perhaps at go s n p e f derivation.Comes.perhaps perhaps_one i t r

    start_newly : (x : Element) (l : List Part) → StartSeen l → GoSeen l → StartSeen (table.newly x ∷ l)
    unfolding steps
    start_newly x l at go s n p e f i t r = by s.manner.old refl r where
      by : (b : Bool) → s.manner.old ≡ b → cond b ((steps_by l).at s (start p))
          (stands.either_element bad d (rule_of x).word (start p) (λ p n. bind (child g x s p n) (steps_by l).go)
          ((steps_by l).at s (start p))) e
          ≡ Not f
          → AtStart (table.newly x ∷ l) s p e f
      by true o r =
          passed derivation.Passes.newly (λ y b z. absurd (newly_none y b (rw o at z)))
          (at s n p e f (passes_fits d k l (derivation.Passes.newly {x = x}) i) t r)
      by false o r =
          start_maybe (table.newly x) x l derivation.Passes.newly at go s n p e f (derivation.Comes.newly o) newly_one i t r

    start_either : (x y : Element) (l : List Part) → GoSeen l → StartSeen (table.either x y ∷ l)
    unfolding steps
    start_either x y l go s n p e f i t r =
        by (is_named d (p + 1) e (rule_of x).word) (is_named d (p + 1) e (rule_of y).word) refl refl r where
          fit : fit_of d k l ≡ true
          fit =
              let c : Comes s.manner.old (table.either x y) x [] = derivation.Comes.left in
              (comes_fits d k l c i).rest

          by : (a b : Bool) → is_named d (p + 1) e (rule_of x).word ≡ a → is_named d (p + 1) e (rule_of y).word ≡ b
              → bind (cond a (child g x s p e) (cond b (child g y s p e) (misplaced bad d p e))) (steps_by l).go ≡ Not f
              → AtStart (table.either x y ∷ l) s p e f
          by true b o z r = taken (steps_by l).go (here derivation.Comes.left) o (λ u m a. go u m f fit) r
          by false true o z r = taken (steps_by l).go (here derivation.Comes.right) z (λ u m a. go u m f fit) r
          by false false o z r = none only (misplaced_seen bad d (steps_by l).go r) where
            only : (v : Element) (b : List Part) → Leads s.manner.old (table.either x y ∷ l) v b
                → is_named d (p + 1) e (rule_of v).word ≡ false
            only v b (here derivation.Comes.left) = o
            only v b (here derivation.Comes.right) = z
            only v b (stops.Leads.later a h) = absurd (either_stays a refl)

    -- ---- what stands there, seen
    settle : (l : List Part) (s : State) (n p e : ℕ) (f : Fault) → fit_of d k l ≡ true → within_element bad d w n ≡ Is (start p) e
        → AtStart l s p e f → Stops bad d (inside w l) s n f
    settle l s n p e f i t (in_next {x = x} h o z) =
        let b = (leads_fits d k h i).low in
        stops.in_next h (found_gap bad d w t)
        (H x s p e f (omega arith) (found_opens bad d w n t) (found_start bad d w n (rule_of x).word t o) z)
    settle l s n p e f i t (past {x = x} {t = v} {j = j} h o z r) =
        stops.behind h (found_gap bad d w t) (element_read bad d g x s p e v j (found_start bad d w n (rule_of x).word t o) z) r
    settle l s n p e f i t (none u m) = stops.other (found_gap bad d w t) (found_opens bad d w n t) u m

    shut_seen : (l : List Part) (s : State) (n p m : ℕ) (f : Fault) → within_element bad d w n ≡ Is (shut p) m
        → (steps_by l).at s (shut p) m ≡ Not f → Stops bad d (inside w l) s n f
    shut_seen l s n p m f t r =
        let y = found_end bad d w t in
        let o = early l s p m r in
        moved o.1 (stops.too_early y.0 y.1 o.0)

    look : (l : List Part) → StartSeen l → (s : State) (n : ℕ) (f : Fault) → fit_of d k l ≡ true
        → bind (within_element bad d w n) ((steps_by l).at s) ≡ Not f → Stops bad d (inside w l) s n f
    look l at s n f i r = by (fails (within_element bad d w n) ((steps_by l).at s) f r) where
      by : Fails (within_element bad d w n) ((steps_by l).at s) f → Stops bad d (inside w l) s n f
      by (before a) = stops.no_tag ((no_tag_exactly bad d w n f).0 a)
      by (behind (start p) e a c) = settle l s n p e f i a (at s n p e f i a c)
      by (behind (shut p) m a c) = shut_seen l s n p m f a c

    -- ---- x*: again and again
    module _ (x : Element) (l : List Part) (at : StartSeen l) where
      any_one : {old : Bool} (y : Element) (b : List Part) → Comes old (table.any x) y b → y ≡ x
      any_one y b derivation.Comes.any = refl

      fewer_by : (s : State) (n : ℕ) {p e : ℕ} (t : State) (j : ℕ) → fit_of d k (table.any x ∷ l) ≡ true → within_element bad d w n
          ≡ Is (start p) e
          → is_named d (p + 1) e (rule_of x).word ≡ true → child g x s p e ≡ Is t j → left (rule_of x).holds t < left (rule_of x).holds s
      fewer_by s n {p} {e} t j i f o a =
          let y = element_read bad d g x s p e t j (found_start bad d w n (rule_of x).word f o) a in
          fewer d x (any_turns bad d k x l i) y.says y.clean

      loop_seen : (u : ℕ) (s : State) (n : ℕ) (f : Fault) → fit_of d k (table.any x ∷ l) ≡ true → left (rule_of x).holds s < u
          → loop bad d g w x l u s n ≡ Not f → Stops bad d (inside w (table.any x ∷ l)) s n f
      loop_seen zero s n f i h r = absurd (omega arith)
      loop_seen (suc u) s n f i h r =
          on (loop_seen u) (fails (within_element bad d w n) turn f (sym (loop_by bad d g w x l u s n) ∙ r)) where
            turn : Open → Reader State
            turn o = stands.either_element bad d (rule_of x).word o (λ p e. bind (child g x s p e) (loop bad d g w x l u))
                ((steps_by l).at s o)

            on : ((s : State) (n : ℕ) (f : Fault) → fit_of d k (table.any x ∷ l) ≡ true → left (rule_of x).holds s < u
                → loop bad d g w x l u s n ≡ Not f → Stops bad d (inside w (table.any x ∷ l)) s n f)
                → Fails (within_element bad d w n) turn f → Stops bad d (inside w (table.any x ∷ l)) s n f
            on ih (before a) = stops.no_tag ((no_tag_exactly bad d w n f).0 a)
            on ih (behind (shut p) m a c) =
                let y = found_end bad d w a in
                let o = early l s p m c in
                moved o.1 (stops.too_early y.0 y.1 (stops.Owes.later derivation.Passes.any o.0))
            on ih (behind (start p) e a c) =
                settle (table.any x ∷ l) s n p e f i a (named (is_named d (p + 1) e (rule_of x).word) refl c) where
                  named : (b : Bool) → is_named d (p + 1) e (rule_of x).word ≡ b
                      → cond b (bind (child g x s p e) (loop bad d g w x l u)) ((steps_by l).at s (start p) e) ≡ Not f
                      → AtStart (table.any x ∷ l) s p e f
                  named true o c =
                      taken (loop bad d g w x l u) (here derivation.Comes.any) o
                      (λ t j z. ih t j f i (omega (arith, fewer_by s n t j i a o z))) c
                  named false o c =
                      passed derivation.Passes.any (λ y b z. let v = any_one y b z in rw v o)
                      (at s n p e f (passes_fits d k l (derivation.Passes.any {x = x}) i) a c)

      go_any : GoSeen (table.any x ∷ l)
      unfolding steps
      go_any s n f i r = loop_seen (turns_of d x) s n f i (turns_suffice d x s (any_turns bad d k x l i)) r

      start_any : StartSeen (table.any x ∷ l)
      unfolding steps
      start_any s n p e f i t r = by (is_named d (p + 1) e (rule_of x).word) refl r where
        by : (b : Bool) → is_named d (p + 1) e (rule_of x).word ≡ b
            → cond b (bind (child g x s p e) (loop bad d g w x l (turns_of d x))) ((steps_by l).at s (start p) e) ≡ Not f
            → AtStart (table.any x ∷ l) s p e f
        by true o r =
            taken (loop bad d g w x l (turns_of d x)) (here derivation.Comes.any) o
            (λ u j a. loop_seen (turns_of d x) u j f i (turns_suffice d x u (any_turns bad d k x l i))) r
        by false o r =
            passed derivation.Passes.any (λ y b z. let v = any_one y b z in rw v o)
            (at s n p e f (passes_fits d k l (derivation.Passes.any {x = x}) i) t r)

    -- ---- all of them
    both : (l : List Part) → StartSeen l × GoSeen l
    unfolding steps
    both [] = (start_end, look [] start_end)
    both (table.once x ∷ l) = let b = both l in let a = start_once x l b.1 in (a, look (table.once x ∷ l) a)
    both (table.perhaps x ∷ l) = let b = both l in let a = start_perhaps x l b.0 b.1 in (a, look (table.perhaps x ∷ l) a)
    both (table.newly x ∷ l) = let b = both l in let a = start_newly x l b.0 b.1 in (a, look (table.newly x ∷ l) a)
    both (table.either x y ∷ l) = let b = both l in let a = start_either x y l b.1 in (a, look (table.either x y ∷ l) a)
    both (table.any x ∷ l) = let b = both l in (start_any x l b.0, go_any x l b.0)

    parts_seen : (l : List Part) → GoSeen l
    parts_seen l = (both l).1

  -- ---- an element, behind its start tag
  module _ (g : ℕ)
      (H : (x : Element) (s : State) (p e : ℕ) (f : Fault) → height x ≤ g → Opens d p e → Lies d p e (60 ∷ (rule_of x).word)
      → child g x s p e ≡ Not f → Stops bad d (the x) s p f)
      (x : Element) (s : State) (p e : ℕ) (f : Fault) (high : height x ≤ suc g) (opens : Opens d p e)
      (l : Lies d p e (60 ∷ (rule_of x).word)) (h : Held) (em : Bool) (q n : ℕ)
      (t : tag_by bad d s.manner.old (rule_of x).attributes p e ≡ tag.Read h em q n) where
    abbrev w : List ℕ
    w = (rule_of x).word

    tagged : AnyTag d s.manner.old (rule_of x).attributes w p h em q n
    tagged = any_sound s.manner.old x opens l t

    within_file : (0 < n) × (n ≤ length d)
    within_file =
        let a = (rule_of x).attributes in
        let old = s.manner.old in
        let b = tag_within bad d p (name_of old a 0) (name_of old a 1) (name_of old a 2) (form_of old a 0) (form_of old a 1)
        (form_of old a 2)
        (needed_of a) e h em q n (sym (tag_by_lem bad d old x p e) ∙ t) in
        (omega (arith, b.1), b.2)

    -- judged once read
    judging_seen : (y : KeptText) (c : List Charge) (m : ℕ) → judging bad d (meanings d) x s h y c m ≡ Not f
        → Blamed (judged_by d x s h y c) (behind_of d x s y) f
    judging_seen y c m r = by (fails (judged (judged_by d x s h y c) (tt {0}) m) (λ u. (meaning_of d x).said s h y) f r) where
      by : Fails (judged (judged_by d x s h y c) (tt {0}) m) (λ u. (meaning_of d x).said s h y) f
          → Blamed (judged_by d x s h y c) (behind_of d x s y) f
      by (before a) = stops.at_first (judged_not (judged_by d x s h y c) (tt {0}) m a)
      by (behind u j a b) =
          stops.at_last (judged_read (judged_by d x s h y c) (tt {0}) m a).clean
          (judged_not (behind_of d x s y) (says_of d x s h y) j (sym (said_is d x s h y j) ∙ b))

    nothing_seen : (rule_of x).holds ≡ nothing → bind (stands.nothing bad d w em n) (judging bad d (meanings d) x s h no_text) ≡ Not f
        → Stops bad d (the x) s p f
    nothing_seen i r = by (fails (stands.nothing bad d w em n) (judging bad d (meanings d) x s h no_text) f r) where
      by : Fails (stands.nothing bad d w em n) (judging bad d (meanings d) x s h no_text) f → Stops bad d (the x) s p f
      by (before a) = stops.in_content tagged (stops.InnerStops.empty i ((void_refused_exactly bad d w em n f).0 a))
      by (behind c m a b) =
          stops.charged tagged (stops.Inner.empty i ((void_exactly bad d w em n c m (word_name x)).0 a)) (judging_seen no_text c m b)

    text_seen : {r : Holds} {mode : ℕ} → (rule_of x).holds ≡ r → Texts s.manner.languages r mode
        → bind (body bad d w mode em n) (λ b. judging bad d (meanings d) x s h b.text b.charges) ≡ Not f → Stops bad d (the x) s p f
    text_seen {r} {mode} i o z =
        by (fails (body bad d w mode em n) (λ b. judging bad d (meanings d) x s h b.text b.charges) f z) where
          by : Fails (body bad d w mode em n) (λ b. judging bad d (meanings d) x s h b.text b.charges) f → Stops bad d (the x) s p f
          by (before a) = stops.in_content tagged (stops.InnerStops.text i o ((text_refused_exactly bad d mode w em n f).0 a))
          by (behind b m a c) =
              stops.charged tagged (stops.Inner.text i o ((texted_exactly bad d mode w em n b m (word_name x)).0 a))
              (judging_seen b.text b.charges m c)

    number_seen : (rule_of x).holds ≡ number → bind (body bad d w 0 em n) (counting bad d (meanings d) x s h) ≡ Not f
        → Stops bad d (the x) s p f
    unfolding stretch_fits
    number_seen i z = on (fails (body bad d w 0 em n) (counting bad d (meanings d) x s h) f z) where
      texted : (b : Body) (m : ℕ) → body bad d w 0 em n ≡ Is b m → Texted bad d 0 w em n b m
      texted b m a = (texted_exactly bad d 0 w em n b m (word_name x)).0 a

      counted : (b : Body) (m : ℕ) → body bad d w 0 em n ≡ Is b m → (y z : Bool) → b.whole ≡ y
          → stretch_fits 1 d b.text.place (b.text.place + b.text.length) ≡ z
          → cond y (cond z (judging bad d (meanings d) x s h b.text b.charges m) (Not (fault 2 b.text.place)))
          (bind (judged (unknown_at h.unknown ∷ b.charges) (tt {0}) m) λ u. (meaning_of d x).said s h b.text) ≡ Not f
          → Stops bad d (the x) s p f
      counted b m a true true o v r =
          stops.charged tagged (stops.Inner.digits i (texted b m a) o v) (judging_seen b.text b.charges m r)
      counted b m a true false o v r =
          let j : fault 2 b.text.place ≡ f = cc in moved j (stops.in_content tagged (stops.no_digits i (texted b m a) o v))
      counted b m a false z o v r =
          by (fails (judged (unknown_at h.unknown ∷ b.charges) (tt {0}) m) (λ u. (meaning_of d x).said s h b.text) f r) where
            by : Fails (judged (unknown_at h.unknown ∷ b.charges) (tt {0}) m) (λ u. (meaning_of d x).said s h b.text) f
                → Stops bad d (the x) s p f
            by (before c) =
                stops.in_content tagged (stops.cut i (texted b m a) o (judged_not (unknown_at h.unknown ∷ b.charges) (tt {0}) m c))
            by (behind u j c y) =
                let k = judged_read (unknown_at h.unknown ∷ b.charges) (tt {0}) m c in
                let z = (text_read bad d w s.manner.latin 0 em (word_name x) within_file.0 within_file.1 a
                (known h.unknown b.charges k.clean).1).whole in
                never cc

      on : Fails (body bad d w 0 em n) (counting bad d (meanings d) x s h) f → Stops bad d (the x) s p f
      on (before a) = stops.in_content tagged (stops.InnerStops.digits i ((text_refused_exactly bad d 0 w em n f).0 a))
      on (behind b m a c) =
          counted b m a b.whole (stretch_fits 1 d b.text.place (b.text.place + b.text.length)) refl refl c

    -- ---- its start tag, its parts, its end tag
    module _ {r : Holds} (ps : State → List Part) (i : (rule_of x).holds ≡ r) (o : (s : State) → Parts s.sort r (ps s)) where
      abbrev begun : State
      begun = says_of d x s h no_text

      abbrev ending : State → Reader State
      ending u k = bind ((steps bad d (meanings d) (child g) w (ps u)).go u k) (meaning_of d x).closed

      abbrev saying : Unit {0} → Reader State
      saying u k = bind ((meaning_of d x).said s h no_text k) ending

      said_there : (k : ℕ) → (meaning_of d x).said s h no_text k ≡ Is begun k
      said_there k = said_is d x s h no_text k ∙ judged_there (behind_of d x s no_text) begun k (quiet d x s no_text i (o begun))

      module _ (z : em ≡ false) (c : Clean (front_of d x s h)) where
        no_unknown : (h.unknown ≡ 0) × Clean ((meaning_of d x).also s h no_text)
        no_unknown =
            let a = (meaning_of d x).charges s h no_text in
            let b = (meaning_of d x).also s h no_text in
            known h.unknown b (clean_right a (unknown_at h.unknown ∷ b) c)

        started : StartTag d s.manner.old (rule_of x).attributes w p h false n
        started = rw z at (start_sound bad d s.manner.old x l t no_unknown.0)

        charges_clean : Clean (charges_of d x s h no_text)
        charges_clean =
            let a = (meaning_of d x).charges s h no_text in
            let b = (meaning_of d x).also s h no_text in
            clean_both a (b ++ behind_of d x s no_text) (clean_left a (unknown_at h.unknown ∷ b) c)
            (clean_both b (behind_of d x s no_text) no_unknown.1 (quiet d x s no_text i (o begun)))

        parts_behind : ending begun n ≡ Not f → Stops bad d (the x) s p f
        parts_behind y = by (fails ((steps bad d (meanings d) (child g) w (ps begun)).go begun n) (meaning_of d x).closed f y) where
          by : Fails ((steps bad d (meanings d) (child g) w (ps begun)).go begun n) (meaning_of d x).closed f → Stops bad d (the x) s p f
          by (before a) =
              stops.in_parts_lem i (o begun) started charges_clean
              (parts_seen g (height x - 1) (omega arith) H w (ps begun) begun n f (rule_fits d x i (o begun)) a)
          by (behind u m a b) =
              let v = judged_not (closing_of (rule_of x).holds u) (closed (rule_of x).holds u) m (sym (closed_is d x u m) ∙ b) in
              stops.at_end_lem i (o begun) started charges_clean
              (parts_read bad d (child g) (element_read bad d g) w (ps begun) begun n u m a) (rw i at v)

      parts_held : entering bad d (meanings d) x s h (child g) ps em q n ≡ Not f → Stops bad d (the x) s p f
      parts_held y = on (fails (enter bad d (front_of d x s h) em q n) saying f y) where
        ends : Bool → Unit {0} → Reader (Unit {0})
        ends c a m = cond c (Not (fault 2 q)) (Is a m)

        fronted : Fails (judged (front_of d x s h) (tt {0}) n) (ends em) f → Stops bad d (the x) s p f
        fronted (before a) = stops.at_start i (o begun) tagged (judged_not (front_of d x s h) (tt {0}) n a)
        fronted (behind u m a b) = by em refl b where
          by : (c : Bool) → em ≡ c → ends c u m ≡ Not f → Stops bad d (the x) s p f
          by true z b =
              let j : fault 2 q ≡ f = cc in
              moved j (stops.ended i (o begun) (rw z at tagged) (judged_read (front_of d x s h) (tt {0}) n a).clean)
          by false z b = never cc

        opened : (u : Unit {0}) (k : ℕ) → (c : Bool) → em ≡ c → bind (judged (front_of d x s h) (tt {0}) n) (ends c) ≡ Is u k
            → saying (tt {0}) k ≡ Not f → Stops bad d (the x) s p f
        opened u k c z a b = by (judged (front_of d x s h) (tt {0}) n) refl c z a where
          by : (v : Result (Unit {0})) → judged (front_of d x s h) (tt {0}) n ≡ v → (c : Bool) → em ≡ c → bind v (ends c) ≡ Is u k
              → Stops bad d (the x) s p f
          by (Is y m) v true z a = never cc
          by (Is y m) v false z a =
              let j = judged_read (front_of d x s h) (tt {0}) n v in
              let i1 : m ≡ k = cc in
              let i2 : n ≡ k = j.place ∙ i1 in
              let b' : bind (Is begun k) ending ≡ Not f = rw (said_there k) at b in
              parts_behind z j.clean (rw i2 b')
          by (Not y) v c z a = never cc

        on : Fails (enter bad d (front_of d x s h) em q n) saying f → Stops bad d (the x) s p f
        on (before a) = fronted (fails (judged (front_of d x s h) (tt {0}) n) (ends em) f a)
        on (behind u k a b) = opened u k em refl a b

    held_seen : (r : Holds) → (rule_of x).holds ≡ r → holding bad d (meanings d) x s h (child g) r em q n ≡ Not f
        → Stops bad d (the x) s p f
    held_seen nothing i r = nothing_seen i r
    held_seen plain i r = text_seen i derivation.Texts.characters r
    held_seen number i r = number_seen i r
    held_seen texts i r = text_seen i derivation.Texts.rich r
    held_seen (parts ps) i r = parts_held (λ s. ps) i (λ s. derivation.Parts.parts) r
    held_seen (typed ps) i r = parts_held (λ s. ps ++ typed_of s.sort) i (λ s. derivation.Parts.typed) r

  -- ---- an element: what the reader refuses, so many deep, stops
  pub element_seen : (g : ℕ) (x : Element) (s : State) (p e : ℕ) (f : Fault) → height x ≤ g → Opens d p e
      → Lies d p e (60 ∷ (rule_of x).word) → child g x s p e ≡ Not f → Stops bad d (the x) s p f
  unfolding element
  element_seen zero x s p e f high o l r = let z = some_height x in absurd (omega arith)
  element_seen (suc g) x s p e f high o l r =
      on (element_seen g) (tag_by bad d s.manner.old (rule_of x).attributes p e) refl r where
        on : ((x : Element) (s : State) (p e : ℕ) (f : Fault) → height x ≤ g → Opens d p e → Lies d p e (60 ∷ (rule_of x).word)
            → child g x s p e ≡ Not f → Stops bad d (the x) s p f) → (y : Tag)
            → tag_by bad d s.manner.old (rule_of x).attributes p e ≡ y
            → stands.on_tag bad d y (λ h empty q. holding bad d (meanings d) x s h (child g) (rule_of x).holds empty q) ≡ Not f
            → Stops bad d (the x) s p f
        on ih (tag.Read h em q n) t r = held_seen g ih x s p e f high o l h em q n t (rule_of x).holds refl r
        on ih (tag.Fault a b) t r =
            let j : fault a b ≡ f = cc in
            moved j (stops.in_tag (record { behind_name = e; opens = o; name = l; faults = tag_faults s.manner.old x p e t }))
