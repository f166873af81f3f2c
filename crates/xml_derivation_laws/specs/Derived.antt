-- WHAT IS DERIVED IS READ: an element of the grammar in which nothing is charged is read by the reader of the table, in the turns and the
-- depth that it has.
use Rattle.std.specs.Prelude.{◌≡◌, refl, Bool, true, false, cond, not, ◌&&◌, ℕ, zero, suc, ◌+◌, ◌-◌, ◌<◌, ◌≤◌}
use Rattle.std.proofs.Common.{sym, ap, subst, ◌∙◌, arith}
use mathlib.Core.List.{List, [], ◌∷◌, ◌++◌}
use Rattle.std.proofs.Math.Dec.{leb, ltb}
use Rattle.below.specs.Below.{and_left, and_right}
use Rattle.scan.specs.rule.Loop.{Next, Again, Done}
use Rattle.markup.proofs.Gaps.{Gapped}
use Rattle.tags.specs.declared.Held.{Held}
use Rattle.tags.specs.rule.Tag.{is_named, stretch_fits}
use Rattle.pairs.specs.rule.Grammar.{Name}
use Rattle.pairs.proofs.Lies.{Lies, lies_named, lies_first}
use Rattle.pairs.proofs.Ends.{Edge, EndAt}
use Rattle.spans.specs.rule.Says.{same_of}
use Rattle.survey.specs.rule.Survey.{KeptText}
use Rattle.reading.specs.rule.Result.{Result, Is, Reader, give, repeat, bind}
use Rattle.reading.specs.rule.Least.{Charge}
use Rattle.bridge.specs.Lowest.{never}
use Rattle.grammar.specs.Faults.{Clean}
use Rattle.grammar_laws.specs.Views.{judged_there, clean_both, clean_left, clean_right}
use Rattle.xml_reading.specs.rule.Open.{Open, start, shut, within_element, unknown_at}
use Rattle.xml_reading.specs.rule.Open as stands
use Rattle.xml_reading.specs.rule.Element.{body}
use Rattle.xml_grammar.specs.Grammar.{Element, Part, Holds, nothing, number, rule_of, typed_of}
use Rattle.xml_grammar.specs.Grammar as table
use Rattle.xml_grammar.specs.Reader.{Steps, no_text, round, steps, judging, entering, holding, element}
use Rattle.xml_grammar.specs.Meaning.{State, says_of, behind_of, meaning_of, meanings, turns_of}
use Rattle.xml_grammar.specs.Loops.{onward, repeat_by}
use Rattle.xml_derivations.specs.Tag.{StartTag, NothingAt, TextAt}
use Rattle.xml_derivations.specs.Derivation.{Comes, Passes, Parts, Texts, Thing, the, inside, Says, closed, closing_of, charges_of}
use Rattle.xml_derivations.specs.Derivation as derivation
use Rattle.xml_derivation_laws.specs.Charges.{none_unknown, clean_none, said_is, closed_is}
use Rattle.xml_derivation_laws.specs.Table.{word_name, height, some_height, firsts, none, fit_of, rule_fits}
use Rattle.xml_derivation_laws.specs.Tags.{start_complete, start_known, start_edge}
use Rattle.xml_derivation_laws.specs.Stands.{finds_start, finds_end, not_named}
use Rattle.xml_derivation_laws.specs.Bodies.{nothing_there, noted, text_there}
use Rattle.xml_derivation_laws.specs.Fewer.{left, comes_fits, passes_fits, fewer, turns_suffice}

module _ (bad : Bool) (d : List ℕ) where
  -- ---- what is proved of an element, and of parts
  pub record ElementRead (x : Element) (s : State) (p : ℕ) (t : State) (m : ℕ) : Type 0 where
    pub behind_name : ℕ
    pub name : Lies d p behind_name (60 ∷ (rule_of x).word)
    pub edge : Edge d behind_name
    pub reads : (f : ℕ) → height x ≤ f → element bad d (meanings d) f x s p behind_name ≡ Is t m

  abbrev pub steps_of : ℕ → List ℕ → List Part → Steps State
  steps_of f w l = steps bad d (meanings d) (element bad d (meanings d) f) w l

  -- x*, in so many turns, and what follows
  abbrev pub loop : ℕ → List ℕ → Element → List Part → ℕ → State → Reader State
  loop f w x l g s n =
      bind (repeat g (round bad d (meanings d) (element bad d (meanings d) f) w x) s n) λ y. (steps_of f w l).at y.0 y.1

  -- where x* comes first: in more turns than there may be of it
  abbrev Loops : ℕ → List ℕ → List Part → State → ℕ → State → ℕ → Type 0
  Loops f w [] s n t m = Unit {0}
  Loops f w (table.once x ∷ l) s n t m = Unit {0}
  Loops f w (table.perhaps x ∷ l) s n t m = Unit {0}
  Loops f w (table.newly x ∷ l) s n t m = Unit {0}
  Loops f w (table.either x y ∷ l) s n t m = Unit {0}
  Loops f w (table.any x ∷ l) s n t m = (g : ℕ) → left (rule_of x).holds s < g → loop f w x l g s n ≡ Is t m

  -- the tag that was found has another name
  abbrev Other : Open → ℕ → List ℕ → Type 0
  Other (start p) k v = is_named d (p + 1) k v ≡ false
  Other (shut p) k v = Unit {0}

  pub record PartsRead (f : ℕ) (w : List ℕ) (l : List Part) (s : State) (n : ℕ) (t : State) (m : ℕ) : Type 0 where
    pub found : Open
    pub behind : ℕ
    pub there : within_element bad d w n ≡ Is found behind
    pub at : (steps_of f w l).at s found behind ≡ Is t m
    pub other : (v : List ℕ) → none v (firsts l) ≡ true → Other found behind v
    pub loops : Loops f w l s n t m

  abbrev Read : Thing → State → ℕ → State → ℕ → Type 0
  Read (the x) s p t m = ElementRead x s p t m
  Read (inside w l) s n t m = Name w → (f k : ℕ) → fit_of d k l ≡ true → k ≤ f → PartsRead f w l s n t m

  -- ---- parts
  -- from before the gap
  pub go_on : (f k : ℕ) (w : List ℕ) (l : List Part) {s t : State} {n m : ℕ} → fit_of d k l ≡ true → PartsRead f w l s n t m
      → (steps_of f w l).go s n ≡ Is t m
  unfolding steps fit_of
  go_on f k w [] e y = rw y.there y.at
  go_on f k w (table.once x ∷ l) e y = rw y.there y.at
  go_on f k w (table.perhaps x ∷ l) e y = rw y.there y.at
  go_on f k w (table.newly x ∷ l) e y = rw y.there y.at
  go_on f k w (table.either x z ∷ l) e y = rw y.there y.at
  go_on f k w (table.any x ∷ l) {s} e y =
      let a = leb (height x) k in
      let b = none (rule_of x).word (firsts l) in
      let c = ltb 0 (turns_of d x) in
      let h = and_left c (fit_of d k l) (and_right b (c && fit_of d k l) (and_right a (b && (c && fit_of d k l)) e)) in
      y.loops (turns_of d x) (turns_suffice d x s h)

  -- the end tag
  end_read : {w : List ℕ} {s : State} {n p m : ℕ} → Gapped d n p → EndAt d w p m → Read (inside w []) s n s m
  unfolding steps
  end_read {w} {s} {n} {p} {m} g e = λ a f k h l. record {
    found = shut p;
    behind = m;
    there = finds_end bad d w g a e;
    at = refl;
    other = λ v o. tt;
    loops = tt;
  }

  -- ---- a part that is left out
  either_other : {A : Type 0} (v : List ℕ) (o : Open) (k : ℕ) (K : ℕ → Reader A) (Q : Reader A) → Other o k v
      → stands.either_element bad d v o K Q k ≡ Q k
  either_other v (start p) k K Q e = rw e
  either_other v (shut p) k K Q e = refl

  pub cond_both : {A : Type 0} (b : Bool) (x y : Reader A) (k : ℕ) {z : Result A} → x k ≡ z → y k ≡ z → cond b x y k ≡ z
  cond_both true x y k e f = e
  cond_both false x y k e f = f

  pub cond_no : {A : Type 0} (b : Bool) (x y : Reader A) (k : ℕ) {z : Result A} → b ≡ false → y k ≡ z → cond b x y k ≡ z
  cond_no true x y k e f = never cc
  cond_no false x y k e f = f

  -- another name than those of x and of what may follow
  not_first : (x : Element) (l : List Part) (v : List ℕ) (o : Open) (k : ℕ) → ((v : List ℕ) → none v (firsts l) ≡ true → Other o k v)
      → none v (x ∷ firsts l) ≡ true → Other o k v
  unfolding none
  not_first x l v o k g e = g v (and_right (not (same_of v (rule_of x).word)) (none v (firsts l)) e)

  pub apart_perhaps : (k : ℕ) (x : Element) (l : List Part) → fit_of d k (table.perhaps x ∷ l) ≡ true → none (rule_of x).word (firsts l)
      ≡ true
  unfolding fit_of
  apart_perhaps k x l e =
      let b = none (rule_of x).word (firsts l) in
      and_left b (fit_of d k l) (and_right (leb (height x) k) (b && fit_of d k l) e)

  pub apart_newly : (k : ℕ) (x : Element) (l : List Part) → fit_of d k (table.newly x ∷ l) ≡ true → none (rule_of x).word (firsts l) ≡ true
  unfolding fit_of
  apart_newly k x l e =
      let b = none (rule_of x).word (firsts l) in
      and_left b (fit_of d k l) (and_right (leb (height x) k) (b && fit_of d k l) e)

  pub apart_any : (k : ℕ) (x : Element) (l : List Part) → fit_of d k (table.any x ∷ l) ≡ true → none (rule_of x).word (firsts l) ≡ true
  unfolding fit_of
  apart_any k x l e =
      let b = none (rule_of x).word (firsts l) in
      let c = ltb 0 (turns_of d x) in
      and_left b (c && fit_of d k l) (and_right (leb (height x) k) (b && (c && fit_of d k l)) e)

  module _ {w : List ℕ} (x : Element) (l : List Part) {s t : State} {n m : ℕ} (f k : ℕ) (y : PartsRead f w l s n t m) where
    abbrev other_name : Type 0
    other_name = none (rule_of x).word (firsts l) ≡ true

    abbrev child : Element → State → ℕ → Reader State
    child = element bad d (meanings d) f

    -- x is not taken
    not_taken : {A : Type 0} (K : ℕ → Reader A) (Q : Reader A) → other_name
        → stands.either_element bad d (rule_of x).word y.found K Q y.behind ≡ Q y.behind
    not_taken K Q e = either_other (rule_of x).word y.found y.behind K Q (y.other (rule_of x).word e)

    pass_loop : other_name → (g : ℕ) → left (rule_of x).holds s < g → loop f w x l g s n ≡ Is t m
    pass_loop e zero h = absurd (omega arith)
    pass_loop e (suc g) h =
        repeat_by g (round bad d (meanings d) child w x) s n (λ y. (steps_of f w l).at y.0 y.1)
        ∙ rw y.there
        (ap (λ (r : Result (Next State (State × Open))). bind r (onward (loop f w x l g) λ y. (steps_of f w l).at y.0 y.1))
        (not_taken (λ p n. bind (child x s p n) λ s. give (Again s)) (give (Done (s, y.found))) e)
        ∙ y.at)

    perhaps_left : other_name → PartsRead f w (table.perhaps x ∷ l) s n t m
    unfolding steps
    perhaps_left e = record {
      found = y.found;
      behind = y.behind;
      there = y.there;
      at = not_taken _ _ e ∙ y.at;
      other = λ v o. not_first x l v y.found y.behind y.other o;
      loops = tt;
    }

    newly_left : other_name → PartsRead f w (table.newly x ∷ l) s n t m
    unfolding steps
    newly_left e = record {
      found = y.found;
      behind = y.behind;
      there = y.there;
      at = cond_both s.manner.old _ _ y.behind y.at (not_taken _ _ e ∙ y.at);
      other = λ v o. not_first x l v y.found y.behind y.other o;
      loops = tt;
    }

    any_left : other_name → PartsRead f w (table.any x ∷ l) s n t m
    unfolding steps
    any_left e = record {
      found = y.found;
      behind = y.behind;
      there = y.there;
      at = not_taken _ _ e ∙ y.at;
      other = λ v o. not_first x l v y.found y.behind y.other o;
      loops = pass_loop e;
    }

  pass_read : {w : List ℕ} {q : Part} {l : List Part} {s t : State} {n m : ℕ} → Passes q → Read (inside w l) s n t m
      → Read (inside w (q ∷ l)) s n t m
  pass_read {l = l} (derivation.Passes.perhaps {x}) y = λ a f k e h.
      perhaps_left x l f k (y a f k (passes_fits d k l (derivation.Passes.perhaps {x = x}) e) h) (apart_perhaps k x l e)
  pass_read {l = l} (derivation.Passes.newly {x}) y = λ a f k e h.
      newly_left x l f k (y a f k (passes_fits d k l (derivation.Passes.newly {x = x}) e) h) (apart_newly k x l e)
  pass_read {l = l} (derivation.Passes.any {x}) y = λ a f k e h.
      any_left x l f k (y a f k (passes_fits d k l (derivation.Passes.any {x = x}) e) h) (apart_any k x l e)

  -- ---- an element that comes next
  module _ (w : List ℕ) (x : Element) {s t : State} {n p j : ℕ} (g : Gapped d n p) (y : ElementRead x s p t j) where
    taken : within_element bad d w n ≡ Is (start p) y.behind_name
    taken = finds_start bad d w g (word_name x) y.name y.edge

    named_so : is_named d (p + 1) y.behind_name (rule_of x).word ≡ true
    named_so = lies_named (lies_first y.name).rest

    another : (v : List ℕ) (l : List Element) → none v (x ∷ l) ≡ true → is_named d (p + 1) y.behind_name v ≡ false
    unfolding none
    another v l e = not_named d v (rule_of x).word y.name (and_left (not (same_of v (rule_of x).word)) (none v l) e)

    module _ (f : ℕ) (h : height x ≤ f) where
      once_next : (l : List Part) {u : State} {m : ℕ} → (steps_of f w l).go t j ≡ Is u m → PartsRead f w (table.once x ∷ l) s n u m
      unfolding steps
      once_next l r = record {
        found = start p;
        behind = y.behind_name;
        there = taken;
        at = rw (named_so, y.reads f h) r;
        other = λ v o. another v [] o;
        loops = tt;
      }

      perhaps_next : (l : List Part) {u : State} {m : ℕ} → (steps_of f w l).go t j ≡ Is u m → PartsRead f w (table.perhaps x ∷ l) s n u m
      unfolding steps
      perhaps_next l r = record {
        found = start p;
        behind = y.behind_name;
        there = taken;
        at = rw (named_so, y.reads f h) r;
        other = λ v o. another v (firsts l) o;
        loops = tt;
      }

      newly_next : (l : List Part) {u : State} {m : ℕ} → s.manner.old ≡ false → (steps_of f w l).go t j ≡ Is u m
          → PartsRead f w (table.newly x ∷ l) s n u m
      unfolding steps
      newly_next l i r = record {
        found = start p;
        behind = y.behind_name;
        there = taken;
        at = cond_no s.manner.old _ _ y.behind_name i (rw (named_so, y.reads f h) r);
        other = λ v o. another v (firsts l) o;
        loops = tt;
      }

      left_next : (z : Element) (l : List Part) {u : State} {m : ℕ} → (steps_of f w l).go t j ≡ Is u m
          → PartsRead f w (table.either x z ∷ l) s n u m
      unfolding steps
      left_next z l r = record {
        found = start p;
        behind = y.behind_name;
        there = taken;
        at = rw (named_so, y.reads f h) r;
        other = λ v o. another v (z ∷ []) o;
        loops = tt;
      }

      right_next : (z : Element) (l : List Part) {u : State} {m : ℕ} → none (rule_of z).word (x ∷ []) ≡ true
          → (steps_of f w l).go t j ≡ Is u m → PartsRead f w (table.either z x ∷ l) s n u m
      unfolding steps none
      right_next z l i r = record {
        found = start p;
        behind = y.behind_name;
        there = taken;
        at = rw (another (rule_of z).word [] i, named_so, y.reads f h) r;
        other = λ v o. another v [] (and_right (not (same_of v (rule_of z).word)) (none v (x ∷ [])) o);
        loops = tt;
      }

      any_loop : (l : List Part) {u : State} {m : ℕ} → left (rule_of x).holds t < left (rule_of x).holds s
          → ((g : ℕ) → left (rule_of x).holds t < g → loop f w x l g t j ≡ Is u m) → (g : ℕ) → left (rule_of x).holds s < g
          → loop f w x l g s n ≡ Is u m
      any_loop l o r zero e = absurd (omega arith)
      any_loop l o r (suc g) e =
          repeat_by g (round bad d (meanings d) (element bad d (meanings d) f) w x) s n (λ y. (steps_of f w l).at y.0 y.1)
          ∙ rw (taken, named_so, y.reads f h) (r g (omega arith))

      any_next : (l : List Part) {u : State} {m : ℕ} → left (rule_of x).holds t < left (rule_of x).holds s
          → ((g : ℕ) → left (rule_of x).holds t < g → loop f w x l g t j ≡ Is u m) → (steps_of f w (table.any x ∷ l)).go t j ≡ Is u m
          → PartsRead f w (table.any x ∷ l) s n u m
      unfolding steps
      any_next l o r i = record {
        found = start p;
        behind = y.behind_name;
        there = taken;
        at = rw (named_so, y.reads f h) i;
        other = λ v o. another v (firsts l) o;
        loops = any_loop l o r;
      }

  pub either_apart : (k : ℕ) (x z : Element) (l : List Part) → fit_of d k (table.either x z ∷ l) ≡ true → none (rule_of x).word (z ∷ [])
      ≡ true
  unfolding fit_of
  either_apart k x z l e =
      let a = leb (height x) k in
      let b = leb (height z) k in
      let c = none (rule_of x).word (z ∷ []) in
      and_left c (fit_of d k l) (and_right b (c && fit_of d k l) (and_right a (b && (c && fit_of d k l)) e))

  pub any_turns : (k : ℕ) (x : Element) (l : List Part) → fit_of d k (table.any x ∷ l) ≡ true → ltb 0 (turns_of d x) ≡ true
  unfolding fit_of
  any_turns k x l e =
      let b = none (rule_of x).word (firsts l) in
      let c = ltb 0 (turns_of d x) in
      and_left c (fit_of d k l) (and_right b (c && fit_of d k l) (and_right (leb (height x) k) (b && (c && fit_of d k l)) e))

  next_read : {w : List ℕ} {q : Part} {b : List Part} (l : List Part) {x : Element} {s t u : State} {n p j m : ℕ}
      → Comes s.manner.old q x b
      → Gapped d n p → ElementRead x s p t j
      → (ltb 0 (turns_of d x) ≡ true → left (rule_of x).holds t < left (rule_of x).holds s) → Read (inside w (b ++ l)) t j u m
      → Read (inside w (q ∷ l)) s n u m
  next_read {w} {q} {b} l {x} {s} {t} {u} {n} {p} {j} {m} o g y i z = λ a f k e h.
      let c = comes_fits d k l o e in
      let lo = c.low in
      let r = z a f k c.rest h in
      by o f k e (omega arith) r (go_on f k w (b ++ l) c.rest r) where
        by : {q : Part} {b : List Part} → Comes s.manner.old q x b → (f k : ℕ) → fit_of d k (q ∷ l) ≡ true → height x ≤ f
            → PartsRead f w (b ++ l) t j u m → (steps_of f w (b ++ l)).go t j ≡ Is u m → PartsRead f w (q ∷ l) s n u m
        by derivation.Comes.once f k e h r v = once_next w x g y f h l v
        by derivation.Comes.perhaps f k e h r v = perhaps_next w x g y f h l v
        by (derivation.Comes.newly o) f k e h r v = newly_next w x g y f h l o v
        by (derivation.Comes.left {y = z}) f k e h r v = left_next w x g y f h z l v
        by (derivation.Comes.right {x = z}) f k e h r v = right_next w x g y f h z l (either_apart k z x l e) v
        by derivation.Comes.any f k e h r v = any_next w x g y f h l (i (any_turns k x l e)) r.loops v

  -- ---- an element, behind its start tag
  module _ (x : Element) (s : State) (h : Held) where
    unknown_clean : (k : List Charge) → h.unknown ≡ 0 → Clean k → Clean (unknown_at h.unknown ∷ k)
    unknown_clean k u c = subst (λ (n : ℕ). Clean (unknown_at n ∷ k)) (sym u) (none_unknown k c)

    -- judged with nothing charged
    judging_there : (y : KeptText) (l : List Charge) (n : ℕ) → h.unknown ≡ 0 → Clean (charges_of d x s h y) → Clean l
        → judging bad d (meanings d) x s h y l n ≡ Is (says_of d x s h y) n
    judging_there y l n u c b =
        let a = (meaning_of d x).charges s h y in
        let e = (meaning_of d x).also s h y in
        let o = behind_of d x s y in
        let r = clean_right a (e ++ o) c in
        let v = unknown_clean (e ++ l) u (clean_both e l (clean_left e o r) b) in
        rw (judged_there (a ++ unknown_at h.unknown ∷ (e ++ l)) (tt {0}) n
        (clean_both a (unknown_at h.unknown ∷ (e ++ l)) (clean_left a (e ++ o) c) v))
        (said_is d x s h y n ∙ judged_there o (says_of d x s h y) n (clean_right e o r))

    noted_clean : (em : Bool) → Clean (noted bad d (rule_of x).word em)
    noted_clean true = clean_none
    noted_clean false = none_unknown [] clean_none

  module _ (x : Element) (s : State) {p n : ℕ} {h : Held} {em : Bool}
      (a : StartTag d s.manner.old (rule_of x).attributes (rule_of x).word p h em n) where
    -- so deep, and behind its start tag
    entered : (f : ℕ) → element bad d (meanings d) (suc f) x s p a.behind_name
        ≡ holding bad d (meanings d) x s h (element bad d (meanings d) f) (rule_of x).holds em a.end_mark n
    unfolding element
    entered f = rw (start_complete bad d s.manner.old x a)

    element_is : {t : State} {m : ℕ}
        → ((f : ℕ) → height x - 1 ≤ f
        → holding bad d (meanings d) x s h (element bad d (meanings d) f) (rule_of x).holds em a.end_mark n ≡ Is t m)
        → ElementRead x s p t m
    element_is {t} {m} r = record {
      behind_name = a.behind_name;
      name = a.name;
      edge = start_edge bad d s.manner.old x a;
      reads = deep;
    } where
      deep : (f : ℕ) → height x ≤ f → element bad d (meanings d) f x s p a.behind_name ≡ Is t m
      deep zero h = let z = some_height x in absurd (omega arith)
      deep (suc f) h = entered f ∙ r f (omega arith)

    unknown_none : h.unknown ≡ 0
    unknown_none = start_known bad d s.manner.old x a

    empty_read : {m : ℕ} → (rule_of x).holds ≡ nothing → NothingAt d (rule_of x).word em n m → Clean (charges_of d x s h no_text)
        → ElementRead x s p (says_of d x s h no_text) m
    empty_read {m} i b c = element_is λ f o.
        rw (i, nothing_there bad d (rule_of x).word (word_name x) b) (judging_there x s h no_text [] m unknown_none c clean_none)

    text_held : {mode m : ℕ} {y : KeptText} → TextAt s.manner.latin d mode (rule_of x).word em n y m → Clean (charges_of d x s h y)
        → bind (body bad d (rule_of x).word mode em n) (λ b. judging bad d (meanings d) x s h b.text b.charges)
        ≡ Is (says_of d x s h y) m
    text_held {mode} {m} {y} b c =
        rw (text_there bad d (rule_of x).word (word_name x) b)
        (judging_there x s h y (noted bad d (rule_of x).word em) m unknown_none c (noted_clean x s h em))

    text_read : {r : Holds} {mode m : ℕ} {y : KeptText} → (rule_of x).holds ≡ r → Texts s.manner.languages r mode
        → TextAt s.manner.latin d mode (rule_of x).word em n y m → Clean (charges_of d x s h y)
        → ElementRead x s p (says_of d x s h y) m
    text_read i derivation.Texts.characters b c = element_is λ f o. rw i (text_held b c)
    text_read i derivation.Texts.rich b c = element_is λ f o. rw i (text_held b c)

    digits_read : {m : ℕ} {y : KeptText} → (rule_of x).holds ≡ number → TextAt s.manner.latin d 0 (rule_of x).word em n y m
        → stretch_fits 1 d y.place (y.place + y.length) ≡ true → Clean (charges_of d x s h y) → ElementRead x s p (says_of d x s h y) m
    unfolding stretch_fits
    digits_read {m} {y} i b e c = element_is λ f o.
        rw (i, text_there bad d (rule_of x).word (word_name x) b, e)
        (judging_there x s h y (noted bad d (rule_of x).word em) m unknown_none c (noted_clean x s h em))

  -- its start tag, its parts, its end tag
  module _ (x : Element) (s : State) {p n : ℕ} {h : Held}
      (a : StartTag d s.manner.old (rule_of x).attributes (rule_of x).word p h false n) {r : Holds} (i : (rule_of x).holds ≡ r)
      (u : State) {m : ℕ} (c : Clean (charges_of d x s h no_text)) (b : Clean (closing_of r u)) where
    closes : (meaning_of d x).closed u m ≡ Is (closed r u) m
    closes = closed_is d x u m ∙ rw i (judged_there (closing_of r u) (closed r u) m b)

    enters : (f : ℕ) (ps : State → List Part) → (steps_of f (rule_of x).word (ps (says_of d x s h no_text))).go (says_of d x s h no_text) n
        ≡ Is u m
        → entering bad d (meanings d) x s h (element bad d (meanings d) f) ps false a.end_mark n ≡ Is (closed r u) m
    enters f ps e =
        let k = (meaning_of d x).charges s h no_text in
        let j = (meaning_of d x).also s h no_text in
        let o = behind_of d x s no_text in
        let q = clean_right k (j ++ o) c in
        let v = unknown_clean x s h j (start_known bad d s.manner.old x a) (clean_left j o q) in
        rw (
          judged_there (k ++ unknown_at h.unknown ∷ j) (tt {0}) n (clean_both k (unknown_at h.unknown ∷ j) (clean_left k (j ++ o) c) v),
          said_is d x s h no_text n,
          judged_there o (says_of d x s h no_text) n (clean_right j o q),
          e,
        ) closes

    holding_read : {l : List Part} → Parts (says_of d x s h no_text).sort r l
        → Read (inside (rule_of x).word l) (says_of d x s h no_text) n u m
        → ElementRead x s p (closed r u) m
    holding_read {l} o y = element_is x s a λ f g. rw i (by o y f g (rule_fits d x i o)) where
      by : {r' : Holds} {l : List Part} → Parts (says_of d x s h no_text).sort r' l
          → Read (inside (rule_of x).word l) (says_of d x s h no_text) n u m → (f : ℕ) → height x - 1 ≤ f → fit_of d (height x - 1) l ≡ true
          → holding bad d (meanings d) x s h (element bad d (meanings d) f) r' false a.end_mark n ≡ Is (closed r u) m
      by (derivation.Parts.parts {l}) y f g e =
          enters f (λ s. l) (go_on f (height x - 1) (rule_of x).word l e (y (word_name x) f (height x - 1) e g))
      by (derivation.Parts.typed {l}) y f g e =
          enters f (λ s. l ++ typed_of s.sort)
          (go_on f (height x - 1) (rule_of x).word (l ++ typed_of (says_of d x s h no_text).sort) e
          (y (word_name x) f (height x - 1) e g))

  -- ---- the whole derivation
  pub derived_read : {x : Thing} {s t : State} {n m : ℕ} {c : List Charge} → Says d x s n c t m → Clean c → Read x s n t m
  derived_read {s = s} (derivation.empty {x = x} i a b) c = empty_read x s a i b c
  derived_read {s = s} (derivation.text {x = x} i o a b) c = text_read x s a i o b c
  derived_read {s = s} (derivation.digits {x = x} i a b e) c = digits_read x s a i b e c
  derived_read {s = s} (derivation.holding {x = x} {t = u} {h = h} {c = b} {r = r} i o a y) c =
      let k = charges_of d x s h no_text in
      let e = clean_right k (b ++ closing_of r u) c in
      holding_read x s a i u (clean_left k (b ++ closing_of r u) c) (clean_right b (closing_of r u) e) o
      (derived_read y (clean_left b (closing_of r u) e))
  derived_read (derivation.end g e) c = end_read g e
  derived_read (derivation.next {l = l} {x = x} {c = b} {b = e} o g y z) c =
      let k = clean_left b e c in
      next_read l o g (derived_read y k) (λ h. fewer d x h y k) (derived_read z (clean_right b e c))
  derived_read (derivation.pass o y) c = pass_read o (derived_read y c)
