-- WHAT STOPS IS REFUSED: where a derivation stops with f, the reader of the table answers f, in the turns and the depth that it has.
use Rattle.std.specs.Prelude.{◌≡◌, ℕ, zero, suc, ◌+◌, ◌-◌, ◌<◌, ◌≤◌}
use Rattle.std.proofs.Math.Path.{refl}
use Rattle.std.proofs.Common.{sym, subst, ◌∙◌, arith}
use Rattle.std.proofs.Math.Bool.{Bool, true, false, cond, not}
use mathlib.Core.List.{List, [], ◌∷◌, ◌++◌}
use Rattle.below.specs.Below.{and_left, and_right}
use Rattle.scan.specs.rule.Loop.{Next, Again, Done}
use Rattle.markup.proofs.Gaps.{Gapped}
use Rattle.attributes.proofs.Exactly.{shut_exactly}
use Rattle.tags.specs.declared.Held.{Held}
use Rattle.tags.specs.declared.Tag.TheVariants as tag
use Rattle.tags.specs.rule.Tag.{is_named, stretch_fits}
use Rattle.tags.proofs.Exactly.{tag_exactly}
use Rattle.pairs.specs.rule.Grammar.{Name}
use Rattle.pairs.proofs.Lies.{Lies, lies_named, lies_first}
use Rattle.pairs.proofs.Stands.{angle_start}
use Rattle.pairs.proofs.Ends.{start_complete}
use Rattle.spans.specs.rule.Says.{same_of}
use Rattle.tokens.specs.declared.Fault.{Fault}
use Rattle.tokens.specs.rule.Gap.{fault}
use Rattle.survey.specs.rule.Survey.{KeptText}
use Rattle.reading.specs.rule.Result.{Result, Is, Not, Reader, give, bind}
use Rattle.reading.specs.rule.Least.{Charge}
use Rattle.grammar.specs.Faults.{Clean}
use Rattle.grammar.specs.Refusal.{Lowest}
use Rattle.grammar_laws.specs.Views.{judged_there, judged_halted, clean_both, clean_left, clean_right}
use Rattle.xml_reading.specs.rule.Open.{Open, start, shut, within_element, unknown_at}
use Rattle.xml_reading.specs.rule.Open as stands
use Rattle.xml_reading.specs.rule.Element.{Body, body}
use Rattle.xml_reading.specs.rule.Block.{rich}
use Rattle.xml_grammar.specs.Grammar.{Element, Attribute, Part, Holds, rule_of, typed_of}
use Rattle.xml_grammar.specs.Grammar as table
use Rattle.xml_grammar.specs.Reader.{no_text, tag_by, round, steps, judging, entering, holding, element}
use Rattle.xml_grammar.specs.Meaning.{State, says_of, behind_of, meaning_of, meanings, turns_of}
use Rattle.xml_grammar.specs.Loops.{onward, repeat_by}
use Rattle.xml_derivations.specs.Tag.{StartTag, name_of, form_of, needed_of}
use Rattle.xml_derivations.specs.Derivation.{Parts, Thing, the, inside, closed, closing_of, charges_of}
use Rattle.xml_derivations.specs.Derivation as derivation
use Rattle.xml_derivation_laws.specs.Charges.{none_unknown, said_is, closed_is}
use Rattle.xml_derivation_laws.specs.Table.{word_name, height, some_height, firsts, none, fit_of, rule_fits}
use Rattle.xml_derivation_laws.specs.Tags.{tag_by_lem, start_known, start_edge}
use Rattle.xml_derivation_laws.specs.Tags as tags
use Rattle.xml_derivation_laws.specs.Stands.{finds_start, finds_end, not_named}
use Rattle.xml_derivation_laws.specs.Fewer.{left, Fits, comes_fits, passes_fits, fewer, turns_suffice}
use Rattle.xml_derivation_laws.specs.Read.{Told}
use Rattle.xml_derivation_laws.specs.Derived.{steps_of, loop, go_on, apart_perhaps, apart_newly, apart_any, either_apart, any_turns}
use Rattle.xml_derivation_laws.specs.Derived.{cond_both, cond_no, derived_read}
use Rattle.xml_refusals.specs.Tags.{tag_refused_exactly}
use Rattle.xml_refusals.specs.Opens.{Opens, Misplaced, opens_found, misplaced_is}
use Rattle.xml_refusals.specs.Dues.{NoTag, no_tag_exactly}
use Rattle.xml_refusals.specs.Voids.{void_exactly, void_refused_exactly}
use Rattle.xml_refusals.specs.Texts.{Texted, TextStops, texted_exactly, text_refused_exactly}
use Rattle.xml_refusals.specs.Stops.{Leads, here, Owes, AnyTag, TagStops, Inner, InnerStops, Blamed, judged_by, front_of, Stops}
use Rattle.xml_refusals.specs.Stops as stops

-- ---- what may come next has a name of its own, and is no higher than the parts it is one of
pub leads_apart : {old : Bool} {l k : List Part} {x : Element} → Leads old l x k → (v : List ℕ) → none v (firsts l) ≡ true
    → not (same_of v (rule_of x).word) ≡ true
unfolding none
leads_apart (here (derivation.Comes.once {x})) v e = and_left (not (same_of v (rule_of x).word)) (none v []) e
leads_apart (here {l = l} (derivation.Comes.perhaps {x})) v e = and_left (not (same_of v (rule_of x).word)) (none v (firsts l)) e
leads_apart (here {l = l} (derivation.Comes.newly {x} o)) v e = and_left (not (same_of v (rule_of x).word)) (none v (firsts l)) e
leads_apart (here (derivation.Comes.left {x} {y})) v e = and_left (not (same_of v (rule_of x).word)) (none v (y ∷ [])) e
leads_apart (here (derivation.Comes.right {x} {y})) v e =
    and_left (not (same_of v (rule_of y).word)) (none v []) (and_right (not (same_of v (rule_of x).word)) (none v (y ∷ [])) e)
leads_apart (here {l = l} (derivation.Comes.any {x})) v e = and_left (not (same_of v (rule_of x).word)) (none v (firsts l)) e
leads_apart (stops.Leads.later {l = l} (derivation.Passes.perhaps {x = y}) h) v e =
    leads_apart h v (and_right (not (same_of v (rule_of y).word)) (none v (firsts l)) e)
leads_apart (stops.Leads.later {l = l} (derivation.Passes.newly {x = y}) h) v e =
    leads_apart h v (and_right (not (same_of v (rule_of y).word)) (none v (firsts l)) e)
leads_apart (stops.Leads.later {l = l} (derivation.Passes.any {x = y}) h) v e =
    leads_apart h v (and_right (not (same_of v (rule_of y).word)) (none v (firsts l)) e)

pub leads_fits : (d : List ℕ) (k : ℕ) {old : Bool} {l b : List Part} {x : Element} → Leads old l x b → fit_of d k l ≡ true → Fits d k x b
leads_fits d k (here {l = l} c) e = comes_fits d k l c e
leads_fits d k (stops.Leads.later {l = l} o h) e = leads_fits d k h (passes_fits d k l o e)

module _ (bad : Bool) (d : List ℕ) where
  -- ---- tags
  pub any_complete : (old : Bool) (x : Element) {p q n : ℕ} {h : Held} {em : Bool}
      (t : AnyTag d old (rule_of x).attributes (rule_of x).word p h em q n)
      → tag_by bad d old (rule_of x).attributes p t.behind_name ≡ tag.Read h em q n
  any_complete old x {p} {q} {n} {h} {em} t =
      let a = (rule_of x).attributes in
      tag_by_lem bad d old x p t.behind_name
      ∙ (tag_exactly bad d p t.behind_name (name_of old a 0) (name_of old a 1) (name_of old a 2) (form_of old a 0) (form_of old a 1)
      (form_of old a 2) (needed_of a) h em q n).1
      (record { placed = t.placed; shut = (shut_exactly bad d p h.next).1 t.ended; whole = t.complete })

  -- the start tag that a derivation has
  start_opens : (old : Bool) (x : Element) {p n : ℕ} {h : Held} {em : Bool}
      (t : StartTag d old (rule_of x).attributes (rule_of x).word p h em n) → Opens d p t.behind_name
  start_opens old x {p} t =
      let f = lies_first t.name in
      record {
        inside = f.inside;
        less = f.byte;
        name = angle_start bad d p t.behind_name (start_complete bad d p (word_name x) t.name (start_edge bad d old x t));
      }

  named_so : {p e : ℕ} {w : List ℕ} → Lies d p e (60 ∷ w) → is_named d (p + 1) e w ≡ true
  named_so l = lies_named (lies_first l).rest

  -- ---- what is proved of an element, and of parts
  pub record ElementStops (x : Element) (s : State) (p : ℕ) (f : Fault) : Type 0 where
    pub behind_name : ℕ
    pub opens : Opens d p behind_name
    pub name : Lies d p behind_name (60 ∷ (rule_of x).word)
    pub refused : (g : ℕ) → height x ≤ g → element bad d (meanings d) g x s p behind_name ≡ Not f

  -- where x* comes first: in more turns than there may be of it
  abbrev Loops : ℕ → List ℕ → List Part → State → ℕ → Fault → Type 0
  Loops g w [] s n f = Unit {0}
  Loops g w (table.once x ∷ l) s n f = Unit {0}
  Loops g w (table.perhaps x ∷ l) s n f = Unit {0}
  Loops g w (table.newly x ∷ l) s n f = Unit {0}
  Loops g w (table.either x y ∷ l) s n f = Unit {0}
  Loops g w (table.any x ∷ l) s n f = (u : ℕ) → left (rule_of x).holds s < u → loop bad d g w x l u s n ≡ Not f

  pub record PartsStop (g : ℕ) (w : List ℕ) (l : List Part) (s : State) (n : ℕ) (f : Fault) : Type 0 where
    pub go : (steps_of bad d g w l).go s n ≡ Not f
    pub loops : Loops g w l s n f

  abbrev Refused : Thing → State → ℕ → Fault → Type 0
  Refused (the x) s p f = ElementStops x s p f
  Refused (inside w l) s n f = Name w → (g k : ℕ) → fit_of d k l ≡ true → k ≤ g → PartsStop g w l s n f

  -- ---- parts
  abbrev child : ℕ → Element → State → ℕ → Reader State
  child g = element bad d (meanings d) g

  abbrev looked : ℕ → List ℕ → List Part → State → ℕ → Result State
  looked g w l s n = bind (within_element bad d w n) ((steps_of bad d g w l).at s)

  -- a turn of x*
  pub loop_by : (g : ℕ) (w : List ℕ) (x : Element) (l : List Part) (u : ℕ) (s : State) (n : ℕ)
      → loop bad d g w x l (suc u) s n
      ≡ bind (within_element bad d w n) λ o.
      stands.either_element bad d (rule_of x).word o (λ p e. bind (child g x s p e) (loop bad d g w x l u)) ((steps_of bad d g w l).at s o)
  loop_by g w x l u s n =
      repeat_by u (round bad d (meanings d) (child g) w x) s n (λ y. (steps_of bad d g w l).at y.0 y.1)
      ∙ by (within_element bad d w n) where
        last : (State × Open) → Reader State
        last y = (steps_of bad d g w l).at y.0 y.1

        more : State → Reader (Next State (State × Open))
        more s = give (Again s)

        again : (r : Result State) → bind (bind r more) (onward (loop bad d g w x l u) last) ≡ bind r (loop bad d g w x l u)
        again (Is t j) = refl
        again (Not z) = refl

        named : (p e : ℕ) (b : Bool)
            → bind (cond b (bind (child g x s p e) more) (Is (Done (s, start p)) e)) (onward (loop bad d g w x l u) last)
            ≡ cond b (bind (child g x s p e) (loop bad d g w x l u)) ((steps_of bad d g w l).at s (start p) e)
        named p e true = again (child g x s p e)
        named p e false = refl

        by : (r : Result Open)
            → bind (bind r λ o. stands.either_element bad d (rule_of x).word o (λ p e. bind (child g x s p e) more) (give (Done (s, o))))
            (onward (loop bad d g w x l u) last)
            ≡ bind r λ o.
            stands.either_element bad d (rule_of x).word o (λ p e. bind (child g x s p e) (loop bad d g w x l u))
            ((steps_of bad d g w l).at s o)
        by (Is (start p) e) = named p e (is_named d (p + 1) e (rule_of x).word)
        by (Is (shut p) e) = refl
        by (Not z) = refl

  stop_by : (g k : ℕ) (w : List ℕ) (l : List Part) {s : State} {n : ℕ} {f : Fault} → fit_of d k l ≡ true → looked g w l s n ≡ Not f
      → Loops g w l s n f → PartsStop g w l s n f
  unfolding steps
  stop_by g k w [] e h r = record { go = h; loops = r }
  stop_by g k w (table.once x ∷ l) e h r = record { go = h; loops = r }
  stop_by g k w (table.perhaps x ∷ l) e h r = record { go = h; loops = r }
  stop_by g k w (table.newly x ∷ l) e h r = record { go = h; loops = r }
  stop_by g k w (table.either x y ∷ l) e h r = record { go = h; loops = r }
  stop_by g k w (table.any x ∷ l) {s} e h r =
      record { go = r (turns_of d x) (turns_suffice d x s (any_turns bad d k x l e)); loops = r }

  -- no tag
  no_tag_loops : (g : ℕ) (w : List ℕ) (l : List Part) (s : State) (n : ℕ) {f : Fault} → within_element bad d w n ≡ Not f → Loops g w l s n f
  no_tag_loops g w [] s n e = tt
  no_tag_loops g w (table.once x ∷ l) s n e = tt
  no_tag_loops g w (table.perhaps x ∷ l) s n e = tt
  no_tag_loops g w (table.newly x ∷ l) s n e = tt
  no_tag_loops g w (table.either x y ∷ l) s n e = tt
  no_tag_loops g w (table.any x ∷ l) s n {f} e = turns where
    turns : (u : ℕ) → left (rule_of x).holds s < u → loop bad d g w x l u s n ≡ Not f
    turns zero h = absurd (omega arith)
    turns (suc u) h = loop_by g w x l u s n ∙ rw e

  no_tag_stop : {w : List ℕ} (l : List Part) {s : State} {n : ℕ} {f : Fault} → NoTag bad d w n f → Refused (inside w l) s n f
  no_tag_stop {w} l {s} {n} {f} o = λ a g k h i.
      let e = (no_tag_exactly bad d w n f).1 o in stop_by g k w l h (rw e) (no_tag_loops g w l s n e)

  -- a start tag of another name
  module _ (g : ℕ) (w : List ℕ) (s : State) (n : ℕ) {p e : ℕ} {f : Fault} (t : within_element bad d w n ≡ Is (start p) e)
      (m : Misplaced bad d p e f) where
    abbrev NoneNamed : List Part → Type 0
    NoneNamed l = (x : Element) (k : List Part) → Leads s.manner.old l x k → is_named d (p + 1) e (rule_of x).word ≡ false

    other_at : (l : List Part) → NoneNamed l → (steps_of bad d g w l).at s (start p) e ≡ Not f
    unfolding steps
    other_at [] o = rw (misplaced_is bad d {A = Unit {0}} m)
    other_at (table.once x ∷ l) o = rw (o x l (here derivation.Comes.once), misplaced_is bad d {A = State} m)
    other_at (table.perhaps x ∷ l) o =
        rw (o x l (here derivation.Comes.perhaps)) (other_at l (λ y k h. o y k (stops.Leads.later derivation.Passes.perhaps h)))
    other_at (table.newly x ∷ l) o =
        by (other_at l (λ y k h. o y k (stops.Leads.later derivation.Passes.newly h))) s.manner.old refl where
          by : (steps_of bad d g w l).at s (start p) e ≡ Not f → (b : Bool) → s.manner.old ≡ b
              → cond b ((steps_of bad d g w l).at s (start p))
              (stands.either_element bad d (rule_of x).word (start p) (λ p n. bind (child g x s p n) (steps_of bad d g w l).go)
              ((steps_of bad d g w l).at s (start p))) e ≡ Not f
          by rest true i = rest
          by rest false i = rw (o x l (here (derivation.Comes.newly i))) rest
    other_at (table.either x y ∷ l) o =
        rw (o x l (here derivation.Comes.left), o y l (here derivation.Comes.right), misplaced_is bad d {A = State} m)
    other_at (table.any x ∷ l) o =
        rw (o x (table.any x ∷ l) (here derivation.Comes.any)) (other_at l (λ y k h. o y k (stops.Leads.later derivation.Passes.any h)))

    other_loops : (l : List Part) → NoneNamed l → Loops g w l s n f
    other_loops [] o = tt
    other_loops (table.once x ∷ l) o = tt
    other_loops (table.perhaps x ∷ l) o = tt
    other_loops (table.newly x ∷ l) o = tt
    other_loops (table.either x y ∷ l) o = tt
    other_loops (table.any x ∷ l) o = turns where
      turns : (u : ℕ) → left (rule_of x).holds s < u → loop bad d g w x l u s n ≡ Not f
      turns zero h = absurd (omega arith)
      turns (suc u) h =
          loop_by g w x l u s n
          ∙ rw (t, o x (table.any x ∷ l) (here derivation.Comes.any))
          (other_at l (λ y k h. o y k (stops.Leads.later derivation.Passes.any h)))

  -- the end tag, too early
  module _ (g : ℕ) (w : List ℕ) (s : State) (n : ℕ) {p m : ℕ} (t : within_element bad d w n ≡ Is (shut p) m) where
    early_at : {l : List Part} → Owes l → (steps_of bad d g w l).at s (shut p) m ≡ Not (fault 2 p)
    unfolding steps
    early_at stops.Owes.once = refl
    early_at stops.Owes.either = refl
    early_at (stops.Owes.later derivation.Passes.perhaps o) = early_at o
    early_at (stops.Owes.later {l = l} (derivation.Passes.newly {x}) o) =
        cond_both bad d s.manner.old ((steps_of bad d g w l).at s (shut p)) ((steps_of bad d g w l).at s (shut p)) m (early_at o)
        (early_at o)
    early_at (stops.Owes.later derivation.Passes.any o) = early_at o

    early_loops : {l : List Part} → Owes l → Loops g w l s n (fault 2 p)
    early_loops stops.Owes.once = tt
    early_loops stops.Owes.either = tt
    early_loops (stops.Owes.later derivation.Passes.perhaps o) = tt
    early_loops (stops.Owes.later derivation.Passes.newly o) = tt
    early_loops (stops.Owes.later {l = l} (derivation.Passes.any {x}) o) = turns where
      turns : (u : ℕ) → left (rule_of x).holds s < u → loop bad d g w x l u s n ≡ Not (fault 2 p)
      turns zero h = absurd (omega arith)
      turns (suc u) h = loop_by g w x l u s n ∙ rw t (early_at o)

  -- an element that comes next
  module _ (g k : ℕ) (w : List ℕ) (x : Element) (s : State) (n : ℕ) {p e : ℕ} (t : within_element bad d w n ≡ Is (start p) e)
      (a : Lies d p e (60 ∷ (rule_of x).word)) where
    not_so : (y : Element) {l b : List Part} → none (rule_of y).word (firsts l) ≡ true → Leads s.manner.old l x b
        → is_named d (p + 1) e (rule_of y).word ≡ false
    not_so y i h = not_named d (rule_of y).word (rule_of x).word a (leads_apart h (rule_of y).word i)

    leads_at : {l b : List Part} → Leads s.manner.old l x b → fit_of d k l ≡ true
        → (steps_of bad d g w l).at s (start p) e ≡ bind (child g x s p e) (steps_of bad d g w b).go
    unfolding steps none
    leads_at (here derivation.Comes.once) i = rw (named_so a)
    leads_at (here derivation.Comes.perhaps) i = rw (named_so a)
    leads_at (here {l = l} (derivation.Comes.newly o)) i = cond_no bad d s.manner.old _ _ e o (rw (named_so a))
    leads_at (here derivation.Comes.left) i = rw (named_so a)
    leads_at (here {l = l} (derivation.Comes.right {x = z})) i =
        rw (not_named d (rule_of z).word (rule_of x).word a (by (either_apart bad d k z x l i)), named_so a) where
          by : none (rule_of z).word (x ∷ []) ≡ true → not (same_of (rule_of z).word (rule_of x).word) ≡ true
          by i = and_left (not (same_of (rule_of z).word (rule_of x).word)) (none (rule_of z).word []) i
    leads_at (here derivation.Comes.any) i = rw (named_so a)
    leads_at (stops.Leads.later {l = l} (derivation.Passes.perhaps {x = y}) h) i =
        rw (not_so y (apart_perhaps bad d k y l i) h) (leads_at h (passes_fits d k l (derivation.Passes.perhaps {x = y}) i))
    leads_at (stops.Leads.later {l = l} (derivation.Passes.newly {x = y}) h) i =
        let r = leads_at h (passes_fits d k l (derivation.Passes.newly {x = y}) i) in
        cond_both bad d s.manner.old _ _ e r (rw (not_so y (apart_newly bad d k y l i) h) r)
    leads_at (stops.Leads.later {l = l} (derivation.Passes.any {x = y}) h) i =
        rw (not_so y (apart_any bad d k y l i) h) (leads_at h (passes_fits d k l (derivation.Passes.any {x = y}) i))

    -- it is refused
    next_loops : {l b : List Part} {f : Fault} → Leads s.manner.old l x b → fit_of d k l ≡ true → child g x s p e ≡ Not f
        → Loops g w l s n f
    next_loops (here derivation.Comes.once) i z = tt
    next_loops (here derivation.Comes.perhaps) i z = tt
    next_loops (here (derivation.Comes.newly o)) i z = tt
    next_loops (here derivation.Comes.left) i z = tt
    next_loops (here derivation.Comes.right) i z = tt
    next_loops {f = f} (here {l = l} derivation.Comes.any) i z = turns where
      turns : (u : ℕ) → left (rule_of x).holds s < u → loop bad d g w x l u s n ≡ Not f
      turns zero h = absurd (omega arith)
      turns (suc u) h = loop_by g w x l u s n ∙ rw (t, named_so a, z)
    next_loops (stops.Leads.later derivation.Passes.perhaps h) i z = tt
    next_loops (stops.Leads.later derivation.Passes.newly h) i z = tt
    next_loops {f = f} (stops.Leads.later {l = l} (derivation.Passes.any {x = y}) h) i z = turns where
      turns : (u : ℕ) → left (rule_of y).holds s < u → loop bad d g w y l u s n ≡ Not f
      turns zero o = absurd (omega arith)
      turns (suc u) o =
          loop_by g w y l u s n
          ∙ rw (t, not_so y (apart_any bad d k y l i) h)
          (leads_at h (passes_fits d k l (derivation.Passes.any {x = y}) i) ∙ rw z)

    -- it is read, and behind it is refused
    behind_loops : {l b : List Part} {v : State} {j : ℕ} {f : Fault} → Leads s.manner.old l x b → fit_of d k l ≡ true
        → child g x s p e ≡ Is v j
        → (lib.Dec.ltb 0 (turns_of d x) ≡ true → left (rule_of x).holds v < left (rule_of x).holds s) → PartsStop g w b v j f
        → Loops g w l s n f
    behind_loops (here derivation.Comes.once) i z o r = tt
    behind_loops (here derivation.Comes.perhaps) i z o r = tt
    behind_loops (here (derivation.Comes.newly y)) i z o r = tt
    behind_loops (here derivation.Comes.left) i z o r = tt
    behind_loops (here derivation.Comes.right) i z o r = tt
    behind_loops {f = f} (here {l = l} derivation.Comes.any) i z o r = turns where
      turns : (u : ℕ) → left (rule_of x).holds s < u → loop bad d g w x l u s n ≡ Not f
      turns zero h = absurd (omega arith)
      turns (suc u) h =
          loop_by g w x l u s n ∙ rw (t, named_so a, z) (r.loops u (omega (arith, o (any_turns bad d k x l i))))
    behind_loops (stops.Leads.later derivation.Passes.perhaps h) i z o r = tt
    behind_loops (stops.Leads.later derivation.Passes.newly h) i z o r = tt
    behind_loops {f = f} (stops.Leads.later {l = l} (derivation.Passes.any {x = y}) h) i z o r = turns where
      turns : (u : ℕ) → left (rule_of y).holds s < u → loop bad d g w y l u s n ≡ Not f
      turns zero b = absurd (omega arith)
      turns (suc u) b =
          loop_by g w y l u s n
          ∙ rw (t, not_so y (apart_any bad d k y l i) h)
          (leads_at h (passes_fits d k l (derivation.Passes.any {x = y}) i) ∙ rw z r.go)

  in_next_stop : {w : List ℕ} {l b : List Part} {x : Element} {s : State} {n p : ℕ} {f : Fault} → Leads s.manner.old l x b
      → Gapped d n p → ElementStops x s p f → Refused (inside w l) s n f
  in_next_stop {w} {l} {x = x} {s = s} {n = n} h o y = λ a g k i j.
      let t = opens_found bad d w o y.opens in
      let c = (leads_fits d k h i).low in
      let z = y.refused g (omega arith) in
      stop_by g k w l i (rw t (leads_at g k w x s n t y.name h i ∙ rw z)) (next_loops g k w x s n t y.name h i z)

  behind_stop : {w : List ℕ} {l b : List Part} {x : Element} {s v : State} {n p j : ℕ} {f : Fault} → Leads s.manner.old l x b
      → Gapped d n p → Told d (the x) s p v j → Refused (inside w b) v j f → Refused (inside w l) s n f
  behind_stop {w} {l} {x = x} {s = s} {n = n} h o y r = λ a g k i j.
      let e = derived_read bad d y.says y.clean in
      let t = finds_start bad d w o (word_name x) e.name e.edge in
      let c = leads_fits d k h i in
      let q = c.low in
      let z = e.reads g (omega arith) in
      let v = r a g k c.rest j in
      stop_by g k w l i (rw t (leads_at g k w x s n t e.name h i ∙ rw z v.go))
      (behind_loops g k w x s n t e.name h i z (λ u. fewer d x u y.says y.clean) v)

  -- ---- an element, behind its start tag
  module _ (x : Element) (s : State) {p q n : ℕ} {h : Held} {em : Bool}
      (a : AnyTag d s.manner.old (rule_of x).attributes (rule_of x).word p h em q n) where
    entered : (g : ℕ) → element bad d (meanings d) (suc g) x s p a.behind_name
        ≡ holding bad d (meanings d) x s h (child g) (rule_of x).holds em q n
    unfolding element
    entered g = rw (any_complete s.manner.old x a)

    element_stops : {f : Fault} → ((g : ℕ) → height x - 1 ≤ g → holding bad d (meanings d) x s h (child g) (rule_of x).holds em q n ≡ Not f)
        → ElementStops x s p f
    element_stops {f} r = record { behind_name = a.behind_name; opens = a.opens; name = a.name; refused = deep } where
      deep : (g : ℕ) → height x ≤ g → element bad d (meanings d) g x s p a.behind_name ≡ Not f
      deep zero i = let z = some_height x in absurd (omega arith)
      deep (suc g) i = entered g ∙ r g (omega arith)

    judging_stops : {f : Fault} (t : KeptText) (l : List Charge) (m : ℕ) → Blamed (judged_by d x s h t l) (behind_of d x s t) f
        → judging bad d (meanings d) x s h t l m ≡ Not f
    judging_stops t l m (stops.at_first z) = rw (judged_halted (judged_by d x s h t l) (tt {0}) m z)
    judging_stops t l m (stops.at_last c z) =
        rw (judged_there (judged_by d x s h t l) (tt {0}) m c)
        (said_is d x s h t m ∙ judged_halted (behind_of d x s t) (says_of d x s h t) m z)

    read_text : (mode : ℕ) {b : Body} {m : ℕ} → Texted bad d mode (rule_of x).word em n b m → body bad d (rule_of x).word mode em n ≡ Is b m
    read_text mode {b} {m} e = (texted_exactly bad d mode (rule_of x).word em n b m (word_name x)).1 e

    refused_text : (mode : ℕ) {f : Fault} → TextStops bad d mode (rule_of x).word em n f → body bad d (rule_of x).word mode em n ≡ Not f
    refused_text mode {f} e = (text_refused_exactly bad d mode (rule_of x).word em n f).1 e

    inner_stops : {f : Fault} → InnerStops bad d x s h em n f → ElementStops x s p f
    unfolding stretch_fits
    inner_stops {f} (stops.InnerStops.empty i e) =
        element_stops λ g o. rw (i, (void_refused_exactly bad d (rule_of x).word em n f).1 e)
    inner_stops {f} (stops.InnerStops.text i derivation.Texts.characters e) = element_stops λ g o. rw (i, refused_text 0 e)
    inner_stops {f} (stops.InnerStops.text i derivation.Texts.rich e) =
        element_stops λ g o. rw (i, refused_text (rich s.manner.languages) e)
    inner_stops {f} (stops.InnerStops.digits i e) = element_stops λ g o. rw (i, refused_text 0 e)
    inner_stops (stops.no_digits i e w z) = element_stops λ g o. rw (i, read_text 0 e, w, z)
    inner_stops (stops.cut {m = m} {b = b} i e w z) =
        element_stops λ g o. rw (i, read_text 0 e, w, judged_halted (unknown_at h.unknown ∷ b.charges) (tt {0}) m z)

    charged_stops : {f : Fault} {t : KeptText} {l : List Charge} {m : ℕ} → Inner bad d x s em n t l m
        → Blamed (judged_by d x s h t l) (behind_of d x s t) f
        → ElementStops x s p f
    unfolding stretch_fits
    charged_stops (stops.Inner.empty {l} {m} i e) z =
        element_stops λ g o. rw (i, (void_exactly bad d (rule_of x).word em n l m (word_name x)).1 e) (judging_stops no_text l m z)
    charged_stops (stops.Inner.text {m = m} {b = b} i derivation.Texts.characters e) z =
        element_stops λ g o. rw (i, read_text 0 e) (judging_stops b.text b.charges m z)
    charged_stops (stops.Inner.text {m = m} {b = b} i derivation.Texts.rich e) z =
        element_stops λ g o. rw (i, read_text (rich s.manner.languages) e) (judging_stops b.text b.charges m z)
    charged_stops (stops.Inner.digits {m = m} {b = b} i e w v) z =
        element_stops λ g o. rw (i, read_text 0 e, w, v) (judging_stops b.text b.charges m z)

    -- its start tag is charged
    front_stops : {f : Fault} {r : Holds} {l : List Part} → (rule_of x).holds ≡ r → Parts (says_of d x s h no_text).sort r l
        → Lowest (front_of d x s h) f
        → ElementStops x s p f
    front_stops i derivation.Parts.parts z = element_stops λ g o. rw (i, judged_halted (front_of d x s h) (tt {0}) n z)
    front_stops i derivation.Parts.typed z = element_stops λ g o. rw (i, judged_halted (front_of d x s h) (tt {0}) n z)

  -- it ends with its start tag
  alone_stops : (x : Element) (s : State) {p q n : ℕ} {h : Held} {r : Holds} {l : List Part} → (rule_of x).holds ≡ r
      → Parts (says_of d x s h no_text).sort r l → AnyTag d s.manner.old (rule_of x).attributes (rule_of x).word p h true q n
      → Clean (front_of d x s h) → ElementStops x s p (fault 2 q)
  alone_stops x s {n = n} {h = h} i derivation.Parts.parts a c =
      element_stops x s a λ g o. rw (i, judged_there (front_of d x s h) (tt {0}) n c)
  alone_stops x s {n = n} {h = h} i derivation.Parts.typed a c =
      element_stops x s a λ g o. rw (i, judged_there (front_of d x s h) (tt {0}) n c)

  -- ---- its start tag, its parts, its end tag
  module _ (x : Element) (s : State) {p n : ℕ} {h : Held}
      (a : StartTag d s.manner.old (rule_of x).attributes (rule_of x).word p h false n) {r : Holds} (i : (rule_of x).holds ≡ r)
      (c : Clean (charges_of d x s h no_text)) where
    abbrev begun : State
    begun = says_of d x s h no_text

    front_clean : Clean (front_of d x s h)
    front_clean =
        let k = (meaning_of d x).charges s h no_text in
        let j = (meaning_of d x).also s h no_text in
        let o = behind_of d x s no_text in
        let q = clean_right k (j ++ o) c in
        let u = start_known bad d s.manner.old x a in
        clean_both k (unknown_at h.unknown ∷ j) (clean_left k (j ++ o) c)
        (subst (λ (n : ℕ). Clean (unknown_at n ∷ j)) (sym u) (none_unknown j (clean_left j o q)))

    behind_clean : Clean (behind_of d x s no_text)
    behind_clean =
        let k = (meaning_of d x).charges s h no_text in
        let j = (meaning_of d x).also s h no_text in
        let o = behind_of d x s no_text in
        clean_right j o (clean_right k (j ++ o) c)

    -- what is answered behind its start tag
    enters : (g : ℕ) (ps : State → List Part) {z : Result State}
        → bind ((steps_of bad d g (rule_of x).word (ps begun)).go begun n) (meaning_of d x).closed ≡ z
        → entering bad d (meanings d) x s h (child g) ps false a.end_mark n ≡ z
    enters g ps e =
        rw (
          judged_there (front_of d x s h) (tt {0}) n front_clean,
          said_is d x s h no_text n,
          judged_there (behind_of d x s no_text) begun n behind_clean,
        ) e

    holds_stops : {f : Fault} {l : List Part} → Parts begun.sort r l
        → ((g : ℕ) → height x - 1 ≤ g → bind ((steps_of bad d g (rule_of x).word l).go begun n) (meaning_of d x).closed ≡ Not f)
        → ElementStops x s p f
    unfolding element
    holds_stops {f} {l} o y = record {
      behind_name = a.behind_name;
      opens = start_opens s.manner.old x a;
      name = a.name;
      refused = deep;
    } where
      by : {r' : Holds} {l : List Part} → Parts begun.sort r' l → (g : ℕ)
          → bind ((steps_of bad d g (rule_of x).word l).go begun n) (meaning_of d x).closed ≡ Not f
          → holding bad d (meanings d) x s h (child g) r' false a.end_mark n ≡ Not f
      by (derivation.Parts.parts {l}) g e = enters g (λ s. l) e
      by (derivation.Parts.typed {l}) g e = enters g (λ s. l ++ typed_of s.sort) e

      deep : (g : ℕ) → height x ≤ g → element bad d (meanings d) g x s p a.behind_name ≡ Not f
      deep zero j = let z = some_height x in absurd (omega arith)
      deep (suc g) j = rw (tags.start_complete bad d s.manner.old x a, i) (by o g (y g (omega arith)))

    parts_stops : {f : Fault} {l : List Part} → Parts begun.sort r l → Refused (inside (rule_of x).word l) begun n f
        → ElementStops x s p f
    parts_stops o y = holds_stops o λ g j. rw (y (word_name x) g (height x - 1) (rule_fits d x i o) j).go

    end_stops : {f : Fault} {l : List Part} {t : State} {m : ℕ} → Parts begun.sort r l → Told d (inside (rule_of x).word l) begun n t m
        → Lowest (closing_of r t) f → ElementStops x s p f
    end_stops {l = l} {t = t} {m = m} o y z = holds_stops o λ g j.
        let e = rule_fits d x i o in
        rw (go_on bad d g (height x - 1) (rule_of x).word l e (derived_read bad d y.says y.clean (word_name x) g (height x - 1) e j))
        (closed_is d x t m ∙ rw i (judged_halted (closing_of r t) (closed r t) m z))

  tag_stops : (x : Element) (s : State) {p : ℕ} {f : Fault}
      → TagStops bad d s.manner.old (rule_of x).attributes (rule_of x).word p f → ElementStops x s p f
  unfolding element
  tag_stops x s {p} {f} t = record { behind_name = t.behind_name; opens = t.opens; name = t.name; refused = deep } where
    old : Bool
    old = s.manner.old

    l : List Attribute
    l = (rule_of x).attributes

    faulted : tag_by bad d old l p t.behind_name ≡ tag.Fault f.number f.place
    faulted =
        tag_by_lem bad d old x p t.behind_name
        ∙ (tag_refused_exactly bad d p t.behind_name (name_of old l 0) (name_of old l 1) (name_of old l 2) (form_of old l 0)
        (form_of old l 1)
        (form_of old l 2) (needed_of l) f).1 t.faults

    deep : (g : ℕ) → height x ≤ g → element bad d (meanings d) g x s p t.behind_name ≡ Not f
    deep zero j = let z = some_height x in absurd (omega arith)
    deep (suc g) j = rw faulted

  -- ---- the whole
  pub stops_refused : {x : Thing} {s : State} {n : ℕ} {f : Fault} → Stops bad d x s n f → Refused x s n f
  stops_refused {s = s} (stops.in_tag {x = x} t) = tag_stops x s t
  stops_refused {s = s} (stops.in_content {x = x} a i) = inner_stops x s a i
  stops_refused {s = s} (stops.charged {x = x} a i z) = charged_stops x s a i z
  stops_refused {s = s} (stops.at_start {x = x} i o a z) = front_stops x s a i o z
  stops_refused {s = s} (stops.ended {x = x} i o a c) = alone_stops x s i o a c
  stops_refused {s = s} (stops.in_parts_lem {x = x} i o a c y) = parts_stops x s a i c o (stops_refused y)
  stops_refused {s = s} (stops.at_end_lem {x = x} i o a c y z) = end_stops x s a i c o y z
  stops_refused (stops.no_tag {l = l} e) = no_tag_stop l e
  stops_refused {s = s} {n = n} (stops.other {w = w} {l = l} g o u m) = λ a b k i j.
      let t = opens_found bad d w g o in stop_by b k w l i (rw t (other_at b w s n t m l u)) (other_loops b w s n t m l u)
  stops_refused {s = s} {n = n} (stops.too_early {w = w} {l = l} g e o) = λ a b k i j.
      let t = finds_end bad d w g a e in stop_by b k w l i (rw t (early_at b w s n t o)) (early_loops b w s n t o)
  stops_refused (stops.in_next h o y) = in_next_stop h o (stops_refused y)
  stops_refused (stops.behind h o y r) = behind_stop h o y (stops_refused r)
