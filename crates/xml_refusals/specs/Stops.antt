-- WHERE A DERIVATION STOPS, over the table of document 000's elements (xml_grammar/specs/Grammar): what stands before is derived with
-- nothing charged (`Told`), and then a start tag is broken or lacks what it must have, nothing that may come next stands there, what an
-- element holds is refused, or an element that was read whole is charged. "The first 2 or 50 met, then 4, 5, 6, 7, 8, 51, 52 by lowest
-- number, equal numbers by place." `bad` says that behind d a character stands that is not legal.
use Rattle.std.specs.Prelude.{◌≡◌, Bool, true, false, List, ◌∷◌, ◌++◌, ℕ, ◌+◌}
use Rattle.markup.proofs.Gaps.{Gapped}
use Rattle.attributes.proofs.Exactly.{Ended}
use Rattle.tags.specs.declared.Held.{Held}
use Rattle.tags.specs.rule.Tag.{is_named, stretch_fits, misses_of}
use Rattle.tags.specs.rule.Tag as tags
use Rattle.tags.proofs.Exactly.{Placed}
use Rattle.pairs.proofs.Lies.{Lies}
use Rattle.pairs.proofs.Ends.{EndAt}
use Rattle.tokens.specs.declared.Fault.{Fault}
use Rattle.tokens.specs.rule.Gap.{fault}
use Rattle.survey.specs.rule.Survey.{KeptText}
use Rattle.reading.specs.rule.Least.{Charge}
use Rattle.grammar.specs.Faults.{Clean}
use Rattle.grammar.specs.Refusal.{Lowest}
use Rattle.xml_reading.specs.rule.Open.{unknown_at}
use Rattle.xml_reading.specs.rule.Element.{Body}
use Rattle.xml_grammar.specs.Grammar.{Element, Attribute, Part, Holds, nothing, number, rule_of}
use Rattle.xml_grammar.specs.Grammar as table
use Rattle.xml_grammar.specs.Reader.{no_text}
use Rattle.xml_grammar.specs.Meaning.{State, says_of, behind_of, meaning_of}
use Rattle.xml_derivations.specs.Tag.{name_of, form_of, needed_of, StartTag}
use Rattle.xml_derivations.specs.Derivation.{Comes, Passes, Parts, Texts, Thing, the, inside, closing_of, charges_of}
use Rattle.xml_derivation_laws.specs.Read.{Told}
use Rattle.xml_refusals.specs.Tags.{TagFaults}
use Rattle.xml_refusals.specs.Opens.{Opens, Misplaced}
use Rattle.xml_refusals.specs.Dues.{NoTag}
use Rattle.xml_refusals.specs.Voids.{Voided, VoidStops}
use Rattle.xml_refusals.specs.Texts.{Texted, TextStops}

-- ---- the order of the table: x may stand next where these parts are due, and those are due behind it
pub data Leads (old : Bool) : List Part → Element → List Part → Type 0 where
  here : {q : Part} {l k : List Part} {x : Element} → Comes old q x k → Leads old (q ∷ l) x (k ++ l)
  later : {q : Part} {l k : List Part} {x : Element} → Passes q → Leads old l x k → Leads old (q ∷ l) x k

-- something has to come yet, so that the end tag may not stand there
pub data Owes : List Part → Type 0 where
  once : {x : Element} {l : List Part} → Owes (table.once x ∷ l)
  either : {x y : Element} {l : List Part} → Owes (table.either x y ∷ l)
  later : {q : Part} {l : List Part} → Passes q → Owes l → Owes (q ∷ l)

-- ---- tags
-- a start tag with whatever attributes: those that its element doesn't know are held by the place of the first (`unknown`)
pub record AnyTag (d : List ℕ) (old : Bool) (l : List Attribute) (w : List ℕ) (p : ℕ) (h : Held) (alone : Bool) (end m : ℕ) : Type 0 where
  pub behind_name : ℕ
  pub opens : Opens d p behind_name
  pub name : Lies d p behind_name (60 ∷ w)
  pub placed : Placed d (name_of old l 0) (name_of old l 1) (name_of old l 2) (form_of old l 0) (form_of old l 1) (form_of old l 2)
      (tags.nothing_held behind_name) h
  pub complete : misses_of (needed_of l) h ≡ false
  pub ended : Ended d h.next alone end m

-- a start tag of this word that is refused: broken, an attribute twice, of wrong form or missing
pub record TagStops (bad : Bool) (d : List ℕ) (old : Bool) (l : List Attribute) (w : List ℕ) (p : ℕ) (f : Fault) : Type 0 where
  pub behind_name : ℕ
  pub opens : Opens d p behind_name
  pub name : Lies d p behind_name (60 ∷ w)
  pub faults : TagFaults bad d p (name_of old l 0) (name_of old l 1) (name_of old l 2) (form_of old l 0) (form_of old l 1) (form_of old l 2)
      (needed_of l) (tags.nothing_held behind_name) f

-- ---- what an element x holds behind its start tag, read: its text and what is charged in it
pub data Inner (bad : Bool) (d : List ℕ) (x : Element) (s : State) (alone : Bool) (n : ℕ) : KeptText → List Charge → ℕ → Type 0 where
  empty : {l : List Charge} {m : ℕ} → (rule_of x).holds ≡ nothing → Voided bad d (rule_of x).word alone n l m
      → Inner bad d x s alone n no_text l m
  text : {r : Holds} {mode m : ℕ} {b : Body} → (rule_of x).holds ≡ r → Texts s.manner.languages r mode
      → Texted bad d mode (rule_of x).word alone n b m → Inner bad d x s alone n b.text b.charges m
  digits : {m : ℕ} {b : Body} → (rule_of x).holds ≡ number → Texted bad d 0 (rule_of x).word alone n b m → b.whole ≡ true
      → stretch_fits 1 d b.text.place (b.text.place + b.text.length) ≡ true → Inner bad d x s alone n b.text b.charges m

-- or refused: 2 or 50 in it; no digits where digits alone may stand, "2 at the text's place"; what cuts a number, whose own form isn't
-- asked
pub data InnerStops (bad : Bool) (d : List ℕ) (x : Element) (s : State) (h : Held) (alone : Bool) (n : ℕ) : Fault → Type 0 where
  empty : {f : Fault} → (rule_of x).holds ≡ nothing → VoidStops bad d (rule_of x).word alone n f → InnerStops bad d x s h alone n f
  text : {r : Holds} {mode : ℕ} {f : Fault} → (rule_of x).holds ≡ r → Texts s.manner.languages r mode
      → TextStops bad d mode (rule_of x).word alone n f → InnerStops bad d x s h alone n f
  digits : {f : Fault} → (rule_of x).holds ≡ number → TextStops bad d 0 (rule_of x).word alone n f → InnerStops bad d x s h alone n f
  no_digits : {m : ℕ} {b : Body} → (rule_of x).holds ≡ number → Texted bad d 0 (rule_of x).word alone n b m → b.whole ≡ true
      → stretch_fits 1 d b.text.place (b.text.place + b.text.length) ≡ false
      → InnerStops bad d x s h alone n (fault 2 b.text.place)
  cut : {m : ℕ} {b : Body} {f : Fault} → (rule_of x).holds ≡ number → Texted bad d 0 (rule_of x).word alone n b m → b.whole ≡ false
      → Lowest (unknown_at h.unknown ∷ b.charges) f → InnerStops bad d x s h alone n f

-- ---- judged once read: the least charge; names and filters (52) behind all else
pub data Blamed (first last : List Charge) : Fault → Type 0 where
  at_first : {f : Fault} → Lowest first f → Blamed first last f
  at_last : {f : Fault} → Clean first → Lowest last f → Blamed first last f

-- what may be charged by attributes and text, with the first attribute that isn't known, and what was charged in the text
abbrev pub judged_by : List ℕ → Element → State → Held → KeptText → List Charge → List Charge
judged_by d x s h t l = (meaning_of d x).charges s h t ++ unknown_at h.unknown ∷ ((meaning_of d x).also s h t ++ l)

-- a start tag alone is a statement
abbrev pub front_of : List ℕ → Element → State → Held → List Charge
front_of d x s h = (meaning_of d x).charges s h no_text ++ unknown_at h.unknown ∷ (meaning_of d x).also s h no_text

-- THE REFUSALS: in this thing, that begins at n where s is known, the file is refused with f
pub data Stops (bad : Bool) (d : List ℕ) : Thing → State → ℕ → Fault → Type 0 where
  -- an element: in its start tag; in what it holds; judged once read
  in_tag : {x : Element} {s : State} {p : ℕ} {f : Fault} → TagStops bad d s.manner.old (rule_of x).attributes (rule_of x).word p f
      → Stops bad d (the x) s p f
  in_content : {x : Element} {s : State} {p q n : ℕ} {h : Held} {alone : Bool} {f : Fault}
      → AnyTag d s.manner.old (rule_of x).attributes (rule_of x).word p h alone q n → InnerStops bad d x s h alone n f
      → Stops bad d (the x) s p f
  charged : {x : Element} {s : State} {p q n m : ℕ} {h : Held} {alone : Bool} {t : KeptText} {l : List Charge} {f : Fault}
      → AnyTag d s.manner.old (rule_of x).attributes (rule_of x).word p h alone q n → Inner bad d x s alone n t l m
      → Blamed (judged_by d x s h t l) (behind_of d x s t) f → Stops bad d (the x) s p f
  -- one that holds others: its start tag is charged; it ends with its start tag, "2 .. a tag's end"; in its parts; behind its end tag
  at_start : {x : Element} {s : State} {p q n : ℕ} {h : Held} {alone : Bool} {r : Holds} {l : List Part} {f : Fault}
      → (rule_of x).holds ≡ r → Parts (says_of d x s h no_text).sort r l
      → AnyTag d s.manner.old (rule_of x).attributes (rule_of x).word p h alone q n → Lowest (front_of d x s h) f
      → Stops bad d (the x) s p f
  ended : {x : Element} {s : State} {p q n : ℕ} {h : Held} {r : Holds} {l : List Part} → (rule_of x).holds ≡ r
      → Parts (says_of d x s h no_text).sort r l
      → AnyTag d s.manner.old (rule_of x).attributes (rule_of x).word p h true q n → Clean (front_of d x s h)
      → Stops bad d (the x) s p (fault 2 q)
  in_parts_lem : {x : Element} {s : State} {p n : ℕ} {h : Held} {r : Holds} {l : List Part} {f : Fault} → (rule_of x).holds ≡ r
      → Parts (says_of d x s h no_text).sort r l
      → StartTag d s.manner.old (rule_of x).attributes (rule_of x).word p h false n → Clean (charges_of d x s h no_text)
      → Stops bad d (inside (rule_of x).word l) (says_of d x s h no_text) n f → Stops bad d (the x) s p f
  at_end_lem : {x : Element} {s t : State} {p n m : ℕ} {h : Held} {r : Holds} {l : List Part} {f : Fault} → (rule_of x).holds ≡ r
      → Parts (says_of d x s h no_text).sort r l
      → StartTag d s.manner.old (rule_of x).attributes (rule_of x).word p h false n → Clean (charges_of d x s h no_text)
      → Told d (inside (rule_of x).word l) (says_of d x s h no_text) n t m → Lowest (closing_of r t) f → Stops bad d (the x) s p f
  -- parts: no tag stands where one is due; a start tag that none of those that may come next has; the end tag, where something is due
  no_tag : {w : List ℕ} {l : List Part} {s : State} {n : ℕ} {f : Fault} → NoTag bad d w n f → Stops bad d (inside w l) s n f
  other : {w : List ℕ} {l : List Part} {s : State} {n p e : ℕ} {f : Fault} → Gapped d n p → Opens d p e
      → ((x : Element) (k : List Part) → Leads s.manner.old l x k → is_named d (p + 1) e (rule_of x).word ≡ false)
      → Misplaced bad d p e f → Stops bad d (inside w l) s n f
  too_early : {w : List ℕ} {l : List Part} {s : State} {n p m : ℕ} → Gapped d n p → EndAt d w p m → Owes l
      → Stops bad d (inside w l) s n (fault 2 p)
  -- in the element that comes next, or behind it
  in_next : {w : List ℕ} {l k : List Part} {x : Element} {s : State} {n p : ℕ} {f : Fault} → Leads s.manner.old l x k → Gapped d n p
      → Stops bad d (the x) s p f → Stops bad d (inside w l) s n f
  behind : {w : List ℕ} {l k : List Part} {x : Element} {s t : State} {n p j : ℕ} {f : Fault} → Leads s.manner.old l x k
      → Gapped d n p → Told d (the x) s p t j → Stops bad d (inside w k) t j f → Stops bad d (inside w l) s n f
