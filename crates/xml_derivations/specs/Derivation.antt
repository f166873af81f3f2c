-- WHICH STRETCH OF A FILE IS WHICH ELEMENT, over the table of document 000's elements (xml_grammar/specs/Grammar): its start tag, what it
-- holds, in the order of the table, its end tag. No limit and no test of numbers is here, but each element's charges are gathered; there
-- is no reader, no turn that is counted, and no depth.
use Rattle.std.specs.Prelude.{◌≡◌, Bool, true, false, List, [], ◌∷◌, ◌++◌, ℕ, ◌+◌}
use Rattle.markup.proofs.Gaps.{Gapped}
use Rattle.tags.specs.declared.Held.{Held}
use Rattle.tags.specs.rule.Tag.{stretch_fits}
use Rattle.pairs.proofs.Ends.{EndAt}
use Rattle.survey.specs.rule.Survey.{KeptText}
use Rattle.reading.specs.rule.Least.{Charge}
use Rattle.reading.specs.rule.Variable.{Sort}
use Rattle.grammar.specs.Faults.{width_faults}
use Rattle.xml_reading.specs.rule.Block as block
use Rattle.xml_grammar.specs.Grammar.{Element, Part, Holds, nothing, number, texts, rule_of, typed_of}
use Rattle.xml_grammar.specs.Grammar as table
use Rattle.xml_grammar.specs.Reader.{no_text}
use Rattle.xml_grammar.specs.Meaning.{State, says_of, behind_of, variable_in, with_entry, meaning_of}
use Rattle.xml_derivations.specs.Tag.{StartTag, NothingAt, TextAt}

-- ---- the order of the table: x may stand where this part is due, and what of the part is still due behind it
pub data Comes (old : Bool) : Part → Element → List Part → Type 0 where
  once : {x : Element} → Comes old (table.once x) x []
  perhaps : {x : Element} → Comes old (table.perhaps x) x []
  newly : {x : Element} → old ≡ false → Comes old (table.newly x) x []
  left : {x y : Element} → Comes old (table.either x y) x []
  right : {x y : Element} → Comes old (table.either x y) y []
  any : {x : Element} → Comes old (table.any x) x (table.any x ∷ [])

-- this part may be left out
pub data Passes : Part → Type 0 where
  perhaps : {x : Element} → Passes (table.perhaps x)
  newly : {x : Element} → Passes (table.newly x)
  any : {x : Element} → Passes (table.any x)

-- ---- what an element of a line of the table holds: a text of this mode, in a file with languages or without; these parts, in a variable
-- of this type
pub data Texts (languages : Bool) : Holds → ℕ → Type 0 where
  characters : Texts languages table.plain 0
  rich : Texts languages table.texts (block.rich languages)

pub data Parts (k : Sort) : Holds → List Part → Type 0 where
  parts : {l : List Part} → Parts k (table.parts l) l
  typed : {l : List Part} → Parts k (table.typed l) (l ++ typed_of k)

-- what is known behind its end tag, and "width after `</variable>`"
abbrev pub closed : Holds → State → State
closed nothing s = s
closed table.plain s = s
closed number s = s
closed texts s = s
closed (table.parts l) s = s
closed (table.typed l) s = with_entry s (variable_in s)

abbrev pub closing_of : Holds → State → List Charge
closing_of nothing s = []
closing_of table.plain s = []
closing_of number s = []
closing_of texts s = []
closing_of (table.parts l) s = []
closing_of (table.typed l) s = width_faults (variable_in s)

-- what may be charged in an element with these attributes and this text
abbrev pub charges_of : List ℕ → Element → State → Held → KeptText → List Charge
charges_of d x s h t = (meaning_of d x).charges s h t ++ ((meaning_of d x).also s h t ++ behind_of d x s t)

-- an element, whose < stands here; or parts that are due inside an element of this word, with white space and comments before each, up to
-- behind its end tag
pub data Thing : Type 0 where
  the : Element → Thing
  inside : List ℕ → List Part → Thing

-- THE GRAMMAR: from n to m the file d has this thing. Where s is known before it, t is known behind it; c are its charges
pub data Says (d : List ℕ) : Thing → State → ℕ → List Charge → State → ℕ → Type 0 where
  empty : {x : Element} {s : State} {p n m : ℕ} {h : Held} {alone : Bool} → (rule_of x).holds ≡ nothing
      → StartTag d s.manner.old (rule_of x).attributes (rule_of x).word p h alone n → NothingAt d (rule_of x).word alone n m
      → Says d (the x) s p (charges_of d x s h no_text) (says_of d x s h no_text) m
  text : {x : Element} {s : State} {p n m mode : ℕ} {h : Held} {alone : Bool} {t : KeptText} {r : Holds} → (rule_of x).holds ≡ r
      → Texts s.manner.languages r mode
      → StartTag d s.manner.old (rule_of x).attributes (rule_of x).word p h alone n
      → TextAt s.manner.latin d mode (rule_of x).word alone n t m
      → Says d (the x) s p (charges_of d x s h t) (says_of d x s h t) m
  digits : {x : Element} {s : State} {p n m : ℕ} {h : Held} {alone : Bool} {t : KeptText} → (rule_of x).holds ≡ number
      → StartTag d s.manner.old (rule_of x).attributes (rule_of x).word p h alone n
      → TextAt s.manner.latin d 0 (rule_of x).word alone n t m → stretch_fits 1 d t.place (t.place + t.length) ≡ true
      → Says d (the x) s p (charges_of d x s h t) (says_of d x s h t) m
  holding : {x : Element} {s t : State} {p n m : ℕ} {h : Held} {c : List Charge} {r : Holds} {l : List Part} → (rule_of x).holds ≡ r
      → Parts (says_of d x s h no_text).sort r l
      → StartTag d s.manner.old (rule_of x).attributes (rule_of x).word p h false n
      → Says d (inside (rule_of x).word l) (says_of d x s h no_text) n c t m
      → Says d (the x) s p (charges_of d x s h no_text ++ (c ++ closing_of r t)) (closed r t) m
  -- the end tag
  end : {w : List ℕ} {s : State} {n p m : ℕ} → Gapped d n p → EndAt d w p m → Says d (inside w []) s n [] s m
  -- an element that may come next
  next : {w : List ℕ} {q : Part} {l k : List Part} {x : Element} {s t u : State} {n p j m : ℕ} {c b : List Charge}
      → Comes s.manner.old q x k → Gapped d n p → Says d (the x) s p c t j → Says d (inside w (k ++ l)) t j b u m
      → Says d (inside w (q ∷ l)) s n (c ++ b) u m
  -- a part that is left out
  pass : {w : List ℕ} {q : Part} {l : List Part} {s t : State} {n m : ℕ} {c : List Charge} → Passes q → Says d (inside w l) s n c t m
      → Says d (inside w (q ∷ l)) s n c t m
