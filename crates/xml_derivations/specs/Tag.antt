-- TAGS, TEXTS AND WHAT STANDS BETWEEN, over the file d by places: from n on stands the thing, and m is the place behind it. "A tag:
-- `<name`,
-- white space and `name = "value"` in any order, `>` or `/>`." "`<x ../>` and `<x ..></x>` are the same." No attribute stands here that the
-- element doesn't know. The bytes of gaps, names, values, end tags and texts are those of crates `markup`, `attributes`, `pairs`,
-- `contents`.
use Rattle.std.specs.Prelude.{◌≡◌, Bool, true, false, List, [], ◌∷◌, ℕ, zero, suc, ◌+◌, ◌-◌}
use Rattle.attributes.proofs.Exactly.{Attributed, Ended}
use Rattle.tags.specs.declared.Held.{Held}
use Rattle.tags.specs.rule.Tag.{slot_of, stretch_fits, misses_of}
use Rattle.tags.specs.rule.Tag as tag
use Rattle.pairs.proofs.Lies.{Lies}
use Rattle.pairs.proofs.Ends.{PairAt}
use Rattle.contents.proofs.Exactly.{ContentAt}
use Rattle.survey.specs.rule.Survey.{KeptText}
use Rattle.xml_grammar.specs.Grammar.{Attribute}
use Rattle.xml_grammar.specs.Reader.{name_in, form_in, needed_by}

-- ---- the attributes of a line of the table, in a file of version 1.1 (`old`) or later: the name and the form of each, and how many are
-- required, which stand first
abbrev pub name_of : Bool → List Attribute → ℕ → List ℕ
name_of old [] i = []
name_of old (x ∷ l) zero = name_in old x
name_of old (x ∷ l) (suc i) = name_of old l i

abbrev pub form_of : Bool → List Attribute → ℕ → ℕ
form_of old [] i = 0
form_of old (x ∷ l) zero = form_in old x
form_of old (x ∷ l) (suc i) = form_of old l i

abbrev pub needed_of : List Attribute → ℕ
needed_of [] = 0
needed_of (x ∷ l) = needed_by x + needed_of l

-- which attribute of the element the name from n to e is: 1, 2, 3
abbrev pub which_of : List ℕ → Bool → List Attribute → ℕ → ℕ → ℕ
which_of d old l n e = slot_of d n e (name_of old l 0) (name_of old l 1) (name_of old l 2)

-- the value from v to w has the form of attribute i
abbrev pub Formed : List ℕ → Bool → List Attribute → ℕ → ℕ → ℕ → Type 0
Formed d old l i v w = stretch_fits (form_of old l i) d v w ≡ true

-- ---- an attribute more: one of the element's, that was not given before, its value of its form. `Held` says where the values stand
pub data Gives (d : List ℕ) (old : Bool) (l : List Attribute) : Held → Held → Type 0 where
  first : {h : Held} {n e v w m : ℕ} → Attributed d h.next n e v w m → which_of d old l n e ≡ 1 → h.a ≡ 0 → Formed d old l 0 v w
      → Gives d old l h
      (record { a = v; ae = w; b = h.b; be = h.be; c = h.c; ce = h.ce; third = h.third; unknown = h.unknown; next = m })
  second : {h : Held} {n e v w m : ℕ} → Attributed d h.next n e v w m → which_of d old l n e ≡ 2 → h.b ≡ 0 → Formed d old l 1 v w
      → Gives d old l h
      (record { a = h.a; ae = h.ae; b = v; be = w; c = h.c; ce = h.ce; third = h.third; unknown = h.unknown; next = m })
  third : {h : Held} {n e v w m : ℕ} → Attributed d h.next n e v w m → which_of d old l n e ≡ 3 → h.c ≡ 0 → Formed d old l 2 v w
      → Gives d old l h
      (record { a = h.a; ae = h.ae; b = h.b; be = h.be; c = v; ce = w; third = n; unknown = h.unknown; next = m })

-- attributes in whatever order
pub data Attributes (d : List ℕ) (old : Bool) (l : List Attribute) : Held → Held → Type 0 where
  no_more : {h : Held} → Attributes d old l h h
  more : {h i j : Held} → Gives d old l h i → Attributes d old l i j → Attributes d old l h j

-- ---- a start tag: < and the word w, attributes, none that is required missing, and > or /> (`alone`)
pub record StartTag (d : List ℕ) (old : Bool) (l : List Attribute) (w : List ℕ) (p : ℕ) (h : Held) (alone : Bool) (m : ℕ) : Type 0 where
  pub behind_name : ℕ
  pub end_mark : ℕ
  pub name : Lies d p behind_name (60 ∷ w)
  pub attributes : Attributes d old l (tag.nothing_held behind_name) h
  pub complete : misses_of (needed_of l) h ≡ false
  pub end : Ended d h.next alone end_mark m

-- ---- what follows the start tag of an element w that holds nothing: its end tag behind white space and comments, unless it ended so
pub data NothingAt (d w : List ℕ) : Bool → ℕ → ℕ → Type 0 where
  alone : {n : ℕ} → NothingAt d w true n n
  pair : {n m : ℕ} → PairAt d w n m → NothingAt d w false n m

-- ---- what follows the start tag of an element w that holds a text: "place just after its tag's `>`, length to its end tag's `<`"
abbrev pub stretch : ℕ → ℕ → KeptText
stretch n e = record { place = n; length = e - n }

pub data TextAt (latin : Bool) (d : List ℕ) (mode : ℕ) (w : List ℕ) : Bool → ℕ → KeptText → ℕ → Type 0 where
  alone : {n : ℕ} → TextAt latin d mode w true n (stretch n n) n
  ended : {n e m : ℕ} → ContentAt latin d mode w n e m 0 → TextAt latin d mode w false n (stretch n e) m
