-- End tags, empty pairs and start tags by their bytes, as XML 1.0 has them. 60 is <, 47 /, 62 >, 61 =, 34 and 39 quotes.
use Rattle.std.specs.Prelude.{◌≡◌, ◌⊎◌, Bool, true, false, cond, List, [], ◌∷◌, ◌++◌, ℕ, ◌+◌, ◌<◌, eqb, length}
use Rattle.markup.specs.rule.Bytes.{of_kind, starts_name}
use Rattle.markup.specs.rule.Grammar.{Each, Gap}
use Rattle.attributes.specs.rule.Attribute.{AttributeValue}

-- white space or none
abbrev pub White : List ℕ → Type 0
White s = Each (of_kind 0) s

-- a name
pub data Name : List ℕ → Type 0 where
  name : {b : ℕ} {s : List ℕ} → starts_name b ≡ true → Each (of_kind 1) s → Name (b ∷ s)

-- the end tag of an element w
pub data Ends (w : List ℕ) : List ℕ → Type 0 where
  ends : {v : List ℕ} → White v → Ends w (60 ∷ 47 ∷ (w ++ (v ++ 62 ∷ [])))

-- what follows the start tag of an element w that holds nothing
pub data Empties (w : List ℕ) : List ℕ → Type 0 where
  empties : {g t : List ℕ} → Gap g → Ends w t → Empties w (g ++ t)

-- an attribute n with the white space before it, so many bytes of that
pub data PairGiven (n : List ℕ) : ℕ → List ℕ → Type 0 where
  given : {q : ℕ} {u y z v : List ℕ} → White u → 0 < length u → Name n → White y → White z → (q ≡ 34) ⊎ (q ≡ 39) → AttributeValue q v
      → PairGiven n (length u) (u ++ (n ++ (y ++ 61 ∷ (z ++ q ∷ (v ++ q ∷ [])))))

-- attributes in whatever order, from place p on: whether k is among them, once at most; and the place of the first other one's name, 0 for
-- none
pub data Attributes (k : List ℕ) : ℕ → List ℕ → Bool → ℕ → Type 0 where
  none : {p : ℕ} → Attributes k p [] false 0
  known : {p o a : ℕ} {u s : List ℕ} → PairGiven k o u → Attributes k (p + length u) s false a → Attributes k p (u ++ s) true a
  other : {p o a : ℕ} {n u s : List ℕ} {g : Bool} → PairGiven n o u → (n ≡ k → ⊥) → Attributes k (p + length u) s g a
      → Attributes k p (u ++ s) g (p + o)

-- the end of a start tag: /> or >
abbrev pub closing : Bool → List ℕ
closing empty = cond empty (47 ∷ 62 ∷ []) (62 ∷ [])

-- what follows the name of a start tag, at place p
pub data Behind (k : List ℕ) (empty : Bool) : ℕ → List ℕ → Bool → ℕ → Type 0 where
  behind : {p a : ℕ} {s v : List ℕ} {g : Bool} → Attributes k p s g a → White v → Behind k empty p (s ++ (v ++ closing empty)) g a

-- of two places the first that is there
abbrev pub first_of : ℕ → ℕ → ℕ
first_of a b = cond (eqb a 0) b a
