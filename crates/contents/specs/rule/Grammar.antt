-- "A text tabled: all that stands between its tags. The default text is the characters and breaks outside `<text>`; white space is kept.
-- br stands in title, label, value, text only. Decoded texts are UTF-8 whatever the file's encoding. CR LF and CR are one byte 10; `&#13;`
-- stays 13; none is a break. `]]>` in a text 50. Comments say nothing." A text by its bytes, and the signs that it says.
-- Mode 0: characters, references and comments; 1: breaks too (without languages, and inside `<text>`); 2: `<text>` too.
use Rattle.std.specs.Prelude.{◌≡◌, Bool, true, false, cond, List, [], ◌∷◌, ◌++◌, ℕ, ◌+◌, leb, eqb, length}
use Rattle.signs.specs.declared.Sign.{Sign}
use Rattle.signs.specs.declared.Sign.TheVariants.{Byte, Break}
use Rattle.utf.specs.rule.Chars.{encode}
use Rattle.markup.specs.rule.Bytes.{stands}
use Rattle.markup.specs.rule.Grammar.{Ref, Note}
use Rattle.pairs.specs.rule.Grammar.{Ends, Empties, Behind, first_of}

-- br, text, xml:lang
abbrev pub br : List ℕ
br = 98 ∷ 114 ∷ []

abbrev pub text : List ℕ
text = 116 ∷ 101 ∷ 120 ∷ 116 ∷ []

abbrev pub lang : List ℕ
lang = 120 ∷ 109 ∷ 108 ∷ 58 ∷ 108 ∷ 97 ∷ 110 ∷ 103 ∷ []

-- bytes as signs; and those of a byte of the file: a character of ISO-8859-1 is written in UTF-8
unfoldable pub byte_signs : List ℕ → List Sign
byte_signs [] = []
byte_signs (b ∷ s) = Byte b ∷ byte_signs s

abbrev pub byte_of : Bool → ℕ → List Sign
byte_of latin b = cond latin (byte_signs (encode b)) (Byte b ∷ [])

-- a piece of a text, before the bytes s that are left of it, at place p: what it says, and the place of its first attribute that isn't
-- known (0: none). 38 is &, 60 <, 13 10 a line's end, 93 93 62 ]]>, 60 33 45 45 <!--.
pub data ContentPiece (l : Bool) (m p : ℕ) : List ℕ → List ℕ → List Sign → ℕ → Type 0 where
  plain : {b : ℕ} {s : List ℕ} → (b ≡ 38 → ⊥) → (b ≡ 60 → ⊥) → (b ≡ 13 → ⊥) → stands (93 ∷ 93 ∷ 62 ∷ []) (b ∷ s) ≡ false
      → ContentPiece l m p (b ∷ []) s (byte_of l b) 0
  line : {s : List ℕ} → stands (10 ∷ []) s ≡ true → ContentPiece l m p (13 ∷ []) s [] 0
  return : {s : List ℕ} → stands (10 ∷ []) s ≡ false → ContentPiece l m p (13 ∷ []) s (Byte 10 ∷ []) 0
  refer : {c : ℕ} {r s : List ℕ} → Ref r c → ContentPiece l m p (38 ∷ r) s (byte_signs (encode c)) 0
  note : {n s : List ℕ} → Note n → ContentPiece l m p (60 ∷ 33 ∷ 45 ∷ 45 ∷ n) s [] 0
  alone : {a : ℕ} {t s : List ℕ} {g : Bool} → leb 1 m ≡ true → Behind [] true (p + 3) t g a
      → ContentPiece l m p (60 ∷ (br ++ t)) s (Break ∷ []) a
  pair : {a : ℕ} {t e s : List ℕ} {g : Bool} → leb 1 m ≡ true → Behind [] false (p + 3) t g a → Empties br e
      → ContentPiece l m p (60 ∷ (br ++ (t ++ e))) s (Break ∷ []) a
  unsaid : {a : ℕ} {t s : List ℕ} → eqb m 2 ≡ true → Behind lang true (p + 5) t true a → ContentPiece l m p (60 ∷ (text ++ t)) s [] a

-- a text: pieces, and whole texts in other languages, which say nothing here
pub data ContentText (l : Bool) : ℕ → ℕ → List ℕ → List Sign → ℕ → Type 0 where
  end : {m p : ℕ} → ContentText l m p [] [] 0
  more : {m p a u : ℕ} {b s : List ℕ} {x cs : List Sign} → ContentPiece l m p b s x a → ContentText l m (p + length b) s cs u
      → ContentText l m p (b ++ s) (x ++ cs) (first_of a u)
  language : {m p a b u : ℕ} {t v e s : List ℕ} {ds cs : List Sign} → eqb m 2 ≡ true → Behind lang false (p + 5) t true a
      → ContentText l 1 (p + 5 + length t) v ds b → Ends text e
      → ContentText l m (p + 5 + length t + length v + length e) s cs u
      → ContentText l m p (60 ∷ (text ++ (t ++ (v ++ (e ++ s))))) cs (first_of a (first_of b u))
