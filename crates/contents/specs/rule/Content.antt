-- A text from a place on: up to its end tag, the signs that it says, and whether a stretch is one.
use Rattle.std.specs.Prelude.{Bool, false, cond, ◌&&◌, not, List, [], ◌∷◌, ◌++◌, ℕ, zero, suc, ◌-◌, leb, eqb, length, drop}
use Rattle.scan.specs.rule.Loop.{Next, Again, Done, loop_of}
use Rattle.signs.specs.declared.Sign.{Sign}
use Rattle.signs.specs.declared.Sign.TheVariants as sign
use Rattle.utf.specs.rule.Chars.{encode}
use Rattle.utf.specs.rule.Cut.{first_bad}
use Rattle.contents.specs.rule.Grammar.{byte_signs, byte_of}
use Rattle.contents.specs.rule.Step.{step_of}
use Rattle.contents.specs.declared.Going.{Going}
use Rattle.contents.specs.declared.Cursor.{Cursor}
use Rattle.contents.specs.declared.Said.{Said}
use Rattle.contents.specs.declared.Said.TheVariants.{Nothing, Break, Byte, Code}
use Rattle.contents.specs.declared.Content.{Content}
use Rattle.contents.specs.declared.Content.TheVariants.{Fault}
use Rattle.contents.specs.declared.Step.{Step}
use Rattle.contents.specs.declared.Step.TheVariants.{More, Over}

abbrev pub begun : ℕ → Going
begun at = record { inside = false; unknown = 0; next = at }

-- ---- up to the end tag
abbrev pub on_step : Step → Next Going Content
on_step (More g s) = Again g
on_step (Over c) = Done c

unfoldable pub content_from : Bool → List ℕ → ℕ → List ℕ → Going → Content
content_from bad d m w g = loop_of (λ g. on_step (step_of bad d m w g)) (Fault 0 0) (suc (length d - g.next)) g

-- the text of an element w, from behind its start tag on
abbrev pub content_of : Bool → List ℕ → ℕ → List ℕ → ℕ → Content
content_of bad d m w at = content_from bad d m w (begun at)

-- ---- its signs
unfoldable pub signs_of : Bool → Said → List Sign
signs_of l Nothing = []
signs_of l Break = sign.Break ∷ []
signs_of l (Byte b) = byte_of l b
signs_of l (Code c) = byte_signs (encode c)

abbrev pub said_by : Bool → Step → (Going → List Sign) → List Sign
said_by l (More g s) k = signs_of l s ++ k g
said_by l (Over c) k = []

unfoldable pub signs_by : ℕ → Bool → List ℕ → Going → List Sign
signs_by zero l d g = []
signs_by (suc f) l d g = said_by l (step_of false d 2 [] g) (signs_by f l d)

-- the signs of a text that goes on to the end of d
unfoldable pub signs_from : Bool → List ℕ → Going → List Sign
signs_from l d g = signs_by (suc (length d - g.next)) l d g

-- ---- "in XML any stretch of the definition that is content as of a label (characters, references, comments, br, whole `<text>` elements,
-- no unknown attribute)"
abbrev pub on_text : Step → Next Going Bool
on_text (More g s) = Again g
on_text (Over c) = Done false

unfoldable pub text_step : List ℕ → Going → Next Going Bool
text_step d g = cond (leb (length d) g.next) (Done (not g.inside && eqb g.unknown 0)) (on_text (step_of false d 2 [] g))

unfoldable pub text_from : List ℕ → Going → Bool
text_from d g = loop_of (text_step d) false (suc (length d - g.next)) g

-- the stretch from a place to the end of d, whose characters are legal
unfoldable pub is_text : Bool → List ℕ → ℕ → Bool
is_text latin d at = eqb (first_bad latin d at) (length d) && text_from d (begun at)

-- ---- the decoder, sign by sign: what it holds is where it stands, and a character of whose bytes some were said
abbrev pub going_of : Cursor → Going
going_of c = record { inside = c.inside; unknown = c.unknown; next = c.next }

-- the signs still to come
unfoldable pub content_signs : Bool → List ℕ → Cursor → List Sign
content_signs l d c = byte_signs (drop c.said (encode c.code)) ++ signs_from l d (going_of c)

abbrev pub start_of : ℕ → Cursor
start_of at = record { inside = false; unknown = 0; next = at; code = 0; said = 1 }
