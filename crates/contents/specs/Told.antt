-- What the decoder's answers tell.
use Rattle.std.specs.Prelude.{◌≡◌, Bool, cond, List, [], ◌∷◌, ◌++◌, ℕ, ◌+◌, ◌≤◌, ◌<◌, length, get_or}
use Rattle.signs.specs.declared.Sign.{Sign}
use Rattle.signs.specs.declared.Sign.TheVariants as sign
use Rattle.utf.specs.rule.Chars.{encode}
use Rattle.contents.specs.rule.Grammar.{byte_signs, byte_of}
use Rattle.contents.specs.rule.Content.{signs_from, content_signs}
use Rattle.contents.specs.declared.Going.{Going}
use Rattle.contents.specs.declared.Cursor.{Cursor}
use Rattle.contents.specs.declared.Heard.{Heard}
use Rattle.contents.specs.declared.Heard.TheVariants as heard
use Rattle.contents.specs.declared.Part.{Part}
use Rattle.contents.specs.declared.Part.TheVariants as part

-- the signs from an answer on
abbrev pub heard_signs : Bool → List ℕ → Heard → List Sign
heard_signs l d (heard.Break g) = sign.Break ∷ signs_from l d g
heard_signs l d (heard.Byte b g) = byte_of l b ++ signs_from l d g
heard_signs l d (heard.Code c g) = byte_signs (encode c) ++ signs_from l d g
heard_signs l d heard.Over = []

abbrev pub heard_next : Heard → ℕ
heard_next (heard.Break g) = g.next
heard_next (heard.Byte b g) = g.next
heard_next (heard.Code c g) = g.next
heard_next heard.Over = 0

abbrev pub heard_code : Heard → ℕ
heard_code (heard.Break g) = 0
heard_code (heard.Byte b g) = 0
heard_code (heard.Code c g) = c
heard_code heard.Over = 0

-- what is heard next is the rest of the text, in either encoding
pub record Hears (d : List ℕ) (g : Going) (r : Heard) : Type 0 where
  pub signs : (l : Bool) → signs_from l d g ≡ heard_signs l d r
  pub next : heard_next r ≤ length d
  pub small : heard_code r < 2097152

abbrev pub part_signs : Bool → List ℕ → Part → List Sign
part_signs l d (part.One s c) = s ∷ content_signs l d c
part_signs l d part.Over = []

abbrev pub part_next : Part → ℕ
part_next (part.One s c) = c.next
part_next part.Over = 0

abbrev pub part_code : Part → ℕ
part_code (part.One s c) = c.code
part_code part.Over = 0

-- the sign told is the first of those still to come, and the cursor is behind it
pub record Tells (l : Bool) (d : List ℕ) (c : Cursor) (r : Part) : Type 0 where
  pub signs : content_signs l d c ≡ part_signs l d r
  pub next : part_next r ≤ length d
  pub small : part_code r < 2097152

-- ---- the parts
abbrev pub whole_part : Sign → Going → Part
whole_part s g = part.One s (record { inside = g.inside; unknown = g.unknown; next = g.next; code = 0; said = 1 })

abbrev pub first_part : ℕ → Going → Part
first_part c g =
    part.One (sign.Byte (get_or (encode c) 0 0)) (record { inside = g.inside; unknown = g.unknown; next = g.next; code = c; said = 1 })

abbrev pub next_part : Cursor → Part
next_part c =
    part.One (sign.Byte (get_or (encode c.code) c.said 0))
    (record { inside = c.inside; unknown = c.unknown; next = c.next; code = c.code; said = c.said + 1 })

abbrev pub byte_part : Bool → ℕ → Going → Part
byte_part latin b g = cond latin (first_part b g) (whole_part (sign.Byte b) g)
