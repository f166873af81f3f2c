-- What follows from rule/Sets.antt, and what the code keeps.
use Rattle.std.specs.Prelude.{◌≡◌, List, ℕ, ◌+◌, ◌*◌, ◌≤◌, leb, ℤ, length, Bool, cond}
use Rattle.places.specs.rule.Places.{pick}
use Rattle.fields.specs.rule.Legal.{legal}
use Rattle.fields.specs.rule.Row.{defined, bit_places, spread_places}
use Rattle.fields.specs.rule.Field.{missing, number, members, text, truth, Field, holds, illegal, set_bits, bits_field, spread_field}
use Rattle.fields.specs.Facts.{LineFacts}
use Rattle.layout.specs.declared.Row.{Row}
use Rattle.sets.specs.declared.SetRead.{SetRead}
use Rattle.sets.specs.declared.SetRead.TheVariants.{Missing, Count, Illegal, Short}
use Rattle.sets.specs.rule.Sets.{list_after}

-- the numbers from 1 to w that a row allows: the codes of a bitstring of w bytes
abbrev pub codes_to : List ℤ → ℕ → Row → ℕ → List ℕ
codes_to t rows row w = defined (legal t rows row) 1 w

-- the codes whose bytes are 1 in a bitstring that begins at a place of a record, and that bitstring as a field
abbrev pub set_bits_at : List ℕ → ℕ → List ℕ → List ℤ
set_bits_at codes at bytes = set_bits codes (pick bytes (bit_places at codes))

abbrev pub bits_field_at : List ℕ → ℕ → List ℕ → Field
bits_field_at codes at bytes = bits_field codes (pick bytes (bit_places at codes))

-- a spread that begins at a place of a record, as a field: n subfields of b bytes, the last w of each
abbrev pub spread_field_at : (ℤ → Bool) → (at b w n : ℕ) → List ℕ → Field
spread_field_at allowed at b w n bytes = spread_field allowed w n (pick bytes (spread_places at b w n))

-- a set's answer, and the list after it: a set longer than the list is refused and keeps it
unfoldable pub set_answer : Field → List ℤ → SetRead
set_answer (holds (members ms)) list = cond (leb (length ms) (length list)) (Count (length ms)) Short
set_answer (holds missing) list = Missing
set_answer (holds (number z)) list = Illegal
set_answer (holds (text s)) list = Illegal
set_answer (holds (truth b)) list = Illegal
set_answer illegal list = Illegal

pub record ReadSet (f : Field) (list list' : List ℤ) (r : SetRead) : Type 0 where
  pub answer : r ≡ set_answer f list
  pub leaves : list' ≡ list_after f list

-- w bytes from a place on lie in a record of so many
pub record BitsRoom (at w len : ℕ) : Type 0 where
  pub few : w ≤ 9999
  pub inside : at + w ≤ len

-- n subfields of b bytes, each of which holds w, lie in a record from a place on
pub record SpreadRoom (at b w n len : ℕ) : Type 0 where
  pub few : w ≤ 4
  pub holds : w ≤ b
  pub inside : at + n * b ≤ len

-- what a bitstring's row must give to be read from a record of so many bytes
pub record BitsFacts (t : List ℤ) (v : ℕ) (r : Row) (size : ℕ) : Type 0 where
  pub lines : LineFacts t v r
  pub from_one : 1 ≤ r.start
  pub few : r.width ≤ 9999
  pub inside : r.start + r.width ≤ size + 1

-- and a spread's of n subfields of b bytes
pub record FieldsFacts (t : List ℤ) (v : ℕ) (r : Row) (n b size : ℕ) : Type 0 where
  pub lines : LineFacts t v r
  pub from_one : 1 ≤ r.start
  pub few : r.width ≤ 4
  pub holds : r.width ≤ b
  pub fields : n ≤ 16384
  pub inside : r.start + n * b ≤ size + 1
