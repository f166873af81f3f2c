-- What follows from rule/Names.antt, and what the code keeps.
use Rattle.std.specs.Prelude.{◌≡◌, refl, Bool, true, ◌||◌, false, cond, List, [], ◌∷◌, ◌++◌, map, ℕ, suc, ◌+◌, ◌-◌, ◌<◌, ◌≤◌, leb, length}
use Rattle.std.specs.Prelude.{take, ℤ}
use Rattle.std.proofs.Common.{sym, ap, ◌∙◌, arith, le-leb, leb-true, leb-false, take_all}
use Rattle.std.proofs.lemmas.Bool.{lt-leb}
use Rattle.std.proofs.Math.Seq.{take-length}
use Rattle.signs.specs.declared.Sign.{Sign}
use Rattle.commas.specs.rule.Csv.{is_special, holds_special, doubled_byte, doubled, field_bytes, line_bytes}
use Rattle.commas.specs.Csv.{line_left, left_line}
use Rattle.contents.specs.rule.Content.{begun, signs_from, signs_by}
use Rattle.contents.specs.rule.Step.{step_of}
use Rattle.xml_reading.specs.rule.Role.{signs_in}
use Rattle.scripts.specs.rule.Script.{latin_of}
use Rattle.name_line.specs.rule.Names.{sign_byte, plain_text, xml_text, name_text, place_at, long_at, name_line}
use Rattle.prologs.specs.rule.Told.{is_xml}

-- the bytes that signs are written as
abbrev pub bytes_of : List Sign → List ℕ
bytes_of l = map sign_byte l

module _ {l m : List Sign} {x : Sign} (e : l ≡ x ∷ m) {b : ℕ} (is : b ≡ sign_byte x) where
  pub special_next : holds_special (bytes_of l) ≡ (is_special b || holds_special (bytes_of m))
  unfolding holds_special
  special_next = rw (e, is)

  pub doubled_next : doubled (bytes_of l) ≡ doubled_byte b ++ doubled (bytes_of m)
  unfolding doubled
  doubled_next = rw (e, is)

pub special_none : {l : List Sign} → l ≡ [] → holds_special (bytes_of l) ≡ false
unfolding holds_special
special_none e = rw e

pub doubled_none : {l : List Sign} → l ≡ [] → doubled (bytes_of l) ≡ []
unfolding doubled
doubled_none e = rw e

-- a sign fewer is left
pub shorter : {l m : List Sign} {x : Sign} → l ≡ x ∷ m → length m < length l
shorter {m = m} {x = x} e = rw e (less (length m))
  where
    less : (n : ℕ) → n < suc n
    less n = omega arith

-- ---- the two kinds
pub name_xml : (d : List ℕ) (place long : ℕ) → is_xml d ≡ true → name_text d place long ≡ xml_text (latin_of d) d place long
unfolding name_text
name_xml d place long e = rw e

pub name_plain : (d : List ℕ) (place long : ℕ) → is_xml d ≡ false → name_text d place long ≡ plain_text d place
unfolding name_text
name_plain d place long e = rw e

-- the bytes that a text says which goes on to the end of d
abbrev pub rest_text : Bool → List ℕ → ℕ → List ℕ
rest_text latin d at = bytes_of (signs_from latin d (begun at))

-- the end of a stretch that may pass the end of n bytes, and its start where it begins behind it
abbrev pub end_of : ℕ → ℕ → ℕ → ℕ
end_of n place long = cond (leb (place + long) n) (place + long) n

abbrev pub from_of : ℕ → ℕ → ℕ
from_of end place = cond (leb place end) place end

-- behind its end a text says nothing
none_behind : (latin : Bool) (d : List ℕ) (at : ℕ) → length d ≤ at → signs_from latin d (begun at) ≡ []
unfolding signs_from signs_by step_of
none_behind latin d at h = rw (le-leb (length d) at h)

-- a stretch that passes the end of the definition ends there; one that begins behind it says nothing
pub rest_is : (latin : Bool) (d : List ℕ) (place long : ℕ)
    → rest_text latin (take (end_of (length d) place long) d) (from_of (end_of (length d) place long) place) ≡ xml_text latin d place long
unfolding xml_text signs_in
rest_is latin d place long = by (leb (place + long) (length d)) refl where
  inside : place + long ≤ length d
      → rest_text latin (take (end_of (length d) place long) d) (from_of (end_of (length d) place long) place)
      ≡ bytes_of (signs_from latin (take (place + long) d) (begun place))
  inside h = let k : place ≤ place + long = omega arith in rw (le-leb (place + long) (length d) h, le-leb place (place + long) k)

  begins : length d < place + long → place ≤ length d
      → rest_text latin (take (end_of (length d) place long) d) (from_of (end_of (length d) place long) place)
      ≡ bytes_of (signs_from latin (take (place + long) d) (begun place))
  begins h k =
      let j : length d ≤ place + long = omega arith in
      rw (lt-leb (place + long) (length d) h, le-leb place (length d) k, take-length d, take_all (place + long) d j)

  behind : length d < place + long → length d < place
      → rest_text latin (take (end_of (length d) place long) d) (from_of (end_of (length d) place long) place)
      ≡ bytes_of (signs_from latin (take (place + long) d) (begun place))
  behind h k =
      let j : length d ≤ place + long = omega arith in
      let a : length d ≤ length d = omega arith in
      let b : length d ≤ place = omega arith in
      rw (
        lt-leb (place + long) (length d) h,
        lt-leb place (length d) k,
        take-length d,
        take_all (place + long) d j,
        none_behind latin d (length d) a,
        none_behind latin d place b,
      )

  passes : length d < place + long → (x : Bool) → leb place (length d) ≡ x
      → rest_text latin (take (end_of (length d) place long) d) (from_of (end_of (length d) place long) place)
      ≡ bytes_of (signs_from latin (take (place + long) d) (begun place))
  passes h true e = begins h (leb-true place (length d) e)
  passes h false e = behind h (leb-false place (length d) e)

  by : (x : Bool) → leb (place + long) (length d) ≡ x
      → rest_text latin (take (end_of (length d) place long) d) (from_of (end_of (length d) place long) place)
      ≡ bytes_of (signs_from latin (take (place + long) d) (begun place))
  by true e = inside (leb-true (place + long) (length d) e)
  by false e = passes (leb-false (place + long) (length d) e) (leb place (length d)) refl

-- ---- the name line from its first name on
abbrev pub name_at : List ℕ → List ℤ → ℕ → List ℕ
name_at d t i = name_text d (place_at t i) (long_at t i)

pub names_whole : (d : List ℕ) (t : List ℤ) (n : ℕ) → line_bytes (name_line d t n) ≡ line_left (name_at d t) 0 (n - 0)
unfolding name_line
names_whole d t n = let e : n - 0 ≡ n = omega arith in left_line (name_at d t) n ∙ ap (line_left (name_at d t) 0) (sym e)

-- the field of row i's name, by the two numbers of its row
pub name_of : (d : List ℕ) (t : List ℤ) (i : ℕ) {p n : ℕ} → p ≡ place_at t i → n ≡ long_at t i
    → field_bytes (name_text d p n) ≡ field_bytes (name_at d t i)
name_of d t i e f = rw (e, f)
