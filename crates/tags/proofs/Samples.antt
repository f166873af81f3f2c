-- Tags read by computing the definition. `start` and `finish` are known, both numbers.
use mathlib.Core.Path.{◌≡◌, refl}
use mathlib.Core.Bool.{true, false}
use mathlib.Core.List.{List, [], ◌∷◌}
use Prim.Native.Nat.{ℕ}
use Rattle.scan.specs.rule.Loop.{loop_of}
use Rattle.utf.specs.rule.Chars.{legal_character}
use Rattle.markup.specs.rule.Bytes.{run_of, bytes_while, rest_of, stands, of_kind, is_white, is_digit, is_hex, is_name, starts_name}
use Rattle.markup.specs.rule.Reference.{reference_of, numbered_of, closed_reference, reference_number, push_of, digit_of, held_below}
use Rattle.spans.specs.rule.Heard.{heard, heard_by, first_heard, part_of, noted_of}
use Rattle.spans.specs.rule.Says.{count_after, each_char, of_class, is_value, is_letter}
use Rattle.forms.specs.rule.Form.{fits_of}
use Rattle.attributes.specs.rule.Attribute.{attribute_of, behind_of, slash_of, named_of, equals_of, valued_of, quoted_of, value_move}
use Rattle.tags.specs.rule.Tag.{tag_of, turns_of, turn_of, put_of, shut_tag, misses_of, slot_of, is_named, form_of, stretch_fits}
use Rattle.tags.specs.declared.Tag.{Tag}
use Rattle.tags.specs.declared.Tag.TheVariants.{Read, Fault}

abbrev start : List ℕ
start = 115 ∷ 116 ∷ 97 ∷ 114 ∷ 116 ∷ []

abbrev finish : List ℕ
finish = 102 ∷ 105 ∷ 110 ∷ 105 ∷ 115 ∷ 104 ∷ []

-- the tag d of an element with these two, of which so many are required
abbrev read : List ℕ → ℕ → Tag
read d required = tag_of false d 0 2 start finish [] 1 1 0 required

-- <p start="&#49;" finish='2'/>
one : read (60 ∷ 112 ∷ 32 ∷ 115 ∷ 116 ∷ 97 ∷ 114 ∷ 116 ∷ 61 ∷ 34 ∷ 38 ∷ 35 ∷ 52 ∷ 57 ∷ 59 ∷ 34 ∷ 32 ∷ 102 ∷ 105 ∷ 110 ∷ 105 ∷ 115 ∷ 104 ∷ 61
    ∷ 39 ∷ 50 ∷ 39 ∷ 47 ∷ 62 ∷ []) 1 ≡ Read (record { a = 10; ae = 15; b = 25; be = 26; c = 0; ce = 0; third = 0; unknown = 0; next = 27 })
    true 27 29
unfolding turns_of turn_of put_of shut_tag misses_of slot_of is_named form_of stretch_fits fits_of heard heard_by first_heard part_of
    noted_of count_after
    each_char of_class is_value is_letter attribute_of behind_of slash_of named_of equals_of valued_of quoted_of value_move loop_of run_of
    bytes_while
    rest_of
    stands of_kind is_white is_digit is_hex is_name starts_name reference_of numbered_of closed_reference reference_number push_of digit_of
    held_below
    legal_character
one = refl

-- <p start="1" start="2">: the second's name
twice : read (60 ∷ 112 ∷ 32 ∷ 115 ∷ 116 ∷ 97 ∷ 114 ∷ 116 ∷ 61 ∷ 34 ∷ 49 ∷ 34 ∷ 32 ∷ 115 ∷ 116 ∷ 97 ∷ 114 ∷ 116 ∷ 61 ∷ 34 ∷ 50 ∷ 34 ∷ 62
    ∷ []) 1 ≡ Fault 50 13
unfolding turns_of turn_of put_of shut_tag misses_of slot_of is_named form_of stretch_fits fits_of heard heard_by first_heard part_of
    noted_of count_after
    each_char of_class is_value is_letter attribute_of behind_of slash_of named_of equals_of valued_of quoted_of value_move loop_of run_of
    bytes_while
    rest_of
    stands of_kind is_white is_digit is_hex is_name starts_name reference_of numbered_of closed_reference reference_number push_of digit_of
    held_below
    legal_character
twice = refl

-- <p finish="1" q="" r="a">: the tag's end
missing : read (60 ∷ 112 ∷ 32 ∷ 102 ∷ 105 ∷ 110 ∷ 105 ∷ 115 ∷ 104 ∷ 61 ∷ 34 ∷ 49 ∷ 34 ∷ 32 ∷ 113 ∷ 61 ∷ 34 ∷ 34 ∷ 32 ∷ 114 ∷ 61 ∷ 34 ∷ 97
    ∷ 34 ∷ 62 ∷ []) 1 ≡ Fault 2 24
unfolding turns_of turn_of put_of shut_tag misses_of slot_of is_named form_of stretch_fits fits_of heard heard_by first_heard part_of
    noted_of count_after
    each_char of_class is_value is_letter attribute_of behind_of slash_of named_of equals_of valued_of quoted_of value_move loop_of run_of
    bytes_while
    rest_of
    stands of_kind is_white is_digit is_hex is_name starts_name reference_of numbered_of closed_reference reference_number push_of digit_of
    held_below
    legal_character
missing = refl

-- <p finish="1" q="" r="a">: q is the first that isn't known
unknown : read (60 ∷ 112 ∷ 32 ∷ 102 ∷ 105 ∷ 110 ∷ 105 ∷ 115 ∷ 104 ∷ 61 ∷ 34 ∷ 49 ∷ 34 ∷ 32 ∷ 113 ∷ 61 ∷ 34 ∷ 34 ∷ 32 ∷ 114 ∷ 61 ∷ 34 ∷ 97
    ∷ 34 ∷ 62 ∷ []) 0 ≡ Read (record { a = 0; ae = 0; b = 11; be = 12; c = 0; ce = 0; third = 0; unknown = 14; next = 24 }) false 24 25
unfolding turns_of turn_of put_of shut_tag misses_of slot_of is_named form_of stretch_fits fits_of heard heard_by first_heard part_of
    noted_of count_after
    each_char of_class is_value is_letter attribute_of behind_of slash_of named_of equals_of valued_of quoted_of value_move loop_of run_of
    bytes_while
    rest_of
    stands of_kind is_white is_digit is_hex is_name starts_name reference_of numbered_of closed_reference reference_number push_of digit_of
    held_below
    legal_character
unknown = refl

-- <p start="1": the file ends in the tag
cut : read (60 ∷ 112 ∷ 32 ∷ 115 ∷ 116 ∷ 97 ∷ 114 ∷ 116 ∷ 61 ∷ 34 ∷ 49 ∷ 34 ∷ []) 1 ≡ Fault 50 0
unfolding turns_of turn_of put_of shut_tag misses_of slot_of is_named form_of stretch_fits fits_of heard heard_by first_heard part_of
    noted_of count_after
    each_char of_class is_value is_letter attribute_of behind_of slash_of named_of equals_of valued_of quoted_of value_move loop_of run_of
    bytes_while
    rest_of
    stands of_kind is_white is_digit is_hex is_name starts_name reference_of numbered_of closed_reference reference_number push_of digit_of
    held_below
    legal_character
cut = refl

-- <p start="": a number is not empty; what follows is not looked at
form : read (60 ∷ 112 ∷ 32 ∷ 115 ∷ 116 ∷ 97 ∷ 114 ∷ 116 ∷ 61 ∷ 34 ∷ 34 ∷ []) 1 ≡ Fault 2 10
unfolding turns_of turn_of put_of shut_tag misses_of slot_of is_named form_of stretch_fits fits_of heard heard_by first_heard part_of
    noted_of count_after
    each_char of_class is_value is_letter attribute_of behind_of slash_of named_of equals_of valued_of quoted_of value_move loop_of run_of
    bytes_while
    rest_of
    stands of_kind is_white is_digit is_hex is_name starts_name reference_of numbered_of closed_reference reference_number push_of digit_of
    held_below
    legal_character
form = refl

-- <p start="1x" finish="<": a 2 before a 50 behind it
letter : read (60 ∷ 112 ∷ 32 ∷ 115 ∷ 116 ∷ 97 ∷ 114 ∷ 116 ∷ 61 ∷ 34 ∷ 49 ∷ 120 ∷ 34 ∷ 32 ∷ 102 ∷ 105 ∷ 110 ∷ 105 ∷ 115 ∷ 104 ∷ 61 ∷ 34 ∷ 60
    ∷ 34 ∷ []) 1 ≡ Fault 2 10
unfolding turns_of turn_of put_of shut_tag misses_of slot_of is_named form_of stretch_fits fits_of heard heard_by first_heard part_of
    noted_of count_after
    each_char of_class is_value is_letter attribute_of behind_of slash_of named_of equals_of valued_of quoted_of value_move loop_of run_of
    bytes_while
    rest_of
    stands of_kind is_white is_digit is_hex is_name starts_name reference_of numbered_of closed_reference reference_number push_of digit_of
    held_below
    legal_character
letter = refl
