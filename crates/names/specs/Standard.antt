-- What follows from rule/Standard.antt, and what the code keeps.
use Rattle.std.specs.Prelude.{◌≡◌, refl, true, false, [], ◌∷◌}
use Rattle.signs.specs.declared.Sign.TheVariants.{Byte, Break}
use Rattle.ascii.specs.rule.Class.{class_of, upper_of}
use Rattle.scan.specs.rule.Number.{is_digit}
use Rattle.below.specs.rule.Below.{any_below}
use Rattle.names.specs.rule.Standard.{is_letter, letters_or_digits, begins_with_letter, well_named, agree, name_wrong, name_fault_from}
use Rattle.names.specs.rule.Standard.{name_fault}

-- ---- by computation: `a1` is a name, `1a`, the empty text and nine letters are none; `AB` and `aB` agree
a1_named : well_named (Byte 97 ∷ Byte 49 ∷ []) ≡ true
unfolding well_named letters_or_digits begins_with_letter is_letter is_digit class_of
a1_named = refl

digit_first : well_named (Byte 49 ∷ Byte 97 ∷ []) ≡ false
unfolding well_named letters_or_digits begins_with_letter is_letter is_digit class_of
digit_first = refl

empty_name : well_named [] ≡ false
unfolding well_named letters_or_digits begins_with_letter
empty_name = refl

nine_letters : well_named (Byte 97 ∷ Byte 98 ∷ Byte 99 ∷ Byte 100 ∷ Byte 101 ∷ Byte 102 ∷ Byte 103 ∷ Byte 104 ∷ Byte 105 ∷ []) ≡ false
unfolding well_named letters_or_digits begins_with_letter is_letter is_digit class_of
nine_letters = refl

eight_letters : well_named (Byte 97 ∷ Byte 98 ∷ Byte 99 ∷ Byte 100 ∷ Byte 101 ∷ Byte 102 ∷ Byte 103 ∷ Byte 104 ∷ []) ≡ true
unfolding well_named letters_or_digits begins_with_letter is_letter is_digit class_of
eight_letters = refl

case_aside : agree (Byte 65 ∷ Byte 66 ∷ []) (Byte 97 ∷ Byte 66 ∷ []) ≡ true
unfolding agree upper_of
case_aside = refl

-- of `AB`, `a1`, `aB` and `1a` the third is the first at fault; of `AB` and `a1` none is
third_at_fault : name_fault ((Byte 65 ∷ Byte 66 ∷ []) ∷ (Byte 97 ∷ Byte 49 ∷ []) ∷ (Byte 97 ∷ Byte 66 ∷ []) ∷ (Byte 49 ∷ Byte 97 ∷ []) ∷ [])
    ≡ 2
unfolding name_fault name_fault_from name_wrong any_below agree upper_of well_named letters_or_digits begins_with_letter is_letter is_digit
    class_of
third_at_fault = refl

none_at_fault : name_fault ((Byte 65 ∷ Byte 66 ∷ []) ∷ (Byte 97 ∷ Byte 49 ∷ []) ∷ []) ≡ 2
unfolding name_fault name_fault_from name_wrong any_below agree upper_of well_named letters_or_digits begins_with_letter is_letter is_digit
    class_of
none_at_fault = refl

-- a name with a break in it is none, and neither is one with byte 10 in its place
break_named : well_named (Byte 97 ∷ Break ∷ Byte 98 ∷ []) ≡ false
unfolding well_named letters_or_digits begins_with_letter is_letter is_digit class_of
break_named = refl

ten_named : well_named (Byte 97 ∷ Byte 10 ∷ Byte 98 ∷ []) ≡ false
unfolding well_named letters_or_digits begins_with_letter is_letter is_digit class_of
ten_named = refl
