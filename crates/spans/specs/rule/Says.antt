-- "A value of wrong form (a number with a letter, an unknown type, use or option, an ident of two letters, empty) is 2 at the value's
-- first byte. code, from, to: characters other than digits, points, `+`, `-`, or none, are 2; a run of these of wrong form is 6."
-- What the characters of a stretch are, as a number, a value, a word, a letter. 43 is +, 45 -, 46 the point.
use Rattle.std.specs.Prelude.{Bool, true, false, cond, ◌&&◌, ◌||◌, List, [], ◌∷◌, ℕ, ◌+◌, leb, eqb, length}
use Rattle.markup.specs.rule.Bytes.{is_digit}
use Rattle.spans.specs.rule.Heard.{Heard, All, Ill}

-- every one passes
unfoldable pub each_char : (ℕ → Bool) → List ℕ → Bool
each_char f [] = true
each_char f (c ∷ cs) = f c && each_char f cs

-- ---- characters of a class: 1 digits, 2 those that values are written with, 3 letters
unfoldable pub is_letter : ℕ → Bool
is_letter c = (leb 97 c && leb c 122) || (leb 65 c && leb c 90)

unfoldable pub is_value : ℕ → Bool
is_value c = is_digit c || (eqb c 46 || (eqb c 43 || eqb c 45))

unfoldable pub of_class : ℕ → ℕ → Bool
of_class class c = cond (eqb class 1) (is_digit c) (cond (eqb class 2) (is_value c) (is_letter c))

-- how many they are, where all are of the class, after k; 0 where one is not
unfoldable pub count_after : ℕ → ℕ → Heard → ℕ
count_after class k (All cs) = cond (each_char (of_class class) cs) (k + length cs) 0
count_after class k Ill = 0

abbrev pub heard_count : ℕ → Heard → ℕ
heard_count class h = count_after class 0 h

-- ---- a word: just these characters
unfoldable pub same_of : List ℕ → List ℕ → Bool
same_of [] [] = true
same_of [] (c ∷ cs) = false
same_of (x ∷ w) [] = false
same_of (x ∷ w) (c ∷ cs) = eqb x c && same_of w cs

unfoldable pub heard_word : List ℕ → Heard → Bool
heard_word w (All cs) = same_of w cs
heard_word w Ill = false
