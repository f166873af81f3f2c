-- The class of a byte: 0 dropped, 1 space, 2 digit, 3 letter, 4 quote, 5 brace, 6 angle, 7 other; and a letter's capital.
use Rattle.std.specs.Prelude.{ℕ, ◌-◌, Bool, cond, ◌&&◌, ◌||◌, ltb, leb, eqb}

abbrev pub within : ℕ → ℕ → ℕ → Bool
within a b x = leb a x && leb x b

-- bytes below 32 are dropped; 32 is the one space; `0`-`9`; `A`-`Z` and `a`-`z`; `"`; `{` and `}`; `<` and `>`; all the rest
unfoldable pub class_of : ℕ → ℕ
class_of b =
    cond (ltb b 32) 0
    (cond (eqb b 32) 1
    (cond (within 48 57 b) 2
    (cond (within 65 90 b || within 97 122 b) 3
    (cond (eqb b 34) 4
    (cond (eqb b 123 || eqb b 125) 5
    (cond (eqb b 60 || eqb b 62) 6 7))))))

-- a small letter's capital, and any other byte itself
unfoldable pub upper_of : ℕ → ℕ
upper_of b = cond (ltb b 97) b (cond (leb b 122) (b - 32) b)
