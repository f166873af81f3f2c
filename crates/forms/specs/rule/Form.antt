-- "Values are exact: no trimming, case counts. A value of wrong form (a number with a letter, an unknown type, use or option, an ident of
-- two letters, empty) is 2 at the value's first byte."
use Rattle.std.specs.Prelude.{Bool, true, cond, List, [], ◌∷◌, ℕ, ltb, eqb}
use Rattle.spans.specs.rule.Heard.{Heard}
use Rattle.spans.specs.rule.Says.{heard_count, heard_word}

-- single
abbrev pub single : List ℕ
single = 115 ∷ 105 ∷ 110 ∷ 103 ∷ 108 ∷ 101 ∷ []

-- multiple
abbrev pub multiple : List ℕ
multiple = 109 ∷ 117 ∷ 108 ∷ 116 ∷ 105 ∷ 112 ∷ 108 ∷ 101 ∷ []

-- quantity
abbrev pub quantity : List ℕ
quantity = 113 ∷ 117 ∷ 97 ∷ 110 ∷ 116 ∷ 105 ∷ 116 ∷ 121 ∷ []

-- character
abbrev pub character : List ℕ
character = 99 ∷ 104 ∷ 97 ∷ 114 ∷ 97 ∷ 99 ∷ 116 ∷ 101 ∷ 114 ∷ []

-- logical
abbrev pub logical : List ℕ
logical = 108 ∷ 111 ∷ 103 ∷ 105 ∷ 99 ∷ 97 ∷ 108 ∷ []

-- serial
abbrev pub serial : List ℕ
serial = 115 ∷ 101 ∷ 114 ∷ 105 ∷ 97 ∷ 108 ∷ []

-- weight
abbrev pub weight : List ℕ
weight = 119 ∷ 101 ∷ 105 ∷ 103 ∷ 104 ∷ 116 ∷ []

-- standardnames
abbrev pub standardnames : List ℕ
standardnames = 115 ∷ 116 ∷ 97 ∷ 110 ∷ 100 ∷ 97 ∷ 114 ∷ 100 ∷ 110 ∷ 97 ∷ 109 ∷ 101 ∷ 115 ∷ []

-- the types, by the numbers that the table has
unfoldable pub form_kind : Heard → ℕ
form_kind h =
    cond (heard_word single h) 1
    (cond (heard_word multiple h) 2
    (cond (heard_word quantity h) 3
    (cond (heard_word character h) 4
    (cond (heard_word logical h) 5 0))))

unfoldable pub use_of : Heard → ℕ
use_of h = cond (heard_word serial h) 1 (cond (heard_word weight h) 2 0)

-- the forms: 0 any, 1 digits, 2 digits, points, + and -, 3 one letter, 4 a type, 5 a use, 6 the option
unfoldable pub fits_of : ℕ → Heard → Bool
fits_of form h =
    cond (eqb form 0) true
    (cond (eqb form 1) (ltb 0 (heard_count 1 h))
    (cond (eqb form 2) (ltb 0 (heard_count 2 h))
    (cond (eqb form 3) (eqb (heard_count 3 h) 1)
    (cond (eqb form 4) (ltb 0 (form_kind h))
    (cond (eqb form 5) (ltb 0 (use_of h)) (heard_word standardnames h))))))
