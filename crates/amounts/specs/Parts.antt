-- THE CODE'S BOOKS: what each reader makes of the characters that are left, if they are all that is left.
use Rattle.std.specs.Prelude.{◌≡◌, List, [], ◌∷◌, ℕ, ◌≤◌, ◌<◌, length, Option, Some, None}
use Rattle.scan.specs.rule.Number.{decimal_of}
use Rattle.scan.specs.Number.{capped}
use Rattle.scan.specs.Order.{stripped}
use Rattle.scan.specs.declared.Digits.{Digits}
use Rattle.spans.specs.rule.Heard.{heard, All}
use Rattle.tokens.specs.declared.Mark.{Mark}
use Rattle.reading.specs.rule.Token.{leading, after_point, begins, without}
use Rattle.amounts.specs.rule.Said.{digits_in}

-- a character that may stand first
abbrev pub Marked : List ℕ → ℕ → ℕ → Mark → Type 0
Marked s at c m = (cs : List ℕ) → heard s at ≡ All cs → (m.there ≡ begins c cs) × (heard s m.next ≡ All (without c cs))

-- digits behind v
abbrev pub Ran : List ℕ → ℕ → ℕ → Digits → Type 0
Ran s at v d =
    (cs : List ℕ)
    → heard s at ≡ All cs
    → (d.size ≡ capped (decimal_of v (leading cs))) × (d.count ≡ length (leading cs)) × (heard s d.next ≡ All (after_point cs))

-- the first digit of all, with the place after it
abbrev pub Ahead : ℕ → ℕ → Option (ℕ × ℕ) → Type 0
Ahead at end d = (c n : ℕ) → d ≡ Some (c, n) → (at < n) × (n ≤ end)

pub data Found (s : List ℕ) (cs : List ℕ) : Option (ℕ × ℕ) → Type 0 where
  one : {c n : ℕ} {rest : List ℕ} → heard s n ≡ All rest → digits_in cs ≡ c ∷ digits_in rest → Found s cs (Some (c, n))
  nothing : digits_in cs ≡ [] → Found s cs None

abbrev pub Picked : List ℕ → ℕ → Option (ℕ × ℕ) → Type 0
Picked s at d = (cs : List ℕ) → heard s at ≡ All cs → Found s cs d

-- all digits but the zeros in front
pub record Left (s : List ℕ) (n : ℕ) (digits : List ℕ) : Type 0 where
  pub rest : List ℕ
  pub left : heard s n ≡ All rest
  pub same : digits_in rest ≡ digits

abbrev pub Stripped : List ℕ → ℕ → Type 0
Stripped s n = (cs : List ℕ) → heard s 0 ≡ All cs → Left s n (stripped (digits_in cs))
