-- The signs that a string says, a byte or a break each. 34 is a quote, 123 and 125 are { and }, 78 and 76 are
-- N and L, 60 and 62 are < and >.
use Rattle.std.specs.Prelude.{cond, List, [], ◌∷◌, ◌++◌, ℕ, ◌+◌, ◌*◌, ◌-◌, eqb}
use Rattle.signs.specs.declared.Sign.{Sign}
use Rattle.signs.specs.declared.Sign.TheVariants.{Byte, Break}
use Rattle.scan.specs.rule.Text.{Text, stop, sign}
use Rattle.ascii.specs.rule.Class.{upper_of}
use Rattle.scan.specs.rule.Number.{is_digit}
use Rattle.marks.specs.rule.Marks.{inside_of}
use Rattle.marks.specs.declared.Inside.{Inside}
use Rattle.marks.specs.declared.Inside.TheVariants.{Plain, Opened, Shut, Ell, Pair, Low}
use Rattle.marks.specs.declared.Move.{Move}
use Rattle.marks.specs.declared.Move.TheVariants.{Go, Closed, Wrong}

-- the value of a hex digit, and of a pair
abbrev pub hex_of : ℕ → ℕ
hex_of b = cond (is_digit b) (b - 48) (upper_of b - 55)

abbrev pub hex_pair : ℕ → ℕ → ℕ
hex_pair a b = hex_of a * 16 + hex_of b

-- the sign that a string's byte b ends, where b follows a: none or one; {NL} is a break, and no other form has one
unfoldable pub gives_of : Inside → ℕ → ℕ → List Sign
gives_of Plain a b = cond (eqb b 123) [] (Byte b ∷ [])
gives_of (Opened o) a b = cond (eqb b 34) (Byte b ∷ []) (cond (eqb b 123) (Byte b ∷ []) [])
gives_of (Shut o) a b = []
gives_of (Ell o) a b = Break ∷ []
gives_of (Pair o) a b = []
gives_of (Low o) a b = Byte (hex_pair a b) ∷ []

abbrev pub gone : Move → List Sign → (Inside → List Sign) → List Sign
gone (Go s) m k = m ++ k s
gone Closed m k = []
gone (Wrong o) m k = []

-- the signs that a string says, read on from s, where a was the byte before
unfoldable pub decode_of : Inside → ℕ → Text → List Sign
decode_of s a (stop p) = []
decode_of s a (sign p b t) = gone (inside_of s b p) (gives_of s a b) (λ s. decode_of s b t)
