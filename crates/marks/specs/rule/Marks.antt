-- Strings and comments.
use Rattle.std.specs.Prelude.{ℕ, ◌+◌, ◌-◌, Bool, true, false, cond, ltb, leb, eqb}
use Rattle.scan.specs.rule.Text.{Text, stop, sign}
use Rattle.ascii.specs.rule.Class.{upper_of}
use Rattle.scan.specs.rule.Number.{is_digit}
use Rattle.marks.specs.declared.Inside.{Inside}
use Rattle.marks.specs.declared.Inside.TheVariants.{Plain, Opened, Shut, Ell, Pair, Low}
use Rattle.marks.specs.declared.Move.{Move}
use Rattle.marks.specs.declared.Move.TheVariants.{Go, Closed, Wrong}
use Rattle.marks.specs.declared.Skip.{Skip}
use Rattle.marks.specs.declared.Skip.TheVariants.{Past, Unclosed, Bad}

unfoldable pub is_hex : ℕ → Bool
is_hex b = cond (is_digit b) true (cond (ltb (upper_of b) 65) false (leb (upper_of b) 70))

-- a string's next byte b, at place p: {"} {{} {NL} { hex pairs }, else the form that opened at o is bad
unfoldable pub inside_of : Inside → ℕ → ℕ → Move
inside_of Plain b p = cond (eqb b 34) Closed (cond (eqb b 123) (Go (Opened p)) (Go Plain))
inside_of (Opened o) b p =
    cond (eqb b 34) (Go (Shut o))
    (cond (eqb b 123) (Go (Shut o)) (cond (eqb b 78) (Go (Ell o)) (cond (is_hex b) (Go (Low o)) (Wrong o))))
inside_of (Shut o) b p = cond (eqb b 125) (Go Plain) (Wrong o)
inside_of (Ell o) b p = cond (eqb b 76) (Go (Shut o)) (Wrong o)
inside_of (Pair o) b p = cond (eqb b 125) (Go Plain) (cond (is_hex b) (Go (Low o)) (Wrong o))
inside_of (Low o) b p = cond (is_hex b) (Go (Pair o)) (Wrong o)

-- what a move leads to: on with k, closed with z, or bad
abbrev pub moved : Move → (Inside → Skip) → Skip → Skip
moved (Go s) k z = k s
moved Closed k z = z
moved (Wrong o) k z = Bad o

-- a string, from just after its opening quote
unfoldable pub string_of : Inside → Text → Skip
string_of s (stop p) = Unclosed
string_of s (sign p b t) = moved (inside_of s b p) (λ s. string_of s t) (Past (p + 1))

-- where a comment's reader stands: between items, or in a string
pub data Mode : Type 0 where
  between : Mode
  within_string : Inside → Mode

-- a comment that is over when level `base` closes, read at level l
unfoldable pub levels_of : ℕ → ℕ → Mode → Text → Skip
levels_of base l m (stop p) = Unclosed
levels_of base l between (sign p b t) =
    let shut = levels_of base (l - 1) between t in
    let quoted = levels_of base l (within_string Plain) t in
    let deeper = levels_of base (l + 1) between t in
    let on = levels_of base l between t in
    cond (eqb b 62) (cond (eqb l base) (Past (p + 1)) shut)
    (cond (eqb b 34) quoted
    (cond (eqb b 60) (cond (ltb l 32) deeper (Bad p))
    on))
levels_of base l (within_string s) (sign p b t) =
    let unquoted = levels_of base l between t in
    moved (inside_of s b p) (λ s. levels_of base l (within_string s) t) unquoted

unfoldable pub comment_of : ℕ → Text → Skip
comment_of l t = levels_of l l between t
