-- A keyword: its letters in either case, dropped bytes between them. What follows it is the next token, with no space needed.
use Rattle.std.specs.Prelude.{ℕ, ◌+◌, cond, List, [], ◌∷◌, eqb}
use Rattle.ascii.specs.rule.Class.{upper_of}
use Rattle.scan.specs.rule.Text.{Text, stop, sign, text}
use Rattle.scan.specs.declared.Word.{Word}
use Rattle.scan.specs.declared.Word.TheVariants.{Matched, Not}

-- the keyword's rest w at place `at`
unfoldable pub word_of : ℕ → Text → List ℕ → Word
word_of at t [] = Matched at
word_of at (stop p) (x ∷ w) = Not
word_of at (sign p b t) (x ∷ w) = cond (eqb (upper_of b) x) (word_of (p + 1) t w) Not

unfoldable pub word_at : List ℕ → ℕ → List ℕ → Word
word_at d at w = word_of at (text d at) w
