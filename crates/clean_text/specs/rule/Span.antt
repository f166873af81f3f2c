-- "Numbers as they stand", "texts carried over with dropped bytes removed": the bytes of a stretch of the file that a reader keeps.
use Rattle.std.specs.Prelude.{cond, List, [], ◌∷◌, ℕ, leb}
use Rattle.scan.specs.rule.Text.{Text, stop, sign, text}

-- the bytes of a text that stand before the place `end`
unfoldable pub up_to : ℕ → Text → List ℕ
up_to end (stop p) = []
up_to end (sign p b t) = let rest = up_to end t in cond (leb end p) [] (b ∷ rest)

-- the kept bytes of the file d from a place to before another
unfoldable pub span_of : List ℕ → ℕ → ℕ → List ℕ
span_of d a end = up_to end (text d a)
