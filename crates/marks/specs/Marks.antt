-- What follows from rule/Marks.antt, and what the code keeps.
use Rattle.std.specs.Prelude.{ℕ, ◌+◌, cond, ltb, eqb}
use Rattle.scan.specs.rule.Text.{Text}
use Rattle.marks.specs.declared.Inside.TheVariants.{Plain}
use Rattle.marks.specs.declared.Skip.{Skip}
use Rattle.marks.specs.declared.Skip.TheVariants.{Past, Unclosed, Bad}
use Rattle.marks.specs.rule.Marks.{string_of, comment_of}

-- one item of a comment of level l, a string, a comment or a byte, that starts with the byte b at p, and t after it
unfoldable pub item_of : ℕ → ℕ → ℕ → Text → Skip
item_of l p b t =
    cond (eqb b 34) (string_of Plain t)
    (cond (eqb b 60) (cond (ltb l 32) (comment_of (l + 1) t) (Bad p)) (Past (p + 1)))

-- what follows a part that was skipped
abbrev pub after : Skip → (ℕ → Skip) → Skip
after (Past n) k = k n
after Unclosed k = Unclosed
after (Bad p) k = Bad p
