-- THE CODE'S BOOKS: numbers are held at 10 ^ 15, as scan holds them.
use Rattle.std.specs.Prelude.{cond, ℕ, ◌+◌, eqb, length, Option, Some, None}
use Rattle.scan.specs.rule.Number.{decimal_of}
use Rattle.scan.specs.Number.{capped}
use Rattle.markup.specs.rule.Bytes.{is_digit}
use Rattle.spans.specs.rule.Heard.{Heard, All, Ill}
use Rattle.spans.specs.rule.Says.{each_char}

-- ---- a number: digits, one or more; what they say is held at 10 ^ 15, which every limit lies below
-- after digits that said v and were k
unfoldable pub figures_after : ℕ → ℕ → Heard → Option (ℕ × ℕ)
figures_after v k (All cs) = cond (each_char is_digit cs)
    (cond (eqb (k + length cs) 0) None (Some (capped (decimal_of v cs), k + length cs)))
    None
figures_after v k Ill = None

abbrev pub figures_of : Heard → Option (ℕ × ℕ)
figures_of h = figures_after 0 0 h
