-- THE CODE'S BOOKS: = and a value behind a word of the declaration, read in one.
use Rattle.std.specs.Prelude.{true, false, cond, List, ℕ, ◌+◌, leb, eqb, length, get_or}
use Rattle.markup.specs.declared.Skip.{Skip}
use Rattle.markup.specs.declared.Skip.TheVariants.{Past, Broken}
use Rattle.prologs.specs.rule.Form.{ISO-8859-1, standalone}
use Rattle.prologs.specs.rule.Told.{quoted_string, alike_of, blanks, tell_of}
use Rattle.prologs.specs.declared.Prolog.{Prolog}
use Rattle.prologs.specs.declared.Prolog.TheVariants.{Fault}
use Rattle.prologs.specs.declared.Pair.{Pair}
use Rattle.prologs.specs.declared.Pair.TheVariants.{Is, Off}

abbrev pub on_quoted : ℕ → Skip → Pair
on_quoted m (Past k) = Is (m + 1) k
on_quoted m (Broken p) = Off p

unfoldable pub pair_of : List ℕ → ℕ → ℕ → Pair
pair_of d o p =
    let n = blanks d p in
    let m = blanks d (n + 1) in
    cond (leb (length d) n) (Off o) (cond (eqb (get_or d n 0) 61) (on_quoted m (quoted_string true false false d o m)) (Off n))

-- a value from v to k that is not UTF-8
unfoldable pub latin_of : List ℕ → ℕ → ℕ → ℕ → Prolog
latin_of d o v k = cond (alike_of d v k ISO-8859-1) (tell_of false d o standalone true (k + 1)) (Fault 50 v)
