-- A string whose closing quote was found.
use mathlib.Core.Path.{◌≡◌, ◌∙◌}
use mathlib.Core.List.{List}
use Prim.Native.Nat.{ℕ, ◌+◌, ◌-◌, ◌<◌}
use native.Mathlib.Omega.{arith}
use lib.ListN.{length, get_or}
use borrow.Author.Tests.{eq-eqb}
use Rattle.scan.specs.rule.Text.{text}
use Rattle.scan.proofs.Texts.{from_text, text_kept, kept_byte}
use Rattle.marks.specs.declared.Inside.TheVariants.{Plain}
use Rattle.marks.specs.declared.Skip.TheVariants.{Past}
use Rattle.marks.specs.rule.Marks.{inside_of, string_of}
use Rattle.marks.proofs.Levels.{ahead, string_ahead}
use Rattle.tokens.specs.Token.{string_in, closed_at}

module _ (d : List ℕ) (n m : ℕ) (h : n < length d) (q : get_or d n 0 ≡ 34) (l : m < length d) (z : get_or d m 0 ≡ 34)
    (e : string_of Plain (text d (n + 1)) ≡ string_of Plain (text d m)) where
  closes : string_of Plain (text d (n + 1)) ≡ Past (m + 1)
  unfolding string_of inside_of
  closes = e ∙ rw (text_kept d m l (kept_byte (get_or d m 0) (omega arith)), z)

  pub string_closing : (n < m) × (get_or d n 0 ≡ 34) × (string_in (text d n) ≡ closed_at n m)
  unfolding string_in
  string_closing =
      let a = ahead (string_ahead d (from_text d (n + 1)) Plain) closes in
      let k : m + 1 - (n + 1) - 1 ≡ m - n - 1 = omega arith in
      (omega arith, q, rw (text_kept d n h (kept_byte (get_or d n 0) (omega arith)), eq-eqb (get_or d n 0) 34 q, closes, k))
