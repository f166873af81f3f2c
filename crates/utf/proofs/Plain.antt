-- A byte by its bounds is a legal character of its own.
use mathlib.Core.Path.{◌≡◌, refl}
use mathlib.Core.Bool.{Bool, true, false, ◌&&◌, ◌||◌}
use Prim.Native.Nat.{ℕ, ◌<◌}
use native.Mathlib.Omega.{arith}
use mathlib.Core.Logic.{⊎_elim}
use lib.Dec.{ltb, leb, eqb}
use borrow.Author.Tests.{lt-ltb, le-ltb, le-leb, ne_eqb}
use Rattle.below.specs.Below.{lt_or_le}
use Rattle.utf.specs.rule.Chars.{legal_character}
use Rattle.utf.specs.rule.Cut.{plain_of}

whole : (x w : Bool) → ((x && true) || w) ≡ (((x && true) || w) && true)
whole true w = refl
whole false true = refl
whole false false = refl

none : (x : Bool) → ((x && false) || false) ≡ (((x && true) || false) && false)
none true = refl
none false = refl

pub plain_is : (l : Bool) (b : ℕ) → b < 256 → ((leb 32 b && (l || ltb b 128)) || (eqb b 9 || (eqb b 10 || eqb b 13))) ≡ plain_of l b
unfolding plain_of legal_character
plain_is true b h = rw (lt-ltb b 256 h, le-leb b 55295 (omega arith)) (whole (leb 32 b) (eqb b 9 || (eqb b 10 || eqb b 13)))
plain_is false b h =
    ⊎_elim
    (λ k. rw (lt-ltb b 128 k, le-leb b 55295 (omega arith)) (whole (leb 32 b) (eqb b 9 || (eqb b 10 || eqb b 13))))
    (λ k.
    rw (
      le-ltb b 128 k,
      le-leb b 55295 (omega arith),
      ne_eqb b 9 (λ e. omega arith),
      ne_eqb b 10 (λ e. omega arith),
      ne_eqb b 13 (λ e. omega arith),
    )
    (none (leb 32 b)))
    (lt_or_le b 128)
