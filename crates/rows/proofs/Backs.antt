-- What a call of `cell_of` puts into an array.
use mathlib.Core.Path.{◌≡◌, ◌∙◌}
use Prim.Native.Nat.{ℕ, ◌<◌, ◌^◌}
use borrow.Author.Rules.{sfits_of}
use lib.IntN.{ℤ, pos}
use lib.Signed.{mag}
use mir.Facts.{to_z-of_z}
use mir.Syntax.{w64}
use mir.Val.{to_z, of_z}

pub back : {z : ℤ} {n : ℕ} → mag z < 2 ^ 63 → z ≡ pos n → to_z w64 (of_z w64 z) ≡ pos n
back h e = to_z-of_z (sfits_of {w = w64} h) ∙ e
