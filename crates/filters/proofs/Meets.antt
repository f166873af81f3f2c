-- Two decoders side by side.
use mathlib.Core.Path.{◌≡◌, refl, ap, ◌∙◌}
use mathlib.Core.Bool.{Bool, true, false, ◌&&◌}
use mathlib.Core.List.{List, [], ◌∷◌}
use Prim.Native.Nat.{ℕ}
use native.Mathlib.Omega.{arith}
use lib.ListN.{length}
use Rattle.signs.specs.declared.Sign.{Sign}
use Rattle.names.specs.rule.Standard.{agree}
use Rattle.contents.specs.rule.Content.{content_signs}
use Rattle.contents.specs.Told.{Tells}
use Rattle.contents.specs.declared.Cursor.{Cursor}
use Rattle.contents.specs.declared.Part.{Part}
use Rattle.contents.specs.declared.Part.TheVariants as part
use Rattle.stretches.proofs.Outcomes.{told_one, told_over}
use Rattle.xml_reading.specs.rule.Role.{same_signs, alike}
use Rattle.filters.specs.Code.{like_of, Meets}
use Rattle.filters.specs.declared.Met.{Met}
use Rattle.filters.specs.declared.Met.TheVariants as met

-- ---- lists of signs
pub like_both : (standard : Bool) (x y : Sign) (s t : List Sign) → alike standard (x ∷ s) (y ∷ t)
    ≡ (like_of standard x y && alike standard s t)
unfolding alike agree same_signs
like_both true x y s t = refl
like_both false x y s t = refl

pub like_first : (standard : Bool) (x : Sign) (s : List Sign) → alike standard (x ∷ s) [] ≡ false
unfolding alike agree same_signs
like_first true x s = refl
like_first false x s = refl

pub like_second : (standard : Bool) (y : Sign) (t : List Sign) → alike standard [] (y ∷ t) ≡ false
unfolding alike agree same_signs
like_second true y t = refl
like_second false y t = refl

like_none : (standard : Bool) → alike standard [] [] ≡ true
unfolding alike agree same_signs
like_none true = refl
like_none false = refl

module _ (latin standard : Bool) (s t : List ℕ) (a b : Cursor) {u v : Part} (f : Tells latin s a u) (g : Tells latin t b v) where
  pub meets_on : (x y : Sign) (m n : Cursor) → u ≡ part.One x m → v ≡ part.One y n → like_of standard x y ≡ true
      → Meets latin standard s t a b (met.On m n)
  meets_on x y m n e h q =
      let i = told_one x m f e in
      let j = told_one y n g h in
      record {
        says = rw (i.split, j.split) (like_both standard x y (content_signs latin s m) (content_signs latin t n) ∙ rw q);
        ahead = record {
          first = record { next = i.next; small = i.small };
          second = record { next = j.next; small = j.small };
          less = omega (arith, ap length i.split);
        };
      }

  pub meets_apart : (x y : Sign) (m n : Cursor) → u ≡ part.One x m → v ≡ part.One y n → like_of standard x y ≡ false
      → Meets latin standard s t a b (met.Over false)
  meets_apart x y m n e h q =
      let i = told_one x m f e in
      let j = told_one y n g h in
      record {
        says = rw (i.split, j.split) (like_both standard x y (content_signs latin s m) (content_signs latin t n) ∙ rw q);
        ahead = tt;
      }

  pub meets_first : (x : Sign) (m : Cursor) → u ≡ part.One x m → v ≡ part.Over → Meets latin standard s t a b (met.Over false)
  meets_first x m e h =
      let i = told_one x m f e in
      record { says = rw (i.split, told_over g h) (like_first standard x (content_signs latin s m)); ahead = tt }

  pub meets_second : (y : Sign) (n : Cursor) → u ≡ part.Over → v ≡ part.One y n → Meets latin standard s t a b (met.Over false)
  meets_second y n e h =
      let j = told_one y n g h in
      record { says = rw (told_over f e, j.split) (like_second standard y (content_signs latin t n)); ahead = tt }

  pub meets_none : u ≡ part.Over → v ≡ part.Over → Meets latin standard s t a b (met.Over true)
  meets_none e h = record { says = rw (told_over f e, told_over g h) (like_none standard); ahead = tt }

-- what was met, by its answer
pub met_is : {latin standard : Bool} {s t : List ℕ} {a b : Cursor} {r q : Met} → r ≡ q → Meets latin standard s t a b r
    → Meets latin standard s t a b q
met_is e x = rw (← e) x
