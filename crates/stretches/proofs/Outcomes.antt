-- From what the decoder tells to the promise of the call.
use mathlib.Core.Path.{◌≡◌, refl, sym, ap, ◌∙◌}
use mathlib.Core.Logic.{◌↔◌}
use mathlib.Core.Bool.{Bool, true, false, cond}
use mathlib.Core.List.{List, [], ◌∷◌, ◌++◌}
use Prim.Native.Nat.{ℕ, ◌+◌, ◌≤◌, ◌<◌}
use native.Mathlib.Omega.{arith}
use lib.Dec.{leb, ltb}
use lib.IntN.{ℤ}
use lib.ListN.{length, drop}
use lib.Seq.{length-take-le}
use borrow.Author.Tests.{le-leb, lt-leb, leb-true, lt-ltb, le-ltb, ltb-false}
use Rattle.std.proofs.Common.{Option, Some, None}
use Rattle.below.specs.Below.{and_left, and_right}
use Rattle.signs.specs.declared.Sign.{Sign}
use Rattle.utf.specs.rule.Chars.{encode}
use Rattle.texts.specs.rule.Decode.{cut_off, numbers_of, decode_said, decode_fitting, signs_after}
use Rattle.texts.specs.declared.Decoded.{Decoded}
use Rattle.texts.specs.declared.Decoded.TheVariants as decoded
use Rattle.contents.specs.rule.Grammar.{byte_signs}
use Rattle.contents.specs.rule.Content.{begun, start_of, signs_from, content_signs, is_text}
use Rattle.contents.specs.Told.{part_signs, part_next, part_code, Tells}
use Rattle.contents.specs.declared.Cursor.{Cursor}
use Rattle.contents.specs.declared.Part.{Part}
use Rattle.contents.specs.declared.Part.TheVariants as part
use Rattle.contents.proofs.Exactly.{TextAt, text_exactly, text_says}
use Rattle.stretches.specs.rule.Stretch.{stretch_text, stretch_signs, stretch_as, StretchDecoded}
use Rattle.stretches.specs.Room.{room_of}

-- ---- sign by sign
pub start_signs : (l : Bool) (d : List ℕ) (at : ℕ) → content_signs l d (start_of at) ≡ signs_from l d (begun at)
unfolding content_signs byte_signs encode
start_signs l d at = refl

-- where the decoder begins
pub record Begun (l : Bool) (d : List ℕ) (at : ℕ) (c : Cursor) : Type 0 where
  pub signs : content_signs l d c ≡ signs_from l d (begun at)
  pub next : c.next ≤ length d
  pub small : c.code < 2097152

pub begins : (l : Bool) (d : List ℕ) (at : ℕ) (c : Cursor) → c ≡ start_of at → at ≤ length d → Begun l d at c
begins l d at c e h = rw e (record { signs = start_signs l d at; next = h; small = omega arith })

pub record One (l : Bool) (d : List ℕ) (c : Cursor) (s : Sign) (c' : Cursor) : Type 0 where
  pub split : content_signs l d c ≡ s ∷ content_signs l d c'
  pub next : c'.next ≤ length d
  pub small : c'.code < 2097152

pub told_one : {l : Bool} {d : List ℕ} {c : Cursor} {r : Part} (s : Sign) (c' : Cursor) → Tells l d c r → r ≡ part.One s c' → One l d c s c'
told_one {l} {d} s c' t e =
    let n = t.next in
    let k = t.small in
    record { split = t.signs ∙ ap (part_signs l d) e; next = omega (arith, ap part_next e); small = omega (arith, ap part_code e) }

pub told_over : {l : Bool} {d : List ℕ} {c : Cursor} {r : Part} → Tells l d c r → r ≡ part.Over → content_signs l d c ≡ []
told_over {l} {d} t e = t.signs ∙ ap (part_signs l d) e

pub room_short : (room n : ℕ) → room < n → None ≡ room_of room n
unfolding room_of
room_short room n h = rw (lt-ltb room n h)

pub room_fits : (room n m : ℕ) → n ≤ room → m ≡ n → Some m ≡ room_of room n
unfolding room_of
room_fits room n m h e = rw (le-ltb room n h, e)

-- ---- the promise
module _ (l : Bool) (d : List ℕ) (place long : ℕ) (list : List ℤ) where
  refuses : stretch_text l d place long ≡ false → StretchDecoded l d place long list list decoded.NotText
  unfolding decode_said stretch_as signs_after
  refuses e = record { says = rw e; leaves = rw e }

  pub beyond : length d < place + long → StretchDecoded l d place long list list decoded.NotText
  unfolding stretch_text
  beyond h = refuses (rw (lt-leb (place + long) (length d) h))

  module _ (h : place + long ≤ length d) where
    pub no_text_lem : is_text l (cut_off d place long) place ≡ false → StretchDecoded l d place long list list decoded.NotText
    unfolding stretch_text
    no_text_lem e = refuses (rw (le-leb (place + long) (length d) h, e))

    is_text_lem : is_text l (cut_off d place long) place ≡ true → stretch_text l d place long ≡ true
    unfolding stretch_text
    is_text_lem e = rw (le-leb (place + long) (length d) h, e)

    short_is : (r : Option ℕ) → r ≡ room_of (length list) (length (stretch_signs l d place long)) → r ≡ None
        → ltb (length list) (length (stretch_signs l d place long)) ≡ true
    unfolding room_of
    short_is r e f = by (ltb (length list) (length (stretch_signs l d place long))) (sym f ∙ e) where
      by : (q : Bool) → None ≡ cond q None (Some (length (stretch_signs l d place long))) → q ≡ true
      by true g = refl
      by false g = let z : ◌≡◌ {A = ℕ} 0 1 = cc in absurd (omega arith)

    fits_is : (r : Option ℕ) (n : ℕ) → r ≡ room_of (length list) (length (stretch_signs l d place long)) → r ≡ Some n
        → (ltb (length list) (length (stretch_signs l d place long)) ≡ false) × (n ≡ length (stretch_signs l d place long))
    unfolding room_of
    fits_is r n e f = by (ltb (length list) (length (stretch_signs l d place long))) refl (sym f ∙ e) where
      by : (q : Bool) → ltb (length list) (length (stretch_signs l d place long)) ≡ q → Some n
          ≡ cond q None (Some (length (stretch_signs l d place long)))
          → (ltb (length list) (length (stretch_signs l d place long)) ≡ false) × (n ≡ length (stretch_signs l d place long))
      by true k g = let z : ◌≡◌ {A = ℕ} 0 1 = cc in absurd (omega arith)
      by false k g = (k, cc)

    pub no_room : is_text l (cut_off d place long) place ≡ true → (r : Option ℕ) → r
        ≡ room_of (length list) (length (signs_from l (cut_off d place long) (begun place))) → r ≡ None
        → StretchDecoded l d place long list list decoded.ShortList
    unfolding decode_said stretch_as signs_after decode_fitting stretch_signs
    no_room t r e f = let q = short_is r e f in record { says = rw (is_text_lem t, q); leaves = rw (is_text_lem t, q) }

    pub counted : (r : Option ℕ) (n : ℕ) → r ≡ room_of (length list) (length (signs_from l (cut_off d place long) (begun place))) → r
        ≡ Some n
        → (n ≡ length (signs_from l (cut_off d place long) (begun place))) × (n ≤ length list)
    unfolding stretch_signs
    counted r n e f = let q = fits_is r n e f in let g = ltb-false (length list)
        (length (signs_from l (cut_off d place long) (begun place)))
        q.0 in let k = q.1 in (k, omega arith)

    pub decodes : is_text l (cut_off d place long) place ≡ true → (r : Option ℕ) (n : ℕ) (list' : List ℤ) → r
        ≡ room_of (length list) (length (signs_from l (cut_off d place long) (begun place))) → r ≡ Some n
        → list' ≡ numbers_of (signs_from l (cut_off d place long) (begun place)) ++ drop n list
        → StretchDecoded l d place long list list' (decoded.Signs n)
    unfolding decode_said stretch_as signs_after decode_fitting stretch_signs
    decodes t r n list' e f g =
        let q = fits_is r n e f in
        let k = q.1 in
        record { says = rw (is_text_lem t, q.0, k); leaves = g ∙ rw (is_text_lem t, q.0, k) }

-- ---- in the paper's words
-- a stretch that lies in the definition, is content as of a label, and says these signs
pub record StretchAt (l : Bool) (d : List ℕ) (place long : ℕ) : Type 0 where
  pub inside : place + long ≤ length d
  pub text : TextAt l (cut_off d place long) place

cut_long : (d : List ℕ) (place long : ℕ) → place + long ≤ length d → place ≤ length (cut_off d place long)
cut_long d place long h = omega (arith, length-take-le (place + long) d h)

module _ (l : Bool) (d : List ℕ) (place long : ℕ) where
  sound : stretch_text l d place long ≡ true → StretchAt l d place long
  unfolding stretch_text
  sound e =
      let h = leb-true (place + long) (length d) (and_left (leb (place + long) (length d)) (is_text l (cut_off d place long) place) e) in
      record {
        inside = h;
        text = (text_exactly l (cut_off d place long) place (cut_long d place long h)).0
            (and_right (leb (place + long) (length d)) (is_text l (cut_off d place long) place) e);
      }

  complete : StretchAt l d place long → stretch_text l d place long ≡ true
  unfolding stretch_text
  complete s =
      let h = s.inside in
      rw (le-leb (place + long) (length d) h, (text_exactly l (cut_off d place long) place (cut_long d place long h)).1 s.text)

-- STRETCH: it is no 3 exactly when the stretch lies in the definition and is legal characters that are a text without an unknown attribute
pub stretch_exactly : (l : Bool) (d : List ℕ) (place long : ℕ) → (stretch_text l d place long ≡ true) ↔ StretchAt l d place long
stretch_exactly l d place long = (sound l d place long, complete l d place long)

-- and its signs are those that the text says
pub stretch_says : (l : Bool) (d : List ℕ) (place long : ℕ) → (s : StretchAt l d place long) → stretch_signs l d place long ≡ s.text.signs
unfolding stretch_signs
stretch_says l d place long s = text_says l (cut_off d place long) place (cut_long d place long s.inside) s.text

-- two answers for one stretch and one list are one
pub stretch_once : {l : Bool} {d : List ℕ} {place long : ℕ} {list a b : List ℤ} {r t : Decoded} → StretchDecoded l d place long list a r
    → StretchDecoded l d place long list b t → (decode_said r ≡ decode_said t) × (a ≡ b)
stretch_once x y = (x.says ∙ sym y.says, x.leaves ∙ sym y.leaves)
