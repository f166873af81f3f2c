-- From what a stretch measures to the promise of the call.
use mathlib.Core.Path.{◌≡◌, refl, ◌∙◌, sym}
use mathlib.Core.Bool.{Bool, true, false, cond}
use mathlib.Core.List.{List, ◌++◌}
use Prim.Native.Nat.{ℕ, ◌+◌, ◌≤◌, ◌<◌}
use native.Mathlib.Omega.{arith}
use lib.Dec.{ltb}
use lib.IntN.{ℤ}
use lib.ListN.{length, drop}
use borrow.Author.Tests.{lt-leb, lt-ltb, le-ltb}
use Rattle.scan.specs.rule.Text.{text}
use Rattle.marks.specs.declared.Inside.TheVariants.{Plain}
use Rattle.marks.specs.rule.Spelling.{decode_of}
use Rattle.std.specs.Prelude.{Option, Some, None}
use Rattle.texts.specs.declared.Decoded.TheVariants as decoded
use Rattle.texts.specs.rule.Decode.{cut_off, inside_text, signs_at, numbers_of, decode_said, decode_fitting, decoded_as, signs_after}
use Rattle.texts.specs.rule.Decode.{TextDecoded}
use Rattle.texts.specs.Measured.{measure_from}
use Rattle.texts.proofs.Measures.{measure_is}

module _ (d : List ℕ) (place long : ℕ) (list : List ℤ) where
  -- no text: 3, and the list is kept
  refuses : inside_text d place long ≡ false → TextDecoded d place long list list decoded.NotText
  unfolding decode_said decoded_as signs_after
  refuses e = record { says = rw e; leaves = rw e }

  pub beyond : length d < place + long → TextDecoded d place long list list decoded.NotText
  unfolding inside_text
  beyond h = refuses (rw (lt-leb (place + long) (length d) h))

  module _ (h : place + long ≤ length d) {r : Option ℕ} (e : r ≡ measure_from Plain 0 (text (cut_off d place long) place)) where
    not_text : (x : Bool) → inside_text d place long ≡ x → cond x (Some (length (signs_at d place long))) None ≡ None
        → inside_text d place long ≡ false
    not_text true f g = let z : ◌≡◌ {A = ℕ} 0 1 = cc in absurd (omega arith)
    not_text false f g = f

    pub no_text_lem : r ≡ None → TextDecoded d place long list list decoded.NotText
    no_text_lem f = refuses (not_text (inside_text d place long) refl (sym (measure_is d place long h) ∙ sym e ∙ f))

    is_text_lem : (n : ℕ) (x : Bool) → inside_text d place long ≡ x → cond x (Some (length (signs_at d place long))) None ≡ Some n
        → (inside_text d place long ≡ true) × (n ≡ length (signs_at d place long))
    is_text_lem n true f g = (f, cc)
    is_text_lem n false f g = let z : ◌≡◌ {A = ℕ} 0 1 = cc in absurd (omega arith)

    measures : {n : ℕ} → r ≡ Some n → (inside_text d place long ≡ true) × (n ≡ length (signs_at d place long))
    measures {n} f = is_text_lem n (inside_text d place long) refl (sym (measure_is d place long h) ∙ sym e ∙ f)

    pub counted : {n : ℕ} → r ≡ Some n → n ≡ length (decode_of Plain 0 (text (cut_off d place long) place))
    unfolding signs_at
    counted f = (measures f).1

    -- a text that the list has no room for: 25, and the list is kept
    pub no_room : {n : ℕ} → r ≡ Some n → length list < n → TextDecoded d place long list list decoded.ShortList
    unfolding decode_said decoded_as signs_after decode_fitting
    no_room f g =
        let m = measures f in
        let l : ltb (length list) (length (signs_at d place long)) ≡ true = lt-ltb _ _ (rw m.1 at g) in
        record { says = rw (m.0, l); leaves = rw (m.0, l) }

    -- a text that it has room for
    pub decodes : {n : ℕ} {list' : List ℤ} → r ≡ Some n → n ≤ length list → list'
        ≡ numbers_of (decode_of Plain 0 (text (cut_off d place long) place)) ++ drop n list
        → TextDecoded d place long list list' (decoded.Signs n)
    unfolding decode_said decoded_as signs_after decode_fitting signs_at
    decodes f g q =
        let m = measures f in
        let l : ltb (length list) (length (signs_at d place long)) ≡ false = le-ltb _ _ (rw m.1 at g) in
        record { says = rw (m.0, l, m.1); leaves = q ∙ rw (m.0, l, m.1) }
