-- A name's plain bytes: a letter or a digit says itself, a quote ends the name.
use mathlib.Core.Path.{◌≡◌, refl, ap}
use mathlib.Core.Bool.{Bool, true, false, ◌&&◌, ◌||◌}
use mathlib.Core.List.{List, [], ◌∷◌}
use Prim.Native.Nat.{ℕ, ◌+◌, ◌<◌}
use native.Mathlib.Omega.{arith}
use lib.Dec.{eqb, ltb}
use lib.ListN.{length, get_or}
use borrow.Author.Tests.{ne_eqb}
use Rattle.signs.specs.declared.Sign.TheVariants.{Byte}
use Rattle.ascii.specs.rule.Class.{class_of}
use Rattle.scan.specs.rule.Text.{Text, stop, sign, text}
use Rattle.scan.proofs.Texts.{text_kept, kept_byte}
use Rattle.marks.specs.declared.Inside.TheVariants.{Plain}
use Rattle.marks.specs.rule.Marks.{inside_of}
use Rattle.marks.specs.rule.Spelling.{gives_of, decode_of}
use Rattle.names.specs.Name.{fits}

-- a byte of another class fits nowhere
misfit : (q : Bool) → (false || (q && false)) ≡ true → ⊥
misfit true e = let z : ◌≡◌ {A = ℕ} 0 1 = cc in omega arith
misfit false e = let z : ◌≡◌ {A = ℕ} 0 1 = cc in omega arith

module _ (c b : ℕ) (f : fits c b ≡ true) where
  unfit : (k : ℕ) → class_of b ≡ k → eqb k 3 ≡ false → eqb k 2 ≡ false → ⊥
  unfolding fits
  unfit k e g h = misfit (ltb 0 c) (rw (e, g, h) at f)

  not_dropped : class_of b ≡ 0 → ⊥
  not_dropped e = unfit 0 e refl refl

  not_brace : b ≡ 123 → ⊥
  unfolding class_of
  not_brace e = unfit 5 (rw e) refl refl

-- in plain text it does not matter which byte stood before
plain_before : (a : ℕ) (t : Text) → decode_of Plain a t ≡ decode_of Plain 0 t
unfolding decode_of gives_of
plain_before a (stop p) = refl
plain_before a (sign p b t) = refl

module _ (d : List ℕ) (n : ℕ) (h : n < length d) where
  pub plain_over : get_or d n 0 ≡ 34 → decode_of Plain 0 (text d n) ≡ []
  unfolding decode_of gives_of inside_of
  plain_over e = rw (text_kept d n h (kept_byte (get_or d n 0) (omega arith)), e)

  pub plain_sign : (c : ℕ) → fits c (get_or d n 0) ≡ true → (get_or d n 0 ≡ 34 → ⊥) → decode_of Plain 0 (text d n) ≡ Byte (get_or d n 0)
      ∷ decode_of Plain 0 (text d (n + 1))
  unfolding decode_of gives_of inside_of
  plain_sign c f q =
      rw (
        text_kept d n h (not_dropped c (get_or d n 0) f),
        ne_eqb (get_or d n 0) 34 q,
        ne_eqb (get_or d n 0) 123 (not_brace c (get_or d n 0) f),
      )
      (ap (λ l. Byte (get_or d n 0) ∷ l) (plain_before (get_or d n 0) (text d (n + 1))))
