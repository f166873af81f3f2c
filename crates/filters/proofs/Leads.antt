-- Bytes that say themselves: two texts that begin with some are compared byte by byte.
use mathlib.Core.Path.{◌≡◌, refl, sym, ap, ◌∙◌}
use mathlib.Core.Bool.{Bool, true, false, cond, not, ◌&&◌}
use mathlib.Core.List.{List, [], ◌∷◌, ◌++◌}
use Prim.Native.Nat.{ℕ, ◌+◌, ◌-◌, ◌≤◌, ◌<◌}
use native.Mathlib.Omega.{arith}
use lib.Dec.{eqb, ltb}
use lib.ListN.{length, get_or}
use borrow.Author.Tests.{lt-leb, lt-ltb, ltb-true}
use Rattle.std.proofs.Common.{Option, Some, None}
use Rattle.below.specs.Below.{and_left, and_right}
use Rattle.ascii.specs.rule.Class.{upper_of}
use Rattle.signs.specs.declared.Sign.{Sign}
use Rattle.signs.specs.declared.Sign.TheVariants.{Byte}
use Rattle.utf.specs.rule.Chars.{encode}
use Rattle.contents.specs.rule.Grammar.{byte_signs, byte_of}
use Rattle.contents.specs.rule.Step.{step_of}
use Rattle.contents.specs.rule.Content.{begun, signs_of, signs_from}
use Rattle.contents.specs.declared.Said.TheVariants as said
use Rattle.contents.specs.declared.Step.TheVariants as step
use Rattle.contents.proofs.Goes.{signs_next}
use Rattle.xml_reading.specs.rule.Role.{alike}
use Rattle.filters.specs.Code.{plain_of, Leads}
use Rattle.filters.proofs.Meets.{like_both}

record Plain (b : ℕ) : Type 0 where
  pub low : b < 128
  pub no_mark : eqb b 60 ≡ false
  pub no_refer : eqb b 38 ≡ false
  pub no_bracket : eqb b 93 ≡ false
  pub no_return : eqb b 13 ≡ false

plain : (b : ℕ) → plain_of b ≡ true → Plain b
unfolding plain_of
plain b e =
    let f = and_right (ltb b 128) _ e in
    let g = and_right (not (eqb b 60)) _ f in
    let h = and_right (not (eqb b 38)) _ g in
    record {
      low = ltb-true b 128 (and_left (ltb b 128) _ e);
      no_mark = unless (eqb b 60) (and_left (not (eqb b 60)) _ f);
      no_refer = unless (eqb b 38) (and_left (not (eqb b 38)) _ g);
      no_bracket = unless (eqb b 93) (and_left (not (eqb b 93)) _ h);
      no_return = unless (eqb b 13) (and_right (not (eqb b 93)) _ h);
    } where
      unless : (q : Bool) → not q ≡ true → q ≡ false
      unless true e = sym e
      unless false e = refl

byte_itself : (l : Bool) (b : ℕ) → b < 128 → byte_of l b ≡ Byte b ∷ []
unfolding byte_signs encode
byte_itself true b h = rw (lt-ltb b 128 h)
byte_itself false b h = refl

step_is : (d : List ℕ) (p : ℕ) → p < length d → Plain (get_or d p 0) → step_of false d 2 [] (begun p)
    ≡ step.More (begun (p + 1)) (said.Byte (get_or d p 0))
unfolding step_of
step_is d p h x = rw (lt-leb (length d) p h, x.no_mark, x.no_refer, x.no_bracket, x.no_return)

pub plain_signs : (l : Bool) (d : List ℕ) (p : ℕ) → p < length d → plain_of (get_or d p 0) ≡ true → signs_from l d (begun p)
    ≡ Byte (get_or d p 0)
    ∷ signs_from l d (begun (p + 1))
unfolding signs_of
plain_signs l d p h e =
    let x = plain (get_or d p 0) e in
    signs_next l d (begun p) (begun (p + 1)) (said.Byte (get_or d p 0)) (step_is d p h x)
    ∙ ap (λ (s : List Sign). s ++ signs_from l d (begun (p + 1))) (byte_itself l (get_or d p 0) x.low)

module _ (standard : Bool) (s t : List ℕ) (p q : ℕ) where
  -- so many bytes are shared
  abbrev pub Shares : ℕ → Type 0
  Shares k = (l : Bool) → alike standard (signs_from l s (begun p)) (signs_from l t (begun q))
      ≡ alike standard (signs_from l s (begun (p + k))) (signs_from l t (begun (q + k)))

  pub shares_none : Shares 0
  shares_none l =
      let e : p + 0 ≡ p = omega arith in
      let f : q + 0 ≡ q = omega arith in
      rw (e, f)

  shares_step : (k : ℕ) → p + k < length s → q + k < length t → plain_of (get_or s (p + k) 0) ≡ true → plain_of (get_or t (q + k) 0) ≡ true
      → (b : Bool)
      → b ≡ cond standard (eqb (upper_of (get_or s (p + k) 0)) (upper_of (get_or t (q + k) 0)))
      (eqb (get_or s (p + k) 0) (get_or t (q + k) 0))
      → Shares k → (l : Bool)
      → alike standard (signs_from l s (begun p)) (signs_from l t (begun q))
      ≡ (b && alike standard (signs_from l s (begun (p + k + 1))) (signs_from l t (begun (q + k + 1))))
  shares_step k i j x y b e h l =
      h l
      ∙ rw (plain_signs l s (p + k) i x, plain_signs l t (q + k) j y)
      (like_both standard (Byte (get_or s (p + k) 0)) (Byte (get_or t (q + k) 0)) (signs_from l s (begun (p + k + 1)))
      (signs_from l t (begun (q + k + 1)))
      ∙ ap (λ (z : Bool). z && alike standard (signs_from l s (begun (p + k + 1))) (signs_from l t (begun (q + k + 1)))) (sym e))

  pub shares_more : (k : ℕ) → p + k < length s → q + k < length t → plain_of (get_or s (p + k) 0) ≡ true → plain_of (get_or t (q + k) 0)
      ≡ true
      → true ≡ cond standard (eqb (upper_of (get_or s (p + k) 0)) (upper_of (get_or t (q + k) 0)))
      (eqb (get_or s (p + k) 0) (get_or t (q + k) 0))
      → Shares k → Shares (k + 1)
  shares_more k i j x y e h l =
      let a : p + (k + 1) ≡ p + k + 1 = omega arith in
      let c : q + (k + 1) ≡ q + k + 1 = omega arith in
      shares_step k i j x y true e h l ∙ rw (a, c)

  pub lead_apart : (k : ℕ) → p + k < length s → q + k < length t → plain_of (get_or s (p + k) 0) ≡ true → plain_of (get_or t (q + k) 0)
      ≡ true
      → false ≡ cond standard (eqb (upper_of (get_or s (p + k) 0)) (upper_of (get_or t (q + k) 0)))
      (eqb (get_or s (p + k) 0) (get_or t (q + k) 0))
      → Shares k
      → Leads standard s t p q None
  lead_apart k i j x y e h = record { says = shares_step k i j x y false e h; first = omega arith; second = omega arith }

  pub lead_shared : (k : ℕ) → p ≤ length s → q ≤ length t → k ≤ length s - p → k ≤ length t - q → Shares k
      → Leads standard s t p q (Some k)
  lead_shared k a b i j h = record { says = h; first = i; second = j }

  pub lead_is : {r u : Option ℕ} → r ≡ u → Leads standard s t p q r → Leads standard s t p q u
  lead_is e x = rw (← e) x
