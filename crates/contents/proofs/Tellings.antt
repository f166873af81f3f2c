-- What the decoder tells, sign by sign.
use mathlib.Core.Path.{◌≡◌, refl, sym, ap, ◌∙◌}
use mathlib.Core.Bool.{Bool, true, false, cond}
use mathlib.Core.List.{List, [], ◌∷◌, ◌++◌}
use Prim.Native.Nat.{ℕ, ◌+◌, ◌/◌, ◌%◌, ◌≤◌, ◌<◌}
use native.Mathlib.Omega.{arith}
use lib.Dec.{ltb}
use lib.ListN.{length, drop_of_length-le}
use Rattle.signs.specs.declared.Sign.{Sign}
use Rattle.signs.specs.declared.Sign.TheVariants as sign
use Rattle.utf.specs.rule.Chars.{encode}
use Rattle.utf.proofs.Strides.{drop_1}
use Rattle.contents.specs.rule.Grammar.{byte_signs, byte_of}
use Rattle.contents.specs.rule.Step.{step_of}
use Rattle.contents.specs.rule.Content.{signs_of, signs_from, going_of, content_signs}
use Rattle.contents.specs.Told.{Hears, part_signs, part_next, part_code, Tells, whole_part, first_part}
use Rattle.contents.specs.Told.{next_part, byte_part}
use Rattle.contents.specs.declared.Going.{Going}
use Rattle.contents.specs.declared.Cursor.{Cursor}
use Rattle.contents.specs.declared.Said.{Said}
use Rattle.contents.specs.declared.Said.TheVariants as said
use Rattle.contents.specs.declared.Heard.{Heard}
use Rattle.contents.specs.declared.Heard.TheVariants as heard
use Rattle.contents.specs.declared.Part.TheVariants as part
use Rattle.contents.specs.declared.Content.{Content}
use Rattle.contents.specs.declared.Step.TheVariants.{More, Over}
use Rattle.contents.proofs.Views.{code_of, step_small}
use Rattle.contents.proofs.Goes.{step_on, signs_next, signs_over}

-- ---- what is heard next
module _ (d : List ℕ) (g h : Going) (s : Said) (e : step_of false d 2 [] g ≡ More h s) where
  pub pass_silent : s ≡ said.Nothing → (l : Bool) → signs_from l d g ≡ signs_from l d h
  unfolding signs_of
  pass_silent f l = signs_next l d g h s e ∙ rw f

  pub hear_break : s ≡ said.Break → Hears d g (heard.Break h)
  unfolding signs_of
  hear_break f = record { signs = λ l. signs_next l d g h s e ∙ rw f; next = (step_on false d 2 [] g h s e).1; small = omega arith }

  pub hear_byte : (b : ℕ) → s ≡ said.Byte b → Hears d g (heard.Byte b h)
  unfolding signs_of
  hear_byte b f = record { signs = λ l. signs_next l d g h s e ∙ rw f; next = (step_on false d 2 [] g h s e).1; small = omega arith }

  pub hear_code : (c : ℕ) → s ≡ said.Code c → Hears d g (heard.Code c h)
  unfolding signs_of
  hear_code c f = record {
    signs = λ l. signs_next l d g h s e
        ∙ rw f;
    next = (step_on false d 2 [] g h s e).1;
    small = omega (arith, ap code_of f, step_small false false d 2 [] g h s e);
  }

pub hear_over : (d : List ℕ) (g : Going) (c : Content) → step_of false d 2 [] g ≡ Over c → Hears d g heard.Over
hear_over d g c e = record { signs = λ l. signs_over l d g c e; next = omega arith; small = omega arith }

-- from a state that says the same
pub hear_same : (d : List ℕ) (g k : Going) (r : Heard) → ((l : Bool) → signs_from l d g ≡ signs_from l d k) → Hears d k r → Hears d g r
hear_same d g k r f x = record { signs = λ l. f l ∙ x.signs l; next = x.next; small = x.small }

pub hear_is : {d : List ℕ} {g : Going} {r t : Heard} → r ≡ t → Hears d g r → Hears d g t
hear_is e x = rw (← e) x

-- ---- signs
pub whole_signs : (l : Bool) (d : List ℕ) (s : Sign) (g : Going) → part_signs l d (whole_part s g) ≡ s ∷ signs_from l d g
unfolding content_signs byte_signs encode
whole_signs l d s g = refl

-- a character has one to four bytes
encode_long : (c : ℕ) → (0 < length (encode c)) × (length (encode c) ≤ 4)
unfolding encode
encode_long c = by (ltb c 128) (ltb c 2048) (ltb c 65536) where
  bytes : Bool → Bool → Bool → List ℕ
  bytes p q r =
      cond p (c ∷ [])
      (cond q ((192 + c / 64) ∷ (128 + c % 64) ∷ [])
      (cond r ((224 + c / 64 / 64) ∷ (128 + c / 64 % 64) ∷ (128 + c % 64) ∷ [])
      ((240 + c / 64 / 64 / 64) ∷ (128 + c / 64 / 64 % 64) ∷ (128 + c / 64 % 64) ∷ (128 + c % 64) ∷ [])))

  by : (p q r : Bool) → (0 < length (bytes p q r)) × (length (bytes p q r) ≤ 4)
  by true q r = (omega arith, omega arith)
  by false true r = (omega arith, omega arith)
  by false false true = (omega arith, omega arith)
  by false false false = (omega arith, omega arith)

pub encode_some : (c : ℕ) → 0 < length (encode c)
encode_some c = (encode_long c).0

pub encode_short : (c : ℕ) → length (encode c) ≤ 4
encode_short c = (encode_long c).1

first_signs : (l : Bool) (d : List ℕ) (c : ℕ) (g : Going) → byte_signs (encode c) ++ signs_from l d g ≡ part_signs l d (first_part c g)
unfolding content_signs byte_signs
first_signs l d c g = ap (λ (t : List ℕ). byte_signs t ++ signs_from l d g) (drop_1 (encode c) 0 (encode_some c))

pub tell_next : (l : Bool) (d : List ℕ) (c : Cursor) → c.said < length (encode c.code) → c.next ≤ length d → c.code < 2097152
    → Tells l d c (next_part c)
unfolding content_signs byte_signs
tell_next l d c h n k = record {
  signs = ap (λ (t : List ℕ). byte_signs t ++ signs_from l d (going_of c))
      (drop_1 (encode c.code) c.said h);
  next = n;
  small = k;
}

over_signs : (l : Bool) (d : List ℕ) (c : Cursor) → length (encode c.code) ≤ c.said → content_signs l d c ≡ signs_from l d (going_of c)
unfolding content_signs byte_signs
over_signs l d c h = rw (drop_of_length-le (encode c.code) h)

module _ (l : Bool) (d : List ℕ) (c : Cursor) (h : length (encode c.code) ≤ c.said) where
  pub tell_break : (g : Going) → Hears d (going_of c) (heard.Break g) → Tells l d c (whole_part sign.Break g)
  tell_break g x = record {
    signs = over_signs l d c h ∙ x.signs l
        ∙ sym (whole_signs l d sign.Break g);
    next = x.next;
    small = omega arith;
  }

  pub tell_code : (b : ℕ) (g : Going) → Hears d (going_of c) (heard.Code b g) → Tells l d c (first_part b g)
  tell_code b g x = record { signs = over_signs l d c h ∙ x.signs l ∙ first_signs l d b g; next = x.next; small = x.small }

  byte_signs_lem : (l : Bool) (b : ℕ) (g : Going) → byte_of l b ++ signs_from l d g ≡ part_signs l d (byte_part l b g)
  byte_signs_lem true b g = first_signs true d b g
  byte_signs_lem false b g = sym (whole_signs false d (sign.Byte b) g)

  byte_next : (l : Bool) (b : ℕ) (g : Going) → part_next (byte_part l b g) ≡ g.next
  byte_next true b g = refl
  byte_next false b g = refl

  pub tell_byte : (b : ℕ) (g : Going) → Hears d (going_of c) (heard.Byte b g) → part_code (byte_part l b g) ≤ 255
      → Tells l d c (byte_part l b g)
  tell_byte b g x s =
      let n = x.next in
      record { signs = over_signs l d c h ∙ x.signs l ∙ byte_signs_lem l b g; next = omega (arith, byte_next l b g); small = omega arith }

  pub tell_over : Hears d (going_of c) heard.Over → Tells l d c part.Over
  tell_over x = record { signs = over_signs l d c h ∙ x.signs l; next = omega arith; small = omega arith }
