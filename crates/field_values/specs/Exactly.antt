-- THE VALUE OF A FIELD, EXACTLY: what is found (rule/Read.antt) is the value that the field is (rule/Value.antt), both ways; a field is at
-- most one value.
use Rattle.std.specs.Prelude.{◌≡◌, ◌↔◌, Bool, List, [], ◌∷◌, ℕ, ◌^◌, ◌≤◌, ◌<◌, ltb, ℤ, length}
use Rattle.std.proofs.Math.Path.{refl, subst}
use Rattle.std.proofs.Common.{sym, ap, ◌∙◌, arith}
use Rattle.std.proofs.Math.Bool.{true, false, cond}
use Rattle.std.proofs.Math.Nat.{pow-le-pow_right}
use Rattle.below.specs.Below.{holds_not}
use Rattle.layout.specs.declared.Row.{Row}
use Rattle.layout.specs.declared.Kind.{Kind}
use Rattle.layout.specs.declared.Kind.TheVariants.{Single, Multiple, Quantity, Character, Logical}
use Rattle.layout.specs.declared.Spread.TheVariants.{Bits, Fields}
use Rattle.widths.specs.Width.{size_small}
use Rattle.fields.specs.rule.Legal.{legal}
use Rattle.fields.specs.rule.Field.{Value, missing, number, members, text, truth, Field, holds, illegal, set_fits, text_fits}
use Rattle.fields.specs.rule.Row.{Fit, fits, other_type, not_legal, too_many, fits_by, fit_of}
use Rattle.fields.specs.Facts.{RowFacts}
use Rattle.fieldlaws.specs.BackLaws.{Limits, limits, fit_legal, fit_set, bits_members, spread_members, illegal_holds, held}
use Rattle.fieldlaws.specs.TextLaws.{fitting}
use Rattle.value_fields.specs.rule.Values.{export_value, export_number, set_text}
use Rattle.widths.specs.rule.Width.{decimals_of}
use Rattle.field_values.specs.rule.Value.{zeros, Left, whole, cut, unpointed, IsValue}
use Rattle.field_values.specs.rule.Read.{number_guess, set_guess, truth_guess, some_guess, guess_of, left_of, is_fits, tried_as, value_from}
use Rattle.field_values.specs.Left.{left_is, is_left}
use Rattle.field_values.specs.Guess.{no_nil, number_left, AreCodes, rising_codes, set_back, set_filled, rising_few}

pub no_other : {A : Type 0} → other_type ≡ fits → A
no_other e = let z : ◌≡◌ {A = ℕ} 0 1 = cc in absurd (omega arith)

-- where no decimals are cut, all is left
pub left_all : {s f : List ℕ} → Left 0 s f → s ≡ f
left_all (whole e) = e
left_all (cut j h e) = absurd (omega arith)
left_all (unpointed h e) = absurd (omega arith)

nothing_left : (k : ℕ) (f : List ℕ) → Left k [] f → f ≡ []
unfolding zeros
nothing_left k f (whole e) = sym e
nothing_left k [] (cut j h e) = refl
nothing_left k (b ∷ f) (cut j h e) = no_nil (sym e)
nothing_left k [] (unpointed h e) = no_nil (sym e)
nothing_left k (b ∷ f) (unpointed h e) = no_nil (sym e)

guess_some : (k : Kind) {f : List ℕ} (b : ℕ) (s : List ℕ) → f ≡ b ∷ s → guess_of k f ≡ some_guess k f
unfolding guess_of
guess_some k b s e = rw e

guess_number : (k : Kind) (d : ℕ) → some_guess k ≡ (λ f. number (number_guess d f)) → (t : List ℤ) (v : ℕ) (r : Row) → Limits k t v r
    → (z : ℤ) → legal t v r z ≡ true
    → (f : List ℕ) → Left d (export_number d z) f → guess_of k f ≡ number z
guess_number k d g t v r l z e f w =
    let n = number_left d z f (size_small k z (l.least z e) (l.most z e)) w in
    guess_some k n.first n.others n.is ∙ ap (λ (h : List ℕ → Value). h f) g ∙ ap number n.guess

guess_set : (k : Kind) → some_guess k ≡ (λ f. members (set_guess f)) → (ms : List ℤ) → AreCodes ms → (f : List ℕ) → set_text ms ≡ f
    → guess_of k f ≡ members ms
guess_set k g ms c f e =
    let n = set_filled ms c in
    guess_some k n.first n.others (sym e ∙ n.is) ∙ ap (λ (h : List ℕ → Value). h f) g
    ∙ ap members (ap set_guess (sym e) ∙ set_back ms c)

-- the sets of a row are codes, and few
pub bits_codes : (t : List ℤ) (v : ℕ) (r : Row) → Limits (Multiple Bits) t v r → (ms : List ℤ) → set_fits (legal t v r) ms ≡ true
    → AreCodes ms × (length ms ≤ 9999)
bits_codes t v r l ms e =
    let m = bits_members t v r l ms e in
    let h = l.kind.few in
    (rising_codes (omega arith) m, omega (arith, rising_few m))

pub spread_codes : (t : List ℤ) (v : ℕ) (r : Row) (n b : ℕ) → Limits (Multiple (Fields n b)) t v r → (ms : List ℤ)
    → set_fits (legal t v r) ms ≡ true
    → AreCodes ms × (length ms ≤ 9999)
spread_codes t v r n b l ms e =
    let m = spread_members t v r n b l ms e in
    let q : 10 ^ r.width ≤ 10 ^ 4 = pow-le-pow_right {n = 10} (omega arith) l.kind.few in
    (rising_codes (omega arith) m, omega (arith, rising_few m))

guess_text : (f s : List ℕ) → 0 < length s → s ≡ f → guess_of Character f ≡ text s
unfolding guess_of some_guess
guess_text f [] h e = absurd (omega arith)
guess_text f (b ∷ s) h e = rw (← e)

guess_truth : (b : Bool) (f : List ℕ) → cond b 49 48 ∷ [] ≡ f → guess_of Logical f ≡ truth b
unfolding guess_of some_guess truth_guess
guess_truth true f e = rw (← e)
guess_truth false f e = rw (← e)

-- THE GUESS is the value of every field that is one
pub guess_value : (k : Kind) (t : List ℤ) (v : ℕ) (r : Row) → Limits k t v r → (x : Value) → fits_by k t v r x ≡ fits
    → (f : List ℕ) → Left (decimals_of k) (export_value (decimals_of k) x) f → guess_of k f ≡ x
unfolding fits_by export_value decimals_of guess_of some_guess
guess_value k t v r l missing e f w = rw (nothing_left _ f w)
guess_value Single t v r l (number z) e f w = guess_number Single 0 refl t v r l z (fit_legal (legal t v r z) e) f w
guess_value (Quantity g) t v r l (number z) e f w = guess_number (Quantity g) g.decimals refl t v r l z (fit_legal (legal t v r z) e) f w
guess_value (Multiple s) t v r l (number z) e f w = no_other e
guess_value Character t v r l (number z) e f w = no_other e
guess_value Logical t v r l (number z) e f w = no_other e
guess_value (Multiple Bits) t v r l (members ms) e f w =
    guess_set (Multiple Bits) refl ms (bits_codes t v r l ms (fit_legal (set_fits (legal t v r) ms) e)).0 f (left_all w)
guess_value (Multiple (Fields n b)) t v r l (members ms) e f w =
    guess_set (Multiple (Fields n b)) refl ms (spread_codes t v r n b l ms (fit_set (set_fits (legal t v r) ms) (ltb n (length ms)) e).0).0
    f (left_all w)
guess_value Single t v r l (members ms) e f w = no_other e
guess_value (Quantity g) t v r l (members ms) e f w = no_other e
guess_value Character t v r l (members ms) e f w = no_other e
guess_value Logical t v r l (members ms) e f w = no_other e
guess_value Character t v r l (text s) e f w = guess_text f s (fitting r.width s (fit_legal (text_fits r.width s) e)).some
    (left_all w)
guess_value Single t v r l (text s) e f w = no_other e
guess_value (Multiple s) t v r l (text x) e f w = no_other e
guess_value (Quantity g) t v r l (text s) e f w = no_other e
guess_value Logical t v r l (text s) e f w = no_other e
guess_value Logical t v r l (truth b) e f w = guess_truth b f (left_all w)
guess_value Single t v r l (truth b) e f w = no_other e
guess_value (Multiple s) t v r l (truth b) e f w = no_other e
guess_value (Quantity g) t v r l (truth b) e f w = no_other e
guess_value Character t v r l (truth b) e f w = no_other e

pub fits_is : (x : Fit) → is_fits x ≡ true → x ≡ fits
unfolding is_fits
fits_is fits e = refl
fits_is other_type e = holds_not e refl
fits_is not_legal e = holds_not e refl
fits_is too_many e = holds_not e refl

module _ {t : List ℤ} {v len : ℕ} {r : Row} (g : RowFacts t v len r) (f : List ℕ) where
  found_is : (x : Value) → value_from t v r f ≡ holds x → IsValue t v r f x
  unfolding value_from tried_as
  found_is x e = go (left_of (decimals_of r.kind) (export_value (decimals_of r.kind) (guess_of r.kind f)) f)
      (is_fits (fit_of t v r (guess_of r.kind f))) refl refl e
    where
      go : (p q : Bool) → left_of (decimals_of r.kind) (export_value (decimals_of r.kind) (guess_of r.kind f)) f ≡ p
          → is_fits (fit_of t v r (guess_of r.kind f)) ≡ q
          → cond p (cond q (holds (guess_of r.kind f)) illegal) illegal ≡ holds x → IsValue t v r f x
      go true true a b e = subst (IsValue t v r f) (held e)
          (record { accepted = fits_is (fit_of t v r (guess_of r.kind f)) b; written = left_is _ _ _ a })
      go true false a b e = illegal_holds e
      go false q a b e = illegal_holds e

  is_found : (x : Value) → IsValue t v r f x → value_from t v r f ≡ holds x
  unfolding value_from tried_as is_fits
  is_found x i =
      let e = guess_value r.kind t v r (limits g) x i.accepted f i.written in
      rw (e, is_left (decimals_of r.kind) (export_value (decimals_of r.kind) x) f i.written, i.accepted)

  -- A FIELD HOLDS A VALUE EXACTLY WHEN it is what is left of what export writes for it, and the row's write accepts it
  pub value_exactly : (x : Value) → (value_from t v r f ≡ holds x) ↔ IsValue t v r f x
  value_exactly x = (found_is x, is_found x)

  -- at most one value has a field
  pub value_one : (x y : Value) → IsValue t v r f x → IsValue t v r f y → x ≡ y
  value_one x y a b = held (sym (is_found x a) ∙ is_found y b)

  -- and none has it where none is found
  pub value_none : (value_from t v r f ≡ illegal) ↔ ((x : Value) → IsValue t v r f x → ⊥)
  value_none = (λ e x i. illegal_holds (sym e ∙ is_found x i), λ n. go (value_from t v r f) refl n)
    where
      go : (y : Field) → value_from t v r f ≡ y → ((x : Value) → IsValue t v r f x → ⊥) → y ≡ illegal
      go (holds x) e n = absurd (n x (found_is x e))
      go illegal e n = refl
