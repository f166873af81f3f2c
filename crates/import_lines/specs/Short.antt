-- No value's text is longer than 50,000 bytes, and so no field that is.
use Rattle.std.specs.Prelude.{◌≡◌, refl, Bool, true, false, cond, List, ◌∷◌, ℕ, ◌≤◌, ◌<◌, ltb, ℤ, length}
use Rattle.std.proofs.Common.{ap, arith, length-append}
use Rattle.layout.specs.declared.Row.{Row}
use Rattle.layout.specs.declared.Kind.{Kind}
use Rattle.layout.specs.declared.Kind.TheVariants.{Single, Multiple, Quantity, Character, Logical}
use Rattle.layout.specs.declared.Spread.TheVariants.{Bits, Fields}
use Rattle.fields.specs.rule.Legal.{legal}
use Rattle.fields.specs.rule.Field.{Value, missing, number, members, text, truth, holds, illegal, set_fits, text_fits}
use Rattle.fields.specs.rule.Row.{fits, fits_by, fit_of}
use Rattle.fieldlaws.specs.BackLaws.{Limits, fit_legal, fit_set}
use Rattle.fieldlaws.specs.TextLaws.{fitting}
use Rattle.value_fields.specs.rule.Values.{export_value}
use Rattle.widths.specs.rule.Width.{decimals_of}
use Rattle.field_values.specs.rule.Value.{zeros, Left, whole, cut, unpointed}
use Rattle.field_values.specs.rule.Read.{guess_of, left_of, is_fits, tried_as, value_from}
use Rattle.field_values.specs.Left.{left_is}
use Rattle.field_values.specs.Guess.{set_long}
use Rattle.field_values.specs.Exactly.{no_other, bits_codes, spread_codes, fits_is}
use Rattle.field_values.specs.Steps.{text_short}

left_length : {k : ℕ} {s f : List ℕ} → Left k s f → length f ≤ length s
left_length (whole e) = omega (arith, ap length e)
left_length {f = f} (cut j h e) = omega (arith, ap length e, length-append f (zeros j))
left_length {k = k} {f = f} (unpointed h e) = omega (arith, ap length e, length-append f (46 ∷ zeros k))

text_long : (k : Kind) (t : List ℤ) (v : ℕ) (r : Row) → Limits k t v r → (x : Value) → fits_by k t v r x ≡ fits
    → length (export_value (decimals_of k) x) ≤ 50000
unfolding fits_by export_value decimals_of
text_long k t v r l missing e = omega arith
text_long Single t v r l (number z) e = omega (arith, text_short 0 z (omega arith))
text_long (Quantity g) t v r l (number z) e = omega (arith, text_short g.decimals z l.kind.decimals)
text_long (Multiple s) t v r l (number z) e = no_other e
text_long Character t v r l (number z) e = no_other e
text_long Logical t v r l (number z) e = no_other e
text_long (Multiple Bits) t v r l (members ms) e =
    let c = bits_codes t v r l ms (fit_legal (set_fits (legal t v r) ms) e) in omega (arith, set_long ms c.0, c.1)
text_long (Multiple (Fields n b)) t v r l (members ms) e =
    let c = spread_codes t v r n b l ms (fit_set (set_fits (legal t v r) ms) (ltb n (length ms)) e).0 in
    omega (arith, set_long ms c.0, c.1)
text_long Single t v r l (members ms) e = no_other e
text_long (Quantity g) t v r l (members ms) e = no_other e
text_long Character t v r l (members ms) e = no_other e
text_long Logical t v r l (members ms) e = no_other e
text_long Character t v r l (text s) e = let f = fitting r.width s (fit_legal (text_fits r.width s) e) in
    omega (arith, f.few, l.kind.few)
text_long Single t v r l (text s) e = no_other e
text_long (Multiple s) t v r l (text x) e = no_other e
text_long (Quantity g) t v r l (text s) e = no_other e
text_long Logical t v r l (text s) e = no_other e
text_long Logical t v r l (truth b) e = omega arith
text_long Single t v r l (truth b) e = no_other e
text_long (Multiple s) t v r l (truth b) e = no_other e
text_long (Quantity g) t v r l (truth b) e = no_other e
text_long Character t v r l (truth b) e = no_other e

pub long_none : (t : List ℤ) (v : ℕ) (r : Row) → Limits r.kind t v r → (f : List ℕ) → 50000 < length f → value_from t v r f ≡ illegal
unfolding value_from tried_as
long_none t v r l f h =
    go (left_of (decimals_of r.kind) (export_value (decimals_of r.kind) (guess_of r.kind f)) f)
    (is_fits (fit_of t v r (guess_of r.kind f))) refl refl
  where
    go : (p q : Bool) → left_of (decimals_of r.kind) (export_value (decimals_of r.kind) (guess_of r.kind f)) f ≡ p
        → is_fits (fit_of t v r (guess_of r.kind f)) ≡ q
        → cond p (cond q (holds (guess_of r.kind f)) illegal) illegal ≡ illegal
    go true true a b =
        let x = guess_of r.kind f in
        absurd (omega (
          arith,
          text_long r.kind t v r l x (fits_is (fit_of t v r x) b),
          left_length (left_is (decimals_of r.kind) (export_value (decimals_of r.kind) x) f a),
        ))
    go true false a b = refl
    go false q a b = refl
