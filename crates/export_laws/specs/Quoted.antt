-- QUOTED EXACTLY WHEN it holds one of the four bytes: then the field stands in quotes with its own doubled, else as it is.
-- Assumes nothing.
use Rattle.std.specs.Prelude.{◌≡◌, refl, Bool, true, false, ◌||◌, List, [], ◌∷◌, ◌++◌, ℕ, eqb}
use Rattle.std.proofs.Common.{sym, arith, eqb-true}
use Rattle.commas.specs.rule.Csv.{is_special, holds_special, doubled, field_bytes}
use Rattle.commas.specs.Csv.{field_quoted, field_plain}
use Rattle.export_laws.specs.rule.Quoted.{Special, comma, quote, cr, lf, AmongBytes, here, there, HoldsOne}

special_is : (b : ℕ) → is_special b ≡ true → Special b
unfolding is_special
special_is b e = go (eqb b 44) (eqb b 34) (eqb b 13) (eqb b 10) refl refl refl refl e
  where
    go : (p q r u : Bool) → eqb b 44 ≡ p → eqb b 34 ≡ q → eqb b 13 ≡ r → eqb b 10 ≡ u → (p || (q || (r || u))) ≡ true → Special b
    go true q r u a x y z k = rw (eqb-true b 44 a) comma
    go false true r u a x y z k = rw (eqb-true b 34 x) quote
    go false false true u a x y z k = rw (eqb-true b 13 y) cr
    go false false false true a x y z k = rw (eqb-true b 10 z) lf
    go false false false false a x y z k = let w : ◌≡◌ {A = ℕ} 0 1 = cc in absurd (omega arith)

is_special_lem : {b : ℕ} → Special b → is_special b ≡ true
unfolding is_special
is_special_lem comma = refl
is_special_lem quote = refl
is_special_lem cr = refl
is_special_lem lf = refl

pub holds_named : (f : List ℕ) → holds_special f ≡ true → HoldsOne f
unfolding holds_special
holds_named [] e = let w : ◌≡◌ {A = ℕ} 0 1 = cc in absurd (omega arith)
holds_named (b ∷ f) e = go (is_special b) refl e (λ h. holds_named f h)
  where
    go : (p : Bool) → is_special b ≡ p → (p || holds_special f) ≡ true → (holds_special f ≡ true → HoldsOne f) → HoldsOne (b ∷ f)
    go true q k rest = record { byte = b; special = special_is b q; among = here }
    go false q k rest = let o = rest k in record { byte = o.byte; special = o.special; among = there o.among }

among_holds : {b : ℕ} {f : List ℕ} → is_special b ≡ true → AmongBytes b f → holds_special f ≡ true
unfolding holds_special
among_holds e here = rw e
among_holds {f = c ∷ f} e (there a) = rw (among_holds e a) (or_true (is_special c))
  where
    or_true : (p : Bool) → (p || true) ≡ true
    or_true true = refl
    or_true false = refl

pub holds_only : (f : List ℕ) → HoldsOne f → holds_special f ≡ true
holds_only f o = among_holds (is_special_lem o.special) o.among

-- ---- the law, both ways
pub quoted_when : (f : List ℕ) → HoldsOne f → field_bytes f ≡ (34 ∷ []) ++ (doubled f ++ (34 ∷ []))
quoted_when f o = sym (field_quoted f (holds_only f o))

pub plain_when : (f : List ℕ) → (HoldsOne f → ⊥) → field_bytes f ≡ f
plain_when f none = go (holds_special f) refl
  where
    go : (p : Bool) → holds_special f ≡ p → field_bytes f ≡ f
    go true e = absurd (none (holds_named f e))
    go false e = sym (field_plain f e)
