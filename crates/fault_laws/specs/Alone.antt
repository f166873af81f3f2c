-- A row's fault depends on its value places alone: records that agree there have the same fault.
use Rattle.std.specs.Prelude.{◌≡◌, Bool, cond, ℤ, length, take, drop}
use Rattle.std.proofs.Math.Path.{refl}
use Rattle.std.proofs.Common.{sym, ap, ◌∙◌}
use mathlib.Core.List.{List, [], ◌∷◌, ◌++◌}
use Prim.Native.Nat.{ℕ, zero, suc}
use Rattle.std.proofs.Math.ListN.{get_or}
use Rattle.layout.specs.declared.Format.{Format}
use Rattle.layout.specs.declared.Spread.TheVariants.{Bits, Fields}
use Rattle.layout.specs.declared.Kind.{Kind}
use Rattle.layout.specs.declared.Kind.TheVariants.{Single, Multiple, Quantity, Character, Logical}
use Rattle.layout.specs.declared.Row.{Row}
use Rattle.places.specs.rule.Places.{pick}
use Rattle.fields.specs.rule.Legal.{legal}
use Rattle.fields.specs.rule.Number.{all_spaces, code_of, quantity_of}
use Rattle.fields.specs.rule.Row.{places_of}
use Rattle.faults.specs.declared.Test.{Test}
use Rattle.faults.specs.rule.Fault.{code_format, number_from, number_form, spread_form, first_failing, plain_form}
use Rattle.faults.specs.rule.Fault.{value_fault, usable, spread_value, form_by, value_by, fault_of}
use Rattle.fault_laws.specs.Cases.{pick_take, pick_drop}

module _ (a b : List ℕ) where
  from_alone : (q : Bool) (f : Format) (left ps : List ℕ) → pick a ps ≡ pick b ps → number_from q f a left ps ≡ number_from q f b left ps
  unfolding number_from
  from_alone q f left [] e = refl
  from_alone q f left (p ∷ ps) e =
      let h : get_or a p 0 ≡ get_or b p 0 = cc in
      let t : pick a ps ≡ pick b ps = cc in
      rw (h, from_alone q f (left ++ (get_or b p 0 ∷ [])) ps t)

  number_alone : (q : Bool) (f : Format) (ps : List ℕ) → pick a ps ≡ pick b ps → number_form q f a ps ≡ number_form q f b ps
  unfolding number_form
  number_alone q f ps e = rw (e, from_alone q f [] ps e)

  failing_alone : (x : Test) (ps : List ℕ) → pick a ps ≡ pick b ps → first_failing x a ps ≡ first_failing x b ps
  unfolding first_failing
  failing_alone x [] e = refl
  failing_alone x (p ∷ ps) e =
      let h : get_or a p 0 ≡ get_or b p 0 = cc in
      let t : pick a ps ≡ pick b ps = cc in
      rw (h, failing_alone x ps t)

  plain_alone : (x : Test) (ps : List ℕ) → pick a ps ≡ pick b ps → plain_form x a ps ≡ plain_form x b ps
  unfolding plain_form
  plain_alone x ps e = rw (e, failing_alone x ps e)

  first : (w : ℕ) (ps : List ℕ) → pick a ps ≡ pick b ps → pick a (take w ps) ≡ pick b (take w ps)
  first w ps e = sym (pick_take w a ps) ∙ ap (take w) e ∙ pick_take w b ps

  later : (w : ℕ) (ps : List ℕ) → pick a ps ≡ pick b ps → pick a (drop w ps) ≡ pick b (drop w ps)
  later w ps e = sym (pick_drop w a ps) ∙ ap (drop w) e ∙ pick_drop w b ps

  spread_alone : (w n : ℕ) (ps : List ℕ) → pick a ps ≡ pick b ps → spread_form w a n ps ≡ spread_form w b n ps
  unfolding spread_form
  spread_alone w zero ps e = refl
  spread_alone w (suc n) ps e = rw (number_alone _ code_format (take w ps) (first w ps e), spread_alone w n (drop w ps) (later w ps e))

  values_alone : (ok : ℤ → Bool) (w n : ℕ) (ps : List ℕ) → pick a ps ≡ pick b ps → spread_value ok w a n ps ≡ spread_value ok w b n ps
  unfolding spread_value
  values_alone ok w zero ps e = refl
  values_alone ok w (suc n) ps e = rw (first w ps e, values_alone ok w n (drop w ps) (later w ps e))

  form_alone : (k : Kind) (w : ℕ) (ps : List ℕ) → pick a ps ≡ pick b ps → form_by k w a ps ≡ form_by k w b ps
  unfolding form_by
  form_alone Single w ps e = number_alone _ code_format ps e
  form_alone (Multiple Bits) w ps e = plain_alone _ ps e
  form_alone (Multiple (Fields n c)) w ps e = spread_alone w n ps e
  form_alone (Quantity f) w ps e = number_alone _ f ps e
  form_alone Character w ps e = plain_alone _ ps e
  form_alone Logical w ps e = plain_alone _ ps e

  value_alone : (k : Kind) (ok : ℤ → Bool) (w : ℕ) (ps : List ℕ) → pick a ps ≡ pick b ps → value_by k ok w a ps ≡ value_by k ok w b ps
  unfolding value_by
  value_alone Single ok w ps e = rw e
  value_alone (Multiple Bits) ok w ps e = refl
  value_alone (Multiple (Fields n c)) ok w ps e = values_alone ok w n ps e
  value_alone (Quantity f) ok w ps e = rw e
  value_alone Character ok w ps e = refl
  value_alone Logical ok w ps e = refl

  pub fault_alone : (t : List ℤ) (v : ℕ) (r : Row) → pick a (places_of t v r) ≡ pick b (places_of t v r) → fault_of t v r a
      ≡ fault_of t v r b
  unfolding fault_of
  fault_alone t v r e =
      rw (form_alone r.kind r.width (places_of t v r) e, value_alone r.kind (legal t v r) r.width (places_of t v r) e)
