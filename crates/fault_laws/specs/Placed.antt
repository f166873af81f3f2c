-- "The leftmost fault counts, with its place": what a row's stray or point fault is, by its kind.
use Rattle.std.specs.Prelude.{◌≡◌, Bool, true, false, cond, ◌&&◌, ◌||◌, List, [], ◌∷◌, ◌++◌, ℕ, zero, suc, ◌+◌, ◌-◌, ◌*◌, ◌≤◌, ◌<◌, ℤ}
use Rattle.std.specs.Prelude.{length, take, drop, get_or}
use Rattle.std.proofs.Math.Path.{refl}
use Rattle.std.proofs.Common.{sym, ap, subst, ◌∙◌, arith}
use Rattle.below.specs.Below.{holds_not}
use Rattle.layout.specs.declared.Spread.TheVariants.{Bits, Fields}
use Rattle.layout.specs.declared.Kind.{Kind}
use Rattle.layout.specs.declared.Kind.TheVariants.{Single, Multiple, Quantity, Character, Logical}
use Rattle.layout.specs.declared.Row.{Row}
use Rattle.places.specs.rule.Places.{pick}
use Rattle.fields.specs.rule.Legal.{legal}
use Rattle.fields.specs.rule.Number.{Said, blank, says, wrong, all_spaces, code_of, quantity_of}
use Rattle.fields.specs.rule.Row.{places_of}
use Rattle.faults.specs.declared.Fault.{Fault}
use Rattle.faults.specs.declared.Fault.TheVariants.{Sound, Stray, NotLegal, Point}
use Rattle.faults.specs.declared.Test.{Test}
use Rattle.faults.specs.declared.Test.TheVariants.{Space, Bit, Plain}
use Rattle.faults.specs.rule.Fault.{or_else, code_format, number_form, spread_form, passes, first_failing, plain_form}
use Rattle.faults.specs.rule.Fault.{value_fault, usable, spread_value, form_by, value_by, fault_of}
use Rattle.fault_laws.specs.Leftmost.{Leftmost, leftmost}
use Rattle.fault_laws.specs.Values.{subfield, FirstField, first_field}
use Rattle.faults.specs.Joined.{none_fault, some_fault}

-- ---- a field without numbers: the first byte that fails
pub record FirstFails (x : Test) (r ps : List ℕ) (fault : Fault) : Type 0 where
  pub at : ℕ
  pub inside : at < length ps
  pub is : fault ≡ Stray (get_or ps at 0)
  pub fails : passes x (get_or r (get_or ps at 0) 0) ≡ false
  pub left : (j : ℕ) → j < at → passes x (get_or r (get_or ps j 0) 0) ≡ true

first_fails : (x : Test) (r ps : List ℕ) → some_fault (first_failing x r ps) ≡ true → FirstFails x r ps (first_failing x r ps)
unfolding first_failing
first_fails x r [] e = holds_not e none_fault
first_fails x r (p ∷ ps) e = go (passes x (get_or r p 0)) refl e (λ u. first_fails x r ps u)
  where
    before : (k : ℕ) → passes x (get_or r p 0) ≡ true → ((j : ℕ) → j < k → passes x (get_or r (get_or ps j 0) 0) ≡ true)
        → (j : ℕ) → j < suc k → passes x (get_or r (get_or (p ∷ ps) j 0) 0) ≡ true
    before k q l zero h = q
    before k q l (suc j) h = l j (omega arith)

    go : (c : Bool) → passes x (get_or r p 0) ≡ c → some_fault (cond c (first_failing x r ps) (Stray p)) ≡ true
        → (some_fault (first_failing x r ps) ≡ true → FirstFails x r ps (first_failing x r ps))
        → FirstFails x r (p ∷ ps) (cond c (first_failing x r ps) (Stray p))
    go false q u ih = record { at = 0; inside = omega arith; is = refl; fails = q; left = λ j h. absurd (omega arith) }
    go true q u ih =
        let i = ih u in let h = i.inside in
        record { at = suc i.at; inside = omega arith; is = i.is; fails = i.fails; left = before i.at q i.left }

plain_fails : (x : Test) (r ps : List ℕ) (fault : Fault) → plain_form x r ps ≡ fault → some_fault fault ≡ true
    → (all_spaces (pick r ps) ≡ false) × FirstFails x r ps fault
unfolding plain_form
plain_fails x r ps fault e u = go (all_spaces (pick r ps)) refl e
  where
    go : (c : Bool) → all_spaces (pick r ps) ≡ c → cond c Sound (first_failing x r ps) ≡ fault
        → (all_spaces (pick r ps) ≡ false) × FirstFails x r ps fault
    go true a d = holds_not (ap some_fault d ∙ u) none_fault
    go false a d = (a, subst (λ (y : Fault). FirstFails x r ps y) d (first_fails x r ps (ap some_fault d ∙ u)))

-- ---- a spread: no subfield left of it has a fault, and in its own it is the leftmost
pub record SpreadLeftmost (w n : ℕ) (r ps : List ℕ) (x : Fault) : Type 0 where
  pub field : FirstField w n r ps x
  pub used : all_spaces (pick r (subfield w ps field.at)) ≡ false
  pub byte : Leftmost false code_format r [] (subfield w ps field.at) x

-- ---- by kind: the value places are not all spaces, and this is their leftmost fault
abbrev pub LeftmostBy : Kind → ℕ → List ℕ → List ℕ → Fault → Type 0
LeftmostBy Single w r ps x = (all_spaces (pick r ps) ≡ false) × Leftmost false code_format r [] ps x
LeftmostBy (Quantity f) w r ps x = (all_spaces (pick r ps) ≡ false) × Leftmost true f r [] ps x
LeftmostBy (Multiple Bits) w r ps x = (all_spaces (pick r ps) ≡ false) × FirstFails Bit r ps x
LeftmostBy (Multiple (Fields n b)) w r ps x = SpreadLeftmost w n r ps x
LeftmostBy Character w r ps x = (all_spaces (pick r ps) ≡ false) × FirstFails Plain r ps x
LeftmostBy Logical w r ps x = (all_spaces (pick r ps) ≡ false) × FirstFails Bit r ps x

leftmost_by : (k : Kind) (w : ℕ) (r ps : List ℕ) (x : Fault) → form_by k w r ps ≡ x → some_fault x ≡ true → LeftmostBy k w r ps x
unfolding form_by
leftmost_by Single w r ps x e u = leftmost false code_format r ps x e u
leftmost_by (Quantity f) w r ps x e u = leftmost true f r ps x e u
leftmost_by (Multiple Bits) w r ps x e u = plain_fails Bit r ps x e u
leftmost_by (Multiple (Fields n b)) w r ps x e u =
    let i = first_field w n r ps x e u in
    let m = leftmost false code_format r (subfield w ps i.at) x i.here u in
    record { field = i; used = m.0; byte = m.1 }
leftmost_by Character w r ps x e u = plain_fails Plain r ps x e u
leftmost_by Logical w r ps x e u = plain_fails Bit r ps x e u

-- ---- a fault of values has no place
numbered : Fault → Bool
numbered Sound = true
numbered (Stray p) = false
numbered (NotLegal z) = true
numbered (Point p) = false

value_numbered : (ok : ℤ → Bool) (x : Said) → numbered (value_fault ok x) ≡ true
unfolding numbered value_fault
value_numbered ok blank = refl
value_numbered ok (says z) = go (ok z)
  where
    go : (c : Bool) → numbered (cond c Sound (NotLegal z)) ≡ true
    go true = refl
    go false = refl
value_numbered ok wrong = refl

else_numbered : (a b : Fault) → numbered a ≡ true → numbered b ≡ true → numbered (or_else a b) ≡ true
unfolding numbered or_else
else_numbered Sound b e g = g
else_numbered (Stray p) b e g = e
else_numbered (NotLegal z) b e g = refl
else_numbered (Point p) b e g = e

spread_numbered : (ok : ℤ → Bool) (w : ℕ) (r : List ℕ) (n : ℕ) (ps : List ℕ) → numbered (spread_value ok w r n ps) ≡ true
unfolding spread_value numbered
spread_numbered ok w r zero ps = refl
spread_numbered ok w r (suc n) ps =
    else_numbered _ _ (value_numbered (usable ok) (code_of (pick r (take w ps)))) (spread_numbered ok w r n (drop w ps))

by_numbered : (k : Kind) (ok : ℤ → Bool) (w : ℕ) (r ps : List ℕ) → numbered (value_by k ok w r ps) ≡ true
unfolding value_by numbered
by_numbered Single ok w r ps = value_numbered (usable ok) (code_of (pick r ps))
by_numbered (Multiple Bits) ok w r ps = refl
by_numbered (Multiple (Fields n b)) ok w r ps = spread_numbered ok w r n ps
by_numbered (Quantity f) ok w r ps = value_numbered ok (quantity_of f (pick r ps))
by_numbered Character ok w r ps = refl
by_numbered Logical ok w r ps = refl

else_placed : (a b x : Fault) → or_else a b ≡ x → numbered b ≡ true → numbered x ≡ false → a ≡ x
unfolding or_else
else_placed Sound b x e g h = holds_not (ap numbered (sym e) ∙ g) h
else_placed (Stray p) b x e g h = e
else_placed (NotLegal z) b x e g h = e
else_placed (Point p) b x e g h = e

module _ (t : List ℤ) (v : ℕ) (r : Row) (record' : List ℕ) where
  placed_is : (x : Fault) → fault_of t v r record' ≡ x → numbered x ≡ false → form_by r.kind r.width record' (places_of t v r) ≡ x
  unfolding fault_of
  placed_is x e h =
      else_placed (form_by r.kind r.width record' (places_of t v r))
      (value_by r.kind (legal t v r) r.width record' (places_of t v r)) x e
      (by_numbered r.kind (legal t v r) r.width record' (places_of t v r)) h

  -- 241 and 243: the leftmost fault of the row's value places
  pub stray_leftmost : (p : ℕ) → fault_of t v r record' ≡ Stray p → LeftmostBy r.kind r.width record' (places_of t v r) (Stray p)
  unfolding numbered some_fault
  stray_leftmost p e = leftmost_by r.kind r.width record' (places_of t v r) (Stray p) (placed_is (Stray p) e refl) refl

  pub point_leftmost : (p : ℕ) → fault_of t v r record' ≡ Point p → LeftmostBy r.kind r.width record' (places_of t v r) (Point p)
  unfolding numbered some_fault
  point_leftmost p e = leftmost_by r.kind r.width record' (places_of t v r) (Point p) (placed_is (Point p) e refl) refl
