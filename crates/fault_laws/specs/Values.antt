-- "Only a row sound in form is judged for values: the first number neither in range nor on a line is given."
use Rattle.std.specs.Prelude.{◌≡◌, refl, Bool, true, false, cond, not, ◌&&◌, ◌||◌, List, [], ◌∷◌, ◌++◌, ℕ, zero, suc, ◌+◌, ◌-◌, ◌*◌, ◌≤◌}
use Rattle.std.specs.Prelude.{◌<◌, eqb, ℤ, pos, length, take, drop, get_or}
use Rattle.std.proofs.Common.{sym, ap, subst, ◌∙◌, suc-mul, add_comm, zero-mul, arith, drop-drop}
use Rattle.below.specs.Below.{holds_not}
use Rattle.cells.specs.rule.Cell.{eq_z}
use Rattle.layout.specs.declared.Format.{Format}
use Rattle.layout.specs.declared.Spread.TheVariants.{Bits, Fields}
use Rattle.layout.specs.declared.Kind.{Kind}
use Rattle.layout.specs.declared.Kind.TheVariants.{Single, Multiple, Quantity, Character, Logical}
use Rattle.layout.specs.declared.Row.{Row}
use Rattle.places.specs.rule.Places.{pick}
use Rattle.fields.specs.rule.Legal.{legal}
use Rattle.fields.specs.rule.Number.{Said, blank, says, wrong, all_spaces, code_of, quantity_of}
use Rattle.fields.specs.rule.Row.{places_of}
use Rattle.faults.specs.declared.Fault.{Fault}
use Rattle.faults.specs.declared.Fault.TheVariants.{Sound, Stray, NotLegal, Point}
use Rattle.faults.specs.declared.Test.{Test}
use Rattle.faults.specs.rule.Fault.{or_else, code_format, may_stand, fault_at, point_place, number_from, number_form}
use Rattle.faults.specs.rule.Fault.{spread_form, passes, first_failing, plain_form}
use Rattle.faults.specs.rule.Fault.{value_fault, usable, spread_value, form_by, value_by, fault_of}
use Rattle.faults.specs.Joined.{else_fault, else_sound, none_fault, some_fault, sound_is}

-- ---- a fault of form has a place
placed : Fault → Bool
placed Sound = true
placed (Stray p) = true
placed (NotLegal z) = false
placed (Point p) = true

placed_else : (a b : Fault) → placed a ≡ true → placed b ≡ true → placed (or_else a b) ≡ true
unfolding placed or_else
placed_else Sound b e g = g
placed_else (Stray p) b e g = refl
placed_else (NotLegal z) b e g = e
placed_else (Point p) b e g = refl

placed_cond : (c : Bool) (a b : Fault) → placed a ≡ true → placed b ≡ true → placed (cond c a b) ≡ true
placed_cond true a b e g = e
placed_cond false a b e g = g

sound_placed : placed Sound ≡ true
unfolding placed
sound_placed = refl

stray_placed : (p : ℕ) → placed (Stray p) ≡ true
unfolding placed
stray_placed p = refl

at_placed : (q : Bool) (f : Format) (after p b : ℕ) → placed (fault_at q f after p b) ≡ true
unfolding fault_at placed
at_placed q f after p b = placed_cond (q && (point_place f after || eqb b 46)) (Point p) (Stray p) refl refl

from_placed : (q : Bool) (f : Format) (r left ps : List ℕ) → placed (number_from q f r left ps) ≡ true
unfolding number_from
from_placed q f r left [] = sound_placed
from_placed q f r left (p ∷ ps) =
    placed_cond (may_stand q f left (length ps) (get_or r p 0)) _ _ (from_placed q f r (left ++ (get_or r p 0 ∷ [])) ps)
    (at_placed q f (length ps) p (get_or r p 0))

number_placed : (q : Bool) (f : Format) (r ps : List ℕ) → placed (number_form q f r ps) ≡ true
unfolding number_form
number_placed q f r ps = placed_cond (all_spaces (pick r ps)) _ _ sound_placed (from_placed q f r [] ps)

failing_placed : (x : Test) (r ps : List ℕ) → placed (first_failing x r ps) ≡ true
unfolding first_failing
failing_placed x r [] = sound_placed
failing_placed x r (p ∷ ps) = placed_cond (passes x (get_or r p 0)) _ _ (failing_placed x r ps) (stray_placed p)

plain_placed : (x : Test) (r ps : List ℕ) → placed (plain_form x r ps) ≡ true
unfolding plain_form
plain_placed x r ps = placed_cond (all_spaces (pick r ps)) _ _ sound_placed (failing_placed x r ps)

spread_placed : (w : ℕ) (r : List ℕ) (n : ℕ) (ps : List ℕ) → placed (spread_form w r n ps) ≡ true
unfolding spread_form
spread_placed w r zero ps = sound_placed
spread_placed w r (suc n) ps = placed_else _ _ (number_placed false code_format r (take w ps)) (spread_placed w r n (drop w ps))

form_placed : (k : Kind) (w : ℕ) (r ps : List ℕ) → placed (form_by k w r ps) ≡ true
unfolding form_by
form_placed Single w r ps = number_placed false code_format r ps
form_placed (Multiple Bits) w r ps = plain_placed _ r ps
form_placed (Multiple (Fields n b)) w r ps = spread_placed w r n ps
form_placed (Quantity f) w r ps = number_placed true f r ps
form_placed Character w r ps = plain_placed _ r ps
form_placed Logical w r ps = plain_placed _ r ps

-- ---- the first number
value_says : (ok : ℤ → Bool) (x : Said) (z : ℤ) → value_fault ok x ≡ NotLegal z → (x ≡ says z) × (ok z ≡ false)
unfolding value_fault
value_says ok blank z e = let k : ◌≡◌ {A = ℕ} 0 1 = cc in absurd (omega arith)
value_says ok (says y) z e = go (ok y) refl e
  where
    go : (c : Bool) → ok y ≡ c → cond c Sound (NotLegal y) ≡ NotLegal z → (says y ≡ says z) × (ok z ≡ false)
    go true q d = let k : ◌≡◌ {A = ℕ} 0 1 = cc in absurd (omega arith)
    go false q d = let s : y ≡ z = cc in (ap says s, ap ok (sym s) ∙ q)
value_says ok wrong z e = let k : ◌≡◌ {A = ℕ} 0 1 = cc in absurd (omega arith)

value_sound : (ok : ℤ → Bool) (x : Said) → value_fault ok x ≡ Sound → (z : ℤ) → x ≡ says z → ok z ≡ true
unfolding value_fault
value_sound ok blank e z q = let k : ◌≡◌ {A = ℕ} 0 1 = cc in absurd (omega arith)
value_sound ok (says y) e z q = go (ok y) refl e
  where
    go : (c : Bool) → ok y ≡ c → cond c Sound (NotLegal y) ≡ Sound → ok z ≡ true
    go true p d = let s : y ≡ z = cc in ap ok (sym s) ∙ p
    go false p d = let k : ◌≡◌ {A = ℕ} 0 1 = cc in absurd (omega arith)
value_sound ok wrong e z q = let k : ◌≡◌ {A = ℕ} 0 1 = cc in absurd (omega arith)

-- subfield j of w places each
abbrev pub subfield : ℕ → List ℕ → ℕ → List ℕ
subfield w ps j = take w (drop (j * w) ps)

zeroth : (w : ℕ) (ps : List ℕ) → subfield w ps 0 ≡ take w ps
zeroth w ps = rw (zero-mul w)

next : (w : ℕ) (ps : List ℕ) (j : ℕ) → subfield w (drop w ps) j ≡ subfield w ps (suc j)
next w ps j = let m : w + j * w ≡ suc j * w = add_comm w (j * w) ∙ sym (suc-mul j w) in ap (take w) (drop-drop (j * w) w ps ∙ rw m)

-- z is said in one of n subfields and is not legal, nor zero; each number said left of it is
pub record FirstNumber (ok : ℤ → Bool) (w n : ℕ) (r ps : List ℕ) (z : ℤ) : Type 0 where
  pub at : ℕ
  pub inside : at < n
  pub said : code_of (pick r (subfield w ps at)) ≡ says z
  pub not_usable : usable ok z ≡ false
  pub left : (j : ℕ) → j < at → (y : ℤ) → code_of (pick r (subfield w ps j)) ≡ says y → usable ok y ≡ true

pub first_number : (ok : ℤ → Bool) (w n : ℕ) (r ps : List ℕ) (z : ℤ) → spread_value ok w r n ps ≡ NotLegal z → FirstNumber ok w n r ps z
unfolding spread_value or_else
first_number ok w zero r ps z e = let k : ◌≡◌ {A = ℕ} 0 1 = cc in absurd (omega arith)
first_number ok w (suc n) r ps z e =
    go (value_fault (usable ok) (code_of (pick r (take w ps)))) refl e (λ d. first_number ok w n r (drop w ps) z d)
  where
    earlier : FirstNumber ok w n r (drop w ps) z → value_fault (usable ok) (code_of (pick r (take w ps))) ≡ Sound
        → (k : ℕ) → ((j : ℕ) → j < k → (y : ℤ) → code_of (pick r (subfield w (drop w ps) j)) ≡ says y → usable ok y ≡ true)
        → (j : ℕ) → j < suc k → (y : ℤ) → code_of (pick r (subfield w ps j)) ≡ says y → usable ok y ≡ true
    earlier i q k l zero h y d = value_sound (usable ok) (code_of (pick r (take w ps))) q y (rw (zeroth w ps) at d)
    earlier i q k l (suc j) h y d = l j (omega arith) y (rw (← next w ps j) at d)

    go : (x : Fault) → value_fault (usable ok) (code_of (pick r (take w ps))) ≡ x → or_else x (spread_value ok w r n (drop w ps))
        ≡ NotLegal z
        → (spread_value ok w r n (drop w ps) ≡ NotLegal z → FirstNumber ok w n r (drop w ps) z) → FirstNumber ok w (suc n) r ps z
    go Sound q d ih =
        let i = ih d in let h = i.inside in
        record {
          at = suc i.at;
          inside = omega arith;
          said = rw (next w ps i.at) at i.said;
          not_usable = i.not_usable;
          left = earlier i q i.at i.left;
        }
    go (NotLegal y) q d ih =
        let s : y ≡ z = cc in
        let v = value_says (usable ok) (code_of (pick r (take w ps))) z (q ∙ ap NotLegal s) in
        record {
          at = 0;
          inside = omega arith;
          said = rw (zeroth w ps) v.0;
          not_usable = v.1;
          left = λ j h. absurd (omega arith);
        }
    go (Stray p) q d ih = let k : ◌≡◌ {A = ℕ} 0 1 = cc in absurd (omega arith)
    go (Point p) q d ih = let k : ◌≡◌ {A = ℕ} 0 1 = cc in absurd (omega arith)

-- ---- the first of two
else_form : (a b : Fault) (z : ℤ) → placed a ≡ true → or_else a b ≡ NotLegal z → a ≡ Sound
unfolding or_else placed
else_form Sound b z p e = refl
else_form (Stray q) b z p e = let k : ◌≡◌ {A = ℕ} 0 1 = cc in absurd (omega arith)
else_form (NotLegal y) b z p e = holds_not p refl
else_form (Point q) b z p e = let k : ◌≡◌ {A = ℕ} 0 1 = cc in absurd (omega arith)

-- ---- a row
module _ (t : List ℤ) (v : ℕ) (r : Row) (record' : List ℕ) (z : ℤ) (is : fault_of t v r record' ≡ NotLegal z) where
  -- a number is given only of a row sound in form
  pub form_first : form_by r.kind r.width record' (places_of t v r) ≡ Sound
  unfolding fault_of
  form_first =
      else_form (form_by r.kind r.width record' (places_of t v r)) (value_by r.kind (legal t v r) r.width record' (places_of t v r))
      z
      (form_placed r.kind r.width record' (places_of t v r)) is

  value_is : value_by r.kind (legal t v r) r.width record' (places_of t v r) ≡ NotLegal z
  unfolding fault_of or_else
  value_is = rw form_first at is

-- what is said by a row of this kind of which z is the first number that is not legal
abbrev pub FirstSaid : Kind → (ℤ → Bool) → ℕ → List ℕ → List ℕ → ℤ → Type 0
FirstSaid Single ok w r ps z = (code_of (pick r ps) ≡ says z) × (usable ok z ≡ false)
FirstSaid (Multiple (Fields n b)) ok w r ps z = FirstNumber ok w n r ps z
FirstSaid (Quantity f) ok w r ps z = (quantity_of f (pick r ps) ≡ says z) × (ok z ≡ false)
FirstSaid (Multiple Bits) ok w r ps z = ⊥
FirstSaid Character ok w r ps z = ⊥
FirstSaid Logical ok w r ps z = ⊥

said_by : (k : Kind) (ok : ℤ → Bool) (w : ℕ) (r ps : List ℕ) (z : ℤ) → value_by k ok w r ps ≡ NotLegal z → FirstSaid k ok w r ps z
unfolding value_by
said_by Single ok w r ps z e = value_says (usable ok) (code_of (pick r ps)) z e
said_by (Multiple (Fields n b)) ok w r ps z e = first_number ok w n r ps z e
said_by (Quantity f) ok w r ps z e = value_says ok (quantity_of f (pick r ps)) z e
said_by (Multiple Bits) ok w r ps z e = let k : ◌≡◌ {A = ℕ} 0 1 = cc in omega arith
said_by Character ok w r ps z e = let k : ◌≡◌ {A = ℕ} 0 1 = cc in omega arith
said_by Logical ok w r ps z e = let k : ◌≡◌ {A = ℕ} 0 1 = cc in omega arith

-- THE NUMBER is the first that is said and not legal
pub first_said : (t : List ℤ) (v : ℕ) (r : Row) (record' : List ℕ) (z : ℤ) → fault_of t v r record' ≡ NotLegal z
    → FirstSaid r.kind (legal t v r) r.width record' (places_of t v r) z
first_said t v r record' z is = said_by r.kind (legal t v r) r.width record' (places_of t v r) z (value_is t v r record' z is)

-- ---- a spread's fault of form: the first subfield that has one
pub record FirstField (w n : ℕ) (r ps : List ℕ) (x : Fault) : Type 0 where
  pub at : ℕ
  pub inside : at < n
  pub here : number_form false code_format r (subfield w ps at) ≡ x
  pub left : (j : ℕ) → j < at → number_form false code_format r (subfield w ps j) ≡ Sound

pub first_field : (w n : ℕ) (r ps : List ℕ) (x : Fault) → spread_form w r n ps ≡ x → some_fault x ≡ true → FirstField w n r ps x
unfolding spread_form
first_field w zero r ps x e u = holds_not (ap some_fault e ∙ u) none_fault
first_field w (suc n) r ps x e u =
    go (some_fault (number_form false code_format r (take w ps))) refl (λ d. first_field w n r (drop w ps) x d u)
  where
    before : (k : ℕ) → number_form false code_format r (take w ps) ≡ Sound
        → ((j : ℕ) → j < k → number_form false code_format r (subfield w (drop w ps) j) ≡ Sound)
        → (j : ℕ) → j < suc k → number_form false code_format r (subfield w ps j) ≡ Sound
    before k s l zero h = rw (zeroth w ps) s
    before k s l (suc j) h = rw (next w ps j) at (l j (omega arith))

    go : (c : Bool) → some_fault (number_form false code_format r (take w ps)) ≡ c
        → (spread_form w r n (drop w ps) ≡ x → FirstField w n r (drop w ps) x) → FirstField w (suc n) r ps x
    go true q ih = record {
      at = 0;
      inside = omega arith;
      here = rw (zeroth w ps) (sym (else_fault (number_form false code_format r (take w ps)) (spread_form w r n (drop w ps)) q) ∙ e);
      left = λ j h. absurd (omega arith);
    }
    go false q ih =
        let i = ih (sym (else_sound (number_form false code_format r (take w ps)) (spread_form w r n (drop w ps)) q) ∙ e) in
        let h = i.inside in
        record {
          at = suc i.at;
          inside = omega arith;
          here = rw (next w ps i.at) at i.here;
          left = before i.at (sound_is (number_form false code_format r (take w ps)) q) i.left;
        }
