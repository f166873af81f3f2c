-- A number's form, byte by byte from the left, is its form as it is read: some byte cannot stand exactly where the reading is wrong.
use Rattle.std.specs.Prelude.{◌≡◌, Bool, not, ◌&&◌, ◌||◌, pos, take, drop, get_or}
use Rattle.std.proofs.Math.Path.{refl, sym}
use Rattle.std.proofs.Common.{ap, ◌∙◌}
use Rattle.std.proofs.Math.Bool.{true, false, cond, and-false, or-false, or-true, and_assoc}
use mathlib.Core.List.{List, [], ◌∷◌, ◌++◌}
use Prim.Native.Nat.{ℕ, zero, suc, ◌+◌, ◌-◌, ◌≤◌, ◌<◌}
use Rattle.std.proofs.Math.Nat.{sub-zero}
use native.Mathlib.Omega.{arith}
use borrow.Author.Tests.{eqb-true, eqb-false, eq-eqb, ne_eqb, le-leb, lt-leb, leb-true, leb-false}
use Rattle.std.proofs.Math.Dec.{eqb, leb}
use Rattle.std.proofs.Math.ListN.{length}
use Rattle.std.proofs.Math.Seq.{take-length, drop-length}
use Rattle.below.specs.Below.{holds_not, and_left, and_right}
use Rattle.ascii.specs.rule.Class.{within}
use Rattle.cells.specs.rule.Cell.{number_of}
use Rattle.layout.specs.declared.Format.{Format}
use Rattle.widths.specs.rule.Width.{tail_of, least_whole}
use Rattle.widths.specs.Width.{tail_point}
use Rattle.places.specs.rule.Places.{pick}
use Rattle.places.specs.Laws.{length_pick}
use Rattle.fields.specs.rule.Number.{Said, blank, says, wrong, all_spaces, unspaced, digits_only, decimal, code_after, code_of}
use Rattle.fields.specs.rule.Number.{whole_part, decimal_part, point_stands, amount_form, amount_size, amount_of, quantity_after}
use Rattle.fields.specs.rule.Number.{quantity_of}
use Rattle.faults.specs.declared.Fault.{Fault}
use Rattle.faults.specs.declared.Fault.TheVariants.{Sound, Stray, NotLegal, Point}
use Rattle.faults.specs.rule.Fault.{code_format, fixed_of, point_place, may_stand, fault_at, number_from}
use Rattle.faults.specs.rule.Fault.{number_form}
use Rattle.faults.specs.Joined.{some_fault, spaces_more}

-- ---- spaces
pub none_spaces : all_spaces [] ≡ true
unfolding all_spaces
none_spaces = refl

-- ---- every byte may stand after those to its left
unfoldable pub stands : Bool → Format → List ℕ → List ℕ → Bool
stands q f left [] = true
stands q f left (b ∷ s) = may_stand q f left (length s) b && stands q f (left ++ (b ∷ [])) s

fault_some : (q : Bool) (f : Format) (after p b : ℕ) → some_fault (fault_at q f after p b) ≡ true
unfolding fault_at some_fault
fault_some q f after p b = go (q && (point_place f after || eqb b 46))
  where
    go : (c : Bool) → some_fault (cond c (Point p) (Stray p)) ≡ true
    go true = refl
    go false = refl

pub from_stands : (q : Bool) (f : Format) (r left ps : List ℕ) → some_fault (number_from q f r left ps) ≡ not (stands q f left (pick r ps))
unfolding number_from stands some_fault
from_stands q f r left [] = refl
from_stands q f r left (p ∷ ps) = rw (length_pick r ps)
    (go (may_stand q f left (length ps) (get_or r p 0)) (from_stands q f r (left ++ (get_or r p 0 ∷ [])) ps))
  where
    go : (c : Bool) → some_fault (number_from q f r (left ++ (get_or r p 0 ∷ [])) ps)
        ≡ not (stands q f (left ++ (get_or r p 0 ∷ [])) (pick r ps))
        → some_fault (cond c (number_from q f r (left ++ (get_or r p 0 ∷ [])) ps) (fault_at q f (length ps) p (get_or r p 0)))
        ≡ not (c && stands q f (left ++ (get_or r p 0 ∷ [])) (pick r ps))
    go true ih = ih
    go false ih = fault_some q f (length ps) p (get_or r p 0)

-- ---- once another byte than a space has stood: the point at its place, digits at all others
unfoldable pub closed : Format → List ℕ → Bool
closed f [] = true
closed f (b ∷ s) = cond (point_place f (length s)) (eqb b 46) (within 48 57 b) && closed f s

may_closed : (q : Bool) (f : Format) (left : List ℕ) (after b : ℕ) → all_spaces left ≡ false
    → may_stand q f left after b ≡ cond (point_place f after) (eqb b 46) (within 48 57 b)
unfolding may_stand
may_closed q f left after b e = rw (e, and-false, or-false)

pub closed_stands : (q : Bool) (f : Format) (left s : List ℕ) → all_spaces left ≡ false → stands q f left s ≡ closed f s
unfolding stands closed
closed_stands q f left [] e = refl
closed_stands q f left (b ∷ s) e =
    let n : all_spaces (left ++ (b ∷ [])) ≡ false = spaces_more left b ∙ rw e in
    rw (may_closed q f left (length s) b e, closed_stands q f (left ++ (b ∷ [])) s n)

-- no point: digits
closed_plain : (f : Format) (s : List ℕ) → f.point ≡ 0 → closed f s ≡ digits_only s
unfolding closed digits_only point_place
closed_plain f [] e = refl
closed_plain f (b ∷ s) e = rw (eq-eqb _ _ e, closed_plain f s e)

module _ (f : Format) (p : f.point ≡ 0 → ⊥) where
  -- after the point: digits
  closed_decimals : (s : List ℕ) → length s ≤ f.decimals → closed f s ≡ digits_only s
  unfolding closed digits_only point_place
  closed_decimals [] h = refl
  closed_decimals (b ∷ s) h =
      let n : length s ≡ f.decimals → ⊥ = λ e. omega arith in
      rw (ne_eqb _ _ p, ne_eqb (length s) f.decimals n, closed_decimals s (omega arith))

  closed_pointed : (k : ℕ) (s : List ℕ) → length s ≡ k + suc f.decimals
      → closed f s ≡ (digits_only (take k s) && (eqb (get_or s k 0) 46 && digits_only (drop (suc k) s)))
  unfolding closed digits_only point_place
  closed_pointed k [] h = absurd (omega arith)
  closed_pointed zero (b ∷ s) h =
      let e : length s ≡ f.decimals = omega arith in
      rw (ne_eqb _ _ p, eq-eqb _ _ e, closed_decimals s (omega arith))
  closed_pointed (suc k) (b ∷ s) h =
      let n : length s ≡ f.decimals → ⊥ = λ e. omega arith in
      rw (ne_eqb _ _ p, ne_eqb (length s) f.decimals n, closed_pointed k s (omega arith))
      (sym (and_assoc (within 48 57 b) (digits_only (take k s)) (eqb (get_or s k 0) 46 && digits_only (drop (suc k) s))))

-- ---- an amount: so many bytes at least, and each stands
module _ (f : Format) (plain : f.point ≡ 0 → f.decimals ≡ 0) where
  -- the parts of an amount, as they are read
  abbrev pub amount_parts : List ℕ → Bool
  amount_parts s = digits_only (whole_part f s) && (point_stands f s && digits_only (decimal_part f s))

  parts_plain : (s : List ℕ) → f.point ≡ 0 → amount_parts s ≡ closed f s
  unfolding tail_of digits_only
  parts_plain s e =
      rw (closed_plain f s e, eq-eqb _ _ e, plain e, sub-zero, take-length s, drop-length s) (go (digits_only s))
    where
      go : (b : Bool) → (b && true) ≡ b
      go true = refl
      go false = refl

  parts_pointed : (s : List ℕ) → (f.point ≡ 0 → ⊥) → tail_of f ≤ length s → amount_parts s ≡ closed f s
  parts_pointed s p h =
      let t : tail_of f ≡ f.decimals + 1 = tail_point f p in
      let k : ℕ = length s - tail_of f in
      let m : length s - f.decimals ≡ suc k = omega arith in
      rw (ne_eqb _ _ p, m, closed_pointed f p k s (omega arith))

  parts_closed : (s : List ℕ) → tail_of f ≤ length s → amount_parts s ≡ closed f s
  parts_closed s h = go (eqb f.point 0) refl
    where
      go : (c : Bool) → eqb f.point 0 ≡ c → amount_parts s ≡ closed f s
      go true e = parts_plain s (eqb-true _ _ e)
      go false e = parts_pointed s (eqb-false _ _ e) h

  -- THE FORM OF AN AMOUNT, under any point code
  amount_closed : (s : List ℕ) → amount_form f s ≡ (leb (fixed_of f) (length s) && closed f s)
  unfolding amount_form fixed_of
  amount_closed s = go (leb (least_whole f + tail_of f) (length s)) refl
    where
      go : (c : Bool) → leb (least_whole f + tail_of f) (length s) ≡ c → (c && amount_parts s) ≡ (c && closed f s)
      go true e = parts_closed s (omega (arith, leb-true (least_whole f + tail_of f) (length s) e))
      go false e = refl

-- ---- what follows the spaces
-- a minus, in a quantity, and an amount; or an amount; or nothing
unfoldable pub form_after : Bool → Format → List ℕ → Bool
form_after q f [] = true
form_after q f (b ∷ s) =
    cond (q && eqb b 45) (leb (fixed_of f) (length s) && closed f s) (leb (fixed_of f) (suc (length s)) && closed f (b ∷ s))

-- too few bytes: only spaces have form
short_form : (q : Bool) (f : Format) (s : List ℕ) → leb (fixed_of f) (length s) ≡ false → form_after q f (unspaced s) ≡ all_spaces s
unfolding form_after unspaced all_spaces
short_form q f [] e = refl
short_form q f (b ∷ s) e = let l : leb (fixed_of f) (length s)
    ≡ false = lt-leb (fixed_of f) (length s) (omega (arith, leb-false (fixed_of f) (suc (length s)) e)) in
    go (eqb b 32) (short_form q f s l) l
  where
    other : (c : Bool) → leb (fixed_of f) (length s) ≡ false
        → cond c (leb (fixed_of f) (length s) && closed f s) (leb (fixed_of f) (suc (length s)) && closed f (b ∷ s)) ≡ false
    other true l = rw l
    other false l = rw e

    go : (c : Bool) → form_after q f (unspaced s) ≡ all_spaces s → leb (fixed_of f) (length s) ≡ false
        → form_after q f (cond c (unspaced s) (b ∷ s)) ≡ (c && all_spaces s)
    go true ih l = ih
    go false ih l = other (q && eqb b 45) l

-- the point has its place among the fixed ones
point_fixed : (f : Format) (n : ℕ) → point_place f n ≡ true → leb (fixed_of f) n ≡ false
unfolding point_place fixed_of
point_fixed f n e = go (eqb f.point 0) refl e
  where
    go : (c : Bool) → eqb f.point 0 ≡ c → (not c && eqb n f.decimals) ≡ true → leb (least_whole f + tail_of f) n ≡ false
    go true q h = holds_not h refl
    go false q h =
        let t = tail_point f (eqb-false _ _ q) in
        lt-leb (least_whole f + tail_of f) n (omega (arith, eqb-true n f.decimals h))

-- ---- which byte may stand after spaces alone
module _ (q : Bool) (f : Format) (left : List ℕ) (open' : all_spaces left ≡ true) (n b : ℕ) where
  -- a space: before the fixed places
  may_space : b ≡ 32 → may_stand q f left n b ≡ leb (fixed_of f) n
  unfolding may_stand
  may_space e = rw (e, open') (go (point_place f n) refl (leb (fixed_of f) n) refl)
    where
      go : (c : Bool) → point_place f n ≡ c → (d : Bool) → leb (fixed_of f) n ≡ d → cond c false ((d && true) && true) ≡ d
      go true p d h = sym (point_fixed f n p) ∙ h
      go false p true h = refl
      go false p false h = refl

  -- a quantity's minus: there too
  may_minus : q ≡ true → b ≡ 45 → may_stand q f left n b ≡ leb (fixed_of f) n
  unfolding may_stand
  may_minus t e = rw (e, open', t) (go (point_place f n) refl (leb (fixed_of f) n) refl)
    where
      go : (c : Bool) → point_place f n ≡ c → (d : Bool) → leb (fixed_of f) n ≡ d → cond c false ((d && true) && true) ≡ d
      go true p d h = sym (point_fixed f n p) ∙ h
      go false p true h = refl
      go false p false h = refl

  -- any other byte: as if another than a space had stood
  may_other : eqb b 32 ≡ false → (q && eqb b 45) ≡ false → may_stand q f left n b ≡ cond (point_place f n) (eqb b 46) (within 48 57 b)
  unfolding may_stand
  may_other e m = rw (e, m, and-false, or-false)

-- ---- all bytes: spaces, or each stands
module _ (q : Bool) (f : Format) where
  pub form_stands : (left s : List ℕ) → all_spaces left ≡ true → leb (fixed_of f) (length s) ≡ true
      → (all_spaces s || stands q f left s) ≡ form_after q f (unspaced s)
  unfolding stands form_after unspaced all_spaces closed
  form_stands left [] o h = refl
  form_stands left (b ∷ s) o h = go (eqb b 32) refl (leb (fixed_of f) (length s)) refl (λ x y. form_stands (left ++ (b ∷ [])) s x y)
    where
      minus : (c : Bool) → (q && eqb b 45) ≡ c → eqb b 32 ≡ false
          → (may_stand q f left (length s) b && closed f s)
          ≡ cond c (leb (fixed_of f) (length s) && closed f s) (leb (fixed_of f) (suc (length s)) && closed f (b ∷ s))
      minus true e n = let x = and_left q (eqb b 45) e in let y = and_right q (eqb b 45) e in
          rw (may_minus q f left o (length s) b x (eqb-true b 45 y))
      minus false e n = rw (may_other q f left o (length s) b n e, h)

      go : (c : Bool) → eqb b 32 ≡ c → (d : Bool) → leb (fixed_of f) (length s) ≡ d
          → (all_spaces (left ++ (b ∷ [])) ≡ true → leb (fixed_of f) (length s) ≡ true
          → (all_spaces s || stands q f (left ++ (b ∷ [])) s) ≡ form_after q f (unspaced s))
          → ((c && all_spaces s) || (may_stand q f left (length s) b && stands q f (left ++ (b ∷ [])) s))
          ≡ form_after q f (cond c (unspaced s) (b ∷ s))
      go true e true l ih =
          rw (may_space q f left o (length s) b (eqb-true b 32 e), l) (ih (spaces_more left b ∙ rw (o, e)) l)
      go true e false l ih =
          rw (may_space q f left o (length s) b (eqb-true b 32 e), l, or-false) (sym (short_form q f s l))
      go false e d l ih =
          rw (closed_stands q f (left ++ (b ∷ [])) s (spaces_more left b ∙ rw (o, e))) (minus (q && eqb b 45) refl e)

-- ---- THE READING: a number's bytes are wrong exactly where some byte cannot stand
unfoldable pub formed : Said → Bool
formed blank = true
formed (says z) = true
formed wrong = false

-- a SINGLE's last digit has its place
code_fixed : fixed_of code_format ≡ 1
unfolding fixed_of least_whole tail_of
code_fixed = refl

code_after_lem : (s : List ℕ) → formed (code_after s) ≡ form_after false code_format s
unfolding formed code_after form_after
code_after_lem [] = refl
code_after_lem (b ∷ s) =
    rw (closed_plain code_format (b ∷ s) refl)
    (go (digits_only (b ∷ s)) ∙ rw (le-leb (fixed_of code_format) (suc (length s)) (omega (arith, code_fixed))))
  where
    go : (c : Bool) → formed (cond c (says (pos (decimal (b ∷ s)))) wrong) ≡ c
    go true = refl
    go false = refl

pub code_formed : (s : List ℕ) → formed (code_of s) ≡ form_after false code_format (unspaced s)
unfolding code_of
code_formed s = code_after_lem (unspaced s)

amount_formed : (f : Format) (minus : Bool) (s : List ℕ) → formed (amount_of f minus s) ≡ amount_form f s
unfolding formed amount_of
amount_formed f minus s = go (amount_form f s)
  where
    go : (c : Bool) → formed (cond c (says (number_of minus (amount_size f s))) wrong) ≡ c
    go true = refl
    go false = refl

module _ (f : Format) (plain : f.point ≡ 0 → f.decimals ≡ 0) where
  quantity_after_lem : (s : List ℕ) → formed (quantity_after f s) ≡ form_after true f s
  unfolding formed quantity_after form_after
  quantity_after_lem [] = refl
  quantity_after_lem (b ∷ s) = go (eqb b 45)
    where
      go : (c : Bool) → formed (cond c (amount_of f true s) (amount_of f false (b ∷ s)))
          ≡ cond c (leb (fixed_of f) (length s) && closed f s) (leb (fixed_of f) (suc (length s)) && closed f (b ∷ s))
      go true = amount_formed f true s ∙ amount_closed f plain s
      go false = amount_formed f false (b ∷ s) ∙ amount_closed f plain (b ∷ s)

  pub quantity_formed : (s : List ℕ) → formed (quantity_of f s) ≡ form_after true f (unspaced s)
  unfolding quantity_of
  quantity_formed s = quantity_after_lem (unspaced s)

form_some : (q : Bool) (f : Format) (r ps : List ℕ) → fixed_of f ≤ length ps
    → some_fault (number_form q f r ps) ≡ not (form_after q f (unspaced (pick r ps)))
unfolding number_form some_fault
form_some q f r ps h =
    let l : leb (fixed_of f) (length (pick r ps)) ≡ true = le-leb (fixed_of f) (length (pick r ps)) (omega (arith, length_pick r ps)) in
    rw (← form_stands q f [] (pick r ps) none_spaces l) (go (all_spaces (pick r ps)))
  where
    go : (c : Bool) → some_fault (cond c Sound (number_from q f r [] ps)) ≡ not (c || stands q f [] (pick r ps))
    go true = refl
    go false = from_stands q f r [] ps

-- a SINGLE's or a subfield's bytes
pub code_cases : (r ps : List ℕ) → 1 ≤ length ps → some_fault (number_form false code_format r ps) ≡ not (formed (code_of (pick r ps)))
code_cases r ps h = rw (code_formed (pick r ps)) (form_some false code_format r ps (omega (arith, code_fixed)))

-- a quantity's
pub quantity_cases : (f : Format) → (f.point ≡ 0 → f.decimals ≡ 0) → (r ps : List ℕ) → fixed_of f ≤ length ps
    → some_fault (number_form true f r ps) ≡ not (formed (quantity_of f (pick r ps)))
quantity_cases f plain r ps h = rw (quantity_formed f plain (pick r ps)) (form_some true f r ps h)
