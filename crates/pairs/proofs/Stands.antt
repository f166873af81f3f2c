-- What stands where a tag is due: tags with their names, and where they end.
use mathlib.Core.Path.{◌≡◌, refl, sym, ap, ◌∙◌}
use mathlib.Core.Bool.{Bool, true, false, cond}
use mathlib.Core.List.{List, [], ◌∷◌}
use Prim.Native.Nat.{ℕ, ◌+◌, ◌≤◌, ◌<◌}
use native.Mathlib.Omega.{arith}
use lib.Dec.{leb, eqb}
use lib.ListN.{length, drop, get_or, length-append, length-drop}
use borrow.Author.Tests.{leb-false, eqb-true}
use Rattle.std.proofs.Common.{Option, Some, None}
use Rattle.markup.specs.rule.Bytes.{of_kind, is_name, starts_name, run_of, bytes_while, rest_of, stands, end_fault}
use Rattle.markup.specs.rule.Reference.{reference_of}
use Rattle.markup.specs.rule.Gap.{gap_of}
use Rattle.markup.specs.declared.Skip.{Skip}
use Rattle.markup.specs.declared.Skip.TheVariants as skip
use Rattle.markup.proofs.Runs.{run_next, run_long, run_splits}
use Rattle.angles.specs.rule.Angle.{close_of, bang_of, angle_of}
use Rattle.angles.specs.declared.Angle.{Angle}
use Rattle.angles.specs.declared.Angle.TheVariants as angle
use Rattle.pairs.specs.rule.Stand.{on_text_char, text_stand, stand_angle, stand_at, on_gap, stand_of}
use Rattle.pairs.specs.declared.Stand.{Stand}
use Rattle.pairs.specs.declared.Stand.TheVariants.{Start, Close, Foreign, Text, Broken}

-- a name starts at n and goes on up to e
pub record NameAt (d : List ℕ) (n e : ℕ) : Type 0 where
  pub inside : n < length d
  pub starts : starts_name (get_or d n 0) ≡ true
  pub ends : e ≡ run_of (of_kind 1) n (drop n d)

pub name_kind : (b : ℕ) → starts_name b ≡ true → of_kind 1 b ≡ true
unfolding of_kind is_name
name_kind b e = rw e

pub name_long : {d : List ℕ} {n e : ℕ} → NameAt d n e → (n < e) × (e ≤ length d)
name_long {d} {n} {e} a =
    let f = of_kind 1 in
    let x = run_next f d n a.inside (name_kind (get_or d n 0) a.starts) in
    let y = run_long f (n + 1) (drop (n + 1) d) in
    let k = a.ends in
    let s = ap length (run_splits f (drop (n + 1) d)) in
    let l = length-append (bytes_while f (drop (n + 1) d)) (rest_of f (drop (n + 1) d)) in
    let m = length-drop (n + 1) d in
    let i = a.inside in
    (omega arith, omega arith)

module _ (bad : Bool) (d : List ℕ) (p : ℕ) where
  close_start : (e : ℕ) → close_of bad d p ≡ angle.Start e → ⊥
  unfolding close_of
  close_start e f = by (leb (length d) (p + 2)) (starts_name (get_or d (p + 2) 0)) f where
    by : (x y : Bool) → cond x (angle.Broken (end_fault bad (p + 2) p))
        (cond y (angle.Close (run_of (of_kind 1) (p + 2) (drop (p + 2) d))) (angle.Broken p)) ≡ angle.Start e → ⊥
    by true y f = let z : ◌≡◌ {A = ℕ} 0 1 = cc in omega arith
    by false true f = let z : ◌≡◌ {A = ℕ} 0 1 = cc in omega arith
    by false false f = let z : ◌≡◌ {A = ℕ} 0 1 = cc in omega arith

  close_close : (e : ℕ) → close_of bad d p ≡ angle.Close e → NameAt d (p + 2) e
  unfolding close_of
  close_close e f = by (leb (length d) (p + 2)) (starts_name (get_or d (p + 2) 0)) refl refl f where
    by : (x y : Bool) → leb (length d) (p + 2) ≡ x → starts_name (get_or d (p + 2) 0) ≡ y
        → cond x (angle.Broken (end_fault bad (p + 2) p))
        (cond y (angle.Close (run_of (of_kind 1) (p + 2) (drop (p + 2) d))) (angle.Broken p))
        ≡ angle.Close e → NameAt d (p + 2) e
    by true y g h f = let z : ◌≡◌ {A = ℕ} 0 1 = cc in absurd (omega arith)
    by false true g h f = record { inside = leb-false (length d) (p + 2) g; starts = h; ends = cc }
    by false false g h f = let z : ◌≡◌ {A = ℕ} 0 1 = cc in absurd (omega arith)

  bang_start : (e : ℕ) → bang_of d p ≡ angle.Start e → ⊥
  unfolding bang_of
  bang_start e f = by (stands (60 ∷ 33 ∷ 91 ∷ 67 ∷ 68 ∷ 65 ∷ 84 ∷ 65 ∷ 91 ∷ []) (drop p d)) f where
    by : (x : Bool) → cond x angle.Foreign (angle.Broken p) ≡ angle.Start e → ⊥
    by true f = let z : ◌≡◌ {A = ℕ} 0 1 = cc in omega arith
    by false f = let z : ◌≡◌ {A = ℕ} 0 1 = cc in omega arith

  bang_close : (e : ℕ) → bang_of d p ≡ angle.Close e → ⊥
  unfolding bang_of
  bang_close e f = by (stands (60 ∷ 33 ∷ 91 ∷ 67 ∷ 68 ∷ 65 ∷ 84 ∷ 65 ∷ 91 ∷ []) (drop p d)) f where
    by : (x : Bool) → cond x angle.Foreign (angle.Broken p) ≡ angle.Close e → ⊥
    by true f = let z : ◌≡◌ {A = ℕ} 0 1 = cc in omega arith
    by false f = let z : ◌≡◌ {A = ℕ} 0 1 = cc in omega arith

  abbrev angle_by : Bool → Bool → Bool → Bool → Bool → Angle
  angle_by v w x y z =
      cond v (angle.Broken (end_fault bad (p + 1) p))
      (cond w (close_of bad d p) (cond x angle.Foreign
      (cond y (bang_of d p) (cond z (angle.Start (run_of (of_kind 1) (p + 1) (drop (p + 1) d))) (angle.Broken p)))))

  pub angle_start : (e : ℕ) → angle_of bad d p ≡ angle.Start e → NameAt d (p + 1) e
  unfolding angle_of
  angle_start e f =
      by (leb (length d) (p + 1)) (eqb (get_or d (p + 1) 0) 47) (eqb (get_or d (p + 1) 0) 63) (eqb (get_or d (p + 1) 0) 33)
      (starts_name (get_or d (p + 1) 0)) refl refl f where
        by : (v w x y z : Bool) → leb (length d) (p + 1) ≡ v → starts_name (get_or d (p + 1) 0) ≡ z → angle_by v w x y z ≡ angle.Start e
            → NameAt d (p + 1) e
        by true w x y z g h f = let t : ◌≡◌ {A = ℕ} 0 1 = cc in absurd (omega arith)
        by false true x y z g h f = absurd (close_start e f)
        by false false true y z g h f = let t : ◌≡◌ {A = ℕ} 0 1 = cc in absurd (omega arith)
        by false false false true z g h f = absurd (bang_start e f)
        by false false false false true g h f = record { inside = leb-false (length d) (p + 1) g; starts = h; ends = cc }
        by false false false false false g h f = let t : ◌≡◌ {A = ℕ} 0 1 = cc in absurd (omega arith)

  pub angle_close : (e : ℕ) → angle_of bad d p ≡ angle.Close e → (get_or d (p + 1) 0 ≡ 47) × NameAt d (p + 2) e
  unfolding angle_of
  angle_close e f =
      by (leb (length d) (p + 1)) (eqb (get_or d (p + 1) 0) 47) (eqb (get_or d (p + 1) 0) 63) (eqb (get_or d (p + 1) 0) 33)
      (starts_name (get_or d (p + 1) 0)) refl f where
        by : (v w x y z : Bool) → eqb (get_or d (p + 1) 0) 47 ≡ w → angle_by v w x y z ≡ angle.Close e → (get_or d (p + 1) 0 ≡ 47)
            × NameAt d (p + 2) e
        by true w x y z g f = let t : ◌≡◌ {A = ℕ} 0 1 = cc in absurd (omega arith)
        by false true x y z g f = (eqb-true (get_or d (p + 1) 0) 47 g, close_close e f)
        by false false true y z g f = let t : ◌≡◌ {A = ℕ} 0 1 = cc in absurd (omega arith)
        by false false false true z g f = absurd (bang_close e f)
        by false false false false true g f = let t : ◌≡◌ {A = ℕ} 0 1 = cc in absurd (omega arith)
        by false false false false false g f = let t : ◌≡◌ {A = ℕ} 0 1 = cc in absurd (omega arith)

-- ---- behind white space and comments
-- at p, behind a gap, a < stands that opens this
pub record StandsAt (bad : Bool) (d : List ℕ) (at p : ℕ) (a : Angle) : Type 0 where
  pub gap : gap_of bad d at ≡ skip.Past p
  pub inside : p < length d
  pub less : get_or d p 0 ≡ 60
  pub opens : angle_of bad d p ≡ a

abbrev is_tag : Stand → ℕ
is_tag (Start p e) = 1
is_tag (Close p e) = 2
is_tag (Foreign p) = 0
is_tag (Text p) = 0
is_tag (Broken p) = 0

text_none : (d : List ℕ) (p : ℕ) → is_tag (text_stand d p) ≡ 0
unfolding text_stand
text_none d p = by (eqb (get_or d p 0) 38) (reference_of p (drop (p + 1) d)) where
  by : (x : Bool) (r : Option (ℕ × ℕ)) → is_tag (cond x (on_text_char p r) (Text p)) ≡ 0
  by true (Some (c, n)) = refl
  by true None = refl
  by false r = refl

module _ (bad : Bool) (d : List ℕ) (at p e : ℕ) where
  pub stand_start : stand_of bad d at ≡ Start p e → StandsAt bad d at p (angle.Start e)
  unfolding stand_of stand_at
  stand_start f = on (gap_of bad d at) refl f where
    on : (g : Skip) → gap_of bad d at ≡ g → on_gap bad d g ≡ Start p e → StandsAt bad d at p (angle.Start e)
    on (skip.Broken q) g f = let t : ◌≡◌ {A = ℕ} 0 1 = cc in absurd (omega arith)
    on (skip.Past n) g f = by (leb (length d) n) (eqb (get_or d n 0) 60) refl refl f where
      opened : (a : Angle) → angle_of bad d n ≡ a → leb (length d) n ≡ false → eqb (get_or d n 0) 60 ≡ true → stand_angle n a ≡ Start p e
          → StandsAt bad d at p (angle.Start e)
      opened (angle.Start m) o h i f =
          let j : n ≡ p = cc in
          let k : m ≡ e = cc in
          record {
            gap = g ∙ rw j;
            inside = rw (← j) (leb-false (length d) n h);
            less = rw (← j) (eqb-true (get_or d n 0) 60 i);
            opens = rw (← j) (o ∙ ap angle.Start k);
          }
      opened (angle.Close m) o h i f = let t : ◌≡◌ {A = ℕ} 0 1 = cc in absurd (omega arith)
      opened angle.Foreign o h i f = let t : ◌≡◌ {A = ℕ} 0 1 = cc in absurd (omega arith)
      opened (angle.Broken q) o h i f = let t : ◌≡◌ {A = ℕ} 0 1 = cc in absurd (omega arith)

      by : (x y : Bool) → leb (length d) n ≡ x → eqb (get_or d n 0) 60 ≡ y
          → cond x (Broken n) (cond y (stand_angle n (angle_of bad d n)) (text_stand d n)) ≡ Start p e → StandsAt bad d at p (angle.Start e)
      by true y h i f = let t : ◌≡◌ {A = ℕ} 0 1 = cc in absurd (omega arith)
      by false true h i f = opened (angle_of bad d n) refl h i f
      by false false h i f = let t = sym (text_none d n) ∙ ap is_tag f in absurd (omega arith)

  pub stand_close : stand_of bad d at ≡ Close p e → StandsAt bad d at p (angle.Close e)
  unfolding stand_of stand_at
  stand_close f = on (gap_of bad d at) refl f where
    on : (g : Skip) → gap_of bad d at ≡ g → on_gap bad d g ≡ Close p e → StandsAt bad d at p (angle.Close e)
    on (skip.Broken q) g f = let t : ◌≡◌ {A = ℕ} 0 1 = cc in absurd (omega arith)
    on (skip.Past n) g f = by (leb (length d) n) (eqb (get_or d n 0) 60) refl refl f where
      opened : (a : Angle) → angle_of bad d n ≡ a → leb (length d) n ≡ false → eqb (get_or d n 0) 60 ≡ true → stand_angle n a ≡ Close p e
          → StandsAt bad d at p (angle.Close e)
      opened (angle.Start m) o h i f = let t : ◌≡◌ {A = ℕ} 0 1 = cc in absurd (omega arith)
      opened (angle.Close m) o h i f =
          let j : n ≡ p = cc in
          let k : m ≡ e = cc in
          record {
            gap = g ∙ rw j;
            inside = rw (← j) (leb-false (length d) n h);
            less = rw (← j) (eqb-true (get_or d n 0) 60 i);
            opens = rw (← j) (o ∙ ap angle.Close k);
          }
      opened angle.Foreign o h i f = let t : ◌≡◌ {A = ℕ} 0 1 = cc in absurd (omega arith)
      opened (angle.Broken q) o h i f = let t : ◌≡◌ {A = ℕ} 0 1 = cc in absurd (omega arith)

      by : (x y : Bool) → leb (length d) n ≡ x → eqb (get_or d n 0) 60 ≡ y
          → cond x (Broken n) (cond y (stand_angle n (angle_of bad d n)) (text_stand d n)) ≡ Close p e → StandsAt bad d at p (angle.Close e)
      by true y h i f = let t : ◌≡◌ {A = ℕ} 0 1 = cc in absurd (omega arith)
      by false true h i f = opened (angle_of bad d n) refl h i f
      by false false h i f = let t = sym (text_none d n) ∙ ap is_tag f in absurd (omega arith)

  pub start_long : stand_of bad d at ≡ Start p e → e ≤ length d
  start_long f = (name_long (angle_start bad d p e (stand_start f).opens)).1

  pub close_long : stand_of bad d at ≡ Close p e → (p + 2 ≤ e) × (e ≤ length d)
  close_long f = let n = name_long (angle_close bad d p e (stand_close f).opens).1 in let m = n.0 in (omega arith, n.1)
