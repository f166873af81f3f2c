-- A row that allows every category from 1 to w: its range has them, or its lines are they.
use Rattle.std.specs.Prelude.{◌≡◌, Bool, true, ◌&&◌, ℤ, pos}
use Rattle.std.proofs.Math.Path.{refl}
use Rattle.std.proofs.Common.{ap, le-leb}
use mathlib.Core.List.{List, ◌∷◌}
use Prim.Native.Nat.{ℕ, zero, suc, ◌+◌, ◌-◌, ◌≤◌, ◌<◌}
use native.Mathlib.Omega.{arith}
use Rattle.std.specs.Int.Signed.{le_z}
use Rattle.below.specs.Below.{and_true, and_left, and_right, or_true, any_holds}
use Rattle.cells.specs.rule.Cell.{eq_z}
use Rattle.cells.specs.Order.{le_join}
use Rattle.fields.specs.rule.Legal.{line_value, in_range, on_line, legal}
use Rattle.fields.specs.rule.Row.{defined}
use Rattle.layout.specs.declared.Row.{Row}

-- whether the row's range has every category from 1 to w
unfoldable pub has_all : Row → ℕ → Bool
has_all r w = in_range r (pos 1) && in_range r (pos w)

-- each of them is legal
abbrev pub EachLegal : List ℤ → ℕ → Row → ℕ → Type 0
EachLegal t v r w = (c : ℕ) → 1 ≤ c → c ≤ w → legal t v r (pos c) ≡ true

-- every number is allowed
abbrev pub always : ℤ → Bool
always z = true

-- ---- laws
module _ (t : List ℤ) (v : ℕ) (r : Row) where
  -- what lies between two numbers of the range lies in it
  between : (a b c : ℤ) → in_range r a ≡ true → in_range r b ≡ true → le_z a c ≡ true → le_z c b ≡ true → in_range r c ≡ true
  unfolding in_range
  between a b c h g l m =
      let x = and_right r.range (le_z r.from a && le_z a r.to) h in
      let y = and_right r.range (le_z r.from b && le_z b r.to) g in
      and_true r.range (le_z r.from c && le_z c r.to) (and_left r.range (le_z r.from a && le_z a r.to) h)
      (and_true (le_z r.from c) (le_z c r.to) (le_join r.from a c (and_left (le_z r.from a) (le_z a r.to) x) l)
      (le_join c b r.to m (and_right (le_z r.from b) (le_z b r.to) y)))

  pub each_legal : (w : ℕ) → has_all r w ≡ true → EachLegal t v r w
  unfolding has_all legal
  each_legal w h c l m =
      rw (between (pos 1) (pos w) (pos c) (and_left (in_range r (pos 1)) (in_range r (pos w)) h)
      (and_right (in_range r (pos 1)) (in_range r (pos w)) h)
      (le-leb 1 c l) (le-leb c w m))

  -- the first w lines are the categories, in their order
  pub lines_legal : (w : ℕ) → w ≤ r.lines → ((j : ℕ) → j < w → eq_z (line_value t v r j) (pos (j + 1)) ≡ true) → EachLegal t v r w
  unfolding legal on_line
  lines_legal w few h c l m =
      let e : c - 1 + 1 ≡ c = omega arith in
      let k = rw e at (h (c - 1) (omega arith)) in
      rw (any_holds (λ j. eq_z (line_value t v r j) (pos c)) r.lines (c - 1) (omega arith) k) (or_true (in_range r (pos c)))

  defined_from : (w : ℕ) → EachLegal t v r w → (c n : ℕ) → 1 ≤ c → c + n ≤ w + 1 → defined (legal t v r) c n ≡ defined always c n
  unfolding defined
  defined_from w h c zero l m = refl
  defined_from w h c (suc n) l m =
      rw (h c l (omega arith)) (ap (λ (cs : List ℕ). c ∷ cs) (defined_from w h (suc c) n (omega arith) (omega arith)))

  pub each_defined : (w : ℕ) → EachLegal t v r w → defined (legal t v r) 1 w ≡ defined always 1 w
  each_defined w h = defined_from w h 1 w (omega arith) (omega arith)

  pub all_defined : (w : ℕ) → has_all r w ≡ true → defined (legal t v r) 1 w ≡ defined always 1 w
  all_defined w h = each_defined w (each_legal w h)
