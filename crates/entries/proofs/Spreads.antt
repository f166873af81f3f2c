-- What is known of SPREAD and SIZE that were read: subfields are some and have a width; a size is 1 to 4,096.
use Rattle.std.specs.Prelude.{Ok, Err}
use mathlib.Core.Path.{◌≡◌, refl, sym, ◌∙◌}
use mathlib.Core.Bool.{Bool, true, false, cond}
use mathlib.Core.List.{List}
use Prim.Native.Nat.{ℕ, zero, suc, ◌/◌, ◌%◌, ◌≤◌}
use native.Mathlib.Omega.{arith}
use native.Mathlib.Nat.{div-add-mod}
use borrow.Author.Tests.{eqb-true, eqb-false, ltb-false}
use lib.Dec.{eqb, ltb}
use Rattle.tokens.specs.declared.Choice.{Choice}
use Rattle.tokens.specs.declared.Choice.TheVariants.{Taken, Left}
use Rattle.tokens.specs.declared.Figures.{Figures}
use Rattle.tokens.specs.rule.Gap.{fault, OrFault}
use Rattle.tokens.specs.Gap.{gap_on}
use Rattle.tokens.specs.Token.{choice_of, number_on, past_number}
use Rattle.statements.specs.declared.Subfields.{Subfields}
use Rattle.statements.specs.rule.Words.{OF, SIZE}
use Rattle.statements.specs.Note.{statement_on}
use Rattle.statements.specs.Spread.{judge_of, judge_even, fields_of, even_of, rest, spread_rest}
use Rattle.statements.specs.Size.{judge_size, size_on}
use Rattle.entries.proofs.Heads.{none}

pub record GoodSpread (s : Subfields) : Type 0 where
  pub some : 1 ≤ s.count
  pub wide : 1 ≤ s.width

-- a whole part of at least one is at least one
whole_some : (w n : ℕ) → 1 ≤ w → w % n ≡ 0 → 1 ≤ w / n
whole_some w n h e = by (w / n) refl where
  by : (q : ℕ) → w / n ≡ q → 1 ≤ q
  by zero f =
      let g = div-add-mod w n in
      let k : w ≡ 0 = sym g ∙ rw (f, e) (omega arith) in
      absurd (omega arith)
  by (suc q) f = omega arith

fields_good : (n w : Figures) (m : ℕ) (s : Subfields) → judge_of n w m ≡ Ok s → GoodSpread s
unfolding judge_of
fields_good n w m s = by (eqb n.size 0) (eqb w.size 0) refl refl where
  by : (p q : Bool) → eqb n.size 0 ≡ p → eqb w.size 0 ≡ q
      → cond p (Err (fault 7 n.place))
      (cond q (Err (fault 7 w.place)) (Ok (record { count = n.size; width = w.size; next = m }))) ≡ Ok s
      → GoodSpread s
  by true q e f g = none cc
  by false true e f g = none cc
  by false false e f g =
      let j : record { count = n.size; width = w.size; next = m } ≡ s = cc in
      let a = eqb-false n.size 0 e in
      let b = eqb-false w.size 0 f in
      rw (← j) (record { some = omega arith; wide = omega arith })

even_good : (n : Figures) (w m : ℕ) (s : Subfields) → 1 ≤ w → judge_even n w m ≡ Ok s → GoodSpread s
unfolding judge_even
even_good n w m s h = by (eqb n.size 0) (eqb (w % n.size) 0) refl refl where
  by : (p q : Bool) → eqb n.size 0 ≡ p → eqb (w % n.size) 0 ≡ q
      → cond p (Err (fault 7 n.place))
      (cond q (Ok (record { count = n.size; width = w / n.size; next = m })) (Err (fault 7 n.place)))
      ≡ Ok s → GoodSpread s
  by true q e f g = none cc
  by false false e f g = none cc
  by false true e f g =
      let j : record { count = n.size; width = w / n.size; next = m } ≡ s = cc in
      let a = eqb-false n.size 0 e in
      let b = whole_some w n.size h (eqb-true (w % n.size) 0 f) in
      rw (← j) (record { some = omega arith; wide = b })

pub spread_good : (d : List ℕ) (t : OrFault ℕ) (w : ℕ) (s : Subfields) → 1 ≤ w → spread_rest d t w ≡ Ok s → GoodSpread s
unfolding spread_rest fields_of even_of
spread_good d t w s h = by (number_on d t) (choice_of d (gap_on d (past_number (number_on d t))) OF)
    (gap_on d (past_number (number_on d t))) where
      two : (x : Figures) (b : OrFault Figures) → fields_of (Ok x) b ≡ Ok s → GoodSpread s
      two x (Ok y) e = fields_good x y y.next s e
      two x (Err f) e = none cc

      by : (a : OrFault Figures) (k : Choice) (g : OrFault ℕ) → rest d a w g k ≡ Ok s → GoodSpread s
      by (Err f) (Taken m) g e = none cc
      by (Err f) Left g e = none cc
      by (Ok x) (Taken m) g e = two x (number_on d (Ok m)) e
      by (Ok x) Left (Ok n) e = even_good x w n s h e
      by (Ok x) Left (Err f) e = none cc

-- ---- SIZE
pub size_good : (d : List ℕ) (t : OrFault ℕ) (x : Figures) → size_on d t ≡ Ok x → (1 ≤ x.size) × (x.size ≤ 4096)
unfolding size_on judge_size
size_good d t x = by (number_on d (statement_on d t SIZE)) where
  sized : (y : Figures) (p q : Bool) → eqb y.size 0 ≡ p → ltb 4096 y.size ≡ q
      → cond p (Err (fault 7 y.place)) (cond q (Err (fault 8 y.place)) (Ok y)) ≡ Ok x → (1 ≤ x.size)
      × (x.size ≤ 4096)
  sized y true q e f g = none cc
  sized y false true e f g = none cc
  sized y false false e f g =
      let j : y ≡ x = cc in
      let a = eqb-false y.size 0 e in
      let b = ltb-false 4096 y.size f in
      rw (← j) (omega arith, b)

  by : (n : OrFault Figures) → judge_size n ≡ Ok x → (1 ≤ x.size) × (x.size ≤ 4096)
  by (Ok y) e = sized y (eqb y.size 0) (ltb 4096 y.size) refl refl e
  by (Err f) e = none cc
