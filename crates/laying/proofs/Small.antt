-- Columns that the test of a table passes are small enough for the numbers of a table.
use mathlib.Core.Path.{◌≡◌, refl, sym, ap, ◌∙◌}
use mathlib.Core.Logic.{◌⊎◌, inl, inr, ⊎_elim}
use mathlib.Core.Bool.{Bool, true, false, cond, ◌&&◌, ◌||◌, beq}
use Prim.Native.Nat.{◌+◌, ◌*◌, ◌≤◌}
use native.Mathlib.Nat.{mul-le-mul_left, mul-le-mul_right, mul-one, one-mul}
use native.Mathlib.Omega.{arith}
use borrow.Author.Tests.{eqb-true, eqb-false, eq-eqb, leb-true}
use lib.Dec.{eqb, leb}
use Rattle.below.specs.rule.Below.{◌and◌}
use Rattle.below.specs.Below.{and_both, and_left, and_right, either_true, holds_not}
use Rattle.layout.specs.rule.Row.{kind_of, row_of, spread_of}
use Rattle.layout.specs.Row.{kind_cases}
use Rattle.layout.specs.declared.Columns.{Columns}
use Rattle.layout.specs.declared.Kind.{Kind}
use Rattle.layout.specs.declared.Kind.TheVariants.{Multiple}
use Rattle.layout.specs.declared.Spread.TheVariants.{Bits, Fields}
use Rattle.sound.specs.rule.Sound.{ident_good, position_good, subfields_good, counts_good, places_good, room_good}
use Rattle.rows.specs.Cells.{SmallRow}

module _ (c : Columns) where
  -- only a MULTIPLE has subfields
  lacked_sub : counts_good c ≡ true → (c.kind ≡ 2) ⊎ ((c.subfields ≡ 0) × (c.subwidth ≡ 0))
  unfolding counts_good
  lacked_sub g =
      let n3 = and_both (and_both (and_both (and_both g).0).0).0 in
      let a = eqb c.kind 3 || eqb c.decimals 0 && eqb c.point 0 in
      let b = eqb c.kind 2 || eqb c.subfields 0 && eqb c.subwidth 0 in
      let e : b ≡ true = and_right a b (and_left (a && b) (leb c.kind 3 || eqb c.range 0 && eqb c.lines 0) n3.1) in
      ⊎_elim (λ x. inl (eqb-true c.kind 2 x))
      (λ x. inr (
        eqb-true c.subfields 0 (and_left (eqb c.subfields 0) (eqb c.subwidth 0) x),
        eqb-true c.subwidth 0 (and_right (eqb c.subfields 0) (eqb c.subwidth 0) x),
      ))
      (either_true (eqb c.kind 2) (eqb c.subfields 0 && eqb c.subwidth 0) e)

  record Few : Type 0 where
    width : c.width ≤ 16385
    subfields : c.subfields ≤ 16385
    subwidth : c.subwidth ≤ 16385

  module _ (low : c.finish ≤ 16384) where
    narrow : leb (c.start + c.width) (c.finish + 1) ≡ true → c.width ≤ 16385
    narrow e = omega (arith, leb-true (c.start + c.width) (c.finish + 1) e)

    plain_few : (c.subfields ≡ 0) × (c.subwidth ≡ 0) → room_good (kind_of c) (row_of c) ≡ true → Few
    unfolding room_good row_of
    plain_few z r = record { width = wide r; subfields = omega (arith, z.0); subwidth = omega (arith, z.1) }
      where
        wide : room_good (kind_of c) (row_of c) ≡ true → c.width ≤ 16385
        wide = kind_cases c (λ k. room_good k (row_of c) ≡ true → c.width ≤ 16385) (λ e. narrow) (λ e f. narrow) (λ e f. absurd (f z.0))
            (λ e. narrow) (λ e. narrow) narrow

    two_kind : c.kind ≡ 2 → kind_of c ≡ Multiple (spread_of c.subfields c.subwidth)
    unfolding kind_of
    two_kind k = rw k

    spread_few : (c.subwidth ≡ 0 → c.subfields ≡ 0) → (c.subfields ≡ 0 → c.subwidth ≡ 0) → c.kind ≡ 2 → room_good (kind_of c) (row_of c)
        ≡ true → Few
    unfolding spread_of room_good row_of
    spread_few f g k r = by (eqb c.subfields 0) refl (sym (ap (λ (q : Kind). room_good q (row_of c)) (two_kind k)) ∙ r) where
      by : (b : Bool) → eqb c.subfields 0 ≡ b → room_good (Multiple (cond b Bits (Fields c.subfields c.subwidth))) (row_of c) ≡ true
          → Few
      by true e i =
          let z = eqb-true c.subfields 0 e in
          record { width = narrow i; subfields = omega arith; subwidth = omega (arith, g z) }
      by false e i =
          let n = c.subfields in
          let w = c.subwidth in
          let z = eqb-false n 0 e in
          let o : 1 ≤ n = omega (arith, z) in
          let y : w ≡ 0 → ⊥ = λ q. z (f q) in
          let p : 1 ≤ w = omega (arith, y) in
          let q = leb-true (c.start + n * w) (c.finish + 1) (and_right (leb c.width w) (leb (c.start + n * w) (c.finish + 1)) i) in
          let u = leb-true c.width w (and_left (leb c.width w) (leb (c.start + n * w) (c.finish + 1)) i) in
          let a : n ≤ n * w = rw (mul-one n) at (mul-le-mul_left n p) in
          let b : w ≤ n * w = rw (one-mul w) at (mul-le-mul_right w o) in
          record { width = omega arith; subfields = omega arith; subwidth = omega arith }

beq_sym : (a b : Bool) → beq a b ≡ true → beq b a ≡ true
beq_sym true true e = refl
beq_sym true false e = e
beq_sym false true e = e
beq_sym false false e = refl

-- subfields are none just where they have no width
beq_zero : (a b : Bool) → beq a b ≡ true → a ≡ true → b ≡ true
beq_zero true true e f = refl
beq_zero true false e f = e
beq_zero false b e f = holds_not f refl

module _ (c : Columns) (counts : counts_good c ≡ true) (places : places_good c ≡ true) (room : room_good (kind_of c) (row_of c) ≡ true)
  where
    abbrev p2 : (ident_good c and position_good c) and subfields_good c ≡ true
    unfolding places_good
    p2 = (and_both places).0

    pub finish_low : c.finish ≤ 16384
    finish_low = leb-true c.finish 16384 (and_right (leb 1 c.start && leb c.start c.finish) (leb c.finish 16384)
        (and_both (and_both p2).0).1)

    start_low : c.start ≤ c.finish
    start_low = leb-true c.start c.finish (and_right (leb 1 c.start) (leb c.start c.finish)
        (and_left (leb 1 c.start && leb c.start c.finish) (leb c.finish 16384) (and_both (and_both p2).0).1))

    pub ident_low : c.ident ≤ 9999
    ident_low = leb-true c.ident 9999 (and_right (leb 1 c.ident) (leb c.ident 9999) (and_both (and_both p2).0).0)

    few : Few c
    few =
        ⊎_elim
        (λ k. spread_few c finish_low
        (λ z. eqb-true c.subfields 0 (beq_zero (eqb c.subwidth 0) (eqb c.subfields 0)
        (beq_sym (eqb c.subfields 0) (eqb c.subwidth 0) (and_both p2).1) (eq-eqb c.subwidth 0 z)))
        (λ z. eqb-true c.subwidth 0 (beq_zero (eqb c.subfields 0) (eqb c.subwidth 0) (and_both p2).1 (eq-eqb c.subfields 0 z)))
        k room)
        (λ z. plain_few c finish_low z room)
        (lacked_sub c counts)

    pub small_columns : c.before ≤ 4096 → c.lines ≤ 4096 → c.usage ≤ 2 → c.filter ≤ 512 → SmallRow c
    unfolding counts_good places_good
    small_columns b l u f =
        let n3 = and_both (and_both (and_both (and_both (and_both counts).0).0).0).0 in
        let n2 = and_both n3.0 in
        let n1 = and_both n2.0 in
        let x = (and_both places).1 in
        let t1 = leb c.name 1048576 in
        let t2 = leb c.name_len 1048576 in
        let t3 = leb c.label 1048576 in
        let t4 = leb c.label_len 1048576 in
        let x3 = and_left (t1 && t2 && t3) t4 x in
        let x2 = and_left (t1 && t2) t3 x3 in
        record {
          ident = omega (arith, ident_low);
          kind = omega (arith, leb-true c.kind 5 (and_right (leb 1 c.kind) (leb c.kind 5) n1.0));
          start = omega (arith, start_low, finish_low);
          finish = omega (arith, finish_low);
          width = omega (arith, few.width);
          decimals = omega (arith, leb-true c.decimals 9 n1.1);
          point = omega (arith, leb-true c.point 2 n3.1);
          subfields = omega (arith, few.subfields);
          subwidth = omega (arith, few.subwidth);
          range = omega (arith, leb-true c.range 1 n2.1);
          before = omega arith;
          lines = omega arith;
          name = omega (arith, leb-true c.name 1048576 (and_left t1 t2 x2));
          name_len = omega (arith, leb-true c.name_len 1048576 (and_right t1 t2 x2));
          label = omega (arith, leb-true c.label 1048576 (and_right (t1 && t2) t3 x3));
          label_len = omega (arith, leb-true c.label_len 1048576 (and_right (t1 && t2 && t3) t4 x));
          usage = omega arith;
          filter = omega arith;
        }
