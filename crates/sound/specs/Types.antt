-- A row's columns by its type: the clauses of all types in the order in which they are looked at, each type with those that it has.
use Rattle.std.specs.Prelude.{◌≡◌, refl, Bool, true, false, cond, ◌&&◌, ◌||◌, ℕ, zero, suc, ◌+◌, ◌≤◌, eqb, pos}
use Rattle.std.proofs.Common.{sym, ⊎_elim, eq-or-lt_of_le, arith}
use borrow.Author.Tests.{eqb-true, eqb-false, leb-true, le-leb, lt-leb, ne_eqb}
use Rattle.std.proofs.Math.Dec.{leb}
use Rattle.below.specs.rule.Below.{◌and◌}
use Rattle.below.specs.Below.{and_both, both_and, and_left, and_right, and_true, same_bool, either_true, or_true, holds_not}
use Rattle.cells.specs.rule.Cell.{eq_z}
use Rattle.layout.specs.declared.Columns.{Columns}
use Rattle.sound.specs.rule.Sound.{type_known, decimals_few, range_flag, point_known, lacked_zero, range_lacked, point_given, shares_given}
use Rattle.sound.specs.rule.Sound.{values_given, counts_good}
use Rattle.sound.specs.rule.Sound.{ident_good, position_good, subfields_good, texts_good, places_good, columns_good}

-- no decimals and no point; no subfields; a point with few decimals, of code 2 with some, or neither
abbrev pub whole_is : Columns → Bool
whole_is c = eqb c.decimals 0 && eqb c.point 0

abbrev pub undivided_is : Columns → Bool
undivided_is c = eqb c.subfields 0 && eqb c.subwidth 0

abbrev pub format_good : Columns → Bool
format_good c =
    cond (eqb c.point 0) (eqb c.decimals 0) ((eqb c.point 1 || (eqb c.point 2 && leb 1 c.decimals)) && leb c.decimals 9)

-- the ends of a range that is not there; a range or a line; neither
abbrev pub unranged_is : Columns → Bool
unranged_is c = eq_z c.from (pos 0) && eq_z c.to (pos 0)

abbrev pub valued_is : Columns → Bool
valued_is c = cond (eqb c.range 1) true (eqb c.range 0 && unranged_is c && leb 1 c.lines)

abbrev pub valueless_is : Columns → Bool
valueless_is c = eqb c.range 0 && eqb c.lines 0 && unranged_is c

-- the clauses that rows of all types have, and those that go by the type
unfoldable pub shared_good : ℕ → ℕ → Columns → Bool
shared_good e before c =
    ident_good c and position_good c and texts_good c and eqb c.before before and leb (before + c.lines) e

unfoldable pub type_good : Columns → Bool
type_good c = counts_good c and subfields_good c and range_lacked c

-- ---- laws
pub columns_shared : (e before : ℕ) (c : Columns) → columns_good e before c ≡ (shared_good e before c and type_good c)
unfolding columns_good places_good shared_good type_good
columns_shared e before c =
    same_bool _ _
    (λ g.
    let g4 = and_both g in
    let g3 = and_both g4.0 in
    let g2 = and_both g3.0 in
    let g1 = and_both g2.0 in
    let p3 = and_both g1.1 in
    let p2 = and_both p3.0 in
    let p1 = and_both p2.0 in
    both_and (both_and (both_and (both_and (both_and p1.0 p1.1) p3.1) g3.1) g4.1)
    (both_and (both_and g1.0 p2.1) g2.1))
    (λ g.
    let s4 = and_both (and_both g).0 in
    let s3 = and_both s4.0 in
    let s2 = and_both s3.0 in
    let s1 = and_both s2.0 in
    let t2 = and_both (and_both g).1 in
    let t1 = and_both t2.0 in
    let places = both_and (both_and (both_and s1.0 s1.1) t1.1) s2.1 in
    both_and (both_and (both_and (both_and t1.0 places) t2.1) s3.1) s4.1)

-- where a row's bytes stand
pub record Sited (c : Columns) : Type 0 where
  pub from_one : 1 ≤ c.start
  pub ordered : c.start ≤ c.finish
  pub low : c.finish ≤ 16384

module _ (e before : ℕ) (c : Columns) (g : shared_good e before c ≡ true) where
  pub shared_sited : Sited c
  unfolding shared_good
  shared_sited =
      let p = (and_both (and_both (and_both (and_both g).0).0).0).1 in
      let q = and_left (leb 1 c.start && leb c.start c.finish) (leb c.finish 16384) p in
      record {
        from_one = leb-true 1 c.start (and_left (leb 1 c.start) (leb c.start c.finish) q);
        ordered = leb-true c.start c.finish (and_right (leb 1 c.start) (leb c.start c.finish) q);
        low = leb-true c.finish 16384 (and_right (leb 1 c.start && leb c.start c.finish) (leb c.finish 16384) p);
      }

  pub shared_lines : (c.before ≡ before) × (before + c.lines ≤ e)
  unfolding shared_good
  shared_lines = (
    eqb-true c.before before (and_both (and_both g).0).1,
    leb-true (before + c.lines) e (and_both g).1,
  )

-- the clauses of typeGood, one by one
record Parts (c : Columns) : Type 0 where
  known : type_known c ≡ true
  decimals : decimals_few c ≡ true
  range : range_flag c ≡ true
  point : point_known c ≡ true
  lacked : lacked_zero c ≡ true
  plain : point_given c ≡ true
  shares : shares_given c ≡ true
  given : values_given c ≡ true
  subfields : subfields_good c ≡ true
  ends : range_lacked c ≡ true

module _ (c : Columns) where
  parts_of : type_good c ≡ true → Parts c
  unfolding type_good counts_good
  parts_of g =
      let t2 = and_both g in
      let t1 = and_both t2.0 in
      let n7 = and_both t1.0 in
      let n6 = and_both n7.0 in
      let n5 = and_both n6.0 in
      let n4 = and_both n5.0 in
      let n3 = and_both n4.0 in
      let n2 = and_both n3.0 in
      let n1 = and_both n2.0 in
      record {
        known = n1.0;
        decimals = n1.1;
        range = n2.1;
        point = n3.1;
        lacked = n4.1;
        plain = n5.1;
        shares = n6.1;
        given = n7.1;
        subfields = t1.1;
        ends = t2.1;
      }

  of_parts : Parts c → type_good c ≡ true
  unfolding type_good counts_good
  of_parts p =
      both_and (both_and (both_and (both_and (both_and (both_and (both_and (both_and (both_and p.known p.decimals) p.range)
      p.point) p.lacked) p.plain) p.shares) p.given) p.subfields) p.ends

  pub type_decimals : type_good c ≡ true → c.decimals ≤ 9
  type_decimals g = leb-true c.decimals 9 (parts_of g).decimals

  pub type_some : type_good c ≡ true → 1 ≤ c.kind
  type_some g = leb-true 1 c.kind (and_left (leb 1 c.kind) (leb c.kind 5) (parts_of g).known)

  pub type_subfields : type_good c ≡ true → subfields_good c ≡ true
  type_subfields g = (parts_of g).subfields

  -- a range or a line
  valued_of : leb c.range 1 ≡ true → (eqb c.range 1 || leb 1 c.lines) ≡ true → range_lacked c ≡ true → valued_is c ≡ true
  valued_of g v r = go (eqb c.range 1) (eqb c.range 0) refl refl v r
    where
      go : (a b : Bool) → eqb c.range 1 ≡ a → eqb c.range 0 ≡ b → (a || leb 1 c.lines) ≡ true → (a || unranged_is c) ≡ true
          → cond a true (b && unranged_is c && leb 1 c.lines) ≡ true
      go true b e f v r = refl
      go false true e f v r = rw (v, r)
      go false false e f v r =
          absurd (omega (arith, leb-true c.range 1 g, eqb-false c.range 1 e, eqb-false c.range 0 f))

  record Valued : Type 0 where
    range : leb c.range 1 ≡ true
    given : (eqb c.range 1 || leb 1 c.lines) ≡ true
    ends : range_lacked c ≡ true

  of_valued : valued_is c ≡ true → Valued
  of_valued = go (eqb c.range 1) refl
    where
      go : (a : Bool) → eqb c.range 1 ≡ a → cond a true (eqb c.range 0 && unranged_is c && leb 1 c.lines) ≡ true → Valued
      go true e v = let q = eqb-true c.range 1 e in record { range = rw q; given = rw e; ends = rw e }
      go false e v =
          let u = and_left (eqb c.range 0 && unranged_is c) (leb 1 c.lines) v in
          let q = eqb-true c.range 0 (and_left (eqb c.range 0) (unranged_is c) u) in
          record {
            range = rw q;
            given = rw (e, and_right (eqb c.range 0 && unranged_is c) (leb 1 c.lines) v);
            ends = rw e (and_right (eqb c.range 0) (unranged_is c) u);
          }

  -- a point and few decimals, some where its code is 2, or neither
  format_of : Parts c → format_good c ≡ true
  format_of p = go c.point refl p.point p.plain p.shares
    where
      go : (k : ℕ) → c.point ≡ k → leb k 2 ≡ true → (eqb c.decimals 0 || leb 1 k) ≡ true → (leb k 1 || leb 1 c.decimals) ≡ true
          → cond (eqb k 0) (eqb c.decimals 0) ((eqb k 1 || (eqb k 2 && leb 1 c.decimals)) && leb c.decimals 9) ≡ true
      go zero q a b s = ⊎_elim (λ x. x) (λ x. holds_not x refl) (either_true (eqb c.decimals 0) false b)
      go (suc zero) q a b s = p.decimals
      go (suc (suc zero)) q a b s = and_true (leb 1 c.decimals) (leb c.decimals 9) s p.decimals
      go (suc (suc (suc k))) q a b s = absurd (omega (arith, leb-true (suc (suc (suc k))) 2 a))

  record Formed : Type 0 where
    decimals : decimals_few c ≡ true
    point : point_known c ≡ true
    plain : point_given c ≡ true
    shares : shares_given c ≡ true

  of_format : format_good c ≡ true → Formed
  of_format = go c.point refl
    where
      go : (k : ℕ) → c.point ≡ k
          → cond (eqb k 0) (eqb c.decimals 0) ((eqb k 1 || (eqb k 2 && leb 1 c.decimals)) && leb c.decimals 9) ≡ true → Formed
      go zero q g =
          let d = eqb-true c.decimals 0 g in
          record { decimals = rw d; point = rw q; plain = rw d; shares = rw q }
      go (suc zero) q g = record { decimals = g; point = rw q; plain = rw q (or_true (eqb c.decimals 0)); shares = rw q }
      go (suc (suc zero)) q g = record {
        decimals = and_right (leb 1 c.decimals) (leb c.decimals 9) g;
        point = rw q;
        plain = rw q (or_true (eqb c.decimals 0));
        shares = rw q (and_left (leb 1 c.decimals) (leb c.decimals 9) g);
      }
      go (suc (suc (suc k))) q g =
          let n = suc (suc (suc k)) in
          holds_not g (rw (ne_eqb n 0 (λ e. omega arith), ne_eqb n 1 (λ e. omega arith), ne_eqb n 2 (λ e. omega arith)))

  -- what each type tests
  pub single_good : c.kind ≡ 1 → type_good c ≡ (whole_is c && undivided_is c && valued_is c)
  single_good q =
      same_bool _ _
      (λ g.
      let p = parts_of g in
      and_true (whole_is c && undivided_is c) (valued_is c) (and_left (whole_is c && undivided_is c) true (rw q at p.lacked))
      (valued_of p.range (rw q at p.given) p.ends))
      (λ g.
      let b = and_left (whole_is c && undivided_is c) (valued_is c) g in
      let w = and_left (whole_is c) (undivided_is c) b in
      let u = and_right (whole_is c) (undivided_is c) b in
      let d = eqb-true c.decimals 0 (and_left (eqb c.decimals 0) (eqb c.point 0) w) in
      let t = eqb-true c.point 0 (and_right (eqb c.decimals 0) (eqb c.point 0) w) in
      let s = eqb-true c.subfields 0 (and_left (eqb c.subfields 0) (eqb c.subwidth 0) u) in
      let m = eqb-true c.subwidth 0 (and_right (eqb c.subfields 0) (eqb c.subwidth 0) u) in
      let v = of_valued (and_right (whole_is c && undivided_is c) (valued_is c) g) in
      of_parts (record {
        known = rw q;
        decimals = rw d;
        point = rw t;
        range = v.range;
        lacked = rw (q, d, t, s, m);
        plain = rw d;
        shares = rw t;
        given = rw q v.given;
        subfields = rw (s, m);
        ends = v.ends;
      }))

  pub multiple_good : c.kind ≡ 2 → type_good c ≡ (whole_is c && subfields_good c && valued_is c)
  multiple_good q =
      same_bool _ _
      (λ g.
      let p = parts_of g in
      and_true (whole_is c && subfields_good c) (valued_is c)
      (and_true (whole_is c) (subfields_good c)
      (and_left (whole_is c) true (and_left (whole_is c && true) true (rw q at p.lacked))) p.subfields)
      (valued_of p.range (rw q at p.given) p.ends))
      (λ g.
      let b = and_left (whole_is c && subfields_good c) (valued_is c) g in
      let w = and_left (whole_is c) (subfields_good c) b in
      let d = eqb-true c.decimals 0 (and_left (eqb c.decimals 0) (eqb c.point 0) w) in
      let t = eqb-true c.point 0 (and_right (eqb c.decimals 0) (eqb c.point 0) w) in
      let v = of_valued (and_right (whole_is c && subfields_good c) (valued_is c) g) in
      of_parts (record {
        known = rw q;
        decimals = rw d;
        point = rw t;
        range = v.range;
        lacked = rw (q, d, t);
        plain = rw d;
        shares = rw t;
        given = rw q v.given;
        subfields = and_right (whole_is c) (subfields_good c) b;
        ends = v.ends;
      }))

  pub quantity_good : c.kind ≡ 3 → type_good c ≡ (undivided_is c && format_good c && valued_is c)
  quantity_good q =
      same_bool _ _
      (λ g.
      let p = parts_of g in
      and_true (undivided_is c && format_good c) (valued_is c)
      (and_true (undivided_is c) (format_good c) (and_left (undivided_is c) true (rw q at p.lacked)) (format_of p))
      (valued_of p.range (rw q at p.given) p.ends))
      (λ g.
      let b = and_left (undivided_is c && format_good c) (valued_is c) g in
      let u = and_left (undivided_is c) (format_good c) b in
      let f = of_format (and_right (undivided_is c) (format_good c) b) in
      let s = eqb-true c.subfields 0 (and_left (eqb c.subfields 0) (eqb c.subwidth 0) u) in
      let m = eqb-true c.subwidth 0 (and_right (eqb c.subfields 0) (eqb c.subwidth 0) u) in
      let v = of_valued (and_right (undivided_is c && format_good c) (valued_is c) g) in
      of_parts (record {
        known = rw q;
        decimals = f.decimals;
        point = f.point;
        range = v.range;
        lacked = rw (q, s, m);
        plain = f.plain;
        shares = f.shares;
        given = rw q v.given;
        subfields = rw (s, m);
        ends = v.ends;
      }))

  pub bare_good : 4 ≤ c.kind → c.kind ≤ 5 → type_good c ≡ (whole_is c && undivided_is c && valueless_is c)
  bare_good l h =
      let n3 = ne_eqb c.kind 3 (λ q. omega arith) in
      let n2 = ne_eqb c.kind 2 (λ q. omega arith) in
      let g3 = lt-leb c.kind 3 (omega arith) in
      same_bool _ _
      (λ g.
      let p = parts_of g in
      let k : (whole_is c && undivided_is c && (eqb c.range 0 && eqb c.lines 0)) ≡ true = rw (n3, n2, g3) at p.lacked in
      let z = and_right (whole_is c && undivided_is c) (eqb c.range 0 && eqb c.lines 0) k in
      let r = eqb-true c.range 0 (and_left (eqb c.range 0) (eqb c.lines 0) z) in
      and_true (whole_is c && undivided_is c) (valueless_is c) (and_left (whole_is c && undivided_is c) (eqb c.range 0 && eqb c.lines 0) k)
      (and_true (eqb c.range 0 && eqb c.lines 0) (unranged_is c) z (rw r at p.ends)))
      (λ g.
      let b = and_left (whole_is c && undivided_is c) (valueless_is c) g in
      let w = and_left (whole_is c) (undivided_is c) b in
      let u = and_right (whole_is c) (undivided_is c) b in
      let y = and_right (whole_is c && undivided_is c) (valueless_is c) g in
      let z = and_left (eqb c.range 0 && eqb c.lines 0) (unranged_is c) y in
      let d = eqb-true c.decimals 0 (and_left (eqb c.decimals 0) (eqb c.point 0) w) in
      let t = eqb-true c.point 0 (and_right (eqb c.decimals 0) (eqb c.point 0) w) in
      let s = eqb-true c.subfields 0 (and_left (eqb c.subfields 0) (eqb c.subwidth 0) u) in
      let m = eqb-true c.subwidth 0 (and_right (eqb c.subfields 0) (eqb c.subwidth 0) u) in
      let r = eqb-true c.range 0 (and_left (eqb c.range 0) (eqb c.lines 0) z) in
      let n = eqb-true c.lines 0 (and_right (eqb c.range 0) (eqb c.lines 0) z) in
      of_parts (record {
        known = rw (le-leb 1 c.kind (omega arith), le-leb c.kind 5 h);
        decimals = rw d;
        point = rw t;
        range = rw r;
        lacked = rw (n3, n2, g3, d, t, s, m, r, n);
        plain = rw d;
        shares = rw t;
        given = rw (le-leb 4 c.kind l);
        subfields = rw (s, m);
        ends = rw r (and_right (eqb c.range 0 && eqb c.lines 0) (unranged_is c) y);
      }))

  pub type_unknown : (c.kind ≡ 1 → ⊥) → (c.kind ≡ 2 → ⊥) → (c.kind ≡ 3 → ⊥) → (c.kind ≡ 4 → ⊥) → (c.kind ≡ 5 → ⊥)
      → type_good c ≡ false
  type_unknown n1 n2 n3 n4 n5 =
      same_bool _ _
      (λ g.
      let k = (parts_of g).known in
      let low = leb-true 1 c.kind (and_left (leb 1 c.kind) (leb c.kind 5) k) in
      let high = leb-true c.kind 5 (and_right (leb 1 c.kind) (leb c.kind 5) k) in
      absurd (not_above high (past (past (past (past (past low n1) n2) n3) n4) n5)))
      (λ e. holds_not e refl)
    where
      past : {n : ℕ} → n ≤ c.kind → (c.kind ≡ n → ⊥) → suc n ≤ c.kind
      past h n = ⊎_elim (λ q. absurd (n (sym q))) (λ l. l) (eq-or-lt_of_le h)

      not_above : c.kind ≤ 5 → 6 ≤ c.kind → ⊥
      not_above h l = omega arith
