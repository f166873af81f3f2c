-- A BLOCK WHOSE CHARGES ARE ALL CLEAR IS GOOD, as crate values says it of the blocks of 1.1: its numbers are within the limits of its type,
-- with
-- one count of decimals; its range is in order, its lines say different numbers. `fine_values` gives what measuring and the table ask for.
use Rattle.std.specs.Prelude.{◌≡◌, ◌⊎◌, Bool, cond, ◌&&◌, ◌||◌, eqb, ltb, ℤ, negsuc}
use Rattle.std.proofs.Math.Path.{refl}
use Rattle.std.proofs.Common.{◌∙◌, sym, ap, eq-or-lt_of_le, pow-suc, mul-one, mul_comm, mul_assoc, mul-le-mul_right, le_trans}
use Rattle.std.proofs.Math.Logic.{inl, inr, ⊎_elim}
use Rattle.std.proofs.Math.Bool.{true, false}
use mathlib.Core.List.{List, [], ◌∷◌, ◌++◌, map, append_assoc}
use Rattle.std.proofs.Math.Option.{Option, none, some}
use Prim.Native.Nat.{ℕ, zero, suc, ◌+◌, ◌-◌, ◌*◌, ◌^◌, ◌≤◌, ◌<◌}
use Rattle.std.proofs.Math.Nat.{pow-zero, one-mul}
use native.Mathlib.Omega.{arith}
use Rattle.std.proofs.Math.IntN.{pos}
use Rattle.std.proofs.Math.ListN.{length, length-append}
use Rattle.std.specs.Int.Signed.{le_z, lt_z}
use borrow.Author.Tests.{ltb-true, ltb-false, eqb-true, le-leb, not-false}
use Rattle.below.specs.Below.{holds_not, and_left, and_right}
use Rattle.cells.specs.rule.Cell.{signed_of, eq_z}
use Rattle.scan.specs.rule.Number.{is_digit, decimal_of}
use Rattle.scan.proofs.Orders.{digit_bounds}
use Rattle.values.specs.declared.Said.{Said}
use Rattle.values.specs.Value.{form_of, large_of, scaled_of, point_of}
use Rattle.values.specs.Line.{number_on, numbers, number_at}
use Rattle.values.specs.Good.{Limited, Near, GoodBlock, GoodLine, EachGood, GoodLines, GoodValues}
use Rattle.values.specs.Good as good
use Rattle.values.proofs.Goods.{Genuine, Fit, fits, value_limited}
use Rattle.values.proofs.Shares.{size_number}
use Rattle.values.proofs.Facts.{or_none, or_neither}
use Rattle.values.proofs.Rooms.{count_more, number_before, number_last}
use Rattle.survey.specs.rule.Survey.{Amount, Range, Line, Block}
use Rattle.survey.specs.rule.Width.{some_of, each_of, range_ends, amounts, scaled, decimals_in, bare, point_in}
use Rattle.survey.specs.rule.Table.{from_of, to_of}
use Rattle.reading.specs.rule.Token.{leading, after_point, begins, without, amount_read}
use Rattle.reading.specs.rule.Values.{form_is, large, unlike_amounts, with_line, range_from, unlisted}
use Rattle.bridge.specs.Blocks.{small}
use Rattle.xml_bridge.specs.Book.{value_as, said_as, saids, saids_count, saids_more, is_ranged, block_as}

none_of : {A : Type 0} → ◌≡◌ {A = ℕ} 0 1 → A
none_of e = absurd (omega arith)

-- ---- a value as its characters say it
behind_stops : (s : List ℕ) → leading (after_point s) ≡ []
unfolding leading after_point
behind_stops [] = refl
behind_stops (b ∷ s) = by (is_digit b) refl (behind_stops s) where
  by : (q : Bool) → is_digit b ≡ q → leading (after_point s) ≡ [] → leading (cond q (after_point s) (b ∷ s)) ≡ []
  by true e ih = ih
  by false e ih = rw e

undotted : (s : List ℕ) → leading s ≡ [] → begins 46 s ≡ false → leading (without 46 s) ≡ []
unfolding begins without
undotted [] h e = h
undotted (b ∷ s) h e = rw e h

-- a digit more, a power more
step : (n d k : ℕ) → d ≤ 9 → (n * 10 + d + 1) * 10 ^ k ≤ (n + 1) * 10 ^ suc k
step n d k h =
    let e : (n + 1) * 10 ^ suc k ≡ ((n + 1) * 10) * 10 ^ k = rw (pow-suc, mul_comm (10 ^ k) 10, ← mul_assoc) in
    let l : n * 10 + d + 1 ≤ (n + 1) * 10 = omega arith in
    rw e (mul-le-mul_right (10 ^ k) l)

digits_below : (s : List ℕ) (n : ℕ) → decimal_of n (leading s) + 1 ≤ (n + 1) * 10 ^ length (leading s)
unfolding leading decimal_of
digits_below [] n = rw (pow-zero, mul-one) (omega arith)
digits_below (b ∷ s) n = by (is_digit b) refl (digits_below s (n * 10 + (b - 48))) where
  by : (x : Bool) → is_digit b ≡ x
      → decimal_of (n * 10 + (b - 48)) (leading s) + 1 ≤ (n * 10 + (b - 48) + 1) * 10 ^ length (leading s)
      → decimal_of n (cond x (b ∷ leading s) []) + 1 ≤ (n + 1) * 10 ^ length (cond x (b ∷ leading s) [])
  by true e ih = le_trans ih (step n (b - 48) (length (leading s)) (omega (arith, (digit_bounds b e).1)))
  by false e ih = rw (pow-zero, mul-one) (omega arith)

empty_is : (s : List ℕ) → length s ≡ 0 → s ≡ []
empty_is [] e = refl
empty_is (b ∷ s) e = absurd (omega arith)

module _ (place end : ℕ) (s : List ℕ) where
  abbrev a : Amount
  a = amount_read place end s

  amount_pointed : (a.decimals ≡ 0) ⊎ (a.point ≡ true)
  unfolding amount_read
  amount_pointed = by (begins 46 (after_point (without 45 s))) refl where
    by : (q : Bool) → begins 46 (after_point (without 45 s)) ≡ q
        → (length (leading (without 46 (after_point (without 45 s)))) ≡ 0) ⊎ (q ≡ true)
    by true e = inr refl
    by false e = inl (ap length (undotted (after_point (without 45 s)) (behind_stops (without 45 s)) e))

  amount_some : a.formed ≡ true → (0 < a.whole) ⊎ (0 < a.decimals)
  unfolding amount_read
  amount_some e =
      let u = leading (without 45 s) in
      let v = leading (without 46 (after_point (without 45 s))) in
      let h = ltb-true 0 (length (u ++ v)) (and_right (eqb (length (after_point (without 46 (after_point (without 45 s))))) 0)
      (ltb 0 (length (u ++ v))) e) in
      by (length u) (length v) (omega (arith, length-append u v))
    where
      by : (m n : ℕ) → 0 < m + n → (0 < m) ⊎ (0 < n)
      by zero n h = inr (omega arith)
      by (suc m) n h = inl (omega arith)

  amount_near : a.whole ≡ 0 → a.size < 10 ^ a.decimals
  unfolding amount_read decimal_of
  amount_near e =
      let v = leading (without 46 (after_point (without 45 s))) in
      let h : decimal_of 0 v + 1 ≤ 10 ^ length v = rw one-mul at (digits_below (without 46 (after_point (without 45 s))) 0) in
      rw (empty_is (leading (without 45 s)) e) (omega (arith, h))

-- ---- a value in form, within the limits of its type
pub record Sound (quantity : Bool) (a : Amount) : Type 0 where
  pub pointed : (a.decimals ≡ 0) ⊎ (a.point ≡ true)
  pub fit : Fit quantity (value_as a)

pub amount_sound : (quantity : Bool) (place end : ℕ) (s : List ℕ) → form_is quantity (amount_read place end s) ≡ true
    → large quantity (amount_read place end s) ≡ false → Sound quantity (amount_read place end s)
unfolding form_is large form_of large_of
amount_sound quantity place end s f l =
    let g : Genuine (amount_read place end s).size (value_as (amount_read place end s)) = record {
      pointed = amount_pointed place end s;
      sized = sym (small quantity (amount_read place end s) l);
      some = amount_some place end s;
      near = amount_near place end s;
    } in
    record {
      pointed = amount_pointed place end s;
      fit = fits (amount_read place end s).size quantity (value_as (amount_read place end s)) g f l;
    }

-- ---- what holds of each number of a block
pub data Every (P : Amount → Type 0) : List Amount → Type 0 where
  nothing : Every P []
  more : {a : Amount} {l : List Amount} → P a → Every P l → Every P (a ∷ l)

module _ {P : Amount → Type 0} where
  every_more : {l : List Amount} {a : Amount} → Every P l → P a → Every P (l ++ a ∷ [])
  every_more nothing h = more h nothing
  every_more (more g r) h = more g (every_more r h)

  every_right : (l m : List Amount) → Every P (l ++ m) → Every P m
  every_right [] m h = h
  every_right (x ∷ l) m (more g r) = every_right l m r

abbrev InOrder : Option Range → Type 0
InOrder none = Unit
InOrder (some r) = le_z (scaled r.from) (scaled r.to) ≡ true

-- `before` lines stand before those of the block
pub record Fine (quantity : Bool) (before : ℕ) (b : Block) : Type 0 where
  pub each : Every (Sound quantity) (amounts b)
  pub alike : Every (λ a. a.decimals ≡ decimals_in (amounts b)) (amounts b)
  pub ordered : InOrder b.range
  pub lines : GoodLines quantity before (saids b.lines)

not_below : (a b : ℤ) → lt_z b a ≡ false → le_z a b ≡ true
not_below (pos a) (pos b) e = le-leb a b (ltb-false b a e)
not_below (pos a) (negsuc b) e = holds_not refl e
not_below (negsuc a) (pos b) e = refl
not_below (negsuc a) (negsuc b) e = le-leb b a (ltb-false a b e)

-- ---- nothing yet, a range, a line more
module _ (quantity : Bool) (before : ℕ) where
  no_lines : before ≤ 4096 → GoodLines quantity before (saids [])
  unfolding saids
  no_lines r = record {
    few = omega arith;
    limited = λ i e. absurd (omega arith);
    differ = λ i j a e. absurd (omega arith);
    each = good.none;
  }

  pub fine_none : before ≤ 4096 → Fine quantity before (unlisted none)
  unfolding amounts
  fine_none h = record { each = nothing; alike = nothing; ordered = tt; lines = no_lines h }

  pub fine_range : (a b : Amount) → before ≤ 4096 → Sound quantity a → Sound quantity b → unlike_amounts a b ≡ false
      → lt_z (scaled b) (scaled a) ≡ false → Fine quantity before (unlisted (some (range_from a b)))
  unfolding amounts
  fine_range a b h x y u o =
      let e : a.decimals ≡ b.decimals = eqb-true a.decimals b.decimals (not-false (eqb a.decimals b.decimals) u) in
      record {
        each = more x (more y nothing);
        alike = more refl (more (sym e) nothing);
        ordered = not_below (scaled a) (scaled b) o;
        lines = no_lines h;
      }

  module _ (b : Block) (x : Line) (f : Fine quantity before b) where
    map_more : (l : List Line) → map (λ l. l.value) (l ++ x ∷ []) ≡ map (λ l. l.value) l ++ x.value ∷ []
    map_more [] = refl
    map_more (y ∷ l) = rw (map_more l)

    amounts_more : amounts (with_line b x) ≡ amounts b ++ x.value ∷ []
    unfolding amounts
    amounts_more =
        rw (map_more b.lines) (sym (append_assoc (range_ends b.range) (map (λ l. l.value) b.lines) (x.value ∷ [])))

    -- one count of decimals
    first_stays : (l : List Amount) → some_of (unlike_amounts x.value) l ≡ false → Every (λ a. a.decimals ≡ decimals_in l) l
        → Every (λ a. a.decimals ≡ decimals_in (l ++ x.value ∷ [])) (l ++ x.value ∷ [])
    unfolding some_of
    first_stays [] e h = more refl nothing
    first_stays (y ∷ l) e h =
        let u = or_none (unlike_amounts x.value y) (some_of (unlike_amounts x.value) l) e in
        every_more h (eqb-true x.value.decimals y.decimals (not-false (eqb x.value.decimals y.decimals) u))

    -- no line before says its number
    fresh_at : (l : List Line) → some_of (λ l. eq_z (scaled l.value) (scaled x.value)) l ≡ false → (i : ℕ) → i < length (saids l)
        → eq_z (number_at (saids l) i) (scaled x.value) ≡ false
    unfolding some_of saids number_at numbers scaled_of
    fresh_at [] e i h = absurd (omega arith)
    fresh_at (y ∷ l) e zero h = or_none (eq_z (scaled y.value) (scaled x.value))
        (some_of (λ l. eq_z (scaled l.value) (scaled x.value)) l) e
    fresh_at (y ∷ l) e (suc i) h =
        fresh_at l (or_neither (eq_z (scaled y.value) (scaled x.value)) (some_of (λ l. eq_z (scaled l.value) (scaled x.value)) l)
        e) i
        (omega arith)

    each_more : {l : List Said} {s : Said} → EachGood l → GoodLine s → EachGood (l ++ s ∷ [])
    each_more good.none g = good.more g good.none
    each_more (good.more h r) g = good.more h (each_more r g)

    lines_more : Limited quantity (scaled x.value) → some_of (λ l. eq_z (scaled l.value) (scaled x.value)) b.lines ≡ false
        → before + length b.lines < 4096 → GoodLine (said_as x) → GoodLines quantity before (saids (b.lines ++ x ∷ []))
    unfolding scaled_of
    lines_more n r h k = rw (saids_more b.lines x) (record {
      few = omega (arith, count_more l (said_as x), saids_count b.lines);
      limited = λ i e. ⊎_elim (λ q. rw (last i q) n) (λ m. rw (number_before l (said_as x) i m) (f.lines.limited i m)) (last_or i e);
      differ = λ i j a e.
          ⊎_elim
          (λ q. let m : i < length l = omega arith in rw (last j q, number_before l (said_as x) i m) (fresh_at b.lines r i m))
          (λ m. let o : i < length l = omega arith in
          rw (number_before l (said_as x) i o, number_before l (said_as x) j m) (f.lines.differ i j a m))
          (last_or j e);
      each = each_more f.lines.each k;
    })
      where
        l : List Said
        l = saids b.lines

        last_or : (i : ℕ) → i < length (l ++ said_as x ∷ []) → (i ≡ length l) ⊎ (i < length l)
        last_or i e = let m : i ≤ length l = omega (arith, count_more l (said_as x)) in eq-or-lt_of_le m

        last : (i : ℕ) → i ≡ length l → number_at (l ++ said_as x ∷ []) i ≡ number_on (said_as x)
        last i q = ap (number_at (l ++ said_as x ∷ [])) q ∙ number_last l (said_as x)

    pub fine_line : Sound quantity x.value → some_of (unlike_amounts x.value) (amounts b) ≡ false
        → some_of (λ l. eq_z (scaled l.value) (scaled x.value)) b.lines ≡ false → before + length b.lines < 4096
        → GoodLine (said_as x) → Fine quantity before (with_line b x)
    unfolding scaled_of
    fine_line s u r h k = record {
      each = rw amounts_more (every_more f.each s);
      alike = rw amounts_more (first_stays (amounts b) u f.alike);
      ordered = f.ordered;
      lines = lines_more (value_limited quantity (value_as x.value) s.fit) r h k;
    }

-- ---- A FINE BLOCK IS GOOD
code_two : (l : List Amount) → point_in l ≡ 2 → each_of bare l ≡ true
code_two l = by (some_of (λ a. a.point) l) (each_of bare l) where
  by : (p q : Bool) → ◌≡◌ {A = ℕ} (cond p (cond q 2 1) 0) 2 → q ≡ true
  by true true e = refl
  by true false e = absurd (omega arith)
  by false q e = absurd (omega arith)

code_most : (l : List Amount) → point_in l ≤ 2
code_most l = by (some_of (λ a. a.point) l) (each_of bare l) where
  by : (p q : Bool) → cond p (cond q 2 1) 0 ≤ 2
  by true true = omega arith
  by true false = omega arith
  by false q = omega arith

code_some : (a : Amount) (l : List Amount) → a.point ≡ true → 1 ≤ point_in (a ∷ l)
unfolding some_of
code_some a l e = by a.point (each_of bare (a ∷ l)) e where
  by : (p q : Bool) → p ≡ true → 1 ≤ cond (p || some_of (λ (x : Amount). x.point) l) (cond q 2 1) 0
  by true true e = omega arith
  by true false e = omega arith
  by false q e = none_of cc

bare_code : (a : Amount) → bare a ≡ true → point_of (value_as a) ≡ 2
bare_code a = by a.point (eqb a.whole 0) where
  by : (p q : Bool) → (p && q) ≡ true → ◌≡◌ {A = ℕ} (cond p (cond q 2 1) 0) 2
  by true true e = refl
  by true false e = none_of cc
  by false q e = none_of cc

module _ (quantity : Bool) where
  pointless : (l : List Amount) → quantity ≡ false → Every (Sound quantity) l → some_of (λ a. a.point) l ≡ false
  unfolding some_of
  pointless [] q nothing = refl
  pointless (a ∷ l) q (more s r) = rw ((s.fit.category q).1, pointless l q r)

  abbrev Nearer : ℕ → Amount → Type 0
  Nearer n a = (signed_of (scaled a)).size < 10 ^ n

  nearer : (n : ℕ) {l : List Amount} → Every (Sound quantity) l → Every (λ a. a.decimals ≡ n) l → each_of bare l ≡ true → Every (Nearer n) l
  unfolding each_of
  nearer n nothing nothing e = nothing
  nearer n (more {a = a} {l = l} s r) (more h t) e =
      more {a = a} (rw (size_number a.minus a.size, ← h) (s.fit.share (bare_code a (and_left (bare a) (each_of bare l) e))).1)
      (nearer n r t (and_right (bare a) (each_of bare l) e))

  near_line : (n : ℕ) (l : List Line) → Every (Nearer n) (map (λ x. x.value) l) → (i : ℕ) → i < length (saids l)
      → (signed_of (number_at (saids l) i)).size < 10 ^ n
  unfolding saids number_at numbers scaled_of
  near_line n [] h i e = absurd (omega arith)
  near_line n (x ∷ l) (more g r) zero e = g
  near_line n (x ∷ l) (more g r) (suc i) e = near_line n l r i (omega arith)

  module _ (before : ℕ) (b : Block) (f : Fine quantity before b) where
    near_all : point_in (amounts b) ≡ 2 → Every (Nearer (decimals_in (amounts b))) (amounts b)
    near_all e = nearer (decimals_in (amounts b)) f.each f.alike (code_two (amounts b) e)

    few_decimals : (l : List Amount) → Every (Sound quantity) l → decimals_in l ≤ 9
    few_decimals [] nothing = omega arith
    few_decimals (a ∷ l) (more s r) = s.fit.places

    pointed_in : (l : List Amount) → Every (Sound quantity) l → (decimals_in l ≡ 0) ⊎ (1 ≤ point_in l)
    pointed_in [] nothing = inl refl
    pointed_in (a ∷ l) (more s r) = ⊎_elim inl (λ p. inr (code_some a l p)) s.pointed

    shared_in : (l : List Amount) → Every (Sound quantity) l → point_in l ≡ 2 → 1 ≤ decimals_in l
    unfolding some_of each_of
    shared_in [] nothing e = absurd (omega arith)
    shared_in (a ∷ l) (more s r) e = (s.fit.share (bare_code a (and_left (bare a) (each_of bare l) (code_two (a ∷ l) e)))).0

    category_in : (l : List Amount) → quantity ≡ false → Every (Sound quantity) l → (decimals_in l ≡ 0) × (point_in l ≡ 0)
    unfolding some_of
    category_in [] q nothing = (refl, refl)
    category_in (a ∷ l) q (more s r) =
        (⊎_elim (λ e. e) (λ p. holds_not p (s.fit.category q).1) s.pointed, rw (pointless (a ∷ l) q (more s r)))

    pub fine_block : GoodBlock quantity (block_as b)
    unfolding amounts scaled_of
    fine_block = record {
      few_decimals = few_decimals (amounts b) f.each;
      point_code = code_most (amounts b);
      pointed = pointed_in (amounts b) f.each;
      shared = shared_in (amounts b) f.each;
      category = λ q. category_in (amounts b) q f.each;
      unranged = unranged_by b.range;
      ordered = ordered_by b.range f.ordered;
      from_limited = λ e. (ends_by b.range e f.each).0;
      to_limited = λ e. (ends_by b.range e f.each).1;
      from_near = λ e p. (near_by b.range e (near_all p)).0;
      to_near = λ e p. (near_by b.range e (near_all p)).1;
    }
      where
        unranged_by : (o : Option Range) → is_ranged o ≡ false → (from_of o ≡ pos 0) × (to_of o ≡ pos 0)
        unranged_by none e = (refl, refl)
        unranged_by (some r) e = none_of cc

        ordered_by : (o : Option Range) → InOrder o → is_ranged o ≡ true → le_z (from_of o) (to_of o) ≡ true
        ordered_by none h e = none_of cc
        ordered_by (some r) h e = h

        ends_by : (o : Option Range) → is_ranged o ≡ true → Every (Sound quantity) (range_ends o ++ map (λ x. x.value) b.lines)
            → Limited quantity (from_of o) × Limited quantity (to_of o)
        ends_by none e h = none_of cc
        ends_by (some r) e (more g (more k t)) =
            (value_limited quantity (value_as r.from) g.fit, value_limited quantity (value_as r.to) k.fit)

        near_by : (o : Option Range) → is_ranged o ≡ true
            → Every (Nearer (decimals_in (amounts b))) (range_ends o ++ map (λ x. x.value) b.lines)
            → ((signed_of (from_of o)).size < 10 ^ decimals_in (amounts b)) × ((signed_of (to_of o)).size < 10 ^ decimals_in (amounts b))
        near_by none e h = none_of cc
        near_by (some r) e (more g (more k t)) = (g, k)

    pub fine_near : (i : ℕ) → i < length (saids b.lines) → Near (block_as b) (number_at (saids b.lines) i)
    unfolding amounts
    fine_near i h p = near_line (decimals_in (amounts b)) b.lines
        (every_right (range_ends b.range) (map (λ x. x.value) b.lines) (near_all p)) i h

    pub fine_values : (is_ranged b.range ≡ true) ⊎ (1 ≤ length b.lines) → GoodValues quantity before (block_as b) (saids b.lines)
    fine_values s = record {
      block = fine_block;
      lines = f.lines;
      near = fine_near;
      something = ⊎_elim inl (λ h. inr (rw (saids_count b.lines) h)) s;
    }
