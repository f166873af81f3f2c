-- A BLOCK THAT WAS READ IS GOOD: the limits of its type, its range and its lines, as values' specs/Good says it of the books.
use mathlib.Core.Path.{◌≡◌, refl, ◌∙◌, sym, ap}
use mathlib.Core.Logic.{◌⊎◌, inl, inr, ⊎_elim}
use mathlib.Core.Bool.{Bool, true, false, cond, ◌||◌}
use mathlib.Core.List.{List, [], ◌∷◌, ◌++◌, map, append_assoc}
use mathlib.Core.Option.{Option, none, some}
use Prim.Native.Nat.{ℕ, zero, suc, ◌+◌, ◌-◌, ◌*◌, ◌^◌, ◌≤◌, ◌<◌}
use native.Mathlib.Nat.{pow-suc, pow-zero, mul-one, one-mul, mul_comm, mul_assoc, mul-le-mul_right, le_trans, eq-or-lt_of_le}
use native.Mathlib.Omega.{arith}
use lib.Dec.{eqb, ltb}
use lib.IntN.{ℤ, pos, negsuc}
use lib.ListN.{length, length-append}
use lib.Signed.{le_z, lt_z}
use borrow.Author.Tests.{ltb-true, ltb-false, le-leb, leb-false, eqb-true, eqb-false, not-false}
use Rattle.below.specs.Below.{holds_not, and_left, and_right, any_holds}
use Rattle.cells.specs.rule.Cell.{signed_of, eq_z}
use Rattle.scan.specs.rule.Number.{is_digit, decimal_of}
use Rattle.scan.specs.Number.{capped}
use Rattle.scan.proofs.Orders.{digit_bounds}
use Rattle.scan.specs.rule.Loop.{Again}
use Rattle.layout.specs.rule.Layout.{most_lines}
use Rattle.markup.specs.rule.Grammar.{Each, no_more, each}
use Rattle.markup.specs.declared.Skip.{Skip}
use Rattle.markup.specs.declared.Skip.TheVariants as skip
use Rattle.tags.specs.rule.Tag.{is_named}
use Rattle.tags.specs.declared.Held.{Held}
use Rattle.tags.specs.declared.Tag.{Tag}
use Rattle.tags.specs.declared.Tag.TheVariants as tag
use Rattle.pairs.specs.rule.Stand.{stand_of, shut_of, bare_of}
use Rattle.pairs.specs.declared.Stand.{Stand}
use Rattle.pairs.specs.declared.Stand.TheVariants as stand
use Rattle.elements.proofs.Bounds.{start_within}
use Rattle.values.specs.declared.Said.{Said}
use Rattle.values.specs.Value.{scaled_of, point_of}
use Rattle.values.specs.Line.{number_on, numbers, number_at, repeated_in}
use Rattle.values.specs.Good as good
use Rattle.values.specs.Good.{Limited, Near, GoodBlock, GoodLine, EachGood, GoodLines, GoodValues}
use Rattle.values.proofs.Facts.{or_none}
use Rattle.values.proofs.Rooms.{count_more, number_before, number_last}
use Rattle.values.proofs.Shares.{size_number}
use Rattle.values.proofs.Goods.{Genuine, Fit, fits, value_limited}
use Rattle.survey.specs.rule.Survey.{Amount, Range, Line, Block}
use Rattle.survey.specs.rule.Width.{some_of, each_of, range_ends, amounts, scaled, decimals_in, bare, point_in}
use Rattle.survey.specs.rule.Table.{from_of, to_of}
use Rattle.reading.specs.rule.Result.{Result, Is, Not, bind, turn, repeat}
use Rattle.reading.specs.rule.Values.{form_is, large, unlike_amounts, line_charges, with_line, unlisted}
use Rattle.bridge.specs.Lowest.{never, Clear, clear}
use Rattle.bridge.specs.Facts.{capped_small}
use Rattle.bridge.specs.Blocks.{form_same, large_same, small}
use Rattle.amounts.proofs.Exactly.{Behind, nothing, point, Spelt, is_spelt}
use Rattle.xml_reading.specs.rule.Word.{VALUES, VALUE, RANGE}
use Rattle.xml_reading.specs.rule.Open.{Open, start, shut, on_shut, opened, within_element, on_bare, misplaced, either_element, due}
use Rattle.xml_reading.specs.rule.Element.{chars_of, amount_in}
use Rattle.xml_reading.specs.rule.Block.{range, line, lined, on_open, another_line}
use Rattle.xml_reading.specs.rule.Block as block
use Rattle.blocks.specs.Code.{held_as, has_range, block_of, said_of, told, Small, range_block}
use Rattle.blocks.specs.Lines.{range_read}
use Rattle.blocks.proofs.Told.{told_more, told_count, small_more, told_repeats}
use Rattle.blocks.proofs.Heard.{Stood, LineTold, line_told, RangeTold, range_told}
use Rattle.blocks.proofs.Parts.{formed_of}
use Rattle.blocks.proofs.Turns.{range_sound, due_again, values_unknown, values_empty, values_open, values_fault}

-- ---- a value in form
step : (n d k : ℕ) → d ≤ 9 → (n * 10 + d + 1) * 10 ^ k ≤ (n + 1) * 10 ^ suc k
step n d k h =
    let e : (n + 1) * 10 ^ suc k ≡ ((n + 1) * 10) * 10 ^ k = rw (pow-suc, mul_comm (10 ^ k) 10, ← mul_assoc) in
    let l : n * 10 + d + 1 ≤ (n + 1) * 10 = omega arith in
    rw e (mul-le-mul_right (10 ^ k) l)

digits_room : {s : List ℕ} → Each is_digit s → (n : ℕ) → decimal_of n s + 1 ≤ (n + 1) * 10 ^ length s
unfolding decimal_of
digits_room no_more n = rw (pow-zero, mul-one) (omega arith)
digits_room (each {b} {s} e r) n =
    le_trans (digits_room r (n * 10 + (b - 48))) (step n (b - 48) (length s) (omega (arith, (digit_bounds b e).1)))

behind_digits : {p : Bool} {ds t : List ℕ} → Behind p ds t → Each is_digit ds
behind_digits nothing = no_more
behind_digits (point d) = d

behind_pointed : {p : Bool} {ds t : List ℕ} → Behind p ds t → (length ds ≡ 0) ⊎ (p ≡ true)
behind_pointed nothing = inl refl
behind_pointed (point d) = inr refl

some_of_lem : (m n : ℕ) → 0 < m + n → (0 < m) ⊎ (0 < n)
some_of_lem zero n h = inr (omega arith)
some_of_lem (suc m) n h = inl (omega arith)

cap_low : (n : ℕ) → capped n ≤ n
cap_low n = by (ltb 1000000000000000 n) refl where
  by : (x : Bool) → ltb 1000000000000000 n ≡ x → cond x 1000000000000000 n ≤ n
  by true e = omega (arith, ltb-true 1000000000000000 n e)
  by false e = omega arith

none_of : (s : List ℕ) → length s ≡ 0 → s ≡ []
none_of [] e = refl
none_of (b ∷ s) e = absurd (omega arith)

module _ {p e : ℕ} {cs : List ℕ} {a : Amount} (s : Spelt p e cs a) where
  spelt_near : a.whole ≡ 0 → a.size < 10 ^ a.decimals
  spelt_near h =
      let w : length s.whole ≡ 0 = sym (ap (λ (x : Amount). x.whole) s.says) ∙ h in
      let z = none_of s.whole w in
      let i : a.size ≡ decimal_of 0 s.decimals = ap (λ (x : Amount). x.size) s.says ∙ rw z in
      let j : a.decimals ≡ length s.decimals = ap (λ (x : Amount). x.decimals) s.says in
      let k : decimal_of 0 s.decimals + 1 ≤ 10 ^ length s.decimals = rw one-mul at (digits_room (behind_digits s.fraction) 0) in
      rw (i, j) (omega (arith, k))

  pub spelt_genuine : Genuine a.size (held_as a)
  spelt_genuine = record {
    pointed = ⊎_elim (λ h. inl (ap (λ (x : Amount). x.decimals) s.says ∙ h)) (λ h. inr (ap (λ (x : Amount). x.point) s.says ∙ h))
        (behind_pointed s.fraction);
    sized = refl;
    some = λ f.
        ⊎_elim (λ h. inl (rw (ap (λ (x : Amount). x.whole) s.says) h)) (λ h. inr (rw (ap (λ (x : Amount). x.decimals) s.says) h))
        (some_of_lem (length s.whole) (length s.decimals) (rw (length-append s.whole s.decimals) at s.some));
    near = λ h. let k = spelt_near h in let l = cap_low a.size in omega arith;
  }

-- ---- what is known of each number of a block: it is one in form, passes no limit, and has k decimals
pub record Fine (quantity : Bool) (k : ℕ) (a : Amount) : Type 0 where
  pub real : Genuine a.size (held_as a)
  pub fit : Fit quantity (held_as a)
  pub same : a.decimals ≡ k

pub stood_fine : (d : List ℕ) (quantity : Bool) (k : ℕ) {a : Amount} → Stood d a → form_is quantity a ≡ true → large quantity a ≡ false
    → a.decimals ≡ k → Fine quantity k a
unfolding amount_in
stood_fine d quantity k {a} s f g e =
    let r : Genuine a.size (held_as a) = rw s.says
    (spelt_genuine (is_spelt s.from s.to (chars_of d s.from s.to) (rw s.says at (formed_of quantity a f)))) in
    record {
      real = r;
      fit = fits a.size quantity (held_as a) r (form_same [] quantity a a.place a.end a.end ∙ f)
          (large_same [] quantity a a.place a.end a.end ∙ g);
      same = e;
    }

pub data Every {A : Type 0} (P : A → Type 0) : List A → Type 0 where
  nil : Every P []
  also : {a : A} {l : List A} → P a → Every P l → Every P (a ∷ l)

every_behind : {A : Type 0} {P : A → Type 0} (l m : List A) → Every P (l ++ m) → Every P m
every_behind [] m r = r
every_behind (a ∷ l) m (also p r) = every_behind l m r

every_more : {A : Type 0} {P : A → Type 0} {l : List A} {a : A} → Every P l → P a → Every P (l ++ a ∷ [])
every_more nil p = also p nil
every_more (also q r) p = also q (every_more r p)

-- the number that it says
said_is : {quantity : Bool} {k : ℕ} {a : Amount} → Fine quantity k a → scaled_of (held_as a) ≡ scaled a
unfolding scaled_of
said_is {a = a} f = let h = f.fit.small in rw (capped_small a.size (omega arith))

module _ (quantity : Bool) where
  few : (l : List Amount) → Every (Fine quantity (decimals_in l)) l → decimals_in l ≤ 9
  few [] nil = omega arith
  few (a ∷ l) (also f r) = f.fit.places

  code_low : (l : List Amount) → point_in l ≤ 2
  code_low l = by (some_of (λ (a : Amount). a.point) l) (each_of bare l) where
    by : (s e : Bool) → cond s (cond e 2 1) 0 ≤ 2
    by true true = omega arith
    by true false = omega arith
    by false e = omega arith

  some_point : (a : Amount) (l : List Amount) → a.point ≡ true → 1 ≤ point_in (a ∷ l)
  unfolding some_of
  some_point a l = by a.point (each_of bare (a ∷ l)) where
    by : (q e : Bool) → q ≡ true → 1 ≤ cond (q || some_of (λ (a : Amount). a.point) l) (cond e 2 1) 0
    by true true p = omega arith
    by true false p = omega arith
    by false e p = holds_not p refl

  pointed : (l : List Amount) → Every (Fine quantity (decimals_in l)) l → (decimals_in l ≡ 0) ⊎ (1 ≤ point_in l)
  pointed [] nil = inl refl
  pointed (a ∷ l) (also f r) = ⊎_elim (λ h. inl h) (λ p. inr (some_point a l p)) f.real.pointed

  all_bare : (l : List Amount) → point_in l ≡ 2 → each_of bare l ≡ true
  all_bare l = by (some_of (λ (a : Amount). a.point) l) (each_of bare l) where
    by : (s e : Bool) → ◌≡◌ {A = ℕ} (cond s (cond e 2 1) 0) 2 → e ≡ true
    by true true h = refl
    by true false h = absurd (omega arith)
    by false e h = absurd (omega arith)

  -- a number with no digit before its point
  abbrev Low : ℕ → Amount → Type 0
  Low k a = (1 ≤ k) × ((signed_of (scaled_of (held_as a))).size < 10 ^ k)

  bare_code : (a : Amount) → bare a ≡ true → point_of (held_as a) ≡ 2
  bare_code a e = rw (and_left a.point (eqb a.whole 0) e, and_right a.point (eqb a.whole 0) e)

  bare_low : {k : ℕ} {a : Amount} → Fine quantity k a → bare a ≡ true → Low k a
  unfolding scaled_of
  bare_low {k} {a} f e =
      let s = f.fit.share (bare_code a e) in
      rw (size_number a.minus (capped a.size)) (rw f.same at s)

  bare_lows : {k : ℕ} (l : List Amount) → Every (Fine quantity k) l → each_of bare l ≡ true → Every (Low k) l
  unfolding each_of
  bare_lows [] nil e = nil
  bare_lows (a ∷ l) (also f r) e = also (bare_low f (and_left (bare a) (each_of bare l) e))
      (bare_lows l r (and_right (bare a) (each_of bare l) e))

  shared : (l : List Amount) → Every (Fine quantity (decimals_in l)) l → point_in l ≡ 2 → 1 ≤ decimals_in l
  unfolding some_of
  shared [] nil e = absurd (none_code e) where
    none_code : point_in [] ≡ 2 → ⊥
    none_code h = omega arith
  shared (a ∷ l) (also f r) e = by (bare_lows (a ∷ l) (also f r) (all_bare (a ∷ l) e)) where
    by : Every (Low a.decimals) (a ∷ l) → 1 ≤ a.decimals
    by (also p q) = p.0

  no_point : quantity ≡ false → {k : ℕ} (l : List Amount) → Every (Fine quantity k) l → some_of (λ (a : Amount). a.point) l ≡ false
  unfolding some_of
  no_point q [] nil = refl
  no_point q (a ∷ l) (also f r) = rw ((f.fit.category q).1, no_point q l r)

  no_decimals : quantity ≡ false → (l : List Amount) → Every (Fine quantity (decimals_in l)) l → decimals_in l ≡ 0
  no_decimals q [] nil = refl
  no_decimals q (a ∷ l) (also f r) = ⊎_elim (λ h. h) (λ p. holds_not p (f.fit.category q).1) f.real.pointed

  limited : {k : ℕ} {a : Amount} → Fine quantity k a → Limited quantity (scaled a)
  limited {a = a} f = rw (said_is f) at (value_limited quantity (held_as a) f.fit)

  -- ---- the range
  pub record RangeGood (o : Option Range) (l : List Amount) : Type 0 where
    pub unranged : has_range o ≡ false → (from_of o ≡ pos 0) × (to_of o ≡ pos 0)
    pub ordered : has_range o ≡ true → le_z (from_of o) (to_of o) ≡ true
    pub from_limited : has_range o ≡ true → Limited quantity (from_of o)
    pub to_limited : has_range o ≡ true → Limited quantity (to_of o)
    pub from_near : has_range o ≡ true → point_in l ≡ 2 → (signed_of (from_of o)).size < 10 ^ decimals_in l
    pub to_near : has_range o ≡ true → point_in l ≡ 2 → (signed_of (to_of o)).size < 10 ^ decimals_in l

  abbrev pub OrderedIn : Option Range → Type 0
  OrderedIn none = Unit
  OrderedIn (some r) = le_z (scaled r.from) (scaled r.to) ≡ true

  low_first : {k : ℕ} {a b : Amount} {l : List Amount} → Every (Low k) (a ∷ b ∷ l) → Low k a × Low k b
  low_first (also p (also q r)) = (p, q)

  range_good_lem : (o : Option Range) (m : List Amount) → Every (Fine quantity (decimals_in (range_ends o ++ m))) (range_ends o ++ m)
      → OrderedIn o
      → RangeGood o (range_ends o ++ m)
  range_good_lem none m e u = record {
    unranged = λ q. (refl, refl);
    ordered = λ q. holds_not q refl;
    from_limited = λ q. holds_not q refl;
    to_limited = λ q. holds_not q refl;
    from_near = λ q. holds_not q refl;
    to_near = λ q. holds_not q refl;
  }
  range_good_lem (some r) m (also f (also g e)) u = record {
    unranged = λ q. holds_not refl q;
    ordered = λ q. u;
    from_limited = λ q. limited f;
    to_limited = λ q. limited g;
    from_near = λ q p. rw (said_is f) at (low_first
        (bare_lows (r.from ∷ r.to ∷ m) (also f (also g e)) (all_bare (r.from ∷ r.to ∷ m) p))).0.1;
    to_near = λ q p. rw (said_is g) at (low_first
        (bare_lows (r.from ∷ r.to ∷ m) (also f (also g e)) (all_bare (r.from ∷ r.to ∷ m) p))).1.1;
  }

  -- ---- the numbers of the lines
  record ToldAt (P : Amount → Type 0) (z : ℤ) : Type 0 where
    amount : Amount
    holds : P amount
    is : z ≡ scaled_of (held_as amount)

  number_told : {P : Amount → Type 0} (l : List Line) → Every P (map (λ x. x.value) l) → (i : ℕ) → i < length (told l)
      → ToldAt P (number_at (told l) i)
  unfolding told number_at numbers scaled_of
  number_told [] nil i h = absurd (omega arith)
  number_told (x ∷ l) (also p r) zero h = record { amount = x.value; holds = p; is = refl }
  number_told (x ∷ l) (also p r) (suc i) h = number_told l r i (omega arith)

  -- ---- what is known of a block so far
  pub record Well (before : ℕ) (c : Block) : Type 0 where
    pub fine : Every (Fine quantity (decimals_in (amounts c))) (amounts c)
    pub ordered : OrderedIn c.range
    pub room : before + length c.lines ≤ 4096
    pub small : Small quantity c.lines
    pub differ : (i j : ℕ) → i < j → j < length (told c.lines) → eq_z (number_at (told c.lines) i) (number_at (told c.lines) j)
        ≡ false
    pub each : EachGood (told c.lines)

  abbrev pub Full : Block → Type 0
  Full c = (has_range c.range ≡ true) ⊎ (1 ≤ length (told c.lines))

  well_block : {before : ℕ} (c : Block) → Well before c → GoodBlock quantity (block_of c)
  unfolding block_of amounts
  well_block c w =
      let l = amounts c in
      let r = range_good_lem c.range (map (λ x. x.value) c.lines) w.fine w.ordered in
      record {
        few_decimals = few l w.fine;
        point_code = code_low l;
        pointed = pointed l w.fine;
        shared = shared l w.fine;
        category = λ q. (no_decimals q l w.fine, rw (no_point q l w.fine));
        unranged = r.unranged;
        ordered = r.ordered;
        from_limited = r.from_limited;
        to_limited = r.to_limited;
        from_near = r.from_near;
        to_near = r.to_near;
      }

  of_lines : {P : Amount → Type 0} (c : Block) → Every P (amounts c) → Every P (map (λ x. x.value) c.lines)
  unfolding amounts
  of_lines c e = every_behind (range_ends c.range) (map (λ x. x.value) c.lines) e

  well_lines : {before : ℕ} (c : Block) → Well before c → GoodLines quantity before (told c.lines)
  well_lines c w = record {
    few = omega (arith, told_count c.lines, w.room);
    limited = λ i h.
        let t = number_told c.lines (of_lines c w.fine) i h in
        rw t.is (value_limited quantity (held_as t.amount) t.holds.fit);
    differ = w.differ;
    each = w.each;
  }

  well_near : {before : ℕ} (c : Block) → Well before c → (i : ℕ) → i < length (told c.lines)
      → Near (block_of c) (number_at (told c.lines) i)
  unfolding block_of
  well_near c w i h p =
      let t = number_told c.lines (of_lines c (bare_lows (amounts c) w.fine (all_bare (amounts c) p))) i h in
      rw t.is t.holds.1

  pub well_good : {before : ℕ} (c : Block) → Well before c → Full c → GoodValues quantity before (block_of c) (told c.lines)
  unfolding block_of
  well_good c w f = record { block = well_block c w; lines = well_lines c w; near = well_near c w; something = f }

  -- ---- nothing read yet, a range, a line more
  pub well_none : {before : ℕ} → before ≤ 4096 → Well before (unlisted none)
  unfolding amounts told Small some_of
  well_none h = record {
    fine = nil;
    ordered = tt;
    room = omega arith;
    small = refl;
    differ = λ i j a b. absurd (omega arith);
    each = good.none;
  }

  not_below : (a b : ℤ) → lt_z b a ≡ false → le_z a b ≡ true
  not_below (pos a) (pos b) e = le-leb a b (ltb-false b a e)
  not_below (pos a) (negsuc b) e = holds_not refl e
  not_below (negsuc a) (pos b) e = refl
  not_below (negsuc a) (negsuc b) e = le-leb b a (ltb-false a b e)

  alike_is : (a b : Amount) → unlike_amounts a b ≡ false → a.decimals ≡ b.decimals
  alike_is a b e = eqb-true a.decimals b.decimals (not-false (eqb a.decimals b.decimals) e)

  pub well_range : {bad : Bool} {d : List ℕ} {before n : ℕ} {r : Range} → before ≤ 4096 → RangeTold bad d quantity r n
      → Well before (range_block r)
  unfolding amounts told Small some_of
  well_range {d = d} {r = r} h t =
      let s = range_sound quantity r.from r.to t.clean in
      record {
        fine = also (stood_fine d quantity r.from.decimals t.from s.from_form s.from_fits refl)
            (also (stood_fine d quantity r.from.decimals t.to s.to_form s.to_fits
            (sym (alike_is r.from r.to s.alike))) nil);
        ordered = not_below (scaled r.from) (scaled r.to) s.ordered;
        room = omega arith;
        small = refl;
        differ = λ i j a b. absurd (omega arith);
        each = good.none;
      }

  fine_more : (l : List Amount) (a : Amount) → Every (Fine quantity (decimals_in l)) l → some_of (unlike_amounts a) l ≡ false
      → ((k : ℕ) → a.decimals ≡ k → Fine quantity k a) → Every (Fine quantity (decimals_in (l ++ a ∷ []))) (l ++ a ∷ [])
  unfolding some_of
  fine_more [] a e u f = also (f a.decimals refl) nil
  fine_more (x ∷ l) a e u f = every_more e (f x.decimals (alike_is a x (or_none (unlike_amounts a x) (some_of (unlike_amounts a) l) u)))

  map_more : (l : List Line) (x : Line) → map (λ x. x.value) (l ++ x ∷ []) ≡ map (λ x. x.value) l ++ x.value ∷ []
  map_more [] x = refl
  map_more (y ∷ l) x = rw (map_more l x)

  amounts_more : (c : Block) (x : Line) → amounts (with_line c x) ≡ amounts c ++ x.value ∷ []
  unfolding amounts
  amounts_more c x = rw (map_more c.lines x) (sym (append_assoc (range_ends c.range) (map (λ x. x.value) c.lines) (x.value ∷ [])))

  each_more : {l : List Said} {s : Said} → EachGood l → GoodLine s → EachGood (l ++ s ∷ [])
  each_more good.none g = good.more g good.none
  each_more (good.more h r) g = good.more h (each_more r g)

  differ_more : (l : List Said) (s : Said) → ((i j : ℕ) → i < j → j < length l → eq_z (number_at l i) (number_at l j) ≡ false)
      → repeated_in (number_at l) (length l) (number_on s) ≡ false
      → (i j : ℕ) → i < j → j < length (l ++ s ∷ []) → eq_z (number_at (l ++ s ∷ []) i) (number_at (l ++ s ∷ []) j) ≡ false
  unfolding repeated_in
  differ_more l s d r i j a e =
      let k : j ≤ length l = omega (arith, count_more l s) in
      ⊎_elim
      (λ q. let b : i < length l = omega arith in
      let z : number_at (l ++ s ∷ []) j ≡ number_on s = ap (number_at (l ++ s ∷ [])) q ∙ number_last l s in
      rw (z, number_before l s i b) (fresh i b))
      (λ b. let c : i < length l = omega arith in rw (number_before l s i c, number_before l s j b) (d i j a b))
      (eq-or-lt_of_le k)
    where
      fresh : (i : ℕ) → i < length l → eq_z (number_at l i) (number_on s) ≡ false
      fresh i h = by (eq_z (number_at l i) (number_on s)) refl where
        by : (x : Bool) → eq_z (number_at l i) (number_on s) ≡ x → x ≡ false
        by true e = holds_not (any_holds (λ j. eq_z (number_at l j) (number_on s)) (length l) i h e) r
        by false e = refl

  record Clean (before : ℕ) (c : Block) (a : Amount) : Type 0 where
    form : form_is quantity a ≡ true
    alike : some_of (unlike_amounts a) (amounts c) ≡ false
    fresh : some_of (λ x. eq_z (scaled x.value) (scaled a)) c.lines ≡ false
    fits : large quantity a ≡ false
    few : before + length c.lines < 4096

  clean_line : (before : ℕ) (c : Block) (a : Amount) → Clear (line_charges quantity before c a) → Clean before c a
  unfolding line_charges
  clean_line before c a (clear p (clear q (clear r (clear s (clear t u))))) =
      record { form = not-false (form_is quantity a) p; alike = q; fresh = r; fits = s; few = leb-false 4096 (before + length c.lines) t }

  number_is : (x : Line) → large quantity x.value ≡ false → number_on (said_of x) ≡ scaled x.value
  unfolding scaled_of
  number_is x e = rw (small quantity x.value e)

  pub well_more : {bad : Bool} {d : List ℕ} {before n : ℕ} (c : Block) {x : Line} → length d ≤ 1048576 → Well before c
      → LineTold bad d quantity before c x n → Well before (with_line c x)
  well_more {d = d} {before = before} c {x} h w t =
      let k = clean_line before c x.value t.clean in
      let v : Stood d x.value = rw t.is t.told.value in
      let a = t.told.place in
      let b = t.told.short in
      let g : GoodLine (said_of x) = rw t.is (record { special = omega arith; text_place = omega arith; text_length = omega arith }) in
      record {
        fine = rw (amounts_more c x) (fine_more (amounts c) x.value w.fine k.alike
            (λ m e. stood_fine d quantity m v k.form k.fits e));
        ordered = w.ordered;
        room = omega (arith, length-append c.lines (x ∷ []), k.few);
        small = small_more quantity c.lines x w.small k.fits;
        differ = rw (told_more c.lines x) (differ_more (told c.lines) (said_of x) w.differ
            (rw (number_is x k.fits) (told_repeats quantity c.lines w.small (scaled x.value) ∙ k.fresh)));
        each = rw (told_more c.lines x) (each_more w.each g);
      }

  pub also_full : (c : Block) (x : Line) → Full (with_line c x)
  also_full c x = inr (omega (arith, told_count (c.lines ++ x ∷ []), length-append c.lines (x ∷ [])))

-- ---- the readers
inside : (bad : Bool) (d w : List ℕ) (n : ℕ) {p e : ℕ} → within_element bad d w n ≡ Is (start p) e → e ≤ length d
unfolding within_element
inside bad d w n {p} {e} = by (stand_of bad d n) refl where
  close : (q : ℕ) (s : Skip) → on_shut q s ≡ Is (start p) e → e ≤ length d
  close q (skip.Past m) f = never cc
  close q (skip.Broken m) f = never cc

  by : (s : Stand) → stand_of bad d n ≡ s → opened bad d w s ≡ Is (start p) e → e ≤ length d
  by (stand.Start q k) i f = let z : k ≡ e = cc in rw (← z) (start_within bad d n q k i).2
  by (stand.Close q k) i f = close q (shut_of bad d q k w) f
  by (stand.Foreign q) i f = never cc
  by (stand.Text q) i f = never cc
  by (stand.Broken q) i f = never cc

module _ (bad : Bool) (d : List ℕ) (languages quantity : Bool) (before : ℕ) (short : length d ≤ 1048576) where
  record Got (c : Block) (n : ℕ) : Type 0 where
    well : Well quantity before c
    full : Full quantity c
    next : n ≤ length d

  due_got : (c : Block) (p e : ℕ) {k : Block} {m : ℕ} → Well quantity before c → e ≤ length d
      → due bad d VALUE (start p) (lined bad d languages quantity before c) e ≡ Is k m → Got k m
  due_got c p e {k} {m} w l = by (is_named d (p + 1) e VALUE) where
    on : (r : Result Line) → line bad d languages quantity before c p e ≡ r → bind r (λ x n. Is (with_line c x) n) ≡ Is k m → Got k m
    on (Is x n) i f =
        let t = line_told bad d languages quantity before c p e l i in
        let y : with_line c x ≡ k = cc in
        let z : n ≡ m = cc in
        rw (← y, ← z) (record { well = well_more quantity c short w t; full = also_full quantity c x; next = t.next })
    on (Not g) i f = never cc

    missed : (t : Tag) → on_bare bad d {A = Block} p t ≡ Is k m → Got k m
    missed (tag.Read h em q n) f = never cc
    missed (tag.Fault j q) f = never cc

    by : (q : Bool) → cond q (lined bad d languages quantity before c p e) (misplaced bad d p e) ≡ Is k m → Got k m
    by true f = on (line bad d languages quantity before c p e) refl f
    by false f = missed (bare_of bad d p e) f

  first_got : before ≤ 4096 → (n : ℕ) {k : Block} {m : ℕ} → block.first bad d languages quantity before n ≡ Is k m → Got k m
  unfolding block.first
  first_got few n {k} {m} = by (within_element bad d VALUES n) refl where
    ranged : (p e : ℕ) → e ≤ length d → (r : Result Range) → range bad d quantity p e ≡ r → bind r (λ r n. Is (range_block r) n) ≡ Is k m
        → Got k m
    ranged p e l (Is r j) i f =
        let t = range_told bad d quantity p e l i in
        let y : range_block r ≡ k = cc in
        let z : j ≡ m = cc in
        rw (← y, ← z) (record { well = well_range quantity few t; full = inl refl; next = t.next })
    ranged p e l (Not g) i f = never cc

    tagged : (p e : ℕ) → e ≤ length d → (q : Bool)
        → cond q (range_read bad d quantity p e) (due bad d VALUE (start p) (lined bad d languages quantity before (unlisted none)) e)
        ≡ Is k m → Got k m
    tagged p e l true f = ranged p e l (range bad d quantity p e) refl f
    tagged p e l false f = due_got (unlisted none) p e (well_none quantity few) l f

    by : (o : Result Open) → within_element bad d VALUES n ≡ o
        → bind o (λ o. either_element bad d RANGE o (range_read bad d quantity)
        (due bad d VALUE o (lined bad d languages quantity before (unlisted none)))) ≡ Is k m
        → Got k m
    by (Is (start p) e) i f = tagged p e (inside bad d VALUES n i) (is_named d (p + 1) e RANGE) f
    by (Is (shut p) e) i f = never cc
    by (Not g) i f = never cc

  abbrev Kept : Block → Type 0
  Kept k = Well quantity before k × Full quantity k

  turns_got : (f : ℕ) (c : Block) (n : ℕ) (k : Block) (m : ℕ) → Well quantity before c → Full quantity c
      → repeat f (another_line bad d languages quantity before) c n ≡ Is k m → Kept k
  unfolding repeat another_line
  turns_got zero c n k m w u = λ e. never cc
  turns_got (suc f) c n k m w u = by (within_element bad d VALUES n) refl (turns_got f) where
    step : (p e : ℕ) → e ≤ length d → (r : Result Block) → due bad d VALUE (start p) (lined bad d languages quantity before c) e ≡ r
        → ((c : Block) (n : ℕ) (k : Block) (m : ℕ) → Well quantity before c → Full quantity c
        → repeat f (another_line bad d languages quantity before) c n ≡ Is k m → Kept k)
        → bind (bind r (λ k n. Is (Again k) n)) (turn (repeat f (another_line bad d languages quantity before))) ≡ Is k m → Kept k
    step p e l (Is b j) i ih g = let t = due_got c p e w l i in ih b j k m t.well t.full g
    step p e l (Not h) i ih g = never cc

    by : (o : Result Open) → within_element bad d VALUES n ≡ o
        → ((c : Block) (n : ℕ) (k : Block) (m : ℕ) → Well quantity before c → Full quantity c
        → repeat f (another_line bad d languages quantity before) c n ≡ Is k m → Kept k)
        → bind (bind o (on_open bad d languages quantity before c)) (turn (repeat f (another_line bad d languages quantity before)))
        ≡ Is k m
        → Kept k
    by (Is (start p) e) i ih g =
        step p e (inside bad d VALUES n i) (due bad d VALUE (start p) (lined bad d languages quantity before c) e) refl ih
        (rw (due_again bad d languages quantity before c p e) at g)
    by (Is (shut p) e) i ih g = let y : c ≡ k = cc in rw (← y) (w, u)
    by (Not h) i ih g = never cc

  -- GOOD: what a block that was read says, as the books keep it
  pub block_good : before ≤ 4096 → (p e : ℕ) {c : Block} {n : ℕ} → block.values bad d languages quantity before p e ≡ Is c n
      → GoodValues quantity before (block_of c) (told c.lines)
  block_good few p e {c} {n} f = by (bare_of bad d p e) refl where
    on : (m : ℕ) (r : Result Block) → block.first bad d languages quantity before m ≡ r
        → bind r (repeat (suc most_lines) (another_line bad d languages quantity before)) ≡ Is c n
        → GoodValues quantity before (block_of c) (told c.lines)
    on m (Is k j) i g =
        let t = first_got few m i in
        let s = turns_got (suc most_lines) k j c n t.well t.full g in
        well_good quantity c s.0 s.1
    on m (Not h) i g = never cc

    read : (h : Held) (em : Bool) (q m : ℕ) → bare_of bad d p e ≡ tag.Read h em q m → (x y : Bool) → eqb h.unknown 0 ≡ x → em ≡ y
        → GoodValues quantity before (block_of c) (told c.lines)
    read h em q m t true false i j =
        on m (block.first bad d languages quantity before m) refl
        (sym (values_open bad d languages quantity before p e t (eqb-true h.unknown 0 i) j) ∙ f)
    read h em q m t true true i j = let z = values_empty bad d languages quantity before p e t (eqb-true h.unknown 0 i) j in never cc
    read h em q m t false y i j = let z = values_unknown bad d languages quantity before p e t (eqb-false h.unknown 0 i) in never cc

    by : (t : Tag) → bare_of bad d p e ≡ t → GoodValues quantity before (block_of c) (told c.lines)
    by (tag.Read h em q m) t = read h em q m t (eqb h.unknown 0) em refl refl
    by (tag.Fault k q) t = let z = values_fault bad d languages quantity before p e t in never cc
