-- A row's numbers by a hull, that of its lines' values, or of its range where it has no line: whether they keep within the limits of
-- its kind, and the widest of them.
use Rattle.std.specs.Prelude.{◌≡◌, Bool, not, ◌&&◌, ◌||◌, List, ℕ, ◌^◌, ◌≤◌, ◌<◌, max, eqb, ℤ, pos}
use Rattle.std.proofs.Math.Path.{refl, sym, ap}
use Rattle.std.proofs.Common.{◌∙◌, le_antisymm, lt_of_le_of_lt, eq-or-lt_of_le, eq-eqb}
use Rattle.std.proofs.Math.Logic.{⊎_elim}
use Rattle.std.proofs.Math.Bool.{true, false, cond}
use native.Mathlib.Omega.{arith}
use Rattle.std.specs.Int.Signed.{le_z}
use Rattle.ascii.specs.rule.Tens.{digits_of}
use Rattle.ascii.specs.Tens.{digits_some, digits_least}
use Rattle.below.specs.rule.Below.{◌and◌}
use Rattle.below.specs.Below.{and_both, both_and, and_no, and_nor, and_yes, and_left, and_right, and_true, same_bool}
use Rattle.cells.specs.rule.Cell.{signed_of}
use Rattle.cells.specs.Order.{le_self, le_join, le_else}
use Rattle.layout.specs.rule.Row.{row_of, kind_of, spread_of}
use Rattle.layout.specs.declared.Columns.{Columns}
use Rattle.layout.specs.declared.Row.{Row}
use Rattle.layout.specs.declared.Kind.{Kind}
use Rattle.layout.specs.declared.Spread.{Spread}
use Rattle.layout.specs.declared.Spread.TheVariants.{Bits, Fields}
use Rattle.layout.specs.declared.Kind.TheVariants.{Single, Multiple, Quantity, Character, Logical}
use Rattle.widths.specs.rule.Width.{need, fits_kind, lowest, highest, size_of}
use Rattle.widths.specs.Width.{need_between, Valued}
use Rattle.strides.specs.declared.Hull.{Hull}
use Rattle.strides.specs.rule.Stride.{all_differ}
use Rattle.strides.specs.Hull.{Hulled, Blocked, hull_from}
use Rattle.strides.specs.declared.Block.{Block}
use Rattle.sound.specs.rule.Sound.{value_at, lines_plain, lines_good, values_good, range_width, widest}
use Rattle.sound.specs.rule.Sound.{width_good, room_good, widths_good, row_good}
use Rattle.sound.specs.Types.{shared_good, type_good, columns_shared}
use Rattle.sound.specs.Block.{hull_fits, hull_width, hull_fits_lem, widest_hull, widest_none, lines_none, fits_small}
use Rattle.sound.specs.Given.{ColumnFacts, column_facts}

-- the range, where there is one, is not reversed and lies within limits; so do the least and the most
abbrev pub range_within : Row → ℤ → ℤ → Bool
range_within r low high = cond r.range (le_z low r.from && le_z r.from r.to && le_z r.to high) true

abbrev pub hull_within : Hull → ℤ → ℤ → Bool
hull_within h low high = le_z low h.least && le_z h.most high

unfoldable pub numbers_within : Row → Hull → ℤ → ℤ → Bool
numbers_within r h low high = range_within r low high and hull_within h low high

-- the least and the most of the range and the lines
unfoldable pub bottom_of : Row → Hull → ℤ
bottom_of r h = cond r.range (cond (le_z h.least r.from) h.least r.from) h.least

unfoldable pub top_of : Row → Hull → ℤ
top_of r h = cond r.range (cond (le_z h.most r.to) r.to h.most) h.most

-- the bytes of the widest number: of categories it is the largest
unfoldable pub ends_width : Kind → Row → Hull → ℕ
ends_width Single r h = need Single (top_of r h)
ends_width (Multiple s) r h = need (Multiple s) (top_of r h)
ends_width (Quantity f) r h = max (need (Quantity f) (bottom_of r h)) (need (Quantity f) (top_of r h))
ends_width Character r h = 0
ends_width Logical r h = 0

-- the kinds of a multiple and a quantity
abbrev pub multiple_of : Columns → Kind
multiple_of c = Multiple (spread_of c.subfields c.subwidth)

abbrev pub quantity_of : Columns → Kind
quantity_of c = Quantity (record { decimals = c.decimals; point = c.point })

-- a multiple's width and its room
abbrev pub spread_by : Spread → Row → Hull → Bool
spread_by s r h = width_good (Multiple s) r.width (ends_width (Multiple s) r h) and room_good (Multiple s) r

-- a row's numbers and its width, for a kind that has numbers and for any kind
unfoldable pub valued_by : Kind → Row → Hull → Bool
valued_by k r h = numbers_within r h (lowest k) (highest k) and (width_good k r.width (ends_width k r h) and room_good k r)

unfoldable pub values_by : Kind → Row → Hull → Bool
values_by Single r h = valued_by Single r h
values_by (Multiple s) r h = valued_by (Multiple s) r h
values_by (Quantity f) r h = valued_by (Quantity f) r h
values_by Character r h = width_good Character r.width 0 and room_good Character r
values_by Logical r h = width_good Logical r.width 0 and room_good Logical r

-- what is told of a row's lines, and the hull of the range where there are none or they are not plain
abbrev pub range_block : Columns → Bool → Block
range_block c differ = record { differ = differ; hull = hull_from c.from c.to }

-- with what is told of its lines a row is good just where its type and the hull make it so, whatever stands before it
abbrev pub BlockTold : List ℤ → ℕ → Columns → Block → Type 0
BlockTold t v c b =
    (e before : ℕ) → shared_good e before c ≡ true
    → row_good t v e before c ≡ (b.differ and (type_good c and values_by (kind_of c) (row_of c) b.hull))

-- ---- laws: limits
module _ (k : Kind) (a b : ℤ) where
  range_fits : (le_z a b && (fits_kind k a && fits_kind k b)) ≡ (le_z (lowest k) a && le_z a b && le_z b (highest k))
  range_fits =
      same_bool _ _
      (λ e.
      let f = and_right (le_z a b) (fits_kind k a && fits_kind k b) e in
      and_true (le_z (lowest k) a && le_z a b) (le_z b (highest k))
      (and_true (le_z (lowest k) a) (le_z a b) (and_left (le_z (lowest k) a) (le_z a (highest k))
      (and_left (fits_kind k a) (fits_kind k b) f))
      (and_left (le_z a b) (fits_kind k a && fits_kind k b) e))
      (and_right (le_z (lowest k) b) (le_z b (highest k)) (and_right (fits_kind k a) (fits_kind k b) f)))
      (λ e.
      let f = and_left (le_z (lowest k) a && le_z a b) (le_z b (highest k)) e in
      let p = and_left (le_z (lowest k) a) (le_z a b) f in
      let q = and_right (le_z (lowest k) a) (le_z a b) f in
      let s = and_right (le_z (lowest k) a && le_z a b) (le_z b (highest k)) e in
      and_true (le_z a b) (fits_kind k a && fits_kind k b) q
      (and_true (fits_kind k a) (fits_kind k b) (and_true (le_z (lowest k) a) (le_z a (highest k)) p (le_join a b (highest k) q s))
      (and_true (le_z (lowest k) b) (le_z b (highest k)) (le_join (lowest k) a b p q) s)))

  range_within_lem : (x : Bool) → (not x || (le_z a b && (fits_kind k a && fits_kind k b)))
      ≡ cond x (le_z (lowest k) a && le_z a b && le_z b (highest k)) true
  range_within_lem true = range_fits
  range_within_lem false = refl

-- ---- the ends of range and lines
lesser_left : (a b : ℤ) → le_z (cond (le_z a b) a b) a ≡ true
lesser_left a b = go (le_z a b) refl
  where
    go : (x : Bool) → le_z a b ≡ x → le_z (cond x a b) a ≡ true
    go true e = le_self a
    go false e = le_else a b e

lesser_right : (a b : ℤ) → le_z (cond (le_z a b) a b) b ≡ true
lesser_right a b = go (le_z a b) refl
  where
    go : (x : Bool) → le_z a b ≡ x → le_z (cond x a b) b ≡ true
    go true e = e
    go false e = le_self b

greater_left : (a b : ℤ) → le_z a (cond (le_z a b) b a) ≡ true
greater_left a b = go (le_z a b) refl
  where
    go : (x : Bool) → le_z a b ≡ x → le_z a (cond x b a) ≡ true
    go true e = e
    go false e = le_self a

greater_right : (a b : ℤ) → le_z b (cond (le_z a b) b a) ≡ true
greater_right a b = go (le_z a b) refl
  where
    go : (x : Bool) → le_z a b ≡ x → le_z b (cond x b a) ≡ true
    go true e = le_self b
    go false e = le_else a b e

-- what holds of both holds of either
either : (P : ℤ → Type 0) (x : Bool) (a b : ℤ) → P a → P b → P (cond x a b)
either P true a b p q = p
either P false a b p q = q

module _ (k : Kind) (r : Row) (h : Hull) (fit : numbers_within r h (lowest k) (highest k) ≡ true)
    (ordered : le_z h.least h.most ≡ true) where
  hull_low : le_z (lowest k) h.least ≡ true
  unfolding numbers_within
  hull_low = and_left (le_z (lowest k) h.least) (le_z h.most (highest k)) (and_both fit).1

  hull_high : le_z h.most (highest k) ≡ true
  unfolding numbers_within
  hull_high = and_right (le_z (lowest k) h.least) (le_z h.most (highest k)) (and_both fit).1

  record Ends (bottom top : ℤ) (all : ℕ) : Type 0 where
    bottom_low : le_z (lowest k) bottom ≡ true
    top_high : le_z top (highest k) ≡ true
    apart : le_z bottom top ≡ true
    width : all ≡ max (need k bottom) (need k top)

  small : (z : ℤ) → le_z (lowest k) z ≡ true → le_z z (highest k) ≡ true → size_of z < 10 ^ 16
  small z a b = lt_of_le_of_lt (fits_small k z (and_true (le_z (lowest k) z) (le_z z (highest k)) a b)) (omega arith)

  ends_ranged : (le_z (lowest k) r.from && le_z r.from r.to && le_z r.to (highest k)) ≡ true
      → Ends (cond (le_z h.least r.from) h.least r.from) (cond (le_z h.most r.to) r.to h.most)
      (max (max (need k r.from) (need k r.to)) (max (need k h.least) (need k h.most)))
  ends_ranged e =
      let a = r.from in
      let b = r.to in
      let bottom = cond (le_z h.least a) h.least a in
      let top = cond (le_z h.most b) b h.most in
      let f = and_left (le_z (lowest k) a && le_z a b) (le_z b (highest k)) e in
      let p = and_left (le_z (lowest k) a) (le_z a b) f in
      let q = and_right (le_z (lowest k) a) (le_z a b) f in
      let s = and_right (le_z (lowest k) a && le_z a b) (le_z b (highest k)) e in
      let bl = either (λ z. le_z (lowest k) z ≡ true) (le_z h.least a) h.least a hull_low p in
      let th = either (λ z. le_z z (highest k) ≡ true) (le_z h.most b) b h.most s hull_high in
      let ba = lesser_right h.least a in
      let bh = lesser_left h.least a in
      let bt = greater_right h.most b in
      let ht = greater_left h.most b in
      let at = le_join bottom a top ba (le_join a b top q bt) in
      let zb = small bottom bl (le_join bottom top (highest k) at th) in
      let zt = small top (le_join (lowest k) bottom top bl at) th in
      record {
        bottom_low = bl;
        top_high = th;
        apart = at;
        width =
            le_antisymm
            (omega (
              arith,
              need_between k bottom a top ba (le_join a b top q bt) zb zt,
              need_between k bottom b top (le_join bottom a b ba q) bt zb zt,
              need_between k bottom h.least top bh (le_join h.least h.most top ordered ht) zb zt,
              need_between k bottom h.most top (le_join bottom h.least h.most bh ordered) ht zb zt,
            ))
            (omega (
              arith,
              either (λ z. need k z ≤ max (need k h.least) (need k a)) (le_z h.least a) h.least a (omega arith) (omega arith),
              either (λ z. need k z ≤ max (need k h.most) (need k b)) (le_z h.most b) b h.most (omega arith) (omega arith),
            ));
      }

  ends : Ends (bottom_of r h) (top_of r h)
      (max (cond r.range (max (need k r.from) (need k r.to)) 0) (max (need k h.least) (need k h.most)))
  unfolding bottom_of top_of numbers_within
  ends = go r.range (and_both fit).0
    where
      go : (x : Bool) → cond x (le_z (lowest k) r.from && le_z r.from r.to && le_z r.to (highest k)) true ≡ true
          → Ends (cond x (cond (le_z h.least r.from) h.least r.from) h.least)
          (cond x (cond (le_z h.most r.to) r.to h.most) h.most)
          (max (cond x (max (need k r.from) (need k r.to)) 0) (max (need k h.least) (need k h.most)))
      go true e = ends_ranged e
      go false e = record { bottom_low = hull_low; top_high = hull_high; apart = ordered; width = omega arith }

-- categories are the wider the larger they are
category_rises : (k : Kind) (a b : ℤ) → need k (pos 0) ≤ need k b → le_z (pos 1) a ≡ true → le_z a b ≡ true → size_of b < 10 ^ 16
    → need k b ≡ max (need k a) (need k b)
unfolding signed_of
category_rises k a b z p q s = omega (arith, need_between k (pos 0) a b (le_join (pos 0) (pos 1) a refl p) q (omega arith) s)

digits_zero : (z : ℤ) → digits_of 0 ≤ digits_of (size_of z)
digits_zero z = omega (arith, digits_least 0 1 (omega arith) (omega arith), digits_some (size_of z))

top_small : (k : Kind) (r : Row) (h : Hull) → numbers_within r h (lowest k) (highest k) ≡ true → le_z h.least h.most ≡ true
    → size_of (top_of r h) < 10 ^ 16
top_small k r h fit ordered =
    let e = ends k r h fit ordered in
    small k r h fit ordered (top_of r h) (le_join (lowest k) (bottom_of r h) (top_of r h) e.bottom_low e.apart) e.top_high

ends_width_lem : (k : Kind) (r : Row) (h : Hull) → numbers_within r h (lowest k) (highest k) ≡ true → le_z h.least h.most ≡ true → Valued k
    → ends_width k r h ≡ max (need k (bottom_of r h)) (need k (top_of r h))
unfolding ends_width need lowest signed_of
ends_width_lem Single r h f o v =
    let e = ends Single r h f o in
    category_rises Single (bottom_of r h) (top_of r h) (digits_zero (top_of r h)) e.bottom_low e.apart (top_small Single r h f o)
ends_width_lem (Multiple Bits) r h f o v =
    let k = Multiple Bits in
    let e = ends k r h f o in
    category_rises k (bottom_of r h) (top_of r h) (omega arith) e.bottom_low e.apart (top_small k r h f o)
ends_width_lem (Multiple (Fields n w)) r h f o v =
    let k = Multiple (Fields n w) in
    let e = ends k r h f o in
    category_rises k (bottom_of r h) (top_of r h) (digits_zero (top_of r h)) e.bottom_low e.apart (top_small k r h f o)
ends_width_lem (Quantity g) r h f o v = refl
ends_width_lem Character r h f o v = absurd v
ends_width_lem Logical r h f o v = absurd v

-- ---- a row's numbers and its width by the hull
and_middle : (b : Bool) → (true and b and true) ≡ b
unfolding ◌and◌
and_middle true = refl
and_middle false = refl

and_again : (a b c : Bool) → ((a && b && c) and true) ≡ ((a && b && c) and (a && c))
unfolding ◌and◌
and_again true true true = refl
and_again true true false = refl
and_again true false c = refl
and_again false b c = refl

module _ (t : List ℤ) (v : ℕ) (r : Row) (h : Hull) where
  -- both sides fail where the numbers do not keep within limits, and else go by the same width
  by_hull : values_good t v r ≡ numbers_within r h (lowest r.kind) (highest r.kind)
      → (numbers_within r h (lowest r.kind) (highest r.kind) ≡ true → widest t v r ≡ ends_width r.kind r h)
      → (values_good t v r and widths_good t v r) ≡ valued_by r.kind r h
  unfolding widths_good valued_by
  by_hull same wide = rw same (go (numbers_within r h (lowest r.kind) (highest r.kind)) refl)
    where
      go : (b : Bool) → numbers_within r h (lowest r.kind) (highest r.kind) ≡ b
          → (b and (width_good r.kind r.width (widest t v r) and room_good r.kind r))
          ≡ (b and (width_good r.kind r.width (ends_width r.kind r h) and room_good r.kind r))
      go true e = ap (λ m. true and (width_good r.kind r.width m and room_good r.kind r)) (wide e)
      go false e = and_no _ _ refl ∙ sym (and_no _ _ refl)

  width_ends : Valued r.kind → le_z h.least h.most ≡ true → widest t v r ≡ max (range_width r) (hull_width r.kind h)
      → numbers_within r h (lowest r.kind) (highest r.kind) ≡ true → widest t v r ≡ ends_width r.kind r h
  unfolding range_width hull_width
  width_ends some ordered wide fit =
      wide ∙ (ends r.kind r h fit ordered).width ∙ sym (ends_width_lem r.kind r h fit ordered some)

  -- with lines, whose hull h is
  valued_lined : Valued r.kind → Hulled (value_at t v r.before) r.lines h → lines_plain t v r.before r.lines ≡ true
      → all_differ (value_at t v r.before) r.lines ≡ true → (values_good t v r and widths_good t v r) ≡ valued_by r.kind r h
  unfolding values_good lines_good numbers_within hull_fits
  valued_lined some u plain differ =
      by_hull lines_within
      (λ fit. width_ends some ordered (widest_hull t v r h u (hull_fit fit)) fit)
    where
      ordered : le_z h.least h.most ≡ true
      ordered = rw u.most_is (u.low u.most_at u.most_below)

      hull_fit : numbers_within r h (lowest r.kind) (highest r.kind) ≡ true → hull_fits r.kind h ≡ true
      hull_fit fit = (and_both fit).1

      lines_within : values_good t v r ≡ numbers_within r h (lowest r.kind) (highest r.kind)
      lines_within =
          rw (
            range_within_lem r.kind r.from r.to r.range,
            plain,
            differ,
            hull_fits_lem r.kind (value_at t v r.before) r.lines h u,
            and_middle (hull_fits r.kind h),
          )

-- without lines, by the range alone
module _ (t : List ℤ) (v : ℕ) (r : Row) (none : r.lines ≡ 0) where
  valued_ranged : Valued r.kind → r.range ≡ true
      → (values_good t v r and widths_good t v r) ≡ valued_by r.kind r (hull_from r.from r.to)
  unfolding values_good numbers_within range_width hull_width
  valued_ranged some ranged =
      by_hull t v r (hull_from r.from r.to) range_alone
      (λ fit. width_ends t v r (hull_from r.from r.to) some (ordered fit) wide fit)
    where
      ordered : numbers_within r (hull_from r.from r.to) (lowest r.kind) (highest r.kind) ≡ true → le_z r.from r.to ≡ true
      ordered fit =
          and_right (le_z (lowest r.kind) r.from) (le_z r.from r.to)
          (and_left (le_z (lowest r.kind) r.from && le_z r.from r.to) (le_z r.to (highest r.kind))
          (rw ranged at (and_both fit).0))

      wide : widest t v r ≡ max (range_width r) (hull_width r.kind (hull_from r.from r.to))
      wide = widest_none t v r none ∙ rw ranged (omega arith)

      range_alone : values_good t v r ≡ numbers_within r (hull_from r.from r.to) (lowest r.kind) (highest r.kind)
      range_alone =
          rw (range_within_lem r.kind r.from r.to r.range, lines_none t v r none, ranged)
          (and_again (le_z (lowest r.kind) r.from) (le_z r.from r.to) (le_z r.to (highest r.kind)))

  bare_values : r.range ≡ false → values_good t v r ≡ true
  unfolding values_good
  bare_values e = both_and (rw e) (lines_none t v r none)

-- ---- a row by its columns and a hull
module _ (c : Columns) (h : Hull) where
  -- the types up to 3 have numbers, the others none
  valued_one : c.kind ≡ 1 → values_by (kind_of c) (row_of c) h ≡ valued_by (kind_of c) (row_of c) h
  unfolding kind_of values_by
  valued_one q = rw q

  valued_two : c.kind ≡ 2 → values_by (kind_of c) (row_of c) h ≡ valued_by (kind_of c) (row_of c) h
  unfolding kind_of values_by
  valued_two q = rw q

  valued_three : c.kind ≡ 3 → values_by (kind_of c) (row_of c) h ≡ valued_by (kind_of c) (row_of c) h
  unfolding kind_of values_by
  valued_three q = rw q

  some_one : c.kind ≡ 1 → Valued (kind_of c)
  unfolding kind_of
  some_one q = rw q tt

  some_two : c.kind ≡ 2 → Valued (kind_of c)
  unfolding kind_of
  some_two q = rw q tt

  some_three : c.kind ≡ 3 → Valued (kind_of c)
  unfolding kind_of
  some_three q = rw q tt

  bare_four : c.kind ≡ 4 → (m : ℕ)
      → values_by (kind_of c) (row_of c) h ≡ (width_good (kind_of c) c.width m and room_good (kind_of c) (row_of c))
  unfolding kind_of values_by width_good row_of
  bare_four q m = rw q

  bare_five : c.kind ≡ 5 → (m : ℕ)
      → values_by (kind_of c) (row_of c) h ≡ (width_good (kind_of c) c.width m and room_good (kind_of c) (row_of c))
  unfolding kind_of values_by width_good row_of
  bare_five q m = rw q

type_cases : (A : Type 0) (k : ℕ) → 1 ≤ k → k ≤ 5 → (k ≡ 1 → A) → (k ≡ 2 → A) → (k ≡ 3 → A) → (k ≡ 4 → A) → (k ≡ 5 → A) → A
type_cases A k low high f1 f2 f3 f4 f5 =
    ⊎_elim (λ q. f1 (sym q)) (λ l1. ⊎_elim (λ q. f2 (sym q)) (λ l2. ⊎_elim (λ q. f3 (sym q)) (λ l3. ⊎_elim (λ q. f4 (sym q))
    (λ l4. f5 (omega arith)) (eq-or-lt_of_le l3)) (eq-or-lt_of_le l2)) (eq-or-lt_of_le l1)) (eq-or-lt_of_le low)

module _ (t : List ℤ) (v e before : ℕ) (c : Columns) where
  -- a type without numbers
  bare : (h : Hull) → ColumnFacts e before c → 4 ≤ c.kind
      → widths_good t v (row_of c) ≡ values_by (kind_of c) (row_of c) h
      → (values_good t v (row_of c) and widths_good t v (row_of c)) ≡ values_by (kind_of c) (row_of c) h
  unfolding row_of
  bare h f l same = and_yes _ _ (bare_values t v (row_of c) lacks.1 (rw lacks.0)) ∙ same
    where
      lacks : (c.range ≡ 0) × (c.lines ≡ 0)
      lacks = ⊎_elim (λ n. absurd (omega arith)) (λ p. p) f.lacked

  -- a row with lines, whose hull h is, and one without
  values_lined : (h : Hull) → ColumnFacts e before c → Hulled (value_at t v c.before) c.lines h
      → lines_plain t v c.before c.lines ≡ true → all_differ (value_at t v c.before) c.lines ≡ true
      → (values_good t v (row_of c) and widths_good t v (row_of c)) ≡ values_by (kind_of c) (row_of c) h
  unfolding row_of widths_good
  values_lined h f u plain differ =
      type_cases _ c.kind f.type_low f.type_high
      (λ q. valued_lined t v (row_of c) h (some_one c h q) u plain differ ∙ sym (valued_one c h q))
      (λ q. valued_lined t v (row_of c) h (some_two c h q) u plain differ ∙ sym (valued_two c h q))
      (λ q. valued_lined t v (row_of c) h (some_three c h q) u plain differ ∙ sym (valued_three c h q))
      (λ q. bare h f (omega arith) (sym (bare_four c h q (widest t v (row_of c)))))
      (λ q. bare h f (omega arith) (sym (bare_five c h q (widest t v (row_of c)))))

  values_unlined : ColumnFacts e before c → c.lines ≡ 0
      → (values_good t v (row_of c) and widths_good t v (row_of c)) ≡ values_by (kind_of c) (row_of c) (hull_from c.from c.to)
  unfolding row_of widths_good
  values_unlined f none =
      type_cases _ c.kind f.type_low f.type_high
      (λ q. valued_ranged t v (row_of c) none (some_one c h q) (ranged (omega arith)) ∙ sym (valued_one c h q))
      (λ q. valued_ranged t v (row_of c) none (some_two c h q) (ranged (omega arith)) ∙ sym (valued_two c h q))
      (λ q. valued_ranged t v (row_of c) none (some_three c h q) (ranged (omega arith)) ∙ sym (valued_three c h q))
      (λ q. bare h f (omega arith) (sym (bare_four c h q (widest t v (row_of c)))))
      (λ q. bare h f (omega arith) (sym (bare_five c h q (widest t v (row_of c)))))
    where
      h : Hull
      h = hull_from c.from c.to

      ranged : c.kind ≤ 3 → eqb c.range 1 ≡ true
      ranged l =
          eq-eqb c.range 1
          (⊎_elim (λ n. absurd (omega arith)) (⊎_elim (λ p. p) (λ n. absurd (omega arith))) f.given)

module _ (t : List ℤ) (v e before : ℕ) (c : Columns) where
  -- the clauses in the order in which they are looked at
  pub row_shared : shared_good e before c ≡ false → row_good t v e before c ≡ false
  unfolding row_good
  row_shared g = and_no _ _ (columns_shared e before c ∙ and_no _ _ g)

  module _ (g : shared_good e before c ≡ true) where
    by_type : (y : Bool) → (ColumnFacts e before c → (values_good t v (row_of c) and widths_good t v (row_of c)) ≡ y)
        → row_good t v e before c ≡ (type_good c and y)
    unfolding row_good
    by_type y same =
        ap (λ b. b and (values_good t v (row_of c) and widths_good t v (row_of c))) (columns_shared e before c ∙ and_yes _ _ g)
        ∙ go (type_good c) refl
      where
        go : (b : Bool) → type_good c ≡ b → (b and (values_good t v (row_of c) and widths_good t v (row_of c))) ≡ (b and y)
        go true e' = ap (λ x. true and x) (same (column_facts e before c (columns_shared e before c ∙ both_and g e')))
        go false e' = and_no _ _ refl ∙ sym (and_no _ _ refl)

    row_unlined : c.lines ≡ 0 → row_good t v e before c ≡ (type_good c and values_by (kind_of c) (row_of c) (hull_from c.from c.to))
    row_unlined none = by_type _ (λ f. values_unlined t v e before c f none)

    row_lined : (h : Hull) → Hulled (value_at t v c.before) c.lines h → lines_plain t v c.before c.lines ≡ true
        → all_differ (value_at t v c.before) c.lines ≡ true
        → row_good t v e before c ≡ (type_good c and values_by (kind_of c) (row_of c) h)
    row_lined h u plain differ = by_type _ (λ f. values_lined t v e before c h f u plain differ)

    -- a type without numbers has no lines: any hull will do
    row_bare : (h : Hull) → 4 ≤ c.kind → row_good t v e before c ≡ (type_good c and values_by (kind_of c) (row_of c) h)
    unfolding widths_good row_of
    row_bare h l = by_type _ (λ f. type_cases _ c.kind f.type_low f.type_high (λ q. absurd (omega arith))
        (λ q. absurd (omega arith)) (λ q. absurd (omega arith))
        (λ q. bare t v e before c h f l (sym (bare_four c h q (widest t v (row_of c)))))
        (λ q. bare t v e before c h f l (sym (bare_five c h q (widest t v (row_of c))))))

  row_plain : lines_plain t v c.before c.lines ≡ false → row_good t v e before c ≡ false
  unfolding row_good values_good lines_good row_of
  row_plain g = and_nor _ _ (and_no _ _ (and_nor _ _ (and_no _ _ (and_no _ _ g))))

  row_differ : all_differ (value_at t v c.before) c.lines ≡ false → row_good t v e before c ≡ false
  unfolding row_good values_good lines_good row_of
  row_differ g = and_nor _ _ (and_no _ _ (and_nor _ _ (and_nor _ _ g)))

-- ---- what the lines tell, in each case
module _ (t : List ℤ) (v : ℕ) (c : Columns) where
  pub told_none : c.lines ≡ 0 → BlockTold t v c (range_block c true)
  told_none none = λ e before g. row_unlined t v e before c g none ∙ sym (and_yes _ _ refl)

  pub told_bare : (e before : ℕ) → shared_good e before c ≡ true → 4 ≤ c.kind
      → row_good t v e before c ≡ (type_good c and values_by (kind_of c) (row_of c) (hull_from c.from c.to))
  told_bare e before g l = row_bare t v e before c g (hull_from c.from c.to) l

  pub told_odd : lines_plain t v c.before c.lines ≡ false → BlockTold t v c (range_block c false)
  told_odd odd = λ e before g. row_plain t v e before c odd ∙ sym (and_no _ _ refl)

  pub told_block : (b : Block) → Blocked (value_at t v c.before) c.lines b → lines_plain t v c.before c.lines ≡ true
      → BlockTold t v c b
  told_block b u plain = λ e before g. go e before g b.differ (sym u.differ)
    where
      go : (e before : ℕ) → shared_good e before c ≡ true → (d : Bool) → all_differ (value_at t v c.before) c.lines ≡ d
          → row_good t v e before c ≡ (d and (type_good c and values_by (kind_of c) (row_of c) b.hull))
      go e before g true q = row_lined t v e before c g b.hull u.hull plain q ∙ sym (and_yes _ _ refl)
      go e before g false q = row_differ t v e before c q ∙ sym (and_no _ _ refl)
