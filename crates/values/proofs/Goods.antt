-- VALUES that were read are good: the limits of their type, their range and their lines, as specs/Good says it.
use Rattle.std.specs.Prelude.{Ok, Err}
use mathlib.Core.Path.{◌≡◌, refl, ◌∙◌, sym, ap}
use mathlib.Core.Logic.{◌⊎◌, inl, inr, ⊎_elim}
use mathlib.Core.Bool.{Bool, true, false, cond, not, ◌&&◌}
use mathlib.Core.List.{List, [], ◌∷◌, ◌++◌}
use Prim.Native.Nat.{ℕ, zero, suc, ◌+◌, ◌-◌, ◌^◌, ◌≤◌, ◌<◌}
use native.Mathlib.Nat.{eq-or-lt_of_le}
use native.Mathlib.Omega.{arith}
use lib.Dec.{ltb, eqb}
use lib.IntN.{ℤ, pos, negsuc}
use lib.ListN.{length}
use lib.Signed.{le_z, lt_z}
use borrow.Author.Tests.{ltb-true, ltb-false, eqb-true, le-leb, not-true}
use Rattle.below.specs.Below.{holds_not, and_left, and_right, any_holds}
use Rattle.cells.specs.rule.Cell.{number_of, signed_of, eq_z}
use Rattle.scan.specs.rule.Text.{Text, stop, sign, text}
use Rattle.scan.specs.rule.Number.{is_digit, run_of, run_bytes}
use Rattle.scan.specs.Number.{capped, digits_from}
use Rattle.scan.specs.Order.{value_of}
use Rattle.scan.specs.rule.Loop.{Next, Again, Done, on_next, loop_of}
use Rattle.scan.proofs.Texts.{From, at_stop, at_sign, from_text}
use Rattle.tokens.specs.declared.Fault.{Fault}
use Rattle.tokens.specs.declared.Choice.{Choice}
use Rattle.tokens.specs.declared.Choice.TheVariants.{Taken, Left}
use Rattle.tokens.specs.declared.Mark.{Mark}
use Rattle.tokens.specs.declared.Value.{Value}
use Rattle.tokens.specs.rule.Gap.{fault, OrFault}
use Rattle.tokens.specs.Gap.{gap_on}
use Rattle.tokens.specs.Token.{choice_of, word_here, word_on, mark_of, value_at, of_value, value_here, value_on, past_value}
use Rattle.tokens.proofs.Values.{value_true}
use Rattle.statements.specs.rule.Words.{VALUES, TO, END, WITH}
use Rattle.statements.specs.Note.{notes_on, statement_on}
use Rattle.values.specs.declared.Block.{Block}
use Rattle.values.specs.declared.Said.{Said}
use Rattle.values.specs.declared.Ranged.{Ranged}
use Rattle.values.specs.declared.Ranged.TheVariants as ranged
use Rattle.values.specs.Value.{form_of, large_of, true_of, scaled_of, point_of, points_of}
use Rattle.values.specs.Range.{limit_range, reversed_of, judge_range, settled, ranged_of, with_or, range_rest}
use Rattle.values.specs.Line.{Given, Is, Not, line_rest, number_on, number_at, repeated_in, judge_line, grown_point, grown_by}
use Rattle.values.specs.Line.{end_of}
use Rattle.values.specs.Line.{end_or, more_of, Listing, state_of, after, judged_step, read_step, line_step, lines_from}
use Rattle.values.specs.Block.{empty_block, closed_by, range_then, to_or, values_on}
use Rattle.values.specs.Good.{Limited, Near, GoodBlock, GoodLine, EachGood, none, more, GoodLines, GoodValues}
use Rattle.values.proofs.Facts.{or_none, or_neither, sound_value}
use Rattle.values.proofs.Shares.{value_near, value_some, code_low, code_bare, code_none, code_some, codes_low, codes_same}
use Rattle.values.proofs.Shares.{codes_some, codes_first}
use Rattle.values.proofs.Shares.{size_number}
use Rattle.values.proofs.Rooms.{count_more, number_before, number_last}
use Rattle.values.proofs.Lists.{good_line, line_value_lem, line_good}

-- ---- a value that was read
-- behind a run of digits stands no digit
run_stops : (d : List ℕ) {n : ℕ} {t : Text} → From d n t → t ≡ text d n → run_bytes is_digit (text d (run_of is_digit n t)) ≡ []
unfolding run_bytes run_of
run_stops d at_stop q = rw (sym q)
run_stops d {n} (at_sign {p = p} {b = b} {u = u} g w i r) q = by (is_digit b) refl (run_stops d r i) where
  by : (x : Bool) → is_digit b ≡ x → run_bytes is_digit (text d (run_of is_digit (p + 1) u)) ≡ []
      → run_bytes is_digit (text d (cond x (run_of is_digit (p + 1) u) n)) ≡ []
  by true f ih = ih
  by false f ih = rw (sym q, f)

-- decimals have a point before them, the size is the true one up to the cap, one in form has a digit, and one with none before its point
-- lies nearer zero than 1
-- (z is what its digits say in full)
pub record Genuine (z : ℕ) (v : Value) : Type 0 where
  pub pointed : (v.decimals ≡ 0) ⊎ (v.point ≡ true)
  pub sized : v.size ≡ capped z
  pub some : v.formed ≡ true → (0 < v.whole) ⊎ (0 < v.decimals)
  pub near : v.whole ≡ 0 → v.size < 10 ^ v.decimals

-- what the digits of a value say in a text
abbrev pub size_in : List ℕ → Value → ℕ
size_in d v = value_of d v.first v.last

mark_pointed : (d : List ℕ) (k : ℕ) (t : Text) → run_bytes is_digit (text d k) ≡ []
    → (length (run_bytes is_digit (text d (mark_of k 46 t).next)) ≡ 0) ⊎ ((mark_of k 46 t).there ≡ true)
unfolding mark_of
mark_pointed d k (stop p) f = inl (ap length f)
mark_pointed d k (sign p c u) f = by (eqb c 46) where
  by : (x : Bool) → (length (run_bytes is_digit (text d
      (cond {A = Mark} x (record { there = true; next = p + 1 }) (record { there = false; next = k })).next)) ≡ 0) ⊎
      ((cond {A = Mark} x (record { there = true; next = p + 1 }) (record { there = false; next = k })).there ≡ true)
  by true = inr refl
  by false = inl (ap length f)

value_pointed : (d : List ℕ) (at : ℕ) → ((value_at d at).decimals ≡ 0) ⊎ ((value_at d at).point ≡ true)
unfolding value_at digits_from
value_pointed d at =
    let m = (mark_of at 45 (text d at)).next in
    let k = run_of is_digit m (text d m) in
    ⊎_elim (λ e. inl (ap (λ (n : ℕ). 0 + n) e)) inr (mark_pointed d k (text d k) (run_stops d (from_text d m) refl))

pub value_genuine : (d : List ℕ) (t : OrFault ℕ) (v : Value) → value_here d t ≡ Ok v → Genuine (size_in d v) v
unfolding value_here of_value
value_genuine d (Err f) v e = let z : ◌≡◌ {A = ℕ} 0 1 = cc in absurd (omega arith)
value_genuine d (Ok n) v e = by (eqb (value_at d n).next n) e where
  by : (x : Bool) → cond x (Err (fault 2 n)) (Ok (value_at d n)) ≡ Ok v → Genuine (size_in d v) v
  by true e = let z : ◌≡◌ {A = ℕ} 0 1 = cc in absurd (omega arith)
  by false e = let j : value_at d n ≡ v = cc in rw (← j)
      (record { pointed = value_pointed d n; sized = value_true d n; some = value_some d n; near = value_near d n })

-- ---- a value of the right form that passes no limit
pub record Fit (quantity : Bool) (v : Value) : Type 0 where
  pub small : v.size ≤ 999999999999999
  pub places : v.decimals ≤ 9
  pub category : quantity ≡ false → (v.minus ≡ false) × (v.point ≡ false) × (0 < v.size) × (v.size ≤ 9999)
  pub share : point_of v ≡ 2 → (1 ≤ v.decimals) × (v.size < 10 ^ v.decimals)

share_of : {z : ℕ} {v : Value} → Genuine z v → v.formed ≡ true → point_of v ≡ 2 → (1 ≤ v.decimals) × (v.size < 10 ^ v.decimals)
share_of {v = v} g f e =
    let w = code_bare v e in
    (⊎_elim (λ x. absurd (omega arith)) (λ x. x) (g.some f), g.near w)

-- digits alone have no decimals
whole : {z : ℕ} {v : Value} → Genuine z v → v.point ≡ false → v.decimals ≡ 0
whole g p = ⊎_elim (λ e. e) (λ q. holds_not q p) g.pointed

pub fits : (z : ℕ) (quantity : Bool) (v : Value) → Genuine z v → form_of quantity v ≡ true → large_of quantity v ≡ false → Fit quantity v
unfolding form_of large_of
fits n true v g f l = record {
  small = ltb-false 999999999999999 v.size (or_none _ (ltb 9 v.decimals) l);
  places = ltb-false 9 v.decimals (or_neither (ltb 999999999999999 v.size) _ l);
  category = λ e. holds_not refl e;
  share = share_of g f;
}
fits n false v g f l =
    let a = and_right v.formed (not v.minus && (not v.point && ltb 0 v.size)) f in
    let b = and_right (not v.minus) (not v.point && ltb 0 v.size) a in
    let m = not-true v.minus (and_left (not v.minus) (not v.point && ltb 0 v.size) a) in
    let p = not-true v.point (and_left (not v.point) (ltb 0 v.size) b) in
    let z = ltb-true 0 v.size (and_right (not v.point) (ltb 0 v.size) b) in
    let h = ltb-false 9999 v.size l in
    let k : v.formed ≡ true = and_left v.formed (not v.minus && (not v.point && ltb 0 v.size)) f in
    record { small = omega arith; places = omega (arith, whole g p); category = λ e. (m, p, z, h); share = share_of g k }

quantity_limited : (m : Bool) (n : ℕ) → n ≤ 999999999999999 → Limited true (number_of m n)
unfolding number_of
quantity_limited false n h = record { low = refl; high = le-leb n 999999999999999 h }
quantity_limited true zero h = record { low = refl; high = le-leb 0 999999999999999 (omega arith) }
quantity_limited true (suc n) h = record { low = le-leb n 999999999999998 (omega arith); high = refl }

category_limited : (n : ℕ) → 0 < n → n ≤ 9999 → Limited false (number_of false n)
unfolding number_of
category_limited n h k = record { low = le-leb 1 n h; high = le-leb n 9999 k }

pub value_limited : (quantity : Bool) (v : Value) → Fit quantity v → Limited quantity (scaled_of v)
unfolding scaled_of
value_limited true v f = quantity_limited v.minus v.size f.small
value_limited false v f = let c = f.category refl in rw c.0 (category_limited v.size c.2 c.3)

-- below the limits the size is the true one
cap_own : (n m : ℕ) → m ≡ capped n → m ≤ 999999999999999 → n ≡ m
cap_own n m e h = by (ltb 1000000000000000 n) e where
  by : (x : Bool) → m ≡ cond x 1000000000000000 n → n ≡ m
  by true e = absurd (omega arith)
  by false e = sym e

pub true_said : {z : ℕ} {quantity : Bool} {v : Value} → Genuine z v → Fit quantity v → number_of v.minus z ≡ scaled_of v
unfolding scaled_of
true_said {z} {v = v} g f = ap (number_of v.minus) (cap_own z v.size g.sized f.small)

pub true_scaled : (d : List ℕ) {quantity : Bool} {v : Value} → Genuine (size_in d v) v → Fit quantity v → true_of d v ≡ scaled_of v
unfolding true_of
true_scaled d g f = true_said g f

not_below : (a b : ℤ) → lt_z b a ≡ false → le_z a b ≡ true
not_below (pos a) (pos b) e = le-leb a b (ltb-false b a e)
not_below (pos a) (negsuc b) e = holds_not refl e
not_below (negsuc a) (pos b) e = refl
not_below (negsuc a) (negsuc b) e = le-leb b a (ltb-false a b e)

-- where the code is 2, the number that a value says is near
near_said : {quantity : Bool} {v : Value} → Fit quantity v → point_of v ≡ 2 → (signed_of (scaled_of v)).size < 10 ^ v.decimals
unfolding scaled_of
near_said {v = v} f e = rw (size_number v.minus v.size) (f.share e).1

-- ---- a range
abbrev range_block : Value → Value → Block
range_block x y = record {
  ranged = true;
  from = scaled_of x;
  to = scaled_of y;
  known = true;
  decimals = x.decimals;
  point = points_of
      (point_of x) (point_of y);
}

module _ (quantity : Bool) (below : Bool) (x y : Value) (n m' : ℕ) (gx : Genuine n x) (gy : Genuine m' y)
    (order : below ≡ lt_z (number_of y.minus m') (number_of x.minus n)) where
  range_good_lem : Fit quantity x → Fit quantity y → x.decimals ≡ y.decimals → below ≡ false → GoodBlock quantity (range_block x y)
  range_good_lem fx fy s e = record {
    few_decimals = fx.places;
    point_code = codes_low (point_of x) (point_of y) (code_low x);
    pointed = ⊎_elim inl (λ p. inr (codes_first (point_of x) (point_of y) (code_some x p))) gx.pointed;
    shared = λ p. (fx.share (codes_same (point_of x) (point_of y) p).0).0;
    category = λ q. (whole gx (fx.category q).1, rw (code_none x (fx.category q).1, code_none y (fy.category q).1));
    unranged = λ q. holds_not refl q;
    ordered = λ q. not_below (scaled_of x) (scaled_of y) (rw (true_said gx fx, true_said gy fy) at (sym order ∙ e));
    from_limited = λ q. value_limited quantity x fx;
    to_limited = λ q. value_limited quantity y fy;
    from_near = λ q p. near_said fx (codes_same (point_of x) (point_of y) p).0;
    to_near = λ q p. rw s (near_said fy (codes_same (point_of x) (point_of y) p).1);
  }

  -- a range that stands is a good block, whatever road its values came by
  pub judged_good : {b : Block} → judge_range below quantity x y ≡ Ok b → GoodBlock quantity b × (b.ranged ≡ true)
      × (b.known ≡ true)
  unfolding judge_range limit_range
  judged_good {b} = by (form_of quantity x) (form_of quantity y) (eqb x.decimals y.decimals) below (large_of quantity x)
      (large_of quantity y) refl refl refl refl refl refl where
        by : (f g q r l m : Bool) → form_of quantity x ≡ f → form_of quantity y ≡ g → eqb x.decimals y.decimals ≡ q → below ≡ r
            → large_of quantity x ≡ l → large_of quantity y ≡ m
            → cond f (cond g (cond q (cond r (Err (fault 6 y.place))
            (cond l (Err (fault 8 x.place)) (cond m (Err (fault 8 y.place)) (Ok (range_block x y)))))
            (Err (fault 6 y.place))) (Err (fault 6 y.place))) (Err (fault 6 x.place)) ≡ Ok b
            → GoodBlock quantity b × (b.ranged ≡ true) × (b.known ≡ true)
        by false g q r l m ef eg eq er el em e = let z : ◌≡◌ {A = ℕ} 0 1 = cc in absurd (omega arith)
        by true false q r l m ef eg eq er el em e = let z : ◌≡◌ {A = ℕ} 0 1 = cc in absurd (omega arith)
        by true true false r l m ef eg eq er el em e = let z : ◌≡◌ {A = ℕ} 0 1 = cc in absurd (omega arith)
        by true true true true l m ef eg eq er el em e = let z : ◌≡◌ {A = ℕ} 0 1 = cc in absurd (omega arith)
        by true true true false true m ef eg eq er el em e = let z : ◌≡◌ {A = ℕ} 0 1 = cc in absurd (omega arith)
        by true true true false false true ef eg eq er el em e = let z : ◌≡◌ {A = ℕ} 0 1 = cc in absurd (omega arith)
        by true true true false false false ef eg eq er el em e =
            let j : range_block x y ≡ b = cc in
            rw (← j) (range_good_lem (fits n quantity x gx ef el) (fits m' quantity y gy eg em) (eqb-true _ _ eq) er, refl, refl)

module _ (d : List ℕ) (quantity : Bool) where
  -- what is known of a block that a range made
  unfoldable pub Made : Block → Type 0
  Made b = GoodBlock quantity b × (b.ranged ≡ true) × (b.known ≡ true)

  ranged_good : (a c : OrFault Value) (end : OrFault ℕ) (w : Bool) {b : Block} {with : Bool} {n : ℕ}
      → ((v : Value) → a ≡ Ok v → Genuine (size_in d v) v) → ((v : Value) → c ≡ Ok v → Genuine (size_in d v) v)
      → ranged_of d quantity a c end w ≡ ranged.Is b with n → Made b
  unfolding ranged_of Made true_of
  ranged_good (Err f) c end w ga gc e = let z : ◌≡◌ {A = ℕ} 0 1 = cc in absurd (omega arith)
  ranged_good (Ok x) (Err f) end w ga gc e = let z : ◌≡◌ {A = ℕ} 0 1 = cc in absurd (omega arith)
  ranged_good (Ok x) (Ok y) (Err f) w ga gc e = let z : ◌≡◌ {A = ℕ} 0 1 = cc in absurd (omega arith)
  ranged_good (Ok x) (Ok y) (Ok m) w {b} {with} {n} ga gc e = by (judge_range (reversed_of d x y) quantity x y) refl e where
    by : (j : OrFault Block) → judge_range (reversed_of d x y) quantity x y ≡ j → settled j w m ≡ ranged.Is b with n → Made b
    by (Ok k) i e = let q : k ≡ b = cc in
        judged_good quantity (reversed_of d x y) x y (size_in d x) (size_in d y) (ga x refl) (gc y refl) refl (rw q at i)
    by (Err f) i e = let z : ◌≡◌ {A = ℕ} 0 1 = cc in absurd (omega arith)

  pub rest_good : (a : OrFault Value) (t : OrFault ℕ) {b : Block} {with : Bool} {n : ℕ} → ((v : Value) → a ≡ Ok v → Genuine (size_in d v) v)
      → range_rest d quantity a t ≡ ranged.Is b with n → Made b
  unfolding range_rest value_on
  rest_good a t {b} {with} {n} ga = by (choice_of d (gap_on d (past_value c)) WITH) where
    c : OrFault Value
    c = value_here d (gap_on d t)

    by : (k : Choice) → with_or d quantity a c (gap_on d (past_value c)) k ≡ ranged.Is b with n → Made b
    by (Taken m) e = ranged_good a c (Ok m) true ga (value_genuine d (gap_on d t)) e
    by Left e = ranged_good a c (gap_on d (past_value c)) false ga (value_genuine d (gap_on d t)) e

-- ---- lines
none_good : (quantity : Bool) → GoodBlock quantity empty_block
none_good quantity = record {
  few_decimals = omega arith;
  point_code = omega arith;
  pointed = inl refl;
  shared = λ p. absurd (omega arith);
  category = λ q. (refl, refl);
  unranged = λ q. (refl, refl);
  ordered = λ q. holds_not q refl;
  from_limited = λ q. holds_not q refl;
  to_limited = λ q. holds_not q refl;
  from_near = λ q. holds_not q refl;
  to_near = λ q. holds_not q refl;
}

-- the code of a block that has grown: 2 only where the number is bare, and the block had it before or had no number
pub record Shares (b : Block) (v : Value) : Type 0 where
  pub own : point_of v ≡ 2
  pub before : b.known ≡ true → b.point ≡ 2

grown_shares : (b : Block) (v : Value) → grown_point b v ≡ 2 → Shares b v
grown_shares b v = by b.known refl where
  by : (k : Bool) → b.known ≡ k → cond k (points_of b.point (point_of v)) (point_of v) ≡ 2 → Shares b v
  by true e p = let s = codes_same b.point (point_of v) p in record { own = s.1; before = λ q. s.0 }
  by false e p = record { own = p; before = λ q. holds_not q e }

grown_low : (b : Block) (v : Value) → b.point ≤ 2 → grown_point b v ≤ 2
grown_low b v h = by b.known where
  by : (k : Bool) → cond k (points_of b.point (point_of v)) (point_of v) ≤ 2
  by true = codes_low b.point (point_of v) h
  by false = code_low v

grown_some : (b : Block) (v : Value) → v.point ≡ true → 1 ≤ grown_point b v
grown_some b v p = by b.known where
  by : (k : Bool) → 1 ≤ cond k (points_of b.point (point_of v)) (point_of v)
  by true = codes_some b.point (point_of v) (code_some v p)
  by false = code_some v p

grown_none : (b : Block) (v : Value) → b.point ≡ 0 → v.point ≡ false → grown_point b v ≡ 0
grown_none b v e f = rw (e, code_none v f) (by b.known) where
  by : (k : Bool) → ◌≡◌ {A = ℕ} (cond k 0 0) 0
  by true = refl
  by false = refl

-- what was near stays so where all decimals are alike; and so is a block's range, where it has one only if a number is known
near_still : (b : Block) (v : Value) (z : ℤ) → b.known ≡ true → (b.known ≡ true → v.decimals ≡ b.decimals) → Near b z
    → Near (grown_by b v) z
unfolding grown_by
near_still b v z k s n p = rw (s k) (n ((grown_shares b v p).before k))

grown_good : {z : ℕ} (quantity : Bool) (b : Block) (v : Value) → GoodBlock quantity b → (b.ranged ≡ true → b.known ≡ true)
    → (b.known ≡ true → v.decimals ≡ b.decimals) → Genuine z v → Fit quantity v → GoodBlock quantity (grown_by b v)
unfolding grown_by
grown_good quantity b v k r s g f = record {
  few_decimals = f.places;
  point_code = grown_low b v k.point_code;
  pointed = ⊎_elim inl (λ p. inr (grown_some b v p)) g.pointed;
  shared = λ p. (f.share (grown_shares b v p).own).0;
  category = λ q. (whole g (f.category q).1, grown_none b v (k.category q).1 (f.category q).1);
  unranged = k.unranged;
  ordered = k.ordered;
  from_limited = k.from_limited;
  to_limited = k.to_limited;
  from_near = λ q. near_still b v b.from (r q) s (k.from_near q);
  to_near = λ q. near_still b v b.to (r q) s (k.to_near q);
}

each_more : {l : List Said} {s : Said} → EachGood l → GoodLine s → EachGood (l ++ s ∷ [])
each_more none g = more g none
each_more (more h r) g = more h (each_more r g)

module _ (quantity : Bool) (first : ℕ) (l : List Said) (s : Said) (g : GoodLines quantity first l) (n : Limited quantity (number_on s))
    (r : repeated_in (number_at l) (length l) (number_on s) ≡ false) where
  last_or : (i : ℕ) → i < length (l ++ s ∷ []) → (i ≡ length l) ⊎ (i < length l)
  last_or i h = let k : i ≤ length l = omega (arith, count_more l s) in eq-or-lt_of_le k

  fresh : (i : ℕ) → i < length l → eq_z (number_at l i) (number_on s) ≡ false
  unfolding repeated_in
  fresh i h = by (eq_z (number_at l i) (number_on s)) refl where
    by : (x : Bool) → eq_z (number_at l i) (number_on s) ≡ x → x ≡ false
    by true e = holds_not (any_holds (λ j. eq_z (number_at l j) (number_on s)) (length l) i h e) r
    by false e = refl

  last_number : (i : ℕ) → i ≡ length l → number_at (l ++ s ∷ []) i ≡ number_on s
  last_number i q = ap (number_at (l ++ s ∷ [])) q ∙ number_last l s

  lines_good : first + length l < 4096 → GoodLine s → GoodLines quantity first (l ++ s ∷ [])
  lines_good h k = record {
    few = omega (arith, count_more l s);
    limited = λ i e. ⊎_elim (λ q. rw (last_number i q) n) (λ b. rw (number_before l s i b) (g.limited i b)) (last_or i e);
    differ = λ i j a e.
        ⊎_elim
        (λ q. let b : i < length l = omega arith in rw (last_number j q, number_before l s i b) (fresh i b))
        (λ b. let c : i < length l = omega arith in rw (number_before l s i c, number_before l s j b) (g.differ i j a b))
        (last_or j e);
    each = each_more g.each k;
  }

-- ---- all lines
module _ (d : List ℕ) (quantity : Bool) (first : ℕ) (h : length d ≤ 1048576) where
  record GoodGiven (g : Given) : Type 0 where
    of : {b : Block} {l : List Said} {n : ℕ} → g ≡ Is b l n → GoodValues quantity first b l

  -- a block is known once it has a range or a line, and its lines are near where its code is 2
  record Known (b : Block) (l : List Said) : Type 0 where
    ranged : b.ranged ≡ true → b.known ≡ true
    lined : 1 ≤ length l → b.known ≡ true
    near : (i : ℕ) → i < length l → Near b (number_at l i)

  record Sofar (l : Listing) : Type 0 where
    value : (v : Value) → l.amount ≡ Ok v → Genuine (size_in d v) v
    block : GoodBlock quantity l.block
    lines : GoodLines quantity first l.lines
    known : Known l.block l.lines

  data Keeps : Next Listing Given → Type 0 where
    on : {l : Listing} → Sofar l → Keeps (Again l)
    over : {g : Given} → GoodGiven g → Keeps (Done g)

  not_given : (f : Fault) → GoodGiven (Not f)
  not_given f = record { of = λ {b} {l} {n} e. let z : ◌≡◌ {A = ℕ} 0 1 = cc in absurd (omega arith) }

  is_given : (b : Block) (l : List Said) (n : ℕ) → GoodValues quantity first b l → GoodGiven (Is b l n)
  is_given b l n g = record { of = λ {b = b'} {l = l'} {n = n'} e. let p : b ≡ b' = cc in let q : l ≡ l' = cc in rw (← p, ← q) g }

  -- a line more
  known_more : (b : Block) (l : List Said) (s : Said) → Known b l → (b.known ≡ true → s.value.decimals ≡ b.decimals)
      → Fit quantity s.value
      → Known (grown_by b s.value) (l ++ s ∷ [])
  unfolding grown_by
  known_more b l s k same f = record {
    ranged = λ q. refl;
    lined = λ q. refl;
    near = λ i h.
        ⊎_elim
        (λ q. let e : number_at (l ++ s ∷ []) i ≡ number_on s = ap (number_at (l ++ s ∷ [])) q ∙ number_last l s in
        rw e (λ p. near_said f (grown_shares b s.value p).own))
        (λ e. rw (number_before l s i e) (near_still b s.value (number_at l i) (k.lined (omega arith)) same (k.near i e)))
        (let n : i ≤ length l = omega (arith, count_more l s) in eq-or-lt_of_le n);
  }

  more_keeps : (b : Block) (l : List Said) (n : ℕ) → GoodBlock quantity b → GoodLines quantity first l → Known b l → 1 ≤ length l
      → Keeps (after l (more_of d b n))
  unfolding more_of end_of
  more_keeps b l n gb gl kn some = by (choice_of d (notes_on d (Ok n)) END) where
    ends : (r : OrFault ℕ) → Keeps (after l (end_of b r))
    ends (Ok m) = over (is_given b l m (record { block = gb; lines = gl; near = kn.near; something = inr some }))
    ends (Err f) = over (not_given f)

    by : (k : Choice) → Keeps (after l (end_or d b (notes_on d (Ok n)) k))
    by (Taken m) = ends (word_on d (Ok m) VALUES)
    by Left = on (record { value = value_genuine d (notes_on d (Ok n)); block = gb; lines = gl; known = kn })

  step_keeps : (l : Listing) → Sofar l → Keeps (line_step d quantity first l)
  unfolding line_step
  step_keeps l k = by (line_rest d l.amount) refl where
    judge : (s : Said) (v : OrFault ℤ) → line_rest d l.amount ≡ Ok s
        → judge_line (number_at l.lines) (length l.lines) first quantity l.block s.value ≡ v → Keeps (judged_step d l s v)
    judge s (Ok z) j i =
        let t = good_line (number_at l.lines) (length l.lines) first quantity l.block s.value i in
        let g = k.value s.value (line_value_lem d l.amount s j) in
        let w = sound_value quantity l.block s.value t.sound in
        let f = fits (size_in d s.value) quantity s.value g w.0 w.1 in
        more_keeps (grown_by l.block s.value) (l.lines ++ s ∷ []) s.next
        (grown_good quantity l.block s.value k.block k.known.ranged w.2 g f)
        (lines_good quantity first l.lines s k.lines (value_limited quantity s.value f) t.fresh t.few
        (line_good d l.amount s h j))
        (known_more l.block l.lines s k.known w.2 f)
        (omega (arith, count_more l.lines s))
    judge s (Err f) j i = over (not_given f)

    by : (r : OrFault Said) → line_rest d l.amount ≡ r → Keeps (read_step d quantity first l r)
    by (Ok s) j = judge s (judge_line (number_at l.lines) (length l.lines) first quantity l.block s.value) j refl
    by (Err f) j = over (not_given f)

  loops : (f : ℕ) (l : Listing) → Sofar l → GoodGiven (loop_of (line_step d quantity first) (Not (fault 0 0)) f l)
  unfolding loop_of
  loops zero l k = not_given (fault 0 0)
  loops (suc f) l k = by (loops f) (step_keeps l k) where
    by : ((m : Listing) → Sofar m → GoodGiven (loop_of (line_step d quantity first) (Not (fault 0 0)) f m)) → {x : Next Listing Given}
        → Keeps x → GoodGiven (on_next x (loop_of (line_step d quantity first) (Not (fault 0 0)) f))
    by ih (on {l = m} r) = ih m r
    by ih (over g) = g

  no_lines : first ≤ 4096 → GoodLines quantity first []
  no_lines r = record { few = omega arith; limited = λ i e. absurd (omega arith); differ = λ i j a e. absurd (omega arith); each = none }

  lines_given : (a : OrFault Value) (b : Block) → first ≤ 4096 → ((v : Value) → a ≡ Ok v → Genuine (size_in d v) v) → GoodBlock quantity b
      → (b.ranged ≡ true → b.known ≡ true) → GoodGiven (lines_from d quantity first (state_of a b []))
  unfolding lines_from
  lines_given a b r ga gb kn =
      loops (suc (4096 - (first + 0))) (state_of a b [])
      (record {
        value = ga;
        block = gb;
        lines = no_lines r;
        known = record { ranged = kn; lined = λ q. absurd (omega arith); near = λ i e. absurd (omega arith) };
      })

  range_given : first ≤ 4096 → (r : Ranged) → ((b : Block) (with : Bool) (n : ℕ) → r ≡ ranged.Is b with n → Made d quantity b)
      → GoodGiven (range_then d quantity first r)
  unfolding range_then closed_by Made
  range_given r (ranged.Not f) m = not_given f
  range_given r (ranged.Is b with n) m = by with (m b with n refl) where
    close : (e : OrFault ℕ) → GoodBlock quantity b × (b.ranged ≡ true) × (b.known ≡ true) → GoodGiven (closed_by b e)
    close (Ok k) g = is_given b [] k (record {
      block = g.0;
      lines = no_lines r;
      near = λ i e. absurd (omega arith);
      something = inl g.1;
    })
    close (Err f) g = not_given f

    by : (w : Bool) → GoodBlock quantity b × (b.ranged ≡ true) × (b.known ≡ true)
        → GoodGiven (cond w (lines_from d quantity first (state_of (value_here d (notes_on d (Ok n))) b []))
        (closed_by b (word_on d (word_here d (notes_on d (Ok n)) END) VALUES)))
    by true g = lines_given (value_here d (notes_on d (Ok n))) b r (value_genuine d (notes_on d (Ok n))) g.0 (λ q. g.2)
    by false g = close (word_on d (word_here d (notes_on d (Ok n)) END) VALUES) g

  all_given : first ≤ 4096 → (t : OrFault ℕ) → GoodGiven (values_on d quantity first t)
  unfolding values_on
  all_given r t = by (choice_of d (gap_on d (past_value a)) TO) where
    n : OrFault ℕ
    n = notes_on d (statement_on d t VALUES)

    a : OrFault Value
    a = value_here d n

    by : (k : Choice) → GoodGiven (to_or d quantity first a k)
    by (Taken m) = range_given r (range_rest d quantity a (Ok m))
        (λ b with n e. rest_good d quantity a (Ok m) (value_genuine d (notes_on d (statement_on d t VALUES))) e)
    by Left = lines_given a empty_block r (value_genuine d n) (none_good quantity) (λ q. holds_not q refl)

-- VALUES that were read are good
pub values_good_lem : (d : List ℕ) (quantity : Bool) (first : ℕ) (t : OrFault ℕ) {b : Block} {l : List Said} {n : ℕ} → length d ≤ 1048576
    → first
    ≤ 4096 → values_on d quantity first t ≡ Is b l n → GoodValues quantity first b l
values_good_lem d quantity first t h r e = (all_given d quantity first h r t).of e
