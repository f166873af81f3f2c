-- A range judged by the code is judged as the rule says, in whichever order its values stand.
use Rattle.std.specs.Prelude.{Ok, Err}
use mathlib.Core.Path.{◌≡◌, refl, ◌∙◌, ap}
use mathlib.Core.Bool.{Bool, true, false, cond, not, ◌&&◌, ◌||◌}
use mathlib.Core.List.{List, [], ◌∷◌}
use Prim.Native.Nat.{ℕ}
use native.Mathlib.Omega.{arith}
use lib.Dec.{eqb, ltb, leb}
use lib.Signed.{lt_z}
use borrow.Author.Tests.{le-leb, lt-leb, ltb-true, ltb-false, eqb-true, not-false}
use Rattle.scan.specs.Number.{capped}
use Rattle.tokens.specs.rule.Gap.{fault, OrFault}
use Rattle.values.specs.declared.Block as books
use Rattle.values.specs.Value.{scaled_of, point_of, points_of}
use Rattle.values.specs.Range.{limit_range, judge_range}
use Rattle.survey.specs.rule.Survey.{Amount, Range}
use Rattle.survey.specs.rule.Width.{some_of, each_of, amounts, scaled}
use Rattle.reading.specs.rule.Result.{Result, Is, Not, bind}
use Rattle.reading.specs.rule.Least.{Charge, ◌when◌, named, goes_before, lower, least, judged}
use Rattle.reading.specs.rule.Values.{form_is, large, unlike_amounts, range_from}
use Rattle.bridge.specs.Blocks.{form_same, large_same, small, Kept}
use Rattle.xml_reading.specs.rule.Block.{pair_charges}
use Rattle.blocks.specs.Code.{held_as, turned, pair_of, block_of, range_block, judged_of}
use Rattle.blocks.proofs.Charges.{judged_split}

-- ---- what a range says, in the books
abbrev made : Amount → Amount → books.Block
made x y = record {
  ranged = true;
  from = scaled_of (held_as x);
  to = scaled_of (held_as y);
  known = true;
  decimals = x.decimals;
  point = points_of (point_of (held_as x)) (point_of (held_as y));
}

module _ (x y : Amount) (s : capped x.size ≡ x.size) (t : capped y.size ≡ y.size) where
  points : (p w q u : Bool)
      → ◌≡◌ {A = ℕ} (points_of (cond p (cond w 2 1) 0) (cond q (cond u 2 1) 0))
      (cond (p || (q || false)) (cond ((p && w) && ((q && u) && true)) 2 1) 0)
  points true true true true = refl
  points true true true false = refl
  points true true false u = refl
  points true false true true = refl
  points true false true false = refl
  points true false false u = refl
  points false w true true = refl
  points false w true false = refl
  points false w false u = refl

  pub made_is : made x y ≡ block_of (range_block (range_from x y))
  unfolding block_of amounts some_of each_of scaled_of
  made_is = rw (s, t, points x.point (eqb x.whole 0) y.point (eqb y.whole 0))

-- the decimals of its two values are alike, which is all that the books keep of them
pub range_kept : (x y : Amount) → unlike_amounts x y ≡ false → Kept (block_of (range_block (range_from x y))) (range_block (range_from x y))
unfolding block_of amounts some_of
range_kept x y u =
    let e = eqb-true x.decimals y.decimals (not-false (eqb x.decimals y.decimals) u) in
    record {
      decimals = refl;
      point = refl;
      known = refl;
      unlike_some = λ c. rw (← e) (twice (unlike_amounts c x));
      ranged = refl;
      from = refl;
      to = refl;
    }
  where
    twice : (q : Bool) → q ≡ (q || (q || false))
    twice true = refl
    twice false = refl

-- ---- the charges of 6, and those of 8
module _ (a b : ℕ) where
  abbrev sixes : Bool → Bool → Bool → Bool → List Charge
  sixes p q u v = fault 6 a when not p ∷ fault 6 b when not q ∷ fault 6 b when ((p && q) && u) ∷ fault 6 b when ((p && q) && v) ∷ []

  abbrev eights : Bool → Bool → List Charge
  eights g h = fault 8 a when g ∷ fault 8 b when h ∷ []

  module _ {A : Type 0} (x : A) (n : ℕ) where
    abbrev bad : ℕ → ℕ → Result A
    bad k p = Not (fault k p)

    sixes_first : leb a b ≡ true → (p q u v : Bool)
        → judged (sixes p q u v) x n ≡ cond p (cond q (cond u (bad 6 b) (cond v (bad 6 b) (Is x n))) (bad 6 b)) (bad 6 a)
    unfolding judged least named lower goes_before
    sixes_first o true true true true = rw (le-leb b b (omega arith))
    sixes_first o true true true false = refl
    sixes_first o true true false true = refl
    sixes_first o true true false false = refl
    sixes_first o true false u v = refl
    sixes_first o false true u v = refl
    sixes_first o false false u v = rw o

    sixes_turned : leb a b ≡ false → (p q u v : Bool)
        → judged (sixes p q u v) x n ≡ cond q (cond p (cond u (bad 6 b) (cond v (bad 6 b) (Is x n))) (bad 6 a)) (bad 6 b)
    unfolding judged least named lower goes_before
    sixes_turned o true true true true = rw (le-leb b b (omega arith))
    sixes_turned o true true true false = refl
    sixes_turned o true true false true = refl
    sixes_turned o true true false false = refl
    sixes_turned o true false u v = refl
    sixes_turned o false true u v = refl
    sixes_turned o false false u v = rw o

    eights_first : leb a b ≡ true → (g h : Bool) → judged (eights g h) x n ≡ cond g (bad 8 a) (cond h (bad 8 b) (Is x n))
    unfolding judged least named lower goes_before
    eights_first o true true = rw o
    eights_first o true false = refl
    eights_first o false true = refl
    eights_first o false false = refl

    eights_turned : leb a b ≡ false → (g h : Bool) → judged (eights g h) x n ≡ cond h (bad 8 b) (cond g (bad 8 a) (Is x n))
    unfolding judged least named lower goes_before
    eights_turned o true true = rw o
    eights_turned o true false = refl
    eights_turned o false true = refl
    eights_turned o false false = refl

module _ (quantity below : Bool) (x y : Amount) (n : ℕ) where
  abbrev a : ℕ
  a = x.place

  abbrev b : ℕ
  b = y.place

  abbrev refused : ℕ → ℕ → OrFault books.Block
  refused k p = Err (fault k p)

  abbrev limit : Bool → Bool → OrFault books.Block
  limit g h = cond g (refused 8 a) (cond h (refused 8 b) (Ok (made x y)))

  abbrev judge : Bool → Bool → Bool → Bool → Bool → Bool → OrFault books.Block
  judge p q e v g h = cond p (cond q (cond e (cond v (refused 6 b) (limit g h)) (refused 6 b)) (refused 6 b)) (refused 6 a)

  judge_is : judge_range below quantity (held_as x) (held_as y)
      ≡ judge (form_is quantity x) (form_is quantity y) (eqb x.decimals y.decimals) below (large quantity x) (large quantity y)
  unfolding judge_range limit_range
  judge_is =
      rw (
        form_same [] quantity x x.place x.end x.end,
        form_same [] quantity y y.place y.end y.end,
        large_same [] quantity x x.place x.end x.end,
        large_same [] quantity y y.place y.end y.end,
      )

  -- of the rule's charges the sixes count first
  abbrev good : Range
  good = range_from x y

  parts : judged (pair_charges quantity x y) good n
      ≡ bind (judged (sixes a b (form_is quantity x) (form_is quantity y) (unlike_amounts x y) (lt_z (scaled y) (scaled x))) good n)
      (λ r n. judged (eights a b (large quantity x) (large quantity y)) r n)
  unfolding pair_charges
  parts =
      judged_split 8 (sixes a b (form_is quantity x) (form_is quantity y) (unlike_amounts x y) (lt_z (scaled y) (scaled x)))
      (eights a b (large quantity x) (large quantity y))
      (omega arith, (omega arith, (omega arith, (omega arith, tt)))) (refl, (refl, tt)) good n

  stands : (g h : Bool) → large quantity x ≡ g → large quantity y ≡ h → g ≡ false → h ≡ false
      → ◌≡◌ {A = OrFault books.Block} (Ok (made x y)) (Ok (block_of (range_block good)))
  stands g h i j e f = ap Ok (made_is x y (small quantity x (i ∙ e)) (small quantity y (j ∙ f)))

  in_order : leb a b ≡ true → (p q e v g h : Bool) → (p ≡ true → q ≡ true → below ≡ v) → large quantity x ≡ g → large quantity y ≡ h
      → judge p q e below g h ≡ judged_of (bind (judged (sixes a b p q (not e) v) good n) (λ r n. judged (eights a b g h) r n))
  in_order o p q e v g h k i j = rw (sixes_first a b good n o p q (not e) v) (by p q e v k) where
    ends : (g h : Bool) → large quantity x ≡ g → large quantity y ≡ h → limit g h ≡ judged_of (judged (eights a b g h) good n)
    ends g h i j = rw (eights_first a b good n o g h) (each g h i j) where
      each : (g h : Bool) → large quantity x ≡ g → large quantity y ≡ h
          → limit g h ≡ judged_of (cond g (Not (fault 8 a)) (cond h (Not (fault 8 b)) (Is good n)))
      each true h i j = refl
      each false true i j = refl
      each false false i j = stands false false i j refl refl

    by : (p q e v : Bool) → (p ≡ true → q ≡ true → below ≡ v)
        → judge p q e below g h ≡ judged_of (bind (cond p (cond q (cond (not e) (Not (fault 6 b)) (cond v (Not (fault 6 b)) (Is good n)))
        (Not (fault 6 b))) (Not (fault 6 a))) (λ r n. judged (eights a b g h) r n))
    by true true true true k = rw (k refl refl)
    by true true true false k = rw (k refl refl) (ends g h i j)
    by true true false v k = refl
    by true false e v k = refl
    by false q e v k = refl

  -- the second value stands first
  in_turn : leb a b ≡ false → (p q e v g h : Bool) → (p ≡ true → q ≡ true → below ≡ v) → large quantity x ≡ g → large quantity y ≡ h
      → cond q (turned quantity (held_as y) (judge p q e below g h)) (refused 6 b)
      ≡ judged_of (bind (judged (sixes a b p q (not e) v) good n) (λ r n. judged (eights a b g h) r n))
  in_turn o p q e v g h k i j = rw (sixes_turned a b good n o p q (not e) v) (by p q e v k) where
    ends : (g h : Bool) → large quantity x ≡ g → large quantity y ≡ h
        → turned quantity (held_as y) (limit g h) ≡ judged_of (judged (eights a b g h) good n)
    ends g h i j = rw (eights_turned a b good n o g h) (each g h i j) where
      each : (g h : Bool) → large quantity x ≡ g → large quantity y ≡ h
          → turned quantity (held_as y) (limit g h) ≡ judged_of (cond h (Not (fault 8 b)) (cond g (Not (fault 8 a)) (Is good n)))
      each true true i j = rw (large_same [] quantity y y.place y.end y.end ∙ j)
      each true false i j = rw (large_same [] quantity y y.place y.end y.end ∙ j)
      each false true i j = rw (large_same [] quantity y y.place y.end y.end ∙ j)
      each false false i j = stands false false i j refl refl

    by : (p q e v : Bool) → (p ≡ true → q ≡ true → below ≡ v)
        → cond q (turned quantity (held_as y) (judge p q e below g h)) (refused 6 b)
        ≡ judged_of (bind (cond q (cond p (cond (not e) (Not (fault 6 b)) (cond v (Not (fault 6 b)) (Is good n)))
        (Not (fault 6 a))) (Not (fault 6 b))) (λ r n. judged (eights a b g h) r n))
    by true true true true k = rw (k refl refl)
    by true true true false k = rw (k refl refl) (ends g h i j)
    by true true false v k = refl
    by false true e v k = refl
    by true false e v k = refl
    by false false e v k = refl

  -- RANGE: `below` counts where both have form
  pub pair_judged : (form_is quantity x ≡ true → form_is quantity y ≡ true → below ≡ lt_z (scaled y) (scaled x))
      → pair_of below quantity (held_as x) (held_as y) ≡ judged_of (judged (pair_charges quantity x y) good n)
  unfolding pair_of
  pair_judged k =
      rw (parts, judge_is, form_same [] quantity y y.place y.end y.end) (by (ltb b a) refl) where
        by : (o : Bool) → ltb b a ≡ o
            → cond o (cond (form_is quantity y) (turned quantity (held_as y) (judge (form_is quantity x) (form_is quantity y)
            (eqb x.decimals y.decimals) below (large quantity x) (large quantity y))) (refused 6 b))
            (judge (form_is quantity x) (form_is quantity y) (eqb x.decimals y.decimals) below (large quantity x) (large quantity y))
            ≡ judged_of (bind (judged (sixes a b (form_is quantity x) (form_is quantity y) (unlike_amounts x y)
            (lt_z (scaled y) (scaled x)))
            good n)
            (λ r n. judged (eights a b (large quantity x) (large quantity y)) r n))
        by true e =
            in_turn (lt-leb a b (ltb-true b a e)) (form_is quantity x) (form_is quantity y) (eqb x.decimals y.decimals)
            (lt_z (scaled y) (scaled x)) (large quantity x) (large quantity y) k refl refl
        by false e =
            in_order (le-leb a b (ltb-false b a e)) (form_is quantity x) (form_is quantity y) (eqb x.decimals y.decimals)
            (lt_z (scaled y) (scaled x)) (large quantity x) (large quantity y) k refl refl
