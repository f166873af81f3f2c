-- Lines as the rule has them and as the books keep them: their numbers, those that an earlier line says, and how a line is judged.
use Rattle.std.specs.Prelude.{Ok, Err}
use mathlib.Core.Path.{◌≡◌, refl, ◌∙◌, sym, ap}
use mathlib.Core.Bool.{Bool, true, false, cond, not, ◌||◌}
use mathlib.Core.List.{List, [], ◌∷◌, ◌++◌, map}
use Prim.Native.Nat.{ℕ, zero, suc, ◌+◌}
use native.Mathlib.Omega.{arith}
use lib.Dec.{eqb, leb}
use lib.IntN.{ℤ}
use lib.ListN.{length}
use borrow.Author.Tests.{le-leb, eqb-true, not-false}
use Rattle.below.specs.rule.Below.{any_below}
use Rattle.below.specs.Below.{holds_not}
use Rattle.cells.specs.rule.Cell.{signed_of, eq_z}
use Rattle.cells.specs.Cell.{same_true}
use Rattle.tokens.specs.rule.Gap.{fault, OrFault}
use Rattle.values.specs.declared.Block as books
use Rattle.values.specs.Value.{scaled_of}
use Rattle.values.specs.Line as lines
use Rattle.values.specs.Line.{numbers, number_at, repeated_in, line_fault, judge_line}
use Rattle.values.proofs.Facts.{or_none, or_neither}
use Rattle.values.proofs.Shares.{size_number}
use Rattle.survey.specs.rule.Survey.{Amount, Line, Block}
use Rattle.survey.specs.rule.Width.{some_of, range_ends, amounts, scaled}
use Rattle.survey.specs.rule.Table as table
use Rattle.reading.specs.rule.Least.{goes_before, judged}
use Rattle.reading.specs.rule.Values.{form_is, large, unlike_amounts, line_charges}
use Rattle.bridge.specs.Lowest.{chain, rising, chain_least}
use Rattle.bridge.specs.Blocks.{form_same, large_same, small, Kept}
use Rattle.blocks.specs.Code.{held_as, said_of, told, verdict_of, Small}

-- ---- lists of lines
pub told_more : (l : List Line) (x : Line) → told (l ++ x ∷ []) ≡ told l ++ said_of x ∷ []
unfolding told
told_more [] x = refl
told_more (y ∷ l) x = rw (told_more l x)

pub told_count : (l : List Line) → length (told l) ≡ length l
unfolding told
told_count [] = refl
told_count (x ∷ l) = rw (told_count l)

some_more : {A : Type 0} (f : A → Bool) (l m : List A) → some_of f (l ++ m) ≡ (some_of f l || some_of f m)
unfolding some_of
some_more f [] m = refl
some_more f (x ∷ l) m = rw (some_more f l m) (by (f x)) where
  by : (q : Bool) → (q || (some_of f l || some_of f m)) ≡ ((q || some_of f l) || some_of f m)
  by true = refl
  by false = refl

pub small_more : (quantity : Bool) (l : List Line) (x : Line) → Small quantity l → large quantity x.value ≡ false
    → Small quantity (l ++ x ∷ [])
unfolding Small some_of
small_more quantity l x h e = some_more (λ (z : Line). large quantity z.value) l (x ∷ []) ∙ rw (h, e)

pub told_cells : (quantity : Bool) (l : List Line) → Small quantity l → lines.cells_of (told l) ≡ table.cells_of l
unfolding told lines.cells_of table.cells_of lines.line_cells table.line_cells scaled_of Small some_of
told_cells quantity [] h = refl
told_cells quantity (x ∷ l) h =
    let f : Line → Bool = λ z. large quantity z.value in
    rw (small quantity x.value (or_none (f x) (some_of f l) h), told_cells quantity l (or_neither (f x) (some_of f l) h))

-- ---- an earlier line says the number z
any_first : (n : ℕ) (f : ℕ → Bool) → any_below (suc n) f ≡ (f 0 || any_below n (λ i. f (suc i)))
unfolding any_below
any_first zero f = by (f 0) where
  by : (q : Bool) → q ≡ (q || false)
  by true = refl
  by false = refl
any_first (suc n) f = rw (any_first n f) (by (f 0)) where
  by : (q : Bool) → ((q || any_below n (λ i. f (suc i))) || f (suc n)) ≡ (q || (any_below n (λ i. f (suc i)) || f (suc n)))
  by true = refl
  by false = refl

repeats : (quantity : Bool) (l : List Line) → Small quantity l → (z : ℤ)
    → any_below (length (told l)) (λ i. eq_z (number_at (told l) i) z) ≡ some_of (λ x. eq_z (scaled x.value) z) l
unfolding told number_at numbers some_of any_below Small scaled_of
repeats quantity [] h z = refl
repeats quantity (x ∷ l) h z =
    let f : Line → Bool = λ z. large quantity z.value in
    any_first (length (told l)) (λ i. eq_z (number_at (said_of x ∷ told l) i) z)
    ∙ rw (small quantity x.value (or_none (f x) (some_of f l) h)) (rw (repeats quantity l (or_neither (f x) (some_of f l) h) z))

pub told_repeats : (quantity : Bool) (l : List Line) → Small quantity l → (z : ℤ)
    → repeated_in (number_at (told l)) (length (told l)) z ≡ some_of (λ x. eq_z (scaled x.value) z) l
unfolding repeated_in
told_repeats quantity l h z = repeats quantity l h z

-- ---- a value too large repeats none
alike_large : (quantity : Bool) (a b : Amount) → scaled b ≡ scaled a → unlike_amounts a b ≡ false → large quantity a ≡ large quantity b
unfolding large
alike_large quantity a b e u =
    let d = eqb-true a.decimals b.decimals (not-false (eqb a.decimals b.decimals) u) in
    let s : a.size ≡ b.size = sym (size_number a.minus a.size) ∙ ap (λ (z : ℤ). (signed_of z).size) (sym e)
    ∙ size_number b.minus b.size in
    rw (s, d)

fresh_in : (quantity : Bool) (a : Amount) (l : List Line) → large quantity a ≡ true → Small quantity l
    → some_of (unlike_amounts a) (map (λ x. x.value) l) ≡ false → some_of (λ x. eq_z (scaled x.value) (scaled a)) l ≡ false
unfolding some_of Small
fresh_in quantity a [] g h u = refl
fresh_in quantity a (x ∷ l) g h u =
    let f : Line → Bool = λ z. large quantity z.value in
    let rest = fresh_in quantity a l g (or_neither (f x) (some_of f l) h)
    (or_neither (unlike_amounts a x.value) (some_of (unlike_amounts a) (map (λ x. x.value) l)) u) in
    rw rest (by (eq_z (scaled x.value) (scaled a)) refl (or_none (f x) (some_of f l) h)
    (or_none (unlike_amounts a x.value) (some_of (unlike_amounts a) (map (λ x. x.value) l)) u))
  where
    by : (q : Bool) → eq_z (scaled x.value) (scaled a) ≡ q → large quantity x.value ≡ false → unlike_amounts a x.value ≡ false
        → (q || false) ≡ false
    by true e i j = holds_not (sym (alike_large quantity a x.value (same_true (scaled x.value) (scaled a) e) j) ∙ g) i
    by false e i j = refl

large_fresh : (quantity : Bool) (a : Amount) (c : Block) → large quantity a ≡ true → Small quantity c.lines
    → some_of (unlike_amounts a) (amounts c) ≡ false → some_of (λ x. eq_z (scaled x.value) (scaled a)) c.lines ≡ false
unfolding amounts
large_fresh quantity a c g h u =
    fresh_in quantity a c.lines g h
    (or_neither (some_of (unlike_amounts a) (range_ends c.range)) (some_of (unlike_amounts a) (map (λ x. x.value) c.lines))
    (sym (some_more (unlike_amounts a) (range_ends c.range) (map (λ x. x.value) c.lines)) ∙ u))

-- ---- a line, judged
module _ (quantity : Bool) (first : ℕ) (b : books.Block) (c : Block) (kept : Kept b c) (sizes : Small quantity c.lines) (x : Line)
    (n : ℕ) where
  abbrev a : Amount
  a = x.value

  rise : rising (line_charges quantity first c a) ≡ true
  unfolding rising line_charges goes_before
  rise = rw (le-leb a.place a.place (omega arith))

  abbrev bad : ℕ → OrFault ℤ
  bad k = Err (fault k a.place)

  abbrev again : Bool
  again = some_of (λ z. eq_z (scaled z.value) (scaled a)) c.lines

  told_again : large quantity a ≡ false → repeated_in (number_at (told c.lines)) (length (told c.lines)) (scaled_of (held_as a)) ≡ again
  unfolding scaled_of
  told_again g = rw (small quantity a g) (told_repeats quantity c.lines sizes (scaled a))

  said : large quantity a ≡ false → scaled_of (held_as a) ≡ scaled a
  unfolding scaled_of
  said g = rw (small quantity a g)

  pub line_judged : judge_line (number_at (told c.lines)) (length (told c.lines)) first quantity b (held_as a)
      ≡ verdict_of (judged (line_charges quantity first c a) x n)
  unfolding judge_line line_fault chain line_charges
  line_judged =
      rw (← chain_least verdict_of x n (line_charges quantity first c a) rise)
      (rw (
        form_same [] quantity a a.place a.end a.end,
        large_same [] quantity a a.place a.end a.end,
        kept.unlike_some a,
        told_count c.lines,
      )
      (by (form_is quantity a) (some_of (unlike_amounts a) (amounts c)) (large quantity a) refl refl))
    where
      ends : (r e : Bool) → large quantity a ≡ false
          → cond r (bad 6) (cond e (bad 8) (Ok (scaled_of (held_as a))))
          ≡ cond r (bad 6) (cond e (bad 8) (Ok (scaled a)))
      ends r e g = rw (said g)

      by : (q u g : Bool) → some_of (unlike_amounts a) (amounts c) ≡ u → large quantity a ≡ g
          → cond (eqb (cond q (cond u 6 (cond g 8 0)) 6) 0)
          (cond (repeated_in (number_at (told c.lines)) (length c.lines) (scaled_of (held_as a))) (bad 6)
          (cond (leb 4096 (first + length c.lines)) (bad 8) (Ok (scaled_of (held_as a)))))
          (Err (fault (cond q (cond u 6 (cond g 8 0)) 6) a.place))
          ≡ cond (not q) (bad 6) (cond u (bad 6) (cond again (bad 6) (cond g (bad 8)
          (cond (leb 4096 (first + length c.lines)) (bad 8) (Ok (scaled a))))))
      by true false false i j =
          let t : repeated_in (number_at (told c.lines)) (length c.lines) (scaled_of (held_as a)) ≡ again =
          rw (told_count c.lines) at (told_again j) in
          rw t (ends again (leb 4096 (first + length c.lines)) j)
      by true false true i j = rw (large_fresh quantity a c j sizes i)
      by true true g i j = refl
      by false u g i j = refl
