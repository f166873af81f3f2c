-- VALUES as a whole: a range and WITH or none, or lines.
use Rattle.std.specs.Prelude.{◌≡◌, Bool, cond, not, ◌&&◌, ◌||◌, ℕ, suc, ◌+◌, ◌-◌, ◌≤◌, Ok, Err}
use Rattle.std.proofs.Math.Path.{refl}
use Rattle.std.proofs.Common.{◌∙◌, arith}
use Rattle.std.proofs.Math.Bool.{true, false}
use mathlib.Core.List.{List, [], ◌∷◌}
use Rattle.std.proofs.Math.Option.{none, some}
use Rattle.std.proofs.Math.Dec.{eqb}
use Rattle.std.specs.Int.Signed.{lt_z}
use borrow.Author.Tests.{le-leb, eqb-true, not-false}
use Rattle.scan.specs.Number.{capped}
use Rattle.scan.specs.Order.{value_of}
use Rattle.tokens.specs.declared.Fault.{Fault}
use Rattle.tokens.specs.declared.Value.{Value}
use Rattle.tokens.specs.rule.Gap.{fault, gap_at, OrFault}
use Rattle.tokens.specs.Gap.{gap_on}
use Rattle.tokens.specs.Token.{choice_of, word_here, word_on, value_here, value_on, past_value}
use Rattle.statements.specs.rule.Words.{VALUES, TO, WITH, END}
use Rattle.statements.specs.Note.{notes_on}
use Rattle.values.specs.declared.Block as books
use Rattle.values.specs.declared.Ranged.TheVariants as ranging
use Rattle.values.specs.Value.{scaled_of, points_of}
use Rattle.values.specs.Range.{limit_range, reversed_of, judge_range, settled, ranged_of, with_or, range_rest}
use Rattle.values.specs.Line.{state_of, lines_from}
use Rattle.values.specs.Line as given
use Rattle.values.specs.Block.{empty_block, closed_by, range_then, to_or, values_on}
use Rattle.values.specs.Order.{paper_from, Reached, alone, behind}
use Rattle.values.proofs.Orders.{paper_lines}
use Rattle.survey.specs.rule.Survey.{Amount, Range, Block}
use Rattle.survey.specs.rule.Width.{some_of, each_of, amounts, scaled}
use Rattle.reading.specs.rule.Result.{Result, Is, Not, Reader, bind, repeat}
use Rattle.reading.specs.rule.Least.{goes_before, judged}
use Rattle.reading.specs.rule.Token.{passed, here, word, optional, amount, value, string}
use Rattle.reading.specs.rule.Statement.{notes, statement}
use Rattle.reading.specs.rule.Values.{line, listed, form_is, large, unlike_amounts, range_charges, listing, range_from, unlisted}
use Rattle.reading.specs.rule.Values.{end_values}
use Rattle.reading.specs.rule.Values.{lines}
use Rattle.reading.specs.rule.Values.{range, range_or, values}
use Rattle.bridge.specs.Lowest.{chain, rising, chain_least}
use Rattle.bridge.specs.Facts.{gap_ahead, word_ahead, choose}
use Rattle.bridge.specs.Tokens.{to_reading, here_on, word_on_lem}
use Rattle.bridge.specs.Notes.{notes_on_lem, statement_on_lem}
use Rattle.bridge.specs.Amounts.{written, Valued, valued, unvalued, value_on_lem}
use Rattle.bridge.specs.Gaps.{string_again}
use Rattle.bridge.specs.Blocks.{form_same, large_same, true_same, small, nothing, Kept, own}
use Rattle.bridge.specs.Lines.{SameGiven, gives, refuses, Standing, value_refused, no_value, lines_turns}

-- ---- nothing said yet
pub empty_kept : Kept empty_block (unlisted none)
unfolding amounts some_of
empty_kept = record { decimals = refl; point = refl; known = refl; unlike_some = λ a. refl; ranged = refl; from = refl; to = refl }

-- ---- a range as the books have it
abbrev said : Amount → Amount → books.Block
said a b = record {
  ranged = true;
  from = scaled_of (written a 0 0 0);
  to = scaled_of (written b 0 0 0);
  known = true;
  decimals = a.decimals;
  point = points_of (own a) (own b);
}

range_kept : (a b : Amount) → unlike_amounts a b ≡ false → capped a.size ≡ a.size → capped b.size ≡ b.size
    → Kept (said a b) (unlisted (some (range_from a b)))
unfolding amounts some_of each_of scaled_of
range_kept a b u i j =
    let e = eqb-true a.decimals b.decimals (not-false (eqb a.decimals b.decimals) u) in
    record {
      decimals = refl;
      point = by a.point (eqb a.whole 0) b.point (eqb b.whole 0);
      known = refl;
      unlike_some = λ c. rw (← e) (twice (unlike_amounts c a));
      ranged = refl;
      from = rw i;
      to = rw j;
    }
  where
    by : (p w q u : Bool)
        → ◌≡◌ {A = ℕ} (points_of (cond p (cond w 2 1) 0) (cond q (cond u 2 1) 0))
        (cond (p || (q || false)) (cond ((p && w) && ((q && u) && true)) 2 1) 0)
    by true true true true = refl
    by true true true false = refl
    by true true false u = refl
    by true false true true = refl
    by true false true false = refl
    by true false false u = refl
    by false w true true = refl
    by false w true false = refl
    by false w false u = refl

    twice : (q : Bool) → q ≡ (q || (q || false))
    twice true = refl
    twice false = refl

module _ (d : List ℕ) (quantity : Bool) (first : ℕ) where
  -- ---- lines from the first one on
  lines_same : (a : Amount) (x y m p : ℕ) (b : books.Block) (c : Block) → Standing d quantity first a x y m p b [] c
      → Reached d quantity first (state_of (Ok (written a x y m)) b [])
      → SameGiven d (lines_from d quantity first (state_of (Ok (written a x y m)) b [])) (lines d quantity first c a p)
  unfolding paper_from
  lines_same a x y m p b c h r =
      rw (paper_lines d quantity first (state_of (Ok (written a x y m)) b []) r)
      (lines_turns d quantity first (suc (4096 - (first + 0))) (suc 4096) a x y m p b [] c h (omega arith) (omega arith))

  lines_none : (f : Fault) (b : books.Block) → Reached d quantity first (state_of (Err f) b [])
      → lines_from d quantity first (state_of (Err f) b []) ≡ given.Not f
  unfolding paper_from
  lines_none f b r =
      rw (paper_lines d quantity first (state_of (Err f) b []) r)
      (no_value d quantity first (suc (4096 - (first + 0))) f b [] (omega arith))

  -- ---- behind a range that was judged: the books stand as the reader of lines may find them
  module _ (b : books.Block) (r : Range) (kept : Kept b (unlisted (some r))) where
    abbrev c : Block
    c = unlisted (some r)

    listed_then : {va : OrFault Value} {ra : Result Amount} (k : ℕ) → Valued d k va ra → Reached d quantity first (state_of va b [])
        → SameGiven d (lines_from d quantity first (state_of va b [])) (bind ra (lines d quantity first c))
    listed_then k (valued {a = a} {x = x} {y = y} {m = m} e s t) reached =
        let h : Standing d quantity first a x y m m b [] c = record { says = e; from = refl; kept = kept; lines = nothing } in
        lines_same a x y m m b c h reached
    listed_then k (unvalued {f = f}) reached = rw (lines_none f b reached) refuses

    with_lines : (s : Result Unit) → Reached d quantity first (state_of (value_here d (to_reading s)) b [])
        → SameGiven d (lines_from d quantity first (state_of (value_here d (to_reading s)) b []))
        (bind s λ a n. bind (amount d n) (lines d quantity first c))
    with_lines (Is a k) reached = listed_then k (value_on_lem d k) reached
    with_lines (Not f) reached =
        rw (value_refused d quantity first f) (rw (lines_none f b (rw (value_refused d quantity first f) at reached)) refuses)

    without_lines : (s : Result Unit)
        → SameGiven d (closed_by b (word_on d (word_here d (to_reading s) END) VALUES))
        (bind s λ a n. bind (here d END n) λ a. end_values d c)
    unfolding closed_by
    without_lines s = rw (here_on d s END) (at s) where
      fin : (t : Result Unit) → SameGiven d (closed_by b (to_reading t)) (bind t λ a n. Is c n)
      fin (Is a n) = gives kept nothing
      fin (Not f) = refuses

      word_at_lem : (h : Result Unit) → SameGiven d (closed_by b (word_on d (to_reading h) VALUES)) (bind h λ a. end_values d c)
      word_at_lem (Is a k) = rw (word_on_lem d (Is a k) VALUES) (fin (word d VALUES k))
      word_at_lem (Not f) = rw (word_on_lem d {A = ℕ} (Not f) VALUES) refuses

      at : (s : Result Unit) → SameGiven d (closed_by b (word_on d (to_reading (bind s λ a. here d END)) VALUES))
          (bind s λ a n. bind (here d END n) λ a. end_values d c)
      at (Is a n) = word_at_lem (here d END n)
      at (Not f) = rw (word_on_lem d {A = ℕ} (Not f) VALUES) refuses

    range_then_lem : (w : Bool) (n : ℕ) → Reached d quantity first (state_of (value_here d (notes_on d (Ok n))) b [])
        → SameGiven d (range_then d quantity first (ranging.Is b w n))
        (bind (notes d n) λ a. cond w (λ n. bind (amount d n) (lines d quantity first c)) (λ n. bind (here d END n) λ a. end_values d c))
    unfolding range_then
    range_then_lem true n reached = rw (notes_on_lem d (Is n n)) (with_lines (notes d n) (rw (notes_on_lem d (Is n n)) at reached))
    range_then_lem false n reached = rw (notes_on_lem d (Is n n)) (without_lines (notes d n))

  -- ---- a range, judged
  abbrev onward : Bool → Range → Reader Block
  onward w r n =
      bind (notes d n) λ a. cond w (λ n. bind (amount d n) (lines d quantity first (unlisted (some r))))
      (λ n. bind (here d END n) λ a. end_values d (unlisted (some r)))

  module _ (a b : Amount) (x y m x' y' m' : ℕ) (says-a : value_of d x y ≡ a.size) (says-b : value_of d x' y' ≡ b.size)
      (rises : a.place ≤ b.place) where
    abbrev va : Value
    va = written a x y m

    abbrev vb : Value
    vb = written b x' y' m'

    charges_rise : rising (range_charges quantity a b) ≡ true
    unfolding rising range_charges goes_before
    charges_rise = rw (le-leb a.place b.place rises, le-leb b.place b.place (omega arith))

    abbrev judge : Bool → Bool → Bool → Bool → Bool → Bool → OrFault books.Block
    judge p q e v g h =
        cond p (cond q (cond e (cond v (Err (fault 6 b.place))
        (cond g (Err (fault 8 a.place)) (cond h (Err (fault 8 b.place)) (Ok (said a b)))))
        (Err (fault 6 b.place))) (Err (fault 6 b.place))) (Err (fault 6 a.place))

    range_judged : (w : Bool) (n : ℕ)
        → ((k : books.Block) → settled (judge_range (reversed_of d va vb) quantity va vb) w n ≡ ranging.Is k w n
        → Reached d quantity first (state_of (value_here d (notes_on d (Ok n))) k []))
        → SameGiven d (range_then d quantity first (settled (judge_range (reversed_of d va vb) quantity va vb) w n))
        (bind (judged (range_charges quantity a b) (range_from a b) n) (onward w))
    unfolding judge_range limit_range chain range_charges range_then scaled_of
    range_judged w n reached =
        rw (← chain_least (λ r. r) (range_from a b) n (range_charges quantity a b) charges_rise)
        (by (form_is quantity a) (form_is quantity b) (eqb a.decimals b.decimals) (lt_z (scaled b) (scaled a)) (large quantity a)
        (large quantity b) refl refl refl refl refl refl
        (rw (form_same d quantity a x y m, form_same d quantity b x' y' m', large_same d quantity a x y m)
        (rw (large_same d quantity b x' y' m', true_same d a x y m says-a, true_same d b x' y' m' says-b))) reached)
      where
        by : (p q e v g h : Bool) → form_is quantity a ≡ p → form_is quantity b ≡ q → eqb a.decimals b.decimals ≡ e
            → lt_z (scaled b) (scaled a) ≡ v → large quantity a ≡ g → large quantity b ≡ h
            → judge_range (reversed_of d va vb) quantity va vb ≡ judge p q e v g h
            → ((k : books.Block) → settled (judge_range (reversed_of d va vb) quantity va vb) w n ≡ ranging.Is k w n
            → Reached d quantity first (state_of (value_here d (notes_on d (Ok n))) k []))
            → SameGiven d (range_then d quantity first (settled (judge_range (reversed_of d va vb) quantity va vb) w n))
            (bind (cond (not p) (Not (fault 6 a.place))
            (cond (not q) (Not (fault 6 b.place)) (cond (not e) (Not (fault 6 b.place)) (cond v (Not (fault 6 b.place))
            (cond g (Not (fault 8 a.place)) (cond h (Not (fault 8 b.place)) (Is (range_from a b) n))))))) (onward w))
        by true true true false false false i1 i2 i3 i4 i5 i6 j reached =
            let u : unlike_amounts a b ≡ false = rw i3 in
            let r = reached (said a b) (rw j) in
            rw j (range_then_lem (said a b) (range_from a b) (range_kept a b u (small quantity a i5) (small quantity b i6)) w n r)
        by true true true false false true i1 i2 i3 i4 i5 i6 j reached = rw j refuses
        by true true true false true h i1 i2 i3 i4 i5 i6 j reached = rw j refuses
        by true true true true g h i1 i2 i3 i4 i5 i6 j reached = rw j refuses
        by true true false v g h i1 i2 i3 i4 i5 i6 j reached = rw j refuses
        by true false e v g h i1 i2 i3 i4 i5 i6 j reached = rw j refuses
        by false q e v g h i1 i2 i3 i4 i5 i6 j reached = rw j refuses

  -- ---- behind `a TO`
  module _ (k₀ : ℕ) (a : Amount) (x y m : ℕ) (here-a : value_here d (Ok k₀) ≡ Ok (written a x y m))
      (says-a : value_of d x y ≡ a.size) (ends-a : a.place ≤ m) where
    abbrev A : OrFault Value
    A = Ok (written a x y m)

    second : (j i : ℕ) → m ≤ j → gap_at d j ≡ Ok i → {vb : OrFault Value} {rb : Result Amount} → value_here d (Ok i) ≡ vb → Valued d i vb rb
        → SameGiven d (range_then d quantity first (range_rest d quantity A (Ok j)))
        (bind (bind rb λ b n. Is (some b) n) (range_or d quantity first a))
    unfolding range_rest value_on gap_on past_value range ranged_of range_then choice_of
    second j i after e₁ e₂ (valued {a = b} {x = x'} {y = y'} {m = m'} says-b starts-b ends-b) =
        rw to_with
        (choose d (SameGiven d) m' WITH (λ n. Is true n) (λ n. Is false n)
        (λ g c. range_then d quantity first (with_or d quantity A B g c)) judge
        (λ f e. refuses)
        (λ k n e w. range_judged a b x y m x' y' m' says-a says-b rises true n (λ c q. reached true n c (rw (e, w)) q))
        (λ k e w. range_judged a b x y m x' y' m' says-a says-b rises false k (λ c q. reached false k c (rw (e, w)) q)))
      where
        B : OrFault Value
        B = Ok (written b x' y' m')

        judge : Bool → Reader Block
        judge w n = bind (judged (range_charges quantity a b) (range_from a b) n) (onward w)

        to_with : range_rest d quantity A (Ok j) ≡ with_or d quantity A B (gap_at d m') (choice_of d (gap_at d m') WITH)
        to_with = rw (e₁, e₂)

        rises : a.place ≤ b.place
        rises = omega (arith, gap_ahead d e₁)

        reached : (w : Bool) (n : ℕ) (c : books.Block)
            → with_or d quantity A B (gap_at d m') (choice_of d (gap_at d m') WITH)
            ≡ settled (judge_range (reversed_of d (written a x y m) (written b x' y' m')) quantity (written a x y m) (written b x' y' m')) w
            n
            → settled (judge_range (reversed_of d (written a x y m) (written b x' y' m')) quantity (written a x y m) (written b x' y' m')) w
            n
            ≡ ranging.Is c w n
            → Reached d quantity first (state_of (value_here d (notes_on d (Ok n))) c [])
        reached w n c p q = behind (Ok k₀) (Ok j) {b = c} {w = w} {n = n} (rw here-a (to_with ∙ p ∙ q))
    second j i after e₁ e₂ unvalued = rw (e₁, e₂) refuses

    range_on : (j : ℕ) → m ≤ j → SameGiven d (range_then d quantity first (range_rest d quantity A (Ok j)))
        (bind (bind (value d j) λ b n. Is (some b) n) (range_or d quantity first a))
    unfolding range_rest value_on gap_on past_value ranged_of range_then choice_of value_here
    range_on j after = by (gap_at d j) refl where
      by : (t : OrFault ℕ) → gap_at d j ≡ t
          → SameGiven d (range_then d quantity first (range_rest d quantity A (Ok j)))
          (bind (bind (bind (passed t) λ a. amount d) λ b n. Is (some b) n) (range_or d quantity first a))
      by (Ok i) e = second j i after e refl (value_on_lem d i)
      by (Err f) e = rw e refuses

  -- ---- VALUES
  turn_refused : (g m : ℕ) (f : Fault) (c : Block) (a : Amount) → gap_at d m ≡ Err f
      → repeat (suc g) (listed d quantity first) (listing c a) m ≡ Not f
  unfolding repeat listed line
  turn_refused g m f b a e = rw e

  lines_refused : (m : ℕ) (f : Fault) (c : Block) (a : Amount) → gap_at d m ≡ Err f → lines d quantity first c a m ≡ Not f
  lines_refused m f b a e = turn_refused 4096 m f b a e

  values_at : (i : ℕ) {va : OrFault Value} {ra : Result Amount} → value_here d (Ok i) ≡ va → Valued d i va ra
      → SameGiven d (to_or d quantity first va (choice_of d (gap_on d (past_value va)) TO))
      (bind ra λ a n. bind (optional d TO (value d) n) (range_or d quantity first a))
  unfolding gap_on past_value choice_of
  values_at i e₀ (valued {a = a} {x = x} {y = y} {m = m} says-a starts-a ends-a) =
      choose d (SameGiven d) m TO (λ j. bind (value d j) λ b n. Is (some b) n) (λ n. Is none n) (λ g c. to_or d quantity first A c)
      (range_or d quantity first a)
      (λ f e. rw (lines_refused m f (unlisted none) a e) at (lines_same a x y m m empty_block (unlisted none) (stands m refl) reached))
      (λ k j e w. range_on i a x y m e₀ says-a ends-a j (omega (arith, gap_ahead d e, word_ahead d 84 (79 ∷ []) w)))
      (λ k e w. lines_same a x y m k empty_block (unlisted none) (stands k (string_again d m e)) reached)
    where
      A : OrFault Value
      A = Ok (written a x y m)

      reached : Reached d quantity first (state_of A empty_block [])
      reached = rw (← e₀) (alone (Ok i))

      stands : (p : ℕ) → string d p ≡ string d m → Standing d quantity first a x y m p empty_block [] (unlisted none)
      stands p e = record { says = says-a; from = e; kept = empty_kept; lines = nothing }
  values_at i e₀ (unvalued {f = f}) =
      let reached : Reached d quantity first (state_of (Err f) empty_block []) = rw (← e₀) (alone (Ok i)) in
      rw (lines_none f empty_block reached) refuses

  values_refused : (f : Fault) → SameGiven d
      (to_or d quantity first (value_here d (Err f)) (choice_of d (gap_on d (past_value (value_here d (Err f)))) TO)) (Not f)
  unfolding value_here gap_on past_value choice_of
  values_refused f = rw (lines_none f empty_block (alone (Err f))) refuses

  pub values_on_lem : {A : Type 0} (r : Result A)
      → SameGiven d (values_on d quantity first (to_reading r)) (bind r λ a. values d quantity first)
  unfolding values_on values
  values_on_lem (Is a n) = rw (statement_on_lem d (Is a n) VALUES) (at_word (statement d VALUES n)) where
    at_notes : (t : Result Unit)
        → SameGiven d (to_or d quantity first (value_here d (to_reading t))
        (choice_of d (gap_on d (past_value (value_here d (to_reading t)))) TO))
        (bind t λ a n. bind (amount d n) λ a n. bind (optional d TO (value d) n) (range_or d quantity first a))
    at_notes (Is a i) = values_at i refl (value_on_lem d i)
    at_notes (Not f) = values_refused f

    at_word : (t : Result Unit)
        → SameGiven d (to_or d quantity first (value_here d (notes_on d (to_reading t)))
        (choice_of d (gap_on d (past_value (value_here d (notes_on d (to_reading t))))) TO))
        (bind t λ a n. bind (notes d n) λ a n. bind (amount d n) λ a n. bind (optional d TO (value d) n) (range_or d quantity first a))
    at_word (Is a k) = rw (notes_on_lem d (Is a k)) (at_notes (notes d k))
    at_word (Not f) = rw (notes_on_lem d {A = ℕ} (Not f)) (values_refused f)
  values_on_lem (Not f) = rw (statement_on_lem d {A = ℕ} (Not f) VALUES) (rw (notes_on_lem d {A = ℕ} (Not f)) (values_refused f))
