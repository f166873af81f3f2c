-- Places rise from token to token; a number's size is its true value, held at 10 ^ 15, and limits below that see the true value.
use Rattle.std.specs.Prelude.{◌≡◌, Bool, eqb, ltb, length, Ok, Err}
use Rattle.std.proofs.Math.Path.{refl}
use Rattle.std.proofs.Common.{◌∙◌, sym, mod-eq_of_lt, ne_eqb, lt-ltb, ltb-true}
use Rattle.std.proofs.Math.Bool.{true, false, cond}
use mathlib.Core.List.{List, [], ◌∷◌}
use Prim.Native.Nat.{ℕ, zero, suc, ◌+◌, ◌*◌, ◌-◌, ◌≤◌, ◌<◌, ◌%◌}
use native.Mathlib.Omega.{arith}
use Rattle.scan.specs.rule.Text.{Text, stop, sign, text, place_of}
use Rattle.scan.specs.rule.Loop.{Next, Again, Done}
use Rattle.scan.specs.rule.Number.{is_digit, is_space, run_of, run_bytes, decimal_of}
use Rattle.scan.specs.Number.{capped}
use Rattle.scan.specs.Order.{value_of}
use Rattle.scan.specs.rule.Word.{word_at}
use Rattle.scan.specs.declared.Word.{Word}
use Rattle.scan.specs.declared.Word.TheVariants as spelled
use Rattle.scan.proofs.Texts.{from_text, place_from}
use Rattle.scan.proofs.Orders.{run_ahead, run_value, digit_bounds}
use Rattle.marks.specs.declared.Skip.{Skip}
use Rattle.marks.specs.declared.Skip.TheVariants.{Past, Unclosed, Bad}
use Rattle.marks.specs.rule.Marks.{comment_of}
use Rattle.tokens.specs.declared.Fault.{Fault}
use Rattle.tokens.specs.declared.Choice.{Choice}
use Rattle.tokens.specs.declared.Choice.TheVariants.{Taken, Left}
use Rattle.tokens.specs.rule.Gap.{fault, gap_skip, gap_step, gap_at, OrFault}
use Rattle.tokens.specs.Gap.{left}
use Rattle.tokens.specs.Token.{of_choice, choice_of}
use Rattle.tokens.proofs.Gaps.{gap_less, gap_again, gap_done}
use Rattle.tokens.proofs.Aheads.{taken_less}
use Rattle.survey.specs.rule.Survey.{Figure}
use Rattle.reading.specs.rule.Result.{Result, Is, Not, Reader, bind}
use Rattle.reading.specs.rule.Token.{passed, on_word, gap, either, figure, number}
use Rattle.bridge.specs.Lowest.{never}

-- ---- limits
-- a limit below 10 ^ 15 sees the true value
pub capped_limit : (l v : ℕ) → l < 1000000000000000 → ltb l (capped v) ≡ ltb l v
capped_limit l v h = by (ltb 1000000000000000 v) refl where
  by : (q : Bool) → ltb 1000000000000000 v ≡ q → ltb l (cond q 1000000000000000 v) ≡ ltb l v
  by true e = let g = ltb-true 1000000000000000 v e in rw (lt-ltb l 1000000000000000 h, lt-ltb l v (omega arith))
  by false e = refl

pub capped_zero : (v : ℕ) → eqb (capped v) 0 ≡ eqb v 0
capped_zero v = by (ltb 1000000000000000 v) refl where
  by : (q : Bool) → ltb 1000000000000000 v ≡ q → eqb (cond q 1000000000000000 v) 0 ≡ eqb v 0
  by true e = let g = ltb-true 1000000000000000 v e in rw (ne_eqb v 0 (λ h. omega arith))
  by false e = refl

pub capped_mod : (w v : ℕ) → w < 1000000000000000 → w % capped v ≡ w % v
capped_mod w v h = by (ltb 1000000000000000 v) refl where
  by : (q : Bool) → ltb 1000000000000000 v ≡ q → w % cond q 1000000000000000 v ≡ w % v
  by true e = let g = ltb-true 1000000000000000 v e in let i : w < v = omega arith in mod-eq_of_lt h ∙ sym (mod-eq_of_lt i)
  by false e = refl

pub capped_small : (v : ℕ) → capped v < 1000000000000000 → capped v ≡ v
capped_small v = by (ltb 1000000000000000 v) where
  by : (q : Bool) → cond q 1000000000000000 v < 1000000000000000 → cond q 1000000000000000 v ≡ v
  by true h = absurd (omega arith)
  by false h = refl

-- ---- up to four digits say a number below 10,000
tens : ℕ → ℕ → ℕ
tens p zero = p
tens p (suc j) = tens (p * 10) j

tens_grow : (j p : ℕ) → p ≤ tens p j
unfolding tens
tens_grow zero p = omega arith
tens_grow (suc j) p = let h = tens_grow j (p * 10) in omega arith

below : (t : Text) (j v p : ℕ) → v < p → length (run_bytes is_digit t) ≤ j → decimal_of v (run_bytes is_digit t) < tens p j
unfolding run_bytes decimal_of tens
below (stop o) j v p h l = let g = tens_grow j p in omega arith
below (sign o b u) j v p h l = by (is_digit b) refl j (λ j. below u j (v * 10 + (b - 48)) (p * 10)) l where
  by : (q : Bool) → is_digit b ≡ q → (j : ℕ)
      → ((j : ℕ) → v * 10 + (b - 48) < p * 10 → length (run_bytes is_digit u) ≤ j
      → decimal_of (v * 10 + (b - 48)) (run_bytes is_digit u) < tens (p * 10) j)
      → length (cond q (b ∷ run_bytes is_digit u) []) ≤ j → decimal_of v (cond q (b ∷ run_bytes is_digit u) []) < tens p j
  by true e zero ih l = absurd (omega arith)
  by true e (suc j) ih l = let g = digit_bounds b e in ih j (omega (arith, g.1)) (omega arith)
  by false e j ih l = let g = tens_grow j p in omega arith

digits_few : (t : Text) → length (run_bytes is_digit t) ≤ 4 → decimal_of 0 (run_bytes is_digit t) < 10000
unfolding tens
digits_few t h = below t 4 0 1 (omega arith) h

module _ (d : List ℕ) where
  -- ---- gaps and words lead on
  step_place : (n : ℕ) (t : Text) {m : ℕ} → n ≤ place_of t → gap_step t ≡ Done (Ok m) → n ≤ m
  unfolding gap_step place_of
  step_place n (stop p) {m} h e = let q : p ≡ m = cc in omega arith
  step_place n (sign p b u) {m} h e = by (is_space b) (eqb b 60) (comment_of 1 u) e where
    by : (x y : Bool) (k : Skip) → cond x (Again (p + 1)) (cond y (gap_skip p k) (Done (Ok p))) ≡ Done (Ok m) → n ≤ m
    by true y k e = never cc
    by false true (Past o) e = never cc
    by false true Unclosed e = never cc
    by false true (Bad o) e = never cc
    by false false k e = let q : p ≡ m = cc in omega arith

  gap_within : (f n : ℕ) → length d - n < f → {m : ℕ} → gap_at d n ≡ Ok m → n ≤ m
  gap_within zero n h e = absurd (omega arith)
  gap_within (suc f) n h {m} e = by (gap_step (text d n)) refl (λ k l. gap_within f k l) where
    by : (s : Next ℕ (OrFault ℕ)) → gap_step (text d n) ≡ s → ((k : ℕ) → length d - k < f → gap_at d k ≡ Ok m → k ≤ m) → n ≤ m
    by (Again k) i ih = let l = gap_less d (from_text d n) i in let j = ih k (omega arith) (sym (gap_again d n i) ∙ e) in omega arith
    by (Done r) i ih = let q = sym (gap_done d n i) ∙ e in step_place n (text d n) (place_from d n) (rw q at i)

  pub gap_ahead : {n m : ℕ} → gap_at d n ≡ Ok m → n ≤ m
  gap_ahead {n} e = gap_within (suc (length d - n)) n (omega arith) e

  pub word_ahead : {n m : ℕ} (x : ℕ) (w : List ℕ) → word_at d n (x ∷ w) ≡ spelled.Matched m → n < m
  unfolding choice_of left
  word_ahead {n} {m} x w e = let l = taken_less d (Ok n) x w {m = m} (rw e) in omega arith

  -- ---- what is known of a number that was read from n on
  pub record Known (n : ℕ) (x : Figure) (m : ℕ) : Type 0 where
    pub starts : n ≤ x.place
    pub ends : x.place ≤ m
    pub says : value_of d x.place m ≡ x.value
    pub few : x.digits ≤ 4 → x.value < 10000

  pub data Told (n : ℕ) : Result Figure → Type 0 where
    told : {x : Figure} {m : ℕ} → Known n x m → Told n (Is x m)
    untold : {f : Fault} → Told n (Not f)

  figure_told : (n : ℕ) → Told n (figure d n)
  unfolding figure
  figure_told n = by (eqb (length s) 0) where
    s : List ℕ
    s = run_bytes is_digit (text d n)

    end : ℕ
    end = run_of is_digit n (text d n)

    by : (q : Bool) → Told n (cond q (Not (fault 2 n))
        (Is (record { place = n; end = end; digits = length s; value = decimal_of 0 s }) end))
    by true = untold
    by false =
        let k : Known n (record { place = n; end = end; digits = length s; value = decimal_of 0 s }) end =
        record { starts = omega arith; ends = run_ahead d is_digit (from_text d n); says = run_value d n; few = digits_few (text d n) }
        in told k

  told_on : {n m : ℕ} → n ≤ m → {r : Result Figure} → Told m r → Told n r
  told_on {n} h (told {x = x} {m = m} k) =
      let i : Known n x m = record { starts = omega (arith, k.starts); ends = k.ends; says = k.says; few = k.few } in told i
  told_on h untold = untold

  pub number_told : (n : ℕ) → Told n (number d n)
  number_told n = by (gap_at d n) refl where
    by : (t : OrFault ℕ) → gap_at d n ≡ t → Told n (bind (passed t) λ a. figure d)
    by (Ok m) e = told_on (gap_ahead e) (figure_told m)
    by (Err f) e = untold

  -- ---- a word that may stand behind a gap, in the code's books and in the rule
  pub choose : {A B R : Type 0} (T : R → Result B → Type 0) (m : ℕ) (w : List ℕ) (P Q : Reader A) (old : OrFault ℕ → Choice → R)
      (K : A → Reader B)
      → ((f : Fault) → gap_at d m ≡ Err f → T (old (Err f) Left) (Not f))
      → ((k j : ℕ) → gap_at d m ≡ Ok k → word_at d k w ≡ spelled.Matched j → T (old (Ok k) (Taken j)) (bind (P j) K))
      → ((k : ℕ) → gap_at d m ≡ Ok k → word_at d k w ≡ spelled.Not → T (old (Ok k) Left) (bind (Q k) K))
      → T (old (gap_at d m) (choice_of d (gap_at d m) w)) (bind (bind (gap d m) λ a. either d w P Q) K)
  unfolding choice_of
  choose T m w P Q old K refused taken left = by (gap_at d m) refl where
    at : (k : ℕ) → gap_at d m ≡ Ok k → (x : Word) → word_at d k w ≡ x → T (old (Ok k) (of_choice x)) (bind (on_word P Q k x) K)
    at k e (spelled.Matched j) i = taken k j e i
    at k e spelled.Not i = left k e i

    by : (t : OrFault ℕ) → gap_at d m ≡ t → T (old t (choice_of d t w)) (bind (bind (passed t) λ a. either d w P Q) K)
    by (Ok k) e = at k e (word_at d k w) refl
    by (Err f) e = refused f e

  pub choose_on : {A B R : Type 0} (m : ℕ) (w : List ℕ) (P Q : Reader A) (old : OrFault ℕ → Choice → R) (to : Result B → R)
      (K : A → Reader B)
      → ((f : Fault) → old (Err f) Left ≡ to (Not f))
      → ((k j : ℕ) → gap_at d m ≡ Ok k → word_at d k w ≡ spelled.Matched j → old (Ok k) (Taken j) ≡ to (bind (P j) K))
      → ((k : ℕ) → gap_at d m ≡ Ok k → old (Ok k) Left ≡ to (bind (Q k) K))
      → old (gap_at d m) (choice_of d (gap_at d m) w) ≡ to (bind (bind (gap d m) λ a. either d w P Q) K)
  choose_on m w P Q old to K refused taken left = choose (λ x r. x ≡ to r) m w P Q old K (λ f e. refused f) taken (λ k e i. left k e)
