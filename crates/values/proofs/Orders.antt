-- The order in which a line's value is judged: the reader's gives the same as document 01's wherever the reader can stand, since
-- lines that stand pass no limit, and so a value too large repeats none of them.
use Rattle.std.specs.Prelude.{Ok, Err}
use mathlib.Core.Path.{◌≡◌, refl, ap}
use mathlib.Core.Logic.{⊎_elim}
use mathlib.Core.Bool.{Bool, true, false, cond, not, ◌&&◌}
use mathlib.Core.List.{List, [], ◌∷◌, ◌++◌}
use Prim.Native.Nat.{ℕ, zero, suc, ◌+◌, ◌-◌, ◌≤◌, ◌<◌}
use native.Mathlib.Omega.{arith}
use lib.Dec.{ltb, leb, eqb}
use lib.IntN.{ℤ}
use lib.ListN.{length}
use borrow.Author.Tests.{ltb-true, leb-true, eqb-true, not-true, not-false}
use Rattle.below.specs.Below.{holds_not, either_true, and_left, and_right, any_fails, any_none}
use Rattle.cells.specs.rule.Cell.{number_of, eq_z}
use Rattle.cells.specs.Cell.{same_true}
use Rattle.scan.specs.Number.{capped}
use Rattle.scan.specs.Order.{value_of}
use Rattle.scan.specs.rule.Loop.{Next, Again, Done, on_next, loop_of}
use Rattle.tokens.specs.declared.Choice.{Choice}
use Rattle.tokens.specs.declared.Choice.TheVariants.{Taken, Left}
use Rattle.tokens.specs.declared.Value.{Value}
use Rattle.tokens.specs.rule.Gap.{fault, OrFault}
use Rattle.tokens.specs.Token.{choice_of, value_here, word_on}
use Rattle.statements.specs.rule.Words.{END, VALUES}
use Rattle.statements.specs.Note.{notes_on}
use Rattle.values.specs.declared.Block.{Block}
use Rattle.values.specs.declared.Said.{Said}
use Rattle.values.specs.Value.{form_of, large_of, true_of, scaled_of}
use Rattle.values.specs.Line.{Given, Not, Listing, state_of, line_rest, number_on, numbers, number_at, repeated_in, line_fault}
use Rattle.values.specs.Line.{judge_line, grown_by, end_of, end_or, more_of, after, judged_step, read_step, line_step, lines_from}
use Rattle.values.specs.Block.{empty_block}
use Rattle.values.specs.Good.{Limited}
use Rattle.values.specs.Order.{trues, true_at, paper_line, paper_read, paper_step, paper_from, Reached, alone, behind, next}
use Rattle.values.proofs.Facts.{sound_value}
use Rattle.values.proofs.Lists.{good_line, line_value_lem}
use Rattle.values.proofs.Goods.{Genuine, size_in, value_genuine, fits, value_limited, true_scaled, Made, rest_good}

-- ---- a value too large says no number within the limits
-- a size above a number below the cap is that of a true number above it
above_cap : (k n m : ℕ) → m ≡ capped n → k < m → k < n
above_cap k n m e h = by (ltb 1000000000000000 n) refl e where
  by : (x : Bool) → ltb 1000000000000000 n ≡ x → m ≡ cond x 1000000000000000 n → k < n
  by true q e = let g = ltb-true 1000000000000000 n q in omega arith
  by false q e = omega arith

quantity_beyond : (m : Bool) (n : ℕ) → 999999999999999 < n → Limited true (number_of m n) → ⊥
unfolding number_of
quantity_beyond false n h l = let k = leb-true n 999999999999999 l.high in omega arith
quantity_beyond true zero h l = omega arith
quantity_beyond true (suc n) h l = let k = leb-true n 999999999999998 l.low in omega arith

category_beyond : (n : ℕ) → 9999 < n → Limited false (number_of false n) → ⊥
unfolding number_of
category_beyond n h l = let k = leb-true n 9999 l.high in omega arith

-- a category has no minus
category_plain : (v : Value) → form_of false v ≡ true → v.minus ≡ false
unfolding form_of
category_plain v f =
    let a = and_right v.formed (not v.minus && (not v.point && ltb 0 v.size)) f in
    not-true v.minus (and_left (not v.minus) (not v.point && ltb 0 v.size) a)

too_large : (d : List ℕ) (quantity : Bool) (v : Value) → Genuine (size_in d v) v → form_of quantity v ≡ true → v.decimals ≤ 9
    → large_of quantity v ≡ true → Limited quantity (true_of d v) → ⊥
unfolding large_of true_of
too_large d true v g f h e =
    ⊎_elim
    (λ s. quantity_beyond v.minus (value_of d v.first v.last) (above_cap _ _ v.size g.sized (ltb-true _ v.size s)))
    (λ s. let k = ltb-true 9 v.decimals s in absurd (omega arith))
    (either_true (ltb 999999999999999 v.size) (ltb 9 v.decimals) e)
too_large d false v g f h e =
    rw (category_plain v f) (category_beyond (value_of d v.first v.last) (above_cap _ _ v.size g.sized (ltb-true _ v.size e)))

-- ---- what holds wherever the reader of lines can stand
module _ (d : List ℕ) (quantity : Bool) (first : ℕ) where
  -- lines that say their true numbers, within the limits
  data Held : List Said → Type 0 where
    none : Held []
    more : {s : Said} {l : List Said} → Limited quantity (number_on s) → true_of d s.value ≡ number_on s → Held l → Held (s ∷ l)

  held_more : {l : List Said} (s : Said) → Held l → Limited quantity (number_on s) → true_of d s.value ≡ number_on s
      → Held (l ++ s ∷ [])
  held_more s none a e = more a e none
  held_more s (more b q r) a e = more b q (held_more s r a e)

  held_true : {l : List Said} → Held l → trues d l ≡ numbers l
  unfolding trues numbers
  held_true none = refl
  held_true (more a e r) = rw (e, held_true r)

  held_limited : {l : List Said} → Held l → (i : ℕ) → i < length l → Limited quantity (number_at l i)
  unfolding number_at numbers
  held_limited none i h = absurd (omega arith)
  held_limited (more a e r) zero h = a
  held_limited (more a e r) (suc i) h = held_limited r i (omega arith)

  -- the lines of a block that has not said its decimals are none
  record Steady (l : Listing) : Type 0 where
    value : (v : Value) → l.amount ≡ Ok v → Genuine (size_in d v) v
    places : l.block.decimals ≤ 9
    unsaid : l.block.known ≡ false → l.lines ≡ []
    lines : Held l.lines

  module _ (l : Listing) (k : Steady l) (v : Value) (g : Genuine (size_in d v) v) where
    abbrev unlike : Bool
    unlike = l.block.known && not (eqb v.decimals l.block.decimals)

    abbrev again : ℤ → Bool
    again z = repeated_in (number_at l.lines) (length l.lines) z

    -- by their true numbers or by those that were stored
    true_again : (z : ℤ) → repeated_in (true_at d l.lines) (length l.lines) z ≡ again z
    unfolding true_at number_at repeated_in
    true_again z = rw (held_true k.lines)

    -- a value too large says what no line says
    large_fresh : form_of quantity v ≡ true → unlike ≡ false → large_of quantity v ≡ true → again (true_of d v) ≡ false
    unfolding repeated_in
    large_fresh f u e = by l.block.known refl u where
      other : v.decimals ≤ 9 → again (true_of d v) ≡ false
      other h = any_fails (λ i. eq_z (number_at l.lines i) (true_of d v)) (length l.lines) λ i q. not_it i q
          (eq_z (number_at l.lines i) (true_of d v)) refl where
            not_it : (i : ℕ) → i < length l.lines → (x : Bool) → eq_z (number_at l.lines i) (true_of d v) ≡ x → x ≡ false
            not_it i q false s = refl
            not_it i q true s =
                absurd (too_large d quantity v g f h e
                (rw (same_true (number_at l.lines i) (true_of d v) s) at (held_limited k.lines i q)))

      by : (x : Bool) → l.block.known ≡ x → (x && not (eqb v.decimals l.block.decimals)) ≡ false
          → again (true_of d v) ≡ false
      by false q w = rw (k.unsaid q) (any_none (λ i. eq_z (number_at [] i) (true_of d v)))
      by true q w = let t = eqb-true v.decimals l.block.decimals (not-false _ w) in other (omega (arith, k.places))

    -- both judgements give the same: by the form, decimals that differ, and the size
    abbrev reader : Bool → Bool → Bool → OrFault ℤ
    reader x y z =
        cond (eqb (cond x (cond y 6 (cond z 8 0)) 6) 0)
        (cond (again (scaled_of v)) (Err (fault 6 v.place))
        (cond (leb 4096 (first + length l.lines)) (Err (fault 8 v.place))
        (Ok (scaled_of v))))
        (Err (fault (cond x (cond y 6 (cond z 8 0)) 6) v.place))

    abbrev paper : Bool → Bool → Bool → OrFault ℤ
    paper x y z =
        cond x
        (cond y (Err (fault 6 v.place))
        (cond (again (true_of d v)) (Err (fault 6 v.place))
        (cond z (Err (fault 8 v.place))
        (cond (leb 4096 (first + length l.lines)) (Err (fault 8 v.place))
        (Ok (true_of d v))))))
        (Err (fault 6 v.place))

    same_verdict : judge_line (number_at l.lines) (length l.lines) first quantity l.block v
        ≡ paper_line d l.lines first quantity l.block v
    unfolding judge_line line_fault paper_line
    same_verdict = rw (true_again (true_of d v)) (by (form_of quantity v) unlike (large_of quantity v) refl refl refl) where
      by : (x y z : Bool) → form_of quantity v ≡ x → unlike ≡ y → large_of quantity v ≡ z → reader x y z ≡ paper x y z
      by false y z f u e = refl
      by true true z f u e = refl
      by true false true f u e = rw (large_fresh f u e)
      by true false false f u e = rw (true_scaled d g (fits (size_in d v) quantity v g f e))

  -- ---- it holds at the start of the lines, and behind each
  start_alone : (t : OrFault ℕ) → Steady (state_of (value_here d t) empty_block [])
  start_alone t = record { value = value_genuine d t; places = omega arith; unsaid = λ q. refl; lines = none }

  start_behind : (n : ℕ) (b : Block) → Made d quantity b → Steady (state_of (value_here d (notes_on d (Ok n))) b [])
  unfolding Made
  start_behind n b m = record { value = value_genuine d (notes_on d (Ok n)); places = m.0.few_decimals; unsaid = λ q. refl; lines = none }

  more_steady : (b : Block) (l : List Said) (n : ℕ) {m : Listing} → b.decimals ≤ 9 → b.known ≡ true → Held l
      → after l (more_of d b n) ≡ Again m → Steady m
  unfolding more_of end_of
  more_steady b l n {m} p q h = by (choice_of d (notes_on d (Ok n)) END) where
    ends : (r : OrFault ℕ) → after l (end_of b r) ≡ Again m → Steady m
    ends (Ok k) e = let z : ◌≡◌ {A = ℕ} 0 1 = cc in absurd (omega arith)
    ends (Err f) e = let z : ◌≡◌ {A = ℕ} 0 1 = cc in absurd (omega arith)

    by : (c : Choice) → after l (end_or d b (notes_on d (Ok n)) c) ≡ Again m → Steady m
    by (Taken k) e = ends (word_on d (Ok k) VALUES) e
    by Left e =
        let j : state_of (value_here d (notes_on d (Ok n))) b l ≡ m = cc in
        rw (← j) (record { value = value_genuine d (notes_on d (Ok n)); places = p; unsaid = λ u. holds_not q u; lines = h })

  step_steady : (l : Listing) {m : Listing} → Steady l → line_step d quantity first l ≡ Again m → Steady m
  unfolding line_step grown_by
  step_steady l {m} k = by (line_rest d l.amount) refl where
    judge : (s : Said) (v : OrFault ℤ) → line_rest d l.amount ≡ Ok s
        → judge_line (number_at l.lines) (length l.lines) first quantity l.block s.value ≡ v
        → judged_step d l s v ≡ Again m → Steady m
    judge s (Ok z) j i e =
        let t = good_line (number_at l.lines) (length l.lines) first quantity l.block s.value i in
        let g = k.value s.value (line_value_lem d l.amount s j) in
        let w = sound_value quantity l.block s.value t.sound in
        let f = fits (size_in d s.value) quantity s.value g w.0 w.1 in
        more_steady (grown_by l.block s.value) (l.lines ++ s ∷ []) s.next f.places refl
        (held_more s k.lines (value_limited quantity s.value f) (true_scaled d g f))
        e
    judge s (Err f) j i e = let z : ◌≡◌ {A = ℕ} 0 1 = cc in absurd (omega arith)

    by : (r : OrFault Said) → line_rest d l.amount ≡ r → read_step d quantity first l r ≡ Again m → Steady m
    by (Ok s) j e = judge s (judge_line (number_at l.lines) (length l.lines) first quantity l.block s.value) j refl e
    by (Err f) j e = let z : ◌≡◌ {A = ℕ} 0 1 = cc in absurd (omega arith)

  steady : {l : Listing} → Reached d quantity first l → Steady l
  steady (alone t) = start_alone t
  steady (behind t u {b = b} {n = n} e) = start_behind n b (rest_good d quantity (value_here d t) u (value_genuine d t) e)
  steady (next {l = l} r e) = step_steady l (steady r) e

  -- ---- a line is judged as document 01 says
  pub paper_verdict : (l : Listing) (s : Said) → Reached d quantity first l → line_rest d l.amount ≡ Ok s
      → judge_line (number_at l.lines) (length l.lines) first quantity l.block s.value
      ≡ paper_line d l.lines first quantity l.block s.value
  paper_verdict l s r j = let k = steady r in same_verdict l k s.value (k.value s.value (line_value_lem d l.amount s j))

  pub paper_step_lem : (l : Listing) → Reached d quantity first l → line_step d quantity first l ≡ paper_step d quantity first l
  unfolding line_step paper_step
  paper_step_lem l r = by (line_rest d l.amount) refl where
    by : (x : OrFault Said) → line_rest d l.amount ≡ x → read_step d quantity first l x ≡ paper_read d quantity first l x
    by (Ok s) j = ap (judged_step d l s) (paper_verdict l s r j)
    by (Err f) j = refl

  loops : (f : ℕ) (l : Listing) → Reached d quantity first l
      → loop_of (line_step d quantity first) (Not (fault 0 0)) f l ≡ loop_of (paper_step d quantity first) (Not (fault 0 0)) f l
  unfolding loop_of
  loops zero l r = refl
  loops (suc f) l r = rw (← paper_step_lem l r) (by (line_step d quantity first l) refl (loops f)) where
    by : (x : Next Listing Given) → line_step d quantity first l ≡ x
        → ((m : Listing) → Reached d quantity first m → loop_of (line_step d quantity first) (Not (fault 0 0)) f m
        ≡ loop_of (paper_step d quantity first) (Not (fault 0 0)) f m)
        → on_next x (loop_of (line_step d quantity first) (Not (fault 0 0)) f)
        ≡ on_next x (loop_of (paper_step d quantity first) (Not (fault 0 0)) f)
    by (Again m) e ih = ih m (next r e)
    by (Done g) e ih = refl

  -- so are all lines of a block
  pub paper_lines : (l : Listing) → Reached d quantity first l → lines_from d quantity first l ≡ paper_from d quantity first l
  unfolding lines_from paper_from
  paper_lines l r = loops (suc (4096 - (first + length l.lines))) l r
