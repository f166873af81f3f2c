-- What the code keeps: folds, what was gathered, a value taken.
use Rattle.std.specs.Prelude.{◌≡◌, ◌⊎◌, Bool, ◌&&◌, ℕ, zero, suc, ◌+◌, ◌-◌, ◌*◌, ◌/◌, ◌^◌, ◌≤◌, ◌<◌, min, eqb, ltb, ℤ, pos, negsuc, length}
use Rattle.std.specs.Prelude.{take, get_or, set}
use Rattle.std.proofs.Math.Path.{refl, sym, ap}
use Rattle.std.proofs.Common.{◌∙◌, inl, inr, ⊎_elim, add-one, length-append, length-drop, drop-cons, take-suc-set, take-suc, get_or-drop}
use Rattle.std.proofs.Common.{add-zero, get_or-take, length-take-le, take_all}
use Rattle.std.proofs.Math.Bool.{true, false, cond}
use mathlib.Core.List.{List, [], ◌∷◌, ◌++◌, append_assoc}
use native.Mathlib.Omega.{arith}
use borrow.Author.Tests.{eq-eqb, ne_eqb, lt-ltb, le-ltb}
use Rattle.std.proofs.Math.ListN.{drop, drop_of_length-le}
use Rattle.std.proofs.Math.Seq.{take-append_seam}
use Rattle.below.specs.Below.{holds_not, lt_or_le}
use Rattle.cells.specs.rule.Cell.{signed_of, number_of, cell}
use Rattle.layout.specs.declared.Row.{Row}
use Rattle.layout.specs.declared.Format.{Format}
use Rattle.layout.specs.declared.Kind.{Kind}
use Rattle.layout.specs.declared.Kind.TheVariants.{Single, Multiple, Quantity, Character, Logical}
use Rattle.layout.specs.declared.Spread.{Spread}
use Rattle.layout.specs.declared.Spread.TheVariants.{Bits, Fields}
use Rattle.places.specs.rule.Places.{put}
use Rattle.fields.specs.rule.Legal.{legal}
use Rattle.fields.specs.rule.Number.{padded}
use Rattle.fields.specs.rule.Field.{Value, missing, number, members, text, truth, Field, holds, illegal, set_fits}
use Rattle.fields.specs.rule.Row.{Fit, fits, other_type, not_legal, too_many, fits_by, fit_of, bytes_by, places_by, written_of}
use Rattle.fieldlaws.specs.NumberLaws.{length_padded}
use Rattle.fieldlaws.specs.BackLaws.{Limits, fit_legal, fit_set}
use Rattle.lines.specs.rule.Text.{numeral}
use Rattle.lines.specs.Appended.{numeral_few}
use Rattle.lines.specs.Lines.{Codes}
use Rattle.sink.specs.rule.Sent.{Sent}
use Rattle.sink.specs.Sent.{sets_front}
use Rattle.writes.specs.Write.{Ready, WrittenBy, answer_by, left_by, takes_numbers}
use Rattle.writes.specs.rule.Write.{lent_value}
use Rattle.writes.specs.declared.Value as given
use Rattle.writes.specs.declared.Wrote.{Wrote}
use Rattle.writes.specs.declared.Wrote.TheVariants.{Done, NotWellFormed, NoRow, TooShort, OtherType, NotLegal, TooMany}
use Rattle.value_fields.specs.rule.Values.{amount_text, export_number, set_text, export_value}
use Rattle.widths.specs.rule.Width.{decimals_of}
use Rattle.field_values.specs.rule.Value.{zeros, whole}
use Rattle.field_values.specs.rule.Read.{capped, capped_from, point_at, size_guess, number_guess, codes_in, set_guess, truth_guess}
use Rattle.field_values.specs.rule.Read.{some_guess, guess_of}
use Rattle.field_values.specs.rule.Read.{all_zeros, tail_good, left_of, is_fits, tried_as, value_from}
use Rattle.field_values.specs.Capped.{capped_few, capped_join}
use Rattle.field_values.specs.Left.{left_is, is_left}
use Rattle.field_values.specs.Guess.{AreCodes, set_long}
use Rattle.field_values.specs.Exactly.{left_all, bits_codes, spread_codes, fits_is, no_other}

-- the largest number that a guess gives
abbrev pub small : ℕ
small = 1000000000000000

-- ---- folds, byte by byte
next_byte : (s : List ℕ) (i : ℕ) → i < length s → drop i s ≡ get_or s i 0 ∷ drop (i + 1) s
next_byte s i h = drop-cons s i 0 h ∙ rw (add-one i)

module _ (s : List ℕ) (i : ℕ) where
  pub capped_next : (n : ℕ) → i < length s → capped_from n (drop i s) ≡ capped_from (capped (n * 10 + (get_or s i 0 - 48))) (drop (i + 1) s)
  unfolding capped_from
  capped_next n h = ap (capped_from n) (next_byte s i h)

  pub capped_over : (n : ℕ) → length s ≤ i → capped_from n (drop i s) ≡ n
  unfolding capped_from
  capped_over n h = ap (capped_from n) (drop_of_length-le s h)

  pub point_next : i < length s → (get_or s i 0 ≡ 46 → ⊥) → i + point_at (drop i s) ≡ (i + 1) + point_at (drop (i + 1) s)
  unfolding point_at
  point_next h n = ap (λ (x : List ℕ). i + point_at x) (next_byte s i h) ∙ rw (ne_eqb (get_or s i 0) 46 n) (omega arith)

  pub point_here : i < length s → get_or s i 0 ≡ 46 → i + point_at (drop i s) ≡ i
  unfolding point_at
  point_here h e = ap (λ (x : List ℕ). i + point_at x) (next_byte s i h) ∙ rw (eq-eqb (get_or s i 0) 46 e) (omega arith)

  pub point_over : length s ≤ i → i + point_at (drop i s) ≡ i
  unfolding point_at
  point_over h = ap (λ (x : List ℕ). i + point_at x) (drop_of_length-le s h) ∙ omega arith

  pub zeros_next : i < length s → all_zeros (drop i s) ≡ (eqb (get_or s i 0) 48 && all_zeros (drop (i + 1) s))
  unfolding all_zeros
  zeros_next h = ap all_zeros (next_byte s i h)

  pub zeros_over : length s ≤ i → all_zeros (drop i s) ≡ true
  unfolding all_zeros
  zeros_over h = ap all_zeros (drop_of_length-le s h)

pub capped_zero : (n k : ℕ) → 0 < k → capped_from n (zeros k) ≡ capped_from (capped (n * 10 + (48 - 48))) (zeros (k - 1))
unfolding capped_from zeros
capped_zero n k h = let e : k ≡ suc (k - 1) = omega arith in ap (λ (x : ℕ). capped_from n (zeros x)) e

pub capped_none : (n k : ℕ) → k ≡ 0 → capped_from n (zeros k) ≡ n
unfolding capped_from zeros
capped_none n k e = rw e

pub capped_small : (n : ℕ) → capped n ≤ small
unfolding capped
capped_small n = omega arith

-- ---- the size of a number
module _ (k : ℕ) (f : List ℕ) {p : ℕ} (e : p ≡ point_at f) {n : ℕ} (a : n ≡ capped_from 0 (take p f)) where
  pub size_short : length f ≤ p + 1 → capped_from n (zeros k) ≡ size_guess k f
  unfolding size_guess capped_from
  size_short h =
      let g : drop (point_at f + 1) f ≡ [] = drop_of_length-le f {i = point_at f + 1} (omega (arith, e)) in
      let z : k - 0 ≡ k = omega arith in
      rw (g, ← e, ← a) (ap (λ (x : ℕ). capped_from n (zeros x)) (sym z))

  pub size_long : {m : ℕ} → m ≡ capped_from n (drop (p + 1) f) → capped_from m (zeros (k - length (drop (p + 1) f))) ≡ size_guess k f
  unfolding size_guess
  size_long b = rw (← e, ← a, ← b)

pub guess_few : (k : ℕ) (f : List ℕ) → size_guess k f ≤ small
unfolding size_guess
guess_few k f =
    capped_few (zeros (k - length (drop (point_at f + 1) f))) (capped_from (capped_from 0 (take (point_at f) f)) (drop (point_at f + 1) f))
    (capped_few (drop (point_at f + 1) f) (capped_from 0 (take (point_at f) f)) (capped_few (take (point_at f) f) 0 (omega arith)))

pub number_none : (k : ℕ) (f : List ℕ) → length f ≡ 0 → pos 0 ≡ number_guess k f
unfolding number_guess
number_none k [] h = refl
number_none k (b ∷ f) h = absurd (omega arith)

pub number_down : (k : ℕ) (s : List ℕ) → (length s ≡ 0 → ⊥) → get_or s 0 0 ≡ 45 → number_of true (size_guess k (drop 1 s))
    ≡ number_guess k s
unfolding number_guess
number_down k [] n e = absurd (n refl)
number_down k (b ∷ s) n e = rw (eq-eqb b 45 e)

pub number_up : (k : ℕ) (s : List ℕ) → (length s ≡ 0 → ⊥) → (get_or s 0 0 ≡ 45 → ⊥) → number_of false (size_guess k s) ≡ number_guess k s
unfolding number_guess
number_up k [] n e = absurd (n refl)
number_up k (b ∷ s) n e = rw (ne_eqb b 45 e)

number_size : (b : Bool) (n : ℕ) → (signed_of (number_of b n)).size ≡ n
unfolding signed_of number_of
number_size false n = refl
number_size true zero = refl
number_size true (suc n) = refl

pub number_small : (k : ℕ) (f : List ℕ) → (signed_of (number_guess k f)).size ≤ small
unfolding number_guess signed_of
number_small k [] = omega arith
number_small k (b ∷ s) = by (eqb b 45)
  where
    by : (q : Bool) → (signed_of (cond q (number_of true (size_guess k s)) (number_of false (size_guess k (b ∷ s))))).size ≤ small
    by true = rw (number_size true (size_guess k s)) (guess_few k s)
    by false = rw (number_size false (size_guess k (b ∷ s))) (guess_few k (b ∷ s))

-- a number's text is short
amount_short : (k n : ℕ) → k ≤ 9 → length (amount_text k n) ≤ 26
unfolding amount_text
amount_short k n h = by (eqb k 0) (numeral_few (n / 10 ^ k))
  where
    by : (q : Bool) → length (numeral (n / 10 ^ k)) ≤ 16 → length (numeral (n / 10 ^ k) ++ cond q [] ((46 ∷ []) ++ padded k n)) ≤ 26
    by true l = omega (arith, length-append (numeral (n / 10 ^ k)) [])
    by false l = omega (arith, length-append (numeral (n / 10 ^ k)) (46 ∷ padded k n), length_padded k n)

pub text_short : (k : ℕ) (z : ℤ) → k ≤ 9 → length (export_number k z) ≤ 27
unfolding export_number
text_short k z h = go (signed_of z).minus (amount_short k (signed_of z).size h)
  where
    go : (q : Bool) → length (amount_text k (signed_of z).size) ≤ 26
        → length (cond q ((45 ∷ []) ++ amount_text k (signed_of z).size) (amount_text k (signed_of z).size)) ≤ 27
    go true l = omega arith
    go false l = omega arith

-- ---- what was sent to a room stands there
pub sent_stands : {bound : ℕ} {out : List ℕ} {s out' : List ℕ} {r : ℕ} → Sent bound out 0 s out' r → length s < bound → bound ≡ length out
    + 1
    → (r ≡ length s) × (take r out' ≡ s)
sent_stands {bound} {out} {s} {out'} {r} a h e =
    let l : 0 + length s < bound = omega arith in
    let k : r ≡ length s = a.within l ∙ omega arith in
    (k, rw (k, a.stored l (omega arith), sets_front out s (omega arith)) (take-append_seam s (drop (length s) out)))

pub sent_other : {bound : ℕ} {out : List ℕ} {s out' : List ℕ} {r : ℕ} → Sent bound out 0 s out' r → bound ≤ length s → bound ≤ r
sent_other a h = a.beyond (omega arith)

-- ---- codes between semicolons
abbrev part : List ℕ → ℕ → ℕ → List ℕ
part d from to = take (to - from) (drop from d)

-- the first byte b from a place on, or the end
pub record ByteTo (b : ℕ) (f : List ℕ) (from to : ℕ) : Type 0 where
  pub on : from ≤ to
  pub within : to ≤ length f
  pub none : (j : ℕ) → from ≤ j → j < to → get_or f j 0 ≡ b → ⊥
  pub stops : to < length f → get_or f to 0 ≡ b

-- the first point from the start on
pub point_is : {f : List ℕ} {to : ℕ} → ByteTo 46 f 0 to → to ≡ point_at f
point_is {f} {to} p = sym (run to (omega arith) ∙ ⊎_elim (λ h. point_here f to h (p.stops h)) (point_over f to) (lt_or_le to (length f)))
  where
    run : (k : ℕ) → k ≤ to → point_at f ≡ k + point_at (drop k f)
    run zero h = omega arith
    run (suc k) h =
        let g : k < length f = omega (arith, p.within) in
        rw (add-one k) at (run k (omega arith) ∙ point_next f k g (p.none k (omega arith) h))

-- bytes passed from a place on, none of which is a semicolon
pub record Passed (f : List ℕ) (from to : ℕ) : Type 0 where
  pub on : from ≤ to
  pub within : to ≤ length f
  pub codes : (n : ℕ) → codes_in n (drop from f) ≡ codes_in (capped_from n (part f from to)) (drop to f)

passed_none : (f : List ℕ) (i : ℕ) → i ≤ length f → Passed f i i
unfolding capped_from
passed_none f i h = record { on = omega arith; within = h; codes = λ n. let e : i - i ≡ 0 = omega arith in rw e }

part_more : (f : List ℕ) (from to : ℕ) → from ≤ to → to < length f → part f from (to + 1) ≡ part f from to ++ (get_or f to 0 ∷ [])
part_more f from to h l =
    let e : to + 1 - from ≡ suc (to - from) = omega arith in
    let k : from + (to - from) ≡ to = omega arith in
    let m : to - from < length (drop from f) = rw (length-drop from f) (omega arith) in
    rw e (take-suc (drop from f) (to - from) 0 m ∙ ap (λ (x : ℕ). take (to - from) (drop from f) ++ (x ∷ []))
    (get_or-drop from f (to - from) 0 ∙ ap (λ (x : ℕ). get_or f x 0) k))

passed_more : {f : List ℕ} {from to : ℕ} → Passed f from to → to < length f → (get_or f to 0 ≡ 59 → ⊥) → Passed f from (to + 1)
unfolding codes_in capped_from
passed_more {f} {from} {to} p h n = record {
  on = omega (arith, p.on);
  within = omega arith;
  codes = λ m. p.codes m ∙ ap (codes_in (capped_from m (part f from to))) (next_byte f to h)
      ∙ rw (ne_eqb (get_or f to 0) 59 n) (ap (λ (x : ℕ). codes_in x (drop (to + 1) f)) (step m));
}
  where
    step : (m : ℕ) → capped (capped_from m (part f from to) * 10 + (get_or f to 0 - 48)) ≡ capped_from m (part f from (to + 1))
    step m = sym (ap (capped_from m) (part_more f from to p.on h) ∙ capped_join (part f from to) (get_or f to 0 ∷ []) m)

passed_to : {f : List ℕ} {from to : ℕ} → ByteTo 59 f from to → Passed f from to
passed_to {f} {from} {to} s =
    let e : from + (to - from) ≡ to = omega (arith, s.on) in
    rw e at (run (to - from) (omega (arith, s.on)))
  where
    run : (k : ℕ) → from + k ≤ to → Passed f from (from + k)
    run zero h = rw add-zero (passed_none f from (omega (arith, s.on, s.within)))
    run (suc k) h =
        let e : from + k + 1 ≡ from + suc k = omega arith in
        rw e at (passed_more (run k (omega arith)) (omega (arith, s.within)) (s.none (from + k) (omega arith) (omega arith)))

-- the list holds the codes before a place, and those behind it are to come
pub record Gathering (f : List ℕ) (list : List ℤ) (count at : ℕ) : Type 0 where
  pub few : count ≤ 9999
  pub inside : at ≤ length f
  pub codes : codes_in 0 f ≡ take count list ++ codes_in 0 (drop at f)

pub gathering_none : (f : List ℕ) (list : List ℤ) → Gathering f list 0 0
gathering_none f list = record { few = omega arith; inside = omega arith; codes = refl }

module _ {f : List ℕ} {list : List ℤ} {count at : ℕ} (g : Gathering f list count at) (size : length list ≡ 9999) {to : ℕ}
    (s : ByteTo 59 f at to) where
  abbrev code : ℕ
  code = min (capped_from 0 (part f at to)) 9999

  code_over : length f ≤ to → codes_in 0 (drop at f) ≡ pos code ∷ []
  unfolding codes_in
  code_over h = (passed_to s).codes 0 ∙ ap (codes_in (capped_from 0 (part f at to))) (drop_of_length-le f h)

  code_more : to < length f → codes_in 0 (drop at f) ≡ pos code ∷ codes_in 0 (drop (to + 1) f)
  unfolding codes_in
  code_more h = (passed_to s).codes 0 ∙ ap (codes_in (capped_from 0 (part f at to))) (next_byte f to h)
      ∙ rw (eq-eqb (get_or f to 0) 59 (s.stops h))

  codes_some : (e : (length f ≤ to) ⊎ (to < length f)) → 1 ≤ length (codes_in 0 (drop at f))
  codes_some (inl h) = rw (code_over h) (omega arith)
  codes_some (inr h) = rw (code_more h) (omega arith)

  pub gathered_many : 9999 ≤ count → 9999 < length (codes_in 0 f)
  gathered_many h =
      let k : length (take count list) ≡ count = length-take-le count list (omega (arith, g.few)) in
      omega (
        arith,
        ap length g.codes,
        length-append (take count list) (codes_in 0 (drop at f)),
        k,
        codes_some (⊎_elim inr inl (lt_or_le to (length f))),
      )

  module _ (low : count < 9999) {z : ℤ} (is : z ≡ pos code) where
    more_taken : take (count + 1) (set list count z) ≡ take count list ++ (pos code ∷ [])
    more_taken = rw (add-one count, is) (take-suc-set list count (pos code) (omega (arith, size)))

    pub gathered_all : length f ≤ to → take (count + 1) (set list count z) ≡ codes_in 0 f
    gathered_all h = more_taken ∙ sym (g.codes ∙ ap (λ (x : List ℤ). take count list ++ x) (code_over h))

    pub gathering_more : to < length f → Gathering f (set list count z) (count + 1) (to + 1)
    gathering_more h = record {
      few = omega arith;
      inside = omega arith;
      codes = g.codes ∙ ap (λ (x : List ℤ). take count list ++ x) (code_more h)
          ∙ sym (ap (λ (x : List ℤ). x ++ codes_in 0 (drop (to + 1) f)) more_taken
          ∙ append_assoc (take count list) (pos code ∷ []) (codes_in 0 (drop (to + 1) f)));
    }

-- ---- what is left of a text, byte by byte
module _ (k : ℕ) (s f : List ℕ) (i : ℕ) where
  pub left_next : i < length s → i < length f → get_or s i 0 ≡ get_or f i 0 → left_of k (drop i s) (drop i f)
      ≡ left_of k (drop (i + 1) s) (drop (i + 1) f)
  unfolding left_of
  left_next h l e = rw (next_byte s i h, next_byte f i l, eq-eqb (get_or s i 0) (get_or f i 0) e)

  pub left_other : i < length s → i < length f → (get_or s i 0 ≡ get_or f i 0 → ⊥) → left_of k (drop i s) (drop i f) ≡ false
  unfolding left_of
  left_other h l n = rw (next_byte s i h, next_byte f i l, ne_eqb (get_or s i 0) (get_or f i 0) n)

  pub left_end : i ≡ length f → left_of k (drop i s) (drop i f) ≡ tail_good k (drop (length f) s)
  unfolding left_of
  left_end e = rw (drop_of_length-le f {i = i} (omega (arith, e))) (ap (λ (x : ℕ). tail_good k (drop x s)) e)

pub left_short : (k : ℕ) (s f : List ℕ) → length s < length f → left_of k s f ≡ false
unfolding left_of
left_short k s [] h = absurd (omega arith)
left_short k [] (b ∷ f) h = refl
left_short k (c ∷ s) (b ∷ f) h = go (eqb c b) (left_short k s f (omega arith))
  where
    go : (q : Bool) → left_of k s f ≡ false → cond q (left_of k s f) false ≡ false
    go true e = e
    go false e = refl

-- ---- the end of a text
module _ (k : ℕ) where
  pub tail_none : (s : List ℕ) → length s ≡ 0 → true ≡ tail_good k s
  unfolding tail_good
  tail_none [] h = refl
  tail_none (b ∷ s) h = absurd (omega arith)

  pub tail_point : (s : List ℕ) → (length s ≡ 0 → ⊥) → get_or s 0 0 ≡ 46 → (k ≡ 0 → ⊥) → length s ≡ k + 1 → all_zeros (drop 1 s)
      ≡ tail_good k s
  unfolding tail_good
  tail_point [] n e z h = absurd (n refl)
  tail_point (b ∷ s) n e z h = rw (eq-eqb b 46 e, eq-eqb (length s) k (omega arith), ne_eqb k 0 z)

  pub tail_bare : (s : List ℕ) → (length s ≡ 0 → ⊥) → get_or s 0 0 ≡ 46 → (k ≡ 0) → false ≡ tail_good k s
  unfolding tail_good
  tail_bare [] n e z = absurd (n refl)
  tail_bare (b ∷ s) n e z = rw (eq-eqb b 46 e, eq-eqb k 0 z) (go (eqb (length s) k))
    where
      go : (q : Bool) → false ≡ cond q false false
      go true = refl
      go false = refl

  pub tail_wrong : (s : List ℕ) → (length s ≡ 0 → ⊥) → get_or s 0 0 ≡ 46 → (length s ≡ k + 1 → ⊥) → false ≡ tail_good k s
  unfolding tail_good
  tail_wrong [] n e h = absurd (n refl)
  tail_wrong (b ∷ s) n e h = rw (eq-eqb b 46 e, ne_eqb (length s) k (λ q. h (omega (arith, q))))

  pub tail_zeros : (s : List ℕ) → (length s ≡ 0 → ⊥) → (get_or s 0 0 ≡ 46 → ⊥) → length s < k → all_zeros s ≡ tail_good k s
  unfolding tail_good
  tail_zeros [] n e h = absurd (n refl)
  tail_zeros (b ∷ s) n e h = rw (ne_eqb b 46 e, lt-ltb (suc (length s)) k h)

  pub tail_long : (s : List ℕ) → (length s ≡ 0 → ⊥) → (get_or s 0 0 ≡ 46 → ⊥) → k ≤ length s → false ≡ tail_good k s
  unfolding tail_good
  tail_long [] n e h = absurd (n refl)
  tail_long (b ∷ s) n e h = rw (ne_eqb b 46 e, le-ltb (suc (length s)) k h)

-- ---- a value taken
unfoldable pub is_held : Field → Bool
is_held (holds x) = true
is_held illegal = false

-- the record afterwards
unfoldable pub took_by : List ℤ → ℕ → Row → Field → List ℕ → List ℕ
took_by t v r (holds x) old = written_of t v r x old
took_by t v r illegal old = old

pub record Took (t : List ℤ) (v : ℕ) (r : Row) (f old new : List ℕ) (b : Bool) : Type 0 where
  pub says : b ≡ is_held (value_from t v r f)
  pub leaves : new ≡ took_by t v r (value_from t v r f) old

unfoldable pub is_done : Wrote → Bool
is_done Done = true
is_done NotWellFormed = false
is_done NoRow = false
is_done TooShort = false
is_done OtherType = false
is_done NotLegal = false
is_done TooMany = false

-- the guess of a field, written as it stands
abbrev pub LeftOf : Row → List ℕ → Bool → Type 0
LeftOf r f b = left_of (decimals_of r.kind) (export_value (decimals_of r.kind) (guess_of r.kind f)) f ≡ b

pub none_taken : {t : List ℤ} {v : ℕ} {r : Row} {f old : List ℕ} → value_from t v r f ≡ illegal → Took t v r f old old false
unfolding is_held took_by
none_taken e = record { says = rw e; leaves = rw e }

pub left_none : (t : List ℤ) (v : ℕ) (r : Row) (f : List ℕ) → LeftOf r f false → value_from t v r f ≡ illegal
unfolding value_from tried_as
left_none t v r f e = rw e

-- by whether it fits
took_by_lem : (t : List ℤ) (v : ℕ) (r : Row) (y : Value) (q : Fit) (old : List ℕ)
    → (is_done (answer_by q) ≡ is_held (tried_as true (is_fits q) y))
    × (left_by q (written_of t v r y old) old ≡ took_by t v r (tried_as true (is_fits q) y) old)
unfolding is_done answer_by is_held tried_as is_fits left_by took_by
took_by_lem t v r y fits old = (refl, refl)
took_by_lem t v r y other_type old = (refl, refl)
took_by_lem t v r y not_legal old = (refl, refl)
took_by_lem t v r y too_many old = (refl, refl)

left_tried : (t : List ℤ) (v : ℕ) (r : Row) (f : List ℕ) → LeftOf r f true
    → value_from t v r f ≡ tried_as true (is_fits (fit_of t v r (guess_of r.kind f))) (guess_of r.kind f)
unfolding value_from
left_tried t v r f e = rw e

pub wrote : {t : List ℤ} {v : ℕ} {r : Row} {f old new : List ℕ} {x : given.Value} {list : List ℤ} {bytes : List ℕ} {a : Wrote} {b : Bool}
    → lent_value x list bytes ≡ guess_of r.kind f → LeftOf r f true → WrittenBy r.kind t v r x list bytes old new a → b ≡ is_done a
    → Took t v r f old new b
unfolding written_of
wrote {t} {v} {r} {f} {old} {new} {x} {list} {bytes} {a} {b} g l w d =
    let y = guess_of r.kind f in
    let k = took_by_lem t v r y (fit_of t v r y) old in
    let e = left_tried t v r f l in
    record {
      says = d ∙ ap is_done (w.says ∙ ap (λ (z : Value). answer_by (fits_by r.kind t v r z)) g) ∙ k.0 ∙ ap is_held (sym e);
      leaves = w.leaves ∙ ap (λ (z : Value). left_by (fits_by r.kind t v r z)
          (put old (places_by r.kind t v r) (bytes_by r.kind t v r z)) old) g
          ∙ k.1 ∙ ap (λ (z : Field). took_by t v r z old) (sym e);
    }

-- ---- by the row's kind
pub guess_none : (k : Kind) (f : List ℕ) → length f ≡ 0 → missing ≡ guess_of k f
unfolding guess_of
guess_none k [] h = refl
guess_none k (b ∷ f) h = absurd (omega arith)

pub left_empty : (r : Row) (f : List ℕ) → length f ≡ 0 → LeftOf r f true
unfolding guess_of export_value left_of tail_good
left_empty r [] h = refl
left_empty r (b ∷ f) h = absurd (omega arith)

some_is : (k : Kind) (f : List ℕ) → (length f ≡ 0 → ⊥) → guess_of k f ≡ some_guess k f
unfolding guess_of
some_is k [] n = absurd (n refl)
some_is k (b ∷ f) n = refl

-- numbers: a SINGLE or a QUANTITY
number_guessed : (k : Kind) (f : List ℕ) → takes_numbers k ≡ true → some_guess k f ≡ number (number_guess (decimals_of k) f)
unfolding some_guess decimals_of
number_guessed Single f e = refl
number_guessed (Multiple s) f e = holds_not e refl
number_guessed (Quantity g) f e = refl
number_guessed Character f e = holds_not e refl
number_guessed Logical f e = holds_not e refl

module _ (r : Row) (f : List ℕ) (some : length f ≡ 0 → ⊥) (takes : takes_numbers r.kind ≡ true) {k : ℕ} (is : k ≡ decimals_of r.kind)
    {z : ℤ} (guess : z ≡ number_guess k f) where
  pub number_is : number z ≡ guess_of r.kind f
  number_is = sym (some_is r.kind f some ∙ number_guessed r.kind f takes ∙ ap (λ (i : ℕ). number (number_guess i f)) (sym is)
      ∙ ap number (sym guess))

  pub number_left_is : {s : List ℕ} {b : Bool} → s ≡ export_number k z → b ≡ left_of k s f → LeftOf r f b
  unfolding export_value
  number_left_is {s} {b} e l =
      ap (λ (x : Value). left_of (decimals_of r.kind) (export_value (decimals_of r.kind) x) f) (sym number_is)
      ∙ ap (λ (i : ℕ). left_of i (export_number i z) f) (sym is) ∙ ap (λ (x : List ℕ). left_of k x f) (sym e) ∙ sym l

-- sets
module _ (r : Row) (f : List ℕ) (some : length f ≡ 0 → ⊥) {s : Spread} (kind : r.kind ≡ Multiple s) where
  set_guessed : guess_of r.kind f ≡ members (set_guess f)
  unfolding some_guess
  set_guessed = some_is r.kind f some ∙ ap (λ (k : Kind). some_guess k f) kind

  no_decimals : decimals_of r.kind ≡ 0
  unfolding decimals_of
  no_decimals = ap decimals_of kind

  pub set_is : {ms : List ℤ} → ms ≡ set_guess f → members ms ≡ guess_of r.kind f
  set_is e = sym (set_guessed ∙ ap members (sym e))

  pub set_left_is : {ms : List ℤ} {u : List ℕ} {b : Bool} → ms ≡ set_guess f → u ≡ set_text ms → b ≡ left_of 0 u f → LeftOf r f b
  unfolding export_value
  set_left_is {ms} {u} {b} g e l =
      ap (λ (x : Value). left_of (decimals_of r.kind) (export_value (decimals_of r.kind) x) f) (sym (set_is g))
      ∙ ap (λ (i : ℕ). left_of i (set_text ms) f) no_decimals ∙ ap (λ (x : List ℕ). left_of 0 x f) (sym e) ∙ sym l

  -- a set that fits is made of codes, and few
  fit_codes : (k : Kind) → k ≡ Multiple s → (t : List ℤ) (v : ℕ) → Limits k t v r → (ms : List ℤ) → fits_by k t v r (members ms) ≡ fits
      → AreCodes ms × (length ms ≤ 9999)
  unfolding fits_by
  fit_codes (Multiple Bits) e t v l ms q = bits_codes t v r l ms (fit_legal (set_fits (legal t v r) ms) q)
  fit_codes (Multiple (Fields n b)) e t v l ms q = spread_codes t v r n b l ms (fit_set (set_fits (legal t v r) ms) (ltb n (length ms)) q).0
  fit_codes Single e t v l ms q = no_other q
  fit_codes (Quantity g) e t v l ms q = no_other q
  fit_codes Character e t v l ms q = no_other q
  fit_codes Logical e t v l ms q = no_other q

  set_whole : {b : Bool} → LeftOf r f b → left_of 0 (set_text (set_guess f)) f ≡ b
  set_whole a = sym (set_left_is refl refl refl) ∙ a

  module _ {t : List ℤ} {v : ℕ} (l : Limits r.kind t v r) where
    -- no field is a set that is longer than any
    not_a_set : (AreCodes (set_guess f) → length (set_guess f) ≤ 9999 → set_text (set_guess f) ≡ f → ⊥) → value_from t v r f ≡ illegal
    unfolding value_from tried_as
    not_a_set no_set =
        let x = guess_of r.kind f in
        go (left_of (decimals_of r.kind) (export_value (decimals_of r.kind) x) f) (is_fits (fit_of t v r x)) refl refl
      where
        go : (p q : Bool) → left_of (decimals_of r.kind) (export_value (decimals_of r.kind) (guess_of r.kind f)) f ≡ p
            → is_fits (fit_of t v r (guess_of r.kind f)) ≡ q
            → cond p (cond q (holds (guess_of r.kind f)) illegal) illegal ≡ illegal
        go true true a b =
            let m = fit_codes r.kind kind t v l (set_guess f)
            (ap (fit_of t v r) (sym set_guessed) ∙ fits_is (fit_of t v r (guess_of r.kind f)) b) in
            absurd (no_set m.0 m.1 (left_all (left_is 0 (set_text (set_guess f)) f (set_whole a))))
        go true false a b = refl
        go false q a b = refl

    pub long_none : 50000 < length f → value_from t v r f ≡ illegal
    long_none h = not_a_set (λ c m e. omega (arith, set_long (set_guess f) c, ap length e))

    pub many_none : 9999 < length (set_guess f) → value_from t v r f ≡ illegal
    many_none h = not_a_set (λ c m e. omega arith)

pub record TakesSets (k : Kind) : Type 0 where
  pub spread : Spread
  pub is : k ≡ Multiple spread

-- a set by how it begins
pub set_letter : (f : List ℕ) → (length f ≡ 0 → ⊥) → get_or f 0 0 ≡ 110 → [] ≡ set_guess f
unfolding set_guess
set_letter [] n e = absurd (n refl)
set_letter (b ∷ f) n e = rw (eq-eqb b 110 e)

pub set_codes : (f : List ℕ) → (length f ≡ 0 → ⊥) → (get_or f 0 0 ≡ 110 → ⊥) → codes_in 0 f ≡ set_guess f
unfolding set_guess
set_codes [] n e = absurd (n refl)
set_codes (b ∷ f) n e = rw (ne_eqb b 110 e)

-- a slice to the end
pub rest_is : (f : List ℕ) (q : ℕ) → take (length f - q) (drop q f) ≡ drop q f
rest_is f q = take_all (length f - q) (drop q f) (omega (arith, length-drop q f))

-- what a guess must be for its text to be sent
pub number_sendable : (k : ℕ) (f : List ℕ) {z : ℤ} → z ≡ number_guess k f → (signed_of z).size < 10 ^ 16
number_sendable k f {z} e = rw e (omega (arith, number_small k f))

codes_few : (f : List ℕ) (n : ℕ) → AreCodes (codes_in n f)
unfolding codes_in
codes_few [] n = (omega arith, tt)
codes_few (b ∷ f) n = go (eqb b 59) (codes_few f 0) (codes_few f (capped (n * 10 + (b - 48))))
  where
    go : (q : Bool) → AreCodes (codes_in 0 f) → AreCodes (codes_in (capped (n * 10 + (b - 48))) f)
        → AreCodes (cond q (pos (min n 9999) ∷ codes_in 0 f) (codes_in (capped (n * 10 + (b - 48))) f))
    go true x y = (omega arith, x)
    go false x y = y

pub set_few : (f : List ℕ) → AreCodes (set_guess f)
unfolding set_guess
set_few [] = tt
set_few (b ∷ f) = go (eqb b 110)
  where
    go : (q : Bool) → AreCodes (cond q [] (codes_in 0 (b ∷ f)))
    go true = tt
    go false = codes_few (b ∷ f) 0

code_cells : (ms : List ℤ) → AreCodes ms → (j : ℕ) → j < length ms → ((signed_of (cell ms j)).size < 10 ^ 4)
    × ((signed_of (cell ms j)).minus ≡ false)
unfolding signed_of
code_cells [] c j h = absurd (omega arith)
code_cells (pos n ∷ ms) c zero h = (omega (arith, c.0), refl)
code_cells (pos n ∷ ms) c (suc j) h = code_cells ms c.1 j (omega arith)
code_cells (negsuc n ∷ ms) c j h = absurd c

pub set_sendable : (f : List ℕ) (list : List ℤ) (n : ℕ) → length list ≡ 9999 → n ≤ 9999 → take n list ≡ set_guess f → Codes list n
set_sendable f list n size h e =
    let k : length (take n list) ≡ n = length-take-le n list (omega arith) in
    let a : AreCodes (take n list) = rw e (set_few f) in
    record {
      many = omega arith;
      limit = h;
      few = λ j l. rw (get_or-take n list j (pos 0) l) at (code_cells (take n list) a j (omega arith)).0;
      plain = λ j l. rw (get_or-take n list j (pos 0) l) at (code_cells (take n list) a j (omega arith)).1;
    }

-- a set whose text has another length
pub other_length : (u f : List ℕ) → (length u ≡ length f → ⊥) → false ≡ left_of 0 u f
other_length u f n = go (left_of 0 u f) refl
  where
    go : (b : Bool) → left_of 0 u f ≡ b → false ≡ b
    go true e = absurd (n (ap length (left_all (left_is 0 u f e))))
    go false e = refl

-- truths
truth_first : (s : List ℕ) → (length s ≡ 0 → ⊥) → eqb (get_or s 0 0) 49 ≡ truth_guess s
unfolding truth_guess
truth_first [] n = absurd (n refl)
truth_first (b ∷ s) n = refl

module _ (r : Row) (f : List ℕ) (some : length f ≡ 0 → ⊥) (kind : r.kind ≡ Logical) where
  truth_guessed : guess_of r.kind f ≡ truth (truth_guess f)
  unfolding some_guess
  truth_guessed = some_is r.kind f some ∙ ap (λ (k : Kind). some_guess k f) kind

  pub truth_is : {b : Bool} → b ≡ eqb (get_or f 0 0) 49 → truth b ≡ guess_of r.kind f
  truth_is e = sym (truth_guessed ∙ ap truth (sym (e ∙ truth_first f some)))

  pub truth_left_is : {b : Bool} {u : List ℕ} {q : Bool} → b ≡ eqb (get_or f 0 0) 49 → u ≡ cond b 49 48 ∷ [] → q ≡ left_of 0 u f
      → LeftOf r f q
  unfolding export_value decimals_of
  truth_left_is {b} {u} {q} e w l =
      ap (λ (x : Value). left_of (decimals_of r.kind) (export_value (decimals_of r.kind) x) f) (sym (truth_is e))
      ∙ ap (λ (k : Kind). left_of (decimals_of k) (cond b 49 48 ∷ []) f) kind ∙ ap (λ (x : List ℕ). left_of 0 x f) (sym w) ∙ sym l

-- texts
module _ (r : Row) (f : List ℕ) (some : length f ≡ 0 → ⊥) (kind : r.kind ≡ Character) where
  pub text_is : text f ≡ guess_of r.kind f
  unfolding some_guess
  text_is = sym (some_is r.kind f some ∙ ap (λ (k : Kind). some_guess k f) kind)

  pub text_left_is : LeftOf r f true
  unfolding export_value decimals_of
  text_left_is =
      ap (λ (x : Value). left_of (decimals_of r.kind) (export_value (decimals_of r.kind) x) f) (sym text_is)
      ∙ ap (λ (k : Kind). left_of (decimals_of k) f f) kind ∙ is_left 0 f f (whole refl)

pub ready_limits : {k : Kind} {t : List ℤ} {v n : ℕ} {r : Row} → Ready k t v n r → Limits k t v r
ready_limits g = record { kind = g.kind; least = g.least; most = g.most; room = g.room }

-- a set's text in its room
module _ {out s out' : List ℕ} {r : ℕ} (a : Sent 50001 out 0 s out' r) (size : length out ≡ 50000) where
  pub set_stands : r ≤ 50000 → (r ≡ length s) × (take r out' ≡ s)
  set_stands h = sent_stands a (⊎_elim (λ l. l) (λ l. absurd (omega (arith, sent_other a l))) (lt_or_le (length s) 50001))
      (omega (arith, size))

  pub set_other : (f : List ℕ) → length f ≤ 50000 → (r ≡ length f → ⊥) → length s ≡ length f → ⊥
  set_other f h n e = n ((sent_stands a (omega arith) (omega (arith, size))).0 ∙ e)

-- by the row's kind
pub single_number : (r : Row) → r.kind ≡ Single → (takes_numbers r.kind ≡ true) × (0 ≡ decimals_of r.kind) × (0 ≤ 9)
unfolding decimals_of
single_number r e = (ap takes_numbers e, sym (ap decimals_of e), omega arith)

pub quantity_number : (r : Row) (q : Format) (t : List ℤ) (v n : ℕ) → r.kind ≡ Quantity q → Ready r.kind t v n r
    → (takes_numbers r.kind ≡ true) × (q.decimals ≡ decimals_of r.kind) × (q.decimals ≤ 9)
unfolding decimals_of
quantity_number r q t v n e g = (ap takes_numbers e, sym (ap decimals_of e), (rw e at g.kind).decimals)

-- a number's text in its room
module _ (k : ℕ) (z : ℤ) {out out' : List ℕ} {r : ℕ} (a : Sent 33 out 0 (export_number k z) out' r) (few : k ≤ 9) (size : length out ≡ 32)
  where
    pub number_stands : (r ≡ length (export_number k z)) × (take r out' ≡ export_number k z)
    number_stands = sent_stands a (omega (arith, text_short k z few)) (omega (arith, size))

    pub number_inside : r ≤ length out'
    number_inside = omega (arith, number_stands.0, text_short k z few, a.room, size)
