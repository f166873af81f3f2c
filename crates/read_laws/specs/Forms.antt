-- What follows from rule/Forms.antt, and what the code keeps.
use Rattle.std.proofs.Math.Path.{◌≡◌, refl, sym, ap, subst}
use Rattle.std.proofs.Common.{◌∙◌, length-drop, take-append-drop, length-take-le}
use Rattle.std.specs.Prelude.{Bool, ◌&&◌, leb, ℤ, pos}
use Rattle.std.proofs.Math.Bool.{true, false, cond}
use mathlib.Core.List.{List, [], ◌∷◌, ◌++◌, append-nil}
use Prim.Native.Nat.{ℕ, suc, ◌+◌, ◌-◌, ◌*◌, ◌≤◌, ◌<◌}
use Rattle.std.proofs.Math.Nat.{sub-zero}
use native.Mathlib.Omega.{arith}
use borrow.Author.Tests.{eqb-true, eqb-false, eq-eqb, ne_eqb, le-leb, leb-true}
use Rattle.std.proofs.Math.Dec.{eqb}
use Rattle.std.proofs.Math.ListN.{length, take, drop, get_or, length-append}
use Rattle.std.proofs.Math.Seq.{take-append_seam, drop-append-add, get_or-append_seam, take-length, drop-length, drop-cons}
use Rattle.numbers.proofs.Laws.{code_nonempty}
use Rattle.below.specs.rule.Below.{◌and◌}
use Rattle.below.specs.Below.{and_both, holds_not}
use Rattle.ascii.specs.rule.Class.{within}
use Rattle.cells.specs.rule.Cell.{number_of}
use Rattle.layout.specs.declared.Format.{Format}
use Rattle.widths.specs.rule.Width.{tail_of, least_whole}
use Rattle.widths.specs.Width.{tail_point, least_one}
use Rattle.fields.specs.rule.Number.{Said, blank, says, wrong, all_spaces, unspaced, digits_only, decimal_from, decimal, code_after}
use Rattle.fields.specs.rule.Number.{code_of}
use Rattle.fields.specs.rule.Number.{whole_part, decimal_part, point_stands, amount_form, amount_size, amount_of, quantity_after}
use Rattle.fields.specs.rule.Number.{quantity_of}
use Rattle.numbers.specs.rule.Format.{FormatFacts}
use Rattle.numbers.specs.Room.{is_digit_lem, first_digit}
use Rattle.read_laws.specs.rule.Forms.{Spaces, none, space, Digits, end, digit, Sign, plain, minus, Tail, without, point, CodeForm}
use Rattle.read_laws.specs.rule.Forms.{QuantityForm}

-- ---- digits
digits_read : (m : ℕ) (s : List ℕ) → digits_only s ≡ true → Digits m s (decimal_from m s)
unfolding decimal_from
digits_read m [] e = end
digits_read m (b ∷ s) e =
    let p = first_digit b s e in
    let d = is_digit_lem b p.0 in
    let q : b ≡ 48 + (b - 48) = omega arith in
    subst (λ (x : ℕ). Digits m (x ∷ s) (decimal_from (m * 10 + (b - 48)) s)) (sym q)
    (digit (omega arith) (digits_read (m * 10 + (b - 48)) s p.1))

digit_within : (d : ℕ) → d ≤ 9 → within 48 57 (48 + d) ≡ true
digit_within d h = rw (le-leb 48 (48 + d) (omega arith), le-leb (48 + d) 57 (omega arith))

pub digits_only_lem : {m n : ℕ} {s : List ℕ} → Digits m s n → digits_only s ≡ true
unfolding digits_only
digits_only_lem end = refl
digits_only_lem (digit {d} h r) = rw (digit_within d h, digits_only_lem r)

pub digits_say : {m n : ℕ} {s : List ℕ} → Digits m s n → decimal_from m s ≡ n
unfolding decimal_from
digits_say end = refl
digits_say (digit {m} {d} h r) = let e : 48 + d - 48 ≡ d = omega arith in rw e (digits_say r)

-- ---- spaces
pub spaces_all : {s : List ℕ} → Spaces s → all_spaces s ≡ true
unfolding all_spaces
spaces_all none = refl
spaces_all (space r) = spaces_all r

pub all_spaces_lem : (s : List ℕ) → all_spaces s ≡ true → Spaces s
unfolding all_spaces ◌and◌
all_spaces_lem [] e = none
all_spaces_lem (b ∷ s) e =
    let p = and_both {a = eqb b 32} {b = all_spaces s} e in
    subst (λ (x : ℕ). Spaces (x ∷ s)) (sym (eqb-true b 32 p.0)) (space (all_spaces_lem s p.1))

-- the spaces in front, and what follows them
gap_of : List ℕ → List ℕ
gap_of [] = []
gap_of (b ∷ s) = cond (eqb b 32) (32 ∷ gap_of s) []

gap_blank : (s : List ℕ) → Spaces (gap_of s)
unfolding gap_of
gap_blank [] = none
gap_blank (b ∷ s) = go (eqb b 32) (gap_blank s)
  where
    go : (c : Bool) → Spaces (gap_of s) → Spaces (cond c (32 ∷ gap_of s) [])
    go true r = space r
    go false r = none

gap_rest : (s : List ℕ) → s ≡ gap_of s ++ unspaced s
unfolding gap_of unspaced
gap_rest [] = refl
gap_rest (b ∷ s) = go (eqb b 32) refl (gap_rest s)
  where
    go : (c : Bool) → eqb b 32 ≡ c → s ≡ gap_of s ++ unspaced s → b ∷ s ≡ cond c (32 ∷ gap_of s) [] ++ cond c (unspaced s) (b ∷ s)
    go true q r = rw (eqb-true b 32 q) (ap (λ (l : List ℕ). 32 ∷ l) r)
    go false q r = refl

-- what begins with no space stays, whatever spaces stand before it
past_gap : {g : List ℕ} (b : ℕ) (s : List ℕ) → Spaces g → (b ≡ 32 → ⊥) → unspaced (g ++ (b ∷ s)) ≡ b ∷ s
unfolding unspaced
past_gap b s none h = rw (ne_eqb _ _ h)
past_gap b s (space r) h = past_gap b s r h

pub all_gap : {g : List ℕ} → Spaces g → unspaced g ≡ []
unfolding unspaced
all_gap none = refl
all_gap (space r) = all_gap r

-- ---- SINGLE
-- a digit is no space, no minus
digit_not : (b d : ℕ) → b < 48 → 48 + d ≡ b → ⊥
digit_not b d h e = omega arith

-- digits behind spaces stay
digits_stay : {g w : List ℕ} {n : ℕ} → Spaces g → 0 < length w → Digits 0 w n → unspaced (g ++ w) ≡ w
digits_stay g h end = absurd (omega arith)
digits_stay g h (digit {d} {s} l r) = past_gap (48 + d) s g (digit_not 32 d (omega arith))

code_complete : (s : List ℕ) (z : ℤ) → CodeForm s z → code_of s ≡ says z
unfolding code_of
code_complete s z f =
    rw (f.made, f.is, digits_stay f.blank_gap f.some f.said)
    (code_nonempty f.whole f.some ∙ rw (digits_only_lem f.said, digits_say f.said))

code_by : (s x : List ℕ) (z : ℤ) → unspaced s ≡ x → code_after x ≡ says z → CodeForm s z
unfolding code_after
code_by s [] z u e = let q : ◌≡◌ {A = ℕ} 0 1 = cc in absurd (omega arith)
code_by s (b ∷ x) z u e = go (digits_only (b ∷ x)) refl e
  where
    go : (c : Bool) → digits_only (b ∷ x) ≡ c → cond c (says (pos (decimal (b ∷ x)))) wrong ≡ says z → CodeForm s z
    go true d q = record {
      gap = gap_of s;
      whole = b ∷ x;
      size = decimal (b ∷ x);
      made = gap_rest s ∙ rw u;
      blank_gap = gap_blank s;
      some = omega arith;
      said = digits_read 0 (b ∷ x) d;
      is = cc;
    }
    go false d q = let k : ◌≡◌ {A = ℕ} 0 1 = cc in absurd (omega arith)

-- THE BYTES OF A CODE SAY z EXACTLY WHEN they are spaces, then digits that say z
pub code_exactly : (s : List ℕ) (z : ℤ) → (code_of s ≡ says z → CodeForm s z) × (CodeForm s z → code_of s ≡ says z)
unfolding code_of
code_exactly s z = (λ e. code_by s (unspaced s) z refl e, code_complete s z)

blank_by : (s x : List ℕ) → unspaced s ≡ x → code_after x ≡ blank → Spaces s
unfolding code_after
blank_by s [] u e = subst Spaces (sym (gap_rest s ∙ rw (u, append-nil))) (gap_blank s)
blank_by s (b ∷ x) u e = go (digits_only (b ∷ x)) e
  where
    go : (c : Bool) → cond c (says (pos (decimal (b ∷ x)))) wrong ≡ blank → Spaces s
    go true q = let k : ◌≡◌ {A = ℕ} 0 1 = cc in absurd (omega arith)
    go false q = let k : ◌≡◌ {A = ℕ} 0 1 = cc in absurd (omega arith)

-- nothing exactly when all are spaces
pub code_blank_exactly : (s : List ℕ) → (code_of s ≡ blank → Spaces s) × (Spaces s → code_of s ≡ blank)
unfolding code_of code_after
code_blank_exactly s = (λ e. blank_by s (unspaced s) refl e, λ r. rw (all_gap r))

-- wrong exactly when neither form fits
three : (x : Said) → (x ≡ blank → ⊥) → ((z : ℤ) → x ≡ says z → ⊥) → x ≡ wrong
three blank b s = absurd (b refl)
three (says z) b s = absurd (s z refl)
three wrong b s = refl

pub code_wrong_exactly : (s : List ℕ)
    → (code_of s ≡ wrong → (Spaces s → ⊥) × ((z : ℤ) → CodeForm s z → ⊥)) × ((Spaces s → ⊥) → ((z : ℤ) → CodeForm s z → ⊥)
    → code_of s ≡ wrong)
code_wrong_exactly s = (
  λ e. (
    λ r. let q = (code_blank_exactly s).1 r in let k : ◌≡◌ {A = ℕ} 0 1 = cc in omega arith,
    λ z f. let q = (code_exactly s z).1 f in let k : ◌≡◌ {A = ℕ} 0 1 = cc in omega arith,
  ),
  λ b f. three (code_of s) (λ e. b ((code_blank_exactly s).0 e)) (λ z e. f z ((code_exactly s z).0 e)),
)

-- ---- QUANTITY: an amount, which is what stands after the sign
pub record AmountForm (f : Format) (negative : Bool) (s : List ℕ) (z : ℤ) : Type 0 where
  pub whole : List ℕ
  pub tail : List ℕ
  pub decimals : List ℕ
  pub size : ℕ
  pub made : s ≡ whole ++ tail
  pub some : least_whole f ≤ length whole
  pub tailed : Tail f tail decimals
  pub said : Digits 0 (whole ++ decimals) size
  pub is : z ≡ number_of negative size

digits_both : (x y : List ℕ) → digits_only (x ++ y) ≡ true → (digits_only x ≡ true) × (digits_only y ≡ true)
unfolding digits_only
digits_both [] y e = (refl, e)
digits_both (b ∷ x) y e =
    let p = first_digit b (x ++ y) e in
    let q = digits_both x y p.1 in
    (rw (p.0, q.0), q.1)

both_digits : (x y : List ℕ) → digits_only x ≡ true → digits_only y ≡ true → digits_only (x ++ y) ≡ true
unfolding digits_only
both_digits [] y e f = f
both_digits (b ∷ x) y e f = let p = first_digit b x e in rw (p.0, both_digits x y p.1 f)

four : (a b c d : Bool) → a && (b && (c && d)) ≡ true → (a ≡ true) × (b ≡ true) × (c ≡ true) × (d ≡ true)
four true true true d e = (refl, refl, refl, e)
four false b c d e = holds_not e refl
four true false c d e = holds_not e refl
four true true false d e = holds_not e refl

-- the first of some digits lies from `0` to `9`
digit_first : {m n : ℕ} (c : ℕ) (s : List ℕ) → Digits m (c ∷ s) n → 48 ≤ c
digit_first c s (digit h r) = omega arith

module _ (f : Format) (facts : FormatFacts f) where
  tail_size : {t ds : List ℕ} → Tail f t ds → length t ≡ tail_of f
  unfolding tail_of
  tail_size (without p) = rw (eq-eqb _ _ p)
  tail_size (point {ds} p n) = rw (ne_eqb _ _ p) (omega (arith, n))

  -- an amount of this form is read as what it says
  complete : (neg : Bool) (w t ds : List ℕ) (n : ℕ) → least_whole f ≤ length w → Tail f t ds → Digits 0 (w ++ ds) n
      → amount_of f neg (w ++ t) ≡ says (number_of neg n)
  unfolding amount_of amount_form amount_size digits_only
  complete neg w t ds n some (without p) d =
      let z : tail_of f ≡ 0 = sym (tail_size (without p)) in
      let o : digits_only (w ++ []) ≡ true = digits_only_lem d in
      let v : decimal_from 0 (w ++ []) ≡ n = digits_say d in
      let r : least_whole f + tail_of f ≤ length (w ++ []) = rw append-nil (omega arith) in
      rw (le-leb _ _ r, z, eq-eqb _ _ p, facts.plain p, sub-zero, take-length, drop-length, o, v)
  complete neg w t ds n some (point p l) d =
      let a : length (w ++ (46 ∷ ds)) ≡ length w + suc (length ds) = length-append w (46 ∷ ds) in
      let b : tail_of f ≡ suc (length ds) = sym (tail_size {ds = ds} (point p l)) in
      let k : length (w ++ (46 ∷ ds)) - tail_of f ≡ length w = omega arith in
      let m : length (w ++ (46 ∷ ds)) - f.decimals ≡ length w + 1 = omega arith in
      let r : least_whole f + tail_of f ≤ length (w ++ (46 ∷ ds)) = omega arith in
      let o = digits_both w ds (digits_only_lem d) in
      let v : decimal_from 0 (w ++ ds) ≡ n = digits_say d in
      rw (le-leb _ _ r, k, m, take-append_seam w (46 ∷ ds), drop-append-add w (46 ∷ ds) 1, get_or-append_seam w 46 ds 0)
      (rw (ne_eqb _ _ p, o.0, o.1, v))

  -- and one that is read has this form
  module _ (neg : Bool) (x : List ℕ) (z : ℤ) where
    record Parts : Type 0 where
      pub long : least_whole f + tail_of f ≤ length x
      pub whole_digits : digits_only (whole_part f x) ≡ true
      pub stands : point_stands f x ≡ true
      pub decimal_digits : digits_only (decimal_part f x) ≡ true
      pub is : z ≡ number_of neg (amount_size f x)

    opened : amount_form f x ≡ true → z ≡ number_of neg (amount_size f x) → Parts
    unfolding amount_form
    opened a b =
        let q = four (leb (least_whole f + tail_of f) (length x)) (digits_only (whole_part f x)) (point_stands f x)
        (digits_only (decimal_part f x)) a in
        record { long = leb-true _ _ q.0; whole_digits = q.1; stands = q.2; decimal_digits = q.3; is = b }

    parts : amount_of f neg x ≡ says z → Parts
    unfolding amount_of
    parts e = go (amount_form f x) refl e
      where
        go : (c : Bool) → amount_form f x ≡ c → cond c (says (number_of neg (amount_size f x))) wrong ≡ says z → Parts
        go true q e' = opened q (cc)
        go false q e' = let k : ◌≡◌ {A = ℕ} 0 1 = cc in absurd (omega arith)

    plain_form : f.point ≡ 0 → Parts → AmountForm f neg x z
    unfolding tail_of amount_size
    plain_form p q =
        let t : tail_of f ≡ 0 = rw (eq-eqb _ _ p) in
        let o : digits_only x ≡ true = rw (eq-eqb _ _ p, sub-zero, take-length) at q.whole_digits in
        record {
          whole = x;
          tail = [];
          decimals = [];
          size = decimal x;
          made = sym (append-nil x);
          some = let l = q.long in omega arith;
          tailed = without p;
          said = rw append-nil (digits_read 0 x o);
          is = q.is ∙ rw (eq-eqb _ _ p);
        }

    pointed_form : (f.point ≡ 0 → ⊥) → Parts → AmountForm f neg x z
    unfolding amount_size
    pointed_form p q =
        let t : tail_of f ≡ f.decimals + 1 = tail_point f p in
        let l = q.long in
        let k : ℕ = length x - tail_of f in
        let h : k < length x = omega arith in
        let m : length x - f.decimals ≡ suc k = omega arith in
        let b : get_or x k 0 ≡ 46 = eqb-true _ _ (rw (ne_eqb _ _ p) at q.stands) in
        let d : drop k x ≡ 46 ∷ drop (suc k) x = drop-cons x k 0 h ∙ rw b in
        let o : digits_only (drop (suc k) x) ≡ true = rw m at q.decimal_digits in
        record {
          whole = take k x;
          tail = 46 ∷ drop (suc k) x;
          decimals = drop (suc k) x;
          size = decimal (take k x ++ drop (suc k) x);
          made = sym (take-append-drop k x) ∙ ap (λ (r : List ℕ). take k x ++ r) d;
          some = rw (length-take-le k x (omega arith)) (omega arith);
          tailed = point p (length-drop (suc k) x ∙ omega arith);
          said = digits_read 0 (take k x ++ drop (suc k) x) (both_digits (take k x) (drop (suc k) x) q.whole_digits o);
          is = q.is ∙ rw (ne_eqb _ _ p, m);
        }

    sound_by : (c : Bool) → eqb f.point 0 ≡ c → Parts → AmountForm f neg x z
    sound_by true e q = plain_form (eqb-true _ _ e) q
    sound_by false e q = pointed_form (eqb-false _ _ e) q

    sound_amount : amount_of f neg x ≡ says z → AmountForm f neg x z
    sound_amount e = sound_by (eqb f.point 0) refl (parts e)

  -- ---- a quantity
  -- what stands behind the spaces: a minus and an amount, or an amount that begins with a digit
  after_complete : (neg : Bool) (g sg w t ds : List ℕ) (n : ℕ) → Spaces g → Sign neg sg → least_whole f ≤ length w → Tail f t ds
      → Digits 0 (w ++ ds) n
      → quantity_of f (g ++ (sg ++ (w ++ t))) ≡ says (number_of neg n)
  unfolding quantity_of quantity_after
  after_complete neg g sg w t ds n b minus some tl d = rw (past_gap 45 (w ++ t) b (λ e. omega arith)) (complete true w t ds n some tl d)
  after_complete neg g sg [] t ds n b plain some (without p) d = absurd (omega (arith, least_one f (λ e. omega arith)))
  after_complete neg g sg [] t ds n b plain some (point p l) d =
      rw (past_gap 46 ds b (λ e. omega arith)) (complete false [] (46 ∷ ds) ds n some (point p l) d)
  after_complete neg g sg (c ∷ w) t ds n b plain some tl d =
      let q = digit_first c (w ++ ds) d in
      rw (past_gap c (w ++ t) b (λ e. omega arith), ne_eqb c 45 (λ e. omega arith)) (complete false (c ∷ w) t ds n some tl d)

  quantity_complete : (s : List ℕ) (z : ℤ) → QuantityForm f s z → quantity_of f s ≡ says z
  quantity_complete s z q =
      rw (q.made, q.is)
      (after_complete q.negative q.gap q.sign q.whole q.tail q.decimals q.size q.blank_gap q.signed
      q.some q.tailed q.said)

  from_amount : (neg : Bool) (s sg x : List ℕ) (z : ℤ) → Sign neg sg → unspaced s ≡ sg ++ x → AmountForm f neg x z → QuantityForm f s z
  from_amount neg s sg x z g u a = record {
    gap = gap_of s;
    sign = sg;
    whole = a.whole;
    tail = a.tail;
    decimals = a.decimals;
    negative = neg;
    size = a.size;
    made = gap_rest s ∙ ap (λ (r : List ℕ). gap_of s ++ r) (u ∙ ap (λ (r : List ℕ). sg ++ r) a.made);
    blank_gap = gap_blank s;
    signed = g;
    some = a.some;
    tailed = a.tailed;
    said = a.said;
    is = a.is;
  }

  quantity_by : (s x : List ℕ) (z : ℤ) → unspaced s ≡ x → quantity_after f x ≡ says z → QuantityForm f s z
  unfolding quantity_after
  quantity_by s [] z u e = let k : ◌≡◌ {A = ℕ} 0 1 = cc in absurd (omega arith)
  quantity_by s (b ∷ x) z u e = go (eqb b 45) refl e
    where
      go : (c : Bool) → eqb b 45 ≡ c → cond c (amount_of f true x) (amount_of f false (b ∷ x)) ≡ says z → QuantityForm f s z
      go true q r = from_amount true s (45 ∷ []) x z minus (u ∙ ap (λ (k : ℕ). k ∷ x) (eqb-true b 45 q)) (sound_amount true x z r)
      go false q r = from_amount false s [] (b ∷ x) z plain u (sound_amount false (b ∷ x) z r)

  -- THE BYTES OF A QUANTITY SAY z EXACTLY WHEN they have its form and the form says z
  pub quantity_exactly : (s : List ℕ) (z : ℤ)
      → (quantity_of f s ≡ says z → QuantityForm f s z) × (QuantityForm f s z → quantity_of f s ≡ says z)
  unfolding quantity_of
  quantity_exactly s z = (λ e. quantity_by s (unspaced s) z refl e, quantity_complete s z)

  amount_not_blank : (neg : Bool) (x : List ℕ) → amount_of f neg x ≡ blank → ⊥
  unfolding amount_of
  amount_not_blank neg x e = go (amount_form f x) e
    where
      go : (c : Bool) → cond c (says (number_of neg (amount_size f x))) wrong ≡ blank → ⊥
      go true q = let k : ◌≡◌ {A = ℕ} 0 1 = cc in omega arith
      go false q = let k : ◌≡◌ {A = ℕ} 0 1 = cc in omega arith

  quantity_blank_by : (s x : List ℕ) → unspaced s ≡ x → quantity_after f x ≡ blank → Spaces s
  unfolding quantity_after
  quantity_blank_by s [] u e = subst Spaces (sym (gap_rest s ∙ rw (u, append-nil))) (gap_blank s)
  quantity_blank_by s (b ∷ x) u e = go (eqb b 45) e
    where
      go : (c : Bool) → cond c (amount_of f true x) (amount_of f false (b ∷ x)) ≡ blank → Spaces s
      go true q = absurd (amount_not_blank true x q)
      go false q = absurd (amount_not_blank false (b ∷ x) q)

  -- nothing exactly when all are spaces
  pub quantity_blank_exactly : (s : List ℕ) → (quantity_of f s ≡ blank → Spaces s) × (Spaces s → quantity_of f s ≡ blank)
  unfolding quantity_of quantity_after
  quantity_blank_exactly s = (λ e. quantity_blank_by s (unspaced s) refl e, λ r. rw (all_gap r))

  -- wrong exactly when neither form fits
  pub quantity_wrong_exactly : (s : List ℕ)
      → (quantity_of f s ≡ wrong → (Spaces s → ⊥) × ((z : ℤ) → QuantityForm f s z → ⊥)) × ((Spaces s → ⊥)
      → ((z : ℤ) → QuantityForm f s z → ⊥) → quantity_of f s ≡ wrong)
  quantity_wrong_exactly s = (
    λ e. (
      λ r. let q = (quantity_blank_exactly s).1 r in let k : ◌≡◌ {A = ℕ} 0 1 = cc in omega arith,
      λ z g. let q = (quantity_exactly s z).1 g in let k : ◌≡◌ {A = ℕ} 0 1 = cc in omega arith,
    ),
    λ b g. three (quantity_of f s) (λ e. b ((quantity_blank_exactly s).0 e)) (λ z e. g z ((quantity_exactly s z).0 e)),
  )
