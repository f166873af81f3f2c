-- The digits of a guess: below the cap it is what the digits say; what stands before the point and behind it.
use Rattle.std.specs.Prelude.{◌≡◌, refl, List, [], ◌∷◌, ◌++◌, ℕ, zero, suc, ◌+◌, ◌-◌, ◌*◌, ◌/◌, ◌%◌, ◌^◌, ◌≤◌, ◌<◌, min, length, take}
use Rattle.std.specs.Prelude.{drop}
use Rattle.std.proofs.Common.{sym, ap, ◌∙◌, mod-lt, div-add-mod', div-le_self, lt_of_le_of_lt, add-mul, mul_assoc, add_assoc, arith, ne_eqb}
use Rattle.std.proofs.Common.{lit<, drop_of_length-le, take_at}
use Rattle.std.proofs.Math.Nat.{pow-succ'}
use Rattle.std.proofs.Math.Arith.{mod-mul}
use Rattle.std.proofs.Math.Seq.{take-length, drop-append-add}
use Rattle.ascii.specs.rule.Tens.{digits_of}
use Rattle.ascii.specs.Tens.{digits_hold, digits_some}
use Rattle.widths.specs.Width.{ten_some}
use Rattle.fields.specs.rule.Number.{decimal_from, decimal, padded}
use Rattle.fieldlaws.specs.NumberLaws.{decimal_padded}
use Rattle.lines.specs.rule.Text.{numeral}
use Rattle.field_values.specs.rule.Value.{zeros}
use Rattle.field_values.specs.rule.Read.{capped, capped_from, point_at, size_guess}

-- ---- the cap
pub decimal_rises : (s : List ℕ) (n : ℕ) → n ≤ decimal_from n s
unfolding decimal_from
decimal_rises [] n = omega arith
decimal_rises (b ∷ s) n = let h = decimal_rises s (n * 10 + (b - 48)) in omega arith

pub capped_low : (n : ℕ) → n ≤ 1000000000000000 → capped n ≡ n
unfolding capped
capped_low n h = omega arith

pub capped_same : (s : List ℕ) (n : ℕ) → decimal_from n s ≤ 1000000000000000 → capped_from n s ≡ decimal_from n s
unfolding decimal_from capped_from
capped_same [] n h = refl
capped_same (b ∷ s) n h =
    let r = decimal_rises s (n * 10 + (b - 48)) in
    rw (capped_low (n * 10 + (b - 48)) (omega arith)) (capped_same s (n * 10 + (b - 48)) h)

pub capped_join : (a b : List ℕ) (n : ℕ) → capped_from n (a ++ b) ≡ capped_from (capped_from n a) b
unfolding capped_from
capped_join [] b n = refl
capped_join (x ∷ a) b n = capped_join a b (capped (n * 10 + (x - 48)))

pub decimal_join : (a b : List ℕ) (n : ℕ) → decimal_from n (a ++ b) ≡ decimal_from (decimal_from n a) b
unfolding decimal_from
decimal_join [] b n = refl
decimal_join (x ∷ a) b n = decimal_join a b (n * 10 + (x - 48))

pub capped_few : (s : List ℕ) (n : ℕ) → n ≤ 1000000000000000 → capped_from n s ≤ 1000000000000000
unfolding capped_from capped
capped_few [] n h = h
capped_few (b ∷ s) n h = capped_few s (min (n * 10 + (b - 48)) 1000000000000000) (omega arith)

-- ---- digits have no point, no semicolon and no minus
abbrev pub Free : ℕ → List ℕ → Type 0
Free c [] = Unit
Free c (b ∷ s) = (b ≡ c → ⊥) × Free c s

pub free_padded : (c : ℕ) → ((d : ℕ) → d < 10 → 48 + d ≡ c → ⊥) → (k n : ℕ) → Free c (padded k n)
unfolding padded
free_padded c other zero n = tt
free_padded c other (suc k) n = (other (n / 10 ^ k % 10) (mod-lt (n / 10 ^ k) (lit< tt)), free_padded c other k n)

pub no_point : (d : ℕ) → d < 10 → 48 + d ≡ 46 → ⊥
no_point d h e = omega arith

pub no_semicolon : (d : ℕ) → d < 10 → 48 + d ≡ 59 → ⊥
no_semicolon d h e = omega arith

-- ---- a count in its digits
pub free_numeral : (c : ℕ) → ((d : ℕ) → d < 10 → 48 + d ≡ c → ⊥) → (n : ℕ) → Free c (numeral n)
unfolding numeral
free_numeral c other n = free_padded c other (digits_of n) n

pub decimal_numeral : (n : ℕ) → n < 10 ^ 16 → decimal (numeral n) ≡ n
unfolding numeral
decimal_numeral n h = decimal_padded (digits_of n) n (digits_hold n h)

-- its first byte is a digit
pub record Led (s : List ℕ) : Type 0 where
  pub first : ℕ
  pub others : List ℕ
  pub is : s ≡ first ∷ others
  pub low : 48 ≤ first
  pub high : first ≤ 57

led_padded : (n k : ℕ) → 1 ≤ k → Led (padded k n)
unfolding padded
led_padded n zero h = absurd (omega arith)
led_padded n (suc k) h =
    let m : n / 10 ^ k % 10 < 10 = mod-lt (n / 10 ^ k) (lit< tt) in
    record { first = 48 + n / 10 ^ k % 10; others = padded k n; is = refl; low = omega arith; high = omega arith }

pub led_numeral : (n : ℕ) → Led (numeral n)
unfolding numeral
led_numeral n = led_padded n (digits_of n) (digits_some n)

-- ---- what the last k digits of n say after a
split : (n k : ℕ) → n % 10 ^ suc k ≡ (n / 10 ^ k % 10) * 10 ^ k + n % 10 ^ k
split n k = rw pow-succ' (mod-mul n (lit< tt) (ten_some k))

shift : (a n k : ℕ) → (a * 10 + n / 10 ^ k % 10) * 10 ^ k + n % 10 ^ k ≡ a * 10 ^ suc k + n % 10 ^ suc k
shift a n k = rw (split, pow-succ') (simp (add-mul, mul_assoc, add_assoc))

said_padded : (k a n : ℕ) → decimal_from a (padded k n) ≡ a * 10 ^ k + n % 10 ^ k
unfolding padded decimal_from
said_padded zero a n = omega arith
said_padded (suc k) a n =
    let e : 48 + n / 10 ^ k % 10 - 48 ≡ n / 10 ^ k % 10 = omega arith in
    ap (λ (x : ℕ). decimal_from (a * 10 + x) (padded k n)) e ∙ said_padded k (a * 10 + n / 10 ^ k % 10) n ∙ shift a n k

-- a number's digits before its decimals, and its decimals
pub decimal_parts : (k n : ℕ) → n < 10 ^ 16 → decimal (numeral (n / 10 ^ k) ++ padded k n) ≡ n
decimal_parts k n h =
    let l : n / 10 ^ k < 10 ^ 16 = lt_of_le_of_lt (div-le_self n (10 ^ k)) h in
    decimal_join (numeral (n / 10 ^ k)) (padded k n) 0
    ∙ rw (decimal_numeral (n / 10 ^ k) l) (said_padded k (n / 10 ^ k) n ∙ div-add-mod' n (10 ^ k))

-- ---- before the point and behind it
pub point_at_lem : (a b : List ℕ) → Free 46 a → point_at (a ++ (46 ∷ b)) ≡ length a
unfolding point_at
point_at_lem [] b h = refl
point_at_lem (x ∷ a) b h = rw (ne_eqb x 46 h.0) (ap suc (point_at_lem a b h.1))

pub point_none : (a : List ℕ) → Free 46 a → point_at a ≡ length a
unfolding point_at
point_none [] h = refl
point_none (x ∷ a) h = rw (ne_eqb x 46 h.0) (ap suc (point_none a h.1))

pub size_parts : (k : ℕ) (a b : List ℕ) → Free 46 a → size_guess k (a ++ (46 ∷ b)) ≡ capped_from 0 (a ++ (b ++ zeros (k - length b)))
unfolding size_guess
size_parts k a b h =
    let f = take_at a (46 ∷ b) (point_at (a ++ (46 ∷ b))) (sym (point_at_lem a b h)) in
    let g : drop (point_at (a ++ (46 ∷ b)) + 1) (a ++ (46 ∷ b)) ≡ b = ap (λ (x : ℕ). drop (x + 1) (a ++ (46 ∷ b))) (point_at_lem a b h)
    ∙ drop-append-add a (46 ∷ b) 1 in
    rw (f, g) (sym (capped_join a (b ++ zeros (k - length b)) 0 ∙ capped_join b (zeros (k - length b)) (capped_from 0 a)))

pub size_whole : (k : ℕ) (a : List ℕ) → Free 46 a → size_guess k a ≡ capped_from 0 (a ++ zeros k)
unfolding size_guess capped_from
size_whole k a h =
    let f : take (point_at a) a ≡ a = ap (λ (x : ℕ). take x a) (point_none a h) ∙ take-length a in
    let g : drop (point_at a + 1) a ≡ [] = drop_of_length-le a {i = point_at a + 1} (omega (arith, point_none a h)) in
    let e : k - 0 ≡ k = omega arith in
    rw (f, g) (ap (λ (x : ℕ). capped_from (capped_from 0 a) (zeros x)) e ∙ sym (capped_join a (zeros k) 0))
