-- What follows from rule/Csv.antt, and what the code keeps.
use Rattle.std.specs.Prelude.{◌≡◌, refl, Bool, true, false, cond, ◌||◌, List, [], ◌∷◌, ◌++◌, ℕ, zero, suc, ◌+◌, ◌-◌, ◌≤◌, ◌<◌, eqb, length}
use Rattle.std.specs.Prelude.{drop, get_or}
use Rattle.std.proofs.Common.{sym, ap, ◌∙◌, add-one, arith, drop_of_length-le, drop-cons}
use Rattle.commas.specs.rule.Csv.{is_special, holds_special, doubled_byte, doubled, field_bytes, behind_first, line_bytes, each}

-- ---- the bytes of a slice one by one
pub next_byte : (s : List ℕ) (i : ℕ) → i < length s → drop i s ≡ (get_or s i 0 ∷ []) ++ drop (i + 1) s
next_byte s i h = drop-cons s i 0 h ∙ rw (add-one i)

pub over_byte : (s : List ℕ) (i : ℕ) → length s ≤ i → drop i s ≡ []
over_byte s i h = drop_of_length-le s h

pub next_doubled : (s : List ℕ) (i : ℕ) → i < length s → doubled (drop i s) ≡ doubled_byte (get_or s i 0) ++ doubled (drop (i + 1) s)
unfolding doubled
next_doubled s i h = ap doubled (next_byte s i h)

pub over_doubled : (s : List ℕ) (i : ℕ) → length s ≤ i → doubled (drop i s) ≡ []
unfolding doubled
over_doubled s i h = ap doubled (over_byte s i h)

pub next_special : (s : List ℕ) (i : ℕ) → i < length s → holds_special (drop i s)
    ≡ (is_special (get_or s i 0) || holds_special (drop (i + 1) s))
unfolding holds_special
next_special s i h = ap holds_special (next_byte s i h)

pub over_special : (s : List ℕ) (i : ℕ) → length s ≤ i → holds_special (drop i s) ≡ false
unfolding holds_special
over_special s i h = ap holds_special (over_byte s i h)

or_join : (a b c : Bool) → (a || (b || c)) ≡ ((a || b) || c)
or_join true b c = refl
or_join false b c = refl

-- one byte more of eight
pub eight_step : (s : List ℕ) (i k : ℕ) (some sp h : Bool) → i + k < length s → sp ≡ is_special (get_or s (i + k) 0)
    → h ≡ (some || holds_special (drop (i + k) s)) → h ≡ ((some || sp) || holds_special (drop (i + (k + 1)) s))
eight_step s i k some sp h l e q =
    let j : i + (k + 1) ≡ i + k + 1 = omega arith in
    q ∙ rw (next_special s (i + k) l, ← e, j) (or_join some sp (holds_special (drop (i + k + 1) s)))

-- ---- a field by whether it is quoted
pub field_quoted : (f : List ℕ) → holds_special f ≡ true → (34 ∷ []) ++ (doubled f ++ (34 ∷ [])) ≡ field_bytes f
unfolding field_bytes
field_quoted f e = rw e

pub field_plain : (f : List ℕ) → holds_special f ≡ false → f ≡ field_bytes f
unfolding field_bytes
field_plain f e = rw e

-- ---- a line field by field
-- the comma before every field but the first
unfoldable pub comma_before : ℕ → List ℕ
comma_before zero = []
comma_before (suc i) = 44 ∷ []

-- what is left of a line from field i on
unfoldable pub line_left : (ℕ → List ℕ) → ℕ → ℕ → List ℕ
line_left f i zero = 13 ∷ 10 ∷ []
line_left f i (suc n) = comma_before i ++ (field_bytes (f i) ++ line_left f (suc i) n)

left_behind : (f : ℕ → List ℕ) (n i : ℕ) → line_left f (suc i) n ≡ behind_first (each f (suc i) n)
unfolding line_left behind_first each comma_before
left_behind f zero i = refl
left_behind f (suc n) i = ap (λ (s : List ℕ). (44 ∷ []) ++ (field_bytes (f (suc i)) ++ s)) (left_behind f n (suc i))

pub left_line : (f : ℕ → List ℕ) (n : ℕ) → line_bytes (each f 0 n) ≡ line_left f 0 n
unfolding line_left line_bytes each comma_before
left_line f zero = refl
left_line f (suc n) = ap (λ (s : List ℕ). field_bytes (f 0) ++ s) (sym (left_behind f n 0))

-- the next field, and the end of a line of V fields
pub left_next : (f : ℕ → List ℕ) (v i : ℕ) → i < v → line_left f i (v - i) ≡ comma_before i
    ++ (field_bytes (f i) ++ line_left f (i + 1) (v - (i + 1)))
unfolding line_left
left_next f v i h = let e : v - i ≡ suc (v - (i + 1)) = omega arith in rw (e, add-one i)

pub left_end : (f : ℕ → List ℕ) (v i : ℕ) → v ≤ i → line_left f i (v - i) ≡ 13 ∷ 10 ∷ []
unfolding line_left
left_end f v i h = let e : v - i ≡ 0 = omega arith in rw e

-- ---- bytes that need no quotes have no quote to double
pub doubled_plain : (s : List ℕ) → holds_special s ≡ false → doubled s ≡ s
unfolding doubled holds_special is_special doubled_byte
doubled_plain [] e = refl
doubled_plain (b ∷ s) e = go (eqb b 44) (eqb b 34) (eqb b 13) (eqb b 10) e (λ h. doubled_plain s h)
  where
    go : (p q r u : Bool) → ((p || (q || (r || u))) || holds_special s) ≡ false → (holds_special s ≡ false → doubled s ≡ s)
        → cond q (34 ∷ 34 ∷ []) (b ∷ []) ++ doubled s ≡ b ∷ s
    go true q r u e k = let z : ◌≡◌ {A = ℕ} 0 1 = cc in absurd (omega arith)
    go false true r u e k = let z : ◌≡◌ {A = ℕ} 0 1 = cc in absurd (omega arith)
    go false false true u e k = let z : ◌≡◌ {A = ℕ} 0 1 = cc in absurd (omega arith)
    go false false false true e k = let z : ◌≡◌ {A = ℕ} 0 1 = cc in absurd (omega arith)
    go false false false false e k = ap (λ (l : List ℕ). b ∷ l) (k e)
