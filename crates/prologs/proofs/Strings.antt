-- A string in quotes, in words.
use mathlib.Core.Path.{◌≡◌, refl}
use mathlib.Core.Logic.{◌⊎◌, inl, inr, ⊎_elim, ◌↔◌}
use mathlib.Core.Bool.{Bool, true, false, cond, ◌||◌}
use mathlib.Core.List.{List}
use Prim.Native.Nat.{ℕ, ◌+◌, ◌≤◌, ◌<◌}
use native.Mathlib.Omega.{arith}
use lib.Dec.{leb, eqb}
use lib.ListN.{length, drop, get_or}
use borrow.Author.Tests.{eq-eqb, ne_eqb, eqb-true, eqb-false, le-leb, lt-leb, leb-true, leb-false}
use Rattle.below.specs.Below.{holds_not, either_true}
use Rattle.markup.specs.rule.Bytes.{run_of, end_fault}
use Rattle.markup.specs.declared.Skip.{Skip}
use Rattle.markup.specs.declared.Skip.TheVariants.{Past, Broken}
use Rattle.prologs.specs.rule.Told.{between_quotes, cut_of, closed_string, quoted_string}
use Rattle.prologs.proofs.Pieces.{Run, run_is, is_run}

-- at n a quote stands
abbrev pub Opens : List ℕ → ℕ → Type 0
Opens d n = (get_or d n 0 ≡ 34) ⊎ (get_or d n 0 ≡ 39)

-- from behind the quote at n up to k what may stand between such quotes
abbrev pub Inside : Bool → List ℕ → ℕ → ℕ → Type 0
Inside public d n k = Run (between_quotes public (get_or d n 0)) d (n + 1) k

-- what is found where a string is due at n, in a mark that opened at o: the place of the quote that ends it, or the place at fault
pub data Quotes (alone public bad : Bool) (d : List ℕ) (o n : ℕ) : Skip → Type 0 where
  gone : length d ≤ n → Quotes alone public bad d o n (Broken (end_fault bad n o))
  bare : n < length d → (Opens d n → ⊥) → Quotes alone public bad d o n (Broken n)
  cut : {k : ℕ} → n < length d → Opens d n → Inside public d n k → length d ≤ k
      → Quotes alone public bad d o n (Broken (cut_of alone bad d o n k))
  other : {k : ℕ} → n < length d → Opens d n → Inside public d n k → k < length d → (get_or d k 0 ≡ get_or d n 0 → ⊥)
      → Quotes alone public bad d o n (Broken k)
  whole : {k : ℕ} → n < length d → Opens d n → Inside public d n k → k < length d → get_or d k 0 ≡ get_or d n 0
      → Quotes alone public bad d o n (Past k)

opens_yes : (b : ℕ) → (b ≡ 34) ⊎ (b ≡ 39) → (eqb b 34 || eqb b 39) ≡ true
opens_yes b = ⊎_elim (λ x. rw x) (λ x. rw x)

yes_opens : (b : ℕ) → (eqb b 34 || eqb b 39) ≡ true → (b ≡ 34) ⊎ (b ≡ 39)
yes_opens b e = ⊎_elim (λ x. inl (eqb-true b 34 x)) (λ x. inr (eqb-true b 39 x)) (either_true (eqb b 34) (eqb b 39) e)

opens_no : (b : ℕ) → ((b ≡ 34) ⊎ (b ≡ 39) → ⊥) → (eqb b 34 || eqb b 39) ≡ false
opens_no b h = by (eqb b 34 || eqb b 39) refl where
  by : (q : Bool) → (eqb b 34 || eqb b 39) ≡ q → q ≡ false
  by true e = absurd (h (yes_opens b e))
  by false e = refl

module _ (alone public bad : Bool) (d : List ℕ) (o n : ℕ) where
  closed : (k : ℕ) → n < length d → Opens d n → Inside public d n k
      → Quotes alone public bad d o n (closed_string d (cut_of alone bad d o n k) (get_or d n 0) k)
  unfolding closed_string
  closed k h q i = by (leb (length d) k) (eqb (get_or d k 0) (get_or d n 0)) refl refl where
    by : (x y : Bool) → leb (length d) k ≡ x → eqb (get_or d k 0) (get_or d n 0) ≡ y
        → Quotes alone public bad d o n (cond x (Broken (cut_of alone bad d o n k)) (cond y (Past k) (Broken k)))
    by true y e f = cut h q i (leb-true (length d) k e)
    by false true e f = whole h q i (leb-false (length d) k e) (eqb-true (get_or d k 0) (get_or d n 0) f)
    by false false e f = other h q i (leb-false (length d) k e) (eqb-false (get_or d k 0) (get_or d n 0) f)

  pub quotes : Quotes alone public bad d o n (quoted_string alone public bad d o n)
  unfolding quoted_string
  quotes = by (leb (length d) n) (eqb (get_or d n 0) 34 || eqb (get_or d n 0) 39) refl refl where
    by : (x y : Bool) → leb (length d) n ≡ x → (eqb (get_or d n 0) 34 || eqb (get_or d n 0) 39) ≡ y
        → Quotes alone public bad d o n (cond x (Broken (end_fault bad n o))
        (cond y (closed_string d (cut_of alone bad d o n (run_of (between_quotes public (get_or d n 0)) (n + 1) (drop (n + 1) d)))
        (get_or d n 0)
        (run_of (between_quotes public (get_or d n 0)) (n + 1) (drop (n + 1) d))) (Broken n)))
    by true y e f = gone (leb-true (length d) n e)
    by false true e f =
        closed (run_of (between_quotes public (get_or d n 0)) (n + 1) (drop (n + 1) d)) (leb-false (length d) n e)
        (yes_opens (get_or d n 0) f)
        (run_is (between_quotes public (get_or d n 0)) d (n + 1) (run_of (between_quotes public (get_or d n 0)) (n + 1) (drop (n + 1) d))
        refl)
    by false false e f = bare (leb-false (length d) n e) (λ q. holds_not (opens_yes (get_or d n 0) q) f)

  pub quoted_is : {r : Skip} → Quotes alone public bad d o n r → quoted_string alone public bad d o n ≡ r
  unfolding quoted_string closed_string
  quoted_is (gone h) = rw (le-leb (length d) n h)
  quoted_is (bare h q) = rw (lt-leb (length d) n h, opens_no (get_or d n 0) q)
  quoted_is (cut {k} h q i l) =
      rw (lt-leb (length d) n h, opens_yes (get_or d n 0) q, is_run (between_quotes public (get_or d n 0)) d i, le-leb (length d) k l)
  quoted_is (other {k} h q i l e) =
      rw (
        lt-leb (length d) n h,
        opens_yes (get_or d n 0) q,
        is_run (between_quotes public (get_or d n 0)) d i,
        lt-leb (length d) k l,
        ne_eqb (get_or d k 0) (get_or d n 0) e,
      )
  quoted_is (whole {k} h q i l e) =
      rw (
        lt-leb (length d) n h,
        opens_yes (get_or d n 0) q,
        is_run (between_quotes public (get_or d n 0)) d i,
        lt-leb (length d) k l,
        eq-eqb (get_or d k 0) (get_or d n 0) e,
      )

  -- a string that ends does so behind its first quote, and before the end
  pub quotes_past : {k : ℕ} → Quotes alone public bad d o n (Past k) → (n + 1 ≤ k) × (k < length d)
  quotes_past (whole h q i l e) = let p = i.stretch.place in (omega arith, l)

-- STRING: what is found is found exactly so
pub string_exactly : (alone public bad : Bool) (d : List ℕ) (o n : ℕ) (r : Skip)
    → (quoted_string alone public bad d o n ≡ r) ↔ Quotes alone public bad d o n r
string_exactly alone public bad d o n r = (λ e. rw (← e) (quotes alone public bad d o n), quoted_is alone public bad d o n)
