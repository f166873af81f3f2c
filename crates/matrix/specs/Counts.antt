-- Sixteen columns of zeros and ones counted side by side: value by value in a record, and record by record.
-- Assumes nothing.
use Rattle.std.specs.Prelude.{◌≡◌, refl, Bool, true, false, List, ◌⊎◌, ℕ, ◌+◌, ◌-◌, ◌*◌, ◌≤◌, ◌<◌, length, get_or, set}
use Rattle.std.specs.Prelude.{replicate}
use Rattle.std.proofs.Common.{ap, ◌∙◌, inl, inr, ⊎_elim, arith, length-set, get_or-set_same, get_or-set_other}
use Rattle.std.proofs.lemmas.List.{length-replicate, get_or-replicate}
use Rattle.below.specs.Below.{holds_not, lt_or_le}
use Rattle.little.specs.Bytes.{number_at}
use Rattle.matrix.specs.Column.{there_here, place_next, value_next}
use Rattle.matrix.specs.Noughts.{all_are, are_at}
use Rattle.matrix.specs.Ones.{Counted, AllThere, AllFew, AllCounted, AllTold, Held, held_none, held_on, held_off, held_done}
use Rattle.matrix.specs.Ones.{zeros_counted}

-- ---- the values before j are counted, the others not yet
pub record Partly (s : List ℕ) (value : ℕ) (before after : List ℕ) (j : ℕ) : Type 0 where
  pub long : length after ≡ length before
  pub done : (i : ℕ) → i < j → Counted (number_at 8 (value + 8 * i) s) (get_or before i 0) (get_or after i 0)
  pub rest : (i : ℕ) → j ≤ i → get_or after i 0 ≡ get_or before i 0

last_or : {i j : ℕ} → i < j + 1 → (i < j) ⊎ (i ≡ j)
last_or {i} {j} h = ⊎_elim (λ l. inl l) (λ l. inr (omega arith)) (lt_or_le i j)

module _ {s : List ℕ} {value : ℕ} {before after : List ℕ} {j : ℕ} (p : Partly s value before after j) where
  pub partly_zero : number_at 8 (value + 8 * j) s ≡ 0 → Partly s value before after (j + 1)
  partly_zero e = record {
    long = p.long;
    done = λ i l. ⊎_elim (λ k. p.done i k) (λ q. inl (rw q e, rw q (p.rest j (omega arith)))) (last_or l);
    rest = λ i l. p.rest i (omega arith);
  }

  pub partly_unit : j < length after → number_at 8 (value + 8 * j) s ≡ 4607182418800017408
      → Partly s value before (set after j (get_or after j 0 + 1)) (j + 1)
  partly_unit h e = record {
    long = length-set after j (get_or after j 0 + 1) ∙ p.long;
    done = λ i l. ⊎_elim
        (λ k. rw (get_or-set_other after j i (get_or after j 0 + 1) 0 (λ q. absurd (omega arith))) (p.done i k))
        (λ q. inr (rw q e, rw q (get_or-set_same after j (get_or after j 0 + 1) 0 h ∙ ap (λ (n : ℕ). n + 1) (p.rest j (omega arith)))))
        (last_or l);
    rest = λ i l. get_or-set_other after j i (get_or after j 0 + 1) 0 (λ q. absurd (omega arith)) ∙ p.rest i (omega arith);
  }

  pub partly_all : 16 ≤ j → AllCounted s value before after true
  partly_all h = record { long = p.long; at = λ e i l. p.done i (omega arith) }

pub all_zeros_lem : (s : List ℕ) (value : ℕ) (ones : List ℕ) → all_are s value 128 0 ≡ true → AllCounted s value ones ones true
all_zeros_lem s value ones e = record { long = refl; at = λ q j h. zeros_counted s value j (get_or ones j 0) h e }

-- ---- record by record
pub record AllHeld (s : List ℕ) (step flags values records flag value left n : ℕ) (ones : List ℕ) : Type 0 where
  pub long : length ones ≡ 16
  pub at : (j : ℕ) → j < 16 → Held s step (flags + j) (values + 8 * j) records (flag + j) (value + 8 * j) left n (get_or ones j 0)

pub all_none : (s : List ℕ) (step flags values records : ℕ) → AllThere s step flags values records
    → AllHeld s step flags values records flags values records 0 (replicate 16 0)
all_none s step flags values records a =
    record {
      long = length-replicate {A = ℕ} 16 0;
      at = λ j h. rw (get_or-replicate {A = ℕ} 16 j 0 0 h)
          (held_none s step (flags + j) (values + 8 * j) records (a.at j h));
    }

module _ {s : List ℕ} {step flags values records flag value left n : ℕ} {ones : List ℕ} (some : 0 < left)
    (a : AllHeld s step flags values records flag value left n ones) where
  pub all_here : (flag + 16 ≤ length s) × (value + 128 ≤ length s)
  all_here =
      let h = there_here s step (flag + 15) (value + 8 * 15) left some (a.at 15 (omega arith)).there in
      (omega (arith, h.0), omega (arith, h.1))

  pub all_few : n + left ≤ records → records < 18446744073709551616 → AllFew ones
  all_few b l = record { long = a.long; at = λ j h. omega (arith, (a.at j h).few) }

  pub all_on : {after : List ℕ} {r : Bool} → all_are s flag 16 1 ≡ true → AllCounted s value ones after r → r ≡ true
      → AllHeld s step flags values records (flag + step) (value + 8 * step) (left - 1) (n + 1) after
  all_on e k q = record {
    long = k.long ∙ a.long;
    at = λ j h.
        let f : flag + step + j ≡ flag + j + step = omega arith in
        let v : value + 8 * step + 8 * j ≡ value + 8 * j + 8 * step = omega arith in
        rw (f, v) (held_on some (a.at j h) (are_at s flag 16 1 e j h) (k.at q j h));
  }

  pub all_off : all_are s flag 16 0 ≡ true → AllHeld s step flags values records (flag + step) (value + 8 * step) (left - 1) n ones
  all_off e = record {
    long = a.long;
    at = λ j h.
        let f : flag + step + j ≡ flag + j + step = omega arith in
        let v : value + 8 * step + 8 * j ≡ value + 8 * j + 8 * step = omega arith in
        rw (f, v) (held_off some (a.at j h) (λ q. absurd (omega (arith, are_at s flag 16 0 e j h))));
  }

pub all_told : {s : List ℕ} {step flags values records flag value left n : ℕ} {ones : List ℕ} → left ≤ 0
    → AllHeld s step flags values records flag value left n ones → AllTold s step flags values records true n ones
all_told z a = record { at = λ e j h. held_done z (a.at j h) }

pub none_told : (s : List ℕ) (step flags values records n : ℕ) (ones : List ℕ) → AllTold s step flags values records false n ones
none_told s step flags values records n ones = record { at = λ e. holds_not e refl }

-- ---- from record k on
abbrev pub HeldFrom : List ℕ → ℕ → ℕ → ℕ → ℕ → ℕ → ℕ → List ℕ → Type 0
HeldFrom s step flags values records k n ones =
    AllHeld s step flags values records (flags + step * k) (values + 8 * (step * k)) (records - k) n ones

pub from_start : (s : List ℕ) (step flags values records : ℕ) → AllThere s step flags values records
    → HeldFrom s step flags values records 0 0 (replicate 16 0)
from_start s step flags values records a =
    let f : flags + step * 0 ≡ flags = omega arith in
    let v : values + 8 * (step * 0) ≡ values = omega arith in
    let r : records - 0 ≡ records = omega arith in
    rw (f, v, r) (all_none s step flags values records a)

module _ {s : List ℕ} {step flags values records k n : ℕ} {ones : List ℕ} (some : k < records)
    (a : HeldFrom s step flags values records k n ones) where
  left : 0 < records - k
  left = omega arith

  left_next : records - (k + 1) ≡ records - k - 1
  left_next = omega arith

  pub from_here : (flags + step * k + 16 ≤ length s) × (values + 8 * (step * k) + 128 ≤ length s)
  from_here = all_here left a

  pub from_few : n ≤ k → records < 18446744073709551616 → AllFew ones
  from_few b l = all_few left a (omega arith) l

  pub from_on : {after : List ℕ} {r : Bool} → all_are s (flags + step * k) 16 1 ≡ true
      → AllCounted s (values + 8 * (step * k)) ones after r → r ≡ true → HeldFrom s step flags values records (k + 1) (n + 1) after
  from_on e c q = rw (place_next flags step k, value_next values step k, left_next) (all_on left a e c q)

  pub from_off : all_are s (flags + step * k) 16 0 ≡ true → HeldFrom s step flags values records (k + 1) n ones
  from_off e = rw (place_next flags step k, value_next values step k, left_next) (all_off left a e)
