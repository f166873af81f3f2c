-- What stands in a text from one place to another, and numbers that stand there as export writes them.
use Rattle.std.specs.Prelude.{◌≡◌, refl, true, false, List, [], ◌∷◌, ◌++◌, ℕ, zero, suc, ◌+◌, ◌-◌, ◌*◌, ◌/◌, ◌%◌, ◌^◌, ◌≤◌, ◌<◌, ℤ, pos}
use Rattle.std.specs.Prelude.{length, take, drop, get_or}
use Rattle.std.proofs.Common.{sym, ap, ◌∙◌, append-nil, append_assoc, div-one, add-one, arith, length-append, length-drop, drop-cons}
use Rattle.std.proofs.Math.Nat.{pow-succ', div-div-eq-div-mul}
use Rattle.std.proofs.Math.Seq.{take-append_seam}
use Rattle.cells.specs.rule.Cell.{signed_of, number_of}
use Rattle.widths.specs.rule.Width.{size_of}
use Rattle.fields.specs.rule.Number.{padded}
use Rattle.digits.specs.Right.{padded_right}
use Rattle.lines.specs.rule.Text.{numeral}
use Rattle.value_fields.specs.rule.Values.{amount_text, export_number}
use Rattle.value_fields.proofs.Values.{amount_none, amount_parts}
use Rattle.value_fields.specs.Numeral.{numeral_one, numeral_more}

-- THESE BYTES STAND from one place to another
pub record Reads (d : List ℕ) (at : ℕ) (s : List ℕ) (to : ℕ) : Type 0 where
  pub on : at ≤ to
  pub inside : to ≤ length d
  pub is : drop at d ≡ s ++ drop to d

next_byte : (s : List ℕ) (i : ℕ) → i < length s → drop i s ≡ get_or s i 0 ∷ drop (i + 1) s
next_byte s i h = drop-cons s i 0 h ∙ rw (add-one i)

pub reads_none : (d : List ℕ) (at : ℕ) → at ≤ length d → Reads d at [] at
reads_none d at h = record { on = omega arith; inside = h; is = refl }

pub reads_byte : (d : List ℕ) (at : ℕ) {b : ℕ} → at < length d → get_or d at 0 ≡ b → Reads d at (b ∷ []) (at + 1)
reads_byte d at {b} h e =
    record { on = omega arith; inside = omega arith; is = next_byte d at h ∙ ap (λ (x : ℕ). x ∷ drop (at + 1) d) e }

pub reads_join : {d : List ℕ} {at p to : ℕ} {s u : List ℕ} → Reads d at s p → Reads d p u to → Reads d at (s ++ u) to
reads_join {d} {at} {p} {to} {s} {u} a b = record {
  on = omega (arith, a.on, b.on);
  inside = b.inside;
  is = a.is ∙ ap (λ (x : List ℕ). s ++ x) b.is ∙ sym (append_assoc s u (drop to d));
}

pub reads_as : {d : List ℕ} {at to : ℕ} {s u : List ℕ} → s ≡ u → Reads d at s to → Reads d at u to
reads_as e a = rw e at a

-- the part of the text between the two places
pub reads_part : {d : List ℕ} {at to : ℕ} {s : List ℕ} → Reads d at s to → s ≡ take (to - at) (drop at d)
reads_part {d} {at} {to} {s} a =
    let k : to - at ≡ length s = omega (
      arith,
      a.on,
      a.inside,
      ap length a.is,
      length-append s (drop to d),
      length-drop at d,
      length-drop to d,
    ) in
    sym (ap (λ (n : ℕ). take n (drop at d)) k ∙ ap (take (length s)) a.is ∙ take-append_seam s (drop to d))

-- ---- digits behind those that say m, from the place `from` on
pub record Digits (d : List ℕ) (from m n at : ℕ) : Type 0 where
  pub few : n < 1000000000000000
  pub least : m ≤ n
  pub reads : Reads d from (padded (at - from) n) at
  pub up : n / 10 ^ (at - from) ≡ m
  pub whole : 1 ≤ m → numeral n ≡ numeral m ++ padded (at - from) n

pub digits_none : (d : List ℕ) (from m : ℕ) → from ≤ length d → m < 1000000000000000 → Digits d from m m from
unfolding padded
digits_none d from m h f =
    let z : from - from ≡ 0 = omega arith in
    record {
      few = f;
      least = omega arith;
      reads = rw z (reads_none d from h);
      up = rw z (div-one m);
      whole = λ l. rw z (sym (append-nil (numeral m)));
    }

-- one digit more of a count
numeral_digit : (n b : ℕ) → 1 ≤ n → n < 100000000000000 → 48 ≤ b → b ≤ 57 → numeral (n * 10 + (b - 48)) ≡ numeral n ++ (b ∷ [])
numeral_digit n b s f l u =
    let m = n * 10 + (b - 48) in
    let q : m / 10 ≡ n = omega arith in
    let d : 48 + m % 10 ≡ b = omega arith in
    numeral_more m (omega arith) (omega arith) ∙ ap (λ (x : ℕ). numeral x ++ ((48 + m % 10) ∷ [])) q
    ∙ ap (λ (x : ℕ). numeral n ++ (x ∷ [])) d

padded_digit : (j n b : ℕ) → 48 ≤ b → b ≤ 57 → padded (suc j) (n * 10 + (b - 48)) ≡ padded j n ++ (b ∷ [])
padded_digit j n b l u =
    let m = n * 10 + (b - 48) in
    let q : m / 10 ≡ n = omega arith in
    let d : 48 + m % 10 ≡ b = omega arith in
    padded_right j m ∙ ap (λ (x : ℕ). padded j x ++ ((48 + m % 10) ∷ [])) q ∙ ap (λ (x : ℕ). padded j n ++ (x ∷ [])) d

pub digits_more : {d : List ℕ} {from m n i : ℕ} → Digits d from m n i → i < length d → 48 ≤ get_or d i 0 → get_or d i 0 ≤ 57
    → n < 100000000000000 → Digits d from m (n * 10 + (get_or d i 0 - 48)) (i + 1)
digits_more {d} {from} {m} {n} {i} g h l u f =
    let b = get_or d i 0 in
    let k = n * 10 + (b - 48) in
    let j = i - from in
    let on = g.reads.on in
    let c : i + 1 - from ≡ suc j = omega arith in
    let q : k / 10 ≡ n = omega arith in
    let p = padded_digit j n b l u in
    record {
      few = omega arith;
      least = omega (arith, g.least);
      reads = rw (c, p) (reads_join g.reads (reads_byte d i h refl));
      up = rw c (ap (λ (x : ℕ). k / x) (pow-succ' 10 j) ∙ sym (div-div-eq-div-mul k 10 (10 ^ j)) ∙ ap (λ (x : ℕ). x / 10 ^ j) q ∙ g.up);
      whole = λ s. rw (c, p) (numeral_digit n b (omega (arith, g.least)) f l u ∙ ap (λ (x : List ℕ). x ++ (b ∷ [])) (g.whole s)
          ∙ append_assoc (numeral m) (padded j n) (b ∷ []));
    }

-- ---- a count, or none
pub record WholeAt (d : List ℕ) (at n to : ℕ) : Type 0 where
  pub few : n < 1000000000000000
  pub inside : to ≤ length d
  pub reads : (to ≡ at → ⊥) → Reads d at (numeral n) to

pub whole_none : (d : List ℕ) (at : ℕ) → at < length d → WholeAt d at 0 at
whole_none d at h = record { few = omega arith; inside = omega arith; reads = λ z. absurd (z refl) }

reads_one : (d : List ℕ) (at : ℕ) → at < length d → 48 ≤ get_or d at 0 → get_or d at 0 ≤ 57
    → Reads d at (numeral (get_or d at 0 - 48)) (at + 1)
reads_one d at h l u =
    let b = get_or d at 0 in
    let e : 48 + (b - 48) ≡ b = omega arith in
    reads_as (sym (numeral_one (b - 48) (omega arith) ∙ ap (λ (x : ℕ). x ∷ []) e)) (reads_byte d at h refl)

pub whole_one : (d : List ℕ) (at : ℕ) → at < length d → 48 ≤ get_or d at 0 → get_or d at 0 ≤ 57 → WholeAt d at (get_or d at 0 - 48) (at + 1)
whole_one d at h l u = record { few = omega arith; inside = omega arith; reads = λ z. reads_one d at h l u }

pub whole_more : (d : List ℕ) (at : ℕ) {n to : ℕ} → at < length d → 48 ≤ get_or d at 0 → get_or d at 0 ≤ 57 → (get_or d at 0 - 48 ≡ 0 → ⊥)
    → Digits d (at + 1) (get_or d at 0 - 48) n to → WholeAt d at n to
whole_more d at h l u s g = record {
  few = g.few;
  inside = g.reads.inside;
  reads = λ z. reads_as (sym (g.whole (omega (arith, s)))) (reads_join (reads_one d at h l u) g.reads);
}

-- ---- a size with k decimals, or none
pub record SizeAt (k : ℕ) (d : List ℕ) (at n to : ℕ) : Type 0 where
  pub few : n < 1000000000000000
  pub reads : (to ≡ at → ⊥) → Reads d at (amount_text k n) to

pub size_none : (k : ℕ) (d : List ℕ) (at : ℕ) → SizeAt k d at 0 at
size_none k d at = record { few = omega arith; reads = λ z. absurd (z refl) }

pub size_whole : {k : ℕ} {d : List ℕ} {at n to : ℕ} → k ≡ 0 → WholeAt d at n to → SizeAt k d at n to
size_whole {k} {d} {at} {n} e w = record { few = w.few; reads = λ z. reads_as (amount_none k n e) (w.reads z) }

pub size_points : {k : ℕ} {d : List ℕ} {at m p n to : ℕ} → (k ≡ 0 → ⊥) → WholeAt d at m p → (p ≡ at → ⊥) → p < length d → get_or d p 0 ≡ 46
    → Digits d (p + 1) m n to → to - (p + 1) ≡ k → SizeAt k d at n to
size_points {k} {d} {at} {m} {p} {n} {to} some w z h e g l =
    let u : n / 10 ^ k ≡ m = rw l at g.up in
    record {
      few = g.few;
      reads = λ _. reads_as (ap (λ (x : ℕ). numeral x ++ ((46 ∷ []) ++ padded k n)) (sym u) ∙ amount_parts k n some)
          (reads_join (w.reads z) (reads_join (reads_byte d p h e) (rw l at g.reads)));
    }

-- ---- a number with k decimals, or none
pub record NumberAt (k : ℕ) (d : List ℕ) (at : ℕ) (z : ℤ) (to : ℕ) : Type 0 where
  pub few : size_of z ≤ 999999999999999
  pub reads : (to ≡ at → ⊥) → Reads d at (export_number k z) to

pub number_none : (k : ℕ) (d : List ℕ) (at : ℕ) → NumberAt k d at (pos 0) at
unfolding signed_of
number_none k d at = record { few = omega arith; reads = λ z. absurd (z refl) }

pub number_up : {k : ℕ} {d : List ℕ} {at n to : ℕ} → SizeAt k d at n to → NumberAt k d at (number_of false n) to
unfolding export_number signed_of number_of
number_up s = record { few = omega (arith, s.few); reads = s.reads }

text_down : (k n : ℕ) → (n ≡ 0 → ⊥) → export_number k (number_of true n) ≡ 45 ∷ amount_text k n
unfolding export_number signed_of number_of
text_down k zero h = absurd (h refl)
text_down k (suc n) h = refl

size_down : (n : ℕ) → size_of (number_of true n) ≡ n
unfolding signed_of number_of
size_down zero = refl
size_down (suc n) = refl

pub number_down : {k : ℕ} (d : List ℕ) (at : ℕ) {n to : ℕ} → at < length d → get_or d at 0 ≡ 45 → SizeAt k d (at + 1) n to → (n ≡ 0 → ⊥)
    → (to ≡ at + 1 → ⊥) → NumberAt k d at (number_of true n) to
number_down {k} d at {n} h e s z l = record {
  few = omega (arith, size_down n, s.few);
  reads = λ _. reads_as (sym (text_down k n z)) (reads_join (reads_byte d at h e) (s.reads l));
}

-- ---- a code of one to four digits, or none; the byte behind it is there
pub record CodeAt (d : List ℕ) (at n to : ℕ) : Type 0 where
  pub few : n ≤ 9999
  pub reads : (n ≡ 0 → ⊥) → Reads d at (numeral n) to
  pub behind : (n ≡ 0 → ⊥) → to < length d

pub code_none : (d : List ℕ) (at : ℕ) → CodeAt d at 0 at
code_none d at = record { few = omega arith; reads = λ z. absurd (z refl); behind = λ z. absurd (z refl) }

pub code_some : {d : List ℕ} {at n to : ℕ} → n ≤ 9999 → to < length d → Reads d at (numeral n) to → CodeAt d at n to
code_some f h r = record { few = f; reads = λ z. r; behind = λ z. h }

pub code_first : (d : List ℕ) (at : ℕ) → at < length d → 48 ≤ get_or d at 0 → get_or d at 0 ≤ 57
    → Reads d at (numeral (get_or d at 0 - 48)) (at + 1)
code_first = reads_one

pub code_digit : {d : List ℕ} {at n p : ℕ} → Reads d at (numeral n) p → 1 ≤ n → n ≤ 999 → p < length d → 48 ≤ get_or d p 0 → get_or d p 0
    ≤ 57
    → Reads d at (numeral (n * 10 + (get_or d p 0 - 48))) (p + 1)
code_digit {d} {at} {n} {p} r s f h l u =
    reads_as (sym (numeral_digit n (get_or d p 0) s (omega arith) l u)) (reads_join r (reads_byte d p h refl))
