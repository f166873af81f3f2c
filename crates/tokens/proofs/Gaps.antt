-- A gap is its first space or comment, and then the gap from its end on.
use Rattle.std.specs.Prelude.{Ok}
use mathlib.Core.Path.{◌≡◌, refl, ap, ◌∙◌, sym}
use mathlib.Core.Bool.{Bool, true, false, cond, ◌&&◌, ◌||◌}
use mathlib.Core.List.{List}
use Prim.Native.Nat.{ℕ, ◌+◌, ◌-◌, ◌≤◌, ◌<◌}
use native.Mathlib.Omega.{arith}
use lib.Dec.{eqb, ltb}
use lib.ListN.{length, get_or}
use borrow.Author.Tests.{lt-ltb, le-ltb, ltb-true, ltb-false, ne_eqb, eqb-true}
use Rattle.ascii.specs.rule.Class.{class_of, within}
use Rattle.scan.specs.rule.Text.{Text, text}
use Rattle.scan.specs.rule.Number.{is_space}
use Rattle.scan.specs.rule.Loop.{Next, Again, Done}
use Rattle.scan.proofs.Texts.{From, at_stop, at_sign, from_text, text_dropped, text_kept, kept_byte}
use Rattle.scan.proofs.Loops.{loop_again, loop_done}
use Rattle.marks.specs.declared.Skip.{Skip}
use Rattle.marks.proofs.Levels.{Ahead, by_past, by_none, by_bad, comment_ahead}
use Rattle.tokens.specs.declared.Pace.TheVariants.{On, Over}
use Rattle.tokens.specs.rule.Gap.{gap_skip, gap_step, gap_at, OrFault}
use Rattle.tokens.specs.Gap.{pace_of}

-- what the code's step says of the step
pub pace_on : {s : Next ℕ (OrFault ℕ)} {n : ℕ} → pace_of s ≡ On n → s ≡ Again n
unfolding pace_of
pace_on {s = Again m} e = cc
pace_on {s = Done r} e = let z : ◌≡◌ {A = ℕ} 0 1 = cc in absurd (omega arith)

pub pace_over : {s : Next ℕ (OrFault ℕ)} {r : OrFault ℕ} → pace_of s ≡ Over r → s ≡ Done r
unfolding pace_of
pace_over {s = Again m} e = let z : ◌≡◌ {A = ℕ} 0 1 = cc in absurd (omega arith)
pace_over {s = Done r} e = cc

skip_less : (p : ℕ) {n : ℕ} {r : Skip} → Ahead (p + 1) r → gap_skip p r ≡ Again n → p + 1 < n
skip_less p {n = n} (by_past {n = m} h) e = let q : m ≡ n = cc in omega arith
skip_less p by_none e = let z : ◌≡◌ {A = ℕ} 0 1 = cc in omega arith
skip_less p by_bad e = let z : ◌≡◌ {A = ℕ} 0 1 = cc in omega arith

step_less : {at p n : ℕ} {r : Skip} (q q' : Bool) → at ≤ p → Ahead (p + 1) r → cond q (Again (p + 1)) (cond q' (gap_skip p r) (Done (Ok p)))
    ≡ Again n → at < n
step_less {p = p} {n = n} true q' h a e = let j : p + 1 ≡ n = cc in omega arith
step_less {p = p} false true h a e = omega (arith, skip_less p a e)
step_less false false h a e = let z : ◌≡◌ {A = ℕ} 0 1 = cc in omega arith

pub gap_less : (d : List ℕ) {at n : ℕ} {t : Text} → From d at t → gap_step t ≡ Again n → length d - n < length d - at
unfolding gap_step
gap_less d at_stop e = let z : ◌≡◌ {A = ℕ} 0 1 = cc in omega arith
gap_less d {at} {n} (at_sign {p = p} {b = b} h w _ r) e =
    let l = step_less (is_space b) (eqb b 60) h (comment_ahead d r 1) e in
    omega arith

module _ (d : List ℕ) (n : ℕ) where
  pub gap_again : {m : ℕ} → gap_step (text d n) ≡ Again m → gap_at d n ≡ gap_at d m
  unfolding gap_at
  gap_again e = loop_again (λ n. gap_step (text d n)) (Ok 0) (λ n. length d - n) (λ s s'. gap_less d (from_text d s)) e

  pub gap_done : {g : OrFault ℕ} → gap_step (text d n) ≡ Done g → gap_at d n ≡ g
  unfolding gap_at
  gap_done e = loop_done (λ n. gap_step (text d n)) (Ok 0) (λ n. length d - n) (λ s s'. gap_less d (from_text d s)) e

-- ---- a byte of 32 or below at n is passed: the gap from the next place on ends as it does
gap_same : (d : List ℕ) (n m : ℕ) → text d n ≡ text d m → gap_at d n ≡ gap_at d m
gap_same d n m e = by (gap_step (text d n)) refl where
  by : (s : Next ℕ (OrFault ℕ)) → gap_step (text d n) ≡ s → gap_at d n ≡ gap_at d m
  by (Again k) h = gap_again d n h ∙ sym (gap_again d m (ap gap_step (sym e) ∙ h))
  by (Done g) h = gap_done d n h ∙ sym (gap_done d m (ap gap_step (sym e) ∙ h))

pub low_dropped : (b : ℕ) → b < 32 → class_of b ≡ 0
unfolding class_of
low_dropped b h = rw (lt-ltb b 32 h)

space_on : (d : List ℕ) (n : ℕ) → n < length d → get_or d n 0 ≡ 32 → gap_step (text d n) ≡ Again (n + 1)
unfolding gap_step is_space class_of
space_on d n h e = rw (text_kept d n h (kept_byte (get_or d n 0) (omega arith)), e)

pub gap_blank : (d : List ℕ) (n : ℕ) → n < length d → get_or d n 0 ≤ 32 → gap_at d n ≡ gap_at d (n + 1)
gap_blank d n h l = by (ltb (get_or d n 0) 32) refl where
  by : (q : Bool) → ltb (get_or d n 0) 32 ≡ q → gap_at d n ≡ gap_at d (n + 1)
  by true q = gap_same d n (n + 1) (text_dropped d n h (low_dropped (get_or d n 0) (ltb-true (get_or d n 0) 32 q)))
  by false q = let g = ltb-false (get_or d n 0) 32 q in gap_again d n (space_on d n h (omega arith))

-- two of them, and what follows
pub gap_two : (d : List ℕ) (n m : ℕ) → n + 1 < length d → get_or d n 0 ≤ 32 → get_or d (n + 1) 0 ≤ 32 → gap_at d (n + 2) ≡ gap_at d m
    → gap_at d n
    ≡ gap_at d m
gap_two d n m h a b e =
    let q : n + 1 + 1 ≡ n + 2 = omega arith in
    gap_blank d n (omega arith) a ∙ gap_blank d (n + 1) h b ∙ ap (gap_at d) q ∙ e

-- ---- a byte above 32 that opens no comment ends a gap
above_space : (b : ℕ) → 32 < b → is_space b ≡ false
unfolding is_space class_of
above_space b h = rw (le-ltb b 32 (omega arith), ne_eqb b 32 (λ e. omega arith))
    (by (within 48 57 b) (within 65 90 b || within 97 122 b) (eqb b 34) (eqb b 123 || eqb b 125) (eqb b 60 || eqb b 62)) where
      by : (q r s t u : Bool) → eqb (cond q 2 (cond r 3 (cond s 4 (cond t 5 (cond u 6 7))))) 1 ≡ false
      by true r s t u = refl
      by false true s t u = refl
      by false false true t u = refl
      by false false false true u = refl
      by false false false false true = refl
      by false false false false false = refl

pub gap_token : (d : List ℕ) (n : ℕ) → n < length d → 32 < get_or d n 0 → (get_or d n 0 ≡ 60 → ⊥) → gap_at d n ≡ Ok n
unfolding gap_step
gap_token d n h l o =
    gap_done d n (rw (text_kept d n h (kept_byte (get_or d n 0) (omega arith)), above_space (get_or d n 0) l, ne_eqb (get_or d n 0) 60 o))

-- four spaces
all_four : (a b c d : Bool) → (a && (b && (c && d))) ≡ true → (a ≡ true) × (b ≡ true) × (c ≡ true) × (d ≡ true)
all_four false b c d e = let z : ◌≡◌ {A = ℕ} 0 1 = cc in absurd (omega arith)
all_four true false c d e = let z : ◌≡◌ {A = ℕ} 0 1 = cc in absurd (omega arith)
all_four true true false d e = let z : ◌≡◌ {A = ℕ} 0 1 = cc in absurd (omega arith)
all_four true true true false e = let z : ◌≡◌ {A = ℕ} 0 1 = cc in absurd (omega arith)
all_four true true true true e = (refl, refl, refl, refl)

pub gap_four : (d : List ℕ) (n : ℕ) → n + 4 ≤ length d
    → (eqb (get_or d n 0) 32 && (eqb (get_or d (n + 1) 0) 32 && (eqb (get_or d (n + 2) 0) 32 && eqb (get_or d (n + 3) 0) 32))) ≡ true
    → gap_at d n
    ≡ gap_at d (n + 4)
gap_four d n h e =
    let all = all_four (eqb (get_or d n 0) 32) (eqb (get_or d (n + 1) 0) 32) (eqb (get_or d (n + 2) 0) 32) (eqb (get_or d (n + 3) 0) 32)
    e in
    let a : get_or d n 0 ≡ 32 = eqb-true _ _ all.0 in
    let b : get_or d (n + 1) 0 ≡ 32 = eqb-true _ _ all.1 in
    let f : get_or d (n + 2) 0 ≡ 32 = eqb-true _ _ all.2 in
    let g : get_or d (n + 3) 0 ≡ 32 = eqb-true _ _ all.3 in
    let p : n + 1 + 1 ≡ n + 2 = omega arith in
    let q : n + 2 + 1 ≡ n + 3 = omega arith in
    let r : n + 3 + 1 ≡ n + 4 = omega arith in
    gap_blank d n (omega arith) (omega arith)
    ∙ gap_blank d (n + 1) (omega arith) (omega arith)
    ∙ ap (gap_at d) p
    ∙ gap_blank d (n + 2) (omega arith) (omega arith)
    ∙ ap (gap_at d) q
    ∙ gap_blank d (n + 3) (omega arith) (omega arith)
    ∙ ap (gap_at d) r
