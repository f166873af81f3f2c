-- White space, given bytes and strings at a place, in words; and how far they go.
use mathlib.Core.Path.{◌≡◌, refl, sym, ap, ◌∙◌}
use mathlib.Core.Logic.{⊎_elim}
use mathlib.Core.Bool.{Bool, true, false, cond, ◌||◌}
use mathlib.Core.List.{List, [], ◌∷◌, ◌++◌}
use Prim.Native.Nat.{ℕ, ◌+◌, ◌-◌, ◌≤◌, ◌<◌}
use native.Mathlib.Omega.{arith}
use lib.Dec.{eqb}
use lib.ListN.{length, drop, get_or, length-append, length-drop, drop_of_length-le}
use borrow.Author.Tests.{eq-eqb, ne_eqb, eqb-true}
use Rattle.below.specs.Below.{holds_not, either_true, lt_or_le, and_left, and_right}
use Rattle.ascii.specs.rule.Class.{upper_of}
use Rattle.utf.proofs.Strides.{drop_1}
use Rattle.markup.specs.rule.Bytes.{run_of, bytes_while, rest_of, stands}
use Rattle.markup.specs.rule.Grammar.{Each, no_more, each}
use Rattle.markup.proofs.Runs.{first_at, onward, run_next, run_over, run_end, run_splits, run_long, rest_at}
use Rattle.markup.proofs.Stretches.{Stretch, run_stretch}
use Rattle.markup.proofs.Gaps.{stands_split, stands_long}
use Rattle.prologs.specs.rule.Told.{spelt_of, among_of, alikes, alike_of}

-- ---- runs
rest_stops : (f : ℕ → Bool) (s : List ℕ) {b : ℕ} {t : List ℕ} → rest_of f s ≡ b ∷ t → f b ≡ false
unfolding rest_of
rest_stops f [] e = let z : ◌≡◌ {A = ℕ} 0 1 = cc in absurd (omega arith)
rest_stops f (c ∷ s) {b} {t} e = by (f c) refl (rest_stops f s) e where
  by : (q : Bool) → f c ≡ q → (rest_of f s ≡ b ∷ t → f b ≡ false) → cond q (rest_of f s) (c ∷ s) ≡ b ∷ t → f b ≡ false
  by true g i e = i e
  by false g i e = let k : c ≡ b = cc in rw (← k) g

-- behind a run no byte stands that passes
pub run_stops : (f : ℕ → Bool) (d : List ℕ) (p : ℕ) → run_of f p (drop p d) < length d → f (get_or d (run_of f p (drop p d)) 0) ≡ false
run_stops f d p h = rest_stops f (drop p d) (sym (rest_at f d p) ∙ drop_1 d (run_of f p (drop p d)) h)

pub run_within : (f : ℕ → Bool) (d : List ℕ) (p : ℕ) → p ≤ length d → run_of f p (drop p d) ≤ length d
run_within f d p h =
    let a = run_long f p (drop p d) in
    let b = ap length (run_splits f (drop p d)) in
    let c = length-append (bytes_while f (drop p d)) (rest_of f (drop p d)) in
    let e = length-drop p d in
    omega arith

run_up : (f : ℕ → Bool) (d : List ℕ) (q : ℕ) → (q < length d → f (get_or d q 0) ≡ false) → {u : List ℕ} → Each f u → (p : ℕ) → drop p d ≡ u
    ++ drop q d → q ≡ p + length u → run_of f p (drop p d) ≡ q
run_up f d q h no_more p e k =
    let g : q ≡ p = omega arith in
    ⊎_elim (λ l. run_over f d p (omega arith) (rw (← g) (h l)) ∙ sym g) (λ l. run_end f d p (omega arith) ∙ sym g) (lt_or_le q (length d))
run_up f d q h (each {b} {s} t r) p e k =
    let i = first_at d p b (s ++ drop q d) e in
    run_next f d p i.0 (rw i.1 t)
    ∙ run_up f d q h r (p + 1) (onward d p 1 (b ∷ []) (s ++ drop q d) e refl) (omega arith)

-- from p to q bytes stand that pass, and none at q
pub record Run (f : ℕ → Bool) (d : List ℕ) (p q : ℕ) : Type 0 where
  pub stretch : Stretch f d p q
  pub over : q < length d → f (get_or d q 0) ≡ false

pub run_is : (f : ℕ → Bool) (d : List ℕ) (p q : ℕ) → run_of f p (drop p d) ≡ q → Run f d p q
run_is f d p q e = rw (← e) (record { stretch = run_stretch f d p; over = run_stops f d p })

pub is_run : (f : ℕ → Bool) (d : List ℕ) {p q : ℕ} → Run f d p q → run_of f p (drop p d) ≡ q
is_run f d {p} {q} r = run_up f d q r.over r.stretch.passes p r.stretch.split r.stretch.place

-- ---- given bytes
-- from p to n the bytes w stand
pub record Bytes (w d : List ℕ) (p n : ℕ) : Type 0 where
  pub split : drop p d ≡ w ++ drop n d
  pub place : n ≡ p + length w

-- they don't stand at p
abbrev pub NoBytes : List ℕ → List ℕ → ℕ → Type 0
NoBytes w d p = (n : ℕ) → Bytes w d p n → ⊥

stands_self : (w t : List ℕ) → stands w (w ++ t) ≡ true
unfolding stands
stands_self [] t = refl
stands_self (x ∷ w) t = rw (eq-eqb x x refl, stands_self w t)

pub yes_bytes : (w d : List ℕ) (p : ℕ) → stands w (drop p d) ≡ true → Bytes w d p (p + length w)
yes_bytes w d p e =
    let x = stands_split w (drop p d) e in
    let o = onward d p (length w) w x.0 x.1 refl in
    record { split = x.1 ∙ ap (λ (t : List ℕ). w ++ t) (sym o); place = refl }

pub bytes_yes : (w d : List ℕ) {p n : ℕ} → Bytes w d p n → stands w (drop p d) ≡ true
bytes_yes w d {p} {n} b = rw b.split (stands_self w (drop n d))

pub no_bytes : (w d : List ℕ) (p : ℕ) → stands w (drop p d) ≡ false → NoBytes w d p
no_bytes w d p e n b = holds_not (bytes_yes w d b) e

pub bytes_no : (w d : List ℕ) (p : ℕ) → NoBytes w d p → stands w (drop p d) ≡ false
bytes_no w d p h = by (stands w (drop p d)) refl where
  by : (q : Bool) → stands w (drop p d) ≡ q → q ≡ false
  by true e = absurd (h (p + length w) (yes_bytes w d p e))
  by false e = refl

pub stands_within : (w d : List ℕ) (p : ℕ) → p ≤ length d → stands w (drop p d) ≡ true → p + length w ≤ length d
stands_within w d p h e = omega (arith, stands_long w (drop p d) e, length-drop p d)

-- just these bytes from v to k
pub spelt_bytes : (w d : List ℕ) {v k : ℕ} → v ≤ k → spelt_of d v k w ≡ true → Bytes w d v k
unfolding spelt_of
spelt_bytes w d {v} {k} h e =
    let a = eqb-true (k - v) (length w) (and_left (eqb (k - v) (length w)) (stands w (drop v d)) e) in
    let b = yes_bytes w d v (and_right (eqb (k - v) (length w)) (stands w (drop v d)) e) in
    let c : v + length w ≡ k = omega arith in
    rw (← c) b

pub bytes_spelt : (w d : List ℕ) {v k : ℕ} → Bytes w d v k → spelt_of d v k w ≡ true
unfolding spelt_of
bytes_spelt w d {v} {k} b =
    let a = b.place in
    let c : k - v ≡ length w = omega arith in
    rw (eq-eqb (k - v) (length w) c) (bytes_yes w d b)

-- one of these
pub data Among (d : List ℕ) (v k : ℕ) : List (List ℕ) → Type 0 where
  first : {w : List ℕ} {ws : List (List ℕ)} → Bytes w d v k → Among d v k (w ∷ ws)
  later : {w : List ℕ} {ws : List (List ℕ)} → Among d v k ws → Among d v k (w ∷ ws)

pub yes_among : (d : List ℕ) {v k : ℕ} → v ≤ k → (ws : List (List ℕ)) → among_of d v k ws ≡ true → Among d v k ws
unfolding among_of
yes_among d h [] e = holds_not e refl
yes_among d {v} {k} h (w ∷ ws) e =
    ⊎_elim (λ x. first (spelt_bytes w d h x)) (λ x. later (yes_among d h ws x)) (either_true (spelt_of d v k w) (among_of d v k ws) e)

pub among_yes : (d : List ℕ) {v k : ℕ} {ws : List (List ℕ)} → Among d v k ws → among_of d v k ws ≡ true
unfolding among_of
among_yes d (first {w} {ws} b) = rw (bytes_spelt w d b)
among_yes d {v} {k} (later {w} {ws} a) = by (spelt_of d v k w) (among_yes d a) where
  by : (q : Bool) → among_of d v k ws ≡ true → (q || among_of d v k ws) ≡ true
  by true e = refl
  by false e = e

pub among_no : (d : List ℕ) {v k : ℕ} (ws : List (List ℕ)) → v ≤ k → (Among d v k ws → ⊥) → among_of d v k ws ≡ false
among_no d {v} {k} ws h g = by (among_of d v k ws) refl where
  by : (q : Bool) → among_of d v k ws ≡ q → q ≡ false
  by true e = absurd (g (yes_among d h ws e))
  by false e = refl

-- ---- letter case aside
-- s begins with the letters of w, which is in capitals
pub data Letters : List ℕ → List ℕ → Type 0 where
  none : {s : List ℕ} → Letters [] s
  one : {x b : ℕ} {w s : List ℕ} → upper_of b ≡ x → Letters w s → Letters (x ∷ w) (b ∷ s)

-- just these from v to k
pub record Alike (w d : List ℕ) (v k : ℕ) : Type 0 where
  pub letters : Letters w (drop v d)
  pub place : k ≡ v + length w

yes_letters : (w s : List ℕ) → alikes w s ≡ true → Letters w s
unfolding alikes
yes_letters [] s e = none
yes_letters (x ∷ w) [] e = holds_not e refl
yes_letters (x ∷ w) (b ∷ s) e =
    one (eqb-true (upper_of b) x (and_left (eqb (upper_of b) x) (alikes w s) e))
    (yes_letters w s (and_right (eqb (upper_of b) x) (alikes w s) e))

letters_yes : {w s : List ℕ} → Letters w s → alikes w s ≡ true
unfolding alikes
letters_yes none = refl
letters_yes (one {x} {b} e l) = rw (eq-eqb (upper_of b) x e, letters_yes l)

pub yes_alike : (w d : List ℕ) {v k : ℕ} → v ≤ k → alike_of d v k w ≡ true → Alike w d v k
unfolding alike_of
yes_alike w d {v} {k} h e =
    let a = eqb-true (k - v) (length w) (and_left (eqb (k - v) (length w)) (alikes w (drop v d)) e) in
    record { letters = yes_letters w (drop v d) (and_right (eqb (k - v) (length w)) (alikes w (drop v d)) e); place = omega arith }

pub alike_yes : (w d : List ℕ) {v k : ℕ} → Alike w d v k → alike_of d v k w ≡ true
unfolding alike_of
alike_yes w d {v} {k} a =
    let p = a.place in
    let c : k - v ≡ length w = omega arith in
    rw (eq-eqb (k - v) (length w) c, letters_yes a.letters)

pub alike_no : (w d : List ℕ) {v k : ℕ} → v ≤ k → (Alike w d v k → ⊥) → alike_of d v k w ≡ false
alike_no w d {v} {k} h g = by (alike_of d v k w) refl where
  by : (q : Bool) → alike_of d v k w ≡ q → q ≡ false
  by true e = absurd (g (yes_alike w d h e))
  by false e = refl

-- ---- letters one by one, for the loop
module _ (d : List ℕ) (at : ℕ) (w : List ℕ) (i : ℕ) where
  pub alikes_next : at + i < length d → i < length w → upper_of (get_or d (at + i) 0) ≡ get_or w i 0 → alikes (drop i w) (drop (at + i) d)
      ≡ alikes (drop (i + 1) w) (drop (at + (i + 1)) d)
  unfolding alikes
  alikes_next h k e =
      let n : at + i + 1 ≡ at + (i + 1) = omega arith in
      rw (drop_1 w i k, drop_1 d (at + i) h, eq-eqb _ _ e, n)

  pub alikes_not : at + i < length d → i < length w → (upper_of (get_or d (at + i) 0) ≡ get_or w i 0 → ⊥)
      → alikes (drop i w) (drop (at + i) d)
      ≡ false
  unfolding alikes
  alikes_not h k e = rw (drop_1 w i k, drop_1 d (at + i) h, ne_eqb _ _ e)

  pub alikes_short : length d ≤ at + i → i < length w → alikes (drop i w) (drop (at + i) d) ≡ false
  unfolding alikes
  alikes_short h k = rw (drop_1 w i k, drop_of_length-le d h)

  pub alikes_whole : length w ≤ i → alikes (drop i w) (drop (at + i) d) ≡ true
  unfolding alikes
  alikes_whole h = rw (drop_of_length-le w h)
