-- Sets in rising order: of the n numbers from c on, some, none twice.
use Rattle.std.specs.Prelude.{◌≡◌, Bool, true, false, cond, ◌||◌, List, [], ◌∷◌, ℤ, pos, negsuc}
use Rattle.std.proofs.Math.Path.{refl}
use Rattle.std.proofs.Common.{ap, ◌∙◌, ⊎_elim, eq-or-lt_of_le, arith, eq-eqb, ne_eqb, ltb-true, lt-ltb, leb-true}
use Prim.Native.Nat.{ℕ, zero, suc, ◌+◌, ◌-◌, ◌≤◌, ◌<◌}
use Rattle.std.specs.Int.Signed.{lt_z, le_z}
use Rattle.below.specs.Below.{holds_not, and_left, and_right, and_true}
use Rattle.cells.specs.rule.Cell.{eq_z}
use Rattle.cells.specs.Cell.{same_true}
use Rattle.fields.specs.rule.Field.{passing, is_member, rising_from, all_legal, set_fits}

pub data Rising : ℕ → ℕ → List ℤ → Type 0 where
  none : {c : ℕ} → Rising c zero []
  skip : {c n : ℕ} {ms : List ℤ} → Rising (suc c) n ms → Rising c (suc n) ms
  keep : {c n : ℕ} {ms : List ℤ} → Rising (suc c) n ms → Rising c (suc n) (pos c ∷ ms)

pub rising_empty : (c n : ℕ) → Rising c n []
rising_empty c zero = none
rising_empty c (suc n) = skip (rising_empty (suc c) n)

-- ---- the first member and the others
module _ (a m : ℤ) (ms : List ℤ) where
  pub rises_here : rising_from a (m ∷ ms) ≡ true → lt_z a m ≡ true
  unfolding rising_from
  rises_here e = and_left (lt_z a m) (rising_from m ms) e

  pub rises_next : rising_from a (m ∷ ms) ≡ true → rising_from m ms ≡ true
  unfolding rising_from
  rises_next e = and_right (lt_z a m) (rising_from m ms) e

  pub rises_both : lt_z a m ≡ true → rising_from m ms ≡ true → rising_from a (m ∷ ms) ≡ true
  unfolding rising_from
  rises_both e f = and_true (lt_z a m) (rising_from m ms) e f

module _ (ok : ℤ → Bool) (m : ℤ) (ms : List ℤ) where
  pub legal_here : all_legal ok (m ∷ ms) ≡ true → ok m ≡ true
  unfolding all_legal
  legal_here e = and_left (ok m) (all_legal ok ms) e

  pub legal_next : all_legal ok (m ∷ ms) ≡ true → all_legal ok ms ≡ true
  unfolding all_legal
  legal_next e = and_right (ok m) (all_legal ok ms) e

  fits_rise : set_fits ok (m ∷ ms) ≡ true → rising_from m ms ≡ true
  unfolding set_fits
  fits_rise e = and_left (rising_from m ms) (all_legal ok (m ∷ ms)) e

  fits_legal : set_fits ok (m ∷ ms) ≡ true → all_legal ok (m ∷ ms) ≡ true
  unfolding set_fits
  fits_legal e = and_right (rising_from m ms) (all_legal ok (m ∷ ms)) e

-- ---- "strictly rising with legal members", where every legal number is one of 1 to top, is to be some of these
module _ (ok : ℤ → Bool) (top : ℕ) (most : (z : ℤ) → ok z ≡ true → le_z z (pos top) ≡ true) where
  rise : (n a : ℕ) (ms : List ℤ) → a + n ≡ top → rising_from (pos a) ms ≡ true → all_legal ok ms ≡ true → Rising (suc a) n ms
  rise n a [] q e l = rising_empty (suc a) n
  rise n a (negsuc b ∷ ms) q e l = holds_not (rises_here (pos a) (negsuc b) ms e) refl
  rise zero a (pos b ∷ ms) q e l =
      let x : a < b = ltb-true a b (rises_here (pos a) (pos b) ms e) in
      let y : b ≤ top = leb-true b top (most (pos b) (legal_here ok (pos b) ms l)) in
      absurd (omega arith)
  rise (suc n) a (pos b ∷ ms) q e l =
      let later : rising_from (pos b) ms ≡ true = rises_next (pos a) (pos b) ms e in
      ⊎_elim
      (λ s. rw (← s) (keep (rise n (suc a) ms (omega arith) (rw s later) (legal_next ok (pos b) ms l))))
      (λ s. skip (rise n (suc a) (pos b ∷ ms) (omega arith) (rises_both (pos (suc a)) (pos b) ms (lt-ltb (suc a) b s) later) l))
      (eq-or-lt_of_le (ltb-true a b (rises_here (pos a) (pos b) ms e)))

  pub rising_of : (least : (z : ℤ) → ok z ≡ true → le_z (pos 1) z ≡ true) (ms : List ℤ) → set_fits ok ms ≡ true → Rising 1 top ms
  rising_of least [] e = rising_empty 1 top
  rising_of least (negsuc b ∷ ms) e = holds_not (least (negsuc b) (legal_here ok (negsuc b) ms (fits_legal ok (negsuc b) ms e))) refl
  rising_of least (pos b ∷ ms) e =
      let l : all_legal ok (pos b ∷ ms) ≡ true = fits_legal ok (pos b) ms e in
      let x : 1 ≤ b = leb-true 1 b (least (pos b) (legal_here ok (pos b) ms l)) in
      rise top 0 (pos b ∷ ms) (omega arith) (rises_both (pos 0) (pos b) ms (lt-ltb 0 b x) (fits_rise ok (pos b) ms e)) l

pub legal_of : (ok : ℤ → Bool) (ms : List ℤ) → set_fits ok ms ≡ true → all_legal ok ms ≡ true
unfolding all_legal
legal_of ok [] e = refl
legal_of ok (m ∷ ms) e = fits_legal ok m ms e

-- ---- and some of these, all legal, is a set that may be written
rising_above : (a : ℕ) {c n : ℕ} {ms : List ℤ} → Rising c n ms → a < c → rising_from (pos a) ms ≡ true
unfolding rising_from
rising_above a none h = refl
rising_above a (skip s) h = rising_above a s (omega arith)
rising_above a (keep {c = c} s) h = rw (lt-ltb a c h) (rising_above c s (omega arith))

pub fits_of : (ok : ℤ → Bool) {c n : ℕ} {ms : List ℤ} → Rising c n ms → all_legal ok ms ≡ true → set_fits ok ms ≡ true
unfolding set_fits
fits_of ok none l = refl
fits_of ok (skip s) l = fits_of ok s l
fits_of ok (keep {c = c} s) l = rw (rising_above c s (omega arith), l)

-- ---- the numbers from c on that pass
module _ (f g : ℤ → Bool) where
  pub passing_same : (c n : ℕ) → ((x : ℕ) → c ≤ x → f (pos x) ≡ g (pos x)) → passing f c n ≡ passing g c n
  unfolding passing
  passing_same c zero e = refl
  passing_same c (suc n) e = rw (e c (omega arith), passing_same (suc c) n (λ x h. e x (omega arith)))

pub passing_rises : (f : ℤ → Bool) (c n : ℕ) → Rising c n (passing f c n)
unfolding passing
passing_rises f c zero = none
passing_rises f c (suc n) = go (f (pos c)) (passing_rises f (suc c) n)
  where
    go : (b : Bool) → Rising (suc c) n (passing f (suc c) n) → Rising c (suc n) (cond b (pos c ∷ passing f (suc c) n) (passing f (suc c) n))
    go true s = keep s
    go false s = skip s

pub passing_legal : (f ok : ℤ → Bool) (c n : ℕ) → ((x : ℕ) → c ≤ x → f (pos x) ≡ true → ok (pos x) ≡ true)
    → all_legal ok (passing f c n) ≡ true
unfolding passing all_legal
passing_legal f ok c zero e = refl
passing_legal f ok c (suc n) e = go (f (pos c)) refl (passing_legal f ok (suc c) n (λ x h. e x (omega arith)))
  where
    go : (b : Bool) → f (pos c) ≡ b → all_legal ok (passing f (suc c) n) ≡ true
        → all_legal ok (cond b (pos c ∷ passing f (suc c) n) (passing f (suc c) n)) ≡ true
    go true q l = rw (e c (omega arith) q) l
    go false q l = l

-- a set is the numbers that are its members
pub not_below : (x : ℕ) {c n : ℕ} {ms : List ℤ} → Rising c n ms → x < c → is_member ms (pos x) ≡ false
unfolding is_member eq_z
not_below x none h = refl
not_below x (skip s) h = not_below x s (omega arith)
not_below x (keep {c = c} s) h = rw (ne_eqb c x (λ e. omega arith)) (not_below x s (omega arith))

pub members_back : {c n : ℕ} {ms : List ℤ} → Rising c n ms → passing (is_member ms) c n ≡ ms
unfolding passing is_member eq_z
members_back none = refl
members_back (skip {c = c} s) = rw (not_below c s (omega arith)) (members_back s)
members_back (keep {c = c} {n = n} {ms = ms} s) =
    rw (eq-eqb c c refl)
    (ap (λ (l : List ℤ). pos c ∷ l)
    (passing_same (is_member (pos c ∷ ms)) (is_member ms) (suc c) n (λ x q. rw (ne_eqb c x (λ e. omega arith))) ∙ members_back s))

-- what is not legal is no member
pub not_member : (ok : ℤ → Bool) (ms : List ℤ) (z : ℤ) → all_legal ok ms ≡ true → ok z ≡ false → is_member ms z ≡ false
unfolding is_member
not_member ok [] z l e = refl
not_member ok (m ∷ ms) z l e = go (eq_z m z) refl (not_member ok ms z (legal_next ok m ms l) e)
  where
    go : (b : Bool) → eq_z m z ≡ b → is_member ms z ≡ false → (b || is_member ms z) ≡ false
    go true q r = let s : m ≡ z = same_true m z q in holds_not (rw s at (legal_here ok m ms l)) e
    go false q r = r
