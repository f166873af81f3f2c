-- What follows from rule/Terminators.antt: the terminator that the rule finds is the first one met, and only that.
use Rattle.std.specs.Prelude.{◌↔◌, ◌≡◌, refl, Bool, true, false, cond, List, [], ◌∷◌, ◌++◌, ℕ, eqb}
use Rattle.std.proofs.Common.{ap, ◌∙◌, append-nil, eqb-true, ne_eqb}
use Rattle.std.proofs.lemmas.Bool.{eqb-false}
use Rattle.cuts.specs.declared.Terminator.{Terminator}
use Rattle.cuts.specs.rule.Cut.{one_byte, two_bytes, begins_with, terminator_at, terminator_of}
use Rattle.rule_laws.specs.rule.Terminators.{Plain, nothing, byte, NotNext, end, other, First, cr_lf, lf_cr, cr, lf, no_end}

-- ---- what the rule finds is the first one
module _ (b : ℕ) (s : List ℕ) (p : b ≡ 13 → ⊥) (q : b ≡ 10 → ⊥) where
  further : {w : Terminator} → First s w → First (b ∷ s) w
  further (cr_lf a r h e) = cr_lf (b ∷ a) r (byte p q h) (ap (λ (x : List ℕ). b ∷ x) e)
  further (lf_cr a r h e) = lf_cr (b ∷ a) r (byte p q h) (ap (λ (x : List ℕ). b ∷ x) e)
  further (cr a r h e n) = cr (b ∷ a) r (byte p q h) (ap (λ (x : List ℕ). b ∷ x) e) n
  further (lf a r h e n) = lf (b ∷ a) r (byte p q h) (ap (λ (x : List ℕ). b ∷ x) e) n
  further (no_end h) = no_end (byte p q h)

at_cr : (s : List ℕ) → First (13 ∷ s) (terminator_at 13 10 s)
unfolding terminator_at begins_with
at_cr [] = cr [] [] nothing refl end
at_cr (c ∷ s) = go (eqb c 10) refl where
  go : (x : Bool) → eqb c 10 ≡ x → First (13 ∷ c ∷ s) (cond x (two_bytes 13 10) (one_byte 13 10))
  go true e = cr_lf [] s nothing (rw (eqb-true c 10 e))
  go false e = cr [] (c ∷ s) nothing refl (other (eqb-false c 10 e))

at_lf : (s : List ℕ) → First (10 ∷ s) (terminator_at 10 13 s)
unfolding terminator_at begins_with
at_lf [] = lf [] [] nothing refl end
at_lf (c ∷ s) = go (eqb c 13) refl where
  go : (x : Bool) → eqb c 13 ≡ x → First (10 ∷ c ∷ s) (cond x (two_bytes 10 13) (one_byte 10 13))
  go true e = lf_cr [] s nothing (rw (eqb-true c 13 e))
  go false e = lf [] (c ∷ s) nothing refl (other (eqb-false c 13 e))

pub terminator_first : (d : List ℕ) → First d (terminator_of d)
unfolding terminator_of
terminator_first [] = no_end nothing
terminator_first (b ∷ s) = go (eqb b 13) (eqb b 10) refl refl (terminator_first s) where
  go : (p q : Bool) → eqb b 13 ≡ p → eqb b 10 ≡ q → First s (terminator_of s)
      → First (b ∷ s) (cond p (terminator_at 13 10 s) (cond q (terminator_at 10 13 s) (terminator_of s)))
  go true q e f r = rw (eqb-true b 13 e) (at_cr s)
  go false true e f r = rw (eqb-true b 10 f) (at_lf s)
  go false false e f r = further b s (eqb-false b 13 e) (eqb-false b 10 f) r

-- ---- and there is no other
passed : {a : List ℕ} → Plain a → (s : List ℕ) → terminator_of (a ++ s) ≡ terminator_of s
unfolding terminator_of
passed nothing s = refl
passed (byte {b = b} p q h) s = rw (ne_eqb b 13 p, ne_eqb b 10 q) (passed h s)

not_next : (b : ℕ) {s : List ℕ} → NotNext b s → begins_with b s ≡ false
unfolding begins_with
not_next b end = refl
not_next b (other {c = c} n) = ne_eqb c b n

first_only : {d : List ℕ} {w : Terminator} → First d w → terminator_of d ≡ w
unfolding terminator_of terminator_at begins_with
first_only (cr_lf a s h e) = rw e (passed h (13 ∷ 10 ∷ s))
first_only (lf_cr a s h e) = rw e (passed h (10 ∷ 13 ∷ s))
first_only (cr a s h e n) = rw e (passed h (13 ∷ s) ∙ rw (not_next 10 n))
first_only (lf a s h e n) = rw e (passed h (10 ∷ s) ∙ rw (not_next 13 n))
first_only {d} (no_end h) = rw (← append-nil d) (passed h [])

-- THE TERMINATOR of a file is w exactly when w is the first one met
pub terminator_exactly : (d : List ℕ) (w : Terminator) → (terminator_of d ≡ w) ↔ First d w
terminator_exactly d w = (λ e. rw e at (terminator_first d), first_only)
