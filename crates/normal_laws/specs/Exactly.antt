-- THE REFUSALS OF THE CALL EXACTLY WHEN, over its promise: 20; 90 where two rows share a value place; else as the record is judged.
use Rattle.std.specs.Prelude.{◌≡◌, refl, Bool, false, List, [], ◌∷◌, ℕ, zero, suc, ◌<◌, ℤ}
use Rattle.std.proofs.Math.Path.{sym, subst}
use Rattle.std.proofs.Common.{◌∙◌, arith}
use Rattle.below.specs.rule.Below.{all_below}
use Rattle.below.specs.Below.{holds_not}
use Rattle.places.specs.rule.Places.{Out}
use Rattle.sound.specs.rule.Sound.{well_formed}
use Rattle.sound.specs.rule.Rows.{rows_of}
use Rattle.records.specs.rule.Verdict.{Verdict, refused, verdict_of}
use Rattle.sharing.specs.rule.Sharing.{is_out, are_apart, places_at, shares_none}
use Rattle.sharing.specs.Claims.{by_cases, out_here, out_there}
use Rattle.sharing.specs.Pairs.{is_out_lem, out_is, is_apart, apart_at, apart_rows, rows_apart}
use Rattle.normal.specs.rule.Normal.{normal_verdict, Normalised}
use Rattle.normal_laws.specs.rule.Exactly.{TwoShare, NormalOutcome, not_formed, two_share, as_judged}

-- a test that fails somewhere below n
all_not : {A : Type 0} (f : ℕ → Bool) (n : ℕ) → all_below n f ≡ false → ((k : ℕ) → k < n → f k ≡ false → A) → A
unfolding all_below
all_not f zero e g = holds_not refl e
all_not f (suc n) e g =
    by_cases (all_below n f) (λ x. g n (omega arith) (rw x at e)) (λ x. all_not f n x (λ k h. g k (omega arith)))

-- places that are not apart have one in common
apart_not : {A : Type 0} (ps qs : List ℕ) → are_apart ps qs ≡ false → ((q : ℕ) → is_out q ps ≡ false → is_out q qs ≡ false → A) → A
unfolding are_apart
apart_not [] qs e g = holds_not refl e
apart_not (p ∷ ps) qs e g =
    by_cases (is_out p qs) (λ x. apart_not ps qs (rw x at e) (λ q o. g q (out_there q p ps o))) (λ x. g p (out_here p ps) x)

is_in : (q : ℕ) (ps : List ℕ) → is_out q ps ≡ false → Out q ps → ⊥
is_in q ps e o = holds_not (is_out_lem q ps o) e

share_some : (t : List ℤ) → shares_none t (rows_of t) ≡ false → TwoShare t
unfolding shares_none
share_some t e =
    all_not (λ j. all_below j (λ i. are_apart (places_at t (rows_of t) i) (places_at t (rows_of t) j))) (rows_of t) e (λ j l x.
    all_not (λ i. are_apart (places_at t (rows_of t) i) (places_at t (rows_of t) j)) j x (λ i h y.
    apart_not (places_at t (rows_of t) i) (places_at t (rows_of t) j) y (λ q o p. record {
      first = i;
      second = j;
      place = q;
      ordered = h;
      there = l;
      of_first = is_in q (places_at t (rows_of t) i) o;
      of_second = is_in q (places_at t (rows_of t) j) p;
    })))

some_share : {t : List ℤ} → TwoShare t → shares_none t (rows_of t) ≡ false
some_share {t} s =
    let a = places_at t (rows_of t) s.first in
    let b = places_at t (rows_of t) s.second in
    by_cases (shares_none t (rows_of t))
    (λ e. by_cases (is_out s.place a)
    (λ x. absurd (s.of_first (out_is s.place a x)))
    (λ x. absurd (s.of_second (out_is s.place b
    (apart_at a b (is_apart a b (apart_rows t (rows_of t) e s.first s.second s.ordered s.there)) s.place x)))))
    (λ e. e)

module _ {t : List ℤ} {old new : List ℕ} {v : Verdict} (p : Normalised t old new v) where
  pub normal_named : NormalOutcome t old v
  unfolding normal_verdict
  normal_named =
      by_cases (well_formed t)
      (λ w. by_cases (shares_none t (rows_of t))
      (λ a. let e : normal_verdict t old ≡ verdict_of t old = rw (w, a) in
      as_judged w (apart_rows t (rows_of t) a) (record { says = p.says ∙ e }))
      (λ a. let e : normal_verdict t old ≡ refused 90 = rw (w, a) in
      subst (λ (x : Verdict). NormalOutcome t old x) (sym (p.says ∙ e)) (two_share w (share_some t a))))
      (λ w. let e : normal_verdict t old ≡ refused 20 = rw w in
      subst (λ (x : Verdict). NormalOutcome t old x) (sym (p.says ∙ e)) (not_formed w))

  pub normal_only : {x : Verdict} → NormalOutcome t old x → v ≡ x
  unfolding normal_verdict
  normal_only (not_formed w) = let e : normal_verdict t old ≡ refused 20 = rw w in p.says ∙ e
  normal_only (two_share w s) = let e : normal_verdict t old ≡ refused 90 = rw (w, some_share s) in p.says ∙ e
  normal_only (as_judged w a j) =
      let e : normal_verdict t old ≡ verdict_of t old = rw (w, rows_apart t (rows_of t) a) in p.says ∙ e ∙ sym j.says
