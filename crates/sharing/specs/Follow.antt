-- Rows that follow one another share no value place: those of a row lie in its position.
use Rattle.std.specs.Prelude.{◌≡◌, true, false, List, ℤ}
use Rattle.std.proofs.Common.{sym, ◌∙◌, ⊎_elim, eq-or-lt_of_le, arith}
use Prim.Native.Nat.{ℕ, zero, suc, ◌+◌, ◌-◌, ◌*◌, ◌≤◌, ◌<◌}
use Rattle.std.proofs.Math.Nat.{suc-mul}
use Rattle.below.specs.rule.Below.{all_below}
use Rattle.below.specs.Below.{all_none, all_more, all_of, decided}
use Rattle.layout.specs.rule.Row.{row_at}
use Rattle.layout.specs.declared.Row.{Row}
use Rattle.layout.specs.declared.Kind.{Kind}
use Rattle.layout.specs.declared.Kind.TheVariants.{Single, Multiple, Quantity, Character, Logical}
use Rattle.layout.specs.declared.Spread.TheVariants.{Bits, Fields}
use Rattle.places.specs.rule.Places.{run}
use Rattle.fields.specs.rule.Legal.{legal}
use Rattle.fields.specs.rule.Row.{spread_places, places_by}
use Rattle.fields.specs.Facts.{KindFacts}
use Rattle.sharing.specs.rule.Sharing.{is_out, are_apart, places_at}
use Rattle.sharing.specs.Claims.{by_cases, none_out, out_both}
use Rattle.sharing.specs.Known.{TableKnown, in_run, in_bits}
use Rattle.sharing.specs.Pairs.{apart_of, apart_before}

-- ---- a row's places lie in its position
module _ (q b w : ℕ) (holds : w ≤ b) where
  in_spread : {A : Type 0} (p n : ℕ) → is_out q (spread_places p b w n) ≡ false → (p ≤ q → q < p + n * b → A) → A
  unfolding spread_places
  in_spread p zero e f = none_out q e
  in_spread p (suc n) e f =
      let m = suc-mul n b in
      by_cases (is_out q (run (p + (b - w)) w))
      (λ y. in_spread (p + b) n (rw y at (sym (out_both q (run (p + (b - w)) w) (spread_places (p + b) b w n)) ∙ e))
      (λ l h. f (omega arith) (omega arith)))
      (λ y. in_run q (p + (b - w)) w y (λ l h. f (omega arith) (omega arith)))

in_position : {A : Type 0} (k : Kind) (t : List ℤ) (v : ℕ) (r : Row) (q : ℕ) → KindFacts k r → 1 ≤ r.start → r.start ≤ r.finish
    → is_out q (places_by k t v r) ≡ false → (r.start ≤ q + 1 → q < r.finish → A) → A
unfolding places_by
in_position Single t v r q w a o e f =
    let x = w.room in in_run q (r.finish - r.width) r.width e (λ l h. f (omega arith) (omega arith))
in_position (Quantity m) t v r q w a o e f =
    let x = w.width.room in in_run q (r.finish - r.width) r.width e (λ l h. f (omega arith) (omega arith))
in_position Character t v r q w a o e f =
    let x = w.room in in_run q (r.start - 1) r.width e (λ l h. f (omega arith) (omega arith))
in_position Logical t v r q w a o e f = in_run q (r.finish - 1) 1 e (λ l h. f (omega arith) (omega arith))
in_position (Multiple Bits) t v r q w a o e f =
    let x = w.room in
    in_bits (legal t v r) (r.start - 1) q 1 r.width e (λ d l h g z. f (omega arith) (omega arith))
in_position (Multiple (Fields n b)) t v r q w a o e f =
    let x = w.room in in_spread q b r.width w.holds (r.start - 1) n e (λ l h. f (omega arith) (omega arith))

-- the rows passed end at `last` or before it, and share no place
pub record Passed (t : List ℤ) (v i last : ℕ) : Type 0 where
  pub ends : (j : ℕ) → j < i → (row_at t j).finish ≤ last
  pub apart : all_below i (apart_before (places_at t v)) ≡ true

pub passed_none : (t : List ℤ) (v last : ℕ) → Passed t v 0 last
passed_none t v last = record { ends = λ j h. absurd (omega arith); apart = all_none (apart_before (places_at t v)) }

-- so that a row behind another has other places
module _ {t : List ℤ} {v len : ℕ} (known : TableKnown t v len) where
  behind : (i j : ℕ) → i < v → j < v → (row_at t i).finish < (row_at t j).start → are_apart (places_at t v i) (places_at t v j) ≡ true
  behind i j a b l =
      let f = known.row i a in
      let g = known.row j b in
      apart_of (places_at t v i) (places_at t v j) (λ q o. decided (is_out q (places_at t v j)) (λ z.
      in_position (row_at t i).kind t v (row_at t i) q f.kind f.position.from_one f.position.ordered o (λ x y.
      in_position (row_at t j).kind t v (row_at t j) q g.kind g.position.from_one g.position.ordered z (λ m n.
      absurd (omega arith)))))

  pub passed_more : (i last : ℕ) → i < v → last < (row_at t i).start → Passed t v i last → Passed t v (i + 1) (row_at t i).finish
  passed_more i last h l p = record {
    ends = λ j k. let o = (known.row i h).position.ordered in let g : j ≤ i = omega arith in
        ⊎_elim (λ q. rw q (omega arith)) (λ m. let e = p.ends j m in omega arith) (eq-or-lt_of_le g);
    apart = all_more (apart_before (places_at t v)) i p.apart (all_of (λ k. are_apart (places_at t v k) (places_at t v i)) i (λ k m.
        behind k i (omega arith) h (let e = p.ends k m in omega arith)));
  }
