-- A number's bytes from the right: its last digit is what ten leaves of it and the digits before are those of the rest; and of
-- two runs of places side by side the right one may be put first.
use Rattle.std.specs.Prelude.{◌≡◌, true, false, cond, ℕ, zero, suc, ◌+◌, ◌-◌, ◌/◌, ◌%◌, ◌^◌, ◌≤◌, eqb, ℤ, set}
use Rattle.std.proofs.Common.{sym, ◌∙◌, add_comm, div-one, add-one, eq-eqb, ne_eqb}
use Rattle.std.proofs.Math.Path.{ap}
use mathlib.Core.List.{List, [], ◌∷◌, ◌++◌}
use Rattle.std.proofs.Math.Nat.{pow-succ', div-div-eq-div-mul}
use native.Mathlib.Omega.{arith}
use Rattle.std.proofs.Math.ListN.{length}
use Rattle.places.specs.rule.Places.{put, run, Out, Apart}
use Rattle.places.specs.Laws.{commute, put_run_append}
use Rattle.cells.specs.rule.Cell.{signed_of}
use Rattle.cells.specs.declared.Signed.{Signed}
use Rattle.layout.specs.declared.Format.{Format}
use Rattle.widths.specs.rule.Width.{tail_of}
use Rattle.fields.specs.rule.Number.{padded, amount_bytes, quantity_bytes}
use Rattle.fieldlaws.specs.NumberLaws.{length_padded}

-- the point and the decimals, where there is a point
unfoldable pub tail_bytes : Format → ℕ → List ℕ
tail_bytes f n = cond (eqb f.point 0) [] (46 ∷ padded f.decimals n)

-- ---- digits
shifted : (n k : ℕ) → n / 10 ^ suc k ≡ n / 10 / 10 ^ k
shifted n k = rw (pow-succ', div-div-eq-div-mul)

-- the last digit is what ten leaves, and the digits before it are those of the rest
pub padded_right : (k n : ℕ) → padded (suc k) n ≡ padded k (n / 10) ++ (48 + n % 10) ∷ []
unfolding padded
padded_right zero n = rw div-one
padded_right (suc k) n =
    rw shifted (ap (λ (l : List ℕ). (48 + n / 10 / 10 ^ k % 10) ∷ l) (padded_right k n))

-- ---- places
past_run : (q a n : ℕ) → a + n ≤ q → Out q (run a n)
past_run q a zero h = tt
past_run q a (suc n) h = (λ e. omega arith, past_run q (suc a) n (omega arith))

after_run : (b j a k : ℕ) → a + k ≤ b → Apart (run b j) (run a k)
after_run b zero a k h = tt
after_run b (suc j) a k h = (past_run b a k h, after_run (suc b) j a k (omega arith))

-- of two runs, one after the other, the right one may be put first
pub put_run_right : (xs r : List ℕ) (a j : ℕ) (ys : List ℕ)
    → put (put r (run (a + length xs) j) ys) (run a (length xs)) xs ≡ put r (run a (length xs + j)) (xs ++ ys)
put_run_right xs r a j ys =
    commute r (run (a + length xs) j) ys (run a (length xs)) xs (after_run (a + length xs) j a (length xs) (omega arith))
    ∙ put_run_append xs r a j ys

-- the last digit put, and the digits of the rest before it
pub put_last : (s : List ℕ) (at k n : ℕ)
    → put (set s (at + k) (48 + n % 10)) (run at k) (padded k (n / 10)) ≡ put s (run at (suc k)) (padded (suc k) n)
put_last s at k n =
    go (padded k (n / 10)) k (length_padded k (n / 10))
    ∙ ap (λ (m : ℕ). put s (run at m) (padded k (n / 10) ++ (48 + n % 10) ∷ [])) (add-one k)
    ∙ ap (put s (run at (suc k))) (sym (padded_right k n))
  where
    go : (xs : List ℕ) (k : ℕ) → length xs ≡ k
        → put (set s (at + k) (48 + n % 10)) (run at k) xs ≡ put s (run at (k + 1)) (xs ++ (48 + n % 10) ∷ [])
    go xs k e = rw (← e) (put_run_right xs s at 1 ((48 + n % 10) ∷ []))

-- a byte put before the run to its right
pub put_first : (s : List ℕ) (at d b : ℕ) (ys : List ℕ) → set (put s (run (at + 1) d) ys) at b ≡ put s (run at (d + 1)) (b ∷ ys)
put_first s at d b ys = put_run_right (b ∷ []) s at d ys ∙ ap (λ (m : ℕ). put s (run at m) (b ∷ ys)) (add_comm 1 d)

-- ---- a number by its parts
module _ (f : Format) (s : List ℕ) (at n : ℕ) where
  pub tail_none : f.point ≡ 0 → s ≡ put s (run at (tail_of f)) (tail_bytes f n)
  unfolding tail_of tail_bytes
  tail_none e = rw (eq-eqb f.point 0 e)

  pub tail_some : (f.point ≡ 0 → ⊥)
      → set (put s (run (at + 1) f.decimals) (padded f.decimals n)) at 46 ≡ put s (run at (tail_of f)) (tail_bytes f n)
  unfolding tail_of tail_bytes
  tail_some e = rw (ne_eqb f.point 0 e) (put_first s at f.decimals 46 (padded f.decimals n))

  -- the digits before the point, put before it
  pub amount_right : (w : ℕ) → tail_of f ≤ w → let k = w - tail_of f in
      put (put s (run (at + k) (tail_of f)) (tail_bytes f n)) (run at k) (padded k (n / 10 ^ f.decimals))
      ≡ put s (run at w) (amount_bytes f w n)
  unfolding tail_bytes amount_bytes
  amount_right w h =
      let k = w - tail_of f in
      go (padded k (n / 10 ^ f.decimals)) k (length_padded k (n / 10 ^ f.decimals)) (omega arith)
    where
      go : (xs : List ℕ) (k : ℕ) → length xs ≡ k → k + tail_of f ≡ w
          → put (put s (run (at + k) (tail_of f)) (tail_bytes f n)) (run at k) xs ≡ put s (run at w) (xs ++ tail_bytes f n)
      go xs k e h = rw (← h, ← e) (put_run_right xs s at (tail_of f) (tail_bytes f n))

-- a quantity, by its sign
module _ (f : Format) (w : ℕ) (z : ℤ) (q : Signed) (e : q ≡ signed_of z) (s : List ℕ) (at : ℕ) where
  pub minus_last : 1 ≤ w → q.minus ≡ true
      → set (put s (run (at + 1) (w - 1)) (amount_bytes f (w - 1) q.size)) at 45 ≡ put s (run at w) (quantity_bytes f w z)
  unfolding quantity_bytes
  minus_last h m =
      let o : w - 1 + 1 ≡ w = omega arith in
      rw (← e, m)
      (put_first s at (w - 1) 45 (amount_bytes f (w - 1) q.size)
      ∙ ap (λ (m : ℕ). put s (run at m) (45 ∷ amount_bytes f (w - 1) q.size)) o)

  pub minus_none : q.minus ≡ false → put s (run at w) (amount_bytes f w q.size) ≡ put s (run at w) (quantity_bytes f w z)
  unfolding quantity_bytes
  minus_none m = rw (← e, m)
