-- A run, in words: bytes from a place to another that all pass, behind which one stands that doesn't.
use mathlib.Core.Path.{◌≡◌, refl, sym, ap, ◌∙◌}
use mathlib.Core.Bool.{Bool, false}
use mathlib.Core.List.{List, [], ◌∷◌, ◌++◌}
use Prim.Native.Nat.{ℕ, ◌+◌, ◌<◌}
use native.Mathlib.Omega.{arith}
use lib.ListN.{length, drop, get_or}
use Rattle.markup.specs.rule.Bytes.{run_of, bytes_while}
use Rattle.markup.specs.rule.Grammar.{Each, no_more, each}
use Rattle.markup.proofs.Runs.{first_at, onward, run_next, run_over, run_splits, run_long, rest_at, each_bytes}

-- from p to q bytes stand that all pass
pub record Stretch (f : ℕ → Bool) (d : List ℕ) (p q : ℕ) : Type 0 where
  pub bytes : List ℕ
  pub passes : Each f bytes
  pub split : drop p d ≡ bytes ++ drop q d
  pub place : q ≡ p + length bytes

pub run_stretch : (f : ℕ → Bool) (d : List ℕ) (p : ℕ) → Stretch f d p (run_of f p (drop p d))
run_stretch f d p = record {
  bytes = bytes_while f (drop p d);
  passes = each_bytes f (drop p d);
  split = run_splits f (drop p d) ∙ ap (λ (t : List ℕ). bytes_while f (drop p d) ++ t) (sym (rest_at f d p));
  place = run_long f p (drop p d);
}

-- a run goes to the end of a stretch behind which a byte stands that doesn't pass
run_to : (f : ℕ → Bool) (d : List ℕ) (q : ℕ) → f (get_or d q 0) ≡ false → q < length d → {u : List ℕ} → Each f u → (p : ℕ) → drop p d ≡ u
    ++ drop q d → q ≡ p + length u → run_of f p (drop p d) ≡ q
run_to f d q h l no_more p e k =
    let g : q ≡ p = omega arith in
    run_over f d p (omega arith) (rw (← g) h) ∙ sym g
run_to f d q h l (each {b} {s} t r) p e k =
    let i = first_at d p b (s ++ drop q d) e in
    run_next f d p i.0 (rw i.1 t)
    ∙ run_to f d q h l r (p + 1) (onward d p 1 (b ∷ []) (s ++ drop q d) e refl) (omega arith)

pub stretch_run : (f : ℕ → Bool) (d : List ℕ) (p q : ℕ) → Stretch f d p q → f (get_or d q 0) ≡ false → q < length d → run_of f p (drop p d)
    ≡ q
stretch_run f d p q s h l = run_to f d q h l s.passes p s.split s.place
