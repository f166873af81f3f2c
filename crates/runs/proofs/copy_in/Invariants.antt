-- `runs::copy_in` meets its contract. The invariant: what is left to put gives the whole.
use mathlib.Core.Path.{◌≡◌}
use mathlib.Core.List.{List}
use Prim.Native.Nat.{ℕ, suc, ◌+◌, ◌-◌, ◌<◌}
use native.Mathlib.Nat.{add-suc}
use native.Mathlib.Numerals.{add-one}
use lib.ListN.{length, get_or, set, take, drop}
use lib.Seq.{drop-cons}
use Rattle.places.specs.rule.Places.{put, run}
use Rattle.runs.proofs.copy_in.Given as goal

-- what is left to put from byte j on
abbrev pub rest : List ℕ → ℕ → List ℕ → ℕ → ℕ → List ℕ
rest out at src k j = put out (run (at + j) (k - j)) (take (k - j) (drop j src))

pub on : (out src : List ℕ) (at k j i : ℕ) → k - j ≡ suc i → k - (j + 1) ≡ i → j < length src
    → rest (set out (at + j) (get_or src j 0)) at src k (j + 1) ≡ rest out at src k j
on out src at k j i e f h = rw (e, f, add-one j, add-suc, drop-cons src j 0)

abbrev pub invariant-loop-j : goal.invariant-loop-j
invariant-loop-j l = rest l.out l.at l.src l.k l.j ≡ put l.initial.out (run l.at l.k) (take l.k l.src)
