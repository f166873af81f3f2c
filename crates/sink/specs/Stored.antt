-- Bytes stored one behind the other: what is left to store gives the whole.
use Rattle.std.specs.Prelude.{◌≡◌, List, ℕ, ◌+◌, ◌≤◌, ◌<◌, length, get_or, set, drop}
use Rattle.std.proofs.Common.{◌∙◌, add-suc, add-one, arith, drop_of_length-le, drop-cons}
use Rattle.std.proofs.lemmas.List.Edits.{sets}

pub store_on : (out s : List ℕ) (at i : ℕ) → i < length s → sets (set out (at + i) (get_or s i 0)) (at + (i + 1)) (drop (i + 1) s)
    ≡ sets out (at + i) (drop i s)
store_on out s at i h = rw (add-one i, add-suc, drop-cons s i 0 h)

pub store_done : (out s : List ℕ) (at i : ℕ) → length s ≤ i → sets out (at + i) (drop i s) ≡ out
store_done out s at i h = rw (drop_of_length-le s h)

-- four at once
pub store_four : (out s : List ℕ) (at i : ℕ) → i + 4 ≤ length s
    → sets (set (set (set (set out (at + i) (get_or s i 0)) (at + (i + 1)) (get_or s (i + 1) 0)) (at + (i + 2)) (get_or s (i + 2) 0))
    (at + (i + 3)) (get_or s (i + 3) 0)) (at + (i + 4)) (drop (i + 4) s) ≡ sets out (at + i) (drop i s)
store_four out s at i h =
    let two : i + 2 ≡ i + 1 + 1 = omega arith in
    let three : i + 3 ≡ i + 1 + 1 + 1 = omega arith in
    let four : i + 4 ≡ i + 1 + 1 + 1 + 1 = omega arith in
    rw (four, three, two) (store_on _ s at (i + 1 + 1 + 1) (omega arith) ∙ store_on _ s at (i + 1 + 1) (omega arith)
    ∙ store_on _ s at (i + 1) (omega arith) ∙ store_on out s at i (omega arith))
