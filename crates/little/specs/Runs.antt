-- Laws of bytes put at a run of places.
-- Assumes nothing.
use Rattle.std.specs.Prelude.{ℕ, zero, suc, ◌+◌, ◌≤◌, ◌≡◌, List, ◌∷◌, ◌++◌, length, set, take, drop}
use Rattle.std.proofs.Common.{add-one, arith, sym, ◌∙◌, length-append}
use Rattle.places.specs.rule.Places.{put, run, Apart}
use Rattle.places.specs.Laws.{length_put, put_run_append, out_run, once_run, below_run, length_run, commute, back, pick_run}
use Rattle.little.specs.rule.Bytes.{put_at}

pub length_put_at : (r : List ℕ) (a : ℕ) (xs : List ℕ) → length (put_at r a xs) ≡ length r
unfolding put_at
length_put_at r a xs = length_put r (run a (length xs)) xs

-- what is put right behind what was put is one put
pub put_next : (r : List ℕ) (a : ℕ) (xs : List ℕ) (b : ℕ) (ys : List ℕ) → a + length xs ≡ b → put_at (put_at r a xs) b ys
    ≡ put_at r a (xs ++ ys)
unfolding put_at
put_next r a xs b ys e = rw (← e, length-append) (put_run_append xs r a (length ys) ys)

-- two runs of which one ends before the other starts: either order of the puts
pub apart_runs : (a n b m : ℕ) → a + n ≤ b → Apart (run a n) (run b m)
apart_runs a zero b m h = tt
apart_runs a (suc n) b m h = (out_run a b m (omega arith), apart_runs (suc a) n b m (omega arith))

pub put_either : (r : List ℕ) (a : ℕ) (xs : List ℕ) (b : ℕ) (ys : List ℕ) → a + length xs ≤ b
    → put_at (put_at r b ys) a xs ≡ put_at (put_at r a xs) b ys
unfolding put_at
put_either r a xs b ys h = sym (commute r (run a (length xs)) xs (run b (length ys)) ys (apart_runs a (length xs) b (length ys) h))

-- one store, and the rest behind it
pub put_more : (r : List ℕ) (a x : ℕ) (xs : List ℕ) → put_at (set r a x) (a + 1) xs ≡ put_at r a (x ∷ xs)
unfolding put_at
put_more r a x xs = rw add-one

-- the bytes put are the bytes that stand there
pub put_back : (r : List ℕ) (a : ℕ) (xs : List ℕ) → a + length xs ≤ length r → take (length xs) (drop a (put_at r a xs)) ≡ xs
unfolding put_at
put_back r a xs h =
    let s = put r (run a (length xs)) xs in
    sym (pick_run s a (length xs) (rw length_put h))
    ∙ back r (run a (length xs)) xs (once_run a (length xs)) (below_run (length r) a (length xs) h) (sym (length_run a (length xs)))
