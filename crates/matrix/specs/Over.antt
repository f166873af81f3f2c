-- An entry put over one that was put: as if it had been put at once.
-- Assumes nothing.
use Rattle.std.specs.Prelude.{◌≡◌, refl, List, [], ◌∷◌, ◌++◌, ℕ, suc, ◌+◌, ◌*◌, ◌≤◌, length}
use Rattle.std.proofs.Common.{sym, ap, ◌∙◌, append-nil, arith, length-append}
use Rattle.std.specs.Float.{binary64}
use Rattle.std.specs.Float.Ieee.{to_bits}
use Rattle.places.specs.rule.Places.{run}
use Rattle.places.specs.Laws.{last, once_run, length_run}
use Rattle.little.specs.rule.Bytes.{little_bytes, put_at}
use Rattle.little.specs.Bytes.{bytes_count}
use Rattle.little.specs.Runs.{put_next, put_either}
use Rattle.matrix.specs.declared.Entry.{Entry}
use Rattle.matrix.specs.rule.Entry.{presence_of, float_of, flags_of, value_bytes}
use Rattle.matrix.specs.Put.{put_entries}
use Rattle.matrix.specs.Entry.{entries_then}

-- bytes put over bytes that were put
pub same_over : (r : List ℕ) (a : ℕ) (xs ys : List ℕ) → length ys ≡ length xs → put_at (put_at r a xs) a ys ≡ put_at r a ys
unfolding put_at
same_over r a xs ys e = rw (← e) (last r (run a (length ys)) xs ys (once_run a (length ys)) (sym (length_run a (length ys))))

-- over the first of them
head_over : (r : List ℕ) (a : ℕ) (xs ys zs : List ℕ) → length ys ≡ length xs → put_at (put_at r a (xs ++ zs)) a ys ≡ put_at r a (ys ++ zs)
head_over r a xs ys zs e =
    ap (λ (l : List ℕ). put_at l a ys) (sym (put_next r a xs (a + length xs) zs refl))
    ∙ put_either (put_at r a xs) a ys (a + length xs) zs (omega arith)
    ∙ ap (λ (l : List ℕ). put_at l (a + length xs) zs) (same_over r a xs ys e)
    ∙ put_next r a ys (a + length xs) zs (omega arith)

first_over : (r : List ℕ) (f v : ℕ) (d e : Entry) (zs : List Entry) → f + 1 ≤ v
    → put_entries (put_entries r f v (d ∷ zs)) f v (e ∷ []) ≡ put_entries r f v (e ∷ zs)
unfolding flags_of value_bytes
first_over r f v d e zs h =
    let x = little_bytes 8 (to_bits binary64 (float_of d)) in
    let y = little_bytes 8 (to_bits binary64 (float_of e)) in
    let n : length (y ++ []) ≡ length x = omega
    (arith, length-append y [], bytes_count 8 (to_bits binary64 (float_of d)), bytes_count 8 (to_bits binary64 (float_of e))) in
    ap (λ (l : List ℕ). put_at l v (y ++ []))
    (put_either (put_at r f (presence_of d ∷ flags_of zs)) f (presence_of e ∷ []) v (x ++ value_bytes zs) h)
    ∙ ap (λ (l : List ℕ). put_at (put_at l v (x ++ value_bytes zs)) v (y ++ []))
    (head_over r f (presence_of d ∷ []) (presence_of e ∷ []) (flags_of zs) refl)
    ∙ head_over (put_at r f (presence_of e ∷ flags_of zs)) v x (y ++ []) (value_bytes zs) n
    ∙ ap (λ (l : List ℕ). put_at (put_at r f (presence_of e ∷ flags_of zs)) v (l ++ value_bytes zs)) (append-nil y)

-- AN ENTRY PUT OVER ANOTHER, among those that were put
pub entry_over : (r : List ℕ) (f v : ℕ) (xs : List Entry) (d e : Entry) (zs : List Entry) → f + (length xs + suc (length zs)) ≤ v
    → put_entries (put_entries r f v (xs ++ (d ∷ zs))) (f + length xs) (v + 8 * length xs) (e ∷ []) ≡ put_entries r f v (xs ++ (e ∷ zs))
entry_over r f v xs d e zs h =
    let a = f + length xs in
    let b = v + 8 * length xs in
    ap (λ (l : List ℕ). put_entries l a b (e ∷ [])) (sym (entries_then r f v xs (d ∷ zs) h))
    ∙ first_over (put_entries r f v xs) a b d e zs (omega arith)
    ∙ entries_then r f v xs (e ∷ zs) h
