-- "The same table apart from text places and lengths", number by number: tables with equal masks agree in every number that is no text's
-- place and no text's length.
use Rattle.std.specs.Prelude.{◌≡◌, refl, ◌⊎◌, Bool, true, false, cond, List, [], ◌∷◌, ◌++◌, ltb, leb, ℤ, take}
use Rattle.std.proofs.Common.{sym, ◌∙◌, inl, inr, mod-eq_of_lt, mul-suc, get_or-append-add, lt-ltb, le-ltb, le-leb, ltb-true, ltb-false}
use Prim.Native.Nat.{ℕ, zero, suc, ◌+◌, ◌*◌, ◌-◌, ◌%◌, ◌≤◌, ◌<◌}
use Rattle.std.proofs.Math.Nat.{add-mod_left, sub-zero}
use native.Mathlib.Omega.{arith}
use Rattle.std.proofs.Math.IntN.{pos}
use Rattle.std.proofs.Math.ListN.{length, drop, length-append, length-take, length-drop, get_or-append}
use Rattle.std.proofs.Math.Seq.{get_or-take, get_or-drop}
use Rattle.ascii.specs.rule.Class.{within}
use Rattle.below.specs.Below.{holds_not, and_true, lt_or_le}
use Rattle.cells.specs.rule.Cell.{cell}
use Rattle.layout.specs.rule.Layout.{row_size, header_of}
use Rattle.clean_laws.specs.rule.Texts.{of_text, text_at}
use Rattle.clean_laws.specs.Masked.{masked_lines, masked_row, masked_rows, masked}

-- ---- lines
four_on : (k : ℕ) → suc (suc (suc (suc k))) % 4 ≡ k % 4
four_on k = let e : suc (suc (suc (suc k))) ≡ 4 + k = omega arith in rw e (add-mod_left 4 k)

lines_cell : (t : List ℤ) (k : ℕ) → leb 2 (k % 4) ≡ false → cell (masked_lines t) k ≡ cell t k
unfolding masked_lines
lines_cell [] k h = refl
lines_cell (v ∷ []) k h = refl
lines_cell (v ∷ s ∷ []) k h = refl
lines_cell (v ∷ s ∷ a ∷ []) zero h = refl
lines_cell (v ∷ s ∷ a ∷ []) (suc zero) h = refl
lines_cell (v ∷ s ∷ a ∷ []) (suc (suc zero)) h = holds_not refl h
lines_cell (v ∷ s ∷ a ∷ []) (suc (suc (suc k))) h = refl
lines_cell (v ∷ s ∷ a ∷ n ∷ t) zero h = refl
lines_cell (v ∷ s ∷ a ∷ n ∷ t) (suc zero) h = refl
lines_cell (v ∷ s ∷ a ∷ n ∷ t) (suc (suc zero)) h = holds_not refl h
lines_cell (v ∷ s ∷ a ∷ n ∷ t) (suc (suc (suc zero))) h = holds_not refl h
lines_cell (v ∷ s ∷ a ∷ n ∷ t) (suc (suc (suc (suc k)))) h = lines_cell t k (rw (four_on k) at h)

-- ---- rows
module _ (r : List ℤ) (l : length r ≡ row_size) where
  row_long : length (masked_row r) ≡ row_size
  unfolding masked_row
  row_long =
      let e = length-append (take 14 r) (pos 0 ∷ pos 0 ∷ pos 0 ∷ pos 0 ∷ drop 18 r) in
      let f = length-take 14 r in
      let g = length-drop 18 r in
      omega arith

  row_before : (k : ℕ) → k < 14 → cell (masked_row r) k ≡ cell r k
  unfolding masked_row
  row_before k h =
      let f : k < length (take 14 r) = omega (arith, length-take 14 r) in
      get_or-append (take 14 r) (pos 0 ∷ pos 0 ∷ pos 0 ∷ pos 0 ∷ drop 18 r) (pos 0) k f ∙ get_or-take 14 r k (pos 0) h

  row_behind : (k : ℕ) → cell (masked_row r) (18 + k) ≡ cell r (18 + k)
  unfolding masked_row
  row_behind k =
      let f = length-take 14 r in
      let g : length (take 14 r) ≡ 14 = omega arith in
      let i : 14 + suc (suc (suc (suc k))) ≡ 18 + k = omega arith in
      let e : cell (take 14 r ++ (pos 0 ∷ pos 0 ∷ pos 0 ∷ pos 0 ∷ drop 18 r)) (14 + suc (suc (suc (suc k)))) ≡ cell (drop 18 r) k =
      rw g at (get_or-append-add (take 14 r) (pos 0 ∷ pos 0 ∷ pos 0 ∷ pos 0 ∷ drop 18 r) (suc (suc (suc (suc k)))) (pos 0)) in
      rw i at e ∙ get_or-drop 18 r k (pos 0)

  row_cell : (k : ℕ) → within 14 17 k ≡ false → cell (masked_row r) k ≡ cell r k
  row_cell k h = by (lt_or_le k 14) (lt_or_le k 18) where
    by : (k < 14) ⊎ (14 ≤ k) → (k < 18) ⊎ (18 ≤ k) → cell (masked_row r) k ≡ cell r k
    by (inl a) b = row_before k a
    by (inr a) (inl b) = holds_not (and_true (leb 14 k) (leb k 17) (le-leb 14 k a) (le-leb k 17 (omega arith))) h
    by (inr a) (inr b) = let f : 18 + (k - 18) ≡ k = omega arith in rw f at (row_behind (k - 18))

-- what k is to the rows behind the first, and to the first
on_text : (v k : ℕ) → of_text (suc v) (row_size + k) ≡ of_text v k
unfolding of_text
on_text v k = by (ltb k (row_size * v)) refl where
  by : (q : Bool) → ltb k (row_size * v) ≡ q
      → cond (ltb (row_size + k) (row_size * suc v)) (within 14 17 ((row_size + k) % row_size))
      (leb 2 ((row_size + k - row_size * suc v) % 4))
      ≡ cond q (within 14 17 (k % row_size)) (leb 2 ((k - row_size * v) % 4))
  by true e =
      let h = ltb-true k (row_size * v) e in
      rw (lt-ltb (row_size + k) (row_size * suc v) (omega (arith, mul-suc row_size v)), add-mod_left row_size k)
  by false e =
      let h = ltb-false k (row_size * v) e in
      let f : row_size + k - row_size * suc v ≡ k - row_size * v = omega (arith, mul-suc row_size v) in
      rw (le-ltb (row_size + k) (row_size * suc v) (omega (arith, mul-suc row_size v)), f)

first_text : (v k : ℕ) → k < row_size → of_text (suc v) k ≡ within 14 17 k
unfolding of_text
first_text v k h = rw (lt-ltb k (row_size * suc v) (omega (arith, mul-suc row_size v)), mod-eq_of_lt h)

none_text : (k : ℕ) → of_text zero k ≡ leb 2 (k % 4)
unfolding of_text
none_text k = rw (le-ltb k 0 (omega arith), sub-zero k)

rows_cell : (v : ℕ) (t : List ℤ) (k : ℕ) → row_size * v ≤ length t → of_text v k ≡ false → cell (masked_rows v t) k ≡ cell t k
unfolding masked_rows
rows_cell zero t k h e = lines_cell t k (sym (none_text k) ∙ e)
rows_cell (suc v) t k h e = by (lt_or_le k row_size) (rows_cell v (drop row_size t) (k - row_size)) where
  long : length (take row_size t) ≡ row_size
  long = let f = length-take row_size t in omega (arith, mul-suc row_size v)

  few : row_size * v ≤ length (drop row_size t)
  few = let f = length-drop row_size t in omega (arith, mul-suc row_size v)

  by : (k < row_size) ⊎ (row_size ≤ k) → (row_size * v ≤ length (drop row_size t) → of_text v (k - row_size) ≡ false
      → cell (masked_rows v (drop row_size t)) (k - row_size) ≡ cell (drop row_size t) (k - row_size))
      → cell (masked_row (take row_size t) ++ masked_rows v (drop row_size t)) k ≡ cell t k
  by (inl l) ih =
      let f : k < length (masked_row (take row_size t)) = omega (arith, row_long (take row_size t) long) in
      get_or-append (masked_row (take row_size t)) (masked_rows v (drop row_size t)) (pos 0) k f
      ∙ row_cell (take row_size t) long k (sym (first_text v k l) ∙ e) ∙ get_or-take row_size t k (pos 0) l
  by (inr l) ih =
      let f : row_size + (k - row_size) ≡ k = omega arith in
      let g : of_text v (k - row_size) ≡ false = sym (on_text v (k - row_size)) ∙ rw f e in
      let i : cell (masked_row (take row_size t) ++ masked_rows v (drop row_size t)) (row_size + (k - row_size))
      ≡ cell (masked_rows v (drop row_size t)) (k - row_size) =
      rw (row_long (take row_size t) long)
      at (get_or-append-add (masked_row (take row_size t)) (masked_rows v (drop row_size t)) (k - row_size) (pos 0)) in
      let j = get_or-drop row_size t (k - row_size) (pos 0) in
      rw f at (i ∙ ih few g ∙ j)

-- ---- a table: its header, and the numbers behind it
masked_cell : (t : List ℤ) (k : ℕ) → 6 + row_size * (header_of t).rows ≤ length t → of_text (header_of t).rows k ≡ false
    → cell (masked t) (6 + k) ≡ cell t (6 + k)
unfolding masked
masked_cell t k h e =
    let f = length-take 6 t in
    let g : length (take 6 t) ≡ 6 = omega arith in
    let i : cell (take 6 t ++ masked_rows (header_of t).rows (drop 6 t)) (6 + k) ≡ cell (masked_rows (header_of t).rows (drop 6 t)) k =
    rw g at (get_or-append-add (take 6 t) (masked_rows (header_of t).rows (drop 6 t)) k (pos 0)) in
    let j = length-drop 6 t in
    i ∙ rows_cell (header_of t).rows (drop 6 t) k (omega arith) e ∙ get_or-drop 6 t k (pos 0)

masked_head : (t : List ℤ) (k : ℕ) → 6 ≤ length t → k < 6 → cell (masked t) k ≡ cell t k
unfolding masked
masked_head t k h l =
    let f = length-take 6 t in
    let g : k < length (take 6 t) = omega arith in
    get_or-append (take 6 t) (masked_rows (header_of t).rows (drop 6 t)) (pos 0) k g ∙ get_or-take 6 t k (pos 0) l

-- NUMBER BY NUMBER: a table long enough for its rows keeps under the mask what is no text's place and no text's length
pub masked_keeps : (t : List ℤ) (k : ℕ) → 6 + row_size * (header_of t).rows ≤ length t → text_at (header_of t).rows k ≡ false
    → cell (masked t) k ≡ cell t k
unfolding text_at
masked_keeps t k h e = by (lt_or_le k 6) where
  by : (k < 6) ⊎ (6 ≤ k) → cell (masked t) k ≡ cell t k
  by (inl l) = masked_head t k (omega arith) l
  by (inr l) =
      let f : 6 + (k - 6) ≡ k = omega arith in
      rw f at (masked_cell t (k - 6) h (rw (le-ltb k 6 l) at e))
