-- Numbers that stand somewhere in a table: what a part of them is there; a row and a line read back from where they stand.
use Rattle.std.specs.Prelude.{◌≡◌, List, ◌++◌, ℕ, ◌+◌, ◌≤◌, ◌<◌, ℤ, pos, length}
use Rattle.std.proofs.Common.{ap, ◌∙◌, append_assoc, arith, length-append, get_or-append-add}
use Rattle.std.proofs.Math.ListN.{get_or-append}
use Rattle.cells.specs.rule.Cell.{cell, count_of}
use Rattle.layout.specs.rule.Layout.{columns_at, line_at, line_size}
use Rattle.layout.specs.declared.Columns.{Columns}
use Rattle.rows.specs.rule.Cells.{row_cells}

-- the numbers s stand in t from `at` on
pub record Stands (t : List ℤ) (at : ℕ) (s : List ℤ) : Type 0 where
  pub front : List ℤ
  pub rest : List ℤ
  pub is : t ≡ front ++ (s ++ rest)
  pub here : length front ≡ at

-- so does a part of them
pub inside :
    {t w : List ℤ} {at : ℕ}
    → Stands t at w
    → (a s b : List ℤ) (n : ℕ)
    → w ≡ a ++ (s ++ b)
    → at + length a ≡ n
    → Stands t n s
inside p a s b n e h = record {
  front = p.front ++ a;
  rest = b ++ p.rest;
  is = p.is ∙ ap (λ (m : List ℤ). p.front ++ (m ++ p.rest)) e ∙ simp append_assoc;
  here = length-append p.front a ∙ rw p.here h;
}

pub cell_there : {t s : List ℤ} {at : ℕ} → Stands t at s → (k : ℕ) → k < length s → cell t (at + k) ≡ cell s k
cell_there {s} p k h =
    rw (p.is, ← p.here)
    (get_or-append-add p.front (s ++ p.rest) k (pos 0) ∙ get_or-append s p.rest (pos 0) k h)

-- the columns of a row are those that its numbers were made of
pub columns_there : {t : List ℤ} {at : ℕ} {c : Columns} → Stands t at (row_cells c) → columns_at t at ≡ c
unfolding columns_at row_cells count_of
columns_there {c} p = rw (p.is, ← p.here) (simp get_or-append-add)

pub line_there : {t s : List ℤ} {at : ℕ} → Stands t at s → (k : ℕ) → k + line_size ≤ length s → line_at t (at + k) ≡ line_at s k
unfolding line_at
line_there {t} {s} {at} p k h =
    rw (cell_there p k (omega arith), next 1 (omega arith), next 2 (omega arith), next 3 (omega arith))
  where
    next : (j : ℕ) → k + j < length s → cell t (at + k + j) ≡ cell s (k + j)
    next j m = let e : at + k + j ≡ at + (k + j) = omega arith in rw e (cell_there p (k + j) m)
