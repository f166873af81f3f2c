-- The numbers of lines one after the other, and where they stand in a room that they were pasted into.
use mathlib.Core.Path.{◌≡◌, refl, ◌∙◌, sym, ap}
use mathlib.Core.List.{List, [], ◌∷◌, ◌++◌, append_assoc}
use Prim.Native.Nat.{ℕ, zero, suc, ◌+◌, ◌*◌, ◌-◌, ◌≤◌, ◌<◌}
use native.Mathlib.Omega.{arith}
use lib.IntN.{ℤ, pos}
use lib.ListN.{length, take, drop, length-append, length-take, length-drop, get_or-append}
use lib.Seq.{length-take-le, get_or-append-add, get_or_at}
use Rattle.cells.specs.rule.Cell.{cell, pasted}
use Rattle.values.specs.declared.Said.{Said}
use Rattle.values.specs.Line.{number_on, numbers, number_at, line_cells, cells_of}
use Rattle.values.specs.Room.{Spare, Unless, holds, small}

-- ---- rooms that may be too small
-- what follows of a claim, and of what is said in its place
pub unless_on : {S T L M C D : Type 0} → (S → T) → (L → M) → (C → D) → Unless S L C → Unless T M D
unless_on f g h (holds c) = holds (h c)
unless_on f g h (small s l) = small (f s) (g l)

-- nothing else was said
pub unless_told : {S L C : Type 0} → Unless S L C → (S → ⊥) → C
unless_told (holds c) n = c
unless_told (small s l) n = absurd (n s)

-- the room lacks nothing
pub unless_full : {S L C : Type 0} → Unless S L C → (L → ⊥) → C
unless_full (holds c) n = c
unless_full (small s l) n = absurd (n l)

-- the room of the most lines
pub full_spare : (n last : ℕ) → n ≡ 16384 → last ≤ 4096 → Spare n last
full_spare n last e h = record { so_far = omega arith; one_more = λ k. omega arith }

-- ---- lists of lines
pub numbers_length : (l : List Said) → length (numbers l) ≡ length l
unfolding numbers
numbers_length [] = refl
numbers_length (s ∷ l) = ap suc (numbers_length l)

pub numbers_join : (l m : List Said) → numbers (l ++ m) ≡ numbers l ++ numbers m
unfolding numbers
numbers_join [] m = refl
numbers_join (s ∷ l) m = ap (λ (k : List ℤ). number_on s ∷ k) (numbers_join l m)

-- four numbers a line
pub line_length : (s : Said) → length (line_cells s) ≡ 4
unfolding line_cells
line_length s = refl

pub cells_length : (l : List Said) → length (cells_of l) ≡ 4 * length l
unfolding cells_of line_cells
cells_length [] = refl
cells_length (s ∷ l) = let h = cells_length l in omega arith

pub cells_join : (l m : List Said) → cells_of (l ++ m) ≡ cells_of l ++ cells_of m
unfolding cells_of
cells_join [] m = refl
cells_join (s ∷ l) m = ap (λ (k : List ℤ). line_cells s ++ k) (cells_join l m) ∙ sym (append_assoc (line_cells s) (cells_of l) (cells_of m))

pub cells_more : (l : List Said) (s : Said) → cells_of (l ++ s ∷ []) ≡ cells_of l ++ line_cells s
unfolding cells_of line_cells
cells_more l s = cells_join l (s ∷ [])

pub count_more : (l : List Said) (s : Said) → length (l ++ s ∷ []) ≡ length l + 1
count_more l s = length-append l (s ∷ [])

-- the first of the four says the line's number
pub cells_number : (l : List Said) (i : ℕ) → i < length l → cell (cells_of l) (4 * i) ≡ number_at l i
unfolding cells_of line_cells number_at numbers
cells_number [] i h = absurd (omega arith)
cells_number (s ∷ l) zero h = refl
cells_number (s ∷ l) (suc i) h =
    let e : 4 * suc i ≡ suc (suc (suc (suc (4 * i)))) = omega arith in
    rw e (cells_number l i (omega arith))

-- the numbers of the lines before one more, and its own
pub number_before : (l : List Said) (s : Said) (i : ℕ) → i < length l → number_at (l ++ s ∷ []) i ≡ number_at l i
unfolding number_at
number_before l s i h = rw (numbers_join l (s ∷ []))
    (get_or-append (numbers l) (numbers (s ∷ [])) (pos 0) i (omega (arith, numbers_length l)))

pub number_last : (l : List Said) (s : Said) → number_at (l ++ s ∷ []) (length l) ≡ number_on s
unfolding number_at numbers
number_last l s = rw (numbers_join l (s ∷ [])) (get_or_at (numbers l) (number_on s) [] (pos 0) (length l) (numbers_length l))

-- ---- numbers over numbers
paste_long : (l s : List ℤ) (at : ℕ) → at ≤ length l → length (pasted l at s) ≡ (at + length s) + (length l - (at + length s))
unfolding pasted
paste_long l s at h = simp (length-append, length-take, length-drop) (omega arith)

-- what was pasted had room where the room is as long as before
pub paste_fits : (l s : List ℤ) (at : ℕ) → at ≤ length l → length (pasted l at s) ≡ length l → at + length s ≤ length l
paste_fits l s at h e = omega (arith, paste_long l s at h, e)

module _ (l s : List ℤ) (at : ℕ) (h : at + length s ≤ length l) where
  pub length_pasted : length (pasted l at s) ≡ length l
  unfolding pasted
  length_pasted = simp (length-append, length-take, length-drop) (omega arith)

  pub cell_pasted : (k : ℕ) → k < length s → cell (pasted l at s) (at + k) ≡ cell s k
  unfolding pasted
  cell_pasted k g =
      let e : length (take at l) ≡ at = length-take-le at l (omega arith) in
      rw (append_assoc (take at l) s (drop (at + length s) l))
      (ap (λ (n : ℕ). cell (take at l ++ (s ++ drop (at + length s) l)) (n + k)) (sym e)
      ∙ get_or-append-add (take at l) (s ++ drop (at + length s) l) k (pos 0)
      ∙ get_or-append s (drop (at + length s) l) (pos 0) k g)

-- line i of lines that stand behind the first ones
pub room_number : (room : List ℤ) (first : ℕ) (l : List Said) → 4 * (first + length l) ≤ length room → (i : ℕ) → i < length l
    → cell (pasted room (4 * first) (cells_of l)) (4 * (first + i)) ≡ number_at l i
room_number room first l h i k =
    let n = cells_length l in
    let e : 4 * (first + i) ≡ 4 * first + 4 * i = omega arith in
    rw e (cell_pasted room (cells_of l) (4 * first) (omega arith) (4 * i) (omega arith) ∙ cells_number l i k)
