-- In a well-formed table a bitstring's width is a category of its own: the largest. So its categories are some.
use Rattle.std.specs.Prelude.{◌≡◌, Bool, cond, not, ◌&&◌, ◌||◌, List, ℤ, pos, negsuc}
use Rattle.std.proofs.Math.Path.{refl, ap}
use Rattle.std.proofs.Common.{sym, ◌∙◌, arith}
use Rattle.std.proofs.Math.Bool.{true, false}
use Prim.Native.Nat.{ℕ, zero, suc, ◌≤◌, ◌<◌, max}
use borrow.Author.Tests.{leb-true, leb-false, eqb-true}
use Rattle.std.proofs.Math.Dec.{leb}
use Rattle.std.specs.Int.Signed.{le_z}
use Rattle.cells.specs.Order.{le_self}
use Rattle.below.specs.rule.Below.{max_below}
use Rattle.below.specs.Below.{any_holds, all_at_lem, and_both, holds_not, and_left}
use Rattle.cells.specs.rule.Cell.{eq_z, signed_of}
use Rattle.cells.specs.Cell.{same_self}
use Rattle.widths.specs.rule.Width.{need, size_of, lowest, fits_kind}
use Rattle.layout.specs.rule.Layout.{header_of}
use Rattle.layout.specs.rule.Row.{row_at}
use Rattle.layout.specs.declared.Row.{Row}
use Rattle.layout.specs.declared.Kind.{Kind}
use Rattle.layout.specs.declared.Kind.TheVariants.{Multiple}
use Rattle.layout.specs.declared.Spread.TheVariants.{Bits}
use Rattle.fields.specs.rule.Legal.{line_value, in_range, on_line, legal}
use Rattle.fields.specs.Facts.{RowFacts, KindFacts, WidthFacts}
use Rattle.fieldlaws.specs.BackLaws.{Topped}
use Rattle.sound.specs.rule.Sound.{well_formed, rows_good, row_good, good_at, columns_of, lines_before}
use Rattle.sound.specs.rule.Sound.{values_good, widths_good, range_good, range_width, widest, width_good, value_at}
use Rattle.sound.specs.rule.Rows.{rows_of}
use Rattle.sound.specs.Rows.{parts, row_facts, line_value_lem}

-- the largest of some numbers is one of them
data Attained (f : ℕ → ℕ) (n m : ℕ) : Type 0 where
  at : (k : ℕ) → k < n → f k ≡ m → Attained f n m

is : {f : ℕ → ℕ} {n m m' : ℕ} → m ≡ m' → Attained f n m → Attained f n m'
is e (at k h q) = at k h (q ∙ e)

later : {f : ℕ → ℕ} {n m m' : ℕ} → m ≡ m' → Attained f n m → Attained f (suc n) m'
later e (at k h q) = at k (omega arith) (q ∙ e)

attained : (f : ℕ → ℕ) (n : ℕ) → 0 < max_below n f → Attained f n (max_below n f)
unfolding max_below
attained f zero h = absurd (omega arith)
attained f (suc n) h = go (leb (max_below n f) (f n)) refl (λ q. attained f n q)
  where
    go : (b : Bool) → leb (max_below n f) (f n) ≡ b → (0 < max_below n f → Attained f n (max_below n f))
        → Attained f (suc n) (max (max_below n f) (f n))
    go true e ih = let l : max_below n f ≤ f n = leb-true (max_below n f) (f n) e in at n (omega arith) (omega arith)
    go false e ih = let l : f n < max_below n f = leb-false (max_below n f) (f n) e in later (omega arith) (ih (omega arith))

or_left : (a b : Bool) → a ≡ true → (a || b) ≡ true
or_left a b e = rw e

or_right : (a b : Bool) → b ≡ true → (a || b) ≡ true
or_right true b e = refl
or_right false b e = e

not_or : (a b : Bool) → a ≡ true → (not a || b) ≡ true → b ≡ true
not_or true b e h = h
not_or false b e h = holds_not e refl

module _ (t : List ℤ) (v : ℕ) (r : Row) where
  from_legal : r.range ≡ true → le_z r.from r.to ≡ true → legal t v r r.from ≡ true
  unfolding legal in_range
  from_legal e h = rw (e, le_self r.from, h)

  to_legal : r.range ≡ true → le_z r.from r.to ≡ true → legal t v r r.to ≡ true
  unfolding legal in_range
  to_legal e h = rw (e, h, le_self r.to)

  line_legal : (k : ℕ) → k < r.lines → legal t v r (line_value t v r k) ≡ true
  unfolding legal on_line
  line_legal k h =
      or_right (in_range r (line_value t v r k)) _
      (any_holds (λ j. eq_z (line_value t v r j) (line_value t v r k)) r.lines k h (same_self (line_value t v r k)))

  -- a legal category of this size is the size
  size_legal : {len : ℕ} → RowFacts t v len r → r.kind ≡ Multiple Bits → (z : ℤ) → legal t v r z ≡ true → size_of z ≡ r.width
      → legal t v r (pos r.width) ≡ true
  unfolding signed_of lowest
  size_legal f k (pos n) e q = ap (λ (m : ℕ). legal t v r (pos m)) (sym q) ∙ e
  size_legal f k (negsuc n) e q =
      let h : le_z (lowest (Multiple Bits)) (negsuc n) ≡ true = rw k at (f.least (negsuc n) e) in holds_not h refl

  module _ {len : ℕ} (facts : RowFacts t v len r) (bits : r.kind ≡ Multiple Bits) where
    some : 1 ≤ r.width
    some = bits_some r.kind bits facts.kind
      where
        bits_some : (k : Kind) → k ≡ Multiple Bits → KindFacts k r → 1 ≤ r.width
        bits_some k e f = let f' : WidthFacts 9999 r = rw e at f in f'.some

    -- a legal number that takes w bytes
    need_legal : (z : ℤ) → legal t v r z ≡ true → need r.kind z ≡ r.width → legal t v r (pos r.width) ≡ true
    unfolding need
    need_legal z e q = size_legal facts bits z e (rw bits at q)

    range_top : range_good r ≡ true → range_width r ≡ r.width → legal t v r (pos r.width) ≡ true
    unfolding range_width
    range_top g q = go r.range refl q
      where
        wider : (e : r.range ≡ true) → le_z r.from r.to ≡ true → (b : Bool)
            → leb (need r.kind r.from) (need r.kind r.to) ≡ b
            → max (need r.kind r.from) (need r.kind r.to) ≡ r.width → legal t v r (pos r.width) ≡ true
        wider e h true l m =
            let l' : need r.kind r.from ≤ need r.kind r.to = leb-true _ _ l in
            need_legal r.to (to_legal e h) (omega arith)
        wider e h false l m =
            let l' : need r.kind r.to < need r.kind r.from = leb-false _ _ l in
            need_legal r.from (from_legal e h) (omega arith)

        go : (b : Bool) → r.range ≡ b → cond b (max (need r.kind r.from) (need r.kind r.to)) 0 ≡ r.width
            → legal t v r (pos r.width) ≡ true
        go true e m =
            let h = not_or r.range (le_z r.from r.to && (fits_kind r.kind r.from && fits_kind r.kind r.to)) e g in
            wider e (and_left (le_z r.from r.to) (fits_kind r.kind r.from && fits_kind r.kind r.to) h)
            (leb (need r.kind r.from) (need r.kind r.to)) refl m
        go false e m = absurd (omega (arith, some))

    line_top : Attained (λ k. need r.kind (value_at t v r.before k)) r.lines r.width → legal t v r (pos r.width) ≡ true
    line_top (at k h q) = need_legal (value_at t v r.before k) (rw (line_value_lem t v r k) at (line_legal k h)) q

    top_legal : range_good r ≡ true → r.width ≡ widest t v r → legal t v r (pos r.width) ≡ true
    unfolding widest
    top_legal g e = go (leb lines (range_width r)) refl
      where
        lines : ℕ
        lines = max_below r.lines (λ k. need r.kind (value_at t v r.before k))

        go : (b : Bool) → leb lines (range_width r) ≡ b → legal t v r (pos r.width) ≡ true
        go true l = let l' : lines ≤ range_width r = leb-true _ _ l in range_top g (omega arith)
        go false l =
            let l' : range_width r < lines = leb-false _ _ l in
            line_top (is (omega arith) (attained (λ k. need r.kind (value_at t v r.before k)) r.lines (omega arith)))

width_bits : (w m : ℕ) → width_good (Multiple Bits) w m ≡ true → w ≡ m
unfolding width_good
width_bits w m e = eqb-true w m e

-- THE LAW: row i of a well-formed table
module _ (t : List ℤ) (good : well_formed t ≡ true) (i : ℕ) (here : i < rows_of t) where
  row_good_lem : row_good t (rows_of t) (header_of t).lines (lines_before t i) (columns_of t i) ≡ true
  unfolding rows_good
  row_good_lem = all_at_lem (good_at t (rows_of t) (header_of t).lines) (rows_of t) i here (and_both (and_both (parts t good).rows).0).0

  range_good_lem : range_good (row_at t i) ≡ true
  unfolding row_good values_good
  range_good_lem = (and_both (and_both (and_both row_good_lem).1).0).0

  width_is : (row_at t i).kind ≡ Multiple Bits → (row_at t i).width ≡ widest t (rows_of t) (row_at t i)
  unfolding row_good widths_good
  width_is k = go (row_at t i).kind k (and_both (and_both (and_both row_good_lem).1).1).0
    where
      go : (k : Kind) → k ≡ Multiple Bits → width_good k (row_at t i).width (widest t (rows_of t) (row_at t i)) ≡ true
          → (row_at t i).width ≡ widest t (rows_of t) (row_at t i)
      go k e g = width_bits _ _ (rw e at g)

  pub row_topped : Topped (row_at t i).kind t (rows_of t) (row_at t i)
  row_topped = record { top = λ k. top_legal t (rows_of t) (row_at t i) (row_facts t good i here) k range_good_lem (width_is k) }
