-- What a row must give for its value places to be claimed; a bitstring's places as those of its range and those of its lines.
use Rattle.std.specs.Prelude.{◌≡◌, Bool, cond, ◌&&◌, List, [], ◌∷◌, ◌++◌, ℤ, negsuc, length}
use Rattle.std.proofs.Math.Path.{refl, ap}
use Rattle.std.proofs.Common.{sym, subst, ◌∙◌, leb-true, le-leb}
use Rattle.std.proofs.Math.Bool.{true, false}
use Rattle.std.proofs.Math.Logic.{⊎_elim}
use Prim.Native.Nat.{ℕ, zero, suc, ◌+◌, ◌-◌, ◌≤◌, ◌<◌}
use native.Mathlib.Omega.{arith}
use Rattle.std.proofs.Math.IntN.{pos}
use Rattle.std.specs.Int.Signed.{le_z}
use Rattle.below.specs.Below.{any_holds, any_some, lt_or_le, and_left, and_right, either_true, or_true}
use Rattle.cells.specs.rule.Cell.{cell, count_of, eq_z, signed_of}
use Rattle.cells.specs.Cell.{same_true, same_self}
use Rattle.cells.specs.Order.{le_self, le_join}
use Rattle.layout.specs.rule.Layout.{most_rows, lines_base, line_base}
use Rattle.layout.specs.rule.Row.{row_at}
use Rattle.layout.specs.declared.Row.{Row}
use Rattle.layout.specs.declared.Kind.{Kind}
use Rattle.layout.specs.declared.Kind.TheVariants.{Multiple}
use Rattle.layout.specs.declared.Spread.TheVariants.{Bits}
use Rattle.places.specs.rule.Places.{run}
use Rattle.widths.specs.rule.Width.{need, lowest}
use Rattle.fields.specs.rule.Legal.{line_value, in_range, on_line, legal}
use Rattle.fields.specs.rule.Row.{defined, bit_places, categories}
use Rattle.fields.specs.Facts.{LineFacts, WidthFacts, KindFacts, RowFacts}
use Rattle.sound.specs.rule.Sound.{well_formed}
use Rattle.sound.specs.rule.Rows.{rows_of, length_of}
use Rattle.sound.specs.Rows.{parts, row_facts}
use Rattle.sharing.specs.rule.Sharing.{is_out}
use Rattle.sharing.specs.Claims.{by_cases, same_fails, none_out, out_both, out_cases, out_here, out_there}

-- each row stands in the table, and its places lie in the first len bytes
pub record TableKnown (t : List ℤ) (v len : ℕ) : Type 0 where
  pub few : v ≤ most_rows
  pub stand : lines_base v ≤ length t
  pub row : (i : ℕ) → i < v → RowFacts t v len (row_at t i)

pub table_known : (t : List ℤ) → well_formed t ≡ true → TableKnown t (rows_of t) (length_of t)
table_known t g =
    let s = (parts t g).standing in
    let w = s.stand in
    record { few = s.few_rows; stand = omega arith; row = row_facts t g }

-- ---- a bitstring
-- the categories that it allows are 1 to w, and its position, which starts at the place p, has a byte for each
pub record BitsKnown (t : List ℤ) (v : ℕ) (r : Row) (size : ℕ) : Type 0 where
  pub lines : LineFacts t v r
  pub from_one : 1 ≤ r.start
  pub inside : r.start + r.width ≤ size + 1
  pub low : (z : ℤ) → legal t v r z ≡ true → 1 ≤ count_of z
  pub high : (z : ℤ) → legal t v r z ≡ true → count_of z ≤ r.width
  pub count : (z : ℤ) → legal t v r z ≡ true → z ≡ pos (count_of z)

at_least : (z : ℤ) → le_z (pos 1) z ≡ true → 1 ≤ count_of z
unfolding count_of
at_least (pos n) e = leb-true 1 n e
at_least (negsuc n) e = let z : ◌≡◌ {A = ℕ} 0 1 = cc in absurd (omega arith)

is_count : (z : ℤ) → le_z (pos 1) z ≡ true → z ≡ pos (count_of z)
unfolding count_of
is_count (pos n) e = refl
is_count (negsuc n) e = let z : ◌≡◌ {A = ℕ} 0 1 = cc in absurd (omega arith)

as_size : (z : ℤ) → le_z (pos 1) z ≡ true → (signed_of z).size ≡ count_of z
unfolding count_of signed_of
as_size (pos n) e = refl
as_size (negsuc n) e = let z : ◌≡◌ {A = ℕ} 0 1 = cc in absurd (omega arith)

pub bits_known : {t : List ℤ} {v len : ℕ} {r : Row} (size : ℕ) → RowFacts t v len r → len ≤ size → r.kind ≡ Multiple Bits
    → BitsKnown t v r size
unfolding lowest need
bits_known {t} {v} {len} {r} size f h e =
    let w : WidthFacts 9999 r = subst (λ (k : Kind). KindFacts k r) e f.kind in
    let one : (z : ℤ) → legal t v r z ≡ true → le_z (pos 1) z
    ≡ true = λ z g. subst (λ (k : Kind). le_z (lowest k) z ≡ true) e (f.least z g) in
    let top : (z : ℤ) → legal t v r z ≡ true → (signed_of z).size
    ≤ r.width = λ z g. subst (λ (k : Kind). need k z ≤ r.width) e (f.fits z g) in
    let a = w.room in let b = f.position.inside in
    record {
      lines = f.lines;
      from_one = f.position.from_one;
      inside = omega arith;
      low = λ z g. at_least z (one z g);
      high = λ z g. rw (as_size z (one z g)) at (top z g);
      count = λ z g. is_count z (one z g);
    }

-- the places of its range
unfoldable pub range_places : ℕ → Row → List ℕ
range_places p r = cond (in_range r r.from) (run (p + (count_of r.from - 1)) (count_of r.to - count_of r.from + 1)) []

-- and those of n of its lines, from line k on; `before` is the count of lines before the row
unfoldable pub line_places : ℕ → List ℤ → ℕ → ℕ → ℕ → ℕ → List ℕ
line_places p t v before k zero = []
line_places p t v before k (suc n) = (p + (count_of (cell t (line_base v (before + k))) - 1)) ∷ line_places p t v before (suc k) n

-- ---- a place is one of them just where its category is legal
module _ (ok : ℤ → Bool) (p : ℕ) where
  pub in_bits : {A : Type 0} (q c n : ℕ) → is_out q (bit_places p (defined ok c n)) ≡ false
      → ((d : ℕ) → c ≤ d → d < c + n → ok (pos d) ≡ true → q ≡ p + (d - 1) → A) → A
  unfolding bit_places defined
  in_bits {A} q c zero e f = none_out q e
  in_bits {A} q c (suc n) e f =
      let later : is_out q (bit_places p (defined ok (suc c) n)) ≡ false
      → A = λ x. in_bits q (suc c) n x (λ d a b. f d (omega arith) (omega arith)) in
      by_cases (ok (pos c))
      (λ y. out_cases q (p + (c - 1)) (bit_places p (defined ok (suc c) n)) (rw y at e) (λ z. f c (omega arith) (omega arith) y z) later)
      (λ y. later (rw y at e))

  bits_there : (q c : ℕ) (cs : List ℕ) (b : Bool) → is_out q (bit_places p cs) ≡ false → is_out q (bit_places p (cond b (c ∷ cs) cs))
      ≡ false
  unfolding bit_places
  bits_there q c cs true x = out_there q (p + (c - 1)) (bit_places p cs) x
  bits_there q c cs false x = x

  bits_in : (d c n : ℕ) → c ≤ d → d < c + n → ok (pos d) ≡ true → is_out (p + (d - 1)) (bit_places p (defined ok c n)) ≡ false
  unfolding bit_places defined
  bits_in d c zero a b e = absurd (omega arith)
  bits_in d c (suc n) a b e =
      ⊎_elim
      (λ x. bits_there (p + (d - 1)) c (defined ok (suc c) n) (ok (pos c)) (bits_in d (suc c) n x (omega arith) e))
      (λ x.
      let z : d ≡ c = omega arith in
      let y : ok (pos c) ≡ true = rw z at e in
      rw (z, y) (out_here (p + (c - 1)) (bit_places p (defined ok (suc c) n))))
      (lt_or_le c d)

pub in_run : {A : Type 0} (q a n : ℕ) → is_out q (run a n) ≡ false → (a ≤ q → q < a + n → A) → A
in_run q a zero e f = none_out q e
in_run q a (suc n) e f =
    out_cases q a (run (suc a) n) e (λ z. f (omega arith) (omega arith)) (λ x. in_run q (suc a) n x (λ h l. f (omega arith) (omega arith)))

run_in : (q a n : ℕ) → a ≤ q → q < a + n → is_out q (run a n) ≡ false
run_in q a zero h l = absurd (omega arith)
run_in q a (suc n) h l =
    ⊎_elim
    (λ y. out_there q a (run (suc a) n) (run_in q (suc a) n y (omega arith)))
    (λ y. let z : q ≡ a = omega arith in rw z (out_here a (run (suc a) n)))
    (lt_or_le a q)

module _ (p : ℕ) (t : List ℤ) (v : ℕ) (r : Row) where
  abbrev line_place : ℕ → ℕ
  line_place j = p + (count_of (line_value t v r j) - 1)

  in_lines : {A : Type 0} (q k n : ℕ) → is_out q (line_places p t v r.before k n) ≡ false
      → ((j : ℕ) → k ≤ j → j < k + n → q ≡ line_place j → A) → A
  unfolding line_places
  in_lines q k zero e f = none_out q e
  in_lines q k (suc n) e f =
      out_cases q (line_place k) (line_places p t v r.before (suc k) n) e (λ z. f k (omega arith) (omega arith) z)
      (λ x. in_lines q (suc k) n x (λ j a b. f j (omega arith) (omega arith)))

  lines_in : (j k n : ℕ) → k ≤ j → j < k + n → is_out (line_place j) (line_places p t v r.before k n) ≡ false
  unfolding line_places
  lines_in j k zero a b = absurd (omega arith)
  lines_in j k (suc n) a b =
      ⊎_elim
      (λ y. out_there (line_place j) (line_place k) (line_places p t v r.before (suc k) n) (lines_in j (suc k) n y (omega arith)))
      (λ y. let z : j ≡ k = omega arith in rw z (out_here (line_place k) (line_places p t v r.before (suc k) n)))
      (lt_or_le k j)

-- ---- the range's numbers
pub range_legal : (t : List ℤ) (v : ℕ) (r : Row) (z : ℤ) → in_range r z ≡ true → legal t v r z ≡ true
unfolding legal
range_legal t v r z e = rw e

pub line_legal : (t : List ℤ) (v : ℕ) (r : Row) (k : ℕ) → k < r.lines → legal t v r (line_value t v r k) ≡ true
unfolding legal on_line
line_legal t v r k h =
    rw (any_holds (λ j. eq_z (line_value t v r j) (line_value t v r k)) r.lines k h (same_self (line_value t v r k)))
    (or_true (in_range r (line_value t v r k)))

module _ (r : Row) where
  in_parts_lem : {A : Type 0} (z : ℤ) → in_range r z ≡ true → (r.range ≡ true → le_z r.from z ≡ true → le_z z r.to ≡ true → A) → A
  unfolding in_range
  in_parts_lem z e f =
      let h = and_right r.range (le_z r.from z && le_z z r.to) e in
      f (and_left r.range (le_z r.from z && le_z z r.to) e) (and_left (le_z r.from z) (le_z z r.to) h)
      (and_right (le_z r.from z) (le_z z r.to) h)

  parts_in : (z : ℤ) → r.range ≡ true → le_z r.from z ≡ true → le_z z r.to ≡ true → in_range r z ≡ true
  unfolding in_range
  parts_in z g x y = rw (g, x, y)

  -- where the range has its lower end it has its upper
  pub to_in : in_range r r.from ≡ true → in_range r r.to ≡ true
  to_in e = in_parts_lem r.from e (λ g x y. parts_in r.to g y (le_self r.to))

  -- a number of a range makes its lower end one
  from_in : (z : ℤ) → in_range r z ≡ true → in_range r r.from ≡ true
  from_in z e = in_parts_lem z e (λ g x y. parts_in r.from g (le_self r.from) (le_join r.from z r.to x y))

-- counts are ordered as their numbers
count_order : (a b : ℤ) → a ≡ pos (count_of a) → b ≡ pos (count_of b) → le_z a b ≡ true → count_of a ≤ count_of b
unfolding count_of
count_order (pos a) (pos b) f g e = leb-true a b e
count_order (pos a) (negsuc b) f g e = let z : ◌≡◌ {A = ℕ} 0 1 = cc in absurd (omega arith)
count_order (negsuc a) b f g e = let z : ◌≡◌ {A = ℕ} 0 1 = cc in absurd (omega arith)

order_count : (a b : ℕ) → a ≤ b → le_z (pos a) (pos b) ≡ true
order_count a b h = le-leb a b h

count_pos : (d : ℕ) → count_of (pos d) ≡ d
unfolding count_of
count_pos d = refl

module _ {t : List ℤ} {v : ℕ} {r : Row} {size : ℕ} (b : BitsKnown t v r size) where
  abbrev first : ℕ
  first = r.start - 1

  abbrev bits : List ℕ
  bits = bit_places first (categories t v r)

  -- a legal category's place is one of the bitstring's
  legal_in : (q d : ℕ) → 1 ≤ d → legal t v r (pos d) ≡ true → q ≡ first + (d - 1) → is_out q bits ≡ false
  legal_in q d l e z =
      let h : d ≤ r.width = rw (count_pos d) at (b.high (pos d) e) in
      rw z (bits_in (legal t v r) first d 1 r.width l (omega arith) e)

  -- the range has its ends: from 1 on, and not above w
  pub range_low : in_range r r.from ≡ true → 1 ≤ count_of r.from
  range_low e = b.low r.from (range_legal t v r r.from e)

  pub range_high : in_range r r.from ≡ true → count_of r.to ≤ r.width
  range_high e = b.high r.to (range_legal t v r r.to (to_in r e))

  pub range_ends : in_range r r.from ≡ true → count_of r.from ≤ count_of r.to
  range_ends e =
      let f = b.count r.from (range_legal t v r r.from e) in
      let g = b.count r.to (range_legal t v r r.to (to_in r e)) in
      count_order r.from r.to f g (in_parts_lem r r.from e (λ k x y. y))

  -- a number between the ends is in the range
  between : (d : ℕ) → in_range r r.from ≡ true → count_of r.from ≤ d → d ≤ count_of r.to → in_range r (pos d) ≡ true
  between d e l h =
      let f = b.count r.from (range_legal t v r r.from e) in
      let g = b.count r.to (range_legal t v r r.to (to_in r e)) in
      let x : le_z r.from (pos d) ≡ true = rw f (order_count (count_of r.from) d l) in
      let y : le_z (pos d) r.to ≡ true = rw g (order_count d (count_of r.to) h) in
      in_parts_lem r r.from e (λ k m n. parts_in r (pos d) k x y)

  range_bits : (q : ℕ) → is_out q (range_places first r) ≡ false → is_out q bits ≡ false
  unfolding range_places
  range_bits q = go (in_range r r.from) refl
    where
      go : (x : Bool) → in_range r r.from ≡ x → is_out q
          (cond x (run (first + (count_of r.from - 1)) (count_of r.to - count_of r.from + 1)) []) ≡ false
          → is_out q bits ≡ false
      go false e o = none_out q o
      go true e o =
          let m = range_low e in let n = range_ends e in
          in_run q (first + (count_of r.from - 1)) (count_of r.to - count_of r.from + 1) o (λ l h.
          legal_in q (q - first + 1) (omega arith)
          (range_legal t v r (pos (q - first + 1)) (between (q - first + 1) e (omega arith) (omega arith)))
          (omega arith))

  bits_range : (q d : ℕ) → 1 ≤ d → in_range r (pos d) ≡ true → q ≡ first + (d - 1) → is_out q (range_places first r) ≡ false
  unfolding range_places
  bits_range q d l e z =
      in_parts_lem r (pos d) e (λ k m n.
      let i : in_range r r.from ≡ true = from_in r (pos d) e in
      let f = b.count r.from (range_legal t v r r.from i) in
      let g = b.count r.to (range_legal t v r r.to (to_in r i)) in
      let c : pos d ≡ pos (count_of (pos d)) = rw (count_pos d) in
      let u : count_of r.from ≤ d = rw (count_pos d) at (count_order r.from (pos d) f c m) in
      let w : d ≤ count_of r.to = rw (count_pos d) at (count_order (pos d) r.to c g n) in
      let o = range_low i in
      rw i (run_in q (first + (count_of r.from - 1)) (count_of r.to - count_of r.from + 1) (omega arith) (omega arith)))

  line_bits : (q : ℕ) → is_out q (line_places first t v r.before 0 r.lines) ≡ false → is_out q bits ≡ false
  line_bits q o =
      in_lines first t v r q 0 r.lines o (λ j a h z.
      let e = line_legal t v r j (omega arith) in
      let c = b.count (line_value t v r j) e in
      legal_in q (count_of (line_value t v r j)) (b.low (line_value t v r j) e) (rw (← c) e) z)

  bits_line : (q d : ℕ) → on_line t v r (pos d) ≡ true → q ≡ first + (d - 1) → is_out q (line_places first t v r.before 0 r.lines)
      ≡ false
  unfolding on_line
  bits_line q d e z =
      any_some (λ k. eq_z (line_value t v r k) (pos d)) r.lines e (λ k h s.
      let u : count_of (line_value t v r k) ≡ d = ap count_of (same_true (line_value t v r k) (pos d) s) ∙ count_pos d in
      let w : q ≡ first + (count_of (line_value t v r k) - 1) = rw u z in
      rw w (lines_in first t v r k 0 r.lines (omega arith) (omega arith)))

  legal_ways : {A : Type 0} (z : ℤ) → legal t v r z ≡ true → (in_range r z ≡ true → A) → (on_line t v r z ≡ true → A) → A
  unfolding legal
  legal_ways z e f g = ⊎_elim f g (either_true (in_range r z) (on_line t v r z) e)

  and_ways : {A : Type 0} (x y : Bool) → (x && y) ≡ false → (x ≡ false → A) → (y ≡ false → A) → A
  and_ways true y e f g = g e
  and_ways false y e f g = f refl

  both_left : (x y : Bool) → x ≡ false → (x && y) ≡ false
  both_left x y e = rw e

  both_right : (x y : Bool) → y ≡ false → (x && y) ≡ false
  both_right true y e = e
  both_right false y e = refl

  -- THE BITSTRING'S PLACES are those of its range and those of its lines
  pub bits_same : (q : ℕ) → is_out q (range_places first r ++ line_places first t v r.before 0 r.lines) ≡ is_out q bits
  bits_same q =
      same_fails _ (is_out q bits)
      (λ e. and_ways (is_out q (range_places first r)) (is_out q (line_places first t v r.before 0 r.lines))
      (sym (out_both q (range_places first r) (line_places first t v r.before 0 r.lines)) ∙ e) (range_bits q) (line_bits q))
      (λ e. out_both q (range_places first r) (line_places first t v r.before 0 r.lines)
      ∙ in_bits (legal t v r) first q 1 r.width e (λ d a h g z.
      legal_ways (pos d) g (λ x. both_left _ _ (bits_range q d a x z))
      (λ x. both_right (is_out q (range_places first r)) _ (bits_line q d x z))))
