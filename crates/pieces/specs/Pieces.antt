-- What follows from rule/Pieces.antt, and what the code keeps.
use Rattle.std.specs.Prelude.{◌≡◌, Bool, true, false, cond, eqb, ltb}
use Rattle.std.proofs.Math.Path.{refl, ap}
use Rattle.std.proofs.Common.{sym, ◌∙◌, length-drop, drop-drop, take-add, ⊎_elim}
use mathlib.Core.List.{List, [], ◌∷◌, ◌++◌}
use Prim.Native.Nat.{ℕ, zero, suc, ◌+◌, ◌-◌, ◌≤◌, ◌<◌}
use Rattle.std.proofs.Math.Numerals.{add-one}
use native.Mathlib.Omega.{arith}
use borrow.Author.Tests.{eq-eqb, ne_eqb, ltb-false, le-ltb}
use Rattle.std.proofs.Math.ListN.{length, take, drop, get_or, drop_of_length-le}
use Rattle.std.proofs.Math.Seq.{drop-cons}
use Rattle.below.specs.Below.{lt_or_le}
use Rattle.lows.specs.rule.Lows.{low_at}
use Rattle.lows.specs.Lows.{low_among, among_more, Clear}
use Rattle.cuts.specs.declared.Terminator.{Terminator}
use Rattle.cuts.specs.rule.Cut.{one_byte, two_bytes, no_ending, begins_with, terminator_at}
use Rattle.cuts.specs.Records.{part}
use Rattle.pieces.specs.declared.Span.{Span}
use Rattle.pieces.specs.rule.Pieces.{boundary_at, Piece, piece, first_piece, pieces_behind, onto, cut_from}

-- how many bytes are below 32
unfoldable pub low_count : List ℕ → ℕ
low_count [] = 0
low_count (b ∷ r) = cond (ltb b 32) 1 0 + low_count r

-- a place from `from` on: no byte before it is below 32, and it has one or is the end
pub record LowFrom (d : List ℕ) (from to : ℕ) : Type 0 where
  pub clear : Clear d from to
  pub low : to < length d → low_at d to ≡ true

-- no boundary stands between two places
pub record NoBoundary (d : List ℕ) (from to : ℕ) : Type 0 where
  pub on : from ≤ to
  pub within : to ≤ length d
  pub nowhere : (j : ℕ) → from ≤ j → j < to → boundary_at (drop j d) ≡ no_ending

-- the piece that a span says, from a place on
abbrev pub piece_at : List ℕ → ℕ → Span → Piece
piece_at d from p = piece (part d from p.stop) p.boundary

-- the first piece from a place on: where it stops and where the next begins, and its bytes below 32
pub record Spans (d : List ℕ) (from : ℕ) (p : Span) : Type 0 where
  pub on : from ≤ p.stop
  pub within : p.stop + p.boundary.size ≤ length d
  pub ahead : from < p.stop + p.boundary.size
  pub cuts : cut_from 0 (drop from d) ≡ piece_at d from p ∷ cut_from 0 (drop (p.stop + p.boundary.size) d)
  pub counted : p.lows ≡ low_count (part d from p.stop)

-- ---- laws, place by place
module _ (d : List ℕ) (i : ℕ) where
  pub boundary_cr : i < length d → get_or d i 0 ≡ 13 → boundary_at (drop i d) ≡ terminator_at 13 10 (drop (i + 1) d)
  unfolding boundary_at
  boundary_cr h e = rw (drop-cons d i 0 h, eq-eqb (get_or d i 0) 13 e, add-one i)

  pub boundary_lf : i < length d → (get_or d i 0 ≡ 13 → ⊥) → get_or d i 0 ≡ 10 → boundary_at (drop i d)
      ≡ terminator_at 10 13 (drop (i + 1) d)
  unfolding boundary_at
  boundary_lf h n e = rw (drop-cons d i 0 h, ne_eqb (get_or d i 0) 13 n, eq-eqb (get_or d i 0) 10 e, add-one i)

  pub boundary_none : i < length d → (get_or d i 0 ≡ 13 → ⊥) → (get_or d i 0 ≡ 10 → ⊥) → boundary_at (drop i d) ≡ no_ending
  unfolding boundary_at
  boundary_none h n m = rw (drop-cons d i 0 h, ne_eqb (get_or d i 0) 13 n, ne_eqb (get_or d i 0) 10 m)

  pub boundary_past : length d ≤ i → boundary_at (drop i d) ≡ no_ending
  unfolding boundary_at
  boundary_past h = rw (drop_of_length-le d h)

  pub boundary_plain : i < length d → low_at d i ≡ false → boundary_at (drop i d) ≡ no_ending
  boundary_plain h e =
      let l : 32 ≤ get_or d i 0 = ltb-false (get_or d i 0) 32 e in
      boundary_none h (λ q. omega arith) (λ q. omega arith)

  -- a byte that no boundary begins with goes onto the first piece
  pub cut_on : i < length d → boundary_at (drop i d) ≡ no_ending → cut_from 0 (drop i d) ≡ onto (get_or d i 0) (cut_from 0 (drop (i + 1) d))
  unfolding cut_from
  cut_on h e = let e' = rw (drop-cons d i 0 h) at e in rw (drop-cons d i 0 h, e', add-one i)

-- a boundary has one byte or two, which stand there
at_fits : (a b : ℕ) (s : List ℕ) → (terminator_at a b s).size ≤ suc (length s)
unfolding terminator_at begins_with
at_fits a b [] = omega arith
at_fits a b (c ∷ s) = go (eqb c b)
  where
    go : (q : Bool) → (cond q (two_bytes a b) (one_byte a b)).size ≤ suc (suc (length s))
    go true = omega arith
    go false = omega arith

at_sized : (a b : ℕ) (s : List ℕ) → (terminator_at a b s).size ≡ 0 → terminator_at a b s ≡ no_ending
unfolding terminator_at
at_sized a b s e = go (begins_with b s) e
  where
    go : (q : Bool) → (cond q (two_bytes a b) (one_byte a b)).size ≡ 0 → cond q (two_bytes a b) (one_byte a b) ≡ no_ending
    go true e = absurd (omega arith)
    go false e = absurd (omega arith)

pub boundary_fits : (s : List ℕ) → (boundary_at s).size ≤ length s
unfolding boundary_at
boundary_fits [] = omega arith
boundary_fits (b ∷ s) = go (eqb b 13) (eqb b 10)
  where
    go : (p q : Bool) → (cond p (terminator_at 13 10 s) (cond q (terminator_at 10 13 s) no_ending)).size ≤ suc (length s)
    go true q = at_fits 13 10 s
    go false true = at_fits 10 13 s
    go false false = omega arith

pub boundary_sized : (s : List ℕ) → (boundary_at s).size ≡ 0 → boundary_at s ≡ no_ending
unfolding boundary_at
boundary_sized [] e = refl
boundary_sized (b ∷ s) e = go (eqb b 13) (eqb b 10) e
  where
    go : (p q : Bool) → (cond p (terminator_at 13 10 s) (cond q (terminator_at 10 13 s) no_ending)).size ≡ 0
        → cond p (terminator_at 13 10 s) (cond q (terminator_at 10 13 s) no_ending) ≡ no_ending
    go true q e = at_sized 13 10 s e
    go false true e = at_sized 10 13 s e
    go false false e = refl

-- what is left after skipping is what is left
skip_drop : (k : ℕ) (s : List ℕ) → cut_from k s ≡ cut_from 0 (drop k s)
unfolding cut_from
skip_drop zero s = refl
skip_drop (suc k) [] = refl
skip_drop (suc k) (b ∷ s) = skip_drop k s

abbrev either : ℕ → List ℕ → Bool → List Piece
either b s q = cond q (onto b (cut_from 0 s)) (piece [] (boundary_at (b ∷ s)) ∷ cut_from ((boundary_at (b ∷ s)).size - 1) s)

cut_either : (b : ℕ) (s : List ℕ) (q : Bool) → either b s q ≡ first_piece (either b s q) ∷ pieces_behind (either b s q)
unfolding onto first_piece pieces_behind
cut_either b s true = refl
cut_either b s false = refl

module _ (d : List ℕ) where
  -- a boundary ends an empty piece
  cut_here : (i : ℕ) → i < length d → 1 ≤ (boundary_at (drop i d)).size
      → cut_from 0 (drop i d) ≡ piece [] (boundary_at (drop i d)) ∷ cut_from 0 (drop (i + (boundary_at (drop i d)).size) d)
  unfolding cut_from
  cut_here i h s =
      let e = drop-cons d i 0 h in
      let s' = rw e at s in
      let w : Terminator = boundary_at (get_or d i 0 ∷ drop (suc i) d) in
      let m : suc i + (w.size - 1) ≡ i + w.size = omega arith in
      rw (e, ne_eqb w.size 0 (λ z. omega arith))
      (ap (λ (x : List Piece). piece [] w ∷ x)
      (skip_drop (w.size - 1) (drop (suc i) d) ∙ ap (cut_from 0) (drop-drop (w.size - 1) (suc i) d ∙ ap (λ (x : ℕ). drop x d) m)))

  -- where anything is left, there is a piece
  cut_some : (i : ℕ) → i < length d
      → cut_from 0 (drop i d) ≡ first_piece (cut_from 0 (drop i d)) ∷ pieces_behind (cut_from 0 (drop i d))
  unfolding cut_from
  cut_some i h = rw (drop-cons d i 0 h) (cut_either (get_or d i 0) (drop (suc i) d)
      (eqb (boundary_at (get_or d i 0 ∷ drop (suc i) d)).size 0))

  -- bytes with no boundary among them are the first piece's
  run_on : (n i : ℕ) (w : Terminator) (rest : List Piece) → i + n ≤ length d
      → ((j : ℕ) → i ≤ j → j < i + n → boundary_at (drop j d) ≡ no_ending)
      → first_piece (cut_from 0 (drop (i + n) d)) ≡ piece [] w → pieces_behind (cut_from 0 (drop (i + n) d)) ≡ rest
      → (first_piece (cut_from 0 (drop i d)) ≡ piece (take n (drop i d)) w) × (pieces_behind (cut_from 0 (drop i d)) ≡ rest)
  unfolding onto first_piece pieces_behind
  run_on zero i w rest h g f b = let e : i + 0 ≡ i = omega arith in (rw e at f, rw e at b)
  run_on (suc n) i w rest h g f b =
      let e : i + suc n ≡ i + 1 + n = omega arith in
      let l : i < length d = omega arith in
      let c = cut_on d i l (g i (omega arith) (omega arith)) in
      let k = run_on n (i + 1) w rest (omega arith) (λ j a z. g j (omega arith) (omega arith)) (rw e at f) (rw e at b) in
      let t : take (suc n) (drop i d) ≡ get_or d i 0 ∷ take n (drop (i + 1) d) = rw (drop-cons d i 0 l, add-one i) in
      (rw (c, k.0, t), ap pieces_behind c ∙ k.1)

  -- A PIECE: no boundary from `from` to `stop`, and one there or the end
  pub piece_next : (from stop : ℕ) → NoBoundary d from stop → from < length d
      → first_piece (cut_from 0 (drop stop d)) ≡ piece [] (boundary_at (drop stop d))
      → pieces_behind (cut_from 0 (drop stop d)) ≡ cut_from 0 (drop (stop + (boundary_at (drop stop d)).size) d)
      → cut_from 0 (drop from d)
      ≡ piece (part d from stop) (boundary_at (drop stop d)) ∷ cut_from 0 (drop (stop + (boundary_at (drop stop d)).size) d)
  piece_next from stop u h f b =
      let e : from + (stop - from) ≡ stop = omega (arith, u.on) in
      let k = run_on (stop - from) from (boundary_at (drop stop d)) (cut_from 0 (drop (stop + (boundary_at (drop stop d)).size) d))
      (rw e u.within) (λ j a z. u.nowhere j a (rw e at z)) (rw e f) (rw e b) in
      cut_some from h ∙ rw (k.0, k.1)

  pub ends_here : (stop : ℕ) → stop < length d → 1 ≤ (boundary_at (drop stop d)).size
      → (first_piece (cut_from 0 (drop stop d)) ≡ piece [] (boundary_at (drop stop d)))
      × (pieces_behind (cut_from 0 (drop stop d)) ≡ cut_from 0 (drop (stop + (boundary_at (drop stop d)).size) d))
  unfolding first_piece pieces_behind
  ends_here stop h s = let c = cut_here stop h s in (ap first_piece c, ap pieces_behind c)

  pub ends_last : (stop : ℕ) → length d ≤ stop
      → (first_piece (cut_from 0 (drop stop d)) ≡ piece [] (boundary_at (drop stop d)))
      × (pieces_behind (cut_from 0 (drop stop d)) ≡ cut_from 0 (drop (stop + (boundary_at (drop stop d)).size) d))
  unfolding first_piece pieces_behind cut_from boundary_at
  ends_last stop h =
      let e = drop_of_length-le d h in
      (rw e, rw (e, drop_of_length-le d {i = stop + 0} (omega arith)))

  -- ---- how far no boundary stands
  pub none_clear : (from to : ℕ) → Clear d from to → NoBoundary d from to
  none_clear from to c = record {
    on = c.on;
    within = c.within;
    nowhere = λ j a b. boundary_plain d j (omega (arith, c.within)) (c.plain j a b);
  }

  -- over a byte that none stands at, and on
  pub none_more : (from i to : ℕ) → NoBoundary d from i → boundary_at (drop i d) ≡ no_ending → NoBoundary d (i + 1) to
      → NoBoundary d from to
  none_more from i to u e v = record {
    on = omega (arith, u.on, v.on);
    within = v.within;
    nowhere = λ j a b. ⊎_elim (λ l. u.nowhere j a l)
        (λ l. ⊎_elim (λ q. let z : j ≡ i = omega arith in rw z e) (λ q. v.nowhere j q b) (lt_or_le j (i + 1))) (lt_or_le j i);
  }

-- ---- counted
pub low_append : (r s : List ℕ) → low_count (r ++ s) ≡ low_count r + low_count s
unfolding low_count
low_append [] s = omega arith
low_append (b ∷ r) s = let h = low_append r s in omega arith

module _ (d : List ℕ) where
  pub part_split : (a i j : ℕ) → a ≤ i → i ≤ j → part d a j ≡ part d a i ++ part d i j
  part_split a i j h l =
      let e : j - a ≡ (i - a) + (j - i) = omega arith in
      let f : a + (i - a) ≡ i = omega arith in
      rw (e, take-add (i - a) (j - i) (drop a d), drop-drop (i - a) a d, f)

  part_one : (i : ℕ) → i < length d → part d i (i + 1) ≡ get_or d i 0 ∷ []
  part_one i h = let e : i + 1 - i ≡ 1 = omega arith in rw (e, drop-cons d i 0 h)

  clear_count : (n i : ℕ) → i + n ≤ length d → ((j : ℕ) → i ≤ j → j < i + n → low_at d j ≡ false) → low_count (take n (drop i d)) ≡ 0
  unfolding low_count
  clear_count zero i h g = refl
  clear_count (suc n) i h g =
      rw (drop-cons d i 0 (omega arith), g i (omega arith) (omega arith))
      (let k = clear_count n (suc i) (omega arith) (λ j a b. g j (omega arith) (omega arith)) in omega arith)

  pub count_clear : (from to : ℕ) → Clear d from to → low_count (part d from to) ≡ 0
  count_clear from to c =
      let e : from + (to - from) ≡ to = omega (arith, c.on) in
      clear_count (to - from) from (rw e c.within) (λ j a b. c.plain j a (rw e at b))

  -- one more that is below 32, and a stretch with none
  pub count_more : (from i to : ℕ) → from ≤ i → i < length d → low_at d i ≡ true → Clear d (i + 1) to
      → low_count (part d from to) ≡ low_count (part d from i) + 1
  unfolding low_count
  count_more from i to h l e c =
      let o = c.on in
      rw (
        part_split from i to h (omega arith),
        low_append (part d from i) (part d i to),
        part_split i (i + 1) to (omega arith) o,
        low_append (part d i (i + 1)) (part d (i + 1) to),
        part_one i l,
        e,
        count_clear (i + 1) to c,
      )
      (omega arith)

-- ---- the spans that the code finds: one with a boundary, and the last, which has none
module _ (d : List ℕ) (from stop lows : ℕ) (h : from < length d) (u : NoBoundary d from stop) (n : lows ≡ low_count (part d from stop))
  where
    pub span_ended : (w : Terminator) → stop < length d → w ≡ boundary_at (drop stop d) → (w.size ≡ 0 → ⊥)
        → Spans d from (record { stop = stop; lows = lows; boundary = w })
    span_ended w l e z =
        let s : 1 ≤ (boundary_at (drop stop d)).size = rw e at (one w z) in
        let x = ends_here d stop l s in record {
          on = u.on;
          within = rw e (omega (arith, boundary_fits (drop stop d), length-drop stop d));
          ahead = rw e (omega (arith, u.on));
          cuts = rw e (piece_next d from stop u h x.0 x.1);
          counted = n;
        }
      where
        one : (w : Terminator) → (w.size ≡ 0 → ⊥) → 1 ≤ w.size
        one w z = omega arith

    pub span_last : length d ≤ stop → Spans d from (record { stop = stop; lows = lows; boundary = no_ending })
    span_last l =
        let x = ends_last d stop l in
        let e = boundary_past d stop l in record {
          on = u.on;
          within = omega (arith, u.within);
          ahead = omega arith;
          cuts = rw e at (piece_next d from stop u h x.0 x.1);
          counted = n;
        }

-- a stretch without a byte below 32: one byte more
pub plain_more : (d : List ℕ) (i k : ℕ) → low_among d i k ≡ false → 32 ≤ get_or d (i + k) 0 → low_among d i (k + 1) ≡ false
plain_more d i k e h = sym (among_more d i k false (sym e)) ∙ le-ltb (get_or d (i + k) 0) 32 h
