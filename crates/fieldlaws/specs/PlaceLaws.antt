-- The value places of a row: once each, inside the position, and as many as a bitstring's categories or a spread's bytes.
use Rattle.std.specs.Prelude.{◌≡◌, refl, Bool, ℤ, pos, length}
use Rattle.std.proofs.Common.{sym, ap, zero-mul, length-append}
use mathlib.Core.List.{List, [], ◌∷◌, ◌++◌}
use Prim.Native.Nat.{ℕ, zero, suc, ◌+◌, ◌-◌, ◌*◌, ◌≤◌, ◌<◌}
use Rattle.std.proofs.Math.Nat.{suc-mul}
use native.Mathlib.Omega.{arith}
use Rattle.places.specs.rule.Places.{run, Out, Apart}
use Rattle.places.specs.Places.{Once, Below}
use Rattle.places.specs.Laws.{out_run, once_run, below_run, length_run}
use Rattle.layout.specs.declared.Row.{Row}
use Rattle.layout.specs.declared.Kind.{Kind}
use Rattle.layout.specs.declared.Kind.TheVariants.{Single, Multiple, Quantity, Character, Logical}
use Rattle.layout.specs.declared.Spread.TheVariants.{Bits, Fields}
use Rattle.fields.specs.rule.Row.{defined, bit_places, spread_places, places_by, places_of}
use Rattle.fields.specs.Facts.{KindFacts, PositionFacts, RowFacts}
use Rattle.fieldlaws.specs.Tests.{either}

out_append : (q : ℕ) (ps qs : List ℕ) → Out q ps → Out q qs → Out q (ps ++ qs)
out_append q [] qs a b = b
out_append q (p ∷ ps) qs a b = (a.0, out_append q ps qs a.1 b)

once_append : (ps qs : List ℕ) → Once ps → Once qs → Apart ps qs → Once (ps ++ qs)
once_append [] qs a b o = b
once_append (p ∷ ps) qs a b o = (out_append p ps qs a.0 o.0, once_append ps qs a.1 b o.1)

below_append : (m : ℕ) (ps qs : List ℕ) → Below m ps → Below m qs → Below m (ps ++ qs)
below_append m [] qs a b = b
below_append m (p ∷ ps) qs a b = (a.0, below_append m ps qs a.1 b)

-- ---- a bitstring: byte c of the position for each defined category c
module _ (ok : ℤ → Bool) (p : ℕ) where
  out_bits : (q c n : ℕ) → 1 ≤ c → q < p + (c - 1) → Out q (bit_places p (defined ok c n))
  unfolding bit_places defined
  out_bits q c zero h l = tt
  out_bits q c (suc n) h l =
      let o = out_bits q (suc c) n (omega arith) (omega arith) in
      either (λ (cs : List ℕ). Out q (bit_places p cs)) (ok (pos c)) (c ∷ defined ok (suc c) n) (defined ok (suc c) n)
      (λ e. omega arith, o) o

  once_bits : (c n : ℕ) → 1 ≤ c → Once (bit_places p (defined ok c n))
  unfolding bit_places defined
  once_bits c zero h = tt
  once_bits c (suc n) h =
      let o = once_bits (suc c) n (omega arith) in
      either (λ (cs : List ℕ). Once (bit_places p cs)) (ok (pos c)) (c ∷ defined ok (suc c) n) (defined ok (suc c) n)
      (out_bits (p + (c - 1)) (suc c) n (omega arith) (omega arith), o) o

  below_bits : (m c n : ℕ) → 1 ≤ c → p + (c - 1) + n ≤ m → Below m (bit_places p (defined ok c n))
  unfolding bit_places defined
  below_bits m c zero h l = tt
  below_bits m c (suc n) h l =
      let o = below_bits m (suc c) n (omega arith) (omega arith) in
      either (λ (cs : List ℕ). Below m (bit_places p cs)) (ok (pos c)) (c ∷ defined ok (suc c) n) (defined ok (suc c) n) (omega arith, o) o

pub length_bits : (p : ℕ) (cs : List ℕ) → length (bit_places p cs) ≡ length cs
unfolding bit_places
length_bits p [] = refl
length_bits p (c ∷ cs) = ap suc (length_bits p cs)

-- ---- a spread: the last w bytes of each subfield of b
module _ (b w : ℕ) (holds : w ≤ b) where
  out_spread : (q p n : ℕ) → q < p → Out q (spread_places p b w n)
  unfolding spread_places
  out_spread q p zero h = tt
  out_spread q p (suc n) h =
      out_append q (run (p + (b - w)) w) (spread_places (p + b) b w n) (out_run q (p + (b - w)) w (omega arith))
      (out_spread q (p + b) n (omega arith))

  apart_spread : (a k p n : ℕ) → a + k ≤ p → Apart (run a k) (spread_places p b w n)
  apart_spread a zero p n h = tt
  apart_spread a (suc k) p n h = (out_spread a p n (omega arith), apart_spread (suc a) k p n (omega arith))

  once_spread : (p n : ℕ) → Once (spread_places p b w n)
  unfolding spread_places
  once_spread p zero = tt
  once_spread p (suc n) =
      once_append (run (p + (b - w)) w) (spread_places (p + b) b w n) (once_run (p + (b - w)) w) (once_spread (p + b) n)
      (apart_spread (p + (b - w)) w (p + b) n (omega arith))

  below_spread : (m p n : ℕ) → p + n * b ≤ m → Below m (spread_places p b w n)
  unfolding spread_places
  below_spread m p zero h = tt
  below_spread m p (suc n) h =
      let l : p + b + n * b ≤ m = omega (arith, suc-mul n b) in
      below_append m (run (p + (b - w)) w) (spread_places (p + b) b w n) (below_run m (p + (b - w)) w (omega arith))
      (below_spread m (p + b) n l)

pub length_spread : (b w p n : ℕ) → length (spread_places p b w n) ≡ n * w
unfolding spread_places
length_spread b w p zero = sym (zero-mul w)
length_spread b w p (suc n) =
    rw (length-append, length_run, length_spread b w (p + b) n, suc-mul n w) (omega arith)

-- ---- every kind
once_by : (k : Kind) (t : List ℤ) (v : ℕ) (r : Row) → KindFacts k r → Once (places_by k t v r)
unfolding places_by
once_by Single t v r h = once_run (r.finish - r.width) r.width
once_by (Multiple Bits) t v r h = once_bits _ (r.start - 1) 1 r.width (omega arith)
once_by (Multiple (Fields n b)) t v r h = once_spread b r.width h.holds (r.start - 1) n
once_by (Quantity f) t v r h = once_run (r.finish - r.width) r.width
once_by Character t v r h = once_run (r.start - 1) r.width
once_by Logical t v r h = once_run (r.finish - 1) 1

below_by : (k : Kind) (t : List ℤ) (v len : ℕ) (r : Row) → PositionFacts len r → KindFacts k r → Below len (places_by k t v r)
unfolding places_by
below_by Single t v len r p h = below_run len (r.finish - r.width) r.width (omega arith)
below_by (Multiple Bits) t v len r p h = below_bits _ (r.start - 1) len 1 r.width (omega arith) (omega arith)
below_by (Multiple (Fields n b)) t v len r p h = below_spread b r.width h.holds len (r.start - 1) n (omega arith)
below_by (Quantity f) t v len r p h = below_run len (r.finish - r.width) r.width (omega arith)
below_by Character t v len r p h = below_run len (r.start - 1) r.width (omega arith)
below_by Logical t v len r p h = below_run len (r.finish - 1) 1 (omega arith)

module _ {t : List ℤ} {v len : ℕ} (r : Row) (facts : RowFacts t v len r) where
  -- a row's value places come once each
  pub places_once : Once (places_of t v r)
  places_once = once_by r.kind t v r facts.kind

  -- and lie in the first len bytes
  pub places_inside : Below len (places_of t v r)
  places_inside = below_by r.kind t v len r facts.position facts.kind
