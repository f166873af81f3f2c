-- A string of a definition, cut off before its closing quote: what the call decodes is what the string says.
use Rattle.std.specs.Prelude.{◌≡◌, refl, ◌↔◌, Bool, true, false, cond, ◌&&◌, List, [], ◌∷◌, ◌++◌, ℕ, suc, ◌+◌, ◌-◌, ◌≤◌, ◌<◌, eqb}
use Rattle.std.specs.Prelude.{leb, length, take, drop}
use Rattle.std.proofs.Common.{◌∙◌, sym, ap, arith, length-drop, length-take-le, take-add, drop_at, eq-eqb, le-leb, eqb-true, leb-true}
use Rattle.std.proofs.lemmas.List.{drop-append-le}
use Rattle.std.proofs.Math.Seq.{take-append_seam}
use Rattle.below.specs.Below.{and_left, and_right}
use Rattle.ascii.specs.rule.Class.{class_of}
use Rattle.scan.specs.rule.Text.{sign, kept, text}
use Rattle.marks.specs.declared.Inside.{Inside}
use Rattle.marks.specs.declared.Inside.TheVariants.{Plain, Opened, Shut, Ell, Pair, Low}
use Rattle.marks.specs.declared.Move.{Move}
use Rattle.marks.specs.declared.Move.TheVariants.{Go, Closed, Wrong}
use Rattle.marks.specs.declared.Skip.{Skip}
use Rattle.marks.specs.declared.Skip.TheVariants.{Past, Unclosed, Bad}
use Rattle.marks.specs.rule.Marks.{is_hex, inside_of, moved, string_of}
use Rattle.marks.specs.rule.Spelling.{gives_of, decode_of}
use Rattle.marks.specs.Spelling.{Spelt}
use Rattle.marks.proofs.Complete.{string_complete}
use Rattle.marks.proofs.Spellings.{string_exactly}
use Rattle.texts.specs.rule.Decode.{closes_at, cut_off, inside_text, signs_at}

pub none : {A : Type 0} → ◌≡◌ {A = ℕ} 0 1 → A
none e = absurd (omega arith)

-- only in plain text a string closes
closes_plain : (s : Inside) (b p : ℕ) → inside_of s b p ≡ Closed → s ≡ Plain
unfolding inside_of
closes_plain Plain b p = λ e. refl
closes_plain (Opened o) b p = by (eqb b 34) (eqb b 123) (eqb b 78) (is_hex b) where
  by : (x y z k : Bool) → cond x (Go (Shut o)) (cond y (Go (Shut o)) (cond z (Go (Ell o)) (cond k (Go (Low o)) (Wrong o)))) ≡ Closed
      → Opened o ≡ Plain
  by true y z k e = none cc
  by false true z k e = none cc
  by false false true k e = none cc
  by false false false true e = none cc
  by false false false false e = none cc
closes_plain (Shut o) b p = by (eqb b 125) where
  by : (x : Bool) → cond x (Go Plain) (Wrong o) ≡ Closed → Shut o ≡ Plain
  by true e = none cc
  by false e = none cc
closes_plain (Ell o) b p = by (eqb b 76) where
  by : (x : Bool) → cond x (Go (Shut o)) (Wrong o) ≡ Closed → Ell o ≡ Plain
  by true e = none cc
  by false e = none cc
closes_plain (Pair o) b p = by (eqb b 125) (is_hex b) where
  by : (x k : Bool) → cond x (Go Plain) (cond k (Go (Low o)) (Wrong o)) ≡ Closed → Pair o ≡ Plain
  by true k e = none cc
  by false true e = none cc
  by false false e = none cc
closes_plain (Low o) b p = by (is_hex b) where
  by : (k : Bool) → cond k (Go (Pair o)) (Wrong o) ≡ Closed → Low o ≡ Plain
  by true e = none cc
  by false e = none cc

-- bytes from place p on, in which a string read on from s is over at n: its closing quote is byte k, and what stands before it is closed
-- by a quote put there and says the same
record Cut (l : List ℕ) (p : ℕ) (s : Inside) (a n : ℕ) : Type 0 where
  pub k : ℕ
  pub there : n ≡ p + k + 1
  pub few : k < length l
  pub closes : string_of s (kept p (take k l ++ 34 ∷ [])) ≡ Past n
  pub same : decode_of s a (kept p (take k l)) ≡ decode_of s a (kept p l)

cut : (l : List ℕ) (p : ℕ) (s : Inside) (a n : ℕ) → string_of s (kept p l) ≡ Past n → Cut l p s a n
unfolding string_of kept decode_of inside_of class_of
cut [] p s a n = λ e. none cc
cut (x ∷ l) p s a n = by (eqb (class_of x) 0) refl (λ u y. cut l (p + 1) u y n) where
  by : (q : Bool) → eqb (class_of x) 0 ≡ q → ((u : Inside) (y : ℕ) → string_of u (kept (p + 1) l) ≡ Past n → Cut l (p + 1) u y n)
      → string_of s (cond q (kept (p + 1) l) (sign p x (kept (p + 1) l))) ≡ Past n → Cut (x ∷ l) p s a n
  by true f ih e =
      let c = ih s a e in
      record {
        k = suc c.k;
        there = c.there ∙ omega arith;
        few = omega (arith, c.few);
        closes = rw f c.closes;
        same = rw f
            c.same;
      }
  by false f ih e = at_byte (inside_of s x p) refl e where
    at_byte : (m : Move) → inside_of s x p ≡ m → moved m (λ u. string_of u (kept (p + 1) l)) (Past (p + 1)) ≡ Past n → Cut (x ∷ l) p s a n
    at_byte (Go u) g e =
        let c = ih u x e in
        record {
          k = suc c.k;
          there = c.there ∙ omega arith;
          few = omega (arith, c.few);
          closes = rw (f, g)
              c.closes;
          same = rw (f, g) (ap (λ r. gives_of s a x ++ r) c.same);
        }
    at_byte Closed g e =
        let j : p + 1 ≡ n = cc in
        record { k = 0; there = omega arith; few = omega arith; closes = rw (closes_plain s x p g, j); same = rw (f, g) }
    at_byte (Wrong o) g e = none cc

-- the stretch as its bytes
stretch : (d : List ℕ) (place long : ℕ) → place + long ≤ length d → drop place (take (place + long) d) ≡ take long (drop place d)
stretch d place long h = rw (take-add place long d) (drop_at (take place d) (take long (drop place d)) place
    (length-take-le place d (omega arith)))

pub record Says (d : List ℕ) (place long : ℕ) : Type 0 where
  pub inside : inside_text d place long ≡ true
  pub says : signs_at d place long ≡ decode_of Plain 0 (text d place)

-- STRING: where a string of the definition has its closing quote just behind the stretch, the stretch is the inside of a text, and says
-- what the string does
pub string_says : (d : List ℕ) (place long : ℕ) → string_of Plain (text d place) ≡ Past (place + long + 1) → Says d place long
unfolding inside_text signs_at text
string_says d place long e =
    let c = cut (drop place d) place Plain 0 (place + long + 1) e in
    let j : long ≡ c.k = omega (arith, c.there) in
    let n : length (drop place d) ≡ length d - place = length-drop place d in
    let h : place + long ≤ length d = omega (arith, c.few) in
    let t : length (take (place + long) d) ≡ place + long = length-take-le (place + long) d h in
    let v = stretch d place long h in
    record {
      inside = rw (
        le-leb (place + long) (length d) h,
        drop-append-le place (take (place + long) d) (34 ∷ [])
            (omega arith),
        v,
        j,
        c.closes ∙ ap Past (ap (λ (i : ℕ). place + i + 1) j),
      ) (eq-eqb (place + c.k + 1) (place + c.k + 1) refl);
      says = rw (v, j) c.same;
    }

-- ---- the inside of a text in the paper's words
-- what the stretch says is what it says with the quote behind it
closed_same : (l : List ℕ) (p : ℕ) (s : Inside) (a : ℕ) → string_of s (kept p (l ++ 34 ∷ [])) ≡ Past (p + length l + 1)
    → decode_of s a (kept p (l ++ 34 ∷ [])) ≡ decode_of s a (kept p l)
closed_same l p s a e =
    let c = cut (l ++ 34 ∷ []) p s a (p + length l + 1) e in
    let j : c.k ≡ length l = omega (arith, c.there) in
    sym c.same ∙ rw (j, take-append_seam l (34 ∷ []))

closes_true : (n : ℕ) (r : Skip) → closes_at n r ≡ true → r ≡ Past n
closes_true n (Past m) e = ap Past (eqb-true m n e)
closes_true n Unclosed e = none cc
closes_true n (Bad p) e = none cc

-- INSIDE: a stretch is the inside of a text exactly when it lies in the definition, and it and a quote behind it are pieces, which say
-- its signs, and that quote
pub inside_exactly : (d : List ℕ) (place long : ℕ) → (inside_text d place long ≡ true) ↔
    ((place + long ≤ length d) × Spelt (text (cut_off d place long ++ 34 ∷ []) place) (signs_at d place long) (place + long + 1))
unfolding inside_text signs_at text
inside_exactly d place long = (to, from) where
  whole : List ℕ
  whole = take (place + long) d

  bytes : place + long ≤ length d → drop place (whole ++ 34 ∷ []) ≡ drop place whole ++ 34 ∷ []
  bytes h = drop-append-le place whole (34 ∷ []) (omega (arith, length-take-le (place + long) d h))

  size : place + long ≤ length d → length (drop place whole) ≡ long
  size h = length-drop place whole ∙ omega (arith, length-take-le (place + long) d h)

  to : (leb (place + long) (length d) && closes_at (place + long + 1) (string_of Plain (kept place (drop place (whole ++ 34 ∷ []))))) ≡ true
      → (place + long ≤ length d) × Spelt (kept place (drop place (whole ++ 34 ∷ [])))
      (decode_of Plain 0 (kept place (drop place whole))) (place + long + 1)
  to e =
      let h = leb-true (place + long) (length d) (and_left (leb (place + long) (length d)) _ e) in
      let f : string_of Plain (kept place (drop place (whole ++ 34 ∷ []))) ≡ Past (place + long + 1) =
      closes_true (place + long + 1) _ (and_right (leb (place + long) (length d)) _ e) in
      let g : string_of Plain (kept place (drop place whole ++ 34 ∷ [])) ≡ Past (place + length (drop place whole) + 1) = rw (size h)
      (rw (bytes h) at f) in
      (h, rw (bytes h, sym (closed_same (drop place whole) place Plain 0 g)) ((string_exactly _ _).0 (rw (bytes h) at f)))

  from : (place + long ≤ length d) × Spelt (kept place (drop place (whole ++ 34 ∷ [])))
      (decode_of Plain 0 (kept place (drop place whole))) (place + long + 1)
      → (leb (place + long) (length d) && closes_at (place + long + 1) (string_of Plain (kept place (drop place (whole ++ 34 ∷ [])))))
      ≡ true
  from p = rw (le-leb (place + long) (length d) p.0, string_complete p.1) (eq-eqb (place + long + 1) (place + long + 1) refl)
