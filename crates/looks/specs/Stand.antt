-- What stands in the definition byte for byte as it is to be written.
use Rattle.std.specs.Prelude.{◌≡◌, List, ◌++◌, ℕ, ◌+◌, ◌-◌, ◌≤◌, ◌<◌, length, get_or, take}
use Rattle.std.specs.Prelude.{drop}
use Rattle.std.proofs.Common.{sym, ap, ◌∙◌, arith, length-drop, length-append, length-take-le, ext_get_or, get_or-take, get_or-drop}
use Rattle.std.proofs.Common.{take-add, drop-drop, get_or-append-add}
use Rattle.std.proofs.Math.ListN.{get_or-append}
use Rattle.clean_text.specs.rule.Span.{span_of}
use Rattle.steps.specs.declared.Span.{Span}
use Rattle.looks.specs.Plain.{Plain, plain_bytes}

-- the bytes s stand from a place to before another
pub record Stands (d : List ℕ) (a : ℕ) (s : List ℕ) (e : ℕ) : Type 0 where
  pub on : a ≤ e
  pub within : e ≤ length d
  pub bytes : s ≡ take (e - a) (drop a d)

-- how many they are, and each of them
module _ {d : List ℕ} {a : ℕ} {s : List ℕ} {e : ℕ} (x : Stands d a s e) where
  pub stands_end : e ≡ a + length s
  stands_end =
      let n : e - a ≤ length (drop a d) = rw (length-drop) (omega (arith, x.on, x.within)) in
      let l : length (take (e - a) (drop a d)) ≡ e - a = length-take-le (e - a) (drop a d) n in
      let m : length s ≡ e - a = ap length x.bytes ∙ l in
      omega (arith, x.on)

  pub stands_at : (j : ℕ) → j < length s → get_or d (a + j) 0 ≡ get_or s j 0
  stands_at j h =
      let q = stands_end in
      sym (ap (λ (l : List ℕ). get_or l j 0) x.bytes ∙ get_or-take (e - a) (drop a d) j 0 (omega arith) ∙ get_or-drop a d j 0)

  pub stands_first : 0 < length s → get_or d a 0 ≡ get_or s 0 0
  stands_first h = let k : a + 0 ≡ a = omega arith in rw k at (stands_at 0 h)

-- a literal, byte by byte
pub literal_stands : (d : List ℕ) (a : ℕ) (w : List ℕ) → a + length w ≤ length d
    → ((j : ℕ) → j < length w → get_or d (a + j) 0 ≡ get_or w j 0) → Stands d a w (a + length w)
literal_stands d a w h f =
    let e : a + length w - a ≡ length w = omega arith in
    let n : length w ≤ length (drop a d) = rw (length-drop) (omega arith) in
    let l : length (take (length w) (drop a d)) ≡ length w = length-take-le (length w) (drop a d) n in
    record {
      on = omega arith;
      within = h;
      bytes = rw e (ext_get_or 0 w (take (length w) (drop a d)) (sym l)
          (λ j g. rw (get_or-take (length w) (drop a d) j 0 g, get_or-drop a d j 0) (sym (f j g))));
    }

-- a part of what stands
module _ {d : List ℕ} {a e : ℕ} (s t : List ℕ) (x : Stands d a (s ++ t) e) where
  both : e ≡ a + (length s + length t)
  both = stands_end x ∙ ap (λ (k : ℕ). a + k) (length-append s t)

  pub stands_front : Stands d a s (a + length s)
  stands_front = literal_stands d a s (omega (arith, both, x.within))
      (λ j g. stands_at x j (rw (length-append s t) (omega arith)) ∙ get_or-append s t 0 j g)

  pub stands_rest : Stands d (a + length s) t e
  stands_rest =
      let q : a + length s + length t ≡ e = omega (arith, both) in
      rw q at
      (literal_stands d (a + length s) t (omega (arith, both, x.within))
      (λ j g.
      let i : a + (length s + j) ≡ a + length s + j = omega arith in
      (rw i at (stands_at x (length s + j) (rw (length-append s t) (omega arith)))) ∙ get_or-append-add s t j 0))

-- a stretch without a dropped byte
pub plain_stands : {d : List ℕ} {a e : ℕ} → Plain d a e → Stands d a (span_of d a e) e
plain_stands p = record { on = p.on; within = p.within; bytes = plain_bytes p }

cut : (d : List ℕ) (a b e : ℕ) → a ≤ b → b ≤ e → take (b - a) (drop a d) ++ take (e - b) (drop b d) ≡ take (e - a) (drop a d)
cut d a b e h g =
    let p : (b - a) + (e - b) ≡ e - a = omega arith in
    let q : a + (b - a) ≡ b = omega arith in
    let t = take-add (b - a) (e - b) (drop a d) in
    sym (rw (p, drop-drop (b - a) a d, q) at t)

-- one behind the other
pub stands_then : {d : List ℕ} {a b e : ℕ} {s t : List ℕ} → Stands d a s b → Stands d b t e → Stands d a (s ++ t) e
stands_then {d} {a} {b} {e} x y = record {
  on = omega (arith, x.on, y.on);
  within = y.within;
  bytes = rw (x.bytes, y.bytes) (cut d a b e x.on y.on);
}

-- a stretch with the literals around it
pub record Framed (d : List ℕ) (g : ℕ) (pre : List ℕ) (s : Span) (post : List ℕ) (e : ℕ) : Type 0 where
  pub front : Stands d g pre s.from
  pub back : Stands d s.end post e
