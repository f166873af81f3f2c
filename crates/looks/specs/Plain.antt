-- A stretch without a dropped byte: its kept bytes are all of them.
use Rattle.std.specs.Prelude.{◌≡◌, refl, Bool, true, false, cond, List, [], ◌∷◌, ℕ, zero, suc, ◌+◌, ◌-◌, ◌≤◌, ◌<◌, eqb, length}
use Rattle.std.specs.Prelude.{get_or, take, drop}
use Rattle.std.proofs.Common.{sym, ap, subst, arith, length-drop, length-take-le, get_or-take, get_or-drop, ltb-false, ne_eqb, le-leb}
use Rattle.std.proofs.lemmas.Bool.{lt-leb}
use Rattle.ascii.specs.rule.Class.{class_of}
use Rattle.scan.specs.rule.Text.{sign, kept, text}
use Rattle.scan.proofs.Texts.{kept_byte}
use Rattle.lows.specs.Lows.{Clear}
use Rattle.clean_text.specs.rule.Span.{up_to, span_of}

-- within the file, and no byte is below 32
pub record Plain (d : List ℕ) (from end : ℕ) : Type 0 where
  pub on : from ≤ end
  pub within : end ≤ length d
  pub above : (j : ℕ) → from ≤ j → j < end → 32 ≤ get_or d j 0

up_none : (s : List ℕ) (p e : ℕ) → e ≤ p → up_to e (kept p s) ≡ []
unfolding up_to kept
up_none [] p e h = refl
up_none (b ∷ s) p e h = by (eqb (class_of b) 0) (up_none s (p + 1) e (omega arith)) where
  by : (q : Bool) → up_to e (kept (p + 1) s) ≡ [] → up_to e (cond q (kept (p + 1) s) (sign p b (kept (p + 1) s))) ≡ []
  by true i = i
  by false i = rw (le-leb e p h)

up_plain : (s : List ℕ) (p k : ℕ) → k ≤ length s → ((j : ℕ) → j < k → 32 ≤ get_or s j 0) → up_to (p + k) (kept p s) ≡ take k s
unfolding up_to kept
up_plain s p zero h f = up_none s p (p + 0) (omega arith)
up_plain [] p (suc k) h f = absurd (omega arith)
up_plain (b ∷ s) p (suc k) h f =
    let e : p + suc k ≡ p + 1 + k = omega arith in
    let i = up_plain s (p + 1) k (omega arith) (λ j g. f (suc j) (omega arith)) in
    rw (ne_eqb _ 0 (kept_byte b (f 0 (omega arith))), lt-leb (p + suc k) p (omega arith))
    (ap (λ (l : List ℕ). b ∷ l) (subst (λ (n : ℕ). up_to n (kept (p + 1) s) ≡ take k s) (sym e) i))

-- its kept bytes are those that stand there
pub plain_bytes : {d : List ℕ} {from end : ℕ} → Plain d from end → span_of d from end ≡ take (end - from) (drop from d)
unfolding span_of text
plain_bytes {d} {from} {end} p =
    let n : end - from ≤ length (drop from d) = rw (length-drop) (omega (arith, p.on, p.within)) in
    let e : from + (end - from) ≡ end = omega (arith, p.on) in
    let above : (j : ℕ) → j < end - from → 32 ≤ get_or (drop from d) j 0 =
    λ j g. rw (get_or-drop from d j 0) (p.above (from + j) (omega arith) (omega arith)) in
    rw e at (up_plain (drop from d) from (end - from) n above)

pub all_plain_lem : (d : List ℕ) (from end : ℕ) → from ≤ end → end ≤ length d
    → Clear (take (end - from) (drop from d)) 0 (length (take (end - from) (drop from d))) → Plain d from end
all_plain_lem d from end a b c =
    let n : end - from ≤ length (drop from d) = rw (length-drop) (omega arith) in
    let l : length (take (end - from) (drop from d)) ≡ end - from = length-take-le (end - from) (drop from d) n in
    record {
      on = a;
      within = b;
      above = λ j g h.
          let i : from + (j - from) ≡ j = omega arith in
          rw (get_or-take (end - from) (drop from d) (j - from) 0 (omega arith), get_or-drop from d (j - from) 0, i) at
          (ltb-false (get_or (take (end - from) (drop from d)) (j - from) 0) 32 (c.plain (j - from) (omega arith) (omega arith)));
    }
