-- A value between quotes, step by step, and in XML's words.
use mathlib.Core.Path.{◌≡◌, refl, sym, ap, ◌∙◌}
use mathlib.Core.Logic.{◌↔◌}
use mathlib.Core.Bool.{Bool, true, false, cond}
use mathlib.Core.List.{List, [], ◌∷◌, ◌++◌, append_assoc}
use Prim.Native.Nat.{ℕ, zero, suc, ◌+◌, ◌-◌, ◌≤◌, ◌<◌}
use native.Mathlib.Omega.{arith}
use lib.Dec.{leb, eqb}
use lib.ListN.{length, drop, get_or, length-append, length-drop}
use borrow.Author.Tests.{eq-eqb, ne_eqb, eqb-true, eqb-false, lt-leb, leb-false}
use Rattle.std.proofs.Common.{Option, Some, None}
use Rattle.scan.specs.rule.Loop.{Next, Again}
use Rattle.scan.proofs.Loops.{loop_again, loop_done}
use Rattle.utf.proofs.Strides.{drop_1}
use Rattle.markup.specs.rule.Bytes.{end_fault}
use Rattle.markup.specs.rule.Reference.{reference_of}
use Rattle.markup.specs.rule.Gap.{next_move}
use Rattle.markup.specs.declared.Skip.{Skip}
use Rattle.markup.specs.declared.Skip.TheVariants.{Past, Broken}
use Rattle.markup.specs.declared.Move.{Move}
use Rattle.markup.specs.declared.Move.TheVariants.{Go, Stop}
use Rattle.markup.proofs.Runs.{first_at, onward}
use Rattle.markup.proofs.References.{Referred, reference_sound, reference_complete}
use Rattle.attributes.specs.rule.Attribute.{on_value_char, value_move, quoted_of, AttributeValue, empty, plain, refer}

-- what one step passes
pub record Step (quote : ℕ) (d : List ℕ) (p m : ℕ) : Type 0 where
  pub bytes : List ℕ
  pub split : drop p d ≡ bytes ++ drop m d
  pub some : 0 < length bytes
  pub place : m ≡ p + length bytes
  pub within : m ≤ length d
  pub values : (s : List ℕ) → AttributeValue quote s → AttributeValue quote (bytes ++ s)

module _ (bad : Bool) (opened quote : ℕ) (d : List ℕ) where
  with_ref : (p c m : ℕ) → p < length d → get_or d p 0 ≡ 38 → Referred (drop (p + 1) d) p c m → Step quote d p m
  with_ref p c m h e r =
      let k = r.place in
      let s : drop p d ≡ (38 ∷ r.bytes) ++ r.rest = drop_1 d p h ∙ rw (e, r.split) in
      let n : p + suc (length r.bytes) ≡ m = omega arith in
      let o : drop m d ≡ r.rest = rw (← n) (onward d p (suc (length r.bytes)) (38 ∷ r.bytes) r.rest s refl) in
      let l = ap length s in
      let a = length-append r.bytes r.rest in
      let q = length-drop p d in
      record {
        bytes = 38 ∷ r.bytes;
        split = rw o s;
        some = omega arith;
        place = omega arith;
        within = omega arith;
        values = λ s v. refer
            r.ref v;
      }

  pub value_go : (p m : ℕ) → value_move bad opened quote d p ≡ Go m → Step quote d p m
  unfolding value_move
  value_go p m e = by (leb (length d) p) (eqb (get_or d p 0) quote) (eqb (get_or d p 0) 60) (eqb (get_or d p 0) 38) refl refl refl refl e
    where
      char : (r : Option (ℕ × ℕ)) → reference_of p (drop (p + 1) d) ≡ r → leb (length d) p ≡ false → eqb (get_or d p 0) 38 ≡ true
          → on_value_char p r
          ≡ Go m
          → Step quote d p m
      char (Some (c, n)) f g h e =
          let k : n ≡ m = cc in
          with_ref p c m (leb-false (length d) p g) (eqb-true (get_or d p 0) 38 h) (rw (← k) (reference_sound p c n (drop (p + 1) d) f))
      char None f g h e = let z : ◌≡◌ {A = ℕ} 0 1 = cc in absurd (omega arith)

      by : (a b c r : Bool) → leb (length d) p ≡ a → eqb (get_or d p 0) quote ≡ b → eqb (get_or d p 0) 60 ≡ c → eqb (get_or d p 0) 38 ≡ r
          → cond a (Stop (Broken (end_fault bad p opened)))
          (cond b (Stop (Past p)) (cond c (Stop (Broken p)) (cond r (on_value_char p (reference_of p (drop (p + 1) d))) (Go (p + 1)))))
          ≡ Go m
          → Step quote d p m
      by true b c r f g h i e = let z : ◌≡◌ {A = ℕ} 0 1 = cc in absurd (omega arith)
      by false true c r f g h i e = let z : ◌≡◌ {A = ℕ} 0 1 = cc in absurd (omega arith)
      by false false true r f g h i e = let z : ◌≡◌ {A = ℕ} 0 1 = cc in absurd (omega arith)
      by false false false true f g h i e = char (reference_of p (drop (p + 1) d)) refl f i e
      by false false false false f g h i e =
          let l = leb-false (length d) p f in
          let k : p + 1 ≡ m = cc in
          record {
            bytes = get_or d p 0 ∷ [];
            split = drop_1 d p l ∙ rw k;
            some = omega arith;
            place = omega arith;
            within = omega arith;
            values = λ s v. plain (eqb-false (get_or d p 0) quote g) (eqb-false (get_or d p 0) 60 h) (eqb-false (get_or d p 0) 38 i) v;
          }

  abbrev step : ℕ → Next ℕ Skip
  step p = next_move (value_move bad opened quote d p)

  less : (p m : ℕ) → step p ≡ Again m → length d - m < length d - p
  less p m e = by (value_move bad opened quote d p) refl e where
    by : (r : Move) → value_move bad opened quote d p ≡ r → next_move r ≡ Again m → length d - m < length d - p
    by (Go k) f e = let h : k ≡ m = cc in let g = value_go p k f in let a = g.place in let b = g.some in let c = g.within in omega arith
    by (Stop r) f e = let z : ◌≡◌ {A = ℕ} 0 1 = cc in absurd (omega arith)

  pub value_next : (p m : ℕ) → value_move bad opened quote d p ≡ Go m → quoted_of bad opened quote d p ≡ quoted_of bad opened quote d m
  unfolding quoted_of
  value_next p m e = loop_again step (Past 0) (λ p. length d - p) less (rw e)

  pub value_stop : (p : ℕ) (r : Skip) → value_move bad opened quote d p ≡ Stop r → quoted_of bad opened quote d p ≡ r
  unfolding quoted_of
  value_stop p r e = loop_done step (Past 0) (λ p. length d - p) less (rw e)

  -- the quote itself
  value_past : (p k : ℕ) → value_move bad opened quote d p ≡ Stop (Past k) → (k ≡ p) × (p < length d) × (get_or d p 0 ≡ quote)
  unfolding value_move
  value_past p k e = by (leb (length d) p) (eqb (get_or d p 0) quote) (eqb (get_or d p 0) 60) (eqb (get_or d p 0) 38) refl refl e where
    char : (r : Option (ℕ × ℕ)) → on_value_char p r ≡ Stop (Past k) → (k ≡ p) × (p < length d) × (get_or d p 0 ≡ quote)
    char (Some (c, n)) e = let z : ◌≡◌ {A = ℕ} 0 1 = cc in absurd (omega arith)
    char None e = let z : ◌≡◌ {A = ℕ} 0 1 = cc in absurd (omega arith)

    by : (a b c r : Bool) → leb (length d) p ≡ a → eqb (get_or d p 0) quote ≡ b
        → cond a (Stop (Broken (end_fault bad p opened)))
        (cond b (Stop (Past p)) (cond c (Stop (Broken p)) (cond r (on_value_char p (reference_of p (drop (p + 1) d))) (Go (p + 1)))))
        ≡ Stop (Past k)
        → (k ≡ p) × (p < length d) × (get_or d p 0 ≡ quote)
    by true b c r f g e = let z : ◌≡◌ {A = ℕ} 0 1 = cc in absurd (omega arith)
    by false true c r f g e = (cc, leb-false (length d) p f, eqb-true (get_or d p 0) quote g)
    by false false true r f g e = let z : ◌≡◌ {A = ℕ} 0 1 = cc in absurd (omega arith)
    by false false false true f g e = char (reference_of p (drop (p + 1) d)) e
    by false false false false f g e = let z : ◌≡◌ {A = ℕ} 0 1 = cc in absurd (omega arith)

-- from p to k a value's bytes stand, and at k its quote
pub record Quoted (quote : ℕ) (d : List ℕ) (p k : ℕ) : Type 0 where
  pub bytes : List ℕ
  pub value : AttributeValue quote bytes
  pub split : drop p d ≡ bytes ++ drop k d
  pub place : k ≡ p + length bytes
  pub within : k < length d
  pub quoted : get_or d k 0 ≡ quote

module _ (bad : Bool) (opened quote : ℕ) (d : List ℕ) where
  here : (p k : ℕ) (r : Skip) → value_move bad opened quote d p ≡ Stop r → quoted_of bad opened quote d p ≡ Past k → Quoted quote d p k
  here p k r f e =
      let x : value_move bad opened quote d p ≡ Stop (Past k) = f ∙ ap Stop (sym (value_stop bad opened quote d p r f) ∙ e) in
      let y = value_past bad opened quote d p k x in
      let z = y.0 in
      record { bytes = []; value = empty; split = rw z; place = omega arith; within = rw z y.1; quoted = rw z y.2 }

  then : (p m k : ℕ) → Step quote d p m → Quoted quote d m k → Quoted quote d p k
  then p m k r g =
      let a = r.place in
      let b = g.place in
      record {
        bytes = r.bytes ++ g.bytes;
        value = r.values g.bytes g.value;
        split = r.split ∙ ap (λ (t : List ℕ). r.bytes ++ t) g.split ∙ sym (append_assoc r.bytes g.bytes (drop k d));
        place = omega (arith, length-append r.bytes g.bytes);
        within = g.within;
        quoted = g.quoted;
      }

  sound : (n p k : ℕ) → length d - p ≤ n → quoted_of bad opened quote d p ≡ Past k → Quoted quote d p k
  sound zero p k h e = by (value_move bad opened quote d p) refl where
    by : (r : Move) → value_move bad opened quote d p ≡ r → Quoted quote d p k
    by (Go m) f = let g = value_go bad opened quote d p m f in let a = g.place in let b = g.some in let c = g.within in
        absurd (omega arith)
    by (Stop r) f = here p k r f e
  sound (suc n) p k h e = by (sound n) (value_move bad opened quote d p) refl where
    by : ((p k : ℕ) → length d - p ≤ n → quoted_of bad opened quote d p ≡ Past k → Quoted quote d p k) → (r : Move)
        → value_move bad opened quote d p ≡ r → Quoted quote d p k
    by ih (Go m) f =
        let g = value_go bad opened quote d p m f in
        let a = g.place in
        let b = g.some in
        let c = g.within in
        then p m k g (ih m k (omega arith) (sym (value_next bad opened quote d p m f) ∙ e))
    by ih (Stop r) f = here p k r f e

pub quoted_sound : (bad : Bool) (opened quote : ℕ) (d : List ℕ) (p k : ℕ) → quoted_of bad opened quote d p ≡ Past k → Quoted quote d p k
quoted_sound bad opened quote d p k e = sound bad opened quote d (length d) p k (omega arith) e

module _ (bad : Bool) (opened quote : ℕ) (d : List ℕ) (apart : quote ≡ 38 → ⊥) (k : ℕ) (in-file : k < length d)
    (ends : get_or d k 0 ≡ quote)
  where
    complete : {u : List ℕ} → AttributeValue quote u → (p : ℕ) → drop p d ≡ u ++ drop k d → k ≡ p + length u
        → quoted_of bad opened quote d p
        ≡ Past k
    unfolding value_move
    complete empty p e f =
        let q : p ≡ k = omega arith in
        value_stop bad opened quote d p (Past k) (rw (q, lt-leb (length d) k in-file, eq-eqb (get_or d k 0) quote ends))
    complete (plain {b} {s} x y z v) p e f =
        let r = first_at d p b (s ++ drop k d) e in
        let h = r.0 in
        let g = r.1 in
        value_next bad opened quote d p (p + 1) (rw (g, lt-leb (length d) p h, ne_eqb b quote x, ne_eqb b 60 y, ne_eqb b 38 z))
        ∙ complete v (p + 1) (onward d p 1 (b ∷ []) (s ++ drop k d) e refl) (omega arith)
    complete (refer {c} {u} {s} w v) p e f =
        let a : drop p d ≡ 38 ∷ u ++ (s ++ drop k d) = e ∙ ap (λ (t : List ℕ). 38 ∷ t) (append_assoc u s (drop k d)) in
        let r = first_at d p 38 (u ++ (s ++ drop k d)) a in
        let h = r.0 in
        let g = r.1 in
        let o : drop (p + 1) d ≡ u ++ (s ++ drop k d) = onward d p 1 (38 ∷ []) (u ++ (s ++ drop k d)) a refl in
        let i : reference_of p (drop (p + 1) d) ≡ Some (c, p + 1 + length u) = rw o (reference_complete p w (s ++ drop k d)) in
        let n : k ≡ p + 1 + length u + length s = omega (arith, length-append u s) in
        value_next bad opened quote d p (p + 1 + length u) (rw (g, lt-leb (length d) p h, ne_eqb 38 quote (λ q. apart (sym q)), i))
        ∙ complete v (p + 1 + length u) (onward d (p + 1) (length u) u (s ++ drop k d) o refl) n

-- VALUE: it goes up to k exactly when references and bytes other than its quote, < and & stand up to k, and at k the quote
pub value_exactly : (bad : Bool) (opened quote : ℕ) (d : List ℕ) (p k : ℕ) → (quote ≡ 38 → ⊥)
    → (quoted_of bad opened quote d p ≡ Past k) ↔ Quoted quote d p k
value_exactly bad opened quote d p k a =
    (quoted_sound bad opened quote d p k, λ q. complete bad opened quote d a k q.within q.quoted q.value p q.split q.place)
