-- What follows from rule/Only.antt, and what the code keeps.
use Rattle.std.specs.Prelude.{◌≡◌, Bool, ◌&&◌, drop}
use Rattle.std.proofs.Math.Path.{refl, ap}
use Rattle.std.proofs.Common.{sym, ◌∙◌, eq-or-lt_of_le, arith, drop_of_length-le, drop-cons}
use Rattle.std.proofs.Math.Logic.{⊎_elim}
use Rattle.std.proofs.Math.Bool.{true, false, cond}
use mathlib.Core.List.{List, [], ◌∷◌, ◌++◌, append_assoc, append-nil}
use Prim.Native.Nat.{ℕ, zero, suc, ◌-◌, ◌≤◌, ◌<◌}
use borrow.Author.Tests.{eqb-true, eq-eqb, ne_eqb}
use Rattle.std.proofs.Math.Dec.{eqb}
use Rattle.std.proofs.Math.ListN.{length, length-append}
use Rattle.std.proofs.lemmas.List.{drop-append-le}
use Rattle.std.proofs.Math.Seq.{drop-append_seam}
use Rattle.below.specs.Below.{holds_not, lt_or_le}
use Rattle.cuts.specs.declared.Terminator.{Terminator}
use Rattle.cuts.specs.rule.Cut.{one_byte, two_bytes, no_ending, begins_with, terminator_at, terminator_of, whole_at, begins_at}
use Rattle.cuts.specs.rule.Records.{Records, unended, record_and, at_end, cut, records_of, terminator_bytes, laid}
use Rattle.file_laws.specs.rule.Only.{NoneInside, Clean, none_left, last, next}

-- ---- a terminator is none, one byte, or two that differ
pub data Known : Terminator → Type 0 where
  no_terminator : Known no_ending
  one_byte_lem : {a b : ℕ} → Known (one_byte a b)
  two_bytes_lem : {a b : ℕ} → (a ≡ b → ⊥) → Known (two_bytes a b)

known_at : (a b : ℕ) (s : List ℕ) → (a ≡ b → ⊥) → Known (terminator_at a b s)
unfolding terminator_at
known_at a b s h = go (begins_with b s)
  where
    go : (q : Bool) → Known (cond q (two_bytes a b) (one_byte a b))
    go true = two_bytes_lem h
    go false = one_byte_lem

pub known : (d : List ℕ) → Known (terminator_of d)
unfolding terminator_of
known [] = no_terminator
known (b ∷ s) = go (eqb b 13) (eqb b 10) (known s)
  where
    go : (p q : Bool) → Known (terminator_of s) → Known (cond p (terminator_at 13 10 s) (cond q (terminator_at 10 13 s) (terminator_of s)))
    go true q k = known_at 13 10 s (λ e. omega arith)
    go false true k = known_at 10 13 s (λ e. omega arith)
    go false false k = k

-- ---- where a whole terminator stands, it stands whatever follows
with_more : (b : ℕ) (s x : List ℕ) → begins_with b s ≡ true → begins_with b (s ++ x) ≡ true
unfolding begins_with
with_more b [] x e = holds_not e refl
with_more b (c ∷ s) x e = e

whole_more : (w : Terminator) (s x : List ℕ) → whole_at w s ≡ true → whole_at w (s ++ x) ≡ true
unfolding whole_at
whole_more w s x e = go (eqb w.size 2) e
  where
    go : (q : Bool) → cond q (begins_with w.second s) (eqb w.size 1) ≡ true
        → cond q (begins_with w.second (s ++ x)) (eqb w.size 1) ≡ true
    go true h = with_more w.second s x h
    go false h = h

begins_more : (w : Terminator) (s x : List ℕ) → begins_at w s ≡ true → begins_at w (s ++ x) ≡ true
unfolding begins_at
begins_more w [] x e = holds_not e refl
begins_more w (c ∷ s) x e = go (eqb c w.first) (whole_at w s) refl e
  where
    go : (a b : Bool) → whole_at w s ≡ b → a && b ≡ true → a && whole_at w (s ++ x) ≡ true
    go true true q h = whole_more w s x q
    go true false q h = holds_not h refl
    go false b q h = holds_not h refl

begins_less : (w : Terminator) (s x : List ℕ) → begins_at w (s ++ x) ≡ false → begins_at w s ≡ false
begins_less w s x e = go (begins_at w s) refl
  where
    go : (b : Bool) → begins_at w s ≡ b → b ≡ false
    go true q = holds_not (begins_more w s x q) e
    go false q = refl

begins_sized : (w : Terminator) (b : ℕ) (s : List ℕ) → begins_at w (b ∷ s) ≡ true → 1 ≤ w.size
unfolding begins_at whole_at
begins_sized w b s e = go (eqb b w.first) (eqb w.size 2) refl (eqb w.size 1) refl e
  where
    go : (a q : Bool) → eqb w.size 2 ≡ q → (o : Bool) → eqb w.size 1 ≡ o → a && cond q (begins_with w.second s) o ≡ true
        → 1 ≤ w.size
    go true true z o y f = omega (arith, eqb-true w.size 2 z)
    go true false z true y f = omega (arith, eqb-true w.size 1 y)
    go true false z false y f = holds_not f refl
    go false q z o y f = holds_not f refl

-- ---- NO RECORD HOLDS A WHOLE TERMINATOR
module _ (w : Terminator) where
  -- of r, before s, no place begins with the terminator
  Inside : List ℕ → List ℕ → Type 0
  Inside r s = (p : ℕ) → p < length r → begins_at w (drop p (r ++ s)) ≡ false

  none_past : (r : List ℕ) (p : ℕ) → length r ≤ p → begins_at w (drop p r) ≡ false
  unfolding begins_at
  none_past r p h = rw (drop_of_length-le r h)

  inside_none : (r s : List ℕ) → Inside r s → NoneInside w r
  unfolding Inside
  inside_none r s h = record {
    nowhere = λ p. ⊎_elim (λ l. begins_less w (drop p r) s (rw (drop-append-le p r s (omega arith)) at (h p l)))
        (λ l. none_past r p l) (lt_or_le p (length r));
  }

  at_end_lem : (r : List ℕ) → Inside r [] → Clean w (at_end r)
  unfolding at_end
  at_end_lem [] h = none_left
  at_end_lem (b ∷ r) h = last (inside_none (b ∷ r) [] h)

  inside_more : (r : List ℕ) (b : ℕ) (s : List ℕ) → Inside r (b ∷ s) → begins_at w (b ∷ s) ≡ false → Inside (r ++ b ∷ []) s
  unfolding Inside
  inside_more r b s h e p l =
      ap (λ (x : List ℕ). begins_at w (drop p x)) (append_assoc r (b ∷ []) s)
      ∙ ⊎_elim
      (λ q. ap (λ (k : ℕ). begins_at w (drop k (r ++ (b ∷ s)))) q ∙ ap (begins_at w) (drop-append_seam r (b ∷ s)) ∙ e)
      (λ q. h p (omega arith)) (eq-or-lt_of_le (below p l))
    where
      below : (p : ℕ) → p < length (r ++ b ∷ []) → p ≤ length r
      below p l = omega (arith, length-append r (b ∷ []))

  clean : (s : List ℕ) (k : ℕ) (r : List ℕ) → Inside r (drop k s) → Clean w (cut w k r s)
  unfolding cut Inside
  clean [] zero r h = at_end_lem r h
  clean [] (suc k) r h = at_end_lem r h
  clean (b ∷ s) (suc k) r h = clean s k r h
  clean (b ∷ s) zero r h = go (begins_at w (b ∷ s)) refl (clean s (w.size - 1) [] (λ p l. absurd (omega arith)))
      (λ i. clean s 0 (r ++ b ∷ []) i)
    where
      go : (q : Bool) → begins_at w (b ∷ s) ≡ q → Clean w (cut w (w.size - 1) [] s)
          → (Inside (r ++ b ∷ []) s → Clean w (cut w 0 (r ++ b ∷ []) s))
          → Clean w (cond q (record_and r (cut w (w.size - 1) [] s)) (cut w 0 (r ++ b ∷ []) s))
      go true e c f = next (begins_sized w b s e) (inside_none r (b ∷ s) h) c
      go false e c f = f (inside_more r b s h e)

pub no_terminator_inside : (d : List ℕ) → Clean (terminator_of d) (records_of d)
unfolding records_of Inside
no_terminator_inside d = clean (terminator_of d) d 0 [] (λ p l. absurd (omega arith))

-- ---- AND NO OTHER RECORDS MAKE THE FILE
module _ (w : Terminator) where
  -- bytes at which no terminator begins are the record's
  run_on : (r acc s : List ℕ) → ((p : ℕ) → p < length r → begins_at w (drop p (r ++ s)) ≡ false)
      → cut w 0 acc (r ++ s) ≡ cut w 0 (acc ++ r) s
  unfolding cut
  run_on [] acc s h = rw (append-nil acc)
  run_on (b ∷ r) acc s h =
      let e : begins_at w (b ∷ (r ++ s)) ≡ false = h 0 (omega arith) in
      rw e (run_on r (acc ++ b ∷ []) s (λ p l. h (suc p) (omega arith)) ∙ rw (append_assoc acc (b ∷ []) r))

  -- before a byte that can't end a terminator: a record without one inside has none there either
  apart_here : (s : List ℕ) (c : ℕ) (x : List ℕ) → ((w.size ≡ 2) → c ≡ w.second → ⊥) → 0 < length s → begins_at w s ≡ false
      → begins_at w (s ++ (c ∷ x)) ≡ false
  unfolding begins_at whole_at begins_with
  apart_here [] c x h l e = absurd (omega arith)
  apart_here (a ∷ b ∷ s) c x h l e = e
  apart_here (a ∷ []) c x h l e = go (eqb a w.first) (eqb w.size 2) refl e
    where
      go : (p q : Bool) → eqb w.size 2 ≡ q → p && cond q false (eqb w.size 1) ≡ false
          → p && cond q (eqb c w.second) (eqb w.size 1) ≡ false
      go false q z f = refl
      go true true z f = ne_eqb c w.second (h (eqb-true w.size 2 z))
      go true false z f = f

  apart_all : (r : List ℕ) (c : ℕ) (x : List ℕ) → ((w.size ≡ 2) → c ≡ w.second → ⊥) → NoneInside w r
      → (p : ℕ) → p < length r → begins_at w (drop p (r ++ (c ∷ x))) ≡ false
  apart_all r c x h n p l =
      rw (drop-append-le p r (c ∷ x) (omega arith))
      (apart_here (drop p r) c x h (rw (drop-cons r p 0 l) (omega arith)) (n.nowhere p))

-- a record, its terminator, and the rest
one_ended : {w : Terminator} → Known w → (r : List ℕ) (x : List ℕ) → 1 ≤ w.size → NoneInside w r
    → cut w 0 [] (r ++ (terminator_bytes w ++ x)) ≡ record_and r (cut w 0 [] x)
unfolding terminator_bytes cut begins_at whole_at begins_with
one_ended no_terminator r x h n = absurd (omega arith)
one_ended (one_byte_lem {a} {b}) r x h n =
    run_on (one_byte a b) r [] (a ∷ x) (apart_all (one_byte a b) r a x (λ z e. omega arith) n) ∙ rw (eq-eqb a a refl)
one_ended (two_bytes_lem {a} {b} d) r x h n =
    run_on (two_bytes a b) r [] (a ∷ b ∷ x) (apart_all (two_bytes a b) r a (b ∷ x) (λ z e. d e) n) ∙ rw (eq-eqb a a refl, eq-eqb b b refl)

only : {w : Terminator} → Known w → {rs : Records} → Clean w rs → cut w 0 [] (laid w rs) ≡ rs
unfolding laid cut at_end
only k none_left = refl
only {w} k (last {b} {r} n) = rest
  where
    rest : cut w 0 [] (b ∷ r) ≡ unended (b ∷ r)
    rest =
        ap (cut w 0 []) (sym (append-nil (b ∷ r)))
        ∙ run_on w (b ∷ r) [] [] (λ p l. ap (λ (x : List ℕ). begins_at w (drop p x)) (append-nil (b ∷ r)) ∙ n.nowhere p)
only {w} k (next {r} {rs} h n c) =
    ap (cut w 0 []) (append_assoc r (terminator_bytes w) (laid w rs)) ∙ one_ended k r (laid w rs) h n ∙ ap (record_and r) (only k c)

pub cut_only : (d : List ℕ) (rs : Records) → Clean (terminator_of d) rs → laid (terminator_of d) rs ≡ d → rs ≡ records_of d
unfolding records_of
cut_only d rs c e = sym (only (known d) c) ∙ ap (λ (s : List ℕ). cut (terminator_of d) 0 [] s) e
