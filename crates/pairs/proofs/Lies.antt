-- Bytes that lie in a file from one place to another: joined, cut, and told by their first.
use mathlib.Core.Path.{◌≡◌, refl, sym, ap, ◌∙◌}
use mathlib.Core.Bool.{Bool, true}
use mathlib.Core.List.{List, [], ◌∷◌, ◌++◌, append_assoc}
use Prim.Native.Nat.{ℕ, ◌+◌, ◌-◌, ◌≤◌, ◌<◌}
use native.Mathlib.Omega.{arith}
use lib.Dec.{eqb}
use lib.ListN.{length, take, drop, get_or, length-append, length-drop}
use lib.Seq.{take_at}
use borrow.Author.Tests.{eq-eqb, eqb-true}
use Rattle.below.specs.Below.{and_left, and_right}
use Rattle.utf.proofs.Strides.{drop_1}
use Rattle.markup.specs.rule.Bytes.{stands}
use Rattle.markup.proofs.Gaps.{Gapped, stands_split}
use Rattle.markup.proofs.Runs.{first_at, onward}
use Rattle.markup.proofs.Stretches.{Stretch}
use Rattle.attributes.proofs.Values.{Quoted}
use Rattle.tags.specs.rule.Tag.{is_named}

pub record Lies (d : List ℕ) (p q : ℕ) (u : List ℕ) : Type 0 where
  pub split : drop p d ≡ u ++ drop q d
  pub place : q ≡ p + length u

pub lies_none : (d : List ℕ) (p q : ℕ) → q ≡ p → Lies d p q []
lies_none d p q e = record { split = rw e; place = omega arith }

pub split_lies : (d : List ℕ) (p n : ℕ) (u t : List ℕ) → drop p d ≡ u ++ t → n ≡ p + length u → Lies d p n u
split_lies d p n u t e k =
    let o : drop (p + length u) d ≡ t = onward d p (length u) u t e refl in
    record { split = e ∙ ap (λ (x : List ℕ). u ++ x) (sym o) ∙ rw k; place = k }

pub lies_join : {d : List ℕ} {p q r : ℕ} {u v : List ℕ} → Lies d p q u → Lies d q r v → Lies d p r (u ++ v)
lies_join {d} {p} {q} {r} {u} {v} x y =
    let a = x.place in
    let b = y.place in
    record {
      split = x.split ∙ ap (λ (t : List ℕ). u ++ t) y.split ∙ sym (append_assoc u v (drop r d));
      place = omega (arith, length-append u v);
    }

pub lies_byte : (d : List ℕ) (p q b : ℕ) → p < length d → get_or d p 0 ≡ b → q ≡ p + 1 → Lies d p q (b ∷ [])
lies_byte d p q b h e f = record { split = drop_1 d p h ∙ rw (e, f); place = omega arith }

pub lies_cut : (d : List ℕ) (p r : ℕ) (u v : List ℕ) → Lies d p r (u ++ v) → Lies d p (p + length u) u × Lies d (p + length u) r v
lies_cut d p r u v x =
    let e : drop p d ≡ u ++ (v ++ drop r d) = x.split ∙ append_assoc u v (drop r d) in
    let o : drop (p + length u) d ≡ v ++ drop r d = onward d p (length u) u (v ++ drop r d) e refl in
    let k = x.place in (
      record { split = e ∙ ap (λ (t : List ℕ). u ++ t) (sym o); place = refl },
      record { split = o; place = omega (arith, length-append u v) },
    )

pub record Begins (d : List ℕ) (p q b : ℕ) (v : List ℕ) : Type 0 where
  pub inside : p < length d
  pub byte : get_or d p 0 ≡ b
  pub rest : Lies d (p + 1) q v

pub lies_first : {d : List ℕ} {p q b : ℕ} {v : List ℕ} → Lies d p q (b ∷ v) → Begins d p q b v
lies_first {d} {p} {q} {b} {v} x =
    let r = first_at d p b (v ++ drop q d) x.split in
    let k = x.place in
    record {
      inside = r.0;
      byte = r.1;
      rest = record
          { split = onward d p 1 (b ∷ []) (v ++ drop q d) x.split refl; place = omega arith };
    }

pub lies_within : {d : List ℕ} {p q : ℕ} {u : List ℕ} → Lies d p q u → p ≤ length d → q ≤ length d
lies_within {d} {p} {q} {u} x h =
    let e = x.place in
    omega (arith, ap length x.split, length-append u (drop q d), length-drop p d, length-drop q d)

-- what the readers below tell
pub stretch_lies : {f : ℕ → Bool} {d : List ℕ} {p q : ℕ} (s : Stretch f d p q) → Lies d p q s.bytes
stretch_lies s = record { split = s.split; place = s.place }

pub quoted_lies : {k : ℕ} {d : List ℕ} {p q : ℕ} (s : Quoted k d p q) → Lies d p q s.bytes
quoted_lies s = record { split = s.split; place = s.place }

pub gapped_lies : {d : List ℕ} {p q : ℕ} (s : Gapped d p q) → Lies d p q s.bytes
gapped_lies s = record { split = s.split; place = s.place }

-- ---- two that lie at one stretch are the same; names by their bytes
pub lies_same : {d : List ℕ} {p q : ℕ} {u v : List ℕ} → Lies d p q u → Lies d p q v → u ≡ v
lies_same {d} {p} {q} {u} {v} x y =
    let a = x.place in
    let b = y.place in
    let n : length v ≡ length u = omega arith in
    sym (take_at u (drop q d) (length u) refl) ∙ ap (take (length u)) (sym x.split ∙ y.split) ∙ take_at v (drop q d) (length u) n

stands_whole : (w t : List ℕ) → stands w (w ++ t) ≡ true
unfolding stands
stands_whole [] t = refl
stands_whole (x ∷ w) t = rw (eq-eqb x x refl) (stands_whole w t)

pub lies_named : {d : List ℕ} {n e : ℕ} {w : List ℕ} → Lies d n e w → is_named d n e w ≡ true
unfolding is_named
lies_named {d} {n} {e} {w} x =
    let k = x.place in
    let l : e - n ≡ length w = omega arith in
    rw (eq-eqb (e - n) (length w) l, x.split) (stands_whole w (drop e d))

pub named_lies : (d : List ℕ) (n e : ℕ) (w : List ℕ) → n ≤ e → is_named d n e w ≡ true → Lies d n e w
unfolding is_named
named_lies d n e w h x =
    let a = eqb-true (e - n) (length w) (and_left (eqb (e - n) (length w)) (stands w (drop n d)) x) in
    let s = stands_split w (drop n d) (and_right (eqb (e - n) (length w)) (stands w (drop n d)) x) in
    let o : drop (n + length w) d ≡ s.0 = onward d n (length w) w s.0 s.1 refl in
    let k : e ≡ n + length w = omega arith in
    record { split = s.1 ∙ ap (λ (t : List ℕ). w ++ t) (sym o) ∙ rw k; place = k }
