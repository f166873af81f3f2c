-- What follows from rule/Records.antt, and what the code keeps.
use Rattle.std.proofs.Math.Path.{◌≡◌, refl, sym, ap}
use Rattle.std.proofs.Common.{◌∙◌, ⊎_elim, eqb-true, length-take, length-drop, drop-drop, take-suc, take_all, get_or-drop, get_or-take}
use Rattle.std.specs.Prelude.{Bool, eqb, take, get_or}
use Rattle.std.proofs.Math.Bool.{true, false, cond}
use mathlib.Core.List.{List, [], ◌∷◌, ◌++◌, append_assoc, append-nil}
use Prim.Native.Nat.{ℕ, zero, suc, ◌+◌, ◌-◌, ◌*◌, ◌≤◌, ◌<◌}
use Rattle.std.proofs.Math.Numerals.{add-one}
use native.Mathlib.Omega.{arith}
use Rattle.std.proofs.Math.ListN.{length, drop, drop_of_length-le}
use Rattle.std.proofs.Math.Seq.{drop-cons, drop-nil}
use Rattle.below.specs.Below.{and_left, and_right, holds_not, lt_or_le}
use Rattle.lows.specs.rule.Lows.{low_at}
use Rattle.lows.specs.Lows.{Clear}
use Rattle.cuts.specs.declared.Terminator.{Terminator}
use Rattle.cuts.specs.declared.Next.TheVariants.{Ended, Unended, Nothing}
use Rattle.cuts.specs.rule.Cut.{begins_with, whole_at, begins_at, end_from, next_from, terminator_of}
use Rattle.cuts.specs.Cut.{end_here, end_on, end_none, end_unbroken, next_some, next_none, unbroken_plain}
use Rattle.cuts.specs.rule.Records.{Records, over, unended, record_and, at_end, cut, records_from, records_of, terminator_bytes, laid}

-- ---- LAID END TO END: the records with their terminators are the file again
laid_end : (w : Terminator) (r : List ℕ) → laid w (at_end r) ≡ r
unfolding laid at_end
laid_end w [] = refl
laid_end w (b ∷ r) = refl

-- what is left after skipping is what is left
skip_drop : (w : Terminator) (k : ℕ) (r s : List ℕ) → cut w k r s ≡ cut w 0 r (drop k s)
unfolding cut
skip_drop w zero r s = refl
skip_drop w (suc k) r [] = refl
skip_drop w (suc k) r (b ∷ s) = skip_drop w k r s

-- where a whole terminator stands, its bytes stand, and then the rest
pair_bytes : (w : Terminator) (s : List ℕ) → w.size ≡ 2 → begins_with w.second s ≡ true → s ≡ w.second ∷ drop (w.size - 1) s
unfolding begins_with
pair_bytes w [] z e = holds_not e refl
pair_bytes w (c ∷ s) z e = rw (eqb-true c w.second e, z)

rest_bytes : (w : Terminator) (s : List ℕ) (q : Bool) → eqb w.size 2 ≡ q
    → cond q (begins_with w.second s) (eqb w.size 1) ≡ true
    → w.first ∷ s ≡ cond q (w.first ∷ w.second ∷ []) (w.first ∷ []) ++ drop (w.size - 1) s
rest_bytes w s true z e = ap (λ (l : List ℕ). w.first ∷ l) (pair_bytes w s (eqb-true w.size 2 z) e)
rest_bytes w s false z e = let q : w.size ≡ 1 = eqb-true w.size 1 e in rw q

whole_bytes : (w : Terminator) (b : ℕ) (s : List ℕ) → begins_at w (b ∷ s) ≡ true → terminator_bytes w ++ drop (w.size - 1) s ≡ b ∷ s
unfolding begins_at whole_at terminator_bytes
whole_bytes w b s e =
    let q : b ≡ w.first = eqb-true b w.first (and_left (eqb b w.first) _ e) in
    rw q (sym (rest_bytes w s (eqb w.size 2) refl (and_right (eqb b w.first) _ e)))

module _ (w : Terminator) where
  laid_cut : (s : List ℕ) (k : ℕ) (r : List ℕ) → laid w (cut w k r s) ≡ r ++ drop k s
  unfolding cut laid
  laid_cut [] k r = laid_end w r ∙ rw (drop-nil k) (sym (append-nil r))
  laid_cut (b ∷ s) (suc k) r = laid_cut s k r
  laid_cut (b ∷ s) zero r = go (begins_at w (b ∷ s)) refl (laid_cut s (w.size - 1) []) (laid_cut s 0 (r ++ b ∷ []))
    where
      go : (q : Bool) → begins_at w (b ∷ s) ≡ q → laid w (cut w (w.size - 1) [] s) ≡ drop (w.size - 1) s
          → laid w (cut w 0 (r ++ b ∷ []) s) ≡ (r ++ b ∷ []) ++ s
          → laid w (cond q (record_and r (cut w (w.size - 1) [] s)) (cut w 0 (r ++ b ∷ []) s)) ≡ r ++ (b ∷ s)
      go true e h g = rw (h, append_assoc r (terminator_bytes w) (drop (w.size - 1) s), whole_bytes w b s e)
      go false e h g = g ∙ append_assoc r (b ∷ []) s

pub laid_again : (d : List ℕ) → laid (terminator_of d) (records_of d) ≡ d
unfolding records_of
laid_again d = laid_cut (terminator_of d) d 0 []

-- ---- the next record is the first of the records
abbrev pub part : List ℕ → ℕ → ℕ → List ℕ
part d a e = take (e - a) (drop a d)

-- what the next record from `start` says of the records there: its bytes, and the records from the next place on
pub record EndedAt (d : List ℕ) (w : Terminator) (start : ℕ) (rs : Records) (a e n : ℕ) : Type 0 where
  pub starts : a ≡ start
  pub after : start ≤ e
  pub inside : e < length d
  pub next : n ≡ e + w.size
  pub sized : 1 ≤ w.size
  pub records : rs ≡ record_and (part d start e) (records_from w (drop n d))

part_none : (d : List ℕ) (a : ℕ) → part d a a ≡ []
part_none d a = let z : a - a ≡ 0 = omega arith in rw z

-- one byte more
part_more : (d : List ℕ) (a i : ℕ) → a ≤ i → i < length d → part d a i ++ get_or d i 0 ∷ [] ≡ part d a (i + 1)
part_more d a i h l =
    let k : i + 1 - a ≡ suc (i - a) = omega arith in
    let j : a + (i - a) ≡ i = omega arith in
    let m : i - a < length (drop a d) = rw (length-drop a d) (omega arith) in
    rw (k, take-suc (drop a d) (i - a) 0 m, get_or-drop a d (i - a) 0, j)

-- a whole terminator has a byte or two
begins_sized : (w : Terminator) (b : ℕ) (s : List ℕ) → begins_at w (b ∷ s) ≡ true → 1 ≤ w.size
unfolding begins_at whole_at
begins_sized w b s e = go (eqb w.size 2) refl (and_right (eqb b w.first) _ e)
  where
    go : (q : Bool) → eqb w.size 2 ≡ q → cond q (begins_with w.second s) (eqb w.size 1) ≡ true → 1 ≤ w.size
    go true z f = omega (arith, eqb-true w.size 2 z)
    go false z f = omega (arith, eqb-true w.size 1 f)

module _ (d : List ℕ) (w : Terminator) (start : ℕ) where
  -- at the end of the data, at a terminator, and at any other byte
  ends_none : (i : ℕ) → length d ≤ i → {a e n : ℕ} → end_from w start i (drop i d) ≡ Ended a e n
      → EndedAt d w start (cut w 0 (part d start i) (drop i d)) a e n
  ends_none i h q = let z : ◌≡◌ {A = ℕ} 0 1 = cc (end_none d i w start h) in absurd (omega arith)

  ends_here : (i : ℕ) → start ≤ i → i < length d → begins_at w (drop i d) ≡ true → {a e n : ℕ}
      → end_from w start i (drop i d) ≡ Ended a e n → EndedAt d w start (cut w 0 (part d start i) (drop i d)) a e n
  unfolding cut
  ends_here i h l b {a} {e} {n} q =
      let p = sym (end_here d i w start l b) ∙ q in
      let qa : start ≡ a = cc in
      let qe : i ≡ e = cc in
      let qn : i + w.size ≡ n = cc in
      let b' = rw (drop-cons d i 0 l) at b in
      let s : 1 ≤ w.size = begins_sized w (get_or d i 0) (drop (suc i) d) b' in
      let m : suc i + (w.size - 1) ≡ n = omega arith in
      record {
        starts = sym qa;
        after = omega arith;
        inside = omega arith;
        next = sym qn ∙ ap (λ (x : ℕ). x + w.size) qe;
        sized = s;
        records =
            rw (← qe, drop-cons d i 0 l, b')
            (ap (record_and (part d start i))
            (skip_drop w (w.size - 1) [] (drop (suc i) d)
            ∙ ap (cut w 0 []) (drop-drop (w.size - 1) (suc i) d ∙ ap (λ (x : ℕ). drop x d) m)));
      }

  -- a byte that is no terminator's is the record's
  cut_on : (i : ℕ) → start ≤ i → i < length d → begins_at w (drop i d) ≡ false
      → cut w 0 (part d start i) (drop i d) ≡ cut w 0 (part d start (i + 1)) (drop (i + 1) d)
  unfolding cut
  cut_on i h l b =
      let b' = rw (drop-cons d i 0 l) at b in
      rw (drop-cons d i 0 l, b', part_more d start i h l, add-one i)

  ends : (k i : ℕ) → length d - i ≡ k → start ≤ i → {a e n : ℕ} → end_from w start i (drop i d) ≡ Ended a e n
      → EndedAt d w start (cut w 0 (part d start i) (drop i d)) a e n
  ends zero i z h q = ends_none i (omega arith) q
  ends (suc k) i z h {a} {e} {n} q = go (begins_at w (drop i d)) refl (λ p. ends k (i + 1) (omega arith) (omega arith) p)
    where
      go : (b : Bool) → begins_at w (drop i d) ≡ b
          → (end_from w start (i + 1) (drop (i + 1) d) ≡ Ended a e n
          → EndedAt d w start (cut w 0 (part d start (i + 1)) (drop (i + 1) d)) a e n)
          → EndedAt d w start (cut w 0 (part d start i) (drop i d)) a e n
      go true b ih = ends_here i h (omega arith) b q
      go false b ih = rw (cut_on i h (omega arith) b) (ih (sym (end_on d i w start (omega arith) b) ∙ q))

  -- what the record with no terminator says: it is all that is left
  pub record UnendedAt (rs : Records) (a e : ℕ) : Type 0 where
    pub starts : a ≡ start
    pub ends_at : e ≡ length d
    pub records : rs ≡ unended (drop start d)

  all_left : start < length d → at_end (part d start (length d)) ≡ unended (drop start d)
  unfolding at_end
  all_left h =
      let m : length (drop start d) ≤ length d - start = rw (length-drop start d) (omega arith) in
      rw (take_all (length d - start) (drop start d) m, drop-cons d start 0 h)

  unends_at : (i : ℕ) → i ≡ length d → start < length d → {a e : ℕ} → end_from w start i (drop i d) ≡ Unended a e
      → UnendedAt (cut w 0 (part d start i) (drop i d)) a e
  unfolding cut
  unends_at i z h {a} {e} q =
      let p = sym (end_none d i w start (omega arith)) ∙ q in
      let qa : start ≡ a = cc in
      let qe : i ≡ e = cc in
      record {
        starts = sym qa;
        ends_at = sym qe ∙ z;
        records = rw (z, drop_of_length-le d {i = length d} (omega arith)) (all_left h);
      }

  unends : (k i : ℕ) → length d - i ≡ k → start ≤ i → i ≤ length d → start < length d → {a e : ℕ}
      → end_from w start i (drop i d) ≡ Unended a e → UnendedAt (cut w 0 (part d start i) (drop i d)) a e
  unends zero i z h l m q = unends_at i (omega arith) m q
  unends (suc k) i z h l m {a} {e} q = go (begins_at w (drop i d)) refl
      (λ p. unends k (i + 1) (omega arith) (omega arith) (omega arith) m p)
    where
      go : (b : Bool) → begins_at w (drop i d) ≡ b
          → (end_from w start (i + 1) (drop (i + 1) d) ≡ Unended a e → UnendedAt (cut w 0 (part d start (i + 1)) (drop (i + 1) d)) a e)
          → UnendedAt (cut w 0 (part d start i) (drop i d)) a e
      go true b ih = let p = sym (end_here d i w start (omega arith) b) ∙ q in let z : ◌≡◌ {A = ℕ} 0 1 = cc in absurd (omega arith)
      go false b ih = rw (cut_on i h (omega arith) b) (ih (sym (end_on d i w start (omega arith) b) ∙ q))

  -- ---- the three answers of the next record, and the records from there on
  pub next_ended : {a e n : ℕ} → next_from w start (drop start d) ≡ Ended a e n → EndedAt d w start (records_from w (drop start d)) a e n
  next_ended q =
      ⊎_elim
      (λ l. rw (part_none d start) at (ends (length d - start) start refl (omega arith) (sym (next_some d start w l) ∙ q)))
      (λ l. let p = sym (next_none d start w l) ∙ q in let z : ◌≡◌ {A = ℕ} 0 1 = cc in absurd (omega arith))
      (lt_or_le start (length d))

  pub next_unended : {a e : ℕ} → next_from w start (drop start d) ≡ Unended a e → UnendedAt (records_from w (drop start d)) a e
  next_unended q =
      ⊎_elim
      (λ l. rw (part_none d start) at
      (unends (length d - start) start refl (omega arith) (omega arith) l (sym (next_some d start w l) ∙ q)))
      (λ l. let p = sym (next_none d start w l) ∙ q in let z : ◌≡◌ {A = ℕ} 0 1 = cc in absurd (omega arith))
      (lt_or_le start (length d))

  -- some record starts where data are left
  ends_some : (s : List ℕ) (i : ℕ) → end_from w start i s ≡ Nothing → ⊥
  unfolding end_from
  ends_some [] i q = let z : ◌≡◌ {A = ℕ} 0 1 = cc in omega arith
  ends_some (b ∷ s) i q = go (begins_at w (b ∷ s)) (λ p. ends_some s (i + 1) p) q
    where
      go : (c : Bool) → (end_from w start (i + 1) s ≡ Nothing → ⊥)
          → cond c (Ended start i (i + w.size)) (end_from w start (i + 1) s) ≡ Nothing → ⊥
      go true ih q = let z : ◌≡◌ {A = ℕ} 0 1 = cc in omega arith
      go false ih q = ih q

  pub next_nothing : next_from w start (drop start d) ≡ Nothing → length d ≤ start
  next_nothing q =
      ⊎_elim (λ l. absurd (ends_some (drop start d) start (sym (next_some d start w l) ∙ q))) (λ l. l) (lt_or_le start (length d))

  pub over_past : length d ≤ start → records_from w (drop start d) ≡ over
  unfolding cut at_end
  over_past l = rw (drop_of_length-le d l)

-- ---- a next record of so many bytes, none of them below 32
pub record PlainNext (d : List ℕ) (w : Terminator) (from size : ℕ) : Type 0 where
  pub inside : from + size < length d
  pub long : length (part d from (from + size)) ≡ size
  pub ends : next_from w from (drop from d) ≡ Ended from (from + size) (from + size + w.size)
  pub plain : (j : ℕ) → j < length (part d from (from + size)) → low_at (part d from (from + size)) j ≡ false

module _ (d : List ℕ) (w : Terminator) (from size : ℕ) where
  -- a byte of the record is one of the file
  byte_there : (j : ℕ) → from ≤ j → j < from + size → get_or (part d from (from + size)) (j - from) 0 ≡ get_or d j 0
  byte_there j a b =
      let q : from + (j - from) ≡ j = omega arith in
      get_or-take (from + size - from) (drop from d) (j - from) 0 (omega arith) ∙ get_or-drop from d (j - from) 0
      ∙ ap (λ (x : ℕ). get_or d x 0) q

  part_length : from + size < length d → length (part d from (from + size)) ≡ size
  part_length h = rw (length-take, length-drop) (omega arith)

  -- a byte that is not below 32 in the file is none in the record
  pub plain_there : w.first < 32 → from + size < length d → begins_at w (drop (from + size) d) ≡ true → Clear d from (from + size)
      → PlainNext d w from size
  plain_there low h e u =
      let l = part_length h in
      record {
        inside = h;
        long = l;
        ends =
            next_some d from w (omega arith) ∙ end_unbroken d w from from (from + size) (unbroken_plain d w from (from + size) low u)
            ∙ end_here d (from + size) w from h e;
        plain = λ j b. let q : from + j - from ≡ j = omega arith in
            rw (q) at (rw (← byte_there (from + j) (omega arith) (omega arith)) at (u.plain (from + j) (omega arith) (omega arith)));
      }

  pub plain_next : w.first < 32 → from + size < length d → begins_at w (drop (from + size) d) ≡ true
      → Clear (part d from (from + size)) 0 (length (part d from (from + size))) → PlainNext d w from size
  plain_next low h e c =
      let l = part_length h in
      let there : (j : ℕ) → from ≤ j → j < from + size → low_at d j
      ≡ false = λ j a b. rw (byte_there j a b) at (c.plain (j - from) (omega arith) (omega arith)) in
      plain_there low h e (record { on = omega arith; within = omega arith; plain = there })

-- so many such records from a place on, one behind the other
pub record PlainRun (d : List ℕ) (w : Terminator) (from size n : ℕ) : Type 0 where
  pub reach : from + n * (size + w.size) ≤ length d + 1
  pub each : (k : ℕ) → k < n → PlainNext d w (from + k * (size + w.size)) size
