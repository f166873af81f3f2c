-- What stands inside an element, behind white space and comments: a start tag, or the end tag; both ways.
use Rattle.std.specs.Prelude.{◌≡◌, Bool, true, false, not, List, [], ◌∷◌, ℕ, ◌+◌, length, get_or}
use Rattle.std.proofs.Math.Path.{refl}
use Rattle.std.proofs.Common.{◌∙◌, arith}
use borrow.Author.Tests.{eq-eqb, lt-leb}
use Rattle.markup.specs.declared.Skip.{Skip}
use Rattle.markup.specs.declared.Skip.TheVariants as skip
use Rattle.markup.proofs.Gaps.{Gapped, gap_exactly}
use Rattle.tags.specs.rule.Tag.{is_named}
use Rattle.pairs.specs.declared.Stand.{Stand}
use Rattle.pairs.specs.declared.Stand.TheVariants as stand
use Rattle.pairs.specs.rule.Stand.{stand_at, stand_of, shut_of}
use Rattle.pairs.specs.rule.Grammar.{Name}
use Rattle.pairs.proofs.Lies.{Lies, lies_first, lies_join, lies_byte, lies_same, named_lies}
use Rattle.pairs.proofs.Stands.{stand_start, stand_close, angle_start, name_long}
use Rattle.pairs.proofs.Ends.{Edge, start_complete, EndAt, ends_sound, ends_complete}
use Rattle.spans.specs.rule.Says.{same_of}
use Rattle.reading.specs.rule.Result.{Is}
use Rattle.bridge.specs.Lowest.{never}
use Rattle.xml_reading.specs.rule.Open.{start, shut, on_shut, opened, within_element}

module _ (bad : Bool) (d w : List ℕ) where
  -- ---- what was found stands there
  pub at_start : (n : ℕ) {p e : ℕ} → within_element bad d w n ≡ Is (start p) e → stand_of bad d n ≡ stand.Start p e
  unfolding within_element
  at_start n {p} {e} f = by (stand_of bad d n) refl f where
    closes : (q : ℕ) (r : Skip) → on_shut q r ≡ Is (start p) e → stand_of bad d n ≡ stand.Start p e
    closes q (skip.Past m) f = never cc
    closes q (skip.Broken m) f = never cc

    by : (s : Stand) → stand_of bad d n ≡ s → opened bad d w s ≡ Is (start p) e → stand_of bad d n ≡ stand.Start p e
    by (stand.Start q j) g f =
        let a : q ≡ p = cc in
        let b : j ≡ e = cc in
        g ∙ rw (a, b)
    by (stand.Close q j) g f = closes q (shut_of bad d q j w) f
    by (stand.Foreign q) g f = never cc
    by (stand.Text q) g f = never cc
    by (stand.Broken q) g f = never cc

  pub found_gap : {n p e : ℕ} → within_element bad d w n ≡ Is (start p) e → Gapped d n p
  found_gap {n} {p} {e} f = (gap_exactly bad d n p).0 (stand_start bad d n p e (at_start n f)).gap

  -- with this name
  pub found_start : (n : ℕ) {p e : ℕ} (v : List ℕ) → within_element bad d w n ≡ Is (start p) e → is_named d (p + 1) e v ≡ true
      → Lies d p e (60 ∷ v)
  found_start n {p} {e} v f i =
      let s = stand_start bad d n p e (at_start n f) in
      let l = (name_long (angle_start bad d p e s.opens)).0 in
      lies_join (lies_byte d p (p + 1) 60 s.inside s.less refl) (named_lies d (p + 1) e v (omega arith) i)

  pub found_end : {n p m : ℕ} → within_element bad d w n ≡ Is (shut p) m → Gapped d n p × EndAt d w p m
  unfolding within_element
  found_end {n} {p} {m} f = by (stand_of bad d n) refl f where
    closes : (q j : ℕ) (r : Skip) → stand_of bad d n ≡ stand.Close q j → shut_of bad d q j w ≡ r → on_shut q r ≡ Is (shut p) m
        → Gapped d n p × EndAt d w p m
    closes q j (skip.Past i) g h f =
        let a : q ≡ p = cc in
        let b : i ≡ m = cc in
        let s = stand_close bad d n q j g in
        let k = ends_sound bad d w q j i s.inside s.less s.opens h in
        (rw (← a) ((gap_exactly bad d n q).0 s.gap), rw (← a, ← b) k)
    closes q j (skip.Broken i) g h f = never cc

    by : (s : Stand) → stand_of bad d n ≡ s → opened bad d w s ≡ Is (shut p) m → Gapped d n p × EndAt d w p m
    by (stand.Start q j) g f = never cc
    by (stand.Close q j) g f = closes q j (shut_of bad d q j w) g refl f
    by (stand.Foreign q) g f = never cc
    by (stand.Text q) g f = never cc
    by (stand.Broken q) g f = never cc

  -- ---- and what stands there is found
  pub finds_start : {n p e : ℕ} {v : List ℕ} → Gapped d n p → Name v → Lies d p e (60 ∷ v) → Edge d e → within_element bad d w n
      ≡ Is (start p) e
  unfolding within_element stand_of stand_at
  finds_start {n} {p} {e} {v} g a l i =
      let b = lies_first l in
      rw (
        (gap_exactly bad d n p).1 g,
        lt-leb (length d) p b.inside,
        eq-eqb (get_or d p 0) 60 b.byte,
        start_complete bad d p a l i,
      )

  pub finds_end : {n p m : ℕ} → Gapped d n p → Name w → EndAt d w p m → within_element bad d w n ≡ Is (shut p) m
  unfolding within_element stand_of stand_at
  finds_end {n} {p} {m} g a e =
      let c = ends_complete bad d p m a e.ends e.lies in
      rw ((gap_exactly bad d n p).1 g, lt-leb (length d) p c.inside, eq-eqb (get_or d p 0) 60 c.less, c.opens, c.shuts)

-- ---- names
same_self : (w : List ℕ) → same_of w w ≡ true
unfolding same_of
same_self [] = refl
same_self (b ∷ w) = rw (eq-eqb b b refl) (same_self w)

-- a tag of another name
pub not_named : (d w v : List ℕ) {p e : ℕ} → Lies d p e (60 ∷ v) → not (same_of w v) ≡ true → is_named d (p + 1) e w ≡ false
not_named d w v {p} {e} l h = by (is_named d (p + 1) e w) refl where
  r : Lies d (p + 1) e v
  r = (lies_first l).rest

  by : (q : Bool) → is_named d (p + 1) e w ≡ q → is_named d (p + 1) e w ≡ false
  by false i = i
  by true i =
      let k = r.place in
      let s : w ≡ v = lies_same (named_lies d (p + 1) e w (omega arith) i) r in
      let t : not (same_of v v) ≡ true = rw s at h in
      let u : not true ≡ true = rw (same_self v) at t in
      never cc
