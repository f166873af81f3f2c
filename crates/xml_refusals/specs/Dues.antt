-- NO TAG WHERE ONE IS DUE, inside an element w from n on, in words: "Text where tags are due: 2 at its first byte. Where tags are due, the
-- first character or reference of a text is read: 50 if it is not legal or bad, else 2." "Processing instructions and CDATA ..: 51 at `<`."
-- "An end tag where something is due is read whole first; of another name: 50 at its `<`. Where the file ends too early: 50."
use Rattle.std.specs.Prelude.{◌≡◌, ◌↔◌, Bool, true, false, cond, List, ℕ, ◌+◌, ◌<◌, ◌≤◌, leb, eqb, length, drop, Option, Some, None}
use Rattle.std.proofs.Math.Path.{refl}
use Rattle.std.proofs.Common.{arith}
use Rattle.std.proofs.Math.ListN.{get_or}
use borrow.Author.Tests.{eq-eqb, ne_eqb, eqb-true, eqb-false, le-leb, lt-leb, leb-true, leb-false}
use Rattle.markup.specs.rule.Gap.{gap_of}
use Rattle.markup.specs.rule.Reference.{reference_of}
use Rattle.markup.specs.declared.Skip.{Skip}
use Rattle.markup.specs.declared.Skip.TheVariants as skip
use Rattle.markup.proofs.Gaps.{Gapped, gap_exactly}
use Rattle.angles.specs.rule.Angle.{angle_of, end_of}
use Rattle.angles.specs.declared.Angle.{Angle}
use Rattle.angles.specs.declared.Angle.TheVariants as angle
use Rattle.tags.specs.rule.Tag.{is_named}
use Rattle.pairs.specs.declared.Stand.TheVariants as stand
use Rattle.pairs.specs.rule.Stand.{on_text_char, text_stand, stand_angle, stand_at, on_gap, stand_of, stand_end, shut_of}
use Rattle.tokens.specs.declared.Fault.{Fault}
use Rattle.tokens.specs.rule.Gap.{fault}
use Rattle.reading.specs.rule.Result.{Not}
use Rattle.bridge.specs.Lowest.{never}
use Rattle.xml_reading.specs.rule.Open.{on_shut, opened, within_element}

module _ (bad : Bool) (d w : List ℕ) (n : ℕ) where
  -- a < stands at p, behind white space and comments
  pub record Less (p : ℕ) : Type 0 where
    pub gap : Gapped d n p
    pub inside : p < length d
    pub less : get_or d p 0 ≡ 60

  pub data NoTag : Fault → Type 0 where
    -- in a comment; at the file's end
    comment : {q : ℕ} → gap_of bad d n ≡ skip.Broken q → NoTag (fault 50 q)
    over : {p : ℕ} → Gapped d n p → length d ≤ p → NoTag (fault 50 p)
    -- a text: a byte that is no < and no &, or a reference, good or bad
    text : {p : ℕ} → Gapped d n p → p < length d → (get_or d p 0 ≡ 60 → ⊥) → (get_or d p 0 ≡ 38 → ⊥) → NoTag (fault 2 p)
    reference : {p c m : ℕ} → Gapped d n p → p < length d → get_or d p 0 ≡ 38 → reference_of p (drop (p + 1) d) ≡ Some (c, m)
        → NoTag (fault 2 p)
    bad_reference : {p : ℕ} → Gapped d n p → p < length d → get_or d p 0 ≡ 38 → reference_of p (drop (p + 1) d) ≡ None
        → NoTag (fault 50 p)
    -- <? or <![CDATA[; a < with no name behind it
    foreign : {p : ℕ} → Less p → angle_of bad d p ≡ angle.Foreign → NoTag (fault 51 p)
    broken : {p q : ℕ} → Less p → angle_of bad d p ≡ angle.Broken q → NoTag (fault 50 q)
    -- an end tag: of another name, or broken
    other_end : {p e m : ℕ} → Less p → angle_of bad d p ≡ angle.Close e → end_of bad d p e ≡ skip.Past m → is_named d (p + 2) e w ≡ false
        → NoTag (fault 50 p)
    broken_end : {p e q : ℕ} → Less p → angle_of bad d p ≡ angle.Close e → end_of bad d p e ≡ skip.Broken q → NoTag (fault 50 q)

  moved : {f g : Fault} → f ≡ g → NoTag f → NoTag g
  moved e y = rw (← e) y

  -- ---- what is refused stands so
  module _ {f : Fault} (p : ℕ) (g : Gapped d n p) (h : p < length d) where
    text_seen : (get_or d p 0 ≡ 60 → ⊥) → opened bad d w (text_stand d p) ≡ Not f → NoTag f
    unfolding text_stand
    text_seen i e = by (eqb (get_or d p 0) 38) refl e where
      on : get_or d p 0 ≡ 38 → (c : Option (ℕ × ℕ)) → reference_of p (drop (p + 1) d) ≡ c → opened bad d w (on_text_char p c) ≡ Not f
          → NoTag f
      on j (Some (c, m)) r e = let z : fault 2 p ≡ f = cc in moved z (reference g h j r)
      on j None r e = let z : fault 50 p ≡ f = cc in moved z (bad_reference g h j r)

      by : (b : Bool) → eqb (get_or d p 0) 38 ≡ b
          → opened bad d w (cond b (on_text_char p (reference_of p (drop (p + 1) d))) (stand.Text p)) ≡ Not f → NoTag f
      by true j e = on (eqb-true (get_or d p 0) 38 j) (reference_of p (drop (p + 1) d)) refl e
      by false j e = let z : fault 2 p ≡ f = cc in moved z (text g h i (eqb-false (get_or d p 0) 38 j))

    end_seen : (e : ℕ) → get_or d p 0 ≡ 60 → angle_of bad d p ≡ angle.Close e → on_shut p (shut_of bad d p e w) ≡ Not f → NoTag f
    unfolding shut_of
    end_seen e i a z = by (end_of bad d p e) refl z where
      there : Less p
      there = record { gap = g; inside = h; less = i }

      named : (m : ℕ) → end_of bad d p e ≡ skip.Past m → (b : Bool) → is_named d (p + 2) e w ≡ b
          → on_shut p (cond b (skip.Past m) (skip.Broken p)) ≡ Not f → NoTag f
      named m o true j z = never cc
      named m o false j z = let y : fault 50 p ≡ f = cc in moved y (other_end there a o j)

      by : (r : Skip) → end_of bad d p e ≡ r → on_shut p (stand_end d p e w r) ≡ Not f → NoTag f
      by (skip.Past m) o z = named m o (is_named d (p + 2) e w) refl z
      by (skip.Broken q) o z = let y : fault 50 q ≡ f = cc in moved y (broken_end there a o)

    angle_seen : get_or d p 0 ≡ 60 → (a : Angle) → angle_of bad d p ≡ a → opened bad d w (stand_angle p a) ≡ Not f → NoTag f
    angle_seen i (angle.Start e) a z = never cc
    angle_seen i (angle.Close e) a z = end_seen e i a z
    angle_seen i angle.Foreign a z =
        let y : fault 51 p ≡ f = cc in moved y (foreign (record { gap = g; inside = h; less = i }) a)
    angle_seen i (angle.Broken q) a z =
        let y : fault 50 q ≡ f = cc in moved y (broken (record { gap = g; inside = h; less = i }) a)

  seen : {f : Fault} → within_element bad d w n ≡ Not f → NoTag f
  unfolding within_element stand_of stand_at
  seen {f} e = on (gap_of bad d n) refl e where
    on : (r : Skip) → gap_of bad d n ≡ r → opened bad d w (on_gap bad d r) ≡ Not f → NoTag f
    on (skip.Broken q) g e = let z : fault 50 q ≡ f = cc in moved z (comment g)
    on (skip.Past p) g e = by (leb (length d) p) (eqb (get_or d p 0) 60) refl refl e where
      gap : Gapped d n p
      gap = (gap_exactly bad d n p).0 g

      by : (a b : Bool) → leb (length d) p ≡ a → eqb (get_or d p 0) 60 ≡ b
          → opened bad d w (cond a (stand.Broken p) (cond b (stand_angle p (angle_of bad d p)) (text_stand d p))) ≡ Not f → NoTag f
      by true b i j e = let z : fault 50 p ≡ f = cc in moved z (over gap (leb-true (length d) p i))
      by false true i j e = angle_seen p gap (leb-false (length d) p i) (eqb-true (get_or d p 0) 60 j) (angle_of bad d p) refl e
      by false false i j e = text_seen p gap (leb-false (length d) p i) (eqb-false (get_or d p 0) 60 j) e

  -- ---- and back
  halted : {f : Fault} → NoTag f → within_element bad d w n ≡ Not f
  unfolding within_element stand_of stand_at text_stand shut_of
  halted (comment g) = rw g
  halted (over {p} g h) = rw ((gap_exactly bad d n p).1 g, le-leb (length d) p h)
  halted (text {p} g h i j) =
      rw ((gap_exactly bad d n p).1 g, lt-leb (length d) p h, ne_eqb (get_or d p 0) 60 i, ne_eqb (get_or d p 0) 38 j)
  halted (reference {p} g h i r) =
      rw (
        (gap_exactly bad d n p).1 g,
        lt-leb (length d) p h,
        ne_eqb (get_or d p 0) 60 (λ e. omega arith),
        eq-eqb (get_or d p 0) 38 i,
        r,
      )
  halted (bad_reference {p} g h i r) =
      rw (
        (gap_exactly bad d n p).1 g,
        lt-leb (length d) p h,
        ne_eqb (get_or d p 0) 60 (λ e. omega arith),
        eq-eqb (get_or d p 0) 38 i,
        r,
      )
  halted (foreign {p} o a) =
      rw ((gap_exactly bad d n p).1 o.gap, lt-leb (length d) p o.inside, eq-eqb (get_or d p 0) 60 o.less, a)
  halted (broken {p} o a) =
      rw ((gap_exactly bad d n p).1 o.gap, lt-leb (length d) p o.inside, eq-eqb (get_or d p 0) 60 o.less, a)
  halted (other_end {p} o a z i) =
      rw ((gap_exactly bad d n p).1 o.gap, lt-leb (length d) p o.inside, eq-eqb (get_or d p 0) 60 o.less, a, z, i)
  halted (broken_end {p} o a z) =
      rw ((gap_exactly bad d n p).1 o.gap, lt-leb (length d) p o.inside, eq-eqb (get_or d p 0) 60 o.less, a, z)

  -- NO TAG: it is refused with f exactly so
  pub no_tag_exactly : (f : Fault) → (within_element bad d w n ≡ Not f) ↔ NoTag f
  no_tag_exactly f = (seen, halted)
