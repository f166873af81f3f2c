-- End tags and empty pairs, in XML's words.
use mathlib.Core.Path.{◌≡◌, refl, sym, ap, ◌∙◌}
use mathlib.Core.Logic.{◌↔◌}
use mathlib.Core.Bool.{Bool, true, false, cond}
use mathlib.Core.List.{List, [], ◌∷◌, ◌++◌}
use Prim.Native.Nat.{ℕ, ◌+◌, ◌<◌}
use native.Mathlib.Omega.{arith}
use lib.Dec.{leb, eqb}
use lib.ListN.{length, drop, get_or}
use borrow.Author.Tests.{eq-eqb, ne_eqb, eqb-true, leb-false, lt-leb}
use Rattle.below.specs.Below.{holds_not}
use Rattle.markup.specs.rule.Bytes.{of_kind, is_white, is_name, is_digit, starts_name, run_of, stands, end_fault}
use Rattle.markup.specs.rule.Grammar.{no_more, each, Gap}
use Rattle.markup.specs.rule.Gap.{gap_of}
use Rattle.markup.specs.declared.Skip.{Skip}
use Rattle.markup.specs.declared.Skip.TheVariants as skip
use Rattle.markup.proofs.Gaps.{NoGap, gap_exactly}
use Rattle.markup.proofs.Stretches.{Stretch, run_stretch, stretch_run}
use Rattle.angles.specs.rule.Angle.{close_of, angle_of, end_of}
use Rattle.angles.specs.declared.Angle.TheVariants as angle
use Rattle.attributes.proofs.Exactly.{white_no_name}
use Rattle.tags.specs.rule.Tag.{is_named}
use Rattle.tags.specs.declared.Tag.{Tag}
use Rattle.tags.specs.declared.Tag.TheVariants as tag
use Rattle.pairs.specs.rule.Stand.{stand_at, stand_of, stand_end, shut_of, bare_of}
use Rattle.pairs.specs.rule.Pair.{pair_bare, missed_of, pair_shut, closed_of, on_stand, pair_of}
use Rattle.pairs.specs.rule.Grammar.{White, Name, name, Ends, ends, Empties, empties, PairGiven, given, Attributes, none, known}
use Rattle.pairs.specs.rule.Grammar.{other}
use Rattle.pairs.specs.rule.Grammar.{closing, Behind, behind}
use Rattle.pairs.specs.declared.Stand.{Stand}
use Rattle.pairs.specs.declared.Stand.TheVariants as stand
use Rattle.pairs.specs.declared.Pair.TheVariants.{Past}
use Rattle.pairs.proofs.Lies.{Lies, lies_join, lies_byte, lies_cut, lies_first, stretch_lies, gapped_lies, lies_named, named_lies}
use Rattle.pairs.proofs.Stands.{NameAt, name_long, angle_close, stand_close}
use Rattle.pairs.proofs.Given.{name_each, name_starts, as_stretch}

-- ---- where a name ends: bytes that are none of a name's
pub record Edge (d : List ℕ) (e : ℕ) : Type 0 where
  pub inside : e < length d
  pub over : of_kind 1 (get_or d e 0) ≡ false

white_edge : (b : ℕ) → of_kind 0 b ≡ true → of_kind 1 b ≡ false
unfolding of_kind
white_edge b e = white_no_name b e

pub edge : {d v : List ℕ} {e n : ℕ} (b : ℕ) (t : List ℕ) → White v → of_kind 1 b ≡ false → Lies d e n (v ++ b ∷ t) → Edge d e
edge b t no_more o l = let f = lies_first l in record { inside = f.inside; over = rw f.byte o }
edge b t (each {b = c} w r) o l = let f = lies_first l in record { inside = f.inside; over = rw f.byte (white_edge c w) }

more_no_name : of_kind 1 62 ≡ false
unfolding of_kind is_name starts_name is_digit
more_no_name = refl

slash_no_name : of_kind 1 47 ≡ false
unfolding of_kind is_name starts_name is_digit
slash_no_name = refl

given_edge : {d n u : List ℕ} {e o q : ℕ} → PairGiven n o u → Lies d e q u → Edge d e
given_edge {d} {n} {u} {e} {o} {q} (given {q = m} {u = w} {y} {z} {v} x i na wy wz qu va) l = by (n ++ (y ++ 61 ∷ (z ++ m ∷ (v ++ m ∷ []))))
    x i l where
      by : {w : List ℕ} (t : List ℕ) → White w → 0 < length w → Lies d e q (w ++ t) → Edge d e
      by t no_more i l = absurd (omega arith)
      by t (each {b = c} k r) i l = let f = lies_first l in record { inside = f.inside; over = rw f.byte (white_edge c k) }

-- behind the name of a start tag no name goes on
pub behind_edge : {d k s : List ℕ} {em g : Bool} {e a n : ℕ} → Behind k em e s g a → Lies d e n s → Edge d e
behind_edge {d} {k} {em = em} {e = e} {n = n} (behind {s = s} {v} r w) l = by r (lies_cut d e n s (v ++ closing em) l) where
  shut : (em : Bool) → Lies d e n (v ++ closing em) → Edge d e
  shut true l = edge 47 (62 ∷ []) w slash_no_name l
  shut false l = edge 62 [] w more_no_name l

  by : {s : List ℕ} {g : Bool} {a : ℕ} → Attributes k e s g a → Lies d e (e + length s) s × Lies d (e + length s) n (v ++ closing em)
      → Edge d e
  by none c = let z : e + 0 ≡ e = omega arith in shut em (rw (← z) c.1)
  by (known {u = u} {s} x r) c = given_edge x (lies_cut d e _ u s c.0).0
  by (other {u = u} {s} x i r) c = given_edge x (lies_cut d e _ u s c.0).0

-- ---- a < with a name
names_mark : (b : ℕ) → starts_name b ≡ true → (b ≡ 47 → ⊥) × (b ≡ 63 → ⊥) × (b ≡ 33 → ⊥)
unfolding starts_name
names_mark b e = (λ x. holds_not e (rw x), λ x. holds_not e (rw x), λ x. holds_not e (rw x))

name_stretch : {d w : List ℕ} {p e : ℕ} → Name w → Lies d p e w → Edge d e → run_of (of_kind 1) p (drop p d) ≡ e
name_stretch {d} {w} {p} {e} n l i = stretch_run (of_kind 1) d p e (as_stretch (name_each n) l) i.over i.inside

name_inside : {d w : List ℕ} {p e : ℕ} → Name w → Lies d p e w → p < length d
name_inside (name s r) l = (lies_first l).inside

module _ (bad : Bool) (d : List ℕ) (p : ℕ) where
  pub start_complete : {w : List ℕ} {e : ℕ} → Name w → Lies d p e (60 ∷ w) → Edge d e → angle_of bad d p ≡ angle.Start e
  unfolding angle_of
  start_complete {w} {e} n l i =
      let r = (lies_first l).rest in
      let s = name_starts n r in
      let m = names_mark (get_or d (p + 1) 0) s in
      rw (
        lt-leb (length d) (p + 1) (name_inside n r),
        ne_eqb (get_or d (p + 1) 0) 47 m.0,
        ne_eqb (get_or d (p + 1) 0) 63 m.1,
        ne_eqb (get_or d (p + 1) 0) 33 m.2,
        s,
        name_stretch n r i,
      )

  pub close_complete : {w : List ℕ} {e : ℕ} → Name w → Lies d p e (60 ∷ 47 ∷ w) → Edge d e → angle_of bad d p ≡ angle.Close e
  unfolding angle_of close_of
  close_complete {w} {e} n l i =
      let f = lies_first (lies_first l).rest in
      let t : p + 1 + 1 ≡ p + 2 = omega arith in
      let r : Lies d (p + 2) e w = rw (← t) f.rest in
      rw (
        lt-leb (length d) (p + 1) f.inside,
        eq-eqb (get_or d (p + 1) 0) 47 f.byte,
        lt-leb (length d) (p + 2) (name_inside n r),
        name_starts n r,
        name_stretch n r i,
      )

-- ---- the rest of an end tag
record EndBy (d : List ℕ) (e n : ℕ) : Type 0 where
  pub white : List ℕ
  pub passes : White white
  pub lies : Lies d e n (white ++ 62 ∷ [])

module _ (bad : Bool) (d : List ℕ) (o : ℕ) where
  end_sound : (e n : ℕ) → end_of bad d o e ≡ skip.Past n → EndBy d e n
  unfolding end_of
  end_sound e n f = by (leb (length d) m) (eqb (get_or d m 0) 62) refl refl f where
    m : ℕ
    m = run_of (of_kind 0) e (drop e d)

    s : Stretch (of_kind 0) d e m
    s = run_stretch (of_kind 0) d e

    by : (x y : Bool) → leb (length d) m ≡ x → eqb (get_or d m 0) 62 ≡ y
        → cond x (skip.Broken (end_fault bad m o)) (cond y (skip.Past (m + 1)) (skip.Broken m)) ≡ skip.Past n → EndBy d e n
    by true y g h f = let z : ◌≡◌ {A = ℕ} 0 1 = cc in absurd (omega arith)
    by false true g h f =
        let k : m + 1 ≡ n = cc in
        record {
          white = s.bytes;
          passes = s.passes;
          lies = lies_join (stretch_lies s)
              (lies_byte d m n 62 (leb-false (length d) m g) (eqb-true (get_or d m 0) 62 h) (sym k));
        }
    by false false g h f = let z : ◌≡◌ {A = ℕ} 0 1 = cc in absurd (omega arith)

  more_no_white : (b : ℕ) → b ≡ 62 → of_kind 0 b ≡ false
  unfolding of_kind is_white
  more_no_white b e = rw e

  end_complete : (e n : ℕ) {v : List ℕ} → White v → Lies d e n (v ++ 62 ∷ []) → end_of bad d o e ≡ skip.Past n
  unfolding end_of
  end_complete e n {v} w l =
      let c = lies_cut d e n v (62 ∷ []) l in
      let f = lies_first c.1 in
      let k = f.rest.place in
      let j : n ≡ e + length v + 1 = omega arith in
      let r : run_of (of_kind 0) e (drop e d) ≡ e + length v = stretch_run (of_kind 0) d e (e + length v) (as_stretch w c.0)
      (more_no_white _ f.byte) f.inside in
      rw (r, lt-leb (length d) (e + length v) f.inside, eq-eqb (get_or d (e + length v) 0) 62 f.byte, j)

-- ---- an end tag by its bytes
pub record EndAt (d w : List ℕ) (p n : ℕ) : Type 0 where
  pub bytes : List ℕ
  pub ends : Ends w bytes
  pub lies : Lies d p n bytes

pub ends_sound : (bad : Bool) (d w : List ℕ) (p e n : ℕ) → p < length d → get_or d p 0 ≡ 60 → angle_of bad d p ≡ angle.Close e
    → shut_of bad d p e w ≡ skip.Past n → EndAt d w p n
unfolding shut_of
ends_sound bad d w p e n i b a f = on (end_of bad d p e) refl f where
  c : (get_or d (p + 1) 0 ≡ 47) × NameAt d (p + 2) e
  c = angle_close bad d p e a

  long : p + 2 < e
  long = (name_long c.1).0

  named : (m : ℕ) (x : Bool) → end_of bad d p e ≡ skip.Past m → is_named d (p + 2) e w ≡ x → cond x (skip.Past m) (skip.Broken p)
      ≡ skip.Past n → EndAt d w p n
  named m true g h f =
      let k : m ≡ n = cc in
      let t = end_sound bad d p e n (g ∙ ap skip.Past k) in
      let y = c.1.inside in
      let z = long in
      record {
        bytes = 60 ∷ 47 ∷ (w ++ (t.white ++ 62 ∷ []));
        ends = ends t.passes;
        lies = lies_join (lies_byte d p (p + 1) 60 i b refl)
            (lies_join (lies_byte d (p + 1) (p + 2) 47 (omega arith) c.0 (omega arith))
            (lies_join (named_lies d (p + 2) e w (omega arith) h) t.lies));
      }
  named m false g h f = let z : ◌≡◌ {A = ℕ} 0 1 = cc in absurd (omega arith)

  on : (r : Skip) → end_of bad d p e ≡ r → stand_end d p e w r ≡ skip.Past n → EndAt d w p n
  on (skip.Past m) g f = named m (is_named d (p + 2) e w) g refl f
  on (skip.Broken q) g f = let z : ◌≡◌ {A = ℕ} 0 1 = cc in absurd (omega arith)

pub record Closing (bad : Bool) (d w : List ℕ) (p n : ℕ) : Type 0 where
  pub inside : p < length d
  pub less : get_or d p 0 ≡ 60
  pub slash : get_or d (p + 1) 0 ≡ 47
  pub opens : angle_of bad d p ≡ angle.Close (p + 2 + length w)
  pub shuts : shut_of bad d p (p + 2 + length w) w ≡ skip.Past n

pub ends_complete : (bad : Bool) (d : List ℕ) {w t : List ℕ} (p n : ℕ) → Name w → Ends w t → Lies d p n t → Closing bad d w p n
unfolding shut_of
ends_complete bad d {w} p n na (ends {v} x) l =
    let f = lies_first l in
    let g = lies_first f.rest in
    let t : p + 1 + 1 ≡ p + 2 = omega arith in
    let r : Lies d (p + 2) n (w ++ (v ++ 62 ∷ [])) = rw (← t) g.rest in
    let c = lies_cut d (p + 2) n w (v ++ 62 ∷ []) r in
    let h : Lies d p (p + 2 + length w) (60 ∷ 47 ∷ w) =
    lies_join (lies_byte d p (p + 1) 60 f.inside f.byte refl)
    (lies_join (lies_byte d (p + 1) (p + 2) 47 g.inside g.byte (omega arith)) c.0) in
    record {
      inside = f.inside;
      less = f.byte;
      slash = g.byte;
      opens = close_complete bad d p na h (edge 62 [] x more_no_name c.1);
      shuts = rw (end_complete bad d p (p + 2 + length w) n x c.1, lies_named c.0);
    }

-- ---- empty pairs
pub record PairAt (d w : List ℕ) (at n : ℕ) : Type 0 where
  pub bytes : List ℕ
  pub empties : Empties w bytes
  pub lies : Lies d at n bytes

module _ (bad : Bool) (d w : List ℕ) (at n : ℕ) where
  bare_no : (p : ℕ) (t : Tag) → pair_bare p t ≡ Past n → ⊥
  bare_no p (tag.Read h em q m) f = let z : ◌≡◌ {A = ℕ} 0 1 = cc in omega arith
  bare_no p (tag.Fault k q) f = let z : ◌≡◌ {A = ℕ} 0 1 = cc in omega arith

  pub pair_sound : pair_of bad d at w ≡ Past n → PairAt d w at n
  unfolding pair_of missed_of closed_of
  pair_sound f = on (stand_of bad d at) refl f where
    shut : (p e : ℕ) (r : Skip) → stand_of bad d at ≡ stand.Close p e → shut_of bad d p e w ≡ r → pair_shut r ≡ Past n → PairAt d w at n
    shut p e (skip.Past m) g h f =
        let k : m ≡ n = cc in
        let s = stand_close bad d at p e g in
        let x = ends_sound bad d w p e n s.inside s.less s.opens (h ∙ ap skip.Past k) in
        let y = (gap_exactly bad d at p).0 s.gap in
        record { bytes = y.bytes ++ x.bytes; empties = empties y.gap x.ends; lies = lies_join (gapped_lies y) x.lies }
    shut p e (skip.Broken q) g h f = let z : ◌≡◌ {A = ℕ} 0 1 = cc in absurd (omega arith)

    on : (s : Stand) → stand_of bad d at ≡ s → on_stand bad d w s ≡ Past n → PairAt d w at n
    on (stand.Start p e) g f = absurd (bare_no p (bare_of bad d p e) f)
    on (stand.Close p e) g f = shut p e (shut_of bad d p e w) g refl f
    on (stand.Foreign p) g f = let z : ◌≡◌ {A = ℕ} 0 1 = cc in absurd (omega arith)
    on (stand.Text p) g f = let z : ◌≡◌ {A = ℕ} 0 1 = cc in absurd (omega arith)
    on (stand.Broken p) g f = let z : ◌≡◌ {A = ℕ} 0 1 = cc in absurd (omega arith)

  -- at an end tag neither white space nor a comment stands
  no_gap : (t : List ℕ) → NoGap (60 ∷ 47 ∷ t)
  unfolding is_white stands
  no_gap t = record { no_white = λ b u e. let k : b ≡ 60 = cc in rw k; no_note = refl }

  ends_gap : {t : List ℕ} → Ends w t → (u : List ℕ) → NoGap (t ++ u)
  ends_gap (ends {v} x) u = no_gap ((w ++ (v ++ 62 ∷ [])) ++ u)

  pair_from : {g t : List ℕ} → Name w → Gap g → Ends w t → Lies d at n (g ++ t) → pair_of bad d at w ≡ Past n
  unfolding pair_of stand_of stand_at closed_of
  pair_from {g} {t} na gg e l =
      let c = lies_cut d at n g t l in
      let p = at + length g in
      let k = ends_complete bad d p n na e c.1 in
      let s = c.1.split in
      let o : NoGap (drop p d) = rw s (ends_gap e (drop n d)) in
      let y : gap_of bad d at ≡ skip.Past p = (gap_exactly bad d at p).1
      (record { bytes = g; gap = gg; split = c.0.split; place = refl; over = o }) in
      rw (y, lt-leb (length d) p k.inside, eq-eqb (get_or d p 0) 60 k.less, k.opens, k.shuts)

  pair_complete : {t : List ℕ} → Name w → Empties w t → Lies d at n t → pair_of bad d at w ≡ Past n
  pair_complete na (empties g e) l = pair_from na g e l

-- PAIR: an element w that holds nothing ends at n exactly when white space, comments and its end tag stand up to n
pub pair_exactly : (bad : Bool) (d w : List ℕ) (at n : ℕ) → Name w → (pair_of bad d at w ≡ Past n) ↔ PairAt d w at n
pair_exactly bad d w at n na = (pair_sound bad d w at n, λ x. pair_complete bad d w at n na x.empties x.lies)
