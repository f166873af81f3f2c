-- Where a cut lies: behind the place where reading began, and inside. So it is never at place 0, and is named.
use mathlib.Core.Path.{◌≡◌, refl, sym, ap, ◌∙◌}
use mathlib.Core.Bool.{Bool, true, false, cond}
use mathlib.Core.List.{List, [], ◌∷◌}
use Prim.Native.Nat.{ℕ, ◌+◌, ◌≤◌, ◌<◌}
use native.Mathlib.Omega.{arith}
use lib.Dec.{leb, eqb}
use lib.ListN.{length, drop, get_or}
use borrow.Author.Tests.{leb-false}
use Rattle.std.proofs.Common.{Option, Some, None}
use Rattle.markup.specs.rule.Bytes as bytes
use Rattle.markup.specs.rule.Gap.{gap_of, xml_comment}
use Rattle.markup.specs.rule.Reference.{reference_of}
use Rattle.markup.specs.declared.Skip.{Skip}
use Rattle.markup.specs.declared.Skip.TheVariants as skip
use Rattle.markup.proofs.Gaps.{gap_exactly}
use Rattle.angles.specs.rule.Angle.{angle_of}
use Rattle.angles.specs.declared.Angle.{Angle}
use Rattle.angles.specs.declared.Angle.TheVariants as angle
use Rattle.tags.specs.declared.Tag.{Tag}
use Rattle.tags.specs.declared.Tag.TheVariants as tag
use Rattle.tags.specs.rule.Tag.{tag_of}
use Rattle.pairs.specs.declared.Stand.{Stand}
use Rattle.pairs.specs.declared.Stand.TheVariants as stand
use Rattle.pairs.specs.declared.Pair.{Pair}
use Rattle.pairs.specs.declared.Pair.TheVariants as pair
use Rattle.pairs.specs.rule.Stand as stands
use Rattle.pairs.specs.rule.Stand.{text_stand, stand_at, stand_of, shut_of, bare_of}
use Rattle.pairs.specs.rule.Pair as pairs
use Rattle.pairs.specs.rule.Pair.{missed_of, closed_of, pair_of}
use Rattle.pairs.proofs.Lies.{lies_within}
use Rattle.pairs.proofs.Stands.{angle_start, name_long}
use Rattle.pairs.proofs.Ends.{pair_sound}
use Rattle.contents.specs.rule.Grammar.{br, text, lang}
use Rattle.contents.specs.declared.Going.{Going}
use Rattle.contents.specs.declared.Said.TheVariants as said
use Rattle.contents.specs.declared.Content.TheVariants as content
use Rattle.contents.specs.declared.Step.{Step}
use Rattle.contents.specs.declared.Step.TheVariants as step
use Rattle.contents.specs.rule.Step.{go_on_saying, broken_at, cut_at, on_char, refer_at, bracket_at, return_at, on_note, note_at, knowing}
use Rattle.contents.specs.rule.Step.{content_pair, pair_at}
use Rattle.contents.specs.rule.Step.{on_break, break_at}
use Rattle.contents.specs.rule.Step.{on_language, language_at, on_other, other_at, mode_in, step_kind, start_at, on_out, on_end, close_at}
use Rattle.contents.specs.rule.Step.{on_angle}
use Rattle.contents.specs.rule.Step.{mark_at, step_of}
use Rattle.contents.specs.rule.Content.{begun, content_of}
use Rattle.contents.proofs.Goes.{content_reached}
use Rattle.elements.proofs.Bounds.{start_within, tag_within, goes_on}

never : {A : Type 0} → ◌≡◌ {A = ℕ} 0 1 → A
never z = absurd (omega arith)

-- ---- what document 000 doesn't name
abbrev is_foreign : Stand → ℕ
is_foreign (stand.Start p e) = 0
is_foreign (stand.Close p e) = 0
is_foreign (stand.Foreign p) = 1
is_foreign (stand.Text p) = 0
is_foreign (stand.Broken p) = 0

text_known : (d : List ℕ) (p : ℕ) → is_foreign (text_stand d p) ≡ 0
unfolding text_stand
text_known d p = by (eqb (get_or d p 0) 38) (reference_of p (drop (p + 1) d)) where
  by : (x : Bool) (r : Option (ℕ × ℕ)) → is_foreign (cond x (stands.on_text_char p r) (stand.Text p)) ≡ 0
  by true (Some (c, n)) = refl
  by true None = refl
  by false r = refl

pub foreign_within : (bad : Bool) (d : List ℕ) (at p : ℕ) → stand_of bad d at ≡ stand.Foreign p → (at ≤ p) × (p < length d)
unfolding stand_of stand_at
foreign_within bad d at p f = on (gap_of bad d at) refl f where
  on : (g : Skip) → gap_of bad d at ≡ g → stands.on_gap bad d g ≡ stand.Foreign p → (at ≤ p) × (p < length d)
  on (skip.Broken q) g f = never cc
  on (skip.Past n) g f = by (leb (length d) n) (eqb (get_or d n 0) 60) refl f where
    opened : (a : Angle) → leb (length d) n ≡ false → stands.stand_angle n a ≡ stand.Foreign p → (at ≤ p) × (p < length d)
    opened (angle.Start m) h f = never cc
    opened (angle.Close m) h f = never cc
    opened angle.Foreign h f =
        let j : n ≡ p = cc in
        let i = leb-false (length d) n h in
        let k = ((gap_exactly bad d at n).0 g).place in
        (omega arith, omega arith)
    opened (angle.Broken q) h f = never cc

    by : (x y : Bool) → leb (length d) n ≡ x → cond x (stand.Broken n) (cond y (stands.stand_angle n (angle_of bad d n)) (text_stand d n))
        ≡ stand.Foreign p → (at ≤ p) × (p < length d)
    by true y h f = never cc
    by false true h f = opened (angle_of bad d n) h f
    by false false h f = let t = sym (text_known d n) ∙ ap is_foreign f in absurd (omega arith)

-- ---- pairs
module _ (bad : Bool) (d w : List ℕ) (at : ℕ) where
  pub pair_cut : (p : ℕ) → pair_of bad d at w ≡ pair.Cut p → (at ≤ p) × (p < length d)
  unfolding pair_of missed_of closed_of
  pair_cut p f = on (stand_of bad d at) refl f where
    bare : (q e : ℕ) (t : Tag) → stand_of bad d at ≡ stand.Start q e → pairs.pair_bare q t ≡ pair.Cut p → (at ≤ p) × (p < length d)
    bare q e (tag.Read h em r n) g f =
        let i : q ≡ p = cc in
        let t = start_within bad d at q e g in
        let a = t.0 in
        let b = t.1 in
        let c = t.2 in
        (omega arith, omega arith)
    bare q e (tag.Fault k r) g f = never cc

    shut : (r : Skip) → pairs.pair_shut r ≡ pair.Cut p → (at ≤ p) × (p < length d)
    shut (skip.Past n) f = never cc
    shut (skip.Broken q) f = never cc

    on : (s : Stand) → stand_of bad d at ≡ s → pairs.on_stand bad d w s ≡ pair.Cut p → (at ≤ p) × (p < length d)
    on (stand.Start q e) g f = bare q e (bare_of bad d q e) g f
    on (stand.Close q e) g f = shut (shut_of bad d q e w) f
    on (stand.Foreign q) g f = let i : q ≡ p = cc in foreign_within bad d at p (g ∙ ap stand.Foreign i)
    on (stand.Text q) g f = never cc
    on (stand.Broken q) g f = never cc

  pub pair_past : (n : ℕ) → at ≤ length d → pair_of bad d at w ≡ pair.Past n → (at ≤ n) × (n ≤ length d)
  pair_past n h f =
      let x = pair_sound bad d w at n f in
      let k = x.lies.place in
      (omega arith, lies_within x.lies h)

-- ---- texts
module _ (bad : Bool) (d : List ℕ) (m : ℕ) (w : List ℕ) (g : Going) (p u : ℕ) where
  abbrev Lies : Type 0
  Lies = (g.next ≤ p) × (p < length d)

  abbrev Over : Step
  Over = step.Over (content.Cut p u)

  here : {v : ℕ} → g.next < length d → cut_at g g.next ≡ step.Over (content.Cut p v) → Lies
  here h f = let i : g.next ≡ p = cc in (omega arith, omega arith)

  char_no : (k : Going) (r : Option (ℕ × ℕ)) → on_char k r ≡ Over → Lies
  char_no k (Some (c, n)) f = never cc
  char_no k None f = never cc

  note_no : (r : Skip) → on_note g r ≡ Over → Lies
  note_no (skip.Past n) f = never cc
  note_no (skip.Broken q) f = never cc

  pair_in : (k : Going) (n : ℕ) (r : Pair) → g.next ≤ n → pair_of bad d n br ≡ r → content_pair k r ≡ Over → Lies
  pair_in k n (pair.Past q) h e f = never cc
  pair_in k n (pair.Cut q) h e f =
      let i : q ≡ p = cc in
      let t = pair_cut bad d br n p (e ∙ ap pair.Cut i) in
      (omega (arith, t.0), t.1)
  pair_in k n (pair.Fault j q) h e f = never cc

  break_in : (e : ℕ) (t : Tag) → g.next < e → bare_of bad d g.next e ≡ t → on_break bad d g t ≡ Over → Lies
  unfolding pair_at
  break_in e (tag.Read h em q n) i o f = by em f where
    by : (em : Bool) → cond em (go_on_saying (knowing g h.unknown) n said.Break) (content_pair (knowing g h.unknown) (pair_of bad d n br))
        ≡ Over
        → Lies
    by true f = never cc
    by false f =
        let t = tag_within bad d g.next [] [] [] 0 0 0 0 e h em q n o in
        pair_in (knowing g h.unknown) n (pair_of bad d n br) (omega (arith, t.0, t.1)) refl f
  break_in e (tag.Fault k q) i o f = never cc

  language_no : (t : Tag) → on_language g t ≡ Over → Lies
  language_no (tag.Read h em q n) f = never cc
  language_no (tag.Fault k q) f = never cc

  other_in : (t : Tag) → g.next < length d → on_other g t ≡ Over → Lies
  other_in (tag.Read h em q n) i f = here i f
  other_in (tag.Fault k q) i f = never cc

  start_in : (e : ℕ) → g.next < e → g.next < length d → start_at bad d m g e ≡ Over → Lies
  unfolding start_at break_at language_at other_at
  start_in e i j f = by (eqb kind 1) (eqb kind 2) f where
    kind : ℕ
    kind = step_kind d (mode_in m g.inside) (g.next + 1) e

    by : (x y : Bool) → cond x (on_break bad d g (bare_of bad d g.next e))
        (cond y (on_language g (tag_of bad d g.next e lang [] [] 0 0 0 1)) (on_other g (bare_of bad d g.next e))) ≡ Over → Lies
    by true y f = break_in e (bare_of bad d g.next e) i refl f
    by false true f = language_no (tag_of bad d g.next e lang [] [] 0 0 0 1) f
    by false false f = other_in (bare_of bad d g.next e) j f

  close_no : (e : ℕ) → close_at bad d w g e ≡ Over → Lies
  unfolding close_at
  close_no e f = by g.inside (shut_of bad d g.next e text) (shut_of bad d g.next e w) f where
    by : (x : Bool) (r s : Skip) → cond x (on_out g r) (on_end g s) ≡ Over → Lies
    by true (skip.Past n) s f = never cc
    by true (skip.Broken q) s f = never cc
    by false r (skip.Past n) f = never cc
    by false r (skip.Broken q) f = never cc

  angle_in : (a : Angle) → angle_of bad d g.next ≡ a → g.next < length d → on_angle bad d m w g a ≡ Over → Lies
  angle_in (angle.Start e) o i f =
      let n = name_long (angle_start bad d g.next e o) in
      let k = n.0 in
      start_in e (omega arith) i f
  angle_in (angle.Close e) o i f = close_no e f
  angle_in angle.Foreign o i f = here i f
  angle_in (angle.Broken q) o i f = never cc

  mark_in : g.next < length d → mark_at bad d m w g ≡ Over → Lies
  unfolding mark_at note_at
  mark_in i f = by (bytes.stands (60 ∷ 33 ∷ 45 ∷ 45 ∷ []) (drop g.next d)) f where
    by : (x : Bool) → cond x (on_note g (xml_comment bad g.next (g.next + 4) (drop (g.next + 4) d)))
        (on_angle bad d m w g (angle_of bad d g.next)) ≡ Over → Lies
    by true f = note_no (xml_comment bad g.next (g.next + 4) (drop (g.next + 4) d)) f
    by false f = angle_in (angle_of bad d g.next) refl i f

  bracket_no : (x : Bool) → cond x (broken_at g.next) (go_on_saying g (g.next + 1) (said.Byte 93)) ≡ Over → Lies
  bracket_no true f = never cc
  bracket_no false f = never cc

  pub step_cut : step_of bad d m w g ≡ Over → Lies
  unfolding step_of refer_at bracket_at return_at
  step_cut f = by (leb (length d) g.next) (eqb b 60) (eqb b 38) (eqb b 93) (eqb b 13) refl f where
    b : ℕ
    b = get_or d g.next 0

    by : (x y z v t : Bool) → leb (length d) g.next ≡ x
        → cond x (broken_at g.next) (cond y (mark_at bad d m w g) (cond z (on_char g (reference_of g.next (drop (g.next + 1) d)))
        (cond v (cond (bytes.stands (93 ∷ 93 ∷ 62 ∷ []) (drop g.next d)) (broken_at g.next)
        (go_on_saying g (g.next + 1) (said.Byte 93)))
        (cond t (go_on_saying g (g.next + 1) (cond (bytes.stands (10 ∷ []) (drop (g.next + 1) d)) said.Nothing (said.Byte 10)))
        (go_on_saying g (g.next + 1) (said.Byte b)))))) ≡ Over → Lies
    by true y z v t e f = never cc
    by false true z v t e f = mark_in (leb-false (length d) g.next e) f
    by false false true v t e f = char_no g (reference_of g.next (drop (g.next + 1) d)) f
    by false false false true t e f = bracket_no (bytes.stands (93 ∷ 93 ∷ 62 ∷ []) (drop g.next d)) f
    by false false false false true e f = never cc
    by false false false false false e f = never cc

pub content_cut : (bad : Bool) (d : List ℕ) (m : ℕ) (w : List ℕ) (at p u : ℕ) → at ≤ length d → content_of bad d m w at ≡ content.Cut p u
    → (at ≤ p) × (p < length d)
content_cut bad d m w at p u h f =
    let r = content_reached false bad d m w (begun at) (content.Cut p u) f in
    let t = goes_on r.goes h in
    let s = step_cut bad d m w r.last p u r.over in
    (omega (arith, t.0, s.0), s.1)
