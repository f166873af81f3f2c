-- Where readers lead: on, and not beyond the end.
use mathlib.Core.Path.{◌≡◌, refl}
use mathlib.Core.Bool.{Bool, false}
use mathlib.Core.List.{List, [], ◌∷◌, ◌++◌}
use Prim.Native.Nat.{ℕ, ◌+◌, ◌≤◌, ◌<◌}
use native.Mathlib.Omega.{arith}
use lib.ListN.{length, length-append}
use Rattle.markup.proofs.Gaps.{gap_exactly}
use Rattle.markup.specs.declared.Skip.{Skip}
use Rattle.markup.specs.declared.Skip.TheVariants as skip
use Rattle.attributes.proofs.Exactly.{attribute_exactly, Ended, plain, empty, shut_exactly}
use Rattle.angles.specs.declared.Angle.{Angle}
use Rattle.angles.specs.declared.Angle.TheVariants as angle
use Rattle.tags.specs.declared.Held.{Held}
use Rattle.tags.specs.declared.Tag.TheVariants as tag
use Rattle.tags.specs.rule.Tag.{turn_of, tag_of}
use Rattle.tags.proofs.Turns.{turn_on}
use Rattle.tags.proofs.Exactly.{Placed, none, one, tag_exactly}
use Rattle.pairs.specs.declared.Stand.TheVariants as stand
use Rattle.pairs.specs.rule.Grammar.{Ends, ends}
use Rattle.pairs.specs.rule.Stand.{stand_of, shut_of}
use Rattle.pairs.proofs.Lies.{lies_within}
use Rattle.pairs.proofs.Stands.{StandsAt, stand_start, stand_close, angle_start, name_long}
use Rattle.pairs.proofs.Ends.{EndAt, ends_sound}
use Rattle.signs.specs.declared.Sign.{Sign}
use Rattle.contents.specs.declared.Going.{Going}
use Rattle.contents.specs.declared.Content.TheVariants as content
use Rattle.contents.specs.declared.Step.TheVariants as step
use Rattle.contents.specs.rule.Content.{begun, content_of}
use Rattle.contents.proofs.Views.{View, read, step_view}
use Rattle.contents.proofs.Goes.{Goes, stay, on, step_on, Reached, content_reached}
use Rattle.xml_reading.specs.rule.Open.{on_shut}
use Rattle.elements.specs.Code.{open_of, Within}

-- ---- what stands where a tag is due
gap_on_lem : (bad : Bool) (d : List ℕ) (at p : ℕ) {a : Angle} → StandsAt bad d at p a → at ≤ p
gap_on_lem bad d at p s = omega (arith, ((gap_exactly bad d at p).0 s.gap).place)

pub start_within : (bad : Bool) (d : List ℕ) (at p e : ℕ) → stand_of bad d at ≡ stand.Start p e → (at ≤ p) × (p + 1 < e) × (e ≤ length d)
start_within bad d at p e f =
    let s = stand_start bad d at p e f in
    let n = name_long (angle_start bad d p e s.opens) in
    (gap_on_lem bad d at p s, n.0, n.1)

end_long : {d w : List ℕ} {p n : ℕ} → EndAt d w p n → p + 2 < n
end_long {d} {w} {p} {n} x = by x.ends x.lies.place where
  by : {u : List ℕ} → Ends w u → n ≡ p + length u → p + 2 < n
  by (ends {v} h) e = omega (arith, length-append w (v ++ 62 ∷ []), length-append v (62 ∷ []))

pub shut_within : (bad : Bool) (d w : List ℕ) (at p e : ℕ) → stand_of bad d at ≡ stand.Close p e
    → Within d at (open_of (on_shut p (shut_of bad d p e w)))
shut_within bad d w at p e f = by (shut_of bad d p e w) refl where
  s : StandsAt bad d at p (angle.Close e)
  s = stand_close bad d at p e f

  by : (r : Skip) → shut_of bad d p e w ≡ r → Within d at (open_of (on_shut p r))
  by (skip.Past n) g =
      let i = s.inside in
      let x = ends_sound bad d w p e n i s.less s.opens g in
      (gap_on_lem bad d at p s, end_long x, lies_within x.lies (omega arith))
  by (skip.Broken q) g = tt

-- ---- a start tag
ended_within : {d : List ℕ} {at : ℕ} {em : Bool} {p n : ℕ} → Ended d at em p n → (at ≤ p) × (p < n) × (n ≤ length d)
ended_within (plain s h b) = let k = s.place in (omega arith, omega arith, omega arith)
ended_within (empty s h b c) = let k = s.place in (omega arith, omega arith, omega arith)

module _ (bad : Bool) (d : List ℕ) (o : ℕ) (x y z : List ℕ) (f g k required : ℕ) where
  placed_on : {h j : Held} → Placed d x y z f g k h j → h.next ≤ j.next
  unfolding turn_of
  placed_on none = omega arith
  placed_on {h} (one {i = i} a q r) =
      let t = turn_on bad d o x y z f g k required h i (rw ((attribute_exactly bad d o h.next).1 a) q) in
      omega (arith, t.0, placed_on r)

  pub tag_within : (at : ℕ) (h : Held) (em : Bool) (q n : ℕ) → tag_of bad d o at x y z f g k required ≡ tag.Read h em q n → (at ≤ q)
      × (q < n) × (n ≤ length d)
  tag_within at h em q n e =
      let t = (tag_exactly bad d o at x y z f g k required h em q n).0 e in
      let l = placed_on t.placed in
      let s = ended_within ((shut_exactly bad d o h.next).0 t.shut) in
      (omega (arith, l, s.0), s.1, s.2)

-- ---- a text
pub goes_on : {l bad : Bool} {d : List ℕ} {m : ℕ} {w : List ℕ} {g k : Going} {cs : List Sign} → Goes l bad d m w g k cs → g.next ≤ length d
    → (g.next ≤ k.next) × (k.next ≤ length d)
goes_on stay h = (omega arith, h)
goes_on {bad = bad} {d = d} {m = m} {w = w} {g = g} (on {h = i} {s = s} e r) h =
    let t = step_on bad d m w g i s e in
    let u = goes_on r t.1 in
    (omega (arith, t.0, u.0), u.1)

pub content_within : (bad : Bool) (d : List ℕ) (m : ℕ) (w : List ℕ) (at e n u : ℕ) → at ≤ length d → content_of bad d m w at
    ≡ content.Read e n u → (at ≤ e) × (e < n) × (n ≤ length d)
content_within bad d m w at e n u h f = by (rw (← r.over) (step_view false bad d m w r.last)) where
  r : Reached false bad d m w (begun at) (content.Read e n u)
  r = content_reached false bad d m w (begun at) (content.Read e n u) f

  by : View false d m w r.last (step.Over (content.Read e n u)) → (at ≤ e) × (e < n) × (n ≤ length d)
  by (read x) =
      let p = x.place in
      let t = goes_on r.goes h in
      let k = end_long x.ends in
      (omega (arith, t.0), omega arith, lies_within x.ends.lies t.1)
