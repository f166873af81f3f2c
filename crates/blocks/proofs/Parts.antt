-- The readers of ranges and lines, part by part: what the code makes of a tag, of what follows it and of the judgement is what the rule
-- says.
use Rattle.std.specs.Prelude.{Ok, Err}
use mathlib.Core.Path.{◌≡◌, refl, ◌∙◌, ap}
use mathlib.Core.Bool.{Bool, true, false, cond}
use mathlib.Core.List.{List, [], ◌∷◌, ◌++◌}
use Prim.Native.Nat.{ℕ, ◌-◌, ◌≤◌}
use native.Mathlib.Omega.{arith}
use lib.Dec.{eqb}
use lib.IntN.{ℤ}
use lib.ListN.{length}
use Rattle.below.specs.Below.{and_left}
use Rattle.ranks.specs.declared.Found.{Found}
use Rattle.ranks.specs.rule.Rank.{found_at, lower_found}
use Rattle.tags.specs.rule.Tag.{tag_of}
use Rattle.tags.specs.declared.Held.{Held}
use Rattle.tags.specs.declared.Tag.TheVariants as tag
use Rattle.tokens.specs.declared.Fault.{Fault}
use Rattle.tokens.specs.declared.Value.{Value}
use Rattle.tokens.specs.rule.Gap.{fault}
use Rattle.values.specs.declared.Block as books
use Rattle.values.specs.declared.Said.{Said}
use Rattle.values.specs.Line.{judge_line}
use Rattle.values.specs.Room.{room_at, storable, judged_room, judged_marks}
use Rattle.survey.specs.rule.Survey.{Amount, Range, Block}
use Rattle.reading.specs.rule.Result.{Result, Is, Not, bind}
use Rattle.reading.specs.rule.Least.{Charge, ◌when◌, judged}
use Rattle.reading.specs.rule.Token.{amount_read}
use Rattle.reading.specs.rule.Values.{form_is, range_from}
use Rattle.bridge.specs.Lowest as charges
use Rattle.bridge.specs.Lowest.{never, Clear, clear, fine, faulty, judged_view}
use Rattle.elements.specs.declared.Body as held
use Rattle.elements.specs.declared.Passed.TheVariants as passed
use Rattle.elements.specs.Code.{Slot, found_of, ruled, Numbered, passed_of, bodied_of}
use Rattle.elements.proofs.Ranking.{found_behind, judged_ruled}
use Rattle.elements.proofs.Bodies.{passed_is, passed_refused, nothing_numbered, body_is, body_refused, body_numbered}
use Rattle.xml_reading.specs.rule.Word.{VALUE, RANGE, CODE, FROM, TO}
use Rattle.xml_reading.specs.rule.Open.{unknown_at, nothing}
use Rattle.xml_reading.specs.rule.Element.{amount_in, body}
use Rattle.xml_reading.specs.rule.Block.{rich, pair_charges, range, lined}
use Rattle.blocks.specs.Code.{held_as, Below, pair_of, block_of, range_block, judged_of, ranged_of, settled_of, word_of, placed_of}
use Rattle.blocks.specs.Lines.{Wording, line_from, said_for, wording, worded_of, range_read, lined_of, Lines, Went}
use Rattle.blocks.specs.declared.Lined.{Lined}
use Rattle.blocks.specs.declared.Lined.TheVariants as lining
use Rattle.blocks.specs.declared.Worded.TheVariants as worded
use Rattle.blocks.proofs.Numbers.{below_true}
use Rattle.blocks.proofs.Charges.{Late, judged_split}
use Rattle.blocks.proofs.Ranges.{pair_judged}
use Rattle.elements.proofs.Tags.{tag_tells, first_there, both_there}
use Rattle.blocks.proofs.Bodies.{nothing_passes}
use Rattle.blocks.proofs.Heard.{word_told}
use Rattle.blocks.proofs.Steps.{line_is, line_went}

-- ---- a value of the right form has a form, as its type asks
pub formed_of : (quantity : Bool) (a : Amount) → form_is quantity a ≡ true → a.formed ≡ true
unfolding form_is
formed_of true a e = e
formed_of false a e = and_left a.formed _ e

module _ (d : List ℕ) (quantity : Bool) (h : Held) where
  abbrev x : Amount
  x = amount_in d h.a h.ae

  abbrev y : Amount
  y = amount_in d h.b h.be

  -- ---- a range that was read
  module _ (s : Slot d 2 h.a h.ae) (t : Slot d 2 h.b h.be) {a b : Value} (p : a ≡ held_as x) (q : b ≡ held_as y) where
    pub below_asks : (a.first ≤ a.last) × (a.last ≤ length d) × (b.first ≤ b.last) × (b.last ≤ length d)
    unfolding amount_in amount_read
    below_asks =
        let i : a.first ≡ h.a = ap (λ (v : Value). v.first) p in
        let j : a.last ≡ h.ae = ap (λ (v : Value). v.last) p in
        let k : b.first ≡ h.b = ap (λ (v : Value). v.first) q in
        let l : b.last ≡ h.be = ap (λ (v : Value). v.last) q in
        (omega (arith, s.ends), omega (arith, s.within), omega (arith, t.ends), omega (arith, t.within))

    pub range_settled : (n : ℕ) {below : Bool} → Below d a b below
        → pair_of below quantity a b ≡ judged_of (judged (pair_charges quantity x y) (range_from x y) n)
    range_settled n {below} w =
        let v : Below d (held_as x) (held_as y) below = rw (p, q) at w in
        rw (p, q) (pair_judged quantity below x y n λ i j. below_true d h.a h.ae h.b h.be s.fits t.fits
        (formed_of quantity x i) (formed_of quantity y j) v)

  -- what else was found comes behind
  range_behind : (n : ℕ) (l : List Charge) → Numbered l → Late 51 l
      → ranged_of (lower_found (found_at 51 h.unknown) (found_of l)) n (judged_of (judged (pair_charges quantity x y) (range_from x y) n))
      ≡ lined_of (bind (judged (pair_charges quantity x y ++ unknown_at h.unknown ∷ l) (range_from x y) n) (λ r m. Is (range_block r) m))
  unfolding pair_charges
  range_behind n l num late =
      rw (judged_split 51 (pair_charges quantity x y) (unknown_at h.unknown ∷ l)
      (omega arith, (omega arith, (omega arith, (omega arith, (omega arith, (omega arith, tt)))))) (refl, late) (range_from x y) n)
      (by (judged_view (pair_charges quantity x y) (range_from x y) n))
    where
      z : Found
      z = lower_found (found_at 51 h.unknown) (found_of l)

      ends : (q : Bool)
          → cond q (lining.Is (block_of (range_block (range_from x y))) n) (lining.Not (fault z.number z.place))
          ≡ lined_of (bind (cond q (Is (range_from x y) n) (Not (fault z.number z.place))) (λ r m. Is (range_block r) m))
      ends true = refl
      ends false = refl

      found : judged (unknown_at h.unknown ∷ l) (range_from x y) n ≡ ruled z (range_from x y) n
      found = judged_ruled (unknown_at h.unknown ∷ l) (range_from x y) n (omega arith, num) ∙ rw (found_behind h.unknown l num)

      by : {r : Result Range} → charges.Judged (pair_charges quantity x y) (range_from x y) n r
          → ranged_of z n (judged_of r)
          ≡ lined_of (bind (bind r (λ r m. judged (unknown_at h.unknown ∷ l) r m)) (λ r m. Is (range_block r) m))
      by (fine c) = rw found (ends (eqb z.number 0))
      by faulty = refl

module _ (bad : Bool) (d : List ℕ) (quantity : Bool) (p e : ℕ) (l : e ≤ length d) where
  module _ {h : Held} {em : Bool} {q m : ℕ} (t : tag_of bad d p e FROM TO [] 2 2 0 2 ≡ tag.Read h em q m) where
    pub range_slots : Slot d 2 h.a h.ae × Slot d 2 h.b h.be
    range_slots = both_there d 2 2 0 (tag_tells d 2 2 0 bad p e FROM TO [] 2 t)

    pub range_next : m ≤ length d
    range_next = (tag_tells d 2 2 0 bad p e FROM TO [] 2 t).next

    pub range_found : {x : Found} {n : ℕ} → passed_of (nothing bad d RANGE em m) ≡ passed.Is x n
        → settled_of d quantity h x n ≡ lined_of (range_read bad d quantity p e)
    unfolding range settled_of
    range_found {x} {n} f =
        let i = passed_is (nothing bad d RANGE em m) f in
        let num = nothing_numbered bad d RANGE em m i.reads in
        let b = nothing_passes bad d RANGE em m range_next i.reads in
        rw (t, i.reads) (rw i.found at (range_behind d quantity h n i.charges num b.late))

    pub range_not : {f : Fault} → passed_of (nothing bad d RANGE em m) ≡ passed.Not f → lining.Not f
        ≡ lined_of (range_read bad d quantity p e)
    unfolding range
    range_not g = rw (t, passed_refused (nothing bad d RANGE em m) g)

  pub range_fault : {k q : ℕ} → tag_of bad d p e FROM TO [] 2 2 0 2 ≡ tag.Fault k q
      → lining.Not (fault k q) ≡ lined_of (range_read bad d quantity p e)
  unfolding range
  range_fault t = rw t

-- ---- a line that was read
module _ (bad : Bool) (d : List ℕ) (languages : Bool) (p e : ℕ) (l : e ≤ length d) where
  module _ {h : Held} {em : Bool} {q m : ℕ} (t : tag_of bad d p e CODE [] [] 2 0 0 1 ≡ tag.Read h em q m) where
    pub value_slot : Slot d 2 h.a h.ae
    value_slot = first_there d 2 0 0 (tag_tells d 2 0 0 bad p e CODE [] [] 1 t)

    pub value_next : m ≤ length d
    value_next = (tag_tells d 2 0 0 bad p e CODE [] [] 1 t).next

    pub value_found : {b : held.Body} → bodied_of (body bad d VALUE (rich languages) em m) ≡ Ok b
        → word_of d h b ≡ worded_of (wording bad d languages p e)
    unfolding wording word_of
    value_found {b} f =
        let i = body_is (body bad d VALUE (rich languages) em m) f in
        let num = body_numbered bad d VALUE (rich languages) em m i.reads in
        rw (t, i.reads, found_behind h.unknown i.body.charges num, i.text, i.found)

    pub value_not : {f : Fault} → bodied_of (body bad d VALUE (rich languages) em m) ≡ Err f
        → worded.Not f ≡ worded_of (wording bad d languages p e)
    unfolding wording
    value_not g = rw (t, body_refused (body bad d VALUE (rich languages) em m) g)

  pub value_fault : {k q : ℕ} → tag_of bad d p e CODE [] [] 2 0 0 1 ≡ tag.Fault k q
      → worded.Not (fault k q) ≡ worded_of (wording bad d languages p e)
  unfolding wording
  value_fault t = rw t

  -- what the code holds of it
  pub record WordIs (s : Said) (x : Found) : Type 0 where
    pub words : Wording
    pub next : ℕ
    pub reads : wording bad d languages p e ≡ Is words next
    pub said : s ≡ said_for words next
    pub found : x ≡ found_of words.charges

  pub word_is : {s : Said} {x : Found} → worded_of (wording bad d languages p e) ≡ worded.Is s x → WordIs s x
  word_is {s} {x} = by (wording bad d languages p e) refl where
    by : (r : Result Wording) → wording bad d languages p e ≡ r → worded_of r ≡ worded.Is s x → WordIs s x
    by (Is w n) i f = record { words = w; next = n; reads = i; said = cc; found = cc }
    by (Not g) i f = never cc

  pub word_refused : {f : Fault} → worded_of (wording bad d languages p e) ≡ worded.Not f → wording bad d languages p e ≡ Not f
  word_refused {f} = by (wording bad d languages p e) where
    by : (r : Result Wording) → worded_of r ≡ worded.Not f → r ≡ Not f
    by (Is w n) g = never cc
    by (Not g) i = cc

  pub word_storable : length d ≤ 1048576 → {s : Said} {x : Found} → WordIs s x → storable s
  word_storable small i =
      let w = word_told bad d languages p e l i.reads in
      let a = w.place in
      let b = w.short in
      rw i.said (record { special = omega arith; place = omega arith; length = omega arith })

  module _ (quantity : Bool) {before : ℕ} {start room : List ℤ} {stamp : ℕ} {marks : List ℕ} {last : ℕ} {b : books.Block} {c : Block}
      (h : Lines quantity before start room stamp marks last b c) where
    late_numbered : (k : List Charge) → Late 51 k → Numbered k
    late_numbered [] t = tt
    late_numbered (f when q ∷ k) t = (omega (arith, t.0), late_numbered k t.1)

    pub line_placed : {s : Said} {x : Found} → WordIs s x → {r : Lined} {end : List ℤ} {marked : List ℕ}
        → r ≡ placed_of b s x (judge_line (room_at room before) (last - before) before quantity b s.value)
        → end ≡ judged_room room last s (judge_line (room_at room before) (last - before) before quantity b s.value)
        → marked ≡ judged_marks marks stamp (judge_line (room_at room before) (last - before) before quantity b s.value)
        → Went (length d) quantity before start end stamp marked last (lined bad d languages quantity before c p e) r
    line_placed i f g k =
        let w = word_told bad d languages p e l i.reads in
        let num = late_numbered i.words.charges w.late in
        let all = line_went h i.words i.next (length d) (found_of i.words.charges) w.ends w.late
        (judged_ruled i.words.charges (line_from i.words) i.next num)
        (judge_line (room_at room before) (last - before) before quantity b (held_as i.words.value)) refl in
        rw (line_is bad d languages quantity before c p e, i.reads, f, g, k, i.said, i.found) all

    pub line_refused : {f : Fault} (end : List ℤ) (marked : List ℕ) → wording bad d languages p e ≡ Not f
        → Went (length d) quantity before start end stamp marked last (lined bad d languages quantity before c p e) (lining.Not f)
    line_refused end marked g =
        rw (line_is bad d languages quantity before c p e, g)
        (record { answer = refl; lines = λ {c = c'} {n = n'} i. never cc; next = λ {c = c'} {n = n'} i. never cc })
