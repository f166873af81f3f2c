-- WHERE A TEXT ENDS, in words, in an element w by mode (0 characters alone, 1 breaks too, 2 texts in other languages too): at its end tag;
-- at what cuts it, 51 there; or where it is refused, 2 or 50. "`<text>` without a languages attribute: 51. br stands in title, label,
-- value, text only, else 51. Processing instructions and CDATA: 51 at `<`. An end tag of another name: 50 at its `<`. `]]>` in a text 50.
-- Where the file ends too early: 50."
use Rattle.std.specs.Prelude.{◌≡◌, ◌↔◌, Bool, leb, length, drop, Option, Some, None}
use Rattle.std.proofs.Math.Path.{refl, ap}
use Rattle.std.proofs.Common.{◌∙◌}
use Rattle.std.proofs.Math.Bool.{true, false, cond}
use mathlib.Core.List.{List, [], ◌∷◌}
use Prim.Native.Nat.{ℕ, ◌+◌, ◌<◌, ◌≤◌}
use Rattle.std.proofs.Math.Dec.{eqb}
use Rattle.std.proofs.Math.ListN.{get_or}
use borrow.Author.Tests.{ne_eqb, eqb-true, eqb-false, le-leb, lt-leb, leb-true, leb-false}
use Rattle.signs.specs.declared.Sign.{Sign}
use Rattle.markup.specs.rule.Bytes.{stands}
use Rattle.markup.specs.rule.Reference.{reference_of}
use Rattle.markup.specs.rule.Gap.{xml_comment}
use Rattle.markup.specs.declared.Skip.{Skip}
use Rattle.markup.specs.declared.Skip.TheVariants as skip
use Rattle.angles.specs.rule.Angle.{angle_of}
use Rattle.angles.specs.declared.Angle.{Angle}
use Rattle.angles.specs.declared.Angle.TheVariants as angle
use Rattle.tags.specs.declared.Tag.{Tag}
use Rattle.tags.specs.declared.Tag.TheVariants as tag
use Rattle.tags.specs.rule.Tag.{tag_of}
use Rattle.tags.specs.rule.Tag as tags
use Rattle.pairs.specs.declared.Pair.{Pair}
use Rattle.pairs.specs.declared.Pair.TheVariants as pair
use Rattle.pairs.specs.rule.Grammar.{Name, first_of}
use Rattle.pairs.specs.rule.Stand.{shut_of, bare_of}
use Rattle.pairs.specs.rule.Pair.{pair_of}
use Rattle.contents.specs.rule.Grammar.{br, text, lang}
use Rattle.contents.specs.rule.Step.{mode_in, step_kind, knowing, step_of, mark_at, note_at, start_at, break_at, pair_at, language_at}
use Rattle.contents.specs.rule.Step.{other_at}
use Rattle.contents.specs.rule.Step.{close_at}
use Rattle.contents.specs.rule.Step.{bracket_at, return_at, refer_at, on_char, on_note, content_pair, on_break, on_language, on_other}
use Rattle.contents.specs.rule.Step.{on_out, on_end}
use Rattle.contents.specs.rule.Step.{on_angle, go_on_saying, broken_at}
use Rattle.contents.specs.rule.Content.{begun, content_of}
use Rattle.contents.specs.declared.Going.{Going}
use Rattle.contents.specs.declared.Said.TheVariants as said
use Rattle.contents.specs.declared.Step.TheVariants.{Over}
use Rattle.contents.specs.declared.Content.{Content}
use Rattle.contents.specs.declared.Content.TheVariants as content
use Rattle.contents.proofs.Goes.{Goes, content_reached, content_over, goes_content}
use Rattle.contents.proofs.Exactly.{ContentAt, content_exactly}
use Rattle.tokens.specs.declared.Fault.{Fault}
use Rattle.tokens.specs.rule.Gap.{fault}
use Rattle.reading.specs.rule.Result.{Is, Not}
use Rattle.bridge.specs.Lowest.{never}
use Rattle.xml_reading.specs.rule.Open.{unknown_at}
use Rattle.xml_reading.specs.rule.Open as opening
use Rattle.xml_reading.specs.rule.Element.{Body, body_of, on_content, body}
use Rattle.xml_refusals.specs.Tags.{TagFaults, tag_refused_exactly}
use Rattle.xml_refusals.specs.Opens.{Whole, Broken, whole_read, read_whole}
use Rattle.xml_refusals.specs.Voids.{VoidStops, void_refused_exactly}

-- <!--
abbrev note : List ℕ
note = 60 ∷ 33 ∷ 45 ∷ 45 ∷ []

module _ (bad : Bool) (d : List ℕ) (m : ℕ) (w : List ℕ) where
  -- where a text was read up to g, a < stands that begins no comment, and opens this
  pub record Marked (g : Going) (a : Angle) : Type 0 where
    pub inside : g.next < length d
    pub less : get_or d g.next 0 ≡ 60
    pub no_note : stands note (drop g.next d) ≡ false
    pub opens : angle_of bad d g.next ≡ a

  -- the start tag there is that of br (1), of text (2), where they may stand, or of neither
  abbrev pub kind_at : Going → ℕ → ℕ
  kind_at g e = step_kind d (mode_in m g.inside) (g.next + 1) e

  -- a br that is no pair yet
  pub record Breaks (g : Going) (e : ℕ) : Type 0 where
    pub marked : Marked g (angle.Start e)
    pub kind : kind_at g e ≡ 1
    pub tag : Whole d e
    pub unshut : (tag).alone ≡ false

  -- THE END of a text that was read up to g
  pub data Halts (g : Going) : Content → Type 0 where
    -- its end tag
    ended : {e n : ℕ} → Marked g (angle.Close e) → g.inside ≡ false → shut_of bad d g.next e w ≡ skip.Past n
        → Halts g (content.Read g.next n g.unknown)
    -- what cuts it: what document 000 doesn't name; a start tag that may not stand there; either inside a br
    foreign : Marked g angle.Foreign → Halts g (content.Cut g.next g.unknown)
    other : {e : ℕ} → Marked g (angle.Start e) → (kind_at g e ≡ 1 → ⊥) → (kind_at g e ≡ 2 → ⊥) → Whole d e
        → Halts g (content.Cut g.next g.unknown)
    in_break : {e p : ℕ} (y : Breaks g e) → pair_of bad d y.tag.behind br ≡ pair.Cut p
        → Halts g (content.Cut p (first_of g.unknown y.tag.held.unknown))
    -- refused: the file's end, ]]>, a bad reference, a broken comment, a < with no name
    over : length d ≤ g.next → Halts g (content.Fault 50 g.next)
    brackets : g.next < length d → get_or d g.next 0 ≡ 93 → stands (93 ∷ 93 ∷ 62 ∷ []) (drop g.next d) ≡ true
        → Halts g (content.Fault 50 g.next)
    reference : g.next < length d → get_or d g.next 0 ≡ 38 → reference_of g.next (drop (g.next + 1) d) ≡ None
        → Halts g (content.Fault 50 g.next)
    comment : {q : ℕ} → g.next < length d → get_or d g.next 0 ≡ 60 → stands note (drop g.next d) ≡ true
        → xml_comment bad g.next (g.next + 4) (drop (g.next + 4) d) ≡ skip.Broken q → Halts g (content.Fault 50 q)
    broken : {q : ℕ} → Marked g (angle.Broken q) → Halts g (content.Fault 50 q)
    -- a start tag that is broken: of br, of text, of another; what follows that of br; an end tag, of text or of w, broken or another
    break_tag : {e : ℕ} {f : Fault} → Marked g (angle.Start e) → kind_at g e ≡ 1 → Broken bad d g.next e f
        → Halts g (content.Fault f.number f.place)
    break_end : {e : ℕ} {f : Fault} (y : Breaks g e) → VoidStops bad d br false y.tag.behind f
        → Halts g (content.Fault f.number f.place)
    language_tag : {e : ℕ} {f : Fault} → Marked g (angle.Start e) → kind_at g e ≡ 2
        → TagFaults bad d g.next lang [] [] 0 0 0 1 (tags.nothing_held e) f → Halts g (content.Fault f.number f.place)
    other_tag : {e : ℕ} {f : Fault} → Marked g (angle.Start e) → (kind_at g e ≡ 1 → ⊥) → (kind_at g e ≡ 2 → ⊥)
        → Broken bad d g.next e f → Halts g (content.Fault f.number f.place)
    end_of_text : {e q : ℕ} → Marked g (angle.Close e) → g.inside ≡ true → shut_of bad d g.next e text ≡ skip.Broken q
        → Halts g (content.Fault 50 q)
    end_tag : {e q : ℕ} → Marked g (angle.Close e) → g.inside ≡ false → shut_of bad d g.next e w ≡ skip.Broken q
        → Halts g (content.Fault 50 q)

  moved : {g : Going} {b c : Content} → b ≡ c → Halts g b → Halts g c
  moved e y = rw (← e) y

  -- ---- what a step is over with
  module _ (g : Going) {c : Content} where
    break_seen : (e : ℕ) → Marked g (angle.Start e) → kind_at g e ≡ 1 → (t : Tag) → bare_of bad d g.next e ≡ t
        → on_break bad d g t ≡ Over c → Halts g c
    unfolding pair_at opening.nothing
    break_seen e o k (tag.Fault x y) r z =
        let i : content.Fault x y ≡ c = cc in
        moved i (break_tag o k ((tag_refused_exactly bad d g.next e [] [] [] 0 0 0 0 (fault x y)).0 r))
    break_seen e o k (tag.Read h em q n) r z = by em refl z where
      whole : Whole d e
      whole = read_whole bad d g.next e r

      pairs : em ≡ false → (v : Pair) → pair_of bad d n br ≡ v → content_pair (knowing g h.unknown) v ≡ Over c → Halts g c
      pairs a (pair.Past j) v z = never cc
      pairs a (pair.Cut p) v z =
          let i : content.Cut p (first_of g.unknown h.unknown) ≡ c = cc in
          moved i (in_break (record { marked = o; kind = k; tag = whole; unshut = a }) v)
      pairs a (pair.Fault x y) v z =
          let i : content.Fault x y ≡ c = cc in
          moved i (break_end (record { marked = o; kind = k; tag = whole; unshut = a })
          ((void_refused_exactly bad d br false n (fault x y)).0 (rw v)))

      by : (b : Bool) → em ≡ b
          → cond b (go_on_saying (knowing g h.unknown) n said.Break) (content_pair (knowing g h.unknown) (pair_of bad d n br)) ≡ Over c
          → Halts g c
      by true a z = never cc
      by false a z = pairs a (pair_of bad d n br) refl z

    language_seen : (e : ℕ) → Marked g (angle.Start e) → kind_at g e ≡ 2 → (t : Tag) → tag_of bad d g.next e lang [] [] 0 0 0 1 ≡ t
        → on_language g t ≡ Over c → Halts g c
    language_seen e o k (tag.Read h em q n) r z = never cc
    language_seen e o k (tag.Fault x y) r z =
        let i : content.Fault x y ≡ c = cc in
        moved i (language_tag o k ((tag_refused_exactly bad d g.next e lang [] [] 0 0 0 1 (fault x y)).0 r))

    other_seen : (e : ℕ) → Marked g (angle.Start e) → (kind_at g e ≡ 1 → ⊥) → (kind_at g e ≡ 2 → ⊥) → (t : Tag)
        → bare_of bad d g.next e ≡ t → on_other g t ≡ Over c → Halts g c
    other_seen e o j k (tag.Read h em q n) r z =
        let i : content.Cut g.next g.unknown ≡ c = cc in moved i (other o j k (read_whole bad d g.next e r))
    other_seen e o j k (tag.Fault x y) r z =
        let i : content.Fault x y ≡ c = cc in
        moved i (other_tag o j k ((tag_refused_exactly bad d g.next e [] [] [] 0 0 0 0 (fault x y)).0 r))

    start_seen : (e : ℕ) → Marked g (angle.Start e) → start_at bad d m g e ≡ Over c → Halts g c
    unfolding start_at break_at language_at other_at
    start_seen e o z = by (eqb (kind_at g e) 1) (eqb (kind_at g e) 2) refl refl z where
      by : (a b : Bool) → eqb (kind_at g e) 1 ≡ a → eqb (kind_at g e) 2 ≡ b
          → cond a (on_break bad d g (bare_of bad d g.next e))
          (cond b (on_language g (tag_of bad d g.next e lang [] [] 0 0 0 1)) (on_other g (bare_of bad d g.next e))) ≡ Over c
          → Halts g c
      by true b i j z = break_seen e o (eqb-true (kind_at g e) 1 i) (bare_of bad d g.next e) refl z
      by false true i j z =
          language_seen e o (eqb-true (kind_at g e) 2 j) (tag_of bad d g.next e lang [] [] 0 0 0 1) refl z
      by false false i j z =
          other_seen e o (eqb-false (kind_at g e) 1 i) (eqb-false (kind_at g e) 2 j) (bare_of bad d g.next e) refl z

    close_seen : (e : ℕ) → Marked g (angle.Close e) → close_at bad d w g e ≡ Over c → Halts g c
    unfolding close_at
    close_seen e o z = by g.inside refl z where
      out : g.inside ≡ true → (r : Skip) → shut_of bad d g.next e text ≡ r → on_out g r ≡ Over c → Halts g c
      out i (skip.Past n) r z = never cc
      out i (skip.Broken q) r z = let j : content.Fault 50 q ≡ c = cc in moved j (end_of_text o i r)

      ends : g.inside ≡ false → (r : Skip) → shut_of bad d g.next e w ≡ r → on_end g r ≡ Over c → Halts g c
      ends i (skip.Past n) r z = let j : content.Read g.next n g.unknown ≡ c = cc in moved j (ended o i r)
      ends i (skip.Broken q) r z = let j : content.Fault 50 q ≡ c = cc in moved j (end_tag o i r)

      by : (b : Bool) → g.inside ≡ b
          → cond b (on_out g (shut_of bad d g.next e text)) (on_end g (shut_of bad d g.next e w)) ≡ Over c → Halts g c
      by true i z = out i (shut_of bad d g.next e text) refl z
      by false i z = ends i (shut_of bad d g.next e w) refl z

    mark_seen : g.next < length d → get_or d g.next 0 ≡ 60 → mark_at bad d m w g ≡ Over c → Halts g c
    unfolding mark_at note_at
    mark_seen h l z = by (stands note (drop g.next d)) refl z where
      notes : stands note (drop g.next d) ≡ true → (r : Skip)
          → xml_comment bad g.next (g.next + 4) (drop (g.next + 4) d) ≡ r → on_note g r ≡ Over c → Halts g c
      notes i (skip.Past n) r z = never cc
      notes i (skip.Broken q) r z = let j : content.Fault 50 q ≡ c = cc in moved j (comment h l i r)

      opened : stands note (drop g.next d) ≡ false → (a : Angle) → angle_of bad d g.next ≡ a → on_angle bad d m w g a ≡ Over c
          → Halts g c
      opened i (angle.Start e) a z = start_seen e (record { inside = h; less = l; no_note = i; opens = a }) z
      opened i (angle.Close e) a z = close_seen e (record { inside = h; less = l; no_note = i; opens = a }) z
      opened i angle.Foreign a z =
          let j : content.Cut g.next g.unknown ≡ c = cc in
          moved j (foreign (record { inside = h; less = l; no_note = i; opens = a }))
      opened i (angle.Broken q) a z =
          let j : content.Fault 50 q ≡ c = cc in moved j (broken (record { inside = h; less = l; no_note = i; opens = a }))

      by : (b : Bool) → stands note (drop g.next d) ≡ b
          → cond b (on_note g (xml_comment bad g.next (g.next + 4) (drop (g.next + 4) d)))
          (on_angle bad d m w g (angle_of bad d g.next)) ≡ Over c → Halts g c
      by true i z = notes i (xml_comment bad g.next (g.next + 4) (drop (g.next + 4) d)) refl z
      by false i z = opened i (angle_of bad d g.next) refl z

    step_seen : step_of bad d m w g ≡ Over c → Halts g c
    unfolding step_of refer_at bracket_at return_at
    step_seen z =
        by (leb (length d) g.next) (eqb b 60) (eqb b 38) (eqb b 93) (eqb b 13) refl refl refl refl z where
          b : ℕ
          b = get_or d g.next 0

          refers : g.next < length d → b ≡ 38 → (r : Option (ℕ × ℕ)) → reference_of g.next (drop (g.next + 1) d) ≡ r → on_char g r ≡ Over c
              → Halts g c
          refers h i (Some (x, n)) r z = never cc
          refers h i None r z = let j : content.Fault 50 g.next ≡ c = cc in moved j (reference h i r)

          bracket : g.next < length d → b ≡ 93 → (q : Bool) → stands (93 ∷ 93 ∷ 62 ∷ []) (drop g.next d) ≡ q
              → cond q (broken_at g.next) (go_on_saying g (g.next + 1) (said.Byte 93)) ≡ Over c → Halts g c
          bracket h i true r z = let j : content.Fault 50 g.next ≡ c = cc in moved j (brackets h i r)
          bracket h i false r z = never cc

          by : (o p q r s : Bool) → leb (length d) g.next ≡ o → eqb b 60 ≡ p → eqb b 38 ≡ q → eqb b 93 ≡ r
              → cond o (broken_at g.next)
              (cond p (mark_at bad d m w g)
              (cond q (on_char g (reference_of g.next (drop (g.next + 1) d)))
              (cond r (cond (stands (93 ∷ 93 ∷ 62 ∷ []) (drop g.next d)) (broken_at g.next)
              (go_on_saying g (g.next + 1) (said.Byte 93)))
              (cond s (go_on_saying g (g.next + 1) (cond (stands (10 ∷ []) (drop (g.next + 1) d)) said.Nothing (said.Byte 10)))
              (go_on_saying g (g.next + 1) (said.Byte b)))))) ≡ Over c → Halts g c
          by true p q r s h i j k z =
              let v : content.Fault 50 g.next ≡ c = cc in moved v (over (leb-true (length d) g.next h))
          by false true q r s h i j k z = mark_seen (leb-false (length d) g.next h) (eqb-true b 60 i) z
          by false false true r s h i j k z =
              refers (leb-false (length d) g.next h) (eqb-true b 38 j) (reference_of g.next (drop (g.next + 1) d)) refl z
          by false false false true s h i j k z =
              bracket (leb-false (length d) g.next h) (eqb-true b 93 k) (stands (93 ∷ 93 ∷ 62 ∷ []) (drop g.next d)) refl z
          by false false false false true h i j k z = never cc
          by false false false false false h i j k z = never cc

  -- ---- and back
  marked_step : {g : Going} {a : Angle} → Marked g a → step_of bad d m w g ≡ on_angle bad d m w g a
  unfolding step_of mark_at
  marked_step {g} {a} o = rw (lt-leb (length d) g.next o.inside, o.less, o.no_note, o.opens)

  break_step : {g : Going} {e : ℕ} (y : Breaks g e) → step_of bad d m w g
      ≡ content_pair (knowing g y.tag.held.unknown) (pair_of bad d y.tag.behind br)
  unfolding start_at break_at pair_at
  break_step {g} {e} y =
      marked_step y.marked ∙ rw (y.kind, whole_read bad d g.next y.tag, y.unshut)

  refused_pair : (n : ℕ) {f : Fault} → opening.nothing bad d br false n ≡ Not f → pair_of bad d n br ≡ pair.Fault f.number f.place
  unfolding opening.nothing
  refused_pair n {f} e = by (pair_of bad d n br) e where
    by : (v : Pair) → opening.on_pair bad d v ≡ Not f → v ≡ pair.Fault f.number f.place
    by (pair.Past k) e = never cc
    by (pair.Cut p) e = never cc
    by (pair.Fault x y) e = let i : fault x y ≡ f = cc in ap (λ (z : Fault). pair.Fault z.number z.place) i

  halts_step : {g : Going} {c : Content} → Halts g c → step_of bad d m w g ≡ Over c
  unfolding step_of mark_at note_at refer_at bracket_at start_at break_at language_at other_at close_at
  halts_step (ended o i r) = marked_step o ∙ rw (i, r)
  halts_step (foreign o) = marked_step o
  halts_step {g} (other {e} o j k y) =
      marked_step o ∙ rw (ne_eqb (kind_at g e) 1 j, ne_eqb (kind_at g e) 2 k, whole_read bad d g.next y)
  halts_step (in_break y r) = break_step y ∙ rw r
  halts_step {g} (over h) = rw (le-leb (length d) g.next h)
  halts_step {g} (brackets h i r) = rw (lt-leb (length d) g.next h, i, r)
  halts_step {g} (reference h i r) = rw (lt-leb (length d) g.next h, i, r)
  halts_step {g} (comment h i j r) = rw (lt-leb (length d) g.next h, i, j, r)
  halts_step (broken o) = marked_step o
  halts_step {g} (break_tag {e} {f} o k y) =
      marked_step o ∙ rw (k, (tag_refused_exactly bad d g.next e [] [] [] 0 0 0 0 f).1 y)
  halts_step {g} (break_end {e} {f} y z) =
      break_step y ∙ rw (refused_pair y.tag.behind ((void_refused_exactly bad d br false y.tag.behind f).1 z))
  halts_step {g} (language_tag {e} {f} o k y) =
      marked_step o ∙ rw (k, (tag_refused_exactly bad d g.next e lang [] [] 0 0 0 1 f).1 y)
  halts_step {g} (other_tag {e} {f} o j k y) =
      marked_step o
      ∙ rw (ne_eqb (kind_at g e) 1 j, ne_eqb (kind_at g e) 2 k, (tag_refused_exactly bad d g.next e [] [] [] 0 0 0 0 f).1 y)
  halts_step (end_of_text o i r) = marked_step o ∙ rw (i, r)
  halts_step (end_tag o i r) = marked_step o ∙ rw (i, r)

  -- ---- a text from n on: pieces up to g, and its end
  pub record Ends (n : ℕ) (c : Content) : Type 0 where
    pub last : Going
    pub signs : List Sign
    pub goes : Goes false bad d m w (begun n) last signs
    pub halts : Halts last c

  -- TEXT: whatever is answered is answered exactly so
  pub ends_exactly : (n : ℕ) (c : Content) → (content_of bad d m w n ≡ c) ↔ Ends n c
  ends_exactly n c = (seen, back) where
    seen : content_of bad d m w n ≡ c → Ends n c
    seen e =
        let r = content_reached false bad d m w (begun n) c e in
        record { last = r.last; signs = r.signs; goes = r.goes; halts = step_seen r.last r.over }

    back : Ends n c → content_of bad d m w n ≡ c
    back y = goes_content false bad d m w y.goes ∙ content_over bad d m w y.last c (halts_step y.halts)

  -- ---- what follows the start tag of an element that holds a text: the text, whole or cut, with what is charged in it; or it is refused
  pub data Texted : Bool → ℕ → Body → ℕ → Type 0 where
    alone : {n : ℕ} → Texted true n (body_of n n true []) n
    whole : {n e k u : ℕ} → ContentAt false d m w n e k u → Texted false n (body_of n e true (unknown_at u ∷ [])) k
    cut : {n p u : ℕ} → Ends n (content.Cut p u) → Texted false n (body_of n n false (unknown_at u ∷ unknown_at p ∷ [])) p

  pub data TextStops : Bool → ℕ → Fault → Type 0 where
    refused : {n k p : ℕ} → Ends n (content.Fault k p) → TextStops false n (fault k p)

  told : {em : Bool} {n p k : ℕ} {b c : Body} → b ≡ c → p ≡ k → Texted em n b p → Texted em n c k
  told e f y = rw (← e, ← f) y

  stopped : {em : Bool} {n : ℕ} {f g : Fault} → f ≡ g → TextStops em n f → TextStops em n g
  stopped e y = rw (← e) y

  pub texted_exactly : (em : Bool) (n : ℕ) (b : Body) (k : ℕ) → Name w → (body bad d w m em n ≡ Is b k) ↔ Texted em n b k
  unfolding body
  texted_exactly em n b k a = (seen em, back) where
    seen : (em : Bool) → cond em (Is (body_of n n true []) n) (on_content n (content_of bad d m w n)) ≡ Is b k → Texted em n b k
    seen true e = let i : body_of n n true [] ≡ b = cc in let j : n ≡ k = cc in told i j alone
    seen false e = by (content_of bad d m w n) refl e where
      by : (c : Content) → content_of bad d m w n ≡ c → on_content n c ≡ Is b k → Texted false n b k
      by (content.Read q p u) r e =
          let i : body_of n q true (unknown_at u ∷ []) ≡ b = cc in
          let j : p ≡ k = cc in
          told i j (whole ((content_exactly false bad d m w n q p u a).0 r))
      by (content.Cut p u) r e =
          let i : body_of n n false (unknown_at u ∷ unknown_at p ∷ []) ≡ b = cc in
          let j : p ≡ k = cc in
          told i j (cut ((ends_exactly n (content.Cut p u)).0 r))
      by (content.Fault x y) r e = never cc

    back : {em : Bool} {n : ℕ} {b : Body} {k : ℕ} → Texted em n b k → body bad d w m em n ≡ Is b k
    back alone = refl
    back (whole {n} {e} {k} {u} y) = rw ((content_exactly false bad d m w n e k u a).1 y)
    back (cut {n} {p} {u} y) = rw ((ends_exactly n (content.Cut p u)).1 y)

  pub text_refused_exactly : (em : Bool) (n : ℕ) (f : Fault) → (body bad d w m em n ≡ Not f) ↔ TextStops em n f
  unfolding body
  text_refused_exactly em n f = (seen em, back) where
    seen : (em : Bool) → cond em (Is (body_of n n true []) n) (on_content n (content_of bad d m w n)) ≡ Not f → TextStops em n f
    seen true e = never cc
    seen false e = by (content_of bad d m w n) refl e where
      by : (c : Content) → content_of bad d m w n ≡ c → on_content n c ≡ Not f → TextStops false n f
      by (content.Read q p u) r e = never cc
      by (content.Cut p u) r e = never cc
      by (content.Fault x y) r e =
          let i : fault x y ≡ f = cc in stopped i (refused ((ends_exactly n (content.Fault x y)).0 r))

    back : {em : Bool} {n : ℕ} {f : Fault} → TextStops em n f → body bad d w m em n ≡ Not f
    back (refused {n} {k} {p} y) = rw ((ends_exactly n (content.Fault k p)).1 y)
