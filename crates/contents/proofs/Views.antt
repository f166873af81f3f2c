-- What a step of a text finds: a piece, the tags of a text in another language, the end tag; or none of them.
use mathlib.Core.Path.{◌≡◌, refl, sym, ap, ◌∙◌}
use mathlib.Core.Bool.{Bool, true, false, cond, ◌&&◌}
use mathlib.Core.List.{List, [], ◌∷◌, ◌++◌}
use Prim.Native.Nat.{ℕ, ◌+◌, ◌≤◌, ◌<◌}
use native.Mathlib.Omega.{arith}
use lib.Dec.{leb, ltb, eqb}
use lib.ListN.{length, drop, get_or}
use borrow.Author.Tests.{eqb-true, eqb-false, leb-false, ne_eqb, le-leb, lt-leb, ltb-true, ltb-false}
use Rattle.std.proofs.Common.{Option, Some, None}
use Rattle.below.specs.Below.{and_left, and_right, holds_not}
use Rattle.utf.proofs.Strides.{drop_1}
use Rattle.signs.specs.declared.Sign.TheVariants as sign
use Rattle.utf.specs.rule.Chars.{encode, legal_character}
use Rattle.markup.specs.rule.Bytes.{stands}
use Rattle.markup.specs.rule.Reference.{reference_of}
use Rattle.markup.specs.rule.Gap.{xml_comment}
use Rattle.markup.specs.rule.Grammar.{Ref, lt, gt, amp, apos, quot, decimal, hex}
use Rattle.markup.specs.declared.Skip.{Skip}
use Rattle.markup.specs.declared.Skip.TheVariants as skip
use Rattle.markup.proofs.References.{reference_sound}
use Rattle.markup.proofs.Gaps.{comment_sound, stands_split}
use Rattle.angles.specs.rule.Angle.{angle_of}
use Rattle.angles.specs.declared.Angle.{Angle}
use Rattle.angles.specs.declared.Angle.TheVariants as angle
use Rattle.tags.specs.rule.Tag.{is_named, tag_of}
use Rattle.tags.specs.declared.Held.{Held}
use Rattle.tags.specs.declared.Tag.{Tag}
use Rattle.tags.specs.declared.Tag.TheVariants as tag
use Rattle.pairs.specs.rule.Stand.{shut_of, bare_of}
use Rattle.pairs.specs.rule.Pair.{pair_of}
use Rattle.pairs.specs.rule.Grammar.{Ends, ends, Behind, first_of}
use Rattle.pairs.specs.declared.Pair.{Pair}
use Rattle.pairs.specs.declared.Pair.TheVariants as pairs
use Rattle.pairs.proofs.Lies.{Lies, lies_join, lies_byte, named_lies, lies_within, split_lies}
use Rattle.pairs.proofs.Stands.{name_long, angle_start}
use Rattle.pairs.proofs.Given.{first_none}
use Rattle.pairs.proofs.Tags.{TagSaid, tag_sound}
use Rattle.pairs.proofs.Ends.{EndAt, ends_sound, pair_sound}
use Rattle.contents.specs.rule.Grammar.{br, text, lang, byte_signs, byte_of, ContentPiece, plain, line, return, refer, note, alone}
use Rattle.contents.specs.rule.Grammar.{pair, unsaid}
use Rattle.contents.specs.rule.Step.{heard_of, go_on_saying, broken_at, bracket_at, return_at, on_char, refer_at, on_note, note_at}
use Rattle.contents.specs.rule.Step.{knowing}
use Rattle.contents.specs.rule.Step.{content_pair, pair_at, on_break, break_at, on_language, language_at, on_other, other_at}
use Rattle.contents.specs.rule.Step.{mode_in, step_kind, start_at, on_out, on_end, close_at, on_angle, mark_at, step_of}
use Rattle.contents.specs.rule.Content.{signs_of}
use Rattle.contents.specs.declared.Going.{Going}
use Rattle.contents.specs.declared.Said.{Said}
use Rattle.contents.specs.declared.Said.TheVariants as said
use Rattle.contents.specs.declared.Content.TheVariants.{Read, Cut, Fault}
use Rattle.contents.specs.declared.Step.{Step}
use Rattle.contents.specs.declared.Step.TheVariants.{More, Over}

-- what follows a text: nothing, or a <
pub data Stop : List ℕ → Type 0 where
  nothing : Stop []
  mark : {t : List ℕ} → Stop (60 ∷ t)

-- ---- bytes that follow are not looked at beyond that
pub line_same : (t : List ℕ) {r : List ℕ} → Stop r → stands (10 ∷ []) (t ++ r) ≡ stands (10 ∷ []) t
unfolding stands
line_same [] nothing = refl
line_same [] mark = refl
line_same (b ∷ t) o = refl

and_no : (b : Bool) → (b && false) ≡ false
and_no true = refl
and_no false = refl

pub bracket_same : (b : ℕ) (t : List ℕ) {r : List ℕ} → Stop r → stands (93 ∷ 93 ∷ 62 ∷ []) (b ∷ (t ++ r))
    ≡ stands (93 ∷ 93 ∷ 62 ∷ []) (b ∷ t)
unfolding stands
bracket_same b [] nothing = refl
bracket_same b [] mark = refl
bracket_same b (c ∷ []) nothing = refl
bracket_same b (c ∷ []) mark = refl
bracket_same b (c ∷ e ∷ t) o = refl

pub no_bracket : (b : ℕ) (t : List ℕ) → (b ≡ 93 → ⊥) → stands (93 ∷ 93 ∷ 62 ∷ []) (b ∷ t) ≡ false
unfolding stands
no_bracket b t h = rw (ne_eqb b 93 h)

-- a line feed is written alike
pub byte_ten : (l : Bool) → byte_of l 10 ≡ sign.Byte 10 ∷ []
unfolding byte_signs encode
byte_ten true = refl
byte_ten false = refl

-- the character that is said, 0 for anything else
abbrev pub code_of : Said → ℕ
code_of said.Nothing = 0
code_of said.Break = 0
code_of (said.Byte b) = 0
code_of (said.Code c) = c

illegal : (c : ℕ) → 2097152 ≤ c → legal_character c ≡ false
unfolding legal_character
illegal c h =
    rw (
      le-leb 32 c (omega arith),
      lt-leb c 55295 (omega arith),
      le-leb 57344 c (omega arith),
      lt-leb c 65533 (omega arith),
      le-leb 65536 c (omega arith),
      lt-leb c 1114111 (omega arith),
    )
    (rw (ne_eqb c 9 (λ e. omega arith), ne_eqb c 10 (λ e. omega arith), ne_eqb c 13 (λ e. omega arith)))

legal_small : (c : ℕ) → legal_character c ≡ true → c < 2097152
legal_small c e = by (ltb c 2097152) refl where
  by : (q : Bool) → ltb c 2097152 ≡ q → c < 2097152
  by true f = ltb-true c 2097152 f
  by false f = absurd (holds_not e (illegal c (ltb-false c 2097152 f)))

ref_small : {u : List ℕ} {c : ℕ} → Ref u c → c < 2097152
ref_small lt = omega arith
ref_small gt = omega arith
ref_small amp = omega arith
ref_small apos = omega arith
ref_small quot = omega arith
ref_small (decimal {c = c} d e f) = legal_small c f
ref_small (hex {c = c} d e f) = legal_small c f

-- ---- the records
module _ (l : Bool) (d : List ℕ) (m : ℕ) (w : List ℕ) where
  -- over a piece
  pub record Passed (g h : Going) (s : Said) : Type 0 where
    pub bytes : List ℕ
    pub first : ℕ
    pub said : Said
    pub lies : Lies d g.next h.next bytes
    pub some : 0 < length bytes
    pub within : h.next ≤ length d
    pub inside : h.inside ≡ g.inside
    pub unknown : h.unknown ≡ first_of g.unknown first
    pub says : s ≡ heard_of g.inside said
    pub small : code_of said < 2097152
    pub piece : (t r : List ℕ) → drop h.next d ≡ t ++ r → Stop r
        → ContentPiece l (mode_in m g.inside) g.next bytes t (signs_of l said) first

  -- into a text in another language
  pub record Entered (g h : Going) (s : Said) : Type 0 where
    pub bytes : List ℕ
    pub first : ℕ
    pub behind : Behind lang false (g.next + 5) bytes true first
    pub lies : Lies d g.next h.next (60 ∷ (text ++ bytes))
    pub within : h.next ≤ length d
    pub outside : g.inside ≡ false
    pub mode : eqb m 2 ≡ true
    pub inside : h.inside ≡ true
    pub unknown : h.unknown ≡ first_of g.unknown first
    pub says : s ≡ said.Nothing

  -- out of it
  pub record Left (g h : Going) (s : Said) : Type 0 where
    pub bytes : List ℕ
    pub ends : Ends text bytes
    pub lies : Lies d g.next h.next bytes
    pub some : 0 < length bytes
    pub within : h.next ≤ length d
    pub inside : g.inside ≡ true
    pub outside : h.inside ≡ false
    pub unknown : h.unknown ≡ g.unknown
    pub says : s ≡ said.Nothing

  -- the text's end
  pub record Ended (g : Going) (e n u : ℕ) : Type 0 where
    pub outside : g.inside ≡ false
    pub place : e ≡ g.next
    pub unknown : u ≡ g.unknown
    pub ends : EndAt d w g.next n

  pub data View (g : Going) : Step → Type 0 where
    passed : {h : Going} {s : Said} → Passed g h s → View g (More h s)
    entered : {h : Going} {s : Said} → Entered g h s → View g (More h s)
    left : {h : Going} {s : Said} → Left g h s → View g (More h s)
    read : {e n u : ℕ} → Ended g e n u → View g (Over (Read e n u))
    cut : {p u : ℕ} → View g (Over (Cut p u))
    fault : {k p : ℕ} → View g (Over (Fault k p))

module _ (l bad : Bool) (d : List ℕ) (m : ℕ) (w : List ℕ) where
  over : (g : Going) (n : ℕ) (s : Said) (u : List ℕ) → Lies d g.next n u → 0 < length u → g.next ≤ length d → code_of s < 2097152
      → ((t r : List ℕ) → drop n d ≡ t ++ r → Stop r → ContentPiece l (mode_in m g.inside) g.next u t (signs_of l s) 0)
      → View l d m w g (go_on_saying g n s)
  over g n s u li so h sm pc = passed (record {
    bytes = u;
    first = 0;
    said = s;
    lies = li;
    some = so;
    within = lies_within li h;
    inside = refl;
    unknown = first_none g.unknown;
    says = refl;
    small = sm;
    piece = pc;
  })

  -- ---- bytes and references
  bracket_view : (g : Going) → g.next < length d → get_or d g.next 0 ≡ 93 → View l d m w g (bracket_at d g)
  unfolding bracket_at signs_of
  bracket_view g h b = by (stands (93 ∷ 93 ∷ 62 ∷ []) (drop g.next d)) refl where
    none : stands (93 ∷ 93 ∷ 62 ∷ []) (drop g.next d) ≡ false → (t r : List ℕ) → drop (g.next + 1) d ≡ t ++ r → Stop r
        → stands (93 ∷ 93 ∷ 62 ∷ []) (93 ∷ t) ≡ false
    none e t r f o = sym (bracket_same 93 t o) ∙ ap (stands (93 ∷ 93 ∷ 62 ∷ [])) (sym (drop_1 d g.next h ∙ rw (b, f))) ∙ e

    by : (q : Bool) → stands (93 ∷ 93 ∷ 62 ∷ []) (drop g.next d) ≡ q
        → View l d m w g (cond q (broken_at g.next) (go_on_saying g (g.next + 1) (said.Byte 93)))
    by true e = fault
    by false e =
        over g (g.next + 1) (said.Byte 93) (93 ∷ []) (lies_byte d g.next (g.next + 1) 93 h b refl) (omega arith) (omega arith)
        (omega arith)
        (λ t r f o. plain (λ x. omega arith) (λ x. omega arith) (λ x. omega arith) (none e t r f o))

  return_view : (g : Going) → g.next < length d → get_or d g.next 0 ≡ 13 → View l d m w g (return_at d g)
  unfolding return_at signs_of
  return_view g h b = by (stands (10 ∷ []) (drop (g.next + 1) d)) refl where
    same : (q : Bool) → stands (10 ∷ []) (drop (g.next + 1) d) ≡ q → (t r : List ℕ) → drop (g.next + 1) d ≡ t ++ r → Stop r
        → stands (10 ∷ []) t ≡ q
    same q e t r f o = sym (line_same t o) ∙ ap (stands (10 ∷ [])) (sym f) ∙ e

    by : (q : Bool) → stands (10 ∷ []) (drop (g.next + 1) d) ≡ q
        → View l d m w g (go_on_saying g (g.next + 1) (cond q said.Nothing (said.Byte 10)))
    by true e =
        over g (g.next + 1) said.Nothing (13 ∷ []) (lies_byte d g.next (g.next + 1) 13 h b refl) (omega arith) (omega arith)
        (omega arith) (λ t r f o. line (same true e t r f o))
    by false e =
        over g (g.next + 1) (said.Byte 10) (13 ∷ []) (lies_byte d g.next (g.next + 1) 13 h b refl) (omega arith) (omega arith)
        (omega arith) (λ t r f o. ten (same false e t r f o)) where
          ten : {k p : ℕ} {t : List ℕ} → stands (10 ∷ []) t ≡ false → ContentPiece l k p (13 ∷ []) t (byte_of l 10) 0
          ten e = rw (byte_ten l) (return e)

  refer_view : (g : Going) → g.next < length d → get_or d g.next 0 ≡ 38 → View l d m w g (refer_at d g)
  unfolding refer_at signs_of
  refer_view g h b = by (reference_of g.next (drop (g.next + 1) d)) refl where
    by : (r : Option (ℕ × ℕ)) → reference_of g.next (drop (g.next + 1) d) ≡ r → View l d m w g (on_char g r)
    by None e = fault
    by (Some (c, n)) e =
        let r = reference_sound g.next c n (drop (g.next + 1) d) e in
        let k = r.place in
        let x = split_lies d (g.next + 1) n r.bytes r.rest r.split k in
        over g n (said.Code c) (38 ∷ r.bytes) (lies_join (lies_byte d g.next (g.next + 1) 38 h b refl) x) (omega arith) (omega arith)
        (ref_small r.ref) (λ t s f z. refer r.ref)

  -- ---- comments
  note_view : (g : Going) → g.next < length d → stands (60 ∷ 33 ∷ 45 ∷ 45 ∷ []) (drop g.next d) ≡ true → View l d m w g (note_at bad d g)
  unfolding note_at signs_of
  note_view g h e = by (xml_comment bad g.next (g.next + 4) (drop (g.next + 4) d)) refl where
    by : (k : Skip) → xml_comment bad g.next (g.next + 4) (drop (g.next + 4) d) ≡ k → View l d m w g (on_note g k)
    by (skip.Broken p) f = fault
    by (skip.Past n) f =
        let x = stands_split (60 ∷ 33 ∷ 45 ∷ 45 ∷ []) (drop g.next d) e in
        let y = split_lies d g.next (g.next + 4) (60 ∷ 33 ∷ 45 ∷ 45 ∷ []) x.0 x.1 refl in
        let r = comment_sound bad g.next (g.next + 4) n (drop (g.next + 4) d) f in
        let k = r.place in
        let z = split_lies d (g.next + 4) n r.bytes r.rest r.split k in
        over g n said.Nothing (60 ∷ 33 ∷ 45 ∷ 45 ∷ r.bytes) (lies_join y z) (omega arith) (omega arith) (omega arith)
        (λ t s i z. note r.note)

  -- ---- breaks
  abbrev within : Going → ℕ
  within g = mode_in m g.inside

  -- a piece with an attribute that isn't known at a
  tagged : (g : Going) (n a : ℕ) (s : Said) (u : List ℕ) → Lies d g.next n u → 0 < length u → g.next ≤ length d → code_of s < 2097152
      → ((t : List ℕ) → ContentPiece l (within g) g.next u t (signs_of l s) a) → View l d m w g (go_on_saying (knowing g a) n s)
  tagged g n a s u li so h sm pc = passed (record {
    bytes = u;
    first = a;
    said = s;
    lies = li;
    some = so;
    within = lies_within li h;
    inside = refl;
    unknown = refl;
    says = refl;
    small = sm;
    piece = λ t r f o. pc t;
  })

  at_place : {k s : List ℕ} {em g : Bool} {p p' a : ℕ} → p ≡ p' → Behind k em p s g a → Behind k em p' s g a
  at_place e x = rw (← e) x

  pair_view : (g : Going) (e n : ℕ) (h : Held) (q : ℕ) → g.next < length d → Lies d g.next e (60 ∷ br) → leb 1 (within g) ≡ true
      → bare_of bad d g.next e ≡ tag.Read h false q n → View l d m w g (pair_at bad d (knowing g h.unknown) n)
  unfolding pair_at signs_of
  pair_view g e n h q i li o r = by (pair_of bad d n br) refl where
    t : TagSaid [] d e n false 0 h.unknown
    t = tag_sound bad [] d g.next e 0 h false q n r

    by : (k : Pair) → pair_of bad d n br ≡ k → View l d m w g (content_pair (knowing g h.unknown) k)
    by (pairs.Past x) f =
        let p = pair_sound bad d br n x f in
        let k : e ≡ g.next + 3 = li.place in
        tagged g x h.unknown said.Break (60 ∷ (br ++ (t.bytes ++ p.bytes))) (lies_join li (lies_join t.lies p.lies))
        (omega arith) (omega arith) (omega arith)
        (λ s. pair o (at_place k t.behind) p.empties)
    by (pairs.Cut p) f = cut
    by (pairs.Fault k p) f = fault

  break_view : (g : Going) (e : ℕ) → g.next < length d → Lies d g.next e (60 ∷ br) → leb 1 (within g) ≡ true
      → View l d m w g (break_at bad d g e)
  unfolding break_at signs_of
  break_view g e i li o = by (bare_of bad d g.next e) refl where
    by : (t : Tag) → bare_of bad d g.next e ≡ t → View l d m w g (on_break bad d g t)
    by (tag.Fault k p) f = fault
    by (tag.Read h true q n) f =
        let t = tag_sound bad [] d g.next e 0 h true q n f in
        let k : e ≡ g.next + 3 = li.place in
        tagged g n h.unknown said.Break (60 ∷ (br ++ t.bytes)) (lies_join li t.lies) (omega arith) (omega arith) (omega arith)
        (λ s. alone o (at_place k t.behind))
    by (tag.Read h false q n) f = pair_view g e n h q i li o f

  -- ---- texts in other languages
  outside : (x : ℕ) (i : Bool) → eqb (mode_in x i) 2 ≡ true → (i ≡ false) × (eqb x 2 ≡ true)
  outside x true e = let z : ◌≡◌ {A = ℕ} 0 1 = cc in absurd (omega arith)
  outside x false e = (refl, e)

  language_view : (g : Going) (e : ℕ) → g.next < length d → Lies d g.next e (60 ∷ text) → eqb (within g) 2 ≡ true
      → View l d m w g (language_at bad d g e)
  unfolding language_at signs_of
  language_view g e i li o = by (tag_of bad d g.next e lang [] [] 0 0 0 1) refl where
    out : (g.inside ≡ false) × (eqb m 2 ≡ true)
    out = outside m g.inside o

    k : e ≡ g.next + 5
    k = li.place

    given : {s : List ℕ} {em b : Bool} {p a : ℕ} → b ≡ true → p ≡ g.next + 5 → Behind lang em p s b a
        → Behind lang em (g.next + 5) s true a
    given f h x = rw (← f, ← h) x

    by : (t : Tag) → tag_of bad d g.next e lang [] [] 0 0 0 1 ≡ t → View l d m w g (on_language g t)
    by (tag.Fault x p) f = fault
    by (tag.Read h true q n) f =
        let t = tag_sound bad lang d g.next e 1 h true q n f in
        let z = out.0 in
        passed {s = said.Nothing} (record {
          bytes = 60 ∷ (text ++ t.bytes);
          first = h.unknown;
          said = said.Nothing;
          lies = lies_join li t.lies;
          some = omega arith;
          within = lies_within (lies_join li t.lies) (omega arith);
          inside = sym z;
          unknown = refl;
          says = rw z;
          small = omega arith;
          piece = λ s r x y. unsaid o (given (t.enough refl) k t.behind);
        })
    by (tag.Read h false q n) f =
        let t = tag_sound bad lang d g.next e 1 h false q n f in
        entered (record {
          bytes = t.bytes;
          first = h.unknown;
          behind = given (t.enough refl) k t.behind;
          lies = lies_join li t.lies;
          within = lies_within (lies_join li t.lies) (omega arith);
          outside = out.0;
          mode = out.1;
          inside = refl;
          unknown = refl;
          says = refl;
        })

  -- ---- start tags and end tags
  other_view : (g : Going) (e : ℕ) → View l d m w g (other_at bad d g e)
  unfolding other_at
  other_view g e = by (bare_of bad d g.next e) where
    by : (t : Tag) → View l d m w g (on_other g t)
    by (tag.Read h em q n) = cut
    by (tag.Fault k p) = fault

  start_view : (g : Going) (e : ℕ) → g.next < length d → get_or d g.next 0 ≡ 60 → angle_of bad d g.next ≡ angle.Start e
      → View l d m w g (start_at bad d m g e)
  unfolding start_at step_kind
  start_view g e i b a = by (leb 1 (within g) && is_named d (g.next + 1) e br) (eqb (within g) 2 && is_named d (g.next + 1) e text) refl
      refl where
        long : g.next + 1 < e
        long = (name_long (angle_start bad d g.next e a)).0

        named : (n : List ℕ) → is_named d (g.next + 1) e n ≡ true → Lies d g.next e (60 ∷ n)
        named n f = let x = long in lies_join (lies_byte d g.next (g.next + 1) 60 i b refl)
            (named_lies d (g.next + 1) e n (omega arith) f)

        by : (x y : Bool) → (leb 1 (within g) && is_named d (g.next + 1) e br) ≡ x → (eqb (within g) 2 && is_named d (g.next + 1) e text)
            ≡ y
            → View l d m w g (cond (eqb (cond x 1 (cond y 2 0)) 1) (break_at bad d g e)
            (cond (eqb (cond x 1 (cond y 2 0)) 2) (language_at bad d g e) (other_at bad d g e)))
        by true y f h =
            break_view g e i (named br (and_right (leb 1 (within g)) (is_named d (g.next + 1) e br) f))
            (and_left (leb 1 (within g)) (is_named d (g.next + 1) e br) f)
        by false true f h =
            language_view g e i (named text (and_right (eqb (within g) 2) (is_named d (g.next + 1) e text) h))
            (and_left (eqb (within g) 2) (is_named d (g.next + 1) e text) h)
        by false false f h = other_view g e

  ends_some : {t : List ℕ} → Ends text t → 0 < length t
  ends_some (ends x) = omega arith

  close_view : (g : Going) (e : ℕ) → g.next < length d → get_or d g.next 0 ≡ 60 → angle_of bad d g.next ≡ angle.Close e
      → View l d m w g (close_at bad d w g e)
  unfolding close_at
  close_view g e i b a = by g.inside refl where
    out : (k : Skip) → g.inside ≡ true → shut_of bad d g.next e text ≡ k → View l d m w g (on_out g k)
    out (skip.Past n) h f =
        let x = ends_sound bad d text g.next e n i b a f in
        left (record {
          bytes = x.bytes;
          ends = x.ends;
          lies = x.lies;
          some = ends_some x.ends;
          within = lies_within x.lies (omega arith);
          inside = h;
          outside = refl;
          unknown = refl;
          says = refl;
        })
    out (skip.Broken p) h f = fault

    shut : (k : Skip) → g.inside ≡ false → shut_of bad d g.next e w ≡ k → View l d m w g (on_end g k)
    shut (skip.Past n) h f = read (record { outside = h; place = refl; unknown = refl; ends = ends_sound bad d w g.next e n i b a f })
    shut (skip.Broken p) h f = fault

    by : (q : Bool) → g.inside ≡ q → View l d m w g
        (cond q (on_out g (shut_of bad d g.next e text)) (on_end g (shut_of bad d g.next e w)))
    by true h = out (shut_of bad d g.next e text) h refl
    by false h = shut (shut_of bad d g.next e w) h refl

  mark_view : (g : Going) → g.next < length d → get_or d g.next 0 ≡ 60 → View l d m w g (mark_at bad d m w g)
  unfolding mark_at
  mark_view g i b = by (stands (60 ∷ 33 ∷ 45 ∷ 45 ∷ []) (drop g.next d)) refl where
    opens : (a : Angle) → angle_of bad d g.next ≡ a → View l d m w g (on_angle bad d m w g a)
    opens (angle.Start e) f = start_view g e i b f
    opens (angle.Close e) f = close_view g e i b f
    opens angle.Foreign f = cut
    opens (angle.Broken p) f = fault

    by : (q : Bool) → stands (60 ∷ 33 ∷ 45 ∷ 45 ∷ []) (drop g.next d) ≡ q
        → View l d m w g (cond q (note_at bad d g) (on_angle bad d m w g (angle_of bad d g.next)))
    by true f = note_view g i f
    by false f = opens (angle_of bad d g.next) refl

  -- ---- the step
  pub step_view : (g : Going) → View l d m w g (step_of bad d m w g)
  unfolding step_of signs_of
  step_view g = by (leb (length d) g.next) (eqb (get_or d g.next 0) 60) (eqb (get_or d g.next 0) 38) (eqb (get_or d g.next 0) 93)
      (eqb (get_or d g.next 0) 13) refl refl refl refl refl where
        by : (v x y z q : Bool) → leb (length d) g.next ≡ v → eqb (get_or d g.next 0) 60 ≡ x → eqb (get_or d g.next 0) 38 ≡ y
            → eqb (get_or d g.next 0) 93 ≡ z → eqb (get_or d g.next 0) 13 ≡ q
            → View l d m w g (cond v (broken_at g.next)
            (cond x (mark_at bad d m w g) (cond y (refer_at d g)
            (cond z (bracket_at d g) (cond q (return_at d g) (go_on_saying g (g.next + 1) (said.Byte (get_or d g.next 0))))))))
        by true x y z q h1 h2 h3 h4 h5 = fault
        by false true y z q h1 h2 h3 h4 h5 = mark_view g (leb-false (length d) g.next h1) (eqb-true (get_or d g.next 0) 60 h2)
        by false false true z q h1 h2 h3 h4 h5 = refer_view g (leb-false (length d) g.next h1) (eqb-true (get_or d g.next 0) 38 h3)
        by false false false true q h1 h2 h3 h4 h5 = bracket_view g (leb-false (length d) g.next h1)
            (eqb-true (get_or d g.next 0) 93 h4)
        by false false false false true h1 h2 h3 h4 h5 = return_view g (leb-false (length d) g.next h1)
            (eqb-true (get_or d g.next 0) 13 h5)
        by false false false false false h1 h2 h3 h4 h5 =
            let i = leb-false (length d) g.next h1 in
            over g (g.next + 1) (said.Byte (get_or d g.next 0)) (get_or d g.next 0 ∷ [])
            (lies_byte d g.next (g.next + 1) (get_or d g.next 0) i refl refl) (omega arith) (omega arith) (omega arith)
            (λ t r f o. plain (eqb-false (get_or d g.next 0) 38 h3) (eqb-false (get_or d g.next 0) 60 h2)
            (eqb-false (get_or d g.next 0) 13 h5) (no_bracket (get_or d g.next 0) t (eqb-false (get_or d g.next 0) 93 h4)))

  heard_code : (i : Bool) (s : Said) → code_of (heard_of i s) ≤ code_of s
  heard_code true s = omega arith
  heard_code false s = omega arith

  view_small : (g h : Going) (s : Said) → View l d m w g (More h s) → code_of s < 2097152
  view_small g h s (passed p) = let e = p.says in let x = p.small in let y = heard_code g.inside p.said in
      omega (arith, ap code_of e)
  view_small g h s (entered p) = let e = p.says in omega (arith, ap code_of e)
  view_small g h s (left p) = let e = p.says in omega (arith, ap code_of e)

  -- a character that is said is one
  pub step_small : (g h : Going) (s : Said) → step_of bad d m w g ≡ More h s → code_of s < 2097152
  step_small g h s e = view_small g h s (rw (← e) (step_view g))
