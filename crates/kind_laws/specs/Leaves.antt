-- Tags, texts, the declaration and the DOCTYPE, as the rule of XML reads them, are refused with numbers that XML has, never with 3.
use Rattle.std.specs.Prelude.{Option, Some, None}
use Rattle.std.specs.Prelude.{◌≡◌, Bool, cond, not, ◌&&◌, ◌||◌, ℕ, zero, suc, ◌+◌, ◌-◌, ◌≤◌, eqb, leb, ltb, drop, get_or}
use Rattle.std.proofs.Math.Path.{refl}
use Rattle.std.proofs.Math.Bool.{true, false}
use mathlib.Core.List.{List, [], ◌∷◌}
use Rattle.std.proofs.Common.{arith}
use Rattle.std.proofs.Math.ListN.{length}
use Rattle.markup.specs.declared.Skip.{Skip}
use Rattle.markup.specs.declared.Skip.TheVariants as skip
use Rattle.markup.specs.rule.Bytes as bytes
use Rattle.markup.specs.rule.Gap.{gap_of, xml_comment}
use Rattle.markup.specs.rule.Reference.{reference_of}
use Rattle.angles.specs.declared.Angle.{Angle}
use Rattle.angles.specs.declared.Angle.TheVariants as angle
use Rattle.angles.specs.rule.Angle.{angle_of}
use Rattle.attributes.specs.declared.Attribute.{Attribute}
use Rattle.attributes.specs.declared.Attribute.TheVariants as attribute
use Rattle.tags.specs.declared.Held.{Held}
use Rattle.tags.specs.declared.Tag.{Tag}
use Rattle.tags.specs.declared.Tag.TheVariants as tag
use Rattle.tags.specs.declared.Turn.{Turn}
use Rattle.tags.specs.declared.Turn.TheVariants as turn
use Rattle.attributes.specs.rule.Attribute.{attribute_of}
use Rattle.tags.specs.rule.Tag.{misses_of, put_of, shut_tag, turned, turn_of, turns_of, tag_of}
use Rattle.tags.specs.rule.Tag as tags
use Rattle.tags.proofs.Turns.{turn_on, turns_next, turns_over}
use Rattle.pairs.specs.declared.Stand.{Stand}
use Rattle.pairs.specs.declared.Stand.TheVariants as stand
use Rattle.pairs.specs.declared.Pair.{Pair}
use Rattle.pairs.specs.declared.Pair.TheVariants as pair
use Rattle.pairs.specs.rule.Stand.{stand_of, bare_of}
use Rattle.pairs.specs.rule.Stand as stands
use Rattle.pairs.specs.rule.Pair.{pair_bare, pair_shut, on_stand, missed_of, closed_of, pair_of}
use Rattle.contents.specs.declared.Going.{Going}
use Rattle.contents.specs.declared.Content.{Content}
use Rattle.contents.specs.declared.Content.TheVariants as content
use Rattle.contents.specs.declared.Step.{Step}
use Rattle.contents.specs.declared.Step.TheVariants as step
use Rattle.contents.specs.rule.Grammar.{br, text, lang}
use Rattle.contents.specs.rule.Step.{on_char, on_note, content_pair, on_break, on_language, on_other, on_out, on_end, on_angle, knowing}
use Rattle.contents.specs.rule.Step.{mode_in}
use Rattle.contents.specs.rule.Step.{step_kind}
use Rattle.contents.specs.rule.Step.{bracket_at, return_at, refer_at, note_at, pair_at, break_at, language_at, other_at, start_at, close_at}
use Rattle.contents.specs.rule.Step.{mark_at}
use Rattle.contents.specs.rule.Step.{step_of}
use Rattle.contents.specs.rule.Content.{begun, content_from, content_of}
use Rattle.contents.specs.declared.Said.{Said}
use Rattle.contents.proofs.Goes.{step_on, content_next, content_over}
use Rattle.prologs.specs.rule.Form.{Form, done, white, room, word, value, encoding, literal, root, bracket, perhaps, which}
use Rattle.prologs.specs.rule.Form.{XML, DOCTYPE, UTF-8, ISO-8859-1, sss, declaration, doctype}
use Rattle.prologs.specs.rule.Told.{start_behind_mark, among_of, alike_of, quoted_string, miss_of, blanks, on_passed, root_missed, tell_of}
use Rattle.prologs.specs.rule.Told.{declaration_of, gap_to}
use Rattle.prologs.specs.rule.Told.{gap_on}
use Rattle.prologs.specs.rule.Told.{head_of, end_of_file, behind_root, tail_from}
use Rattle.prologs.specs.declared.Prolog.{Prolog}
use Rattle.prologs.specs.declared.Prolog.TheVariants as prolog
use Rattle.prologs.specs.declared.Tail.{Tail}
use Rattle.prologs.specs.declared.Tail.TheVariants as tail
use Rattle.refusals.specs.Scanned.{either}

-- the numbers that a definition in XML is refused with: 1, 2, 4 to 10, 50 to 52
abbrev pub is_number : ℕ → Bool
is_number k = (leb 1 k && (leb k 10 && not (eqb k 3))) || (leb 50 k && leb k 52)

-- a refusal's number is one of them: free of 3, and of the 0 of a loop that ran out
abbrev pub Free : ℕ → Type 0
Free k = is_number k ≡ true

-- ---- tags
abbrev pub TagFree : Tag → Type 0
TagFree (tag.Read h empty p n) = Unit
TagFree (tag.Fault k p) = Free k

abbrev TurnFree : Turn → Type 0
TurnFree (turn.More h) = Unit
TurnFree (turn.Over t) = TagFree t

put_free : (h : Held) (slot name next : ℕ) (good : Bool) (v k : ℕ) → TurnFree (put_of h slot name next good v k)
unfolding put_of
put_free h slot name next good v k =
    either TurnFree (eqb slot 1) (either TurnFree (eqb h.a 0) (either TurnFree good tt refl) refl)
    (either TurnFree (eqb slot 2) (either TurnFree (eqb h.b 0) (either TurnFree good tt refl) refl)
    (either TurnFree (eqb slot 3) (either TurnFree (eqb h.c 0) (either TurnFree good tt refl) refl) tt))

turned_free : (d x y z : List ℕ) (f g k required : ℕ) (h : Held) (a : Attribute) → TurnFree (turned d x y z f g k required h a)
unfolding shut_tag
turned_free d x y z f g k required h (attribute.One n e v w next) = put_free h _ n next _ v w
turned_free d x y z f g k required h (attribute.Shut empty place next) = either TagFree (misses_of required h) refl tt
turned_free d x y z f g k required h (attribute.Faulty p) = refl

-- each turn leads on in the file, so that the loop ends with a tag's end or a fault
module _ (bad : Bool) (d : List ℕ) (opened : ℕ) (x y z : List ℕ) (f g k required : ℕ) where
  turn_free : (h : Held) → TurnFree (turn_of bad d opened x y z f g k required h)
  unfolding turn_of
  turn_free h = turned_free d x y z f g k required h (attribute_of bad d opened h.next)

  turn_by : (h : Held)
      → ((i : Held) → turn_of bad d opened x y z f g k required h ≡ turn.More i → TagFree (turns_of bad d opened x y z f g k required i))
      → (r : Turn) → turn_of bad d opened x y z f g k required h ≡ r → TurnFree r → TagFree (turns_of bad d opened x y z f g k required h)
  turn_by h ih (turn.More i) o w = rw (turns_next bad d opened x y z f g k required h i o) (ih i o)
  turn_by h ih (turn.Over t) o w = rw (turns_over bad d opened x y z f g k required h t o) w

  turns_free : (u : ℕ) (h : Held) → length d - h.next ≤ u → TagFree (turns_of bad d opened x y z f g k required h)
  turns_free zero h l =
      turn_by h (λ i o. let m = turn_on bad d opened x y z f g k required h i o in absurd (omega (arith, m.0, m.1)))
      (turn_of bad d opened x y z f g k required h) refl (turn_free h)
  turns_free (suc u) h l =
      turn_by h (λ i o. let m = turn_on bad d opened x y z f g k required h i o in turns_free u i (omega (arith, m.0, m.1)))
      (turn_of bad d opened x y z f g k required h) refl (turn_free h)

pub tag_free : (bad : Bool) (d : List ℕ) (opened at : ℕ) (x y z : List ℕ) (f g k required : ℕ)
    → TagFree (tag_of bad d opened at x y z f g k required)
tag_free bad d opened at x y z f g k required =
    turns_free bad d opened x y z f g k required (length d - at) (tags.nothing_held at) (omega arith)

pub bare_free : (bad : Bool) (d : List ℕ) (p e : ℕ) → TagFree (bare_of bad d p e)
bare_free bad d p e = tag_free bad d p e [] [] [] 0 0 0 0

-- ---- an element that holds nothing
abbrev pub PairFree : Pair → Type 0
PairFree (pair.Past n) = Unit
PairFree (pair.Cut p) = Unit
PairFree (pair.Fault k p) = Free k

pub pair_free : (bad : Bool) (d : List ℕ) (at : ℕ) (w : List ℕ) → PairFree (pair_of bad d at w)
unfolding pair_of missed_of closed_of
pair_free bad d at w = by (stand_of bad d at) where
  bare : (o : ℕ) (t : Tag) → TagFree t → PairFree (pair_bare o t)
  bare o (tag.Read h empty p n) k = tt
  bare o (tag.Fault number p) k = k

  shut : (s : Skip) → PairFree (pair_shut s)
  shut (skip.Past n) = tt
  shut (skip.Broken p) = refl

  by : (s : Stand) → PairFree (on_stand bad d w s)
  by (stand.Start p e) = bare p (bare_of bad d p e) (bare_free bad d p e)
  by (stand.Close p e) = shut (stands.shut_of bad d p e w)
  by (stand.Foreign p) = tt
  by (stand.Text p) = refl
  by (stand.Broken p) = refl

-- ---- texts
abbrev pub ContentFree : Content → Type 0
ContentFree (content.Read end n u) = Unit
ContentFree (content.Cut p u) = Unit
ContentFree (content.Fault k p) = Free k

abbrev StepFree : Step → Type 0
StepFree (step.More g s) = Unit
StepFree (step.Over c) = ContentFree c

module _ (bad : Bool) (d : List ℕ) (g : Going) where
  refer_free : (c : Option (ℕ × ℕ)) → StepFree (on_char g c)
  refer_free (Some (c, n)) = tt
  refer_free None = refl

  note_free : (s : Skip) → StepFree (on_note g s)
  note_free (skip.Past n) = tt
  note_free (skip.Broken p) = refl

  broken_free : (h : Going) (x : Pair) → PairFree x → StepFree (content_pair h x)
  broken_free h (pair.Past n) k = tt
  broken_free h (pair.Cut p) k = tt
  broken_free h (pair.Fault number p) k = k

  break_free : (t : Tag) → TagFree t → StepFree (on_break bad d g t)
  unfolding pair_at
  break_free (tag.Read h empty p n) k = either StepFree empty tt
      (broken_free (knowing g h.unknown) (pair_of bad d n br) (pair_free bad d n br))
  break_free (tag.Fault number p) k = k

  language_free : (t : Tag) → TagFree t → StepFree (on_language g t)
  language_free (tag.Read h empty p n) k = tt
  language_free (tag.Fault number p) k = k

  other_free : (t : Tag) → TagFree t → StepFree (on_other g t)
  other_free (tag.Read h empty p n) k = tt
  other_free (tag.Fault number p) k = k

  out_free : (s : Skip) → StepFree (on_out g s)
  out_free (skip.Past n) = tt
  out_free (skip.Broken p) = refl

  end_free : (s : Skip) → StepFree (on_end g s)
  end_free (skip.Past n) = tt
  end_free (skip.Broken p) = refl

  start_free : (m e : ℕ) → StepFree (start_at bad d m g e)
  unfolding start_at break_at language_at other_at
  start_free m e =
      either StepFree (eqb (step_kind d (mode_in m g.inside) (g.next + 1) e) 1)
      (break_free (bare_of bad d g.next e) (bare_free bad d g.next e))
      (either StepFree (eqb (step_kind d (mode_in m g.inside) (g.next + 1) e) 2)
      (language_free (tag_of bad d g.next e lang [] [] 0 0 0 1) (tag_free bad d g.next e lang [] [] 0 0 0 1))
      (other_free (bare_of bad d g.next e) (bare_free bad d g.next e)))

  angle_free : (m : ℕ) (w : List ℕ) (a : Angle) → StepFree (on_angle bad d m w g a)
  unfolding close_at
  angle_free m w (angle.Start e) = start_free m e
  angle_free m w (angle.Close e) = either StepFree g.inside (out_free (stands.shut_of bad d g.next e text))
      (end_free (stands.shut_of bad d g.next e w))
  angle_free m w angle.Foreign = tt
  angle_free m w (angle.Broken p) = refl

  step_free : (m : ℕ) (w : List ℕ) → StepFree (step_of bad d m w g)
  unfolding step_of mark_at note_at refer_at bracket_at return_at
  step_free m w =
      either StepFree (leb (length d) g.next) refl
      (either StepFree (eqb (get_or d g.next 0) 60)
      (either StepFree (bytes.stands (60 ∷ 33 ∷ 45 ∷ 45 ∷ []) (drop g.next d))
      (note_free (xml_comment bad g.next (g.next + 4) (drop (g.next + 4) d)))
      (angle_free m w (angle_of bad d g.next)))
      (either StepFree (eqb (get_or d g.next 0) 38) (refer_free (reference_of g.next (drop (g.next + 1) d)))
      (either StepFree (eqb (get_or d g.next 0) 93) (either StepFree (bytes.stands (93 ∷ 93 ∷ 62 ∷ []) (drop g.next d)) refl tt)
      (either StepFree (eqb (get_or d g.next 0) 13) tt tt))))

-- each step leads on in the file
module _ (bad : Bool) (d : List ℕ) (m : ℕ) (w : List ℕ) where
  content_by_lem : (g : Going) → ((h : Going) (s : Said) → step_of bad d m w g ≡ step.More h s → ContentFree (content_from bad d m w h))
      → (r : Step)
      → step_of bad d m w g ≡ r → StepFree r → ContentFree (content_from bad d m w g)
  content_by_lem g ih (step.More h s) o k = rw (content_next bad d m w g h s o) (ih h s o)
  content_by_lem g ih (step.Over c) o k = rw (content_over bad d m w g c o) k

  from_free : (u : ℕ) (g : Going) → length d - g.next ≤ u → ContentFree (content_from bad d m w g)
  from_free zero g l =
      content_by_lem g (λ h s o. let i = step_on bad d m w g h s o in absurd (omega (arith, i.0, i.1))) (step_of bad d m w g) refl
      (step_free bad d g m w)
  from_free (suc u) g l =
      content_by_lem g (λ h s o. let i = step_on bad d m w g h s o in from_free u h (omega (arith, i.0, i.1))) (step_of bad d m w g) refl
      (step_free bad d g m w)

pub content_free : (bad : Bool) (d : List ℕ) (m : ℕ) (w : List ℕ) (at : ℕ) → ContentFree (content_of bad d m w at)
content_free bad d m w at = from_free bad d m w (length d - at) (begun at) (omega arith)

-- ---- the declaration and the DOCTYPE
abbrev pub PrologFree : Prolog → Type 0
PrologFree (prolog.Read latin n) = Unit
PrologFree (prolog.Fault k p) = Free k

skip_free : (s : Skip) (k : ℕ → Prolog) → ((n : ℕ) → PrologFree (k n)) → PrologFree (on_passed s k)
skip_free (skip.Past n) k h = h n
skip_free (skip.Broken p) k h = refl

module _ (bad : Bool) (d : List ℕ) (o : ℕ) where
  tell_free : (f : Form) (latin : Bool) (p : ℕ) → PrologFree (tell_of bad d o f latin p)
  unfolding tell_of miss_of root_missed
  tell_free done latin p = tt
  tell_free (white f) latin p = either PrologFree (eqb (blanks d p) p) refl (tell_free f latin (blanks d p))
  tell_free (room f) latin p = tell_free f latin (blanks d p)
  tell_free (word w f) latin p = either PrologFree (bytes.stands w (drop p d)) (tell_free f latin (p + length w)) refl
  tell_free (value ws f) latin p = skip_free (quoted_string true false bad d o p) _
      (λ k. either PrologFree (among_of d (p + 1) k ws) (tell_free f latin (k + 1)) refl)
  tell_free (encoding marked f) latin p =
      skip_free (quoted_string true false bad d o p) _
      (λ k. either PrologFree (alike_of d (p + 1) k UTF-8) (tell_free f false (k + 1))
      (either PrologFree marked refl (either PrologFree (alike_of d (p + 1) k ISO-8859-1) (tell_free f true (k + 1)) refl)))
  tell_free (literal public f) latin p = skip_free (quoted_string false public bad d o p) _ (λ k. tell_free f latin (k + 1))
  tell_free (root f) latin p =
      either PrologFree (bytes.stands sss (drop p d)) (tell_free f latin (p + 3))
      (either PrologFree (leb (length d) p) refl
      (either PrologFree (bytes.stands (drop p d) sss) refl (either PrologFree (bytes.starts_name (get_or d p 0)) refl refl)))
  tell_free (bracket f) latin p = either PrologFree (bytes.stands (91 ∷ []) (drop p d)) refl (tell_free f latin p)
  tell_free (perhaps w f g) latin p =
      either PrologFree (eqb (blanks d p) p) (tell_free g latin p)
      (either PrologFree (bytes.stands w (drop (blanks d p) d)) (tell_free f latin (blanks d p + length w)) (tell_free g latin p))
  tell_free (which w f g) latin p = either PrologFree (bytes.stands w (drop p d)) (tell_free f latin (p + length w)) (tell_free g latin p)

pub declaration_free : (d : List ℕ) → PrologFree (declaration_of d)
unfolding declaration_of
declaration_free d =
    either PrologFree (bytes.stands XML (drop (start_behind_mark d) d))
    (tell_free false d (start_behind_mark d) (declaration (ltb 0 (start_behind_mark d))) false (start_behind_mark d)) tt

gap_free : (bad : Bool) (d : List ℕ) (x : Prolog) → PrologFree x → PrologFree (gap_on bad d x)
unfolding gap_to
gap_free bad d (prolog.Read latin n) k = skip_free (gap_of bad d n) _ (λ m. tt)
gap_free bad d (prolog.Fault number p) k = k

pub head_free : (bad latin : Bool) (d : List ℕ) (p : ℕ) → PrologFree (head_of bad latin d p)
unfolding head_of
head_free bad latin d p = skip_free (gap_of bad d p) _
    (λ n. either PrologFree (bytes.stands DOCTYPE (drop n d))
    (gap_free bad d (tell_of bad d n doctype latin n) (tell_free bad d n doctype latin n)) tt)

-- ---- behind the root
abbrev pub TailFree : Tail → Type 0
TailFree tail.Clean = Unit
TailFree (tail.Foul k p) = Free k

pub tail_free : (bad : Bool) (d : List ℕ) (p : ℕ) → TailFree (tail_from bad d p)
unfolding tail_from end_of_file
tail_free bad d p = by (gap_of bad d p) where
  by : (s : Skip) → TailFree (behind_root bad d s)
  by (skip.Past n) =
      either TailFree (leb (length d) n) (either TailFree bad refl tt) (either TailFree (bytes.stands (60 ∷ 63 ∷ []) (drop n d)) refl refl)
  by (skip.Broken q) = refl
