-- One step of a text, by what stands there: a byte, a reference, a comment, a break, the tags of a text in another language, the end tag;
-- or what is faulted. "A start tag that may not stand there ends the statement it stands in: it is read for its form only (50 first)."
-- "`<text>` without a languages attribute: 51. br stands in title, label, value, text only, else 51. Processing instructions and CDATA: 51
-- at `<`. An end tag of another name: 50 at its `<`. Where the file ends too early: 50."
use Rattle.std.specs.Prelude.{Bool, false, cond, ◌&&◌, not, List, [], ◌∷◌, ℕ, ◌+◌, leb, eqb, length, drop, get_or, Option, Some, None}
use Rattle.markup.specs.rule.Bytes.{stands}
use Rattle.markup.specs.rule.Reference.{reference_of}
use Rattle.markup.specs.rule.Gap.{xml_comment}
use Rattle.markup.specs.declared.Skip.{Skip}
use Rattle.markup.specs.declared.Skip.TheVariants as skip
use Rattle.angles.specs.rule.Angle.{angle_of}
use Rattle.angles.specs.declared.Angle.{Angle}
use Rattle.angles.specs.declared.Angle.TheVariants as angle
use Rattle.tags.specs.rule.Tag.{is_named, tag_of}
use Rattle.tags.specs.declared.Tag.{Tag}
use Rattle.tags.specs.declared.Tag.TheVariants as tag
use Rattle.pairs.specs.rule.Stand.{shut_of, bare_of}
use Rattle.pairs.specs.rule.Pair.{pair_of}
use Rattle.pairs.specs.rule.Grammar.{first_of}
use Rattle.pairs.specs.declared.Pair.{Pair}
use Rattle.pairs.specs.declared.Pair.TheVariants as pair
use Rattle.contents.specs.rule.Grammar.{br, text, lang}
use Rattle.contents.specs.declared.Going.{Going}
use Rattle.contents.specs.declared.Said.{Said}
use Rattle.contents.specs.declared.Said.TheVariants as said
use Rattle.contents.specs.declared.Content.TheVariants.{Read, Cut, Fault}
use Rattle.contents.specs.declared.Step.{Step}
use Rattle.contents.specs.declared.Step.TheVariants.{More, Over}

-- what is said inside <text> is not the default text's
abbrev pub heard_of : Bool → Said → Said
heard_of inside s = cond inside said.Nothing s

-- on to n
abbrev pub go_on_saying : Going → ℕ → Said → Step
go_on_saying g n s = More (record { inside = g.inside; unknown = g.unknown; next = n }) (heard_of g.inside s)

abbrev pub broken_at : ℕ → Step
broken_at p = Over (Fault 50 p)

abbrev pub cut_at : Going → ℕ → Step
cut_at g p = Over (Cut p g.unknown)

-- ---- bytes and references
unfoldable pub bracket_at : List ℕ → Going → Step
bracket_at d g = cond (stands (93 ∷ 93 ∷ 62 ∷ []) (drop g.next d)) (broken_at g.next) (go_on_saying g (g.next + 1) (said.Byte 93))

unfoldable pub return_at : List ℕ → Going → Step
return_at d g = go_on_saying g (g.next + 1) (cond (stands (10 ∷ []) (drop (g.next + 1) d)) said.Nothing (said.Byte 10))

abbrev pub on_char : Going → Option (ℕ × ℕ) → Step
on_char g (Some (c, n)) = go_on_saying g n (said.Code c)
on_char g None = broken_at g.next

unfoldable pub refer_at : List ℕ → Going → Step
refer_at d g = on_char g (reference_of g.next (drop (g.next + 1) d))

-- ---- marks
abbrev pub on_note : Going → Skip → Step
on_note g (skip.Past n) = go_on_saying g n said.Nothing
on_note g (skip.Broken p) = broken_at p

unfoldable pub note_at : Bool → List ℕ → Going → Step
note_at bad d g = on_note g (xml_comment bad g.next (g.next + 4) (drop (g.next + 4) d))

-- the state with one more attribute that isn't known
abbrev pub knowing : Going → ℕ → Going
knowing g a = record { inside = g.inside; unknown = first_of g.unknown a; next = g.next }

abbrev pub content_pair : Going → Pair → Step
content_pair g (pair.Past n) = go_on_saying g n said.Break
content_pair g (pair.Cut p) = cut_at g p
content_pair g (pair.Fault k p) = Over (Fault k p)

unfoldable pub pair_at : Bool → List ℕ → Going → ℕ → Step
pair_at bad d g n = content_pair g (pair_of bad d n br)

abbrev pub on_break : Bool → List ℕ → Going → Tag → Step
on_break bad d g (tag.Read h empty p n) = cond empty (go_on_saying (knowing g h.unknown) n said.Break)
    (pair_at bad d (knowing g h.unknown) n)
on_break bad d g (tag.Fault k p) = Over (Fault k p)

unfoldable pub break_at : Bool → List ℕ → Going → ℕ → Step
break_at bad d g e = on_break bad d g (bare_of bad d g.next e)

abbrev pub on_language : Going → Tag → Step
on_language g (tag.Read h empty p n) =
    More (record { inside = not empty; unknown = first_of g.unknown h.unknown; next = n }) said.Nothing
on_language g (tag.Fault k p) = Over (Fault k p)

unfoldable pub language_at : Bool → List ℕ → Going → ℕ → Step
language_at bad d g e = on_language g (tag_of bad d g.next e lang [] [] 0 0 0 1)

abbrev pub on_other : Going → Tag → Step
on_other g (tag.Read h empty p n) = cut_at g g.next
on_other g (tag.Fault k p) = Over (Fault k p)

unfoldable pub other_at : Bool → List ℕ → Going → ℕ → Step
other_at bad d g e = on_other g (bare_of bad d g.next e)

-- what a text's mode is inside <text>
abbrev pub mode_in : ℕ → Bool → ℕ
mode_in m inside = cond inside 1 m

-- which start tag it is: 1 br, 2 text, where they may stand; 0 any other
unfoldable pub step_kind : List ℕ → ℕ → ℕ → ℕ → ℕ
step_kind d m n e = cond (leb 1 m && is_named d n e br) 1 (cond (eqb m 2 && is_named d n e text) 2 0)

unfoldable pub start_at : Bool → List ℕ → ℕ → Going → ℕ → Step
start_at bad d m g e =
    let kind = step_kind d (mode_in m g.inside) (g.next + 1) e in
    cond (eqb kind 1) (break_at bad d g e) (cond (eqb kind 2) (language_at bad d g e) (other_at bad d g e))

abbrev pub on_out : Going → Skip → Step
on_out g (skip.Past n) = More (record { inside = false; unknown = g.unknown; next = n }) said.Nothing
on_out g (skip.Broken p) = broken_at p

abbrev pub on_end : Going → Skip → Step
on_end g (skip.Past n) = Over (Read g.next n g.unknown)
on_end g (skip.Broken p) = broken_at p

-- the end tag of <text>, or of the element w
unfoldable pub close_at : Bool → List ℕ → List ℕ → Going → ℕ → Step
close_at bad d w g e = cond g.inside (on_out g (shut_of bad d g.next e text)) (on_end g (shut_of bad d g.next e w))

abbrev pub on_angle : Bool → List ℕ → ℕ → List ℕ → Going → Angle → Step
on_angle bad d m w g (angle.Start e) = start_at bad d m g e
on_angle bad d m w g (angle.Close e) = close_at bad d w g e
on_angle bad d m w g angle.Foreign = cut_at g g.next
on_angle bad d m w g (angle.Broken p) = broken_at p

unfoldable pub mark_at : Bool → List ℕ → ℕ → List ℕ → Going → Step
mark_at bad d m w g =
    cond (stands (60 ∷ 33 ∷ 45 ∷ 45 ∷ []) (drop g.next d)) (note_at bad d g) (on_angle bad d m w g (angle_of bad d g.next))

-- ---- the step, in a text of mode m of an element w
unfoldable pub step_of : Bool → List ℕ → ℕ → List ℕ → Going → Step
step_of bad d m w g =
    let b = get_or d g.next 0 in
    cond (leb (length d) g.next) (broken_at g.next)
    (cond (eqb b 60) (mark_at bad d m w g)
    (cond (eqb b 38) (refer_at d g)
    (cond (eqb b 93) (bracket_at d g)
    (cond (eqb b 13) (return_at d g) (go_on_saying g (g.next + 1) (said.Byte b))))))
