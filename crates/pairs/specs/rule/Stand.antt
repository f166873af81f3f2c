-- "Text where tags are due: 2 at its first byte. Where tags are due, the first character or reference of a text is read: 50 if it is not
-- legal or bad, else 2. An end tag where something is due is read whole first; of another name: 50 at its `<`. Where the file ends too
-- early: 50." What stands from a place on, behind white space and comments. 60 is <, 38 &.
use Rattle.std.specs.Prelude.{Bool, cond, List, [], ℕ, ◌+◌, leb, eqb, length, drop, get_or, Option, Some, None}
use Rattle.markup.specs.rule.Reference.{reference_of}
use Rattle.markup.specs.rule.Gap.{gap_of}
use Rattle.markup.specs.declared.Skip.{Skip}
use Rattle.markup.specs.declared.Skip.TheVariants as skip
use Rattle.angles.specs.rule.Angle.{angle_of, end_of}
use Rattle.angles.specs.declared.Angle.{Angle}
use Rattle.angles.specs.declared.Angle.TheVariants as angle
use Rattle.tags.specs.rule.Tag.{is_named, tag_of}
use Rattle.tags.specs.declared.Tag.{Tag}
use Rattle.pairs.specs.declared.Stand.{Stand}
use Rattle.pairs.specs.declared.Stand.TheVariants.{Start, Close, Foreign, Text, Broken}

-- a text, whose first reference has to be good
abbrev pub on_text_char : ℕ → Option (ℕ × ℕ) → Stand
on_text_char p (Some (c, n)) = Text p
on_text_char p None = Broken p

unfoldable pub text_stand : List ℕ → ℕ → Stand
text_stand d p = cond (eqb (get_or d p 0) 38) (on_text_char p (reference_of p (drop (p + 1) d))) (Text p)

abbrev pub stand_angle : ℕ → Angle → Stand
stand_angle p (angle.Start e) = Start p e
stand_angle p (angle.Close e) = Close p e
stand_angle p angle.Foreign = Foreign p
stand_angle p (angle.Broken q) = Broken q

-- at p, where neither white space nor a comment stands
unfoldable pub stand_at : Bool → List ℕ → ℕ → Stand
stand_at bad d p = cond (leb (length d) p) (Broken p) (cond (eqb (get_or d p 0) 60) (stand_angle p (angle_of bad d p)) (text_stand d p))

abbrev pub on_gap : Bool → List ℕ → Skip → Stand
on_gap bad d (skip.Past n) = stand_at bad d n
on_gap bad d (skip.Broken p) = Broken p

unfoldable pub stand_of : Bool → List ℕ → ℕ → Stand
stand_of bad d p = on_gap bad d (gap_of bad d p)

-- an end tag, read whole: it has the name w, or it is 50 at its <
abbrev pub stand_end : List ℕ → ℕ → ℕ → List ℕ → Skip → Skip
stand_end d o e w (skip.Past n) = cond (is_named d (o + 2) e w) (skip.Past n) (skip.Broken o)
stand_end d o e w (skip.Broken p) = skip.Broken p

unfoldable pub shut_of : Bool → List ℕ → ℕ → ℕ → List ℕ → Skip
shut_of bad d o e w = stand_end d o e w (end_of bad d o e)

-- a start tag whose element knows no attribute
abbrev pub bare_of : Bool → List ℕ → ℕ → ℕ → Tag
bare_of bad d o e = tag_of bad d o e [] [] [] 0 0 0 0
