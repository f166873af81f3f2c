-- "Numbers given back" by the reader of definitions in XML, from texts: each of 2 to 9 and 50 to 52 by short texts, with its number and its
-- place, and 1 by a law. (10 is `too_short` in Small.antt.) The fault stands where the second part of a text begins; however long the lent
-- table is, the refusal is the same.
use Rattle.std.specs.Prelude.{◌≡◌, refl, List, [], ◌∷◌, ◌++◌, ℕ, ◌<◌, length}
use Prim.Native.String.{String}
use Rattle.std.proofs.Common.{lt-ltb}
use Rattle.xml_reading.specs.rule.Whole.{Refusal, xml_outcome}
use Rattle.xml_samples.specs.Bytes.{bytes}
use Rattle.xml_samples.specs.Definitions.{definitions}

-- 1: every text that is too long, whatever it says
pub too_long : (d : List ℕ) (n : ℕ) → 1048576 < length d → xml_outcome d n ≡ Refusal 1 0
unfolding xml_outcome
too_long d n h = rw (lt-ltb 1048576 (length d) h)

-- the text that begins so and goes on with `fault` is refused with that number at the place of `fault`
abbrev pub RefusedAt : ℕ → List ℕ → String → Type 0
RefusedAt number begins fault = (n : ℕ) → xml_outcome (begins ++ bytes fault) n ≡ Refusal number (length begins)

-- behind the root's tag, of version 1.2 and of 1.1; behind the record's tag; behind `type="` of a first variable
abbrev pub root : String → List ℕ
root s = bytes "<sss version=\"1.2\">" ++ bytes s

abbrev pub old : String → List ℕ
old s = bytes "<sss version='1.1'>" ++ bytes s

abbrev pub record_tag : String → List ℕ
record_tag s = root "<survey><record ident=\"A\">" ++ bytes s

abbrev pub variable : String → List ℕ
variable s = record_tag "<variable ident=\"1\" type=\"" ++ bytes s

-- behind the position of a first variable a, a logical; behind its values, a weight; behind a second one, whose filter it is
abbrev pub first : String → List ℕ
first s = variable "logical\"><name>a</name><label/><position start=\"1\"/>" ++ bytes s

abbrev pub weight : String → List ℕ
weight s =
    variable "quantity\" use=\"weight\"><name>a</name><label/><position start=\"1\"/>"
    ++ bytes "<values><range from=\"0\" to=\"9\"/></values>"
    ++ bytes s

abbrev pub served : String → List ℕ
served s =
    first "</variable><variable ident=\"2\" type=\"logical\"><name>b</name><label/><position start=\"2\"/><filter>a</filter>" ++ bytes s

-- with standardnames, where the name of a first logical begins; behind a byte order mark; behind a whole definition
abbrev pub standard : String → List ℕ
standard s =
    bytes "<sss version=\"1.2\" options=\"standardnames\"><survey><record ident=\"A\">"
    ++ bytes "<variable ident=\"1\" type=\"logical\"><name>"
    ++ bytes s

abbrev pub marked : String → List ℕ
marked s = (239 ∷ 187 ∷ 191 ∷ []) ++ bytes s

abbrev pub whole : String → List ℕ
whole s = first "</variable></record></survey></sss>" ++ bytes s

-- 2, in "anything else": a tag's end where a required attribute is missing; text, an end tag, an empty tag, where a tag is due; a value
-- of wrong form (an unknown option, an ident of two letters, an unknown type, a number with a letter); a size, at its text; and a text
-- that goes on behind `]]>`
pub refused_2 :
    RefusedAt 2 (bytes "<sss") "><survey>"
    × RefusedAt 2 (root "") "]]>x"
    × RefusedAt 2 (root "") "</sss>"
    × RefusedAt 2 (bytes "<sss version=\"1.1\"") "/>"
    × RefusedAt 2 (bytes "<sss version=\"1.2\" options=\"") "Standardnames\">"
    × RefusedAt 2 (root "<survey><record ident=\"") "ab\">"
    × RefusedAt 2 (record_tag "<variable ident=\"1\" type=\"") "Single\">"
    × RefusedAt 2 (record_tag "<variable ident=\"1\"") ">"
    × RefusedAt 2 (variable "logical\"><name>a</name><label/><position start=\"") "1a\"/>"
    × RefusedAt 2 (variable "character\"><name>a</name><label/><position start=\"1\"/><size>") " 1</size></variable>"
unfolding definitions
refused_2 = (
  (λ n. refl),
  (λ n. refl),
  (λ n. refl),
  (λ n. refl),
  (λ n. refl),
  (λ n. refl),
  (λ n. refl),
  (λ n. refl),
  (λ n. refl),
  (λ n. refl),
)

-- 4: a version that is not 1.1 or 1.2, whatever else it holds; an unknown attribute comes behind it
pub refused_4 :
    RefusedAt 4 (bytes "<sss version=\"") "1.10\">"
    × RefusedAt 4 (bytes "<sss xmlns=\"a\" version=\"") "\">"
unfolding definitions
refused_4 =
    ((λ n. refl), (λ n. refl))

-- 5: an ident that is 0, and one that stands before
pub refused_5 :
    RefusedAt 5 (record_tag "<variable ident=\"") "0\" type=\"logical\">"
    × RefusedAt 5 (first "</variable><variable ident=\"") "1\" type=\"logical\">"
unfolding definitions
refused_5 =
    ((λ n. refl), (λ n. refl))

-- 6: a run of digits, points, `+` and `-` of wrong form, in a code; a range of the wrong order, at its second
pub refused_6 :
    RefusedAt 6 (variable "quantity\"><name>a</name><label/><position start=\"1\"/><values><value code=\"") "1-\"></value>"
    × RefusedAt 6 (variable "single\"><name>a</name><label/><position start=\"1\"/><values><range from=\"2\" to=\"") "1\"/>"
unfolding definitions
refused_6 =
    ((λ n. refl), (λ n. refl))

-- 7: a position that is 0; one that doesn't hold the width, at its start, behind `</variable>`
pub refused_7 :
    RefusedAt 7 (variable "logical\"><name>a</name><label/><position start=\"") "0\"/>"
    × RefusedAt 7 (variable "character\"><name>a</name><label/><position start=\"") "1\"/><size>2</size></variable>"
unfolding definitions
refused_7 =
    ((λ n. refl), (λ n. refl))

-- 8: beyond 16,384
pub refused_8 : RefusedAt 8 (variable "logical\"><name>a</name><label/><position start=\"") "16385\"/>"
unfolding definitions
refused_8 = λ n. refl

-- 9: with standardnames a name that begins with no letter; two that differ by case alone, at the second
pub refused_9 :
    RefusedAt 9 (standard "") "1a</name><label/><position start=\"1\"/></variable></record></survey></sss>"
    × RefusedAt 9 (standard "a</name><label/><position start=\"1\"/></variable><variable ident=\"2\" type=\"logical\"><name>")
    "A</name><label/><position start=\"1\"/></variable></record></survey></sss>"
unfolding definitions
refused_9 =
    ((λ n. refl), (λ n. refl))

-- 50: document 000's example as it is printed, where `?>` is due; `versiom`, `versionx`; another thing than a root; an attribute given
-- twice; a tag that the file's end cuts; two dashes in a comment; an end tag of another name; `<` in a value, `&` with no name; `]]>` in
-- a text; what follows `</sss>`; an end tag read whole
pub refused_50 :
    RefusedAt 50 (bytes "<?xml version=\"1.0\" encoding=\"ISO-8859-1\"")
    "> <!DOCTYPE sss PUBLIC \"-//triple-s//DTD Survey Interchange v1.2//EN\""
    × RefusedAt 50 (bytes "<?xml ") "versiom=\"1.0\"?>"
    × RefusedAt 50 (bytes "<?xml version") "x=\"1.0\"?>"
    × RefusedAt 50 (bytes "<?xml version=\"1.0\"?> ") "text<sss version=\"1.2\">"
    × RefusedAt 50 (bytes "<?xml version=\"1.0\"?> ") "<!DOCTYP sss>"
    × RefusedAt 50 (bytes "<sss version=\"1.2\" ") "version=\"1.2\">"
    × RefusedAt 50 (root "") "<survey"
    × RefusedAt 50 (root "<!-- a ") "-- b --><survey>"
    × RefusedAt 50 (root "<survey>") "</sss>"
    × RefusedAt 50 (root "<date>1 ") "& 2</date>"
    × RefusedAt 50 (root "<date>1") "</time>"
    × RefusedAt 50 (root "<date>") "]]></date>"
    × RefusedAt 50 (bytes "<sss version=\"") "<\">"
    × RefusedAt 50 (root "<survey></survey ") "x>"
    × RefusedAt 50 (whole " <!--a--> ") "<sss>"
unfolding definitions
refused_50 = (
  (λ n. refl),
  (λ n. refl),
  (λ n. refl),
  (λ n. refl),
  (λ n. refl),
  (λ n. refl),
  (λ n. refl),
  (λ n. refl),
  (λ n. refl),
  (λ n. refl),
  (λ n. refl),
  (λ n. refl),
  (λ n. refl),
  (λ n. refl),
  (λ n. refl),
)

-- Corners: an end tag is read whole first; an element is read before its text is judged; a value is heard by its references and without
-- comments (a size of 10 in nine bytes); a mark and another encoding; CDATA behind the root; a broken reference, an early end; 50 before
-- the 4 of its tag; 4 before its 51, which stands first; names of filters are told apart by case without standardnames
pub refused_corners :
    RefusedAt 50 (first "</variable ") "x>"
    × RefusedAt 50 (variable "character\"><name>a</name><label/><position start=\"1\"/><size>x</size ") "y>"
    × RefusedAt 7 (variable "character\"><name>a</name><label/><position start=\"")
    "&#49;\" finish=\"9\"/><size>1<!--x-->&#48;</size></variable>"
    × RefusedAt 50 (marked "<?xml version=\"1.0\" encoding=\"") "ISO-8859-1\"?><sss version=\"1.2\">"
    × RefusedAt 50 (whole "") "<![CDATA[]]>"
    × RefusedAt 50 (root "<date>") "&nbsp;</date>"
    × RefusedAt 50 (root "<date>1") ""
    × RefusedAt 50 (bytes "<sss version=\"1.3\" ") "/ >"
    × RefusedAt 4 (bytes "<sss other=\"\" version=\"") "1.3\" languages=\"en\">"
    × RefusedAt 52 (first "</variable><variable ident=\"2\" type=\"logical\"><name>b</name><label/><position start=\"2\"/><filter>")
    "A</filter>"
unfolding definitions
refused_corners = (
  (λ n. refl),
  (λ n. refl),
  (λ n. refl),
  (λ n. refl),
  (λ n. refl),
  (λ n. refl),
  (λ n. refl),
  (λ n. refl),
  (λ n. refl),
  (λ n. refl),
)

-- 51: a start tag that is not the one due; CDATA; an unknown attribute, and of two the first; a br in a date; a repeated heading; an
-- internal subset; a processing instruction before the root and behind it; another root; and what version 1.1 has not: languages, a
-- survey's name, href, use, filter, a text in another language
pub refused_51 :
    RefusedAt 51 (root "") "<record ident=\"A\">"
    × RefusedAt 51 (root "") "<![CDATA[a]]>"
    × RefusedAt 51 (bytes "<sss ") "xmlns=\"a\" version=\"1.2\">"
    × RefusedAt 51 (bytes "<sss ") "languages=\"en\" version=\"1.1\" other=\"\">"
    × RefusedAt 51 (root "<date>1") "<br/></date>"
    × RefusedAt 51 (root "<date>1</date>") "<date>1</date>"
    × RefusedAt 51 (bytes "<?xml version=\"1.0\"?><!DOCTYPE sss ") "[]><sss version=\"1.2\">"
    × RefusedAt 51 (bytes "<?xml version=\"1.0\"?>") "<?php?>"
    × RefusedAt 51 (whole "") "<?php?>"
    × RefusedAt 51 (bytes "<?xml version=\"1.0\"?>") "<html>"
    × RefusedAt 51 (old "<survey>") "<name>a</name>"
    × RefusedAt 51 (old "<survey><record ident=\"A\" ") "href=\"a\">"
    × RefusedAt 51 (old "<survey><record ident=\"A\"><variable ident=\"1\" type=\"character\" ") "use=\"serial\">"
    × RefusedAt 51 (old "<survey><record ident=\"A\"><variable ident=\"1\" type=\"logical\"><name/><label/><position start=\"1\"/>")
    "<filter>"
    × RefusedAt 51 (root "<survey><title>a") "<text xml:lang=\"en\">b</text></title>"
unfolding definitions
refused_51 = (
  (λ n. refl),
  (λ n. refl),
  (λ n. refl),
  (λ n. refl),
  (λ n. refl),
  (λ n. refl),
  (λ n. refl),
  (λ n. refl),
  (λ n. refl),
  (λ n. refl),
  (λ n. refl),
  (λ n. refl),
  (λ n. refl),
  (λ n. refl),
  (λ n. refl),
)

-- 52: a serial that is a logical; a second weight; a filter that is its own, that is no logical, on a serial; the name of a logical that
-- has served, once more
pub refused_52 :
    RefusedAt 52 (record_tag "<variable ident=\"1\" type=\"logical\" use=\"") "serial\">"
    × RefusedAt 52 (weight "</variable><variable ident=\"2\" type=\"quantity\" use=\"") "weight\">"
    × RefusedAt 52 (first "<filter>") "a</filter>"
    × RefusedAt 52 (weight "</variable><variable ident=\"2\" type=\"logical\"><name>b</name><label/><position start=\"2\"/><filter>")
    "a</filter>"
    × RefusedAt 52
    (first "</variable><variable ident=\"2\" type=\"character\" use=\"serial\"><name/><label/><position start=\"2\"/><filter>")
    "a</filter>"
    × RefusedAt 52 (served "</variable><variable ident=\"3\" type=\"logical\"><name>") "a</name>"
unfolding definitions
refused_52 =
    ((λ n. refl), (λ n. refl), (λ n. refl), (λ n. refl), (λ n. refl), (λ n. refl))
