-- "Any departure is 50 at the first byte of the token (word, `=`, value, `?>`) that is not the one due (`versiom` at its `v`), at its `<`
-- where nothing is left." "Words of the declaration and DOCTYPE match as prefixes, as in 1.1: `versionx` is 50 at `x`." "The strings are
-- not judged beyond their characters (of the public one XML's own, else 50 there). An internal subset is 51 at its `[`." Another root's
-- name is 2 at it.
-- A value's first byte is the one behind its quote. 34 and 39 are the quotes, 91 is [.
use Rattle.std.specs.Prelude.{Bool, true, false, cond, ◌&&◌, ◌||◌, List, [], ◌∷◌, ℕ, ◌+◌, ◌-◌, leb, ltb, eqb, length, drop, get_or}
use Rattle.ascii.specs.rule.Class.{upper_of}
use Rattle.markup.specs.rule.Bytes.{of_kind, run_of, stands, starts_name, end_fault}
use Rattle.markup.specs.rule.Gap.{gap_of}
use Rattle.markup.specs.declared.Skip.{Skip}
use Rattle.markup.specs.declared.Skip.TheVariants.{Past, Broken}
use Rattle.prologs.specs.rule.Form.{Form, done, white, room, word, value, encoding, literal, root, bracket, perhaps, which}
use Rattle.prologs.specs.rule.Form.{XML, SSS, DOCTYPE, UTF-8, ISO-8859-1, sss, declaration, doctype}
use Rattle.prologs.specs.declared.Prolog.{Prolog}
use Rattle.prologs.specs.declared.Prolog.TheVariants.{Read, Fault}
use Rattle.prologs.specs.declared.Tail.{Tail}
use Rattle.prologs.specs.declared.Tail.TheVariants.{Clean, Foul}

-- ---- which file is XML
-- EF BB BF is the byte order mark
unfoldable pub start_behind_mark : List ℕ → ℕ
start_behind_mark d = cond (stands (239 ∷ 187 ∷ 191 ∷ []) d) 3 0

-- "A file is XML when it begins with `<?xml` or `<sss`, alone or behind EF BB BF; everything else is a 1.1 definition."
unfoldable pub is_xml : List ℕ → Bool
is_xml d = stands XML (drop (start_behind_mark d) d) || stands SSS (drop (start_behind_mark d) d)

-- ---- strings
-- XML's PubidChar: letters, digits, space, CR, LF and - ' ( ) + , . / : = ? ; ! * # @ $ _ %
unfoldable pub is_public : ℕ → Bool
is_public b =
    ((leb 97 b && leb b 122) || ((leb 63 b && leb b 90) || eqb b 95))
    || (((leb 39 b && leb b 59) || ((leb 35 b && leb b 37) || (eqb b 33 || eqb b 61))) || (eqb b 32 || (eqb b 10 || eqb b 13)))

-- what may stand between quotes
unfoldable pub between_quotes : Bool → ℕ → ℕ → Bool
between_quotes public quote b = cond (eqb b quote) false (cond public (is_public b) true)

-- what is due at n and isn't there is at fault at its first byte, or where the text ends too early
unfoldable pub due_of : Bool → List ℕ → ℕ → ℕ → ℕ
due_of bad d o n = cond (leb (length d) n) (end_fault bad n o) n

-- where a string that opens at n and breaks off at the text's end is at fault: a value of the declaration is a token that stands there,
-- any other string is cut with its mark
unfoldable pub cut_of : Bool → Bool → List ℕ → ℕ → ℕ → ℕ → ℕ
cut_of alone bad d o n k = cond alone (due_of bad d o (n + 1)) (end_fault bad k o)

-- at k the quote is due that ends the string
unfoldable pub closed_string : List ℕ → ℕ → ℕ → ℕ → Skip
closed_string d cut quote k = cond (leb (length d) k) (Broken cut) (cond (eqb (get_or d k 0) quote) (Past k) (Broken k))

-- at n the string's first quote is due
unfoldable pub quoted_string : Bool → Bool → Bool → List ℕ → ℕ → ℕ → Skip
quoted_string alone public bad d o n =
    let q = get_or d n 0 in
    let k = run_of (between_quotes public q) (n + 1) (drop (n + 1) d) in
    cond (leb (length d) n) (Broken (end_fault bad n o))
    (cond (eqb q 34 || eqb q 39) (closed_string d (cut_of alone bad d o n k) q k) (Broken n))

-- the stretch from v to e is just w; or so with letter case aside, w in capitals
unfoldable pub spelt_of : List ℕ → ℕ → ℕ → List ℕ → Bool
spelt_of d v e w = eqb (e - v) (length w) && stands w (drop v d)

unfoldable pub among_of : List ℕ → ℕ → ℕ → List (List ℕ) → Bool
among_of d v e [] = false
among_of d v e (w ∷ ws) = spelt_of d v e w || among_of d v e ws

unfoldable pub alikes : List ℕ → List ℕ → Bool
alikes [] s = true
alikes (x ∷ w) [] = false
alikes (x ∷ w) (b ∷ s) = eqb (upper_of b) x && alikes w s

unfoldable pub alike_of : List ℕ → ℕ → ℕ → List ℕ → Bool
alike_of d v e w = eqb (e - v) (length w) && alikes w (drop v d)

-- ---- piece by piece
unfoldable pub miss_of : Bool → List ℕ → ℕ → ℕ → Prolog
miss_of bad d o n = Fault 50 (due_of bad d o n)

abbrev pub blanks : List ℕ → ℕ → ℕ
blanks d p = run_of (of_kind 0) p (drop p d)

abbrev pub on_passed : Skip → (ℕ → Prolog) → Prolog
on_passed (Past n) k = k n
on_passed (Broken p) k = Fault 50 p

-- the root's name is due at p and does not stand there whole. "Where the file ends too early: 50": where its beginning alone is left, at
-- the bad character that cuts it, else at its first byte; another name is 2, anything else 50
unfoldable pub root_missed : Bool → List ℕ → ℕ → ℕ → Prolog
root_missed bad d o p =
    cond (leb (length d) p) (Fault 50 (end_fault bad p o))
    (cond (stands (drop p d) sss) (Fault 50 (end_fault bad (length d) p))
    (cond (starts_name (get_or d p 0)) (Fault 2 p) (Fault 50 p)))

-- from p on, in a mark whose < stands at o; latin is the encoding so far
unfoldable pub tell_of : Bool → List ℕ → ℕ → Form → Bool → ℕ → Prolog
tell_of bad d o done latin p = Read latin p
tell_of bad d o (white f) latin p = let n = blanks d p in cond (eqb n p) (miss_of bad d o p) (tell_of bad d o f latin n)
tell_of bad d o (room f) latin p = tell_of bad d o f latin (blanks d p)
tell_of bad d o (word w f) latin p = cond (stands w (drop p d)) (tell_of bad d o f latin (p + length w)) (miss_of bad d o p)
tell_of bad d o (value ws f) latin p =
    on_passed (quoted_string true false bad d o p) λ k. cond (among_of d (p + 1) k ws) (tell_of bad d o f latin (k + 1)) (Fault 50 (p + 1))
tell_of bad d o (encoding marked f) latin p =
    on_passed (quoted_string true false bad d o p) λ k.
    cond (alike_of d (p + 1) k UTF-8) (tell_of bad d o f false (k + 1))
    (cond marked (Fault 50 (p + 1)) (cond (alike_of d (p + 1) k ISO-8859-1) (tell_of bad d o f true (k + 1)) (Fault 50 (p + 1))))
tell_of bad d o (literal public f) latin p = on_passed (quoted_string false public bad d o p) λ k. tell_of bad d o f latin (k + 1)
tell_of bad d o (root f) latin p = cond (stands sss (drop p d)) (tell_of bad d o f latin (p + 3)) (root_missed bad d o p)
tell_of bad d o (bracket f) latin p = cond (stands (91 ∷ []) (drop p d)) (Fault 51 p) (tell_of bad d o f latin p)
tell_of bad d o (perhaps w f g) latin p =
    let n = blanks d p in
    cond (eqb n p) (tell_of bad d o g latin p)
    (cond (stands w (drop n d)) (tell_of bad d o f latin (n + length w)) (tell_of bad d o g latin p))
tell_of bad d o (which w f g) latin p = cond (stands w (drop p d)) (tell_of bad d o f latin (p + length w)) (tell_of bad d o g latin p)

-- ---- the declaration, by the file's bytes: no character cuts it
unfoldable pub declaration_of : List ℕ → Prolog
declaration_of d =
    let o = start_behind_mark d in
    cond (stands XML (drop o d)) (tell_of false d o (declaration (ltb 0 o)) false o) (Read false o)

-- ---- "DOCTYPE, once, behind the declaration": white space and comments before it and behind it
unfoldable pub gap_to : Bool → Bool → List ℕ → ℕ → Prolog
gap_to bad latin d p = on_passed (gap_of bad d p) λ n. Read latin n

abbrev pub gap_on : Bool → List ℕ → Prolog → Prolog
gap_on bad d (Read latin n) = gap_to bad latin d n
gap_on bad d (Fault k p) = Fault k p

unfoldable pub head_of : Bool → Bool → List ℕ → ℕ → Prolog
head_of bad latin d p =
    on_passed (gap_of bad d p) λ n. cond (stands DOCTYPE (drop n d)) (gap_on bad d (tell_of bad d n doctype latin n)) (Read latin n)

-- ---- "Behind `</sss>` only white space and comments, else 50 there (51 for a processing instruction)." 60 63 is <?
unfoldable pub end_of_file : Bool → ℕ → Tail
end_of_file bad n = cond bad (Foul 50 n) Clean

abbrev pub behind_root : Bool → List ℕ → Skip → Tail
behind_root bad d (Past n) =
    cond (leb (length d) n) (end_of_file bad n) (cond (stands (60 ∷ 63 ∷ []) (drop n d)) (Foul 51 n) (Foul 50 n))
behind_root bad d (Broken q) = Foul 50 q

unfoldable pub tail_from : Bool → List ℕ → ℕ → Tail
tail_from bad d p = behind_root bad d (gap_of bad d p)
