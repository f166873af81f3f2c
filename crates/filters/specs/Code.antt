-- What the code answers, by the rule of crate `xml_reading`: names sign by sign, and what is asked of the rows of the variables before, for
-- whatever variables the room holds.
use Rattle.std.specs.Prelude.{◌≡◌, Bool, false, cond, not, ◌&&◌, List, [], ℕ, ◌+◌, ◌-◌, ◌*◌, ◌≤◌, ◌<◌, eqb, ltb, ℤ, length, take, Option}
use Rattle.std.specs.Prelude.{Some, None, Ok, Err}
use Rattle.cells.specs.rule.Cell.{cell, count_of}
use Rattle.layout.specs.rule.Layout.{row_size, most_rows}
use Rattle.signs.specs.declared.Sign.{Sign}
use Rattle.names.specs.rule.Standard as names
use Rattle.contents.specs.rule.Content.{begun, signs_from, content_signs}
use Rattle.contents.specs.declared.Cursor.{Cursor}
use Rattle.scan.specs.Number.{capped}
use Rattle.tags.specs.rule.Tag.{tag_of}
use Rattle.tags.specs.declared.Tag.{Tag}
use Rattle.tokens.specs.rule.Gap.{fault, OrFault}
use Rattle.variables.specs.Ident.{marked}
use Rattle.survey.specs.rule.Survey.{KeptText}
use Rattle.survey.specs.rule.Width.{some_of}
use Rattle.reading.specs.rule.Result.{Result, Is, Not}
use Rattle.elements.specs.Code.{phrase_of}
use Rattle.xml_reading.specs.rule.Word.{IDENT, TYPE, USE}
use Rattle.xml_reading.specs.rule.Role.{Title, variables_of, title, naming, filter}
use Rattle.xml_reading.specs.rule.Role.{XmlEntry, same_sign, alike, same_name, use_wrong, has_served, count_named, filter_from, filter_of}
use Rattle.xml_reading.specs.rule.Whole.{xml_rows, xml_names}
use Rattle.filters.specs.declared.Titled.{Titled}
use Rattle.filters.specs.declared.Titled.TheVariants as titled
use Rattle.filters.specs.declared.Filtered.{Filtered}
use Rattle.filters.specs.declared.Filtered.TheVariants as filtered
use Rattle.filters.specs.declared.Met.{Met}
use Rattle.filters.specs.declared.Met.TheVariants as met
use Rattle.tokens.specs.declared.Figures.{Figures}
use Rattle.tokens.specs.declared.Quoted.{Quoted}

abbrev pub text_at : ℕ → ℕ → KeptText
text_at p n = record { place = p; length = n }

-- ---- names, sign by sign
abbrev pub like_of : Bool → Sign → Sign → Bool
like_of standard x y = cond standard (names.same_capital x y) (same_sign x y)

-- a decoder that may be asked
pub record Ready (s : List ℕ) (c : Cursor) : Type 0 where
  pub next : c.next ≤ length s
  pub small : c.code < 2097152

-- both are, and the first has come on
pub record Ahead (latin : Bool) (s t : List ℕ) (a m n : Cursor) : Type 0 where
  pub first : Ready s m
  pub second : Ready t n
  pub less : length (content_signs latin s m) < length (content_signs latin s a)

abbrev pub met_says : Bool → Bool → List ℕ → List ℕ → Met → Bool
met_says latin standard s t (met.On m n) = alike standard (content_signs latin s m) (content_signs latin t n)
met_says latin standard s t (met.Over q) = q

abbrev pub met_ahead : Bool → List ℕ → List ℕ → Cursor → Met → Type 0
met_ahead latin s t a (met.On m n) = Ahead latin s t a m n
met_ahead latin s t a (met.Over q) = Unit

pub record Meets (latin standard : Bool) (s t : List ℕ) (a b : Cursor) (r : Met) : Type 0 where
  pub says : alike standard (content_signs latin s a) (content_signs latin t b) ≡ met_says latin standard s t r
  pub ahead : met_ahead latin s t a r

-- ---- bytes that say themselves: no <, &, ] or carriage return
unfoldable pub plain_of : ℕ → Bool
plain_of b = ltb b 128 && (not (eqb b 60) && (not (eqb b 38) && (not (eqb b 93) && not (eqb b 13))))

abbrev pub lead_says : Bool → Bool → List ℕ → List ℕ → ℕ → ℕ → Option ℕ → Bool
lead_says latin standard s t p q (Some k) = alike standard (signs_from latin s (begun (p + k))) (signs_from latin t (begun (q + k)))
lead_says latin standard s t p q None = false

abbrev pub lead_count : Option ℕ → ℕ
lead_count (Some k) = k
lead_count None = 0

pub record Leads (standard : Bool) (s t : List ℕ) (p q : ℕ) (r : Option ℕ) : Type 0 where
  pub says : (latin : Bool) → alike standard (signs_from latin s (begun p)) (signs_from latin t (begun q))
      ≡ lead_says latin standard s t p q r
  pub first : lead_count r ≤ length s - p
  pub second : lead_count r ≤ length t - q

-- ---- the room of rows
-- number k of row i, and its name
abbrev pub column_in : List ℤ → ℕ → ℕ → ℕ
column_in rows i k = count_of (cell rows (row_size * i + k))

abbrev pub name_in : List ℤ → ℕ → KeptText
name_in rows i = text_at (column_in rows i 14) (column_in rows i 15)

-- row i has a filter, and t is that one's name
abbrev pub served_in : Bool → Bool → List ℕ → List ℤ → KeptText → ℕ → Bool
served_in latin standard d rows t i = ltb 0 (column_in rows i 19) && same_name latin standard d t (name_in rows (column_in rows i 19 - 1))

-- so many rows may be asked: their names lie within a file of n bytes, their filters are among them
pub record Lying (n : ℕ) (rows : List ℤ) (count : ℕ) : Type 0 where
  pub room : length rows ≡ row_size * most_rows
  pub few : count ≤ most_rows
  pub names : (i : ℕ) → i < count → column_in rows i 14 + column_in rows i 15 ≤ n
  pub filters : (i : ℕ) → i < count → column_in rows i 19 ≤ count

-- they are the rows of the variables l
pub record RowsOf (rows : List ℤ) (count : ℕ) (l : List XmlEntry) : Type 0 where
  pub counted : length l ≡ count
  pub held : take (row_size * count) rows ≡ xml_rows 0 l

-- ---- what is said of them
module _ (latin standard : Bool) (d : List ℕ) (rows : List ℤ) (count : ℕ) where
  pub record ServedSaid (t : KeptText) (r : Bool) : Type 0 where
    pub is : (l : List XmlEntry) → RowsOf rows count l → r ≡ has_served latin standard d l t

  pub record CountSaid (t : KeptText) (r : ℕ) : Type 0 where
    pub is : (l : List XmlEntry) → RowsOf rows count l → r ≡ count_named (same_name latin standard d t) l

  pub record FoundSaid (t : KeptText) (r : ℕ) : Type 0 where
    pub is : (l : List XmlEntry) → RowsOf rows count l → r ≡ filter_from (same_name latin standard d t) 0 l

  pub record FilterSaid (name : KeptText) (usage : ℕ) (t : KeptText) (r : ℕ) : Type 0 where
    pub is : (l : List XmlEntry) → RowsOf rows count l → r ≡ filter_of latin standard d l name usage t

module _ (rows : List ℤ) (count : ℕ) where
  pub record TakenSaid (usage : ℕ) (r : Bool) : Type 0 where
    pub is : (l : List XmlEntry) → RowsOf rows count l → r ≡ some_of (λ v. eqb v.usage usage) l

  pub record UseSaid (usage kind : ℕ) (r : Bool) : Type 0 where
    pub is : (l : List XmlEntry) → RowsOf rows count l → r ≡ use_wrong l usage kind

pub record NamesSaid (latin : Bool) (d : List ℕ) (rows : List ℤ) (count r : ℕ) : Type 0 where
  pub is : (l : List XmlEntry) → RowsOf rows count l → r ≡ names.name_fault (xml_names latin d l)

-- ---- the start tag of a variable
-- the idents of the variables before are marked
abbrev pub Idents : List ℕ → List XmlEntry → Type 0
Idents seen l = (n : ℕ) → marked seen n ≡ some_of (λ v. eqb v.ident.value n) (variables_of l)

abbrev pub titled_of : Result Title → Titled
titled_of (Is t n) = titled.Is (capped t.ident.value) t.type t.usage n
titled_of (Not f) = titled.Not f

abbrev pub titled_next : Titled → ℕ
titled_next (titled.Is i k u n) = n
titled_next (titled.Not f) = 0

abbrev pub title_tag : Bool → List ℕ → Bool → ℕ → ℕ → Tag
title_tag bad d old p e = tag_of bad d p e IDENT TYPE (cond old [] USE) 1 4 (cond old 0 5) 2

-- by its judged ident, the place of an unknown attribute, whether the use at a place is wrong, and whether it is `/>` at q
abbrev pub titled_by : OrFault Figures → ℕ → Bool → ℕ → Bool → ℕ → ℕ → ℕ → Titled
titled_by (Ok x) u w at em q kind usage =
    cond (eqb u 0)
    (cond w (titled.Not (fault 52 at)) (cond em (titled.Not (fault 2 q)) (titled.Is x.size kind usage x.next)))
    (titled.Not (fault 51 u))
titled_by (Err f) u w at em q kind usage = titled.Not f

pub record TitleSaid (bad : Bool) (d : List ℕ) (old : Bool) (seen : List ℕ) (rows : List ℤ) (count p e : ℕ) (r : Titled) : Type 0 where
  pub is : (l : List XmlEntry) → RowsOf rows count l → Idents seen l → r ≡ titled_of (title bad d old l p e)
  pub next : titled_next r ≤ length d

-- ---- names and filters
abbrev pub phrase_end : OrFault Quoted → ℕ
phrase_end (Ok q) = q.place + q.length
phrase_end (Err f) = 0

abbrev pub phrase_next : OrFault Quoted → ℕ
phrase_next (Ok q) = q.next
phrase_next (Err f) = 0

abbrev pub filtered_of : Result ℕ → Filtered
filtered_of (Is f n) = filtered.Is f n
filtered_of (Not f) = filtered.Not f

abbrev pub filtered_next : Filtered → ℕ
filtered_next (filtered.Is f n) = n
filtered_next (filtered.Not f) = 0

module _ (bad latin standard : Bool) (d : List ℕ) (rows : List ℤ) (count : ℕ) where
  pub record NamingSaid (p e : ℕ) (r : OrFault Quoted) : Type 0 where
    pub is : (l : List XmlEntry) → RowsOf rows count l → r ≡ phrase_of (naming bad d latin standard l p e)
    pub inside : phrase_end r ≤ length d
    pub next : phrase_next r ≤ length d

  pub record FilteringSaid (name : KeptText) (usage p e : ℕ) (r : Filtered) : Type 0 where
    pub is : (l : List XmlEntry) → RowsOf rows count l → r ≡ filtered_of (filter bad d latin standard l name usage p e)
    pub next : filtered_next r ≤ length d
