-- What the code answers with, for each answer of the rule (crates `reading` and `xml_reading`). A list of charges is held by the least that
-- is named: number 0 is none.
use Rattle.std.specs.Prelude.{◌≡◌, ◌⊎◌, Bool, true, false, cond, List, [], ◌∷◌, ◌++◌, ℕ, ◌+◌, ◌≤◌, ◌<◌, eqb, ltb, length, Ok, Err}
use Rattle.std.proofs.Math.Option.{Option, get_or}
use Rattle.tags.specs.rule.Tag.{is_named, stretch_fits}
use Rattle.tags.specs.declared.Held.{Held}
use Rattle.tokens.specs.declared.Fault.{Fault}
use Rattle.tokens.specs.rule.Gap.{fault, OrFault}
use Rattle.tokens.specs.declared.Figures.{Figures}
use Rattle.survey.specs.rule.Survey.{Figure, KeptText, Spread}
use Rattle.ranks.specs.declared.Found.{Found}
use Rattle.ranks.specs.rule.Rank.{none_found, lower_found}
use Rattle.reading.specs.rule.Result.{Result, Is, Not, Reader, ◌>>=◌}
use Rattle.reading.specs.rule.Least.{Charge, ◌when◌, Finding, clean, first, named, least, judged}
use Rattle.reading.specs.rule.Statement.{Position, position_charges, spread_charges}
use Rattle.xml_reading.specs.rule.Word.{POSITION, SPREAD}
use Rattle.xml_reading.specs.rule.Open as rule
use Rattle.xml_reading.specs.rule.Open.{unknown_at, nothing}
use Rattle.xml_reading.specs.rule.Element.{Body, figure_of, given_at}
use Rattle.elements.specs.declared.Open.{Open}
use Rattle.elements.specs.declared.Open.TheVariants as opened
use Rattle.elements.specs.declared.Due.{Due}
use Rattle.elements.specs.declared.Due.TheVariants as due
use Rattle.elements.specs.declared.Passed.{Passed}
use Rattle.elements.specs.declared.Passed.TheVariants as passed
use Rattle.elements.specs.declared.Body as code
use Rattle.statements.specs.declared.Position as books
use Rattle.statements.specs.declared.Subfields.{Subfields}
use Rattle.tokens.specs.declared.Quoted.{Quoted}

-- ---- where a tag is due
abbrev pub open_of : Result rule.Open → Open
open_of (Is (rule.start p) e) = opened.Start p e
open_of (Is (rule.shut p) n) = opened.Shut p n
open_of (Not f) = opened.Not f

-- and back
abbrev pub read_of : Open → Result rule.Open
read_of (opened.Start p e) = Is (rule.start p) e
read_of (opened.Shut p n) = Is (rule.shut p) n
read_of (opened.Not f) = Not f

-- it lies between a place and the end
abbrev pub Within : List ℕ → ℕ → Open → Type 0
Within d at (opened.Start p e) = (at ≤ p) × (p + 1 < e) × (e ≤ length d)
Within d at (opened.Shut p n) = (at ≤ p) × (p + 2 < n) × (n ≤ length d)
Within d at (opened.Not f) = Unit

-- the fault of what is refused
abbrev pub blamed : {A : Type 0} → Result A → Fault
blamed (Is a n) = fault 0 0
blamed (Not f) = f

-- whether the start tag of an element w stands there
abbrev pub starts_of : List ℕ → Open → List ℕ → Bool
starts_of d (opened.Start p e) w = is_named d (p + 1) e w
starts_of d (opened.Shut p n) w = false
starts_of d (opened.Not f) w = false

abbrev pub due_of : Result ℕ → Due
due_of (Is p e) = due.At p e
due_of (Not f) = due.Not f

-- and back
abbrev pub due_read : Due → Result ℕ
due_read (due.At p e) = Is p e
due_read (due.Not f) = Not f

-- ---- charges
abbrev pub found_in : Finding → Found
found_in clean = none_found
found_in (first f) = record { number = f.number; place = f.place }

-- the least of the charges that are named
unfoldable pub found_of : List Charge → Found
found_of l = found_in (least (named l))

-- a charge by itself
abbrev pub alone : Fault → Bool → Found
alone f q = cond q (record { number = f.number; place = f.place }) none_found

-- what is answered where that was found
abbrev pub ruled : {A : Type 0} → Found → A → ℕ → Result A
ruled x a n = cond (eqb x.number 0) (Is a n) (Not (fault x.number x.place))

-- no charge has number 0
abbrev pub Numbered : List Charge → Type 0
Numbered [] = Unit
Numbered (f when q ∷ l) = (0 < f.number) × Numbered l

-- ---- elements that hold nothing, and texts
abbrev pub passed_of : Result (List Charge) → Passed
passed_of (Is l n) = passed.Is (found_of l) n
passed_of (Not f) = passed.Not f

abbrev pub bodied_of : Result Body → OrFault code.Body
bodied_of (Is b n) = Ok (record {
  place = b.text.place;
  length = b.text.length;
  whole = b.whole;
  found = found_of b.charges;
  next = n;
})
bodied_of (Not f) = Err f

abbrev pub phrase_of : Result KeptText → OrFault Quoted
phrase_of (Is t n) = Ok (record { place = t.place; length = t.length; next = n })
phrase_of (Not f) = Err f

-- ---- numbers of a tag
-- a value of a form that lies inside d
pub record Slot (d : List ℕ) (form v e : ℕ) : Type 0 where
  pub ends : v ≤ e
  pub within : e ≤ length d
  pub fits : stretch_fits form d v e ≡ true

-- the first of two numbers is given, the second perhaps
abbrev pub Numbers : List ℕ → Held → Type 0
Numbers d h = Slot d 1 h.a h.ae × ((h.b ≡ 0) ⊎ Slot d 1 h.b h.be)

-- a number, or nothing
abbrev pub Written : List ℕ → ℕ → ℕ → Type 0
Written d v e = (stretch_fits 1 d v e ≡ true) ⊎ (v ≡ e)

-- ---- a position and a spread behind their start tags, as the rule has them
abbrev pub position_judged : List ℕ → Held → List Charge → Reader Position
position_judged d h l =
    let a = figure_of d h.a h.ae in
    let b = given_at h.b (figure_of d h.b h.be) in
    judged (position_charges a (get_or b a) ++ l) (record { start = a; finish = b })

abbrev pub position_behind : Bool → List ℕ → Held → Bool → Reader Position
position_behind bad d h empty = nothing bad d POSITION empty >>= λ l. position_judged d h (unknown_at h.unknown ∷ l)

abbrev pub spread_judged : ℕ → Figure → Option Figure → List Charge → Reader Spread
spread_judged room a b l = judged (spread_charges room a b ++ l) (record { count = a; width = b })

abbrev pub spread_held : ℕ → List ℕ → Held → List Charge → Reader Spread
spread_held room d h l = spread_judged room (figure_of d h.a h.ae) (given_at h.b (figure_of d h.b h.be)) l

abbrev pub spread_behind : Bool → List ℕ → ℕ → Held → Bool → Reader Spread
spread_behind bad d room h empty = nothing bad d SPREAD empty >>= λ l. spread_held room d h (unknown_at h.unknown ∷ l)

-- ---- what the parts of the code answer, from what is found
-- what is wrong with two locations, before what lies behind them
abbrev pub position_found : Bool → Figures → Figures → Found → Found
position_found below a b behind =
    lower_found (alone (fault 7 a.place) (eqb a.size 0))
    (lower_found (alone (fault 7 b.place) below)
    (lower_found (alone (fault 8 a.place) (ltb 16384 a.size))
    (lower_found (alone (fault 8 b.place) (ltb 16384 b.size)) behind)))

abbrev pub located_of : Figures → Figures → ℕ → Found → OrFault books.Position
located_of a b n x =
    cond (eqb x.number 0) (Ok (record { start = a.size; finish = b.size; place = a.place; next = n }))
    (Err (fault x.number x.place))

abbrev pub shared_of : ℕ → ℕ → ℕ → Found → OrFault Subfields
shared_of count width n x =
    cond (eqb x.number 0) (Ok (record { count = count; width = width; next = n }))
    (Err (fault x.number x.place))

abbrev pub sized_of : Figures → ℕ → Found → OrFault Figures
sized_of x n f =
    cond (eqb f.number 0) (Ok (record { size = x.size; count = x.count; place = x.place; next = n }))
    (Err (fault f.number f.place))

-- a text of the rule, as the code holds it
pub record Tells (t : Body) (b : code.Body) : Type 0 where
  pub text : t.text ≡ record { place = b.place; length = b.length }
  pub whole : t.whole ≡ b.whole
  pub found : found_of t.charges ≡ b.found
  pub numbered : Numbered t.charges
