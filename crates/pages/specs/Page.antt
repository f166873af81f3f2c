-- THE CODE'S BOOKS of the clean lines: what is sent from a place of the definition on, and where reading stands then. Crate `page_laws`
-- says
-- that these are the lines of what the grammar derives there.
use Rattle.std.specs.Prelude.{◌≡◌, Bool, true, false, cond, not, ◌&&◌, List, [], ◌∷◌, ◌++◌, ℕ, zero, suc, ◌+◌, ◌-◌, ◌/◌, eqb, ltb, take}
use Rattle.std.specs.Prelude.{drop}
use Rattle.sink.specs.rule.Sent.{Sent}
use Rattle.statements.specs.rule.Words.{VARIABLE, NAME, LABEL, TYPE, SINGLE, MULTIPLE, QUANTITY, CHARACTER, LOGICAL, POSITION, TO, SPREAD}
use Rattle.statements.specs.rule.Words.{OF}
use Rattle.statements.specs.rule.Words.{SIZE, VALUES, WITH, SPECIAL, END}
use Rattle.clean_text.specs.rule.Span.{span_of}
use Rattle.clean_text.specs.rule.Clean.{plain_digits}
use Rattle.steps.specs.declared.Span.{Span}
use Rattle.steps.specs.declared.Found.{Found}
use Rattle.steps.specs.Step.{gap_past, notes_past, statement_past, keyword_past, word_found, statement_found, number_span, string_span}
use Rattle.steps.specs.Step.{value_span}
use Rattle.pages.specs.declared.Walked.{Walked}
use Rattle.pages.specs.declared.Sort.{Sort}
use Rattle.pages.specs.declared.Places.{Places}
use Rattle.pages.specs.declared.Parts.{Parts}
use Rattle.pages.specs.declared.LineParts.{LineParts}
use Rattle.pages.specs.declared.RangeParts.{RangeParts}

-- what is sent, and where reading stands
pub record Page : Type 0 where
  pub text : List ℕ
  pub next : ℕ

abbrev pub page : List ℕ → ℕ → Page
page s n = record { text = s; next = n }

-- one behind the other
abbrev pub before : List ℕ → Page → Page
before s p = page (s ++ p.text) p.next

abbrev pub then : Page → (ℕ → Page) → Page
then p f = before p.text (f p.next)

-- the promise of every call that sends a page
pub record Paged (bound : ℕ) (out : List ℕ) (at : ℕ) (out' : List ℕ) (r : Walked) (p : Page) : Type 0 where
  pub sent : Sent bound out at p.text out' r.at
  pub stands : r.next ≡ p.next

-- what stands from g to before e, and reading goes on at its line's end
unfoldable pub stretch_page : List ℕ → ℕ → ℕ → Page
stretch_page d g e = page (take (e - g) (drop g d)) (e - 2)

unfoldable pub framed : List ℕ → List ℕ → Span → List ℕ → List ℕ
framed d pre s post = pre ++ (span_of d s.from s.end ++ post)

unfoldable pub number_page : List ℕ → ℕ → List ℕ → List ℕ → Page
number_page d n w pre = let x = number_span d (statement_past d n w) in page (framed d pre x (13 ∷ 10 ∷ [])) x.next

unfoldable pub phrase_page : List ℕ → ℕ → List ℕ → List ℕ → Page
phrase_page d n w pre = let x = string_span d (statement_past d n w) in page (framed d pre x (34 ∷ 13 ∷ 10 ∷ [])) x.next

unfoldable pub end_page : List ℕ → ℕ → List ℕ → List ℕ → Page
end_page d n w line = page line (keyword_past d (statement_past d n END) w)

-- ---- TYPE
abbrev pub sort : ℕ → ℕ → Sort
sort k n = record { kind = k; next = n }

abbrev pub sort_or : ℕ → Found → Sort → Sort
sort_or k f z = cond f.there (sort k f.next) z

unfoldable pub type_at : List ℕ → ℕ → Sort
type_at d n =
    let a = statement_past d n TYPE in
    sort_or 1 (word_found d a SINGLE)
    (sort_or 2 (word_found d a MULTIPLE)
    (sort_or 3 (word_found d a QUANTITY)
    (sort_or 4 (word_found d a CHARACTER)
    (sort 5 (keyword_past d a LOGICAL)))))

abbrev pub type_line : List ℕ → List ℕ
type_line w = TYPE ++ (32 ∷ w ++ 13 ∷ 10 ∷ [])

unfoldable pub type_text : ℕ → List ℕ
type_text k =
    cond (eqb k 1) (type_line SINGLE)
    (cond (eqb k 2) (type_line MULTIPLE)
    (cond (eqb k 3) (type_line QUANTITY)
    (cond (eqb k 4) (type_line CHARACTER)
    (type_line LOGICAL))))

-- ---- POSITION
abbrev pub places : Span → Span → ℕ → Places
places a b n = record { start = a; finish = b; next = n }

abbrev pub places_or : List ℕ → Span → Found → Places
places_or d x f =
    let y = number_span d f.next in
    cond f.there (places x y y.next) (places x x f.next)

unfoldable pub position_at : List ℕ → ℕ → Places
position_at d n =
    let x = number_span d (statement_past d n POSITION) in
    places_or d x (word_found d x.next TO)

unfoldable pub position_text : List ℕ → Places → List ℕ
position_text d p = framed d (POSITION ++ 32 ∷ []) p.start (32 ∷ TO ++ 32 ∷ []) ++ framed d [] p.finish (13 ∷ 10 ∷ [])

unfoldable pub room_of : ℕ → ℕ → ℕ
room_of a b = cond (ltb 16384 b) 0 (cond (ltb b a) 0 (b - a + 1))

-- ---- SPREAD
abbrev pub parts : Bool → Span → Bool → Span → ℕ → Parts
parts t x o w n = record { there = t; count = x; of = o; width = w; next = n }

unfoldable pub spread_at : List ℕ → ℕ → Parts
spread_at d n =
    let f = statement_found d n SPREAD in
    let x = number_span d f.next in
    let g = word_found d x.next OF in
    let w = number_span d g.next in
    cond f.there (cond g.there (parts true x true w w.next) (parts true x false x g.next)) (parts false x false x n)

unfoldable pub even_of : ℕ → ℕ → ℕ
even_of room n = cond (eqb n 0) 0 (room / n)

unfoldable pub spread_text : List ℕ → ℕ → Parts → List ℕ
spread_text d room p =
    cond (not p.there) []
    (framed d (SPREAD ++ 32 ∷ []) p.count (32 ∷ OF ++ 32 ∷ [])
    ++ cond p.of (framed d [] p.width (13 ∷ 10 ∷ [])) (plain_digits (even_of room p.count.size) ++ (13 ∷ 10 ∷ [])))

-- ---- VALUES
unfoldable pub line_at : List ℕ → ℕ → LineParts
line_at d n =
    let value = value_span d (notes_past d n) in
    let text = string_span d value.next in
    let s = word_found d text.next SPECIAL in
    record { value = value; text = text; special = s.there; next = s.next }

unfoldable pub line_text : List ℕ → LineParts → List ℕ
line_text d l =
    framed d [] l.value (32 ∷ 34 ∷ [])
    ++ cond l.special (framed d [] l.text (34 ∷ 32 ∷ SPECIAL ++ 13 ∷ 10 ∷ [])) (framed d [] l.text (34 ∷ 13 ∷ 10 ∷ []))

unfoldable pub lines_page : ℕ → List ℕ → ℕ → Page
lines_page zero d n = page [] n
lines_page (suc k) d n =
    let l = line_at d n in
    let e = statement_found d l.next END in
    let rest = lines_page k d l.next in
    before (line_text d l) (cond e.there (page [] (keyword_past d e.next VALUES)) rest)

abbrev pub range_parts : Bool → Span → Span → Bool → ℕ → RangeParts
range_parts t a b w n = record { there = t; from = a; to = b; with = w; next = n }

unfoldable pub range_at : List ℕ → ℕ → RangeParts
range_at d n =
    let a = value_span d (notes_past d n) in
    let f = word_found d a.next TO in
    let b = value_span d (gap_past d f.next) in
    let w = word_found d b.next WITH in
    cond f.there (range_parts true a b w.there w.next) (range_parts false a a false n)

unfoldable pub range_text : List ℕ → RangeParts → List ℕ
range_text d r =
    cond (not r.there) []
    (framed d [] r.from (32 ∷ TO ++ 32 ∷ [])
    ++ cond r.with (framed d [] r.to (32 ∷ WITH ++ 13 ∷ 10 ∷ [])) (framed d [] r.to (13 ∷ 10 ∷ [])))

unfoldable pub block_page : List ℕ → RangeParts → Page
block_page d r =
    cond (r.there && not r.with) (page [] (keyword_past d (statement_past d r.next END) VALUES)) (lines_page 4096 d r.next)

unfoldable pub values_page : List ℕ → ℕ → Page
values_page d n =
    let r = range_at d (statement_past d n VALUES) in
    let b = block_page d r in
    page ((VALUES ++ 13 ∷ 10 ∷ []) ++ (range_text d r ++ (b.text ++ (END ++ 32 ∷ VALUES ++ 13 ∷ 10 ∷ [])))) b.next

-- ---- a variable
unfoldable pub rest_page : List ℕ → ℕ → ℕ → ℕ → Page
rest_page d n kind room =
    let p = spread_at d n in
    cond (eqb kind 5) (page [] n)
    (cond (eqb kind 4) (number_page d n SIZE (SIZE ++ 32 ∷ []))
    (cond (eqb kind 2) (before (spread_text d room p) (values_page d p.next)) (values_page d n)))

unfoldable pub titles_page : List ℕ → ℕ → Page
titles_page d n =
    then (number_page d n VARIABLE (VARIABLE ++ 32 ∷ [])) λ a.
    then (phrase_page d a NAME (NAME ++ 32 ∷ 34 ∷ [])) λ b.
    phrase_page d b LABEL (LABEL ++ 32 ∷ 34 ∷ [])

-- behind its label
unfoldable pub body_page : List ℕ → ℕ → Page
body_page d a =
    let t = type_at d a in
    let p = position_at d t.next in
    before (type_text t.kind)
    (before (position_text d p)
    (then (rest_page d p.next t.kind (room_of p.start.size p.finish.size)) λ e.
    end_page d e VARIABLE (END ++ 32 ∷ VARIABLE ++ 13 ∷ 10 ∷ [])))

unfoldable pub variable_page : List ℕ → ℕ → Page
variable_page d n = then (titles_page d n) (body_page d)

-- all of them, up to an END
unfoldable pub variables_page : ℕ → List ℕ → ℕ → Page
variables_page zero d n = page [] n
variables_page (suc k) d n =
    let v = variable_page d n in
    let e = statement_found d v.next END in
    let rest = variables_page k d v.next in
    before v.text (cond e.there (page [] v.next) rest)
