-- THE CODE'S BOOKS of what stands before the first variable, and of the clean text as a whole. Crate `front_laws` says that it is the clean
-- text of the survey that was read.
use Rattle.std.specs.Prelude.{Bool, true, false, cond, List, [], ◌∷◌, ◌++◌, ℕ, zero, suc, eqb}
use Rattle.scan.specs.rule.Text.{text}
use Rattle.scan.specs.Text.{step_of}
use Rattle.scan.specs.declared.Step.{Step}
use Rattle.scan.specs.declared.Step.TheVariants.{Byte, End}
use Rattle.statements.specs.rule.Words.{DATE, TIME, ORIGIN, USER, STANDARD, NAMES, SURVEY, TITLE, RECORD}
use Rattle.statements.specs.Opening.{opening_of}
use Rattle.steps.specs.declared.Found.{Found}
use Rattle.steps.specs.Step.{place_in, gap_past, statement_past, keyword_past, statement_found, string_span}
use Rattle.pages.specs.Page.{framed, variables_page}
use Rattle.fronts.specs.declared.Item.{Item}
use Rattle.fronts.specs.declared.Letter.{Letter}
use Rattle.fronts.specs.declared.Items.{Items}
use Rattle.fronts.specs.declared.Front.{Front}

abbrev pub item : ℕ → ℕ → Item
item k n = record { which = k; next = n }

abbrev pub found : Bool → ℕ → Found
found q n = record { there = q; next = n }

abbrev pub item_or : ℕ → Found → Item → Item
item_or k f z = cond f.there (item k f.next) z

unfoldable pub item_at : List ℕ → ℕ → Item
item_at d n =
    item_or 0 (statement_found d n DATE)
    (item_or 1 (statement_found d n TIME)
    (item_or 2 (statement_found d n ORIGIN)
    (item_or 3 (statement_found d n USER)
    (item_or 4 (statement_found d n STANDARD)
    (item 5 n)))))

unfoldable pub item_past : List ℕ → Item → ℕ
item_past d i = cond (eqb i.which 4) (keyword_past d i.next NAMES) (string_span d i.next).next

unfoldable pub item_found : ℕ → List ℕ → ℕ → ℕ → Found
item_found zero d n k = found false n
item_found (suc f) d n k =
    let i = item_at d n in
    let rest = item_found f d (item_past d i) k in
    cond (eqb i.which k) (found true i.next) (cond (eqb i.which 5) (found false n) rest)

unfoldable pub letter_in : Step → Letter
letter_in (Byte b p n) = record { byte = b; next = n }
letter_in (End p) = record { byte = 0; next = p }

unfoldable pub letter_at : List ℕ → ℕ → Letter
letter_at d n = letter_in (step_of (text d (gap_past d n)))

unfoldable pub opening_past : List ℕ → ℕ
opening_past d = place_in 0 (opening_of d)

unfoldable pub items_of : List ℕ → ℕ → Items
items_of d n = record {
  date = item_found 6 d n 0;
  time = item_found 6 d n 1;
  origin = item_found 6 d n 2;
  user = item_found 6 d n 3;
  standard = item_found 6 d n 4;
  next = (item_found 6 d n 5).next;
}

-- what one walk keeps: the first statement of the kind k, among those met
abbrev pub met_by : Found → ℕ → Item → Found
met_by f k i = cond f.there f (cond (eqb i.which k) (found true i.next) f)

abbrev pub ended_by : Found → ℕ → Found
ended_by f n = cond f.there f (found false n)

abbrev pub meet_by : Items → Item → ℕ → Items
meet_by m i n = record {
  date = met_by m.date 0 i;
  time = met_by m.time 1 i;
  origin = met_by m.origin 2 i;
  user = met_by m.user 3 i;
  standard = met_by m.standard 4 i;
  next = n;
}

abbrev pub end_by : Items → Items
end_by m = record {
  date = ended_by m.date m.next;
  time = ended_by m.time m.next;
  origin = ended_by m.origin m.next;
  user = ended_by m.user m.next;
  standard = ended_by m.standard m.next;
  next = m.next;
}

unfoldable pub front_at : List ℕ → Front
front_at d =
    let items = items_of d (opening_past d) in
    let b = statement_past d items.next SURVEY in
    let title = statement_found d b TITLE in
    let s = string_span d title.next in
    let l = letter_at d (statement_past d (cond title.there s.next b) RECORD) in
    record { items = items; title = title; letter = l.byte; next = l.next }

unfoldable pub perhaps_text : List ℕ → Found → List ℕ → List ℕ
perhaps_text d f pre = cond f.there (framed d pre (string_span d f.next) (34 ∷ 13 ∷ 10 ∷ [])) []

unfoldable pub standard_text : Found → List ℕ
standard_text f = cond f.there (STANDARD ++ 32 ∷ NAMES ++ 13 ∷ 10 ∷ []) []

-- `SSS`, `VERSION 1.1`
abbrev pub opened : List ℕ
opened = 83 ∷ 83 ∷ 83 ∷ 13 ∷ 10 ∷ 86 ∷ 69 ∷ 82 ∷ 83 ∷ 73 ∷ 79 ∷ 78 ∷ 32 ∷ 49 ∷ 46 ∷ 49 ∷ 13 ∷ 10 ∷ []

unfoldable pub head_text : List ℕ → Items → List ℕ
head_text d i =
    opened
    ++ (perhaps_text d i.date (DATE ++ 32 ∷ 34 ∷ [])
    ++ (perhaps_text d i.time (TIME ++ 32 ∷ 34 ∷ [])
    ++ (perhaps_text d i.origin (ORIGIN ++ 32 ∷ 34 ∷ [])
    ++ (perhaps_text d i.user (USER ++ 32 ∷ 34 ∷ [])
    ++ standard_text i.standard))))

unfoldable pub tail_text : List ℕ → Found → ℕ → List ℕ
tail_text d title letter =
    (SURVEY ++ 13 ∷ 10 ∷ [])
    ++ (perhaps_text d title (TITLE ++ 32 ∷ 34 ∷ [])
    ++ ((RECORD ++ 32 ∷ []) ++ ((letter ∷ []) ++ (13 ∷ 10 ∷ []))))

-- `END RECORD`, `END SURVEY`, `END SSS`
abbrev pub closed : List ℕ
closed =
    69 ∷ 78 ∷ 68 ∷ 32 ∷ 82 ∷ 69 ∷ 67 ∷ 79 ∷ 82 ∷ 68 ∷ 13 ∷ 10
    ∷ 69 ∷ 78 ∷ 68 ∷ 32 ∷ 83 ∷ 85 ∷ 82 ∷ 86 ∷ 69 ∷ 89 ∷ 13 ∷ 10
    ∷ 69 ∷ 78 ∷ 68 ∷ 32 ∷ 83 ∷ 83 ∷ 83 ∷ 13 ∷ 10 ∷ []

unfoldable pub whole_text : List ℕ → List ℕ
whole_text d =
    let f = front_at d in
    head_text d f.items ++ (tail_text d f.title f.letter ++ ((variables_page 512 d f.next).text ++ closed))
