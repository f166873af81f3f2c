-- `<variable>`: name, label, position, a filter or none, then by type, as the table says.
use Rattle.std.specs.Prelude.{◌≡◌, Bool, true, ℕ, suc, eqb}
use Rattle.std.proofs.Math.Path.{refl, sym}
use Rattle.std.proofs.Common.{◌∙◌}
use Rattle.std.proofs.Math.Bool.{false, cond}
use mathlib.Core.List.{List, [], ◌∷◌, ◌++◌}
use Rattle.std.proofs.Math.Option.{Option, none, some}
use Rattle.tags.specs.rule.Tag.{tag_of}
use Rattle.survey.specs.rule.Survey.{Figure, KeptText, Content, Block, single, multiple, quantity, character, logical}
use Rattle.survey.specs.rule.Survey as survey
use Rattle.reading.specs.rule.Result.{Result, Is, Not, Reader, ◌>>=◌, ◌>>◌, give, bind}
use Rattle.survey.specs.rule.Table.{lines_all}
use Rattle.reading.specs.rule.Statement as statement
use Rattle.reading.specs.rule.Values.{unlisted}
use Rattle.reading.specs.rule.Variable.{Sort, Single, Multiple, Quantity, Character, Logical, room, variable_of}
use Rattle.reading.specs.rule.Variable as sort
use Rattle.xml_reading.specs.rule.Word.{VARIABLE, NAME, LABEL, POSITION, FILTER, SPREAD, VALUES, SIZE, IDENT, TYPE, USE}
use Rattle.xml_reading.specs.rule.Open.{Open, start, shut, within_element, due, over}
use Rattle.xml_reading.specs.rule.Open as stands
use Rattle.xml_reading.specs.rule.Element.{text, position, spread, size}
use Rattle.xml_reading.specs.rule.Block.{rich, values}
use Rattle.xml_reading.specs.rule.Role.{XmlEntry, Title, variables_of, title, naming, filter}
use Rattle.xml_reading.specs.rule.Variable.{Manner, Then, with, filtered, spreading, content, variable}
use Rattle.xml_grammar.specs.Grammar.{Element, Variable, Name, Label, Position, Filter, Spread, Values, Size}
use Rattle.xml_grammar.specs.Grammar.{once, newly, typed_of}
use Rattle.xml_grammar.specs.Reader.{Steps, steps, element}
use Rattle.xml_grammar.specs.Meaning.{State, begun, between, with_name, with_label, with_place, with_filter, with_spread, with_block}
use Rattle.xml_grammar.specs.Meaning.{with_size}
use Rattle.xml_grammar.specs.Meaning.{sort_of, content_in, lines_before, meanings}
use Rattle.xml_grammar.specs.Meaning as meaning
use Rattle.xml_grammar.specs.Behind.{map_behind, both_behind, regroup, entered_as, on_tag_lem, due_behind, either_behind}
use Rattle.xml_grammar.proofs.Leaves.{name_is, label_is, position_is, filter_is, spread_is, size_is}
use Rattle.xml_grammar.proofs.Blocks.{values_is}

module _ (bad : Bool) (d : List ℕ) (f : ℕ) where
  abbrev child : Element → State → ℕ → Reader State
  child = element bad d (meanings d) (suc (suc f))

  abbrev inside : Reader Open
  inside = within_element bad d VARIABLE

  -- behind the end tag: the width is judged, the variable is among the entries
  abbrev closed : State → Reader State
  closed = (meaning.variable d).closed

  -- ---- by type
  abbrev rest_of : Sort → Steps State
  rest_of k = steps bad d (meanings d) child VARIABLE (typed_of k)

  -- behind a filter, or where there is none
  rest_go : (k : Sort) (s : State) (n : ℕ) → (rest_of k).go s n ≡ bind (inside n) ((rest_of k).at s)
  unfolding steps
  rest_go Single s n = refl
  rest_go Multiple s n = refl
  rest_go Quantity s n = refl
  rest_go Character s n = refl
  rest_go Logical s n = refl

  -- a variable whose start tag, name, label, position and filter were read
  abbrev told : Manner → List XmlEntry → Figure → Sort → ℕ → KeptText → KeptText → statement.Position → ℕ → State
  told m l i k u name label p x = with_filter (with_place (with_label (with_name (begun m l i k u) name) label) p) x

  -- what is read behind the last part that a type asks for
  abbrev ended : {A : Type 0} → A → Reader A
  ended a = inside >>= λ o. over bad d o >> give a

  over_as : {A B C : Type 0} (a : A) (b : B) (z : A → Reader C) (y : B → Reader C) → ((n : ℕ) → z a n ≡ y b n) → (o : Open) (n : ℕ)
      → bind (bind (over bad d o n) λ u. give a) z ≡ bind (bind (over bad d o n) λ u. give b) y
  over_as a b z y e o n = by (over bad d o n) where
    by : (r : Result Unit) → bind (bind r λ u. give a) z ≡ bind (bind r λ u. give b) y
    by (Is u m) = e m
    by (Not x) = refl

  ended_as : {A B C : Type 0} (a : A) (b : B) (z : A → Reader C) (y : B → Reader C) → ((n : ℕ) → z a n ≡ y b n) → (n : ℕ)
      → bind (ended a n) z ≡ bind (ended b n) y
  ended_as a b z y e n = both_behind (inside n) (λ o. over bad d o >> give a) (λ o. over bad d o >> give b) z y λ o m. over_as a b z y e o m

  -- an element that is due, and what follows it
  due_then : {A B C : Type 0} (w : List ℕ) (c : ℕ → Reader State) (k : ℕ → Reader A) (g : A → State) (G : State → Reader State)
      (H : A → Reader B) (z : State → Reader C) (y : B → Reader C) → ((p n : ℕ) → c p n ≡ bind (k p n) λ a. give (g a))
      → ((a : A) (n : ℕ) → bind (G (g a) n) z ≡ bind (H a n) y) → (o : Open) (n : ℕ)
      → bind (bind (due bad d w o c n) G) z ≡ bind (bind (due bad d w o k n) H) y
  due_then w c k g G H z y e h o n =
      regroup (due bad d w o c n) G z
      ∙ (due_behind bad d w o n c k g (λ s m. bind (G s m) z) (λ a m. bind (H a m) y) e h ∙ sym (regroup (due bad d w o k n) H y))

  due_next : {A B C : Type 0} (w : List ℕ) (c : ℕ → Reader State) (k : ℕ → Reader A) (g : A → State) (G : State → Reader State)
      (H : A → Reader B) (z : State → Reader C) (y : B → Reader C) → ((p n : ℕ) → c p n ≡ bind (k p n) λ a. give (g a))
      → ((a : A) (n : ℕ) → bind (G (g a) n) z ≡ bind (H a n) y) → (n : ℕ)
      → bind (bind (inside n) λ o. due bad d w o c >>= G) z ≡ bind (bind (inside n) λ o. due bad d w o k >>= H) y
  due_next w c k g G H z y e h n =
      both_behind (inside n) (λ o. due bad d w o c >>= G) (λ o. due bad d w o k >>= H) z y λ o m. due_then w c k g G H z y e h o m

  -- ---- what a type asks for, by the type
  abbrev block_in : Manner → Bool → ℕ → Open → Reader Block
  block_in m isQuantity before o = due bad d VALUES o (values bad d m.languages isQuantity before)

  abbrev content_by : Manner → statement.Position → ℕ → Sort → Open → Reader Content
  content_by m p before Single o = block_in m false before o >>= λ b. ended (single b)
  content_by m p before Multiple o =
      spreading bad d m (room p) o >>= λ s. block_in m false before s.behind >>= λ b. ended (multiple s.it b)
  content_by m p before Quantity o = block_in m true before o >>= λ b. ended (quantity b)
  content_by m p before Character o = due bad d SIZE o (size bad d) >>= λ n. ended (character n)
  content_by m p before Logical o = over bad d o >> give logical

  content_by_lem : (m : Manner) (p : statement.Position) (before t : ℕ) (o : Open)
      → content bad d m p before t o ≡ content_by m p before (sort_of t) o
  unfolding content
  content_by_lem m p before t o = by (eqb t 1) (eqb t 2) (eqb t 3) (eqb t 4) where
    of : Sort → Reader Content
    of k = content_by m p before k o

    by : (v w x y : Bool)
        → cond v (of Single) (cond w (of Multiple) (cond x (of Quantity) (cond y (of Character) (of Logical))))
        ≡ of (cond v Single (cond w Multiple (cond x Quantity (cond y Character Logical))))
    by true w x y = refl
    by false true x y = refl
    by false false true y = refl
    by false false false true = refl
    by false false false false = refl

  block_is : (s : State) (con : Block → Content) (fin : Content → Reader State)
      → ((b : Block) (n : ℕ) → closed (with_block s b) n ≡ fin (con b) n) → (o : Open) (n : ℕ)
      → bind (bind (due bad d VALUES o (child Values s) n) ended) closed
      ≡ bind (bind (block_in s.manner (meaning.is_quantity s.sort) (lines_before s) o n) λ b. ended (con b)) fin
  block_is s con fin e o n =
      due_then VALUES (child Values s) (values bad d s.manner.languages (meaning.is_quantity s.sort) (lines_before s)) (with_block s)
      ended
      (λ b. ended (con b)) closed fin (λ p m. values_is bad d f s p m) (λ b m. ended_as (with_block s b) (con b) closed fin (e b) m) o n

  module _ (m : Manner) (l : List XmlEntry) (i : Figure) (u : ℕ) (name label : KeptText) (p : statement.Position) (x : ℕ) where
    -- the width, and the variable among the entries
    abbrev added : survey.Variable → Reader State
    added v = give (between m (l ++ record { variable = v; usage = u; filter = x } ∷ []))

    abbrev fin : Content → Reader State
    fin c = sort.held (variable_of i name label p c) >>= added

    abbrev so : Sort → State
    so k = told m l i k u name label p x

    abbrev lines : ℕ
    lines = lines_before (so Logical)

    -- with a spread or none
    abbrev divided : Option survey.Spread → State
    divided s = meaning.state m l i Multiple u name label p x s (unlisted none) meaning.no_figure

    abbrev behind : Then (Option survey.Spread) → Reader State
    behind s n = bind (bind (block_in m false lines s.behind n) λ b. ended (multiple s.it b)) fin

    blocks : (s : Option survey.Spread) (o : Open) (n : ℕ) → bind ((rest_of Single).at (divided s) o n) closed ≡ behind (with s o) n
    unfolding steps
    blocks s o n = block_is (divided s) (multiple s) fin (λ b n. refl) o n

    spread_then_lem : (r : Result survey.Spread)
        → bind (bind (bind r λ s. give (divided (some s))) (rest_of Single).go) closed
        ≡ bind (bind r λ s. inside >>= λ o. give (with (some s) o)) behind
    unfolding steps
    spread_then_lem (Is s n) =
        both_behind (inside n) ((rest_of Single).at (divided (some s))) (λ o. give (with (some s) o)) closed behind λ o m. blocks (some s) o
        m
    spread_then_lem (Not g) = refl

    spread_read : (q n : ℕ)
        → bind (bind (child Spread (divided none) q n) (rest_of Single).go) closed
        ≡ bind (bind (spread bad d (room p) q n) λ s. inside >>= λ o. give (with (some s) o)) behind
    spread_read q n = rw (spread_is bad d (suc f) (divided none) q n) (spread_then_lem (spread bad d (room p) q n))

    spread_part : (o : Open) (n : ℕ) → bind ((rest_of Multiple).at (divided none) o n) closed ≡ bind (content_by m p lines Multiple o n) fin
    unfolding steps spreading
    spread_part o n =
        either_behind bad d SPREAD o n (λ q. child Spread (divided none) q >>= (rest_of Single).go)
        (λ q. spread bad d (room p) q >>= λ s. inside >>= λ o. give (with (some s) o)) ((rest_of Single).at (divided none) o)
        (give (with none o)) closed behind (λ q. spread_read q n) (blocks none o n)
        ∙ sym (regroup (spreading bad d m (room p) o n) (λ s. block_in m false lines s.behind >>= λ b. ended (multiple s.it b)) fin)

    rest_is : (k : Sort) (o : Open) (n : ℕ) → bind ((rest_of k).at (so k) o n) closed ≡ bind (content_by m p lines k o n) fin
    unfolding steps
    rest_is Single o n = block_is (so Single) single fin (λ b n. refl) o n
    rest_is Multiple o n = spread_part o n
    rest_is Quantity o n = block_is (so Quantity) quantity fin (λ b n. refl) o n
    rest_is Character o n =
        due_then SIZE (child Size (so Character)) (size bad d) (with_size (so Character)) ended (λ z. ended (character z)) closed fin
        (λ q m. size_is bad d (suc f) (so Character) q m)
        (λ z m. ended_as (with_size (so Character) z) (character z) closed fin (λ n. refl) m) o n
    rest_is Logical o n = over_as (so Logical) logical closed fin (λ n. refl) o n

    -- the rule makes the entry first
    abbrev made : Content → Reader XmlEntry
    made c = sort.held (variable_of i name label p c) >>= λ v. give (record { variable = v; usage = u; filter = x })

    abbrev listed : XmlEntry → Reader State
    listed v = give (between m (l ++ v ∷ []))

    rest_made : (t : ℕ) (o : Open) (n : ℕ)
        → bind ((rest_of (sort_of t)).at (so (sort_of t)) o n) closed ≡ bind (bind (content bad d m p lines t o n) made) listed
    rest_made t o n =
        rw (content_by_lem m p lines t o)
        (rest_is (sort_of t) o n
        ∙ map_behind (content_by m p lines (sort_of t) o n) made fin listed λ c n.
        map_behind (sort.held (variable_of i name label p c) n) (λ v. give (record { variable = v; usage = u; filter = x })) added listed
        λ v n.
        refl)

  -- ---- a filter or none
  module _ (m : Manner) (l : List XmlEntry) (i : Figure) (t u : ℕ) (name label : KeptText) (p : statement.Position) where
    abbrev at : ℕ → State
    at x = told m l i (sort_of t) u name label p x

    abbrev then : Then ℕ → Reader XmlEntry
    then x = content bad d m p (lines_all (variables_of l)) t x.behind >>= made m l i u name label p x.it

    abbrev last : XmlEntry → Reader State
    last v = give (between m (l ++ v ∷ []))

    abbrev on : Then ℕ → Reader State
    on x n = bind (then x n) last

    filter_then : (r : Result ℕ)
        → bind (bind (bind r λ x. give (at x)) (rest_of (sort_of t)).go) closed ≡ bind (bind r λ x. inside >>= λ o. give (with x o)) on
    filter_then (Is x n) =
        rw (rest_go (sort_of t) (at x) n)
        (both_behind (inside n) ((rest_of (sort_of t)).at (at x)) (λ o. give (with x o)) closed on λ o n.
        rest_made m l i u name label p x t o n)
    filter_then (Not g) = refl

    filter_read : (q n : ℕ)
        → bind (bind (child Filter (at 0) q n) (rest_of (sort_of t)).go) closed
        ≡ bind (bind (filter bad d m.latin m.standard l name u q n) λ x. inside >>= λ o. give (with x o)) on
    filter_read q n =
        rw (filter_is bad d (suc f) (at 0) q n) (filter_then (filter bad d m.latin m.standard l name u q n))

    abbrev filter_or : Open → Reader (Then ℕ)
    filter_or o =
        stands.either_element bad d FILTER o (λ q. filter bad d m.latin m.standard l name u q >>= λ x. inside >>= λ o. give (with x o))
        (give (with 0 o))

    abbrev step_or : Open → Reader State
    step_or o = stands.either_element bad d FILTER o (λ q. child Filter (at 0) q >>= (rest_of (sort_of t)).go)
        ((rest_of (sort_of t)).at (at 0) o)

    filter_by : (old : Bool) (o : Open) (n : ℕ)
        → bind (cond old ((rest_of (sort_of t)).at (at 0) o) (step_or o) n) closed
        ≡ bind (bind (cond old (give (with 0 o)) (filter_or o) n) then) last
    filter_by true o n = rest_made m l i u name label p 0 t o n
    filter_by false o n =
        either_behind bad d FILTER o n (λ q. child Filter (at 0) q >>= (rest_of (sort_of t)).go)
        (λ q. filter bad d m.latin m.standard l name u q >>= λ x. inside >>= λ o. give (with x o)) ((rest_of (sort_of t)).at (at 0) o)
        (give (with 0 o)) closed on (λ q. filter_read q n) (rest_made m l i u name label p 0 t o n)
        ∙ sym (regroup (filter_or o n) then last)

    filter_part : (n : ℕ)
        → bind ((steps bad d (meanings d) child VARIABLE (newly Filter ∷ typed_of (sort_of t))).go (at 0) n) closed
        ≡ bind (bind (inside n) λ o. filtered bad d m l name u o >>= then) last
    unfolding steps filtered
    filter_part n =
        both_behind (inside n) (λ o. cond m.old ((rest_of (sort_of t)).at (at 0) o) (step_or o))
        (λ o. filtered bad d m l name u o >>= then) closed last λ o n. filter_by m.old o n

  -- ---- the whole
  module _ (m : Manner) (l : List XmlEntry) where
    abbrev after : Title → Reader XmlEntry
    after t = do
      o ← inside
      name ← due bad d NAME o (naming bad d m.latin m.standard l)
      o ← inside
      label ← due bad d LABEL o (text bad d LABEL (rich m.languages))
      o ← inside
      p ← due bad d POSITION o (position bad d)
      o ← inside
      x ← filtered bad d m l name t.usage o
      c ← content bad d m p (lines_all (variables_of l)) t.type x.behind
      sort.held (variable_of t.ident name label p c) >>= λ v. give (record { variable = v; usage = t.usage; filter = x.it })

    abbrev entry : XmlEntry → Reader State
    entry v = give (between m (l ++ v ∷ []))

    abbrev opened : Title → State
    opened t = begun m l t.ident (sort_of t.type) t.usage

    parts_are : (t : Title) (n : ℕ)
        → bind ((steps bad d (meanings d) child VARIABLE
        (once Name ∷ once Label ∷ once Position ∷ newly Filter ∷ typed_of (sort_of t.type))).go
        (opened t) n) closed
        ≡ bind (after t n) entry
    unfolding steps
    parts_are t n =
        due_next NAME (child Name (opened t)) (naming bad d m.latin m.standard l) (with_name (opened t)) _ _ closed entry
        (λ q n. name_is bad d (suc f) (opened t) q n) (λ name n.
        due_next LABEL (child Label (with_name (opened t) name)) (text bad d LABEL (rich m.languages))
        (with_label (with_name (opened t) name)) _ _
        closed entry (λ q n. label_is bad d (suc f) (with_name (opened t) name) q n) (λ label n.
        due_next POSITION (child Position (with_label (with_name (opened t) name) label)) (position bad d)
        (with_place (with_label (with_name (opened t) name) label)) _ _ closed entry
        (λ q n. position_is bad d (suc f) (with_label (with_name (opened t) name) label) q n) (λ p n.
        filter_part m l t.ident t.type t.usage name label p n) n) n) n

    pub variable_is : (p e : ℕ) → element bad d (meanings d) (suc (suc (suc f))) Variable (between m l) p e
        ≡ bind (variable bad d m l p e) entry
    unfolding element variable title
    variable_is p e =
        on_tag_lem bad d (tag_of bad d p e IDENT TYPE (cond m.old [] USE) 1 4 (cond m.old 0 5) 2) _ _ (λ t n. bind (after t n) entry)
        (λ h empty q n. entered_as bad d _ _ _ empty q n _ _ λ n. parts_are _ n)
        ∙ sym (regroup (title bad d m.old l p e) after entry)
