-- Of a variable: what it hands on stands, its name among that, and what it refuses is met (specs/Tokens).
use Rattle.std.specs.Prelude.{◌≡◌, Bool, cond, List, ℕ, ◌+◌, ◌-◌, ◌≤◌, ◌<◌, eqb, length, Ok, Err}
use Rattle.std.proofs.Math.Path.{refl}
use Rattle.std.proofs.Math.Bool.{true, false}
use native.Mathlib.Omega.{arith}
use borrow.Author.Tests.{leb-false}
use Rattle.std.proofs.Math.Dec.{leb}
use Rattle.tokens.specs.declared.Choice.{Choice}
use Rattle.tokens.specs.declared.Choice.TheVariants.{Taken, Left}
use Rattle.tokens.specs.rule.Gap.{fault, OrFault}
use Rattle.tokens.specs.Token.{choice_of, number_on, past_number, past_string}
use Rattle.statements.specs.declared.Typed.{Typed}
use Rattle.statements.specs.declared.Typed.TheVariants as typed
use Rattle.statements.specs.rule.Words.{VARIABLE, NAME, LABEL, SPREAD, END}
use Rattle.statements.specs.Note.{notes_on, statement_on, text_on}
use Rattle.statements.specs.Kinds.{type_on}
use Rattle.statements.specs.Position.{position_on}
use Rattle.statements.specs.Spread.{spread_rest}
use Rattle.statements.specs.Size.{size_on}
use Rattle.values.specs.Line.{Given}
use Rattle.values.specs.Line as given
use Rattle.values.specs.Block.{values_on}
use Rattle.variables.specs.declared.Head.{Head}
use Rattle.variables.specs.Ident.{wrong_ident, judge_ident, ident_on}
use Rattle.variables.specs.Head.{past_type, join_titles, join_head, head_on}
use Rattle.variables.specs.Rest.{Telling, Told, join_values, values_rest, join_size, join_nothing, spread_or, optional, spread_then}
use Rattle.variables.specs.Rest.{rest_of}
use Rattle.variables.specs.Rest as told
use Rattle.measures.specs.Survey.{Variable, holds_in}
use Rattle.entries.specs.Entry.{Entry, variable, end_variable, ended, told_then, held_by, rest_then, head_then, entry_of}
use Rattle.entries.specs.Entry as entry
use Rattle.refusals.specs.Scanned.{either}
use Rattle.refusals.specs.Tokens.{Met, Stands, word_on_lem, ChoiceStands, choice_of_lem, NumberStands, number_on_lem}
use Rattle.refusals.specs.Tokens.{PhraseStands, past_string_lem}
use Rattle.refusals.specs.Statements.{notes_on_lem, statement_on_lem, text_on_lem, TypedStands, type_on_lem, StatedStands, position_on_lem}
use Rattle.refusals.specs.Statements.{SpreadStands, spread_rest_lem, size_on_lem}
use Rattle.refusals.specs.Values.{GivenStands, values_on_lem}
use Rattle.statements.specs.declared.Position.{Position}
use Rattle.tokens.specs.declared.Figures.{Figures}
use Rattle.statements.specs.declared.Subfields.{Subfields}
use Rattle.tokens.specs.declared.Quoted.{Quoted}

module _ (d : List ℕ) where
  -- ---- VARIABLE and its ident: it passes only where fewer than 512 variables stand before it
  abbrev IdentStands : ℕ → OrFault Figures → Type 0
  IdentStands count (Ok x) = (x.next ≤ length d) × (count < 512)
  IdentStands count (Err f) = Met d f

  judge_ident_lem : (met : ℕ → Bool) (count : ℕ) (i : OrFault Figures) → NumberStands d i → IdentStands count (judge_ident met count i)
  unfolding judge_ident
  judge_ident_lem met count (Err f) h = h
  judge_ident_lem met count (Ok x) h = by (wrong_ident met x) (leb 512 count) refl where
    by : (w m : Bool) → leb 512 count ≡ m
        → IdentStands count (cond w (Err (fault 5 x.place)) (cond m (Err (fault 8 x.place)) (Ok x)))
    by true m e = omega arith
    by false true e = omega arith
    by false false e = (h.1, leb-false 512 count e)

  ident_on_lem : (t : OrFault ℕ) (met : ℕ → Bool) (count : ℕ) → Stands d t → IdentStands count (ident_on d t met count)
  unfolding ident_on
  ident_on_lem t met count h =
      let s = statement_on d t VARIABLE in
      judge_ident_lem met count (number_on d s) (number_on_lem d s (statement_on_lem d t VARIABLE h))

  past_ident : (count : ℕ) (i : OrFault Figures) → IdentStands count i → Stands d (past_number i)
  unfolding past_number
  past_ident count (Ok x) h = h.0
  past_ident count (Err f) h = h

  -- ---- NAME, LABEL, TYPE and POSITION
  record HeadStands (count : ℕ) (h : Head) : Type 0 where
    pub few : count < 512
    pub name : h.name.place ≤ length d
    pub place : h.place ≤ length d
    pub next : h.next ≤ length d

  abbrev HeadedStands : ℕ → OrFault Head → Type 0
  HeadedStands count (Ok h) = HeadStands count h
  HeadedStands count (Err f) = Met d f

  past_type_lem : (k : Typed) → TypedStands d k → Stands d (past_type k)
  unfolding past_type
  past_type_lem (typed.Is k n) h = h
  past_type_lem (typed.Not f) h = h

  join_head_lem : (count : ℕ) (i : OrFault Figures) (n l : OrFault Quoted) (k : Typed) (p : OrFault Position) → IdentStands count i
      → PhraseStands d n
      → PhraseStands d l → TypedStands d k → StatedStands d p → HeadedStands count (join_head (join_titles i n l) k p)
  unfolding join_head join_titles
  join_head_lem count (Err f) n l k p hi hn hl hk hp = hi
  join_head_lem count (Ok x) (Err f) l k p hi hn hl hk hp = hn
  join_head_lem count (Ok x) (Ok n) (Err f) k p hi hn hl hk hp = hl
  join_head_lem count (Ok x) (Ok n) (Ok l) (typed.Not f) p hi hn hl hk hp = hk
  join_head_lem count (Ok x) (Ok n) (Ok l) (typed.Is k m) (Err f) hi hn hl hk hp = hp
  join_head_lem count (Ok x) (Ok n) (Ok l) (typed.Is k m) (Ok q) hi hn hl hk hp =
      record { few = hi.1; name = hn.0; place = hp.0; next = hp.1 }

  head_on_lem : (count : ℕ) (i : OrFault Figures) → IdentStands count i → HeadedStands count (head_on d i)
  unfolding head_on
  head_on_lem count i h =
      let n = text_on d (past_number i) NAME in
      let l = text_on d (past_string n) LABEL in
      let k = type_on d (past_string l) in
      let hn = text_on_lem d (past_number i) NAME (past_ident count i h) in
      let hl = text_on_lem d (past_string n) LABEL (past_string_lem d n hn) in
      let hk = type_on_lem d (past_string l) (past_string_lem d l hl) in
      join_head_lem count i n l k (position_on d (past_type k)) h hn hl hk (position_on_lem d (past_type k) (past_type_lem k hk))

  -- ---- what stands behind the position
  abbrev ToldStands : Told → Type 0
  ToldStands (told.Is x) = x.next ≤ length d
  ToldStands (told.Not f) = Met d f

  values_rest_lem : (quantity : Bool) (first : ℕ) (t : OrFault ℕ) (count width : ℕ) → Stands d t
      → ToldStands (values_rest d quantity first t count width)
  unfolding values_rest join_values
  values_rest_lem quantity first t count width h = by (values_on d quantity first t) (values_on_lem d quantity first t h) where
    by : (g : Given) → GivenStands d g → ToldStands (join_values count width g)
    by (given.Is b l n) k = k
    by (given.Not f) k = k

  spread_then_lem : (first : ℕ) (t : OrFault ℕ) (width : ℕ) → Stands d t → ToldStands (spread_then d first t width)
  unfolding spread_then
  spread_then_lem first t width h = by (choice_of d n SPREAD) (choice_of_lem d n SPREAD behind) where
    n : OrFault ℕ
    n = notes_on d t

    behind : Stands d n
    behind = notes_on_lem d t h

    spread : (s : OrFault Subfields) → SpreadStands d s → ToldStands (spread_or d first s)
    spread (Ok s) k = values_rest_lem false first (Ok s.next) s.count s.width k
    spread (Err f) k = k

    by : (c : Choice) → ChoiceStands d c → ToldStands (optional d first n width c)
    by (Taken m) k = spread (spread_rest d (Ok m) width) (spread_rest_lem d (Ok m) width k)
    by Left k = values_rest_lem false first n 0 0 behind

  join_size_lem : (a : OrFault Figures) → NumberStands d a → ToldStands (join_size a)
  unfolding join_size
  join_size_lem (Ok x) h = h.1
  join_size_lem (Err f) h = h

  join_nothing_lem : (t : OrFault ℕ) → Stands d t → ToldStands (join_nothing t)
  unfolding join_nothing
  join_nothing_lem (Ok n) h = h
  join_nothing_lem (Err f) h = h

  rest_of_lem : (first kind : ℕ) (t : OrFault ℕ) (width : ℕ) → Stands d t → ToldStands (rest_of d first kind t width)
  unfolding rest_of
  rest_of_lem first kind t width h =
      either ToldStands (eqb kind 1) (values_rest_lem false first t 0 0 h)
      (either ToldStands (eqb kind 2) (spread_then_lem first t width h)
      (either ToldStands (eqb kind 3) (values_rest_lem true first t 0 0 h)
      (either ToldStands (eqb kind 4) (join_size_lem (size_on d t) (size_on_lem d t h)) (join_nothing_lem t h))))

  -- ---- the whole variable, behind `count` others
  pub record VariableStands (count : ℕ) (v : Variable) (n : ℕ) : Type 0 where
    pub few : count < 512
    pub name : v.head.name.place ≤ length d
    pub next : n ≤ length d

  abbrev pub EntryStands : ℕ → Entry → Type 0
  EntryStands count (entry.Is v n) = VariableStands count v n
  EntryStands count (entry.Not f) = Met d f

  end_variable_lem : (n : ℕ) → n ≤ length d → Stands d (end_variable d n)
  unfolding end_variable
  end_variable_lem n h = word_on_lem d (statement_on d (Ok n) END) VARIABLE (statement_on_lem d (Ok n) END h)

  rest_then_lem : (count before : ℕ) (h : Head) → HeadStands count h → EntryStands count (rest_then d before h)
  unfolding rest_then held_by
  rest_then_lem count before h k =
      let width = h.finish + 1 - h.start in
      by (rest_of d before h.kind (Ok h.next) width) (rest_of_lem before h.kind (Ok h.next) width k.next)
    where
      ends : (x : Telling) (t : OrFault ℕ) → Stands d t → EntryStands count (ended t λ n. held_by before (variable h x) n)
      ends x (Ok n) l =
          either (EntryStands count) (holds_in before (variable h x)) (record { few = k.few; name = k.name; next = l }) (omega arith)
      ends x (Err f) l = l

      by : (t : Told) → ToldStands t
          → EntryStands count (told_then t λ x. ended (end_variable d x.next) λ n. held_by before (variable h x) n)
      by (told.Is x) l = ends x (end_variable d x.next) (end_variable_lem x.next l)
      by (told.Not f) l = l

  pub entry_of_lem : (t : OrFault ℕ) (met : ℕ → Bool) (count before : ℕ) → Stands d t → EntryStands count (entry_of d t met count before)
  unfolding entry_of
  entry_of_lem t met count before h = by (head_on d i) (head_on_lem count i (ident_on_lem t met count h)) where
    i : OrFault Figures
    i = ident_on d t met count

    by : (x : OrFault Head) → HeadedStands count x → EntryStands count (head_then x (rest_then d before))
    by (Ok x) k = rest_then_lem count before x k
    by (Err f) k = k
