-- A variable as a whole, from VARIABLE to END VARIABLE, judged for its width behind that.
use Rattle.std.specs.Prelude.{◌≡◌, refl, Bool, true, false, cond, not, List, [], ◌∷◌, ℕ, ◌≤◌, eqb, length, Ok}
use Rattle.std.proofs.Math.Option.{get_or}
use Rattle.std.proofs.Common.{arith}
use Rattle.scan.specs.Number.{capped}
use Rattle.tokens.specs.declared.Fault.{Fault}
use Rattle.tokens.specs.rule.Gap.{fault}
use Rattle.tokens.specs.Token.{word_on, past_number, past_string}
use Rattle.statements.specs.rule.Words.{NAME, LABEL, END, VARIABLE}
use Rattle.statements.specs.Note.{text_on}
use Rattle.statements.specs.Kinds.{type_on}
use Rattle.statements.specs.Position.{position_on}
use Rattle.variables.specs.Head.{past_type, join_titles, join_head, head_on}
use Rattle.variables.specs.Rest.{Telling, Told}
use Rattle.measures.specs.Survey.{lines_in, columns_in}
use Rattle.measures.specs.Survey as books
use Rattle.entries.specs.Entry.{Entry, end_variable, ended, told_then, held_by, rest_then, head_then, entry_of}
use Rattle.entries.specs.Entry as entry
use Rattle.entries.proofs.Heads.{position_good}
use Rattle.survey.specs.rule.Survey.{Figure, KeptText, Content, Variable}
use Rattle.survey.specs.rule.Width.{some_of, block_in, finish_in}
use Rattle.survey.specs.rule.Table.{variable_columns, holds, lines_of, lines_all}
use Rattle.reading.specs.rule.Result.{Result, Is, Not, Reader, bind}
use Rattle.reading.specs.rule.Least.{◌when◌, named, lower, least, judged}
use Rattle.reading.specs.rule.Token.{word}
use Rattle.reading.specs.rule.Statement.{Position, statement, phrase, position}
use Rattle.reading.specs.rule.Variable.{Sort, room, variable_of, held, type, content, variable}
use Rattle.bridge.specs.Facts.{capped_small}
use Rattle.bridge.specs.Tokens.{to_reading, to_number, to_phrase, word_on_lem}
use Rattle.bridge.specs.Notes.{statement_on_lem, phrase_on}
use Rattle.bridge.specs.Statements.{to_stated, position_on_lem}
use Rattle.bridge.specs.Blocks.{SameLines, nothing}
use Rattle.bridge.specs.Variables.{kind_of, to_typed, type_on_lem, ident_on_lem, Small, small, unread, ident_small}
use Rattle.bridge.specs.Contents.{Tells, as_single, as_multiple, as_quantity, as_character, as_logical, SameTold, tells, quits}
use Rattle.bridge.specs.Contents.{content_on}
use Rattle.bridge.specs.Columns.{head_as, Exact, columns_same}
use Rattle.bridge.specs.Rooms.{Fate, exact, narrow, fate, holds_same}

pub record SameVariable (d : List ℕ) (v : books.Variable) (w : Variable) : Type 0 where
  pub columns : (before : ℕ) → columns_in before v ≡ variable_columns before w
  pub lines : SameLines d (lines_in v) (lines_of w)
  pub ident : v.head.ident ≡ w.ident.value
  pub finish : v.head.finish ≡ finish_in w
  pub name : v.head.name.place ≡ w.name.place

pub data SameEntry (d : List ℕ) : Entry → Result Variable → Type 0 where
  reads : {v : books.Variable} {w : Variable} {n : ℕ} → SameVariable d v w → SameEntry d (entry.Is v n) (Is w n)
  stops : {f : Fault} → SameEntry d (entry.Not f) (Not f)

tells_lines : {d : List ℕ} {room k : ℕ} {x : Telling} {c : Content} → Tells d room k x c → SameLines d x.lines (block_in c).lines
tells_lines (as_single kept h u v) = h
tells_lines (as_multiple kept h t) = h
tells_lines (as_quantity kept h u v) = h
tells_lines (as_character g) = nothing
tells_lines as_logical = nothing

module _ (d : List ℕ) (before : ℕ) where
  module _ (n : Figure) (name : KeptText) (i : ℕ) (label : KeptText) (j : ℕ) (p : Position) (m : ℕ) (from_one : 1 ≤ p.start.value)
      (ordered : p.start.value ≤ (get_or p.finish p.start).value)
      (low : (get_or p.finish p.start).value ≤ 16384) where
    held_same : {k : ℕ} {x : Telling} {c : Content} (e : ℕ) → Tells d (room p) k x c
        → SameEntry d (held_by before (entry.variable (head_as n name i label j k p m) x) e) (held (variable_of n name label p c) e)
    unfolding held_by judged named least lower
    held_same {k} {x} {c} e t = by (fate d n name i label j p m before low (omega arith) t) where
      made : Exact (room p) c → SameVariable d (entry.variable (head_as n name i label j k p m) x) (variable_of n name label p c)
      made q = record {
        columns = λ b. columns_same d n name i label j p m b t q;
        lines = tells_lines t;
        ident = refl;
        finish =
            refl;
        name = refl;
      }

      by : Fate d n name i label j p m before low x k c
          → SameEntry d (held_by before (entry.variable (head_as n name i label j k p m) x) e) (held (variable_of n name label p c) e)
      by (exact q) = rw (holds_same d n name i label j p m before low t q) (on (holds (variable_of n name label p c))) where
        on : (h : Bool) → SameEntry d
            (cond h (entry.Is (entry.variable (head_as n name i label j k p m) x) e) (entry.Not (fault 7 p.start.place)))
            (judged (fault 7 p.start.place when not h ∷ []) (variable_of n name label p c) e)
        on true = reads (made q)
        on false = stops
      by (narrow a b) = rw (a, b) stops

    -- behind the position
    end_same : {k : ℕ} {x : Telling} {c : Content} → Tells d (room p) k x c → (e : ℕ)
        → SameEntry d (ended (end_variable d e) (held_by before (entry.variable (head_as n name i label j k p m) x)))
        (bind (statement d END e) λ a n'. bind (word d VARIABLE n') λ a. held (variable_of n name label p c))
    unfolding end_variable
    end_same {k} {x} {c} t e = rw (statement_on_lem d (Is e e) END) (at (statement d END e)) where
      fin : (s : Result Unit) → SameEntry d (ended (to_reading s) (held_by before (entry.variable (head_as n name i label j k p m) x)))
          (bind s λ a. held (variable_of n name label p c))
      fin (Is a o) = held_same o t
      fin (Not f) = stops

      at : (s : Result Unit) → SameEntry d
          (ended (word_on d (to_reading s) VARIABLE) (held_by before (entry.variable (head_as n name i label j k p m) x)))
          (bind s λ a n'. bind (word d VARIABLE n') λ a. held (variable_of n name label p c))
      at (Is a o) = rw (word_on_lem d (Is a o) VARIABLE) (fin (word d VARIABLE o))
      at (Not f) = rw (word_on_lem d {A = ℕ} (Not f) VARIABLE) stops

    rest_same : (s : Sort) → SameEntry d (rest_then d before (head_as n name i label j (kind_of s) p m))
        (bind (content d p before s m) λ c n'. bind (statement d END n') λ a n'. bind (word d VARIABLE n') λ a. held
        (variable_of n name label p c))
    unfolding rest_then
    rest_same s = by (content_on d before p (omega arith) (omega arith) s m) where
      by : {x : Told} {r : Result Content} → SameTold d (room p) (kind_of s) x r
          → SameEntry d (told_then x λ x. ended (end_variable d x.next)
          (held_by before (entry.variable (head_as n name i label j (kind_of s) p m) x)))
          (bind r λ c n'. bind (statement d END n') λ a n'. bind (word d VARIABLE n') λ a. held (variable_of n name label p c))
      by (tells {x = x} {n = o} t e) = rw (← e) (end_same t x.next)
      by quits = stops

  -- ---- the statements before it
  module _ (x : Figure) (m : ℕ) (fits : capped x.value ≡ x.value) where
    abbrev behind : KeptText → KeptText → Sort → Position → Reader Variable
    behind name label s p o = bind (content d p before s o) λ c n'. bind (statement d END n') λ a n'. bind (word d VARIABLE n') λ a. held
        (variable_of x name label p c)

    position_then : (name : KeptText) (i : ℕ) (label : KeptText) (j : ℕ) (s : Sort) (k : ℕ) (r : Result Position) → position_on d (Ok k)
        ≡ to_stated r
        → SameEntry d (head_then
        (join_head (join_titles (to_number (Is x m)) (to_phrase (Is name i)) (to_phrase (Is label j))) (to_typed (Is s k)) (to_stated r))
        (rest_then d before)) (bind r (behind name label s))
    unfolding join_head join_titles
    position_then name i label j s k (Is p o) e =
        let g = position_good d (Ok k) _ e in
        let a = g.from_one in
        let b = g.ordered in
        let c = g.low in
        let u : capped p.start.value ≡ p.start.value = capped_small p.start.value (omega arith) in
        let v : capped (get_or p.finish p.start).value ≡ (get_or p.finish p.start).value =
        capped_small (get_or p.finish p.start).value (omega arith) in
        rw (fits, u, v) (rest_same x name i label j p o (rw u at a) (rw (u, v) at b) (rw v at c) s)
    position_then name i label j s k (Not f) e = stops

    type_then : (name : KeptText) (i : ℕ) (label : KeptText) (j : ℕ) (r : Result Sort)
        → SameEntry d (head_then
        (join_head (join_titles (to_number (Is x m)) (to_phrase (Is name i)) (to_phrase (Is label j))) (to_typed r)
        (position_on d (past_type (to_typed r)))) (rest_then d before))
        (bind r λ s n. bind (position d n) (behind name label s))
    unfolding past_type join_head join_titles
    type_then name i label j (Is s k) =
        rw (position_on_lem d (Is k k)) (position_then name i label j s k (position d k) (position_on_lem d (Is k k)))
    type_then name i label j (Not f) = stops

    label_then : (name : KeptText) (i : ℕ) (r : Result KeptText)
        → SameEntry d (head_then
        (join_head (join_titles (to_number (Is x m)) (to_phrase (Is name i)) (to_phrase r)) (type_on d (past_string (to_phrase r)))
        (position_on d (past_type (type_on d (past_string (to_phrase r)))))) (rest_then d before))
        (bind r λ label n. bind (type d n) λ s n. bind (position d n) (behind name label s))
    unfolding past_string join_head join_titles
    label_then name i (Is label j) = rw (type_on_lem d (Is j j)) (type_then name i label j (type d j))
    label_then name i (Not f) = stops

    name_then : (r : Result KeptText)
        → SameEntry d (head_then
        (join_head (join_titles (to_number (Is x m)) (to_phrase r) (text_on d (past_string (to_phrase r)) LABEL))
        (type_on d (past_string (text_on d (past_string (to_phrase r)) LABEL)))
        (position_on d (past_type (type_on d (past_string (text_on d (past_string (to_phrase r)) LABEL)))))) (rest_then d before))
        (bind r λ name n. bind (phrase d LABEL n) λ label n. bind (type d n) λ s n. bind (position d n) (behind name label s))
    unfolding past_string join_head join_titles
    name_then (Is name i) = rw (phrase_on d (Is i i) LABEL) (label_then name i (phrase d LABEL i))
    name_then (Not f) = stops

  ident_then : {r : Result Figure} → Small r
      → SameEntry d (head_then (head_on d (to_number r)) (rest_then d before))
      (bind r λ n i. bind (phrase d NAME i) λ name i. bind (phrase d LABEL i) λ label i. bind (type d i) λ s i. bind
      (position d i) λ p i. bind (content d p before s i) λ c i.
      bind (statement d END i) λ a i. bind (word d VARIABLE i) λ a. held (variable_of n name label p c))
  unfolding head_on past_number join_head join_titles
  ident_then (small {x = x} {m = m} e) = rw (phrase_on d (Is m m) NAME) (name_then x m e (phrase d NAME m))
  ident_then unread = stops

module _ (d : List ℕ) (met : ℕ → Bool) (earlier : List Variable)
    (knows : (n : ℕ) → met n ≡ some_of (λ v. eqb v.ident.value n) earlier) where
  pub entry_on : {A : Type 0} (r : Result A)
      → SameEntry d (entry_of d (to_reading r) met (length earlier) (lines_all earlier)) (bind r λ a. variable d earlier)
  unfolding entry_of variable
  entry_on (Is a n) = rw (ident_on_lem d met earlier knows (Is a n)) (ident_then d (lines_all earlier) (ident_small d earlier n))
  entry_on (Not f) = rw (ident_on_lem d met earlier knows {A = ℕ} (Not f)) (ident_then d (lines_all earlier) unread)
