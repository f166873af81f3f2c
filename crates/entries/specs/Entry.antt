-- THE CODE'S BOOKS, which contracts inside the library name; crate `bridge` proves them equal to the rule of crate `reading`.
-- A variable: VARIABLE id, NAME, LABEL, TYPE, POSITION a [TO b], then by type, then END VARIABLE; its width is judged after that.
use Rattle.std.specs.Prelude.{Bool, cond, List, ℕ, ◌+◌, ◌-◌, ◌*◌, ◌≤◌, ◌≡◌, ℤ, length, Ok, Err}
use Rattle.tokens.specs.declared.Fault.{Fault}
use Rattle.tokens.specs.rule.Gap.{fault, OrFault}
use Rattle.tokens.specs.Token.{word_on}
use Rattle.statements.specs.rule.Words.{END, VARIABLE}
use Rattle.statements.specs.Note.{statement_on}
use Rattle.variables.specs.declared.Head.{Head}
use Rattle.variables.specs.Ident.{ident_on}
use Rattle.variables.specs.Head.{head_on}
use Rattle.variables.specs.Rest.{Telling, Told, rest_of}
use Rattle.variables.specs.Rest as told
use Rattle.measures.specs.Survey.{Variable, holds_in, lines_in, columns_in}
use Rattle.cells.specs.rule.Cell.{pasted}
use Rattle.layout.specs.rule.Layout.{line_size}
use Rattle.values.specs.Line.{cells_of}
use Rattle.variables.specs.declared.Rest.{Rest}
use Rattle.measures.specs.Width.{measured}
use Rattle.entries.specs.declared.Stood.{Stood}
use Rattle.entries.specs.declared.Stood.TheVariants as stood
use Rattle.layout.specs.declared.Columns.{Columns}

-- a variable, and the place after its END VARIABLE; or a refusal
pub data Entry : Type 0 where
  Is : Variable → ℕ → Entry
  Not : Fault → Entry

abbrev pub variable : Head → Telling → Variable
variable h x = record { head = h; rest = x }

unfoldable pub end_variable : List ℕ → ℕ → OrFault ℕ
end_variable d n = word_on d (statement_on d (Ok n) END) VARIABLE

abbrev pub ended : OrFault ℕ → (ℕ → Entry) → Entry
ended (Ok n) k = k n
ended (Err f) k = Not f

abbrev pub told_then : Told → (Telling → Entry) → Entry
told_then (told.Is x) k = k x
told_then (told.Not f) k = Not f

-- 7 at the first POSITION number where the position is too narrow
unfoldable pub held_by : ℕ → Variable → ℕ → Entry
held_by before v n = cond (holds_in before v) (Is v n) (Not (fault 7 v.head.place))

-- what stands behind the position, where `before` lines stand before its own
unfoldable pub rest_then : List ℕ → ℕ → Head → Entry
rest_then d before h =
    told_then (rest_of d before h.kind (Ok h.next) (h.finish + 1 - h.start)) λ x.
    ended (end_variable d x.next) λ n.
    held_by before (variable h x) n

abbrev pub head_then : OrFault Head → (Head → Entry) → Entry
head_then (Ok h) k = k h
head_then (Err f) k = Not f

-- `met` says of a number whether it is the ident of one of the `count` variables before
unfoldable pub entry_of : List ℕ → OrFault ℕ → (ℕ → Bool) → ℕ → ℕ → Entry
entry_of d t met count before = head_then (head_on d (ident_on d t met count)) (rest_then d before)

-- what is known of the statements before: the type is one of five, the position lies where positions may
pub record GoodHead (h : Head) : Type 0 where
  pub kind_some : 1 ≤ h.kind
  pub kind_few : h.kind ≤ 5
  pub from_one : 1 ≤ h.start
  pub ordered : h.start ≤ h.finish
  pub low : h.finish ≤ 16384

-- ---- what the code gives back of it: the columns, how many lines there are in all, and the lines in the room
unfoldable pub stood_of : ℕ → Entry → Stood
stood_of before (Is v n) = stood.Is (columns_in before v) (before + length (lines_in v)) n
stood_of before (Not f) = stood.Not f

pub record Stored (before : ℕ) (e : Entry) (room end : List ℤ) : Type 0 where
  pub stored : {v : Variable} {n : ℕ} → e ≡ Is v n → end ≡ pasted room (line_size * before) (cells_of (lines_in v))

-- by the columns and lines in the room
abbrev pub measured_at : OrFault Columns → ℕ → ℕ → Stood
measured_at (Ok c) last n = stood.Is c last n
measured_at (Err f) last n = stood.Not f

abbrev pub settled_by : (ℕ → ℤ) → Head → Rest → ℕ → OrFault ℕ → Stood
settled_by f h r before (Ok n) = measured_at (measured f h r before) r.last n
settled_by f h r before (Err g) = stood.Not g
