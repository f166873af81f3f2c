-- THE CODE'S BOOKS, which contracts inside the library name; crate `bridge` proves them equal to the rule of crate `reading`.
-- A variable is VARIABLE id, NAME, LABEL, TYPE, POSITION a [TO b], then what its type has.
use Rattle.std.specs.Prelude.{ℕ, List, Ok, Err}
use Rattle.tokens.specs.Token.{past_number, past_string}
use Rattle.statements.specs.declared.Typed.{Typed}
use Rattle.statements.specs.declared.Typed.TheVariants as typed
use Rattle.statements.specs.rule.Words.{NAME, LABEL}
use Rattle.statements.specs.Note.{text_on}
use Rattle.statements.specs.Kinds.{type_on}
use Rattle.statements.specs.Position.{position_on}
use Rattle.tokens.specs.rule.Gap.{OrFault}
use Rattle.variables.specs.declared.Titles.{Titles}
use Rattle.statements.specs.declared.Position.{Position}
use Rattle.tokens.specs.declared.Figures.{Figures}
use Rattle.variables.specs.declared.Head.{Head}
use Rattle.tokens.specs.declared.Quoted.{Quoted}

unfoldable pub past_type : Typed → OrFault ℕ
past_type (typed.Is k n) = Ok n
past_type (typed.Not f) = Err f

unfoldable pub join_titles : OrFault Figures → OrFault Quoted → OrFault Quoted → OrFault Titles
join_titles (Err f) n l = Err f
join_titles (Ok x) (Err f) l = Err f
join_titles (Ok x) (Ok n) (Err f) = Err f
join_titles (Ok x) (Ok n) (Ok l) = Ok (record { ident = x.size; name = n; label = l })

unfoldable pub join_head : OrFault Titles → Typed → OrFault Position → OrFault Head
join_head (Err f) k p = Err f
join_head (Ok x) (typed.Not f) p = Err f
join_head (Ok x) (typed.Is k n) (Err f) = Err f
join_head (Ok x) (typed.Is k n) (Ok q) = Ok (record {
  ident = x.ident;
  name = x.name;
  label = x.label;
  kind = k;
  start = q.start;
  finish = q.finish;
  place = q.place;
  next = q.next;
})

-- NAME, LABEL, TYPE and POSITION behind the ident i
unfoldable pub head_on : List ℕ → OrFault Figures → OrFault Head
head_on d i =
    let n = text_on d (past_number i) NAME in
    let l = text_on d (past_string n) LABEL in
    let k = type_on d (past_string l) in
    let p = position_on d (past_type k) in
    join_head (join_titles i n l) k p
