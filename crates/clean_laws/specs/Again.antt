-- THE SAME SURVEY, THE SAME CLEAN TEXT: lines are of kept bytes alone, so a survey that is the same but for places has the same lines.
use Rattle.std.specs.Prelude.{◌≡◌, Bool, List, map, ℕ}
use Rattle.std.proofs.Math.Path.{refl}
use Rattle.std.proofs.Math.Bool.{true, false}
use Rattle.std.proofs.Math.Option.{Option}
use Rattle.statements.specs.rule.Words.{DATE, TIME, ORIGIN, USER, TITLE}
use Rattle.survey.specs.rule.Survey.{KeptText, Range, Line, Block, Spread, Content, Variable, Heading, Survey}
use Rattle.survey.specs.rule.Width.{room_in}
use Rattle.clean_text.specs.rule.Clean.{Token, perhaps, value_line, some_line, range_line, values_lines, spread_line, type_word}
use Rattle.clean_text.specs.rule.Clean.{content_lines, variable_lines, each_variable, standard_line, head_lines, clean_lines, clean_of}
use Rattle.printed.specs.Strings.{SameText}
use Rattle.clean_laws.specs.Same.{Alike, nil, more, Both, neither, either, SameLine, SameRange, SameBlock, SameSpread, SameContent}
use Rattle.clean_laws.specs.Same.{SameVariable, SameHeading, SameSurvey}
use Rattle.clean_laws.specs.Same as same

module _ (d p : List ℕ) where
  perhaps_again : (w : Token) {o o' : Option KeptText} → Both (SameText d p) o o' → perhaps p w o' ≡ perhaps d w o
  perhaps_again w neither = refl
  perhaps_again w (either r) = rw r.span

  lines_again : {l l' : List Line} → Alike (SameLine d p) l l' → map (value_line p) l' ≡ map (value_line d) l
  lines_again nil = refl
  lines_again (more r q) = rw (r.value.span, r.text.span, r.special, lines_again q)

  some_again : {l l' : List Line} → Alike (SameLine d p) l l' → some_line p l' ≡ some_line d l
  some_again nil = refl
  some_again (more r q) = refl

  range_again : {r r' : Option Range} {l l' : List Line} → Both (SameRange d p) r r' → Alike (SameLine d p) l l'
      → range_line p r' l' ≡ range_line d r l
  range_again neither q = refl
  range_again (either r) q = rw (r.from.span, r.to.span, some_again q)

  values_again : {b b' : Block} → SameBlock d p b b' → values_lines p b' ≡ values_lines d b
  unfolding values_lines
  values_again s = rw (range_again s.range s.lines, lines_again s.lines)

  spread_again : {room : ℕ} {s s' : Option Spread} → SameSpread d p room s s' → spread_line p room s' ≡ spread_line d room s
  spread_again same.undivided = refl
  spread_again (same.stated r q) = rw (r.span, q.span)
  spread_again (same.even r e f) = rw (r.span, e)

  type_again : {room : ℕ} {c c' : Content} → SameContent d p room c c' → type_word p c' ≡ type_word d c
  type_again (same.of_single b) = refl
  type_again (same.of_multiple s b) = refl
  type_again (same.of_quantity b) = refl
  type_again (same.of_character x) = refl
  type_again same.of_logical = refl

  content_again : {room : ℕ} {c c' : Content} → SameContent d p room c c' → content_lines p room c' ≡ content_lines d room c
  content_again (same.of_single b) = values_again b
  content_again (same.of_multiple s b) = rw (spread_again s, values_again b)
  content_again (same.of_quantity b) = values_again b
  content_again (same.of_character x) = rw x.span
  content_again same.of_logical = refl

  pub room_again : {v v' : Variable} → SameVariable d p v v' → room_in v' ≡ room_in v
  room_again s = rw (s.finish.value, s.start.value)

  variable_again : {v v' : Variable} → SameVariable d p v v' → variable_lines p v' ≡ variable_lines d v
  unfolding variable_lines
  variable_again {v} {v'} s =
      let e = room_again s in
      let f : content_lines p (room_in v') v'.content ≡ content_lines d (room_in v) v.content = rw e (content_again s.content) in
      rw (s.ident.span, s.name.span, s.label.span, type_again s.content, s.start.span) (rw (s.finish.span, f))

  variables_again : {l l' : List Variable} → Alike (SameVariable d p) l l' → each_variable p l' ≡ each_variable d l
  unfolding each_variable
  variables_again nil = refl
  variables_again (more r q) = rw (variable_again r, variables_again q)

  head_again : {h h' : Heading} → SameHeading d p h h' → head_lines p h' ≡ head_lines d h
  unfolding head_lines
  head_again {h} {h'} s =
      let e : standard_line p h'.standard ≡ standard_line d h.standard = rw s.standard (by h.standard) in
      rw (
        perhaps_again DATE s.date,
        perhaps_again TIME s.time,
        perhaps_again ORIGIN s.origin,
        perhaps_again USER s.user,
      )
      (rw (e, perhaps_again TITLE s.title, s.letter)) where
        by : (q : Bool) → standard_line p q ≡ standard_line d q
        by true = refl
        by false = refl

  pub clean_again : {s s' : Survey} → SameSurvey d p s s' → clean_of p s' ≡ clean_of d s
  unfolding clean_of clean_lines
  clean_again s = rw (head_again s.heading, variables_again s.variables)
