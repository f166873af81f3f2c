-- A definition as a whole, by what the code is told of its parts.
use Rattle.std.specs.Prelude.{Ok, Err}
use mathlib.Core.Path.{◌≡◌, refl, sym, ap, ◌∙◌}
use mathlib.Core.Bool.{Bool}
use mathlib.Core.List.{List, []}
use Prim.Native.Nat.{ℕ, ◌*◌, ◌≤◌}
use native.Mathlib.Omega.{arith}
use borrow.Author.Tests.{le-ltb}
use lib.IntN.{ℤ}
use lib.ListN.{length, take}
use lib.Seq.{take_at}
use Rattle.cells.specs.rule.Cell.{pasted}
use Rattle.layout.specs.rule.Layout.{mark, row_size, line_size, line_base, most_rows, most_lines}
use Rattle.tokens.specs.declared.Fault.{Fault}
use Rattle.heading.specs.Heading.{front_on}
use Rattle.measures.specs.Survey.{Variable, lines_all, rows_from, all_lines, table_of}
use Rattle.measures.proofs.Snoc.{rows_length, lines_length, table_length}
use Rattle.built.specs.Nth.{few_rows, few_lines}
use Rattle.laying.specs.declared.Tally.{Tally}
use Rattle.definition.specs.declared.Run.{Run}
use Rattle.definition.specs.declared.Run.TheVariants as run
use Rattle.laying.specs.declared.Rooms.{Rooms}
use Rattle.laying.specs.declared.Rooms.TheVariants as rooms
use Rattle.definition.specs.Books.{Variables, course, variables_from, ends_on, Read, Whole, Faulty, ended, closed, survey_of}
use Rattle.definition.specs.Books.{Outcome, Built, Refusal, fitting, named, judged, outcome_in, answer_in, table_in}
use Rattle.definition.specs.Books as variables
use Rattle.definition.specs.Code.{tally_of, run_of, Laid, Held, NamesSettled, Standing, RoomsRead, fill_says, compared_by, Lacking}
use Rattle.definition.specs.Code.{in_rows, in_lines}
use Rattle.laying.specs.rule.Begins.{begins_table}
use Rattle.laying.specs.Code.{cells_in, filled_over}
use Rattle.definition.proofs.Bridge.{held_in}
use Rattle.definition.proofs.Settles.{count_is, lines_is, rows_fit, lines_fit, cells_are, says_fit, leaves_fit}
use Rattle.definition.proofs.Goods.{variables_good}
use Rattle.definition.proofs.Lows.{highest_low}
use Rattle.tokens.specs.rule.Gap.{OrFault}

none : {A : Type 0} → ◌≡◌ {A = ℕ} 0 1 → A
none e = absurd (omega arith)

-- rooms for the most rows and lines
pub none_lacking : {rows lines : List ℤ} → length rows ≡ row_size * most_rows → length lines ≡ line_size * most_lines → Lacking rows lines
    → ⊥
none_lacking e f (in_rows h) = omega (arith, h, e)
none_lacking e f (in_lines h) = omega (arith, h, f)

take_pasted : (t s : List ℤ) (n : ℕ) → n ≡ length s → take n (pasted t 0 s) ≡ s
unfolding pasted
take_pasted t s n e = take_at s _ n (sym e)

module _ (d : List ℕ) (long : length d ≤ 1048576) (t : OrFault ℕ) (front : t ≡ (front_on d).next) where
  abbrev all : Variables
  all = variables_from d (course t [])

  survey_is : (v : Variables) → all ≡ v → survey_of d ≡ closed d (front_on d) v
  unfolding survey_of
  survey_is v e = ap (closed d (front_on d)) (ap (λ (q : OrFault ℕ). variables_from d (course q [])) (sym front) ∙ e)

  -- the variables were read
  pub record Stands (y : Tally) (m : ℕ) (rows lines : List ℤ) : Type 0 where
    pub read : List Variable
    pub are : all ≡ variables.Is read m
    pub held : Held read y rows lines

  module _ (q : Run) (rows rows' lines lines' : List ℤ) (says : q ≡ run_of all) (laid : Laid all rows rows' lines lines') where
    pub stands : (y : Tally) (m : ℕ) → q ≡ run.Is y m → Stands y m rows' lines'
    unfolding run_of
    stands y m e = by all refl (sym says ∙ e) where
      by : (v : Variables) → all ≡ v → run_of v ≡ run.Is y m → Stands y m rows' lines'
      by (variables.Is l k) i j =
          let a : tally_of l ≡ y = cc in
          let b : k ≡ m = cc in
          record {
            read = l;
            are = i ∙ ap (variables.Is l) b;
            held = record {
              tally = sym a;
              rows_held = ap (take (row_size * length l)) (laid.rows_laid i)
                  ∙ take_pasted rows (rows_from 0 l) (row_size * length l) (sym (rows_length 0 l));
              lines_held = ap (take (line_size * lines_all l)) (laid.lines_laid i)
                  ∙ take_pasted lines (all_lines l) (line_size * lines_all l) (sym (lines_length l));
              good = ((variables_good d long t).all i).0;
            };
          }
      by (variables.Not f) i j = none cc

    pub small_here : (y : Tally) (m : ℕ) → q ≡ run.Is y m → (y.rows ≤ 512) × (y.lines ≤ 4096) × (y.length ≤ 16384)
    unfolding tally_of
    small_here y m e =
        let s = stands y m e in
        rw s.held.tally (few_rows s.held.good, few_lines s.held.good, highest_low s.held.good)

    pub stands_fit : (y : Tally) (m : ℕ) → q ≡ run.Is y m → row_size * y.rows ≤ length rows'
    stands_fit y m e = let s = stands y m e in rows_fit d y rows' lines' s.read s.held

    module _ (n : ℕ) where
      -- and the ENDs behind them
      ends_here : (y : Tally) (m k : ℕ) (r : OrFault ℕ) (e : q ≡ run.Is y m) → r ≡ ends_on d m → r ≡ Ok k → judged d n (survey_of d)
          ≡ named d n (front_on d).heading.standard (stands y m e).read
      ends_here y m k r e a b = let s = stands y m e in ap (judged d n) (survey_is (variables.Is s.read m) s.are) ∙ rw (sym a ∙ b)

      ends_not : (y : Tally) (m : ℕ) (r : OrFault ℕ) (g : Fault) → q ≡ run.Is y m → r ≡ ends_on d m → r ≡ Err g → judged d n (survey_of d)
          ≡ Refusal g.number g.place
      ends_not y m r g e a b = let s = stands y m e in ap (judged d n) (survey_is (variables.Is s.read m) s.are) ∙ rw (sym a ∙ b)

      run_not : (g : Fault) → q ≡ run.Not g → judged d n (survey_of d) ≡ Refusal g.number g.place
      unfolding run_of
      run_not g e = by all refl (sym says ∙ e) where
        by : (v : Variables) → all ≡ v → run_of v ≡ run.Not g → judged d n (survey_of d) ≡ Refusal g.number g.place
        by (variables.Is l k) i j = none cc
        by (variables.Not h) i j = let o : h ≡ g = cc in ap (judged d n) (survey_is (variables.Not h) i) ∙ rw o

    -- what the rooms come to
    pub rooms_here : (y : Tally) (m k : ℕ) (r : OrFault ℕ) (standard : Bool) (o : Rooms) → q ≡ run.Is y m → r ≡ ends_on d m → r ≡ Ok k
        → standard ≡ (front_on d).heading.standard → NamesSettled d standard y rows' o → RoomsRead d rows' lines' o
    rooms_here y m k r standard o e a b f j = record {
      stands = λ {y = z} i.
          let s = stands y m e in
          let p = j.passes i s.read lines' s.held in record {
            read = s.read;
            held = rw p.0 s.held;
            few = rw p.0 (small_here y m e);
            outcome = λ n. ends_here n y m k r e a b ∙ rw (← f) (p.1 n);
          };
      refuses = λ {k = u} {p = v} i n.
          let s = stands y m e in
          ends_here n y m k r e a b ∙ rw (← f) (j.fails i s.read lines' s.held n);
    }

    refused_here : (g : Fault) → ((n : ℕ) → judged d n (survey_of d) ≡ Refusal g.number g.place)
        → RoomsRead d rows' lines' (rooms.Refused g.number g.place)
    refused_here g h = record {
      stands = λ i. none cc;
      refuses = λ {k = u} {p = v} i n.
          let a : g.number ≡ u = cc in
          let b : g.place ≡ v = cc in
          h n ∙ rw (a, b);
    }

    pub rooms_ends : (y : Tally) (m : ℕ) (r : OrFault ℕ) (g : Fault) → q ≡ run.Is y m → r ≡ ends_on d m → r ≡ Err g
        → RoomsRead d rows' lines' (rooms.Refused g.number g.place)
    rooms_ends y m r g e a b = refused_here g (λ n. ends_not n y m r g e a b)

    pub rooms_not : (g : Fault) → q ≡ run.Not g → RoomsRead d rows' lines' (rooms.Refused g.number g.place)
    rooms_not g e = refused_here g (λ n. run_not n g e)

-- ---- what is done with them
module _ (d : List ℕ) (rows lines : List ℤ) (y : Tally) (s : Standing d rows lines y) where
  pub rooms_fit : (row_size * y.rows ≤ length rows) × (line_size * y.lines ≤ length lines)
  rooms_fit = (rows_fit d y rows lines s.read s.held, lines_fit d y rows lines s.read s.held)

  pub filled_says : (t : List ℤ) → fill_says y (length t) ≡ answer_in (judged d (length t) (survey_of d))
  filled_says t = says_fit d y rows lines s.read s.held t ∙ ap answer_in (sym (s.outcome (length t)))

  pub filled_leaves : (t : List ℤ) → filled_over mark y rows lines t ≡ table_in (judged d (length t) (survey_of d)) t
  filled_leaves t = leaves_fit d y rows lines s.read s.held t ∙ ap (λ (w : Outcome). table_in w t) (sym (s.outcome (length t)))

  -- a table of any definition has room enough
  any_fits : fitting (line_base most_rows most_lines) s.read ≡ Built s.read
  unfolding fitting
  any_fits =
      let f : length (table_of s.read) ≤ line_base most_rows most_lines =
      omega (
        arith,
        table_length s.read,
        s.few.0,
        s.few.1,
        count_is d y rows lines s.read s.held,
        lines_is d y rows lines s.read s.held,
      ) in
      rw (le-ltb (line_base most_rows most_lines) (length (table_of s.read)) f)

  pub held_says : (t : List ℤ) → compared_by (begins_table (cells_in mark y rows lines) t)
      ≡ held_in (judged d (line_base most_rows most_lines) (survey_of d)) t
  unfolding compared_by held_in
  held_says t = rw (cells_are d y rows lines s.read s.held)
      (sym (ap (λ (w : Outcome). held_in w t) (s.outcome (line_base most_rows most_lines) ∙ any_fits)))
