-- What holds whenever the reader of variables stands before another one, and how it is carried on.
use Rattle.std.specs.Prelude.{Ok}
use mathlib.Core.Path.{◌≡◌, refl, sym, ap, ◌∙◌}
use mathlib.Core.Bool.{Bool, true, false, ◌||◌}
use mathlib.Core.List.{List, []}
use Prim.Native.Nat.{ℕ, ◌+◌, ◌*◌, ◌≤◌, ◌<◌}
use native.Mathlib.Omega.{arith}
use borrow.Author.Tests.{eqb-true, eqb-false}
use lib.Dec.{eqb}
use lib.IntN.{ℤ}
use lib.ListN.{length, set, length-set}
use lib.Seq.{get_or-set_same, get_or-set_other}
use Rattle.below.specs.Below.{or_true}
use Rattle.cells.specs.rule.Cell.{pasted}
use Rattle.cells.specs.Cell.{paste_none}
use Rattle.layout.specs.rule.Layout.{row_size, line_size}
use Rattle.tokens.specs.declared.Fault.{Fault}
use Rattle.tokens.specs.declared.Choice.{Choice}
use Rattle.tokens.specs.declared.Choice.TheVariants.{Taken, Left}
use Rattle.tokens.specs.Token.{choice_of}
use Rattle.statements.specs.rule.Words.{END}
use Rattle.statements.specs.Note.{notes_on}
use Rattle.rows.specs.rule.Cells.{row_cells}
use Rattle.values.specs.Line.{cells_of}
use Rattle.values.proofs.Rooms.{paste_fits}
use Rattle.variables.specs.Ident.{marked}
use Rattle.measures.specs.Survey.{Variable, lines_in, columns_in, lines_all, ident_met, rows_from, all_lines}
use Rattle.measures.specs.Good.{Good, GoodVariable}
use Rattle.measures.specs.Good as good
use Rattle.measures.proofs.Snoc.{added, length_with, lines_with, highest_with, met_with, rows_with, cells_with, rows_length, lines_length}
use Rattle.entries.specs.Entry.{Entry, entry_of}
use Rattle.entries.specs.Entry.{Stored}
use Rattle.entries.specs.Entry as entry
use Rattle.entries.specs.Good.{EntryGood}
use Rattle.entries.proofs.Goods.{entry_good}
use Rattle.laying.specs.declared.Tally.{Tally}
use Rattle.definition.specs.declared.Turn.{Turn}
use Rattle.definition.specs.declared.Turn.TheVariants as turn
use Rattle.definition.specs.declared.Run.TheVariants as run
use Rattle.definition.specs.Books.{Variables, Course, course, end_or, entered, variable_step, variables_from}
use Rattle.definition.specs.Books as variables
use Rattle.laying.specs.Code.{zeros, tally_with}
use Rattle.laying.proofs.Overs.{at_start}
use Rattle.laying.proofs.Zeros.{zero_at}
use Rattle.definition.specs.Code.{tally_of, turn_or, followed, turn_after, RowStored, run_of, Laid, Lacking, in_rows, in_lines}
use Rattle.definition.proofs.Small.{row_ident, row_finish, ident_few}
use Rattle.definition.proofs.Courses.{next_entry, entry_same, from_again, from_done}
use Rattle.built.specs.Nth.{few_rows, few_lines}
use Rattle.tokens.specs.rule.Gap.{OrFault}

pub none : {A : Type 0} → ◌≡◌ {A = ℕ} 0 1 → A
none e = absurd (omega arith)

-- rooms as long as others lack as much
pub lacking_kept : {a b s t : List ℤ} → length a ≡ length b → length s ≡ length t → Lacking a s → Lacking b t
lacking_kept e f (in_rows h) = in_rows (omega (arith, h, e))
lacking_kept e f (in_lines h) = in_lines (omega (arith, h, f))

-- ---- what a turn says of the variable before it
module _ (d : List ℕ) (y : Tally) where
  pub record More (e : Entry) (ident : ℕ) (z : Tally) (t : OrFault ℕ) : Type 0 where
    pub variable : Variable
    pub place : ℕ
    pub entry_is : e ≡ entry.Is variable place
    pub tally_is : z ≡ tally_with y (columns_in y.lines variable) (y.lines + length (lines_in variable))
    pub choice : choice_of d (notes_on d (Ok place)) END ≡ Left
    pub ident_is : ident ≡ (columns_in y.lines variable).ident
    pub onward : t ≡ notes_on d (Ok place)

  pub record Over (e : Entry) (z : Tally) (m : ℕ) : Type 0 where
    pub variable : Variable
    pub place : ℕ
    pub entry_is : e ≡ entry.Is variable place
    pub tally_is : z ≡ tally_with y (columns_in y.lines variable) (y.lines + length (lines_in variable))
    pub choice : choice_of d (notes_on d (Ok place)) END ≡ Taken m

  pub more_of_lem : (e : Entry) (ident : ℕ) (z : Tally) (t : OrFault ℕ) → turn_after d y e ≡ turn.More ident z t → More e ident z t
  unfolding turn_after followed
  more_of_lem (entry.Not f) ident z t i = none cc
  more_of_lem (entry.Is v n) ident z t i = by (choice_of d (notes_on d (Ok n)) END) refl i where
    by : (k : Choice) → choice_of d (notes_on d (Ok n)) END ≡ k
        → turn_or (columns_in y.lines v).ident (tally_with y (columns_in y.lines v) (y.lines + length (lines_in v))) (notes_on d (Ok n)) k
        ≡ turn.More ident z t → More (entry.Is v n) ident z t
    by (Taken m) e j = none cc
    by Left e j =
        let a : (columns_in y.lines v).ident ≡ ident = cc in
        let b : tally_with y (columns_in y.lines v) (y.lines + length (lines_in v)) ≡ z = cc in
        let o : notes_on d (Ok n) ≡ t = cc in
        record { variable = v; place = n; entry_is = refl; tally_is = sym b; choice = e; ident_is = sym a; onward = sym o }

  pub over_of : (e : Entry) (z : Tally) (m : ℕ) → turn_after d y e ≡ turn.Over z m → Over e z m
  unfolding turn_after followed
  over_of (entry.Not f) z m i = none cc
  over_of (entry.Is v n) z m i = by (choice_of d (notes_on d (Ok n)) END) refl i where
    by : (k : Choice) → choice_of d (notes_on d (Ok n)) END ≡ k
        → turn_or (columns_in y.lines v).ident (tally_with y (columns_in y.lines v) (y.lines + length (lines_in v))) (notes_on d (Ok n)) k
        ≡ turn.Over z m → Over (entry.Is v n) z m
    by (Taken o) e j =
        let a : o ≡ m = cc in
        let b : tally_with y (columns_in y.lines v) (y.lines + length (lines_in v)) ≡ z = cc in
        record { variable = v; place = n; entry_is = refl; tally_is = sym b; choice = e ∙ ap Taken a }
    by Left e j = none cc

  pub not_of : (e : Entry) (f : Fault) → turn_after d y e ≡ turn.Not f → e ≡ entry.Not f
  unfolding turn_after followed
  not_of (entry.Not g) f i = let o : g ≡ f = cc in ap entry.Not o
  not_of (entry.Is v n) f i = by (choice_of d (notes_on d (Ok n)) END) i where
    by : (k : Choice) → turn_or (columns_in y.lines v).ident (tally_with y (columns_in y.lines v) (y.lines + length (lines_in v)))
        (notes_on d (Ok n)) k ≡ turn.Not f → entry.Is v n ≡ entry.Not f
    by (Taken m) j = none cc
    by Left j = none cc

or_false : (b : Bool) → b ≡ (b || false)
or_false true = refl
or_false false = refl

-- ---- THE INVARIANT
pub record Ran (d : List ℕ) (t₀ : OrFault ℕ) (rows₀ lines₀ : List ℤ) (at : OrFault ℕ) (y : Tally) (seen : List ℕ) (rows lines : List ℤ) :
    Type 0
  where
    pub read : List Variable
    pub same : variables_from d (course t₀ []) ≡ variables_from d (course at read)
    pub tally : y ≡ tally_of read
    pub met : (n : ℕ) → n < 10000 → marked seen n ≡ ident_met read n
    pub rows_are : rows ≡ pasted rows₀ 0 (rows_from 0 read)
    pub lines_are : lines ≡ pasted lines₀ 0 (all_lines read)
    pub good : Good read
    pub seen_long : length seen ≡ 10000

pub ran_none : (d : List ℕ) (t : OrFault ℕ) (rows lines : List ℤ) (seen : List ℕ) (y : Tally) → seen ≡ zeros 10000 → length seen ≡ 10000 → y
    ≡ tally_of [] → Ran d t rows lines t y seen rows lines
unfolding ident_met rows_from all_lines
ran_none d t rows lines seen y e h q = record {
  read = [];
  same = refl;
  tally = q;
  met = λ n l. rw (e, zero_at 10000 n);
  rows_are = paste_none rows 0;
  lines_are = paste_none lines 0;
  good = good.none;
  seen_long = h;
}

module _ (d : List ℕ) (t₀ : OrFault ℕ) (rows₀ lines₀ : List ℤ) (at : OrFault ℕ) (y : Tally) (seen : List ℕ) (rows lines : List ℤ)
    (l : List Variable)
    (same : variables_from d (course t₀ []) ≡ variables_from d (course at l))
    (tally : y ≡ tally_of l)
    (met : (n : ℕ) → n < 10000 → marked seen n ≡ ident_met l n)
    (rows_are : rows ≡ pasted rows₀ 0 (rows_from 0 l))
    (lines_are : lines ≡ pasted lines₀ 0 (all_lines l))
    (sound : Good l)
    (seen_long : length seen ≡ 10000)
  where
    abbrev here : Entry
    here = entry_of d at (marked seen) y.rows y.lines

    pub few_here : (y.rows ≤ 512) × (y.lines ≤ 4096)
    unfolding tally_of
    few_here = rw tally (few_rows sound, few_lines sound)

    entry_here : here ≡ next_entry d (course at l)
    unfolding tally_of
    entry_here = entry_same d at (marked seen) (ident_met l) (met) y.rows y.lines ∙ rw tally

    pub not_here : (f : Fault) → turn_after d y here ≡ turn.Not f → variables_from d (course t₀ []) ≡ variables.Not f
    unfolding variable_step
    not_here f i = same ∙ from_done d (course at l) (variables.Not f) (rw (sym entry_here ∙ not_of d y here f i))

    -- one variable more
    module _ (v : Variable) (n : ℕ) (e : here ≡ entry.Is v n) (long : length d ≤ 1048576) (wide : row_size * length l ≤ length rows₀)
        (many : line_size * lines_all l ≤ length lines₀) where
      read_good : EntryGood (marked seen) y.rows y.lines v
      read_good = entry_good d at (marked seen) y.rows y.lines v n long few_here.1 e

      pub ident_small : (columns_in y.lines v).ident < 10000
      ident_small = omega (arith, ident_few y.lines v read_good.good)

      fresh : ident_met l v.head.ident ≡ false
      fresh = sym (met v.head.ident (rw (← row_ident y.lines v read_good.good) ident_small)) ∙ read_good.fresh

      pub good_more : Good (added l v)
      unfolding tally_of
      good_more = good.more sound (rw tally at read_good.good) fresh (rw tally at read_good.left)

      pub again_here : choice_of d (notes_on d (Ok n)) END ≡ Left → variables_from d (course t₀ [])
          ≡ variables_from d (course (notes_on d (Ok n)) (added l v))
      unfolding variable_step
      again_here k = same ∙ from_again d (course at l) (course (notes_on d (Ok n)) (added l v)) (rw (sym entry_here ∙ e, k))

      pub over_here : (m : ℕ) → choice_of d (notes_on d (Ok n)) END ≡ Taken m → variables_from d (course t₀ []) ≡ variables.Is (added l v) m
      unfolding variable_step
      over_here m k = same ∙ from_done d (course at l) (variables.Is (added l v) m) (rw (sym entry_here ∙ e, k))

      pub left_here : y.rows < 512
      left_here = read_good.left

      pub tally_more : (z : Tally) → z ≡ tally_with y (columns_in y.lines v) (y.lines + length (lines_in v)) → z ≡ tally_of (added l v)
      unfolding tally_of tally_with
      tally_more z q = q ∙ rw (
        tally,
        length_with l v,
        lines_with l v,
        highest_with l v,
        row_finish (lines_all l) v (rw tally at read_good.good),
      )

      pub rows_more : (end : List ℤ) → RowStored y here rows end → end ≡ pasted rows₀ 0 (rows_from 0 (added l v))
      unfolding tally_of
      rows_more end s =
          let z : 0 + lines_all l ≡ lines_all l = omega arith in
          let k : length (rows_from 0 l) ≡ row_size * length l = rows_length 0 l in
          s.row_stored e
          ∙ rw (rows_are, tally, rows_with 0 l v, z)
          (at_start rows₀ (rows_from 0 l) (row_cells (columns_in (lines_all l) v)) (row_size * length l) (sym k)
          (omega (arith, k, wide)))

      pub lines_more : (end : List ℤ) → Stored y.lines here lines end → end ≡ pasted lines₀ 0 (all_lines (added l v))
      unfolding tally_of
      lines_more end s =
          let k : length (all_lines l) ≡ line_size * lines_all l = lines_length l in
          s.stored e
          ∙ rw (lines_are, tally, cells_with l v)
          (at_start lines₀ (all_lines l) (cells_of (lines_in v)) (line_size * lines_all l) (sym k) (omega (arith, k, many)))

      pub met_more : (k : ℕ) → k < 10000 → marked (set seen (columns_in y.lines v).ident 1) k ≡ ident_met (added l v) k
      met_more k h =
          let i = (columns_in y.lines v).ident in
          let e : i ≡ v.head.ident = row_ident y.lines v read_good.good in
          by i e (eqb v.head.ident k) refl ∙ sym (met_with l v k)
        where
          by : (i : ℕ) → i ≡ v.head.ident → (b : Bool) → eqb v.head.ident k ≡ b → marked (set seen i 1) k ≡ (ident_met l k || b)
          by i q true f =
              let j : k ≡ i = sym (eqb-true v.head.ident k f) ∙ sym q in
              rw (j, get_or-set_same seen i 1 0 (omega arith)) (sym (or_true (ident_met l i)))
          by i q false f =
              let j : k ≡ i → ⊥ = λ w. eqb-false v.head.ident k f (sym (w ∙ q)) in
              rw (get_or-set_other seen i k 1 0 j) (met k h ∙ or_false (ident_met l k))

-- ---- carried on: another variable, the END behind the last, a refusal
module _ (d : List ℕ) (t₀ : OrFault ℕ) (rows₀ lines₀ : List ℤ) (at : OrFault ℕ) (y : Tally) (seen : List ℕ) (rows lines : List ℤ)
    (r : Ran d t₀ rows₀ lines₀ at y seen rows lines)
    (long : length d ≤ 1048576) (rows-kept : length rows ≡ length rows₀) (lines-kept : length lines ≡ length lines₀) where
  abbrev entry_now : Entry
  entry_now = entry_of d at (marked seen) y.rows y.lines

  -- the rooms are long enough for what stands in them
  wide : row_size * length r.read ≤ length rows₀
  wide = omega (
    arith,
    paste_fits rows₀ (rows_from 0 r.read) 0 (omega arith) (sym (ap length r.rows_are) ∙ rows-kept),
    rows_length 0 r.read,
  )

  many : line_size * lines_all r.read ≤ length lines₀
  many = omega (
    arith,
    paste_fits lines₀ (all_lines r.read) 0 (omega arith) (sym (ap length r.lines_are) ∙ lines-kept),
    lines_length r.read,
  )

  pub lines_fit : line_size * y.lines ≤ length lines
  unfolding tally_of
  lines_fit = omega (arith, many, lines-kept, ap (λ (z : Tally). z.lines) r.tally)

  pub ran_few : (y.rows ≤ 512) × (y.lines ≤ 4096)
  ran_few = few_here d t₀ rows₀ lines₀ at y seen rows lines r.read r.same r.tally r.met r.rows_are r.lines_are r.good
      r.seen_long

  pub record Onward (ident : ℕ) (z : Tally) (t : OrFault ℕ) (rows' lines' : List ℤ) : Type 0 where
    pub small : ident < 10000
    pub further : z.rows ≡ y.rows + 1
    pub left : y.rows < 512
    pub ran : Ran d t₀ rows₀ lines₀ t z (set seen ident 1) rows' lines'

  module _ (w : Turn) (rows' lines' : List ℤ) (says : w ≡ turn_after d y entry_now) (row : RowStored y entry_now rows rows')
      (line : Stored y.lines entry_now lines lines') where
    pub ran_more : (ident : ℕ) (z : Tally) (t : OrFault ℕ) → w ≡ turn.More ident z t → Onward ident z t rows' lines'
    unfolding tally_with
    ran_more ident z t e =
        let m = more_of_lem d y entry_now ident z t (sym says ∙ e) in
        let v = m.variable in
        let n = m.place in
        let i = m.entry_is in
        let l = r.read in
        let small : (columns_in y.lines v).ident < 10000 =
        ident_small d t₀ rows₀ lines₀ at y seen rows lines l r.same r.tally r.met r.rows_are r.lines_are r.good
        r.seen_long v n i long wide many in
        record {
          small = rw m.ident_is small;
          further = ap (λ (q : Tally). q.rows) m.tally_is;
          left = left_here d t₀ rows₀ lines₀ at y seen rows lines l r.same r.tally r.met r.rows_are r.lines_are r.good
              r.seen_long v n i long wide many;
          ran = record {
            read = added l v;
            same = again_here d t₀ rows₀ lines₀ at y seen rows lines l r.same r.tally r.met r.rows_are r.lines_are r.good
                r.seen_long v n i long wide many m.choice
                ∙ ap (λ (q : OrFault ℕ). variables_from d (course q (added l v))) (sym m.onward);
            tally = tally_more d t₀ rows₀ lines₀ at y seen rows lines l r.same r.tally r.met r.rows_are r.lines_are r.good
                r.seen_long v n i long wide many z m.tally_is;
            met = λ k h. ap (λ (q : ℕ). marked (set seen q 1) k) m.ident_is
                ∙ (met_more d t₀ rows₀ lines₀ at y seen rows lines l r.same r.tally r.met r.rows_are r.lines_are r.good
                r.seen_long v n i long wide many k h);
            rows_are = rows_more d t₀ rows₀ lines₀ at y seen rows lines l r.same r.tally r.met r.rows_are r.lines_are
                r.good r.seen_long v n i long wide many rows' row;
            lines_are = lines_more d t₀ rows₀ lines₀ at y seen rows lines l r.same r.tally r.met r.rows_are r.lines_are
                r.good r.seen_long v n i long wide many lines' line;
            good = good_more d t₀ rows₀ lines₀ at y seen rows lines l r.same r.tally r.met r.rows_are r.lines_are r.good
                r.seen_long v n i long wide many;
            seen_long = length-set seen ident 1 ∙ r.seen_long;
          };
        }

    -- all variables are read
    pub record Ended (z : Tally) (m : ℕ) : Type 0 where
      pub all : List Variable
      pub are : variables_from d (course t₀ []) ≡ variables.Is all m
      pub tally_are : z ≡ tally_of all
      pub rows_end : rows' ≡ pasted rows₀ 0 (rows_from 0 all)
      pub lines_end : lines' ≡ pasted lines₀ 0 (all_lines all)

    pub ran_over : (z : Tally) (m : ℕ) → w ≡ turn.Over z m → Ended z m
    ran_over z m e =
        let o = over_of d y entry_now z m (sym says ∙ e) in
        let v = o.variable in
        let n = o.place in
        let i = o.entry_is in
        let l = r.read in
        record {
          all = added l v;
          are = over_here d t₀ rows₀ lines₀ at y seen rows lines l r.same r.tally r.met r.rows_are r.lines_are r.good
              r.seen_long v n i long wide many m o.choice;
          tally_are = tally_more d t₀ rows₀ lines₀ at y seen rows lines l r.same r.tally r.met r.rows_are r.lines_are
              r.good r.seen_long v n i long wide many z o.tally_is;
          rows_end = rows_more d t₀ rows₀ lines₀ at y seen rows lines l r.same r.tally r.met r.rows_are r.lines_are r.good
              r.seen_long v n i long wide many rows' row;
          lines_end = lines_more d t₀ rows₀ lines₀ at y seen rows lines l r.same r.tally r.met r.rows_are r.lines_are
              r.good r.seen_long v n i long wide many lines' line;
        }

    pub run_over : (z : Tally) (m : ℕ) → w ≡ turn.Over z m → run.Is z m ≡ run_of (variables_from d (course t₀ []))
    unfolding run_of
    run_over z m e = let o = ran_over z m e in ap (λ (q : Tally). run.Is q m) o.tally_are ∙ ap run_of (sym o.are)

    pub laid_over : (z : Tally) (m : ℕ) → w ≡ turn.Over z m → Laid (variables_from d (course t₀ [])) rows₀ rows' lines₀ lines'
    laid_over z m e =
        let o = ran_over z m e in
        record {
          rows_laid = λ {l} {m = k} q. o.rows_end
              ∙ ap (λ (a : List Variable). pasted rows₀ 0 (rows_from 0 a)) (same_all o.all l m k (sym o.are ∙ q));
          lines_laid = λ {l} {m = k} q. o.lines_end
              ∙ ap (λ (a : List Variable). pasted lines₀ 0 (all_lines a)) (same_all o.all l m k (sym o.are ∙ q));
        }
      where
        same_all : (a b : List Variable) (m k : ℕ) → variables.Is a m ≡ variables.Is b k → a ≡ b
        same_all a b m k q = cc

    run_refused : (f : Fault) → w ≡ turn.Not f → variables_from d (course t₀ []) ≡ variables.Not f
    run_refused f e = not_here d t₀ rows₀ lines₀ at y seen rows lines r.read r.same r.tally r.met r.rows_are r.lines_are
        r.good r.seen_long f (sym says ∙ e)

    pub run_not : (f : Fault) → w ≡ turn.Not f → run.Not f ≡ run_of (variables_from d (course t₀ []))
    unfolding run_of
    run_not f e = rw (run_refused f e)

    pub laid_not : (f : Fault) → w ≡ turn.Not f → Laid (variables_from d (course t₀ [])) rows₀ rows' lines₀ lines'
    laid_not f e = record {
      rows_laid = λ {l} {m} q. let i : variables.Not f ≡ variables.Is l m = sym (run_refused f e) ∙ q in none cc;
      lines_laid = λ {l} {m} q. let i : variables.Not f ≡ variables.Is l m = sym (run_refused f e) ∙ q in none cc;
    }
