-- What holds whenever the reader of variables stands before another one, and how it is carried on.
use mathlib.Core.Path.{◌≡◌, refl, ◌∙◌, sym, ap}
use mathlib.Core.Bool.{Bool, true, false, ◌||◌}
use mathlib.Core.List.{List, [], ◌∷◌, ◌++◌}
use Prim.Native.Nat.{ℕ, zero, suc, ◌+◌, ◌-◌, ◌*◌, ◌≤◌, ◌<◌, max}
use native.Mathlib.Omega.{arith}
use lib.Dec.{eqb}
use lib.IntN.{ℤ, pos}
use lib.ListN.{length, take, drop, get_or, set, length-set, length-append, get_or-append}
use lib.Seq.{get_or-set_same, get_or-set_other, get_or-take, length-take-le}
use borrow.Author.Tests.{eqb-true, eqb-false}
use Rattle.below.specs.Below.{or_true}
use Rattle.cells.specs.rule.Cell.{cell, count_of, pasted}
use Rattle.layout.specs.rule.Layout.{row_size, line_size, most_rows, most_lines}
use Rattle.layout.specs.declared.Columns.{Columns}
use Rattle.scan.specs.rule.Loop.{Next, Again, Done}
use Rattle.tokens.specs.declared.Fault.{Fault}
use Rattle.rows.specs.rule.Cells.{row_cells}
use Rattle.variables.specs.Ident.{marked}
use Rattle.survey.specs.rule.Survey.{KeptText, Variable}
use Rattle.survey.specs.rule.Width.{some_of, finish_in}
use Rattle.survey.specs.rule.Table.{variable_columns, lines_of, lines_all, highest_in, cells_of, all_lines}
use Rattle.reading.specs.rule.Result.{Result, Is, Not, Reader, bind, turn, repeat}
use Rattle.bridge.specs.Lowest.{never}
use Rattle.xml_reading.specs.rule.Word.{VARIABLE, RECORD}
use Rattle.xml_reading.specs.rule.Open.{start, within_element, due}
use Rattle.xml_reading.specs.rule.Role.{XmlEntry, variables_of}
use Rattle.xml_reading.specs.rule.Variable.{Manner, variable}
use Rattle.xml_reading.specs.rule.Sheet.{another_element, variables}
use Rattle.xml_reading.specs.rule.Whole.{columns_for, xml_rows}
use Rattle.laying.specs.declared.Tally.{Tally}
use Rattle.laying.specs.Code.{zeros, tally_with}
use Rattle.laying.proofs.Zeros.{zero_at}
use Rattle.filters.specs.Code.{RowsOf, Idents, Lying, column_in, name_in}
use Rattle.filters.specs.Sums.{sum_in, bin_of, Summing}
use Rattle.filters.proofs.Asked.{above}
use Rattle.filters.proofs.Storing.{rows_none, rows_more}
use Rattle.xml_bridge.specs.Table.{FineEntries, nothing, more, entries_few}
use Rattle.xml_laws.specs.Entries.{due_is, Read, entry_read}
use Rattle.xml_laws.specs.Sheets.{Named, none_named, more_named}
use Rattle.xml_files.specs.declared.Turn.{Turn}
use Rattle.xml_files.specs.declared.Turn.TheVariants as turns
use Rattle.xml_files.specs.declared.Run.{Run}
use Rattle.xml_files.specs.declared.Run.TheVariants as run
use Rattle.sheets.specs.Code.{tally_of, Before, Sofar}
use Rattle.xml_files.specs.Code.{Fails, Added, Over, OneMore, Turned, run_of, Laid}
use Rattle.sheets.proofs.Few.{few}
use Rattle.sheets.proofs.Rows9.{lies}
use Rattle.xml_files.proofs.Turns.{another_more, another_over}
use Rattle.xml_files.proofs.Lists.{ident_few, variables_with, lines_with, highest_with, cells_with, cells_long, some_with}
use Rattle.xml_files.proofs.Lists.{take_pasted}

-- ---- where the rule's reader stands: before the first variable, or with turns enough left (the 513th variable is refused)
module _ (bad : Bool) (d : List ℕ) (m : Manner) (at₀ : ℕ) where
  pub data From : List XmlEntry → ℕ → Type 0 where
    first : From [] at₀
    later : {l : List XmlEntry} {at : ℕ} (f : ℕ) → 1 ≤ length l → most_rows < f + length l → variables bad d m at₀
        ≡ repeat f (another_element bad d m) l at → From l at

  repeat_again : (f : ℕ) (l k : List XmlEntry) (at n : ℕ) → another_element bad d m l at ≡ Is (Again k) n
      → repeat (suc f) (another_element bad d m) l at
      ≡ repeat f (another_element bad d m) k n
  unfolding repeat
  repeat_again f l k at n e = rw e

  repeat_done : (f : ℕ) (l k : List XmlEntry) (at n : ℕ) → another_element bad d m l at ≡ Is (Done k) n
      → repeat (suc f) (another_element bad d m) l at
      ≡ Is k n
  unfolding repeat
  repeat_done f l k at n e = rw e

  repeat_not : (f : ℕ) (l : List XmlEntry) (at : ℕ) (g : Fault) → another_element bad d m l at ≡ Not g
      → repeat (suc f) (another_element bad d m) l at ≡ Not g
  unfolding repeat
  repeat_not f l at g e = rw e

  bind_stops : {A B C : Type 0} (x : Result A) (g : A → Reader B) (k : B → Reader C) {f : Fault} → bind x g ≡ Not f
      → bind x (λ a n. bind (g a n) k) ≡ Not f
  bind_stops (Is a n) g k e = rw e
  bind_stops (Not h) g k {f} e = let u : h ≡ f = cc in ap Not u

  from_more : (l : List XmlEntry) (at : ℕ) (v : XmlEntry) (n : ℕ) → From l at → length l < most_rows → Added bad d m l at v n
      → From (l ++ v ∷ []) n
  unfolding variables
  from_more l at v n first h a = later {l = v ∷ []} {at = n} (suc most_rows) (omega arith) (omega arith) (rw (a.open_is, a.read))
  from_more l at v n (later zero s e q) h a = absurd (omega arith)
  from_more l at v n (later (suc f) s e q) h a =
      let k = length-append l (v ∷ []) in
      later {l = l ++ v ∷ []} {at = n} f (omega arith) (omega arith)
      (q ∙ repeat_again f l (l ++ v ∷ []) at n (another_more bad d m l at v n a))

  from_over : (l : List XmlEntry) (at n : ℕ) → From l at → length l ≤ most_rows → 1 ≤ length l → Over bad d at n → variables bad d m at₀
      ≡ Is l n
  from_over l at n first h k o = absurd (omega arith)
  from_over l at n (later zero s e q) h k o = absurd (omega arith)
  from_over l at n (later (suc f) s e q) h k o = q ∙ repeat_done f l l at n (another_over bad d m l at n o)

  from_fails : (l : List XmlEntry) (at : ℕ) (g : Fault) → From l at → length l ≤ most_rows → Fails bad d m l at g → variables bad d m at₀
      ≡ Not g
  unfolding variables
  from_fails l at g first h e = bind_stops (within_element bad d RECORD at) (λ o. due bad d VARIABLE o (variable bad d m []))
      (λ v. repeat (suc most_rows) (another_element bad d m) (v ∷ [])) e
  from_fails l at g (later zero s k q) h e = absurd (omega arith)
  from_fails [] at g (later (suc f) s k q) h e = absurd (omega arith)
  from_fails (w ∷ l) at g (later (suc f) s k q) h e = q ∙ repeat_not f (w ∷ l) at g e

-- ---- THE INVARIANT
pub record Ran (bad : Bool) (d : List ℕ) (m : Manner) (at₀ at : ℕ) (y : Tally) (seen : List ℕ) (rows lines : List ℤ) : Type 0 where
  pub read : List XmlEntry
  pub from : From bad d m at₀ read at
  pub before : Before d seen y rows read
  pub lines_are : take (line_size * lines_all (variables_of read)) lines ≡ all_lines (variables_of read)
  pub next : at ≤ length d
  pub seen_long : length seen ≡ 10000

pub ran_none : (bad : Bool) (d : List ℕ) (m : Manner) (at : ℕ) (y : Tally) (seen : List ℕ) (rows lines : List ℤ) → seen ≡ zeros 10000
    → length seen ≡ 10000
    → y ≡ tally_of [] → at ≤ length d → Ran bad d m at at y seen rows lines
unfolding tally_of all_lines lines_all some_of
ran_none bad d m at y seen rows lines e h q k = record {
  read = [];
  from = first;
  before = record {
    tally = q;
    held = rw q (rows_none rows);
    idents = λ n. rw (e, zero_at 10000 n);
    fine = nothing;
    named = none_named;
  };
  lines_are = refl;
  next = k;
  seen_long = h;
}

-- the ident of one more is marked
module _ (seen : List ℕ) (l : List XmlEntry) (v : XmlEntry) (met : Idents seen l) (long : length seen ≡ 10000)
    (small : v.variable.ident.value < 10000) where
  idents_more : Idents (set seen v.variable.ident.value 1) (l ++ v ∷ [])
  idents_more k =
      by (eqb v.variable.ident.value k) refl
      ∙ sym (some_with (λ w. eqb w.ident.value k) (variables_of l) v.variable)
      ∙ ap (λ (s : List Variable). some_of (λ w. eqb w.ident.value k) s) (sym (variables_with l v))
    where
      or_false : (b : Bool) → b ≡ (b || false)
      or_false true = refl
      or_false false = refl

      by : (b : Bool) → eqb v.variable.ident.value k ≡ b
          → marked (set seen v.variable.ident.value 1) k ≡ (some_of (λ w. eqb w.ident.value k) (variables_of l) || b)
      by true f =
          let j : k ≡ v.variable.ident.value = sym (eqb-true v.variable.ident.value k f) in
          rw (j, get_or-set_same seen v.variable.ident.value 1 0 (omega arith))
          (sym (or_true (some_of (λ w. eqb w.ident.value v.variable.ident.value) (variables_of l))))
      by false f =
          let j : k ≡ v.variable.ident.value → ⊥ = λ w. eqb-false v.variable.ident.value k f (sym w) in
          rw (get_or-set_other seen v.variable.ident.value k 1 0 j)
          (met k ∙ or_false (some_of (λ w. eqb w.ident.value k) (variables_of l)))

  idents_as : (i : ℕ) → i ≡ v.variable.ident.value → Idents (set seen i 1) (l ++ v ∷ [])
  idents_as i e = rw e idents_more

pub moved_rows : {rows rows' : List ℤ} {a b : ℕ} {k : List XmlEntry} → rows' ≡ rows → b ≡ a → RowsOf rows a k → RowsOf rows' b k
moved_rows e f h = rw (e, f) h

lines_more : (l : List XmlEntry) (v : XmlEntry) (lines lines' : List ℤ) → lines'
    ≡ pasted lines (line_size * lines_all (variables_of l)) (cells_of (lines_of v.variable))
    → line_size * lines_all (variables_of l) ≤ length lines → take (line_size * lines_all (variables_of l)) lines
    ≡ all_lines (variables_of l)
    → take (line_size * lines_all (variables_of (l ++ v ∷ []))) lines' ≡ all_lines (variables_of (l ++ v ∷ []))
lines_more l v lines lines' q h e =
    let k = line_size * lines_all (variables_of l) in
    let s = cells_of (lines_of v.variable) in
    let c = cells_long (lines_of v.variable) in
    let u : line_size * (lines_all (variables_of l) + length (lines_of v.variable)) ≡ k + length s = omega arith in
    rw (variables_with l v, lines_with (variables_of l) v.variable, cells_with (variables_of l) v.variable, u, q)
    (take_pasted lines s (all_lines (variables_of l)) k h e)

-- the cells before what was written are as they were
cell_pasted : (l s : List ℤ) (at k : ℕ) → at ≤ length l → k < at → cell (pasted l at s) k ≡ cell l k
unfolding pasted
cell_pasted l s at k h q =
    let a = length-take-le at l h in
    let b = length-append (take at l) s in
    get_or-append (take at l ++ s) (drop (at + length s) l) (pos 0) k (omega arith)
    ∙ get_or-append (take at l) s (pos 0) k (omega arith)
    ∙ get_or-take at l k (pos 0) q

-- other rows that say the same of names and filters have the same sums
sums_moved : (latin : Bool) (d : List ℕ) (rows rows' : List ℤ) (count : ℕ) (sums : List ℕ)
    → ((k : ℕ) → k < row_size * count → cell rows' k ≡ cell rows k) → Lying (length d) rows count → Summing latin d rows count sums
    → Summing latin d rows' count sums
sums_moved latin d rows rows' count sums e y s = record {
  room = s.room;
  names = λ i k. s.names i k ∙ ap (sum_in latin d) (sym (named i k));
  served = λ i k n.
      let g = columns i 19 k (omega arith) in
      let m : column_in rows i 19 ≡ 0 → ⊥ = λ z. n (g ∙ z) in
      let a = above (column_in rows i 19) m in
      let b = y.filters i k in
      ap (λ (x : ℕ). get_or sums (bin_of (sum_in latin d (name_in rows' (x - 1)))) 0) g
      ∙ ap (λ (t : KeptText). get_or sums (bin_of (sum_in latin d t)) 0) (named (column_in rows i 19 - 1) (omega arith))
      ∙ s.served i k m;
} where
  columns : (i k : ℕ) → i < count → k < row_size → column_in rows' i k ≡ column_in rows i k
  columns i k h q = ap count_of (e (row_size * i + k) (omega arith))

  named : (i : ℕ) → i < count → name_in rows' i ≡ name_in rows i
  named i h = rw (columns i 14 h (omega arith), columns i 15 h (omega arith))

finish_for : (b : ℕ) (v : XmlEntry) → (columns_for b v).finish ≡ finish_in v.variable
unfolding columns_for variable_columns
finish_for b v = refl

lines_is : (y : Tally) (l : List XmlEntry) → y ≡ tally_of l → y.lines ≡ lines_all (variables_of l)
unfolding tally_of
lines_is y l tally = ap (λ (z : Tally). z.lines) tally

rows_is : (y : Tally) (l : List XmlEntry) → y ≡ tally_of l → y.rows ≡ length l
unfolding tally_of
rows_is y l tally = ap (λ (z : Tally). z.rows) tally

module _ (y : Tally) (l : List XmlEntry) (v : XmlEntry) (tally : y ≡ tally_of l) where
  tally_more : (z : Tally) → z ≡ tally_with y (columns_for y.lines v) (y.lines + length (lines_of v.variable)) → z
      ≡ tally_of (l ++ v ∷ [])
  unfolding tally_of tally_with
  tally_more z q =
      q
      ∙ rw (
        tally,
        length-append l (v ∷ []),
        variables_with l v,
        lines_with (variables_of l) v.variable,
        highest_with (variables_of l) v.variable,
        finish_for (lines_all (variables_of l)) v,
      )

module _ (bad : Bool) (d : List ℕ) (m : Manner) (long : length d ≤ 1048576) (at₀ at : ℕ) (y : Tally) (seen : List ℕ) (rows lines : List ℤ)
    (r : Ran bad d m at₀ at y seen rows lines) (wide : length rows ≡ row_size * most_rows) (many : length lines ≡ line_size * most_lines)
  where
    abbrev l : List XmlEntry
    l = r.read

    rows_few : length l ≤ most_rows
    rows_few = (entries_few r.before.fine).0

    pub ran_sofar : Sofar d seen y rows
    ran_sofar = record { read = l; before = r.before; seen_long = r.seen_long; rows_long = wide }

    pub record Onward (i : ℕ) (z : Tally) (n : ℕ) (rows' lines' : List ℤ) : Type 0 where
      pub small : i < 10000
      pub further : z.rows ≡ y.rows + 1
      pub left : y.rows < most_rows
      pub ran : Ran bad d m at₀ n z (set seen i 1) rows' lines'

    module _ (rows' lines' : List ℤ) (w : Turn) (t : Turned bad d m seen y at rows rows' lines lines' w) where
      module _ (i : ℕ) (z : Tally) (n : ℕ) (e : w ≡ turns.More i z n) where
        o : OneMore bad d m seen y at rows rows' lines lines' l i z n
        o = t.more e l r.before

        abbrev v : XmlEntry
        v = o.entry

        entry_fine : Read bad d l v n
        entry_fine =
            let a = o.added in
            let x = due_is bad d VARIABLE (start a.place) (variable bad d m l) a.end a.read in
            entry_read bad d long m l r.before.fine (λ p e t n. few bad d m.old l p e t n) x.place a.end x.then_is

        ident_low : v.variable.ident.value < 10000
        ident_low = omega (arith, ident_few (lines_all (variables_of l)) v.variable entry_fine.fine.good)

        tally_now : z ≡ tally_of (l ++ v ∷ [])
        tally_now = tally_more y l v r.before.tally z o.tally_is

        rows_now : z.rows ≡ y.rows + 1
        rows_now = rows_is z (l ++ v ∷ []) tally_now ∙ length-append l (v ∷ []) ∙ ap (λ (k : ℕ). k + 1) (sym (rows_is y l r.before.tally))

        left_now : y.rows < most_rows
        left_now = let q = rows_is y l r.before.tally in omega (arith, entry_fine.fine.left)

        held_now : RowsOf rows' z.rows (l ++ v ∷ [])
        held_now =
            let q = o.row_is ∙ ap (λ (b : ℕ). pasted rows (row_size * y.rows) (row_cells (columns_for b v)))
            (lines_is y l r.before.tally) in
            moved_rows q rows_now (rows_more rows y.rows l v wide left_now r.before.held)

        before_now : Before d (set seen i 1) z rows' (l ++ v ∷ [])
        before_now = record {
          tally = tally_now;
          held = held_now;
          idents = idents_as seen l v r.before.idents r.seen_long ident_low i o.ident_is;
          fine = more r.before.fine entry_fine.fine;
          named = more_named v r.before.named entry_fine.name;
        }

        lines_now : take (line_size * lines_all (variables_of (l ++ v ∷ []))) lines' ≡ all_lines (variables_of (l ++ v ∷ []))
        lines_now =
            lines_more l v lines lines' (o.line_is
            ∙ ap (λ (b : ℕ). pasted lines (line_size * b) (cells_of (lines_of o.entry.variable))) (lines_is y l r.before.tally))
            (omega (arith, (entries_few r.before.fine).1)) r.lines_are

        pub ran_more : Onward i z n rows' lines'
        ran_more = record {
          small = omega (arith, o.ident_is, ident_low);
          further = rows_now;
          left = left_now;
          ran = record {
            read = l ++ v ∷ [];
            from = from_more bad d m at₀ l at v n r.from entry_fine.fine.left o.added;
            before = before_now;
            lines_are = lines_now;
            next = entry_fine.next;
            seen_long = length-set seen i 1 ∙ r.seen_long;
          };
        }

      -- all variables are read
      module _ (n : ℕ) (e : w ≡ turns.Over n) where
        over_is : variables bad d m at₀ ≡ Is l n
        over_is =
            let q = t.over e in
            from_over bad d m at₀ l at n r.from rows_few (omega (arith, q.0, r.before.held.counted)) q.1

        pub run_over : run.Is y n ≡ run_of (variables bad d m at₀)
        run_over = ap (λ (z : Tally). run.Is z n) r.before.tally ∙ ap run_of (sym over_is)

        same_all : (a : List XmlEntry) (k : ℕ) → variables bad d m at₀ ≡ Is a k → l ≡ a
        same_all a k q = let u = sym over_is ∙ q in cc

        pub laid_over : Laid (variables bad d m at₀) rows' lines'
        laid_over = record {
          rows_laid = λ {l = a} {n = k} q. rw (← same_all a k q, (t.over e).2) (rw (sym r.before.held.counted) at r.before.held);
          lines_laid = λ {l = a} {n = k} q. rw (← same_all a k q, (t.over e).3) r.lines_are;
        }

      module _ (f : Fault) (e : w ≡ turns.Not f) where
        not_is : variables bad d m at₀ ≡ Not f
        not_is = from_fails bad d m at₀ l at f r.from rows_few (t.fails e l r.before)

        pub run_not : run.Not f ≡ run_of (variables bad d m at₀)
        run_not = ap run_of (sym not_is)

        pub laid_not : Laid (variables bad d m at₀) rows' lines'
        laid_not = record {
          rows_laid = λ {l = a} {n = k} q. let u = sym not_is ∙ q in never cc;
          lines_laid = λ {l = a} {n = k} q. let u = sym not_is ∙ q in never cc;
        }

-- what the sum of one more name is made of
module _ (bad : Bool) (d : List ℕ) (m : Manner) (long : length d ≤ 1048576) (at₀ at : ℕ) (y : Tally) (seen : List ℕ) (rows lines : List ℤ)
    (r : Ran bad d m at₀ at y seen rows lines) (wide : length rows ≡ row_size * most_rows) (many : length lines ≡ line_size * most_lines)
    (rows' lines' : List ℤ) (w : Turn) (t : Turned bad d m seen y at rows rows' lines lines' w) (i : ℕ) (z : Tally) (n : ℕ)
    (e : w ≡ turns.More i z n) where
  onward : Onward bad d m long at₀ at y seen rows lines r wide many i z n rows' lines'
  onward = ran_more bad d m long at₀ at y seen rows lines r wide many rows' lines' w t i z n e

  kept : (k : ℕ) → k < row_size * y.rows → cell rows' k ≡ cell rows k
  kept k h =
      let left = onward.left in
      ap (λ (x : List ℤ). cell x k) (t.more e r.read r.before).row_is
      ∙ cell_pasted rows (row_cells (columns_for y.lines (t.more e r.read r.before).entry)) (row_size * y.rows) k (omega arith) h

  pub noted : (latin : Bool) (sums : List ℕ) → length rows' ≡ row_size * most_rows → length lines' ≡ line_size * most_lines
      → Summing latin d rows y.rows sums → Lying (length d) rows' (y.rows + 1) × Summing latin d rows' y.rows sums
  noted latin sums wide' many' s =
      let q = onward.further in (
        rw (sym q) (lies (ran_sofar bad d m long at₀ n z (set seen i 1) rows' lines' onward.ran wide' many')),
        sums_moved latin d rows rows' y.rows sums kept (lies (ran_sofar bad d m long at₀ at y seen rows lines r wide many)) s,
      )
