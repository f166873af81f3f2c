-- A definition as a whole, by what the code is told of its parts.
use Rattle.std.specs.Prelude.{Ok, Err}
use mathlib.Core.Path.{◌≡◌, refl, ◌∙◌, sym, ap}
use mathlib.Core.Bool.{Bool, true, false, cond}
use mathlib.Core.List.{List, [], ◌∷◌, ◌++◌}
use Prim.Native.Nat.{ℕ, ◌+◌, ◌*◌, ◌≤◌, ◌<◌}
use native.Mathlib.Omega.{arith}
use lib.Dec.{ltb}
use lib.IntN.{ℤ}
use lib.ListN.{length, take, drop}
use lib.Seq.{length-take-le}
use borrow.Author.Tests.{le-ltb}
use Rattle.layout.specs.rule.Layout.{mark_xml, row_size, line_size, most_rows, most_lines}
use Rattle.rows.specs.rule.Cells.{header_cells}
use Rattle.utf.specs.rule.Cut.{first_bad}
use Rattle.utf.proofs.Exactly.{utf_exactly}
use Rattle.markup.specs.rule.Bytes.{stands}
use Rattle.prologs.specs.rule.Form.{XML, declaration}
use Rattle.prologs.specs.rule.Told.{start_behind_mark, tell_of, declaration_of}
use Rattle.prologs.specs.declared.Prolog.{Prolog}
use Rattle.prologs.specs.declared.Prolog.TheVariants as prolog
use Rattle.prologs.proofs.Steps.{stands_in}
use Rattle.prologs.proofs.Exactly.{reach, reaches, tells}
use Rattle.tokens.specs.declared.Fault.{Fault}
use Rattle.survey.specs.rule.Table.{lines_all, highest_in, all_lines}
use Rattle.reading.specs.rule.Result.{Result, Is, Not, bind}
use Rattle.reading.specs.rule.Token.{passed}
use Rattle.bridge.specs.Lowest.{never}
use Rattle.xml_reading.specs.rule.Role.{XmlEntry, variables_of}
use Rattle.xml_reading.specs.rule.Variable.{Manner}
use Rattle.xml_reading.specs.rule.Sheet.{XmlSurvey, preface, variables, sheet_closed, sheet}
use Rattle.xml_reading.specs.rule.Whole.{xml_header, xml_rows, xml_table, XmlOutcome, Refusal, xml_fitting, judge_xml_names, xml_settled}
use Rattle.xml_reading.specs.rule.Whole.{sheet_of}
use Rattle.xml_reading.specs.rule.Whole.{xml_outcome}
use Rattle.laying.specs.declared.Tally.{Tally}
use Rattle.laying.specs.declared.Rooms.{Rooms}
use Rattle.laying.specs.declared.Rooms.TheVariants as rooms
use Rattle.laying.specs.Code.{header_by, cells_in}
use Rattle.filters.specs.Code.{RowsOf, Lying}
use Rattle.prefaces.specs.declared.Prefaced.{Prefaced}
use Rattle.prefaces.specs.declared.Prefaced.TheVariants as prefaced
use Rattle.prefaces.specs.declared.Manner as code
use Rattle.prefaces.specs.Code.{rule_of, prefaced_of, reading_of, Ends}
use Rattle.xml_bridge.specs.Table.{FineEntries, entries_few}
use Rattle.xml_laws.specs.Sheets.{Named, variables_fine}
use Rattle.xml_files.specs.declared.Run.{Run}
use Rattle.xml_files.specs.declared.Run.TheVariants as run
use Rattle.sheets.specs.Code.{tally_of}
use Rattle.xml_files.specs.Code.{run_of, Laid, NamesSettled, Standing, RoomsRead, body_of}
use Rattle.sheets.proofs.Few.{few}
use Rattle.xml_files.proofs.Lists.{highest_low}
use Rattle.xml_files.proofs.Rans.{moved_rows}
use Rattle.xml_files.proofs.Settles.{lying_here}
use Rattle.tokens.specs.rule.Gap.{OrFault}

-- ---- the code's answers as the rule's
passed_is : {r : OrFault ℕ} (x : Result Unit) → r ≡ reading_of x → passed r ≡ x
passed_is (Is u n) e = ap passed e
passed_is (Not f) e = ap passed e

abbrev preface_read : Prefaced → Result Manner
preface_read (prefaced.Is m n) = Is (rule_of m) n
preface_read (prefaced.Not f) = Not f

prefaced_is : {r : Prefaced} (x : Result Manner) → r ≡ prefaced_of x → preface_read r ≡ x
prefaced_is (Is m n) e = ap preface_read e
prefaced_is (Not f) e = ap preface_read e

-- ---- what the rooms come to
pub rooms_moved : {o p : ℕ → XmlOutcome} {rows lines : List ℤ} {r : Rooms} → ((n : ℕ) → o n ≡ p n) → RoomsRead p rows lines r
    → RoomsRead o rows lines r
rooms_moved h w = record {
  stands = λ e. let s = w.stands e in record {
    read = s.read;
    fine = s.fine;
    few = s.few;
    count = s.count;
    many = s.many;
    cells = s.cells;
    outcome = λ n. h n ∙ s.outcome n;
  };
  refuses = λ e n. h n ∙ w.refuses e n;
}

pub rooms_refused : {o : ℕ → XmlOutcome} {rows lines : List ℤ} (k p : ℕ) → ((n : ℕ) → o n ≡ Refusal k p)
    → RoomsRead o rows lines (rooms.Refused k p)
rooms_refused k p h = record {
  stands = λ e. never cc;
  refuses = λ {k = u} {p = v} e n.
      let a : k ≡ u = cc in
      let b : p ≡ v = cc in
      h n ∙ rw (a, b);
}

-- ---- behind the preface
module _ (bad : Bool) (d : List ℕ) (long : length d ≤ 1048576) (m : Manner) (at : ℕ) where
  pub record All (y : Tally) (n : ℕ) (rows lines : List ℤ) : Type 0 where
    pub read : List XmlEntry
    pub are : variables bad d m at ≡ Is read n
    pub tally : y ≡ tally_of read
    pub held : RowsOf rows (length read) read
    pub lines_are : take (line_size * lines_all (variables_of read)) lines ≡ all_lines (variables_of read)
    pub fine : FineEntries read
    pub named : Named d read
    pub next : n ≤ length d

  module _ (q : Run) (rows lines : List ℤ) (says : q ≡ run_of (variables bad d m at)) (laid : Laid (variables bad d m at) rows lines) where
    pub all_read : (y : Tally) (n : ℕ) → q ≡ run.Is y n → All y n rows lines
    all_read y n e = by (variables bad d m at) refl (sym says ∙ e) where
      by : (x : Result (List XmlEntry)) → variables bad d m at ≡ x → run_of x ≡ run.Is y n → All y n rows lines
      by (Is l k) i j =
          let a : tally_of l ≡ y = cc in
          let b : k ≡ n = cc in
          let g = variables_fine bad d long (few bad d) m at i in
          record {
            read = l;
            are = i ∙ ap (λ (k : ℕ). Is l k) b;
            tally = sym a;
            held = laid.rows_laid i;
            lines_are = laid.lines_laid i;
            fine = g.fine;
            named = g.named;
            next = rw b at g.next;
          }
      by (Not f) i j = never cc

    pub run_refused : (f : Fault) → q ≡ run.Not f → variables bad d m at ≡ Not f
    run_refused f e = by (variables bad d m at) refl (sym says ∙ e) where
      by : (x : Result (List XmlEntry)) → variables bad d m at ≡ x → run_of x ≡ run.Not f → variables bad d m at ≡ Not f
      by (Is l k) i j = never cc
      by (Not g) i j = let a : g ≡ f = cc in i ∙ ap Not a

    pub body_not : (latin : Bool) (f : Fault) → q ≡ run.Not f
        → RoomsRead (λ n. xml_settled latin d n (body_of bad d m at)) rows lines (rooms.Refused f.number f.place)
    unfolding body_of
    body_not latin f e = rooms_refused f.number f.place (λ n. rw (run_refused f e))

    module _ (y : Tally) (k : ℕ) (e : q ≡ run.Is y k) where
      s : All y k rows lines
      s = all_read y k e

      rows_are : y.rows ≡ length s.read
      unfolding tally_of
      rows_are = ap (λ (z : Tally). z.rows) s.tally

      held_here : RowsOf rows y.rows s.read
      held_here = moved_rows refl rows_are s.held

      pub body_lying : length rows ≡ row_size * most_rows → Lying (length d) rows y.rows
      body_lying wide = lying_here d rows y.rows s.read wide held_here s.fine s.named

      pub body_next : k ≤ length d
      body_next = s.next

      cells_are : cells_in mark_xml y rows lines ≡ xml_table s.read
      unfolding cells_in header_by tally_of xml_header xml_table header_cells all_lines xml_rows
      cells_are = ap (λ (z : Tally). cells_in mark_xml z rows lines) s.tally ∙ held_parts s.read s.held.held s.lines_are where
        held_parts : (l : List XmlEntry) → take (row_size * length l) rows ≡ xml_rows 0 l
            → take (line_size * lines_all (variables_of l)) lines
            ≡ all_lines (variables_of l)
            → header_cells (xml_header l) ++ (take (row_size * length l) rows ++ take (line_size * lines_all (variables_of l)) lines)
            ≡ xml_table l
        held_parts l a b = rw (a, b) refl

      few_here : (y.rows ≤ most_rows) × (y.lines ≤ most_lines) × (y.length ≤ 16384)
      unfolding tally_of
      few_here = rw s.tally ((entries_few s.fine).0, (entries_few s.fine).1, highest_low s.fine)

      lines_here : y.lines ≡ lines_all (variables_of s.read)
      unfolding tally_of
      lines_here = ap (λ (z : Tally). z.lines) s.tally

      module _ (latin : Bool) (x : OrFault ℕ) (shut : x ≡ reading_of (sheet_closed bad d k)) where
        pub body_ends : (f : Fault) → x ≡ Err f
            → RoomsRead (λ n. xml_settled latin d n (body_of bad d m at)) rows lines (rooms.Refused f.number f.place)
        unfolding body_of
        body_ends f i = rooms_refused f.number f.place (λ n. rw (s.are, sym (passed_is (sheet_closed bad d k) shut) ∙ ap passed i))

        body_is : (j : ℕ) → x ≡ Ok j → (n : ℕ) → xml_settled latin d n (body_of bad d m at) ≡ judge_xml_names latin d n m.standard s.read
        unfolding body_of
        body_is j i n = rw (s.are, sym (passed_is (sheet_closed bad d k) shut) ∙ ap passed i)

        pub body_here : (j : ℕ) (o : Rooms) → x ≡ Ok j → NamesSettled latin d m.standard y rows o
            → RoomsRead (λ n. xml_settled latin d n (body_of bad d m at)) rows lines o
        body_here j o i w = record {
          stands = λ {y = z} e.
              let p = w.passes e s.read held_here in
              stands_as z p.0 (λ n. body_is j i n ∙ p.1 n);
          refuses = λ e n. body_is j i n ∙ w.fails e s.read held_here n;
        } where
          stands_as : (z : Tally) → z ≡ y → ((n : ℕ) → xml_settled latin d n (body_of bad d m at) ≡ xml_fitting n s.read)
              → Standing (λ n. xml_settled latin d n (body_of bad d m at)) rows lines z
          stands_as z u h = rw u (record {
            read = s.read;
            fine = s.fine;
            few = few_here;
            count = rows_are;
            many = lines_here;
            cells = cells_are;
            outcome = h;
          })

-- ---- behind the declaration
pub ends_in : (d : List ℕ) (p : Prefaced) {m : code.Manner} {n : ℕ} → Ends d p → p ≡ prefaced.Is m n → n ≤ length d
ends_in d (prefaced.Is m k) {n = n} h e = let b : k ≡ n = cc in omega (arith, h)
ends_in d (prefaced.Not f) h e = never cc

module _ (bad latin : Bool) (d : List ℕ) (at : ℕ) (p : Prefaced) (says : p ≡ prefaced_of (preface bad d latin at)) (rows lines : List ℤ)
  where
    pub sheet_not : (f : Fault) → p ≡ prefaced.Not f
        → RoomsRead (λ n. xml_settled latin d n (sheet bad d latin at)) rows lines (rooms.Refused f.number f.place)
    unfolding sheet
    sheet_not f e = rooms_refused f.number f.place (λ n. rw (sym (prefaced_is (preface bad d latin at) (sym e ∙ says))))

    pub sheet_here : (m : code.Manner) (k : ℕ) (r : Rooms) → p ≡ prefaced.Is m k
        → RoomsRead (λ n. xml_settled latin d n (body_of bad d (rule_of m) k)) rows lines r
        → RoomsRead (λ n. xml_settled latin d n (sheet bad d latin at)) rows lines r
    unfolding sheet body_of
    sheet_here m k r e w = rooms_moved (λ n. rw (sym (prefaced_is (preface bad d latin at) (sym e ∙ says)))) w

-- ---- the whole
start_few : (d : List ℕ) → start_behind_mark d ≤ length d
unfolding start_behind_mark
start_few d = by (stands (239 ∷ 187 ∷ 191 ∷ []) d) refl where
  by : (b : Bool) → stands (239 ∷ 187 ∷ 191 ∷ []) d ≡ b → cond b 3 0 ≤ length d
  by true e = omega (arith, stands_in 239 (187 ∷ 191 ∷ []) d 0 e)
  by false e = omega arith

pub declared_in : (d : List ℕ) (latin : Bool) (at : ℕ) → declaration_of d ≡ prolog.Read latin at → at ≤ length d
unfolding declaration_of
declared_in d latin at = by (stands XML (drop (start_behind_mark d) d)) where
  by : (b : Bool) → cond b (tell_of false d (start_behind_mark d) (declaration (ltb 0 (start_behind_mark d))) false (start_behind_mark d))
      (prolog.Read false (start_behind_mark d))
      ≡ prolog.Read latin at
      → at ≤ length d
  by true e = rw (ap reach e) at (reaches false d (start_behind_mark d)
      (tells false d (start_behind_mark d) (declaration (ltb 0 (start_behind_mark d))) false (start_behind_mark d)) (start_few d))
  by false e = let u : start_behind_mark d ≡ at = cc in omega (arith, start_few d)

pub cut_in : (latin : Bool) (d : List ℕ) (at q : ℕ) → at ≤ length d → q ≡ first_bad latin d at → at ≤ q
cut_in latin d at q h e = let c = (utf_exactly latin d at q h).0 (sym e) in omega (arith, c.place)

pub cut_here : (latin : Bool) (d : List ℕ) (at q : ℕ) → at ≤ length d → q ≡ first_bad latin d at → q ≤ length d → length d ≤ 1048576
    → (length (take q d) ≤ 1048576) × (at ≤ length (take q d))
cut_here latin d at q h e k l = let n = length-take-le q d k in let c = cut_in latin d at q h e in (omega arith, omega arith)

module _ (d : List ℕ) (long : length d ≤ 1048576) (p : Prolog) (says : p ≡ declaration_of d) (rows lines : List ℤ) where
  pub whole_not : (k q : ℕ) → p ≡ prolog.Fault k q → RoomsRead (xml_outcome d) rows lines (rooms.Refused k q)
  unfolding xml_outcome
  whole_not k q e = rooms_refused k q (λ n. rw (le-ltb 1048576 (length d) long, sym says ∙ e))

  pub whole_here : (latin : Bool) (at q : ℕ) (bad : Bool) (r : Rooms) → p ≡ prolog.Read latin at → q ≡ first_bad latin d at → bad
      ≡ ltb q (length d)
      → RoomsRead (λ n. xml_settled latin (take q d) n (sheet bad (take q d) latin at)) rows lines r
      → RoomsRead (xml_outcome d) rows lines r
  unfolding xml_outcome sheet_of
  whole_here latin at q bad r e f g w = rooms_moved (λ n. rw (le-ltb 1048576 (length d) long, sym says ∙ e, ← f, ← g)) w
