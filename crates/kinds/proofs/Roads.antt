-- A definition that the reader of its kind has read into the rooms, by the outcome of both kinds.
use mathlib.Core.Path.{◌≡◌, refl, sym, ap, ◌∙◌}
use mathlib.Core.Bool.{Bool, true, false, cond}
use mathlib.Core.List.{List}
use Prim.Native.Nat.{ℕ, ◌*◌, ◌≤◌}
use native.Mathlib.Omega.{arith}
use borrow.Author.Tests.{le-ltb}
use lib.Dec.{ltb}
use lib.IntN.{ℤ}
use lib.ListN.{length}
use Rattle.layout.specs.rule.Layout.{mark, mark_xml, row_size, line_size, most_rows, most_lines}
use Rattle.measures.specs.Survey as kept
use Rattle.laying.specs.declared.Tally.{Tally}
use Rattle.laying.specs.declared.Rooms.{Rooms}
use Rattle.laying.specs.declared.Rooms.TheVariants as rooms
use Rattle.laying.specs.Code.{cells_in}
use Rattle.survey.specs.rule.Table.{lines_all}
use Rattle.prologs.specs.rule.Told.{is_xml}
use Rattle.xml_reading.specs.rule.Role.{XmlEntry, variables_of}
use Rattle.xml_reading.specs.rule.Whole as xml
use Rattle.definition.specs.rule.Definition as sss
use Rattle.definition.specs.Books as books
use Rattle.definition.specs.Code.{Held, RoomsRead}
use Rattle.definition.proofs.Bridge.{SameOutcome, outcome_same, sames_count, sames_lines, sames_table}
use Rattle.definition.proofs.Bridge as bridge
use Rattle.definition.proofs.Settles.{count_is, lines_is, cells_are}
use Rattle.definition.proofs.Wholes.{rooms_fit}
use Rattle.xml_files.specs.Code as sheet
use Rattle.kinds.specs.rule.Definition.{DefinitionOutcome, Built, Refusal, of_sss, of_xml, definition_outcome}
use Rattle.kinds.specs.Code.{mark_of, fitting, Standing, Ready}

-- ---- 1.1
-- the outcome of the code's books
abbrev of_books : books.Outcome → DefinitionOutcome
of_books (books.Built l) = Built (length l) (kept.lines_all l) (kept.table_of l)
of_books (books.Refusal k p) = Refusal k p

books_same : {d : List ℕ} {o : books.Outcome} {q : sss.SssOutcome} → SameOutcome d o q → of_books o ≡ of_sss q
books_same (bridge.built s) = rw (sames_count s, sames_lines s, sames_table s)
books_same bridge.refused = refl

module _ (d : List ℕ) (long : length d ≤ 1048576) (plain : is_xml d ≡ false) where
  outcome_is : (n : ℕ) (o : books.Outcome) → books.judged d n (books.survey_of d) ≡ o → definition_outcome d n ≡ of_books o
  unfolding definition_outcome books.outcome_in
  outcome_is n o e =
      let q : books.outcome_in d n ≡ o = rw (le-ltb 1048576 (length d) long) e in
      rw plain (sym (books_same (outcome_same d n)) ∙ ap of_books q)

  module _ (rows lines : List ℤ) where
    fits_same : (y : Tally) (l : List kept.Variable) → Held l y rows lines → (n : ℕ)
        → of_books (books.fitting n l) ≡ fitting n y.rows y.lines (cells_in mark y rows lines)
    unfolding books.fitting fitting
    fits_same y l h n =
        rw (cells_are d y rows lines l h, count_is d y rows lines l h, lines_is d y rows lines l h) (by (ltb n (length (kept.table_of l))))
      where
        by : (b : Bool) → of_books (cond b (books.Refusal 10 0) (books.Built l))
            ≡ cond b (Refusal 10 0) (Built (length l) (kept.lines_all l) (kept.table_of l))
        by true = refl
        by false = refl

    sss_ready : (r : Rooms) → RoomsRead d rows lines r → Ready mark (definition_outcome d) rows lines r
    sss_ready r w = record {
      stands = λ {y} e.
          let s = w.stands e in
          record {
            few = s.few;
            fit = rooms_fit d rows lines y s;
            outcome = λ n. outcome_is n (books.fitting n s.read) (s.outcome n)
                ∙ fits_same y s.read s.held n;
          };
      refuses = λ {k} {p} e n. outcome_is n (books.Refusal k p) (w.refuses e n);
    }

    pub plain_ready : (r : Rooms) → RoomsRead d rows lines r → Ready (mark_of (is_xml d)) (definition_outcome d) rows lines r
    unfolding mark_of
    plain_ready r w = rw plain (sss_ready r w)

-- ---- XML
module _ (d : List ℕ) (rows lines : List ℤ) (wide : length rows ≡ row_size * most_rows) (many : length lines ≡ line_size * most_lines) where
  xml_fits : (y : Tally) (s : sheet.Standing (xml.xml_outcome d) rows lines y) (n : ℕ) → of_xml (xml.xml_fitting n s.read)
      ≡ fitting n y.rows y.lines (cells_in mark_xml y rows lines)
  unfolding xml.xml_fitting fitting
  xml_fits y s n = rw (s.cells, s.count, s.many) (by (ltb n (length (xml.xml_table s.read)))) where
    by : (b : Bool) → of_xml (cond b (xml.Refusal 10 0) (xml.Built s.read))
        ≡ cond b (Refusal 10 0) (Built (length s.read) (lines_all (variables_of s.read)) (xml.xml_table s.read))
    by true = refl
    by false = refl

  xml_is : is_xml d ≡ true → (n : ℕ) (o : xml.XmlOutcome) → xml.xml_outcome d n ≡ o → definition_outcome d n ≡ of_xml o
  unfolding definition_outcome
  xml_is e n o q = rw e (ap of_xml q)

  pub xml_ready : (r : Rooms) → is_xml d ≡ true → sheet.RoomsRead (xml.xml_outcome d) rows lines r
      → Ready (mark_of (is_xml d)) (definition_outcome d) rows lines r
  unfolding mark_of
  xml_ready r e w = rw e (record {
    stands = λ {y} h.
        let s = w.stands h in
        record {
          few = s.few;
          fit = (omega (arith, s.few.0, wide), omega (arith, s.few.1, many));
          outcome = λ n. xml_is e n
              (xml.xml_fitting n s.read) (s.outcome n) ∙ xml_fits y s n;
        };
    refuses = λ {k} {p} h n. xml_is e n (xml.Refusal k p) (w.refuses h n);
  })
