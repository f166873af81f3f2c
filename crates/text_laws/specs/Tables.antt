-- The texts of a table by its numbers: what the call answers for a name, a label or a line's text of a table that was read from the
-- definition is that text's decoding, never 3.
use Rattle.std.specs.Prelude.{◌≡◌, List, [], ◌∷◌, ◌++◌, ℤ}
use Rattle.std.proofs.Math.Path.{refl, ap}
use Rattle.std.proofs.Common.{◌∙◌, sym, subst, append-nil}
use Prim.Native.Nat.{ℕ, zero, suc, ◌+◌, ◌*◌, ◌<◌}
use native.Mathlib.Omega.{arith}
use Rattle.std.proofs.Math.ListN.{length}
use Rattle.cells.specs.rule.Cell.{count_of}
use Rattle.layout.specs.rule.Layout.{line_size, line_base, line_at}
use Rattle.layout.specs.declared.Columns.{Columns}
use Rattle.layout.specs.declared.Line.{Line}
use Rattle.marks.specs.declared.Inside.TheVariants.{Plain}
use Rattle.marks.specs.declared.Skip.TheVariants.{Past}
use Rattle.marks.specs.rule.Marks.{string_of}
use Rattle.scan.specs.rule.Text.{text}
use Rattle.values.specs.declared.Said.{Said}
use Rattle.values.specs.Line.{line_cells, cells_of}
use Rattle.values.proofs.Rooms.{cells_length}
use Rattle.sound.specs.rule.Sound.{columns_of}
use Rattle.survey.specs.rule.Survey.{KeptText}
use Rattle.measures.specs.Survey.{Variable, lines_in, columns_in, counted_in, lines_all}
use Rattle.measures.specs.Width.{plain_columns, widened, full_columns}
use Rattle.measures.specs.Good.{Good}
use Rattle.built.specs.Standing.{Stands, line_there}
use Rattle.built.specs.Nth.{Nth, nth}
use Rattle.built.specs.Cells.{laid, columns_of_lem, line_of_lem}
use Rattle.definition.specs.declared.Answer.TheVariants as answer
use Rattle.definition.specs.Books.{Outcome, Built, Refusal, answer_in, table_in, outcome_in}
use Rattle.definition.specs.rule.Definition.{SssRead}
use Rattle.definition.proofs.Bridge.{answer_same, table_same}
use Rattle.definition.proofs.Goods.{built_good}
use Rattle.text_laws.specs.Cut.{none, string_says}
use Rattle.text_laws.specs.Stand.{Each, nil, more, LineStands, VariableStands, built_stands}
use Rattle.text_laws.specs.Decoded.{Decodes, decodes_of}

-- the texts that the numbers of a row and of a line tell of
abbrev pub name_of : Columns → KeptText
name_of c = record { place = c.name; length = c.name_len }

abbrev pub label_of : Columns → KeptText
label_of c = record { place = c.label; length = c.label_len }

abbrev pub text_of : Line → KeptText
text_of s = record { place = s.text; length = s.text_len }

-- row i of v rows: the call decodes its name, its label and the texts of its lines
pub record RowDecodes (d : List ℕ) (t : List ℤ) (v i : ℕ) : Type 0 where
  pub name : Decodes d (name_of (columns_of t i))
  pub label : Decodes d (label_of (columns_of t i))
  pub lines : (k : ℕ) → k < (columns_of t i).lines → Decodes d (text_of (line_at t (line_base v ((columns_of t i).before + k))))

-- what holds of each holds of one
each_in : {A : Type 0} {P : A → Type 0} {x : A} (p q : List A) → Each P (p ++ x ∷ q) → P x
each_in [] q (more h e) = h
each_in (y ∷ p) q (more h e) = each_in p q e

module _ (d : List ℕ) where
  -- the text of a line stands in the definition, by its numbers
  abbrev ByNumbers : Line → Type 0
  ByNumbers s = string_of Plain (text d s.text) ≡ Past (s.text + s.text_len + 1)

  first_stands : (s : Said) (l : List Said) → LineStands d s → ByNumbers (line_at (cells_of (s ∷ l)) 0)
  unfolding cells_of line_cells line_at count_of
  first_stands s l p = p

  next_line : (s : Said) (l : List Said) (k : ℕ) → k < length l
      → line_at (cells_of (s ∷ l)) (line_size * suc k) ≡ line_at (cells_of l) (line_size * k)
  unfolding cells_of line_cells
  next_line s l k h =
      let q : Stands (cells_of (s ∷ l)) 4 (cells_of l) =
      record { front = line_cells s; rest = []; is = ap (λ m. line_cells s ++ m) (sym (append-nil (cells_of l))); here = refl } in
      let z : line_size * suc k ≡ 4 + line_size * k = omega arith in
      ap (line_at (cells_of (s ∷ l))) z ∙ line_there q (line_size * k) (omega (arith, cells_length l))

  line_stands : (l : List Said) → Each (LineStands d) l → (k : ℕ) → k < length l → ByNumbers (line_at (cells_of l) (line_size * k))
  line_stands [] nil k h = absurd (omega arith)
  line_stands (s ∷ l) (more p e) zero h = first_stands s l p
  line_stands (s ∷ l) (more p e) (suc k) h = subst ByNumbers (sym (next_line s l k (omega arith))) (line_stands l e k (omega arith))

  module _ (t : List ℤ) {l : List Variable} (g : Good l) (s : Each (VariableStands d) l) (i : ℕ) (h : i < length l) where
    row_decodes : RowDecodes d (laid t l) (length l) i
    unfolding columns_in full_columns widened plain_columns counted_in
    row_decodes =
        let r : Nth l i = nth g i h in
        let c = columns_of_lem t r in
        let v = each_in r.before r.behind (rw r.is at s) in
        let n : (columns_in (lines_all r.before) r.variable).lines ≡ length (lines_in r.variable) = omega arith in
        record {
          name = rw c (decodes_of d _ (string_says d _ _ v.name_stands));
          label = rw c (decodes_of d _ (string_says d _ _ v.label_stands));
          lines = λ k m.
              let j : k < length (lines_in r.variable) = rw (c, n) at m in
              rw (c, line_of_lem t r k j)
              (decodes_of d _ (string_says d _ _ (line_stands (lines_in r.variable) v.lines_stand k j)));
        }

-- TABLE: every text of a table that was read
pub table_decodes : {d : List ℕ} {t t' : List ℤ} {v e : ℕ} → SssRead d t t' (answer.Read v e) → (i : ℕ) → i < v
    → RowDecodes d t' v i
unfolding answer_in table_in
table_decodes {d} {t} {t'} {v} {e} w i h = by (outcome_in d (length t)) refl where
  by : (o : Outcome) → outcome_in d (length t) ≡ o → RowDecodes d t' v i
  by (Built l) q =
      let a : answer.Read v e ≡ answer_in (Built l) = w.says ∙ sym (answer_same d (length t)) ∙ ap answer_in q in
      let j : v ≡ length l = cc in
      let f : t' ≡ laid t l = w.leaves ∙ sym (table_same d (length t) t) ∙ ap (λ (o : Outcome). table_in o t) q in
      let g = built_good d (length t) l q in
      rw (f, j) (row_decodes d t g.0 (built_stands d (length t) l q) i (rw j at h))
  by (Refusal k p) q =
      let a : answer.Read v e ≡ answer_in (Refusal k p) = w.says ∙ sym (answer_same d (length t)) ∙ ap answer_in q in
      none cc
