-- What is said of the rooms of either kind, and done with them.
use mathlib.Core.Path.{◌≡◌, refl, sym, ap, ◌∙◌}
use mathlib.Core.Bool.{Bool, true, false, cond}
use mathlib.Core.List.{List}
use Prim.Native.Nat.{ℕ, ◌*◌, ◌≤◌, ◌<◌}
use native.Mathlib.Omega.{arith}
use borrow.Author.Tests.{lt-ltb, le-ltb}
use lib.Dec.{ltb}
use lib.IntN.{ℤ}
use lib.ListN.{length}
use Rattle.cells.specs.rule.Cell.{pasted}
use Rattle.layout.specs.rule.Layout.{mark, mark_xml, row_size, line_size, line_base, most_rows, most_lines}
use Rattle.values.specs.Room as unless
use Rattle.laying.specs.declared.Tally.{Tally}
use Rattle.laying.specs.declared.Rooms.TheVariants as rooms
use Rattle.laying.specs.rule.Begins.{begins_table}
use Rattle.laying.specs.Code.{cells_in, filled_over}
use Rattle.laying.proofs.Matched.{cells_length}
use Rattle.prologs.specs.rule.Told.{is_xml}
use Rattle.definition.specs.rule.Definition as sss
use Rattle.definition.specs.declared.Answer.{Answer}
use Rattle.definition.specs.declared.Answer.TheVariants as answer
use Rattle.definition.specs.declared.Against.{Against}
use Rattle.definition.specs.declared.Against.TheVariants as against
use Rattle.definition.specs.Code.{fill_says, compared_by}
use Rattle.xml_reading.specs.rule.Whole as xml
use Rattle.kinds.specs.rule.Definition.{DefinitionOutcome, Built, Refusal, of_sss, of_xml, definition_outcome, answer_of, table_after}
use Rattle.kinds.specs.rule.Definition.{DefinitionRead}
use Rattle.kinds.specs.Settled.{definition_refused_keeps}
use Rattle.kinds.specs.rule.Against.{held}
use Rattle.kinds.specs.Code.{mark_of, fitting, Standing, Perhaps}

pub mark_low : (b : Bool) → mark_of b ≤ mark_xml
unfolding mark_of
mark_low true = omega arith
mark_low false = omega arith

pub plain_mark : (b : Bool) → b ≡ false → mark_of b ≡ mark
unfolding mark_of
plain_mark b e = rw e

-- ---- rooms that were too small
pub never : {A : Type 0} → ◌≡◌ {A = ℕ} 0 1 → A
never e = absurd (omega arith)

-- a refusal of the rooms is one of the call
pub refused_answer : {k p m q : ℕ} → rooms.Refused k p ≡ rooms.Refused m q → answer.Refused k p ≡ answer.Refused m q
refused_answer {k} {p} {m} {q} e =
    let a : k ≡ m = cc in
    let b : p ≡ q = cc in
    rw (a, b)

pub refused_against : {k p m q : ℕ} → rooms.Refused k p ≡ rooms.Refused m q → against.Refused k p ≡ against.Refused m q
refused_against {k} {p} {m} {q} e =
    let a : k ≡ m = cc in
    let b : p ≡ q = cc in
    rw (a, b)

-- its number is 0
pub zero_answer : {k p : ℕ} → answer.Refused 0 0 ≡ answer.Refused k p → k ≡ 0
zero_answer {k} {p} e = cc

pub zero_against : {k p : ℕ} → against.Refused 0 0 ≡ against.Refused k p → k ≡ 0
zero_against {k} {p} e = cc

-- then, and wherever the definition is refused, the table is kept
pub few_keeps : {d : List ℕ} {t t' : List ℤ} {r : Answer} {k p : ℕ}
    → Perhaps ((r ≡ answer.Refused 0 0) × (t' ≡ t)) (DefinitionRead d t t' r) → r ≡ answer.Refused k p → t' ≡ t
few_keeps (unless.holds w) g = definition_refused_keeps (rw g at w)
few_keeps (unless.small s l) g = s.1

-- 1, whatever the kind
pub long_refused : (d : List ℕ) (n : ℕ) → 1048576 < length d → definition_outcome d n ≡ Refusal 1 0
unfolding definition_outcome sss.sss_outcome xml.xml_outcome
long_refused d n h = rw (lt-ltb 1048576 (length d) h) (by (is_xml d)) where
  by : (b : Bool) → cond b (Refusal 1 0) (Refusal 1 0) ≡ Refusal 1 0
  by true = refl
  by false = refl

module _ (m : ℕ) (o : ℕ → DefinitionOutcome) (rows lines : List ℤ) (y : Tally) (s : Standing m o rows lines y) where
  -- as many numbers as its rows and lines take
  size_is : length (cells_in m y rows lines) ≡ line_base y.rows y.lines
  size_is = cells_length m y rows lines s.fit.0 s.fit.1

  pub filled_says : (t : List ℤ) → fill_says y (length t) ≡ answer_of (o (length t))
  unfolding fill_says fitting answer_of
  filled_says t = rw (s.outcome (length t), size_is) (by (ltb (length t) (line_base y.rows y.lines))) where
    by : (b : Bool) → cond b (answer.Refused 10 0) (answer.Read y.rows y.lines)
        ≡ answer_of (cond b (Refusal 10 0) (Built y.rows y.lines (cells_in m y rows lines)))
    by true = refl
    by false = refl

  pub filled_leaves : (t : List ℤ) → filled_over m y rows lines t ≡ table_after (o (length t)) t
  unfolding filled_over fitting table_after
  filled_leaves t = rw (s.outcome (length t), size_is) (by (ltb (length t) (line_base y.rows y.lines))) where
    by : (b : Bool) → cond b t (pasted t 0 (cells_in m y rows lines))
        ≡ table_after (cond b (Refusal 10 0) (Built y.rows y.lines (cells_in m y rows lines))) t
    by true = refl
    by false = refl

  -- a table of any definition has room enough
  pub held_says : (t : List ℤ) → compared_by (begins_table (cells_in m y rows lines) t) ≡ held (o (line_base most_rows most_lines)) t
  unfolding compared_by fitting
  held_says t =
      let f : length (cells_in m y rows lines) ≤ line_base most_rows most_lines = omega (arith, size_is, s.few.0, s.few.1) in
      rw (s.outcome (line_base most_rows most_lines), le-ltb (line_base most_rows most_lines) (length (cells_in m y rows lines)) f)
