-- EXACT REFUSALS of writing a clean definition, one outcome, and what the output then holds.
-- Assumes nothing.
use Rattle.std.specs.Prelude.{◌≡◌, Bool, cond, ℕ, ℤ, length}
use Rattle.std.proofs.Math.Path.{refl}
use Rattle.std.proofs.Common.{sym, ◌∙◌}
use Rattle.std.proofs.Math.Bool.{true, false}
use mathlib.Core.List.{List}
use borrow.Author.Tests.{ltb-true, ltb-false, lt-ltb, le-ltb}
use Rattle.std.proofs.Math.Dec.{ltb}
use Rattle.below.specs.Below.{holds_not}
use Rattle.layout.specs.rule.Layout.{line_base, most_rows, most_lines}
use Rattle.survey.specs.rule.Survey.{Variable, Survey}
use Rattle.survey.specs.rule.Table.{table_of}
use Rattle.laying.specs.rule.Begins.{begins_table}
use Rattle.laying.specs.Begins.{begins_is, begins_these}
use Rattle.definition.specs.rule.Definition.{SssOutcome, Built, Refusal, sss_outcome}
use Rattle.definition.specs.rule.Against.{sss_against}
use Rattle.clean_text.specs.rule.Clean.{clean_of}
use Rattle.clean_laws.specs.rule.Reads.{Reads}
use Rattle.clean_laws.specs.Reads.{ReadAs, read_as, built_reads}
use Rattle.clean.specs.declared.Written.{Written}
use Rattle.clean.specs.declared.Written.TheVariants.{Refused}
use Rattle.clean.specs.rule.Written.{Text, clean_fitted, judged_against, writing_of, clean_written, out_after, DefinitionWritten}
use Rattle.clean.specs.rule.Written as rule
use Rattle.write_laws.specs.rule.Exactly.{Unread, Begins, WriteOutcome, unread, other_table, too_large, short_room, all_written}
use Rattle.write_laws.specs.Room.{read_built, refused_unread}

-- ---- one outcome: answer and output
pub write_one : {d : List ℕ} {t : List ℤ} {out o₁ o₂ : List ℕ} {a₁ a₂ : Written}
    → DefinitionWritten d t out o₁ a₁ → DefinitionWritten d t out o₂ a₂ → (a₁ ≡ a₂) × (o₁ ≡ o₂)
write_one a b = (a.says ∙ sym b.says, a.leaves ∙ sym b.leaves)

module _ (d : List ℕ) (t : List ℤ) (room : ℕ) where
  -- ---- a definition that is read as s, with its own table or another
  module _ {s : Survey} (r : Reads d s) where
    pub written_fitted : Begins s t → writing_of d t room ≡ clean_fitted room (clean_of d s)
    unfolding writing_of sss_against
    written_fitted h = rw (read_built d r, begins_these (table_of s.variables) t h, r.says)

    written_other : begins_table (table_of s.variables) t ≡ false → writing_of d t room ≡ rule.Refusal 40 0
    unfolding writing_of sss_against
    written_other h = rw (read_built d r, h)

    fitted_named : Begins s t → WriteOutcome d t room (clean_written (clean_fitted room (clean_of d s)))
    unfolding clean_fitted clean_written
    fitted_named h = by (ltb 1048576 (length (clean_of d s))) (ltb room (length (clean_of d s))) refl refl where
      by : (x y : Bool) → ltb 1048576 (length (clean_of d s)) ≡ x → ltb room (length (clean_of d s)) ≡ y
          → WriteOutcome d t room (clean_written (cond x (rule.Refusal 41 0) (cond y (rule.Refusal 42 0) (Text (clean_of d s)))))
      by true y i j = too_large r h (ltb-true 1048576 (length (clean_of d s)) i)
      by false true i j = short_room r h (ltb-false 1048576 (length (clean_of d s)) i) (ltb-true room (length (clean_of d s)) j)
      by false false i j = all_written r h (ltb-false 1048576 (length (clean_of d s)) i) (ltb-false room (length (clean_of d s)) j)

    read_named : WriteOutcome d t room (clean_written (writing_of d t room))
    unfolding clean_written
    read_named = by (begins_table (table_of s.variables) t) refl where
      by : (q : Bool) → begins_table (table_of s.variables) t ≡ q → WriteOutcome d t room (clean_written (writing_of d t room))
      by true e = let h = begins_is (table_of s.variables) t e in rw (written_fitted h) (fitted_named h)
      by false e = rw (written_other e) (other_table r λ h. holds_not (begins_these (table_of s.variables) t h) e)

  unread_written : {number place : ℕ} → Unread d number place → writing_of d t room ≡ rule.Refusal number place
  unfolding writing_of sss_against
  unread_written u = rw (u (line_base most_rows most_lines))

  -- ---- each answer only where what it says is so
  pub write_named : WriteOutcome d t room (clean_written (writing_of d t room))
  unfolding clean_written
  write_named = by (sss_outcome d (line_base most_rows most_lines)) refl where
    known : {l : List Variable} → ReadAs d l → WriteOutcome d t room (clean_written (writing_of d t room))
    known (read_as r q) = read_named r

    by : (o : SssOutcome) → sss_outcome d (line_base most_rows most_lines) ≡ o → WriteOutcome d t room (clean_written (writing_of d t room))
    by (Built l) e = known (built_reads d (line_base most_rows most_lines) l e)
    by (Refusal number place) e = let u = refused_unread d e in rw (unread_written u) (unread u)

  -- ---- and wherever it is
  pub write_only : {a : Written} → WriteOutcome d t room a → clean_written (writing_of d t room) ≡ a
  unfolding clean_written clean_fitted
  write_only (unread u) = rw (unread_written u)
  write_only (other_table {s = s} r h) = by (begins_table (table_of s.variables) t) refl where
    by : (q : Bool) → begins_table (table_of s.variables) t ≡ q → clean_written (writing_of d t room) ≡ Refused 40 0
    by true e = absurd (h (begins_is (table_of s.variables) t e))
    by false e = rw (written_other r e)
  write_only (too_large {s = s} r h k) = rw (written_fitted r h, lt-ltb 1048576 (length (clean_of d s)) k)
  write_only (short_room {s = s} r h k l) =
      rw (written_fitted r h, le-ltb 1048576 (length (clean_of d s)) k, lt-ltb room (length (clean_of d s)) l)
  write_only (all_written {s = s} r h k l) =
      rw (written_fitted r h, le-ltb 1048576 (length (clean_of d s)) k, le-ltb room (length (clean_of d s)) l)
