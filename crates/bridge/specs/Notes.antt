-- Notes and what stands behind them: the turns that both have are enough, since each note leaves less to read.
use Rattle.std.specs.Prelude.{◌≡◌, List, Ok, Err}
use Rattle.std.proofs.Math.Path.{refl}
use Rattle.std.proofs.Common.{◌∙◌, arith}
use Prim.Native.Nat.{ℕ, zero, suc, ◌-◌, ◌<◌}
use Rattle.std.proofs.Math.ListN.{length}
use Rattle.scan.specs.rule.Loop.{Again, Done}
use Rattle.scan.specs.rule.Word.{word_at}
use Rattle.scan.specs.declared.Word.{Word}
use Rattle.scan.specs.declared.Word.TheVariants as spelled
use Rattle.tokens.specs.rule.Gap.{gap_at, OrFault}
use Rattle.tokens.specs.Gap.{gap_on, left}
use Rattle.tokens.specs.Token.{choice_of}
use Rattle.statements.specs.rule.Words.{NOTE}
use Rattle.statements.specs.Note.{past_note, notes_here, notes_on, statement_on, text_on}
use Rattle.statements.proofs.Notes.{note_left, notes_again, notes_done}
use Rattle.reading.specs.rule.Result.{Result, Is, Not, bind, turn, repeat}
use Rattle.survey.specs.rule.Survey.{KeptText}
use Rattle.reading.specs.rule.Token.{passed, on_word, gap, string}
use Rattle.reading.specs.rule.Statement.{note, notes, statement, phrase}
use Rattle.bridge.specs.Tokens.{to_reading, to_phrase, past_string_lem, gap_on_lem, here_on, string_on_lem}

module _ (d : List ℕ) where
  -- a note behind its word, and the gap after it
  pub past_on : (m : ℕ) → past_note d m ≡ to_reading (bind (string d m) λ t. gap d)
  unfolding past_note
  past_on m = rw (string_on_lem d (Is m m), past_string_lem (string d m)) (gap_on_lem d (string d m))

  pub notes_refused : (f : Rattle.tokens.specs.declared.Fault.Fault) → notes_here d (Err f) ≡ Err f
  unfolding choice_of
  notes_refused f = notes_done d (Err f) refl refl

  turns : (f n : ℕ) → length d - n < f → notes_here d (Ok n) ≡ to_reading (repeat f (note d) tt n)
  unfolding repeat left choice_of
  turns zero n h = absurd (omega arith)
  turns (suc f) n h = by (word_at d n NOTE) refl (turns f) where
    on : (r : Result Unit) → left d (to_reading r) < suc (length d - n)
        → ((k : ℕ) → length d - k < f → notes_here d (Ok k) ≡ to_reading (repeat f (note d) tt k))
        → notes_here d (to_reading r) ≡ to_reading (bind (bind r λ a k. Is (Again tt) k) (turn (repeat f (note d))))
    on (Is a k) l ih = ih k (omega arith)
    on (Not g) l ih = notes_refused g

    behind : (m : ℕ) (s : Result KeptText) → past_note d m ≡ to_reading (bind s λ t. gap d) → left d (past_note d m) < suc (length d - n)
        → ((k : ℕ) → length d - k < f → notes_here d (Ok k) ≡ to_reading (repeat f (note d) tt k))
        → notes_here d (past_note d m) ≡ to_reading (bind (bind s λ t k. bind (gap d k) λ a k. Is (Again tt) k) (turn (repeat f (note d))))
    behind m (Is t k) e l ih = rw e (on (gap d k) (rw e at l) ih)
    behind m (Not g) e l ih = rw e (notes_refused g)

    by : (x : Word) → word_at d n NOTE ≡ x → ((k : ℕ) → length d - k < f → notes_here d (Ok k) ≡ to_reading (repeat f (note d) tt k))
        → notes_here d (Ok n) ≡ to_reading
        (bind (on_word (λ m. bind (string d m) λ t k. bind (gap d k) λ a k. Is (Again tt) k) (λ k. Is (Done tt) k) n x)
        (turn (repeat f (note d))))
    by (spelled.Matched m) e ih =
        notes_again d (Ok n) refl (rw e) ∙ behind m (string d m) (past_on m) (note_left d (Ok n) refl (rw e)) ih
    by spelled.Not e ih = notes_done d (Ok n) refl (rw e)

  pub notes_on_lem : {A : Type 0} (r : Result A) → notes_on d (to_reading r) ≡ to_reading (bind r λ a. notes d)
  unfolding notes_on notes gap_on
  notes_on_lem (Is a n) = by (gap_at d n) where
    by : (t : OrFault ℕ) → notes_here d t ≡ to_reading (bind (passed t) λ a. repeat (suc (length d)) (note d) tt)
    by (Ok m) = turns (suc (length d)) m (omega arith)
    by (Err f) = notes_refused f
  notes_on_lem (Not f) = notes_refused f

  -- ---- a statement's word, and its text
  pub statement_on_lem : {A : Type 0} (r : Result A) (w : List ℕ) → statement_on d (to_reading r) w ≡ to_reading (bind r λ a. statement d w)
  unfolding statement_on statement
  statement_on_lem (Is a n) w = rw (notes_on_lem (Is a n)) (here_on d (notes d n) w)
  statement_on_lem (Not f) w = rw (notes_on_lem {A = ℕ} (Not f)) (here_on d {A = ℕ} (Not f) w)

  pub phrase_on : {A : Type 0} (r : Result A) (w : List ℕ) → text_on d (to_reading r) w ≡ to_phrase (bind r λ a. phrase d w)
  unfolding text_on phrase
  phrase_on (Is a n) w = rw (statement_on_lem (Is a n) w) (string_on_lem d (statement d w n))
  phrase_on (Not f) w = rw (statement_on_lem {A = ℕ} (Not f) w) (string_on_lem d {A = ℕ} (Not f))
