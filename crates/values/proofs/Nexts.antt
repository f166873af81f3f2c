-- A digit right here is the token that is next: no note and no END.
use Rattle.std.specs.Prelude.{Ok}
use mathlib.Core.Path.{◌≡◌, refl, sym}
use mathlib.Core.List.{List, [], ◌∷◌}
use Prim.Native.Nat.{ℕ, ◌≤◌, ◌<◌}
use native.Mathlib.Omega.{arith}
use lib.ListN.{length, get_or}
use borrow.Author.Tests.{lt-ltb, ne_eqb}
use Rattle.ascii.specs.rule.Class.{upper_of}
use Rattle.scan.specs.rule.Word.{word_of, word_at}
use Rattle.scan.proofs.Texts.{text_kept, kept_byte}
use Rattle.tokens.specs.declared.Choice.TheVariants.{Left}
use Rattle.tokens.specs.Gap.{gap_on}
use Rattle.tokens.specs.Token.{choice_of}
use Rattle.tokens.proofs.Gaps.{gap_token}
use Rattle.statements.specs.rule.Words.{NOTE, END}
use Rattle.statements.specs.Note.{notes_on}
use Rattle.statements.proofs.Notes.{notes_done}

module _ (d : List ℕ) (at : ℕ) (h : at < length d) (l : 48 ≤ get_or d at 0) (m : get_or d at 0 ≤ 57) where
  no_word : (x : ℕ) (w : List ℕ) → 65 ≤ x → choice_of d (Ok at) (x ∷ w) ≡ Left
  unfolding choice_of word_at word_of upper_of
  no_word x w g = rw (
    text_kept d at h (kept_byte (get_or d at 0) (omega arith)),
    lt-ltb (get_or d at 0) 97 (omega arith),
    ne_eqb (get_or d at 0) x (λ e. omega arith),
  )

  no_note : choice_of d (Ok at) NOTE ≡ Left
  no_note = no_word 78 (79 ∷ 84 ∷ 69 ∷ []) (omega arith)

  pub digit_next : (notes_on d (Ok at) ≡ Ok at) × (choice_of d (Ok at) END ≡ Left)
  unfolding notes_on gap_on
  digit_next = (
    rw (gap_token d at h (omega arith) (λ e. omega arith)) (notes_done d (Ok at) (sym no_note) refl),
    no_word 69 (78 ∷ 68 ∷ []) (omega arith),
  )
