-- A place where nothing is to be passed: what begins there is neither a gap, nor a comment, nor a note. So whatever leads there by blanks
-- alone leads there by the readers of gaps and notes.
use Rattle.std.specs.Prelude.{◌≡◌, refl, List, ℕ, ◌+◌, ◌≤◌, ◌<◌, length, get_or, Ok}
use Rattle.std.proofs.Common.{sym, ap, ◌∙◌, arith}
use Rattle.ascii.specs.rule.Class.{upper_of}
use Rattle.scan.specs.rule.Text.{text}
use Rattle.scan.proofs.Texts.{text_kept, kept_byte}
use Rattle.marks.specs.declared.Inside.TheVariants.{Plain}
use Rattle.marks.specs.rule.Marks.{string_of}
use Rattle.tokens.specs.rule.Gap.{gap_at}
use Rattle.tokens.specs.Gap.{gap_on}
use Rattle.tokens.specs.Token.{of_skip, string_in, string_on}
use Rattle.tokens.proofs.Gaps.{gap_token}
use Rattle.statements.specs.Note.{notes_on}
use Rattle.statements.proofs.Notes.{notes_same, none_first, none_second}
use Rattle.steps.specs.Step.{place_in, gap_past, notes_past}

-- no gap begins here
abbrev pub Token : List ℕ → ℕ → Type 0
Token d n = gap_at d n ≡ Ok n

pub record Quiet (d : List ℕ) (n : ℕ) : Type 0 where
  pub within : n < length d
  pub above : 32 < get_or d n 0
  pub token : Token d n
  pub no_note : notes_on d (Ok n) ≡ Ok n

module _ (d : List ℕ) (at n : ℕ) (e : gap_at d at ≡ gap_at d n) where
  pub gap_to : Token d n → gap_past d at ≡ n
  unfolding gap_past place_in
  gap_to t = rw (e, t)

  pub notes_to : Quiet d n → notes_past d at ≡ n
  unfolding notes_past place_in
  notes_to q = rw (notes_same d at n e, q.no_note)

  -- a string that opens there
  pub string_to : n < length d → get_or d n 0 ≡ 34 → string_on d (Ok at) ≡ of_skip n (string_of Plain (text d (n + 1)))
  unfolding string_on gap_on string_in
  string_to h q = rw (
    e,
    gap_token d n h (omega arith) (λ z. omega arith),
    text_kept d n h (kept_byte (get_or d n 0) (omega arith)),
    q,
  )

-- a byte that begins neither a gap nor a note
pub quiet_byte : (d : List ℕ) (n : ℕ) → n < length d → 32 < get_or d n 0 → (get_or d n 0 ≡ 60 → ⊥) → (get_or d n 0 ≡ 78 → ⊥)
    → (get_or d n 0 ≡ 110 → ⊥) → Quiet d n
quiet_byte d n h a o f g = record { within = h; above = a; token = gap_token d n h a o; no_note = none_first d n h a o f g }

-- NA, as NAME begins
pub quiet_name : (d : List ℕ) (n : ℕ) → n + 1 < length d → get_or d n 0 ≡ 78 → get_or d (n + 1) 0 ≡ 65 → Quiet d n
unfolding upper_of
quiet_name d n h x y = record {
  within = omega arith;
  above = omega arith;
  token = gap_token d n (omega arith) (omega arith) (λ z. omega arith);
  no_note = none_second d n (omega arith) (omega arith) (rw x) (λ z. omega arith) h (omega arith) (λ z. omega arith) (λ z. omega arith);
}
