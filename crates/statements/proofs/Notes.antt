-- Notes are the first note, and then the notes from its end on.
use Rattle.std.specs.Prelude.{Ok, Err}
use mathlib.Core.Path.{◌≡◌, refl, ◌∙◌, sym}
use mathlib.Core.Bool.{Bool, true, false, ◌||◌}
use mathlib.Core.List.{List, [], ◌∷◌}
use Prim.Native.Nat.{ℕ, zero, suc, ◌+◌, ◌<◌, ◌≤◌}
use native.Mathlib.Omega.{arith}
use lib.Dec.{eqb}
use lib.ListN.{length, get_or}
use borrow.Author.Tests.{eqb-true, eqb-false}
use Rattle.ascii.specs.rule.Class.{upper_of}
use Rattle.scan.specs.declared.Word.TheVariants.{Not}
use Rattle.scan.specs.rule.Word.{word_at}
use Rattle.scan.proofs.Texts.{text_kept, kept_byte}
use Rattle.scan.proofs.Words.{upper_miss, word_missed, word_next, word_not}
use Rattle.scan.specs.rule.Loop.{Again}
use Rattle.scan.proofs.Loops.{loop_again, loop_done}
use Rattle.tokens.specs.declared.Fault.{Fault}
use Rattle.tokens.specs.declared.Choice.{Choice}
use Rattle.tokens.specs.declared.Choice.TheVariants.{Taken, Left}
use Rattle.tokens.specs.rule.Gap.{gap_at, OrFault}
use Rattle.tokens.specs.Gap.{left, gap_on}
use Rattle.tokens.specs.Token.{choice_of, string_on, past_string}
use Rattle.tokens.proofs.Gaps.{gap_token}
use Rattle.tokens.proofs.Aheads.{taken_less, gap_left, string_left}
use Rattle.statements.specs.rule.Words.{NOTE}
use Rattle.statements.specs.Note.{past_note, note_step, notes_here, notes_on}

-- an N, in capitals or small
pub an_n : (b : ℕ) → (eqb b 78 || eqb b 110) ≡ true → (upper_of b ≡ 78) × (b ≡ 60 → ⊥)
unfolding upper_of
an_n b = by (eqb b 78) (eqb b 110) refl refl where
  by : (p q : Bool) → eqb b 78 ≡ p → eqb b 110 ≡ q → (p || q) ≡ true → (upper_of b ≡ 78) × (b ≡ 60 → ⊥)
  by true q e f g = let h = eqb-true b 78 e in (rw h, λ i. omega arith)
  by false true e f g = let h = eqb-true b 110 f in (rw h, λ i. omega arith)
  by false false e f g = let z : ◌≡◌ {A = ℕ} 0 1 = cc in absurd (omega arith)

pub no_n : (b : ℕ) → (eqb b 78 || eqb b 110) ≡ false → (b ≡ 78 → ⊥) × (b ≡ 110 → ⊥)
no_n b = by (eqb b 78) (eqb b 110) refl refl where
  by : (p q : Bool) → eqb b 78 ≡ p → eqb b 110 ≡ q → (p || q) ≡ false → (b ≡ 78 → ⊥) × (b ≡ 110 → ⊥)
  by true q e f g = let z : ◌≡◌ {A = ℕ} 0 1 = cc in absurd (omega arith)
  by false true e f g = let z : ◌≡◌ {A = ℕ} 0 1 = cc in absurd (omega arith)
  by false false e f g = (eqb-false b 78 e, eqb-false b 110 f)

module _ (d : List ℕ) where
  -- where gaps end alike, notes do
  pub notes_same : (n m : ℕ) → gap_at d n ≡ gap_at d m → notes_on d (Ok n) ≡ notes_on d (Ok m)
  unfolding notes_on gap_on
  notes_same n m e = rw e

  past_left : (m : ℕ) → left d (past_note d m) ≤ left d (Ok m)
  unfolding past_note
  past_left m = omega (arith, gap_left d (past_string (string_on d (Ok m))), string_left d (Ok m))

  note_less : (t t' : OrFault ℕ) → note_step d (choice_of d t NOTE) t ≡ Again t' → left d t' < left d t
  note_less t t' e = by (choice_of d t NOTE) refl e where
    by : (k : Choice) → choice_of d t NOTE ≡ k → note_step d k t ≡ Again t' → left d t' < left d t
    by (Taken m) f e = let q : past_note d m ≡ t' = cc in rw (← q) (omega (arith, past_left m, taken_less d t 78 (79 ∷ 84 ∷ 69 ∷ []) f))
    by Left f e = let z : ◌≡◌ {A = ℕ} 0 1 = cc in absurd (omega arith)

  module _ (t : OrFault ℕ) {k : Choice} (e : k ≡ choice_of d t NOTE) where
    pub note_left : {m : ℕ} → k ≡ Taken m → left d (past_note d m) < left d t
    note_left {m} f = omega (arith, past_left m, taken_less d t 78 (79 ∷ 84 ∷ 69 ∷ []) (sym e ∙ f))

    pub notes_again : {m : ℕ} → k ≡ Taken m → notes_here d t ≡ notes_here d (past_note d m)
    unfolding notes_here
    notes_again {m} f = loop_again (λ t. note_step d (choice_of d t NOTE) t) (Ok 0) (left d) note_less {s = t} {s' = past_note d m}
        (rw (sym e ∙ f))

    pub notes_done : k ≡ Left → notes_here d t ≡ t
    unfolding notes_here
    notes_done f = loop_done (λ t. note_step d (choice_of d t NOTE) t) (Ok 0) (left d) note_less {s = t} (rw (sym e ∙ f))

  pub notes_refused : (f : Fault) → notes_on d (Err f) ≡ Err f
  unfolding notes_on gap_on choice_of
  notes_refused f = notes_done (Err f) refl refl

  -- ---- a byte that opens no comment is the token that is next, and no note where it is no N, or no O follows it
  module _ (at : ℕ) (h : at < length d) (l : 32 < get_or d at 0) where
    none_by : (get_or d at 0 ≡ 60 → ⊥) → word_at d at NOTE ≡ Not → notes_on d (Ok at) ≡ Ok at
    unfolding notes_on gap_on choice_of
    none_by o e = rw (gap_token d at h l o) (notes_done (Ok at) {k = Left} (rw e) refl)

    pub none_first : (get_or d at 0 ≡ 60 → ⊥) → (get_or d at 0 ≡ 78 → ⊥) → (get_or d at 0 ≡ 110 → ⊥) → notes_on d (Ok at) ≡ Ok at
    unfolding word_at
    none_first o f g = none_by o (word_missed d at NOTE h (λ e. omega arith) (omega arith) (upper_miss (get_or d at 0) 78 f g))

    pub none_second : upper_of (get_or d at 0) ≡ 78 → (get_or d at 0 ≡ 60 → ⊥) → at + 1 < length d → 64 < get_or d (at + 1) 0
        → (get_or d (at + 1) 0 ≡ 79 → ⊥) → (get_or d (at + 1) 0 ≡ 111 → ⊥) → notes_on d (Ok at) ≡ Ok at
    unfolding word_at
    none_second u o k m f g =
        none_by o
        (word_next at NOTE 0 (text_kept d at h (kept_byte (get_or d at 0) (omega arith))) (omega arith) u
        ∙ word_not (at + 1) NOTE 1 (text_kept d (at + 1) k (kept_byte (get_or d (at + 1) 0) (omega arith))) (omega arith)
        (upper_miss (get_or d (at + 1) 0) 79 f g))

  -- ---- behind notes no more is left
  notes_within : (f : ℕ) (t : OrFault ℕ) → left d t < f → left d (notes_here d t) ≤ left d t
  notes_within zero t h = absurd (omega arith)
  notes_within (suc f) t h = by (choice_of d t NOTE) refl (notes_within f) where
    by : (k : Choice) → choice_of d t NOTE ≡ k → ((u : OrFault ℕ) → left d u < f → left d (notes_here d u) ≤ left d u)
        → left d (notes_here d t)
        ≤ left d t
    by (Taken m) e ih =
        let l = note_left t refl e in
        let j = ih (past_note d m) (omega arith) in
        rw (notes_again t refl e) (omega arith)
    by Left e ih = rw (notes_done t refl e) (omega arith)

  pub notes_left : (t : OrFault ℕ) → left d (notes_on d t) ≤ left d t
  unfolding notes_on
  notes_left t = omega (arith, notes_within (suc (left d (gap_on d t))) (gap_on d t) (omega arith), gap_left d t)
