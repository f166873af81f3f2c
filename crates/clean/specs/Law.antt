-- What the call keeps: the text measured, and the text stored.
use Rattle.std.specs.Prelude.{◌≡◌, refl, ◌⊎◌, Bool, true, false, cond, List, ◌++◌, ℕ, ◌+◌, ◌*◌, ◌≤◌, ◌<◌, ltb, ℤ, length, drop}
use Rattle.std.proofs.Common.{sym, ap, ◌∙◌, inl, inr, arith}
use borrow.Author.Tests.{lt-ltb, le-ltb}
use Rattle.below.specs.Below.{lt_or_le}
use Rattle.layout.specs.rule.Layout.{line_base, most_rows, most_lines}
use Rattle.survey.specs.rule.Survey.{Variable, Survey}
use Rattle.survey.specs.rule.Table.{table_of}
use Rattle.reading.specs.rule.Result.{Is}
use Rattle.reading.specs.rule.Whole.{survey_of}
use Rattle.values.specs.Room.{Unless}
use Rattle.laying.specs.declared.Rooms.TheVariants as rooms
use Rattle.bridge.specs.Lowest.{never}
use Rattle.laying.specs.rule.Begins.{begins_table}
use Rattle.definition.specs.declared.Against.{Against}
use Rattle.definition.specs.declared.Against.TheVariants.{Same, Other, Refused}
use Rattle.definition.specs.rule.Definition.{SssOutcome, Built, Refusal, sss_outcome}
use Rattle.definition.specs.rule.Against.{sss_held, sss_against}
use Rattle.grammar_laws.specs.Outcome.{Settles, read, too_long, stopped, misnamed, no_room, outcome_exactly}
use Rattle.grammar_laws.specs.Whole.{survey_is, definition_exactly}
use Rattle.sink.specs.rule.Sent.{Sent}
use Rattle.sink.specs.Sent.{sets_front}
use Rattle.clean_text.specs.rule.Clean.{clean_of}
use Rattle.fronts.specs.Front.{whole_text}
use Rattle.front_laws.specs.Read.{read_clean}
use Rattle.clean.specs.declared.Written.{Written}
use Rattle.clean.specs.declared.Written.TheVariants as written
use Rattle.clean.specs.rule.Written.{Writing, Text, clean_fitted, cleaned, clean_written, out_after}
use Rattle.clean.specs.rule.Written as rule
use Rattle.clean.specs.Most.{clean_most}

-- a claim, or it was said that few rows and lines are not enough
abbrev pub Perhaps : Type 0 → Type 0 → Type 0
Perhaps said claim = Unless said (Unit {0}) claim

-- a refusal of the rooms is one of the call; and the number of that one is 0
pub refused_against : {k p m q : ℕ} → rooms.Refused k p ≡ rooms.Refused m q → Refused k p ≡ Refused m q
refused_against {k} {p} {m} {q} e =
    let a : k ≡ m = cc in
    let b : p ≡ q = cc in
    rw (a, b)

pub zero_against : {k p : ℕ} → Refused 0 0 ≡ Refused k p → k ≡ 0
zero_against {k} {p} e = cc

-- how long a text is, up to one byte more than it may have
pub record Measured (s : List ℕ) (r : ℕ) : Type 0 where
  pub within : length s ≤ 1048576 → r ≡ length s
  pub beyond : 1048576 < length s → 1048576 < r

pub sent_measured : {s out out' : List ℕ} {r : ℕ} → Sent 1048577 out 0 s out' r → Measured s r
sent_measured a = record {
  within = λ h. let e = a.within (omega arith) in omega (arith, e);
  beyond = λ h. let e = a.beyond (omega arith) in omega (arith, e);
}

large : (s : List ℕ) (r : ℕ) → Measured s r → 1048576 < r → 1048576 < length s
large s r m h = by (lt_or_le 1048576 (length s)) where
  by : (1048576 < length s) ⊎ (length s ≤ 1048576) → 1048576 < length s
  by (inl l) = l
  by (inr l) = let e = m.within l in omega arith

within : (s : List ℕ) (r : ℕ) → Measured s r → r ≤ 1048576 → length s ≤ 1048576
within s r m h = by (lt_or_le 1048576 (length s)) where
  by : (1048576 < length s) ⊎ (length s ≤ 1048576) → length s ≤ 1048576
  by (inl l) = let e = m.beyond l in absurd (omega arith)
  by (inr l) = l

-- ---- 41, 42, and the text
module _ (s : List ℕ) (n r : ℕ) (m : Measured s r) where
  pub too_large : 1048576 < r → clean_fitted n s ≡ rule.Refusal 41 0
  unfolding clean_fitted
  too_large h = rw (lt-ltb 1048576 (length s) (large s r m h))

  pub too_short : r ≤ 1048576 → n < r → clean_fitted n s ≡ rule.Refusal 42 0
  unfolding clean_fitted
  too_short h g =
      let l = within s r m h in
      let e = m.within l in
      rw (le-ltb 1048576 (length s) l, lt-ltb n (length s) (omega arith))

  pub fits : r ≤ 1048576 → r ≤ n → (clean_fitted n s ≡ Text s) × (r ≡ length s)
  unfolding clean_fitted
  fits h g =
      let l = within s r m h in
      let e = m.within l in
      (rw (le-ltb 1048576 (length s) l, le-ltb n (length s) (omega arith)), e)

pub stored : {bound : ℕ} {s out out' : List ℕ} {r n : ℕ} → Sent bound out 0 s out' r → bound ≡ n + 1 → n ≡ length s → n ≤ length out
    → out' ≡ s ++ drop (length s) out
stored {s = s} {out = out} a b e h = a.stored (omega arith) (omega arith) ∙ sets_front out s (omega arith)

-- the same without measuring, where m bytes are enough for the text, are no 41 and have room
pub ample_stored : (s : List ℕ) {out out' : List ℕ} {m r : ℕ} → Sent (m + 1) out 0 s out' r → length s ≤ m → m ≤ 1048576 → m ≤ length out
    → (clean_fitted (length out) s ≡ Text s) × (r ≡ length s) × (out' ≡ s ++ drop (length s) out)
ample_stored s {out = out} a h l g = (
  (fits s (length out) (length s) (record { within = λ i. refl; beyond = λ i. i }) (omega arith) (omega arith)).0,
  (let e = a.within (omega arith) in omega (arith, e)),
  a.stored (omega arith) (omega arith) ∙ sets_front out s (omega arith),
)

-- ---- a table that is the definition's own: it was read, and its clean text is what is sent
read_survey : (d : List ℕ) (n : ℕ) {l : List Variable} {A : Type 0} → sss_outcome d n ≡ Built l
    → ((s : Survey) (m : ℕ) → survey_of d ≡ Is s m → l ≡ s.variables → A) → A
read_survey d n {l} {A} e f = by ((outcome_exactly d n (Built l)).0 e) refl where
  by : {o : SssOutcome} → Settles d n o → o ≡ Built l → A
  by (too_long h) q = never cc
  by (stopped h z) q = never cc
  by (misnamed h x y z) q = never cc
  by (no_room h x y z) q = never cc
  by (read {s = s} {m = m} h x w k) q = f s m (survey_is d x) cc

pub same_clean : (d : List ℕ) (t : List ℤ) (n : ℕ) → sss_against d t ≡ Same → cleaned d n (survey_of d) ≡ clean_fitted n (whole_text d)
unfolding sss_against
same_clean d t n e = by (sss_outcome d (line_base most_rows most_lines)) refl e where
  by : (o : SssOutcome) → sss_outcome d (line_base most_rows most_lines) ≡ o → sss_held o t ≡ Same → cleaned d n (survey_of d)
      ≡ clean_fitted n (whole_text d)
  by (Built l) i j =
      read_survey d (line_base most_rows most_lines) i λ s m q k.
      rw (q, read_clean d (line_base most_rows most_lines) q (i ∙ ap Built k))
  by (Refusal k p) i j = never cc

pub same_most : (d : List ℕ) (t : List ℤ) → sss_against d t ≡ Same → length (whole_text d) ≤ 3 * length d
unfolding sss_against
same_most d t e = by (sss_outcome d (line_base most_rows most_lines)) refl e where
  by : (o : SssOutcome) → sss_outcome d (line_base most_rows most_lines) ≡ o → sss_held o t ≡ Same → length (whole_text d) ≤ 3 * length d
  by (Built l) i j =
      read_survey d (line_base most_rows most_lines) i λ s m q k.
      rw (read_clean d (line_base most_rows most_lines) q (i ∙ ap Built k)) (clean_most d ((definition_exactly d s m).0 q).0)
  by (Refusal k p) i j = never cc
