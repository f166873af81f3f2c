-- EXACTLY WHEN: each verdict of the call, with what it says in the papers' words.
use Rattle.std.specs.Prelude.{◌≡◌, true, false, List, ℕ, ◌<◌, ℤ}
use Rattle.places.specs.rule.Places.{Out, Apart}
use Rattle.sound.specs.rule.Sound.{well_formed}
use Rattle.sound.specs.rule.Rows.{rows_of}
use Rattle.records.specs.rule.Verdict.{Verdict, refused, RecordJudged}
use Rattle.sharing.specs.rule.Sharing.{places_at}

-- "two rows share a value place": it is one of either's
pub record TwoShare (t : List ℤ) : Type 0 where
  pub first : ℕ
  pub second : ℕ
  pub place : ℕ
  pub ordered : first < second
  pub there : second < rows_of t
  pub of_first : Out place (places_at t (rows_of t) first) → ⊥
  pub of_second : Out place (places_at t (rows_of t) second) → ⊥

-- "no two rows share a value place"
abbrev pub NoTwoShare : List ℤ → Type 0
NoTwoShare t = (i j : ℕ) → i < j → j < rows_of t → Apart (places_at t (rows_of t) i) (places_at t (rows_of t) j)

-- 20; 90; else what judging the record answers
pub data NormalOutcome (t : List ℤ) (s : List ℕ) : Verdict → Type 0 where
  not_formed : well_formed t ≡ false → NormalOutcome t s (refused 20)
  two_share : well_formed t ≡ true → TwoShare t → NormalOutcome t s (refused 90)
  as_judged : {v : Verdict} → well_formed t ≡ true → NoTwoShare t → RecordJudged t s v → NormalOutcome t s v
