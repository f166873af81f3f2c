-- A FILE AS EACH OF ITS RECORDS: found one by one by the next-record call, and judged one by one by the record call.
use Rattle.std.specs.Prelude.{◌≡◌, true, false, List, ℕ, ◌+◌, ◌-◌, ℤ, take, drop}
use Rattle.cuts.specs.declared.Next.TheVariants.{Ended, Unended, Nothing}
use Rattle.cuts.specs.rule.Cut.{next_of}
use Rattle.records.specs.rule.Verdict.{refused, verdict_of}
use Rattle.files.specs.rule.File.{FileVerdict, sound_with, fault_in, first_length, is_sound}

-- whoever goes through d from a place on, behind n records, the first of `first` bytes, and ends at v: at each place the next record is
-- found, its length held beside the first one's, and its bytes are judged
pub data Driven (t : List ℤ) (d : List ℕ) : ℕ → ℕ → ℕ → FileVerdict → Type 0 where
  at_end_lem : {from n first : ℕ} → next_of d from ≡ Nothing → Driven t d from n first (sound_with n)
  without_end : {from n first a e : ℕ} → next_of d from ≡ Unended a e → Driven t d from n first (fault_in (n + 1) (refused 30))
  other_length : {from n first a e next : ℕ} → next_of d from ≡ Ended a e next → (e - a ≡ first_length n first (e - a) → ⊥)
      → Driven t d from n first (fault_in (n + 1) (refused 31))
  at_fault : {from n first a e next : ℕ} → next_of d from ≡ Ended a e next → e - a ≡ first_length n first (e - a)
      → is_sound (verdict_of t (take (e - a) (drop a d))) ≡ false
      → Driven t d from n first (fault_in (n + 1) (verdict_of t (take (e - a) (drop a d))))
  goes_on : {from n first a e next : ℕ} {v : FileVerdict} → next_of d from ≡ Ended a e next → e - a ≡ first_length n first (e - a)
      → is_sound (verdict_of t (take (e - a) (drop a d))) ≡ true → Driven t d next (n + 1) (first_length n first (e - a)) v
      → Driven t d from n first v

-- such a run, and where it ends
pub record Drive (t : List ℤ) (d : List ℕ) (from n first : ℕ) : Type 0 where
  pub verdict : FileVerdict
  pub run : Driven t d from n first verdict
