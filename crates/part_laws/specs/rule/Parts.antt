-- A FILE IN PARTS: cut at any places into parts, each beginning where the one before left off. Where a part left off is told by its count:
-- each sound record has the first one's length and its terminator.
use Rattle.std.specs.Prelude.{◌≡◌, List, [], ◌∷◌, ℕ, ◌+◌, ◌*◌, ℤ, take, drop}
use Rattle.cuts.specs.rule.Cut.{no_ending, terminator_of}
use Rattle.files.specs.rule.File.{sound_with, bad_table, fault_in}
use Rattle.parts.specs.rule.Part.{numbered, PartVerdict, no_terminator, judged_as, part_verdict}
use Rattle.part_laws.specs.rule.Exactly.{IsNumber}

-- what is told of a part behind n records: its fault, shifted by them, or, where it is sound, what `rest` says behind its own
unfoldable pub followed : ℕ → PartVerdict → (ℕ → PartVerdict) → PartVerdict
followed n no_terminator rest = no_terminator
followed n (judged_as (sound_with m)) rest = rest m
followed n (judged_as bad_table) rest = judged_as bad_table
followed n (judged_as (fault_in j v)) rest = judged_as (fault_in (n + j) v)

-- the verdict on s, which is left of a file behind n records, part by part: each but the last takes so many bytes, if there are so many,
-- and the next begins where it left off; the last takes all that is left, and is marked as the last
unfoldable pub in_parts : List ℤ → ℕ → ℕ → ℕ → List ℕ → List ℕ → PartVerdict
in_parts t terminator first n s [] = followed n (part_verdict t s terminator first 1) (λ m. judged_as (sound_with (n + m)))
in_parts t terminator first n s (size ∷ sizes) =
    followed n (part_verdict t (take size s) terminator first 0)
    (λ m. in_parts t terminator first (n + m) (drop (m * (first + (numbered terminator).size)) s) sizes)

-- the number of a file's terminator, or that it has no CR and no LF
pub data FileNumber (d : List ℕ) : Type 0 where
  has_none : terminator_of d ≡ no_ending → FileNumber d
  has : (k : ℕ) → IsNumber k → terminator_of d ≡ numbered k → FileNumber d
