-- `files::goes_on` meets its contract, case by case.
use mathlib.Core.Path.{◌≡◌, refl}
use mathlib.Core.Bool.{false}
use Prim.Native.Nat.{ℕ}
use Rattle.files.specs.declared.Judgement.{Judgement}
use Rattle.files.specs.declared.Judgement.TheVariants.{Sound, BadTable, Unended, OtherLength, Fault}
use Rattle.files.specs.File.{sound_so_far}
use Rattle.files.specs.rule.File.{file_said}
use Rattle.files.proofs.goes_on.Goals as goal

not_sound : (j : Judgement) → ((n : ℕ) → j ≡ Sound n → ⊥) → false ≡ sound_so_far (file_said j)
unfolding sound_so_far file_said
not_sound (Sound n) h = absurd (h n refl)
not_sound BadTable h = refl
not_sound (Unended n) h = refl
not_sound (OtherLength n) h = refl
not_sound (Fault n v) h = refl

pub returns-in-Sound : goal.returns-in-Sound
unfolding sound_so_far file_said
returns-in-Sound c = rw c.in-Sound.is

pub returns-in_default : goal.returns-in_default
returns-in_default c = not_sound _ c.in_default.not-Sound
