-- `files::is_sound` meets its contract, case by case.
use mathlib.Core.Path.{◌≡◌, refl}
use mathlib.Core.Bool.{false}
use Rattle.records.specs.declared.Judged.{Judged}
use Rattle.records.specs.declared.Judged.TheVariants.{Sound, BadTable, ShortRecord, LowByte, Faulty}
use Rattle.records.specs.rule.Verdict.{judged_as}
use Rattle.files.specs.rule.File.{is_sound}
use Rattle.files.proofs.is_sound.Goals as goal

not_sound : (j : Judged) → (j ≡ Sound → ⊥) → false ≡ is_sound (judged_as j)
unfolding is_sound judged_as
not_sound Sound n = absurd (n refl)
not_sound BadTable n = refl
not_sound ShortRecord n = refl
not_sound (LowByte p) n = refl
not_sound (Faulty i x) n = refl

pub returns-in-Sound : goal.returns-in-Sound
unfolding is_sound judged_as
returns-in-Sound c = rw c.in-Sound.is

pub returns-in_default : goal.returns-in_default
returns-in_default c = not_sound _ c.in_default.not-Sound
