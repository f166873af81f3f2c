-- The round trip (document 02, C-23): "For every sound file under a table with no shared value places, importing its export gives records
-- whose rows read as the originals."
use Rattle.std.specs.Prelude.{◌≡◌, true, List, [], ◌∷◌, ℕ, ◌<◌, ℤ, length, take}
use Rattle.cuts.specs.rule.Records.{over, records_of}
use Rattle.sound.specs.rule.Sound.{well_formed}
use Rattle.sound.specs.rule.Rows.{rows_of, length_of}
use Rattle.sharing.specs.rule.Sharing.{shares_none}
use Rattle.records.specs.rule.Value.{reading_at}
use Rattle.file_laws.specs.rule.Files.{records_before}
use Rattle.exports.specs.rule.Text.{export_text}
use Rattle.import_rule.specs.rule.Text.{TextSays, accepts, file_bytes}
use Rattle.imports.specs.rule.Import.{import_says}

-- a table whose rows share no value place
pub record Table (t : List ℤ) : Type 0 where
  pub formed : well_formed t ≡ true
  pub unshared : shares_none t (rows_of t) ≡ true

-- as many records, one by one of L bytes each, whose rows read as those of the others
pub data ReadAs (t : List ℤ) : List (List ℕ) → List (List ℕ) → Type 0 where
  none_left : ReadAs t [] []
  one_by_one : {r s : List ℕ} {rs ss : List (List ℕ)} → length s ≡ length_of t
      → ((j : ℕ) → j < rows_of t → reading_at t j s ≡ reading_at t j r) → ReadAs t rs ss → ReadAs t (r ∷ rs) (s ∷ ss)

-- what a text says is accepted, and its records read as these
pub record ReadBack (t : List ℤ) (rs : List (List ℕ)) (says : TextSays) : Type 0 where
  pub records : List (List ℕ)
  pub is : says ≡ accepts records
  pub reads : ReadAs t rs records

-- THE ROUND TRIP of a file: its records, and what the import of its export says
pub record Returned (def : List ℕ) (t : List ℤ) (d : List ℕ) : Type 0 where
  pub originals : List (List ℕ)
  pub are : records_of d ≡ records_before originals over
  pub imported : ReadBack t originals (import_says def t (export_text def t d))

-- and by two calls, the one's buffer lent to the other: so many records, in so many bytes at the second buffer's start, that read as those
-- of the file
pub record CameBack (t : List ℤ) (d back : List ℕ) (count long : ℕ) : Type 0 where
  pub originals : List (List ℕ)
  pub are : records_of d ≡ records_before originals over
  pub records : List (List ℕ)
  pub reads : ReadAs t originals records
  pub counted : count ≡ length records
  pub stand : take long back ≡ file_bytes records
