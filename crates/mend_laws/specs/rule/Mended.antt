-- THE MENDER'S LAWS (document 02, C-19), their words.
use Rattle.std.specs.Prelude.{◌≡◌, Bool, true, false, cond, List, [], ◌∷◌, ◌⊎◌, ℕ, ◌+◌, ◌*◌, ◌≤◌, ◌<◌, ℤ, length, get_or}
use Rattle.cuts.specs.declared.Terminator.{Terminator}
use Rattle.cuts.specs.rule.Records.{Records, over, record_and, records_of, length_of_first}
use Rattle.sound.specs.rule.Sound.{well_formed}
use Rattle.sound.specs.rule.Rows.{length_of}
use Rattle.records.specs.rule.Verdict.{Verdict, sound, refused, low_byte, bad_field}
use Rattle.faults.specs.declared.Fault.{Fault}
use Rattle.files.specs.rule.File.{FileVerdict, sound_with, bad_table, fault_in, record_verdict}
use Rattle.pieces.specs.rule.Pieces.{Piece}
use Rattle.mends.specs.rule.Mend.{is_empty, MendEntry, mend_entry, bytes_in, list_in, MendAnswer, done}
use Rattle.mends.specs.rule.Mend as mending

-- no byte of these is CR or LF; nor of any piece
pub data Unbroken : List ℕ → Type 0 where
  no_bytes : Unbroken []
  other_byte : {b : ℕ} {r : List ℕ} → (b ≡ 13 → ⊥) → (b ≡ 10 → ⊥) → Unbroken r → Unbroken (b ∷ r)

pub data AllUnbroken : List Piece → Type 0 where
  no_pieces : AllUnbroken []
  one_piece : {p : Piece} {ps : List Piece} → Unbroken p.bytes → AllUnbroken ps → AllUnbroken (p ∷ ps)

-- no byte of these is below 32
pub data NoneLow : List ℕ → Type 0 where
  nothing : NoneLow []
  plain : {b : ℕ} {r : List ℕ} → 32 ≤ b → NoneLow r → NoneLow (b ∷ r)

-- each record is ended, has n bytes, which are at least L, and none of them is below 32: no 30, 31, 22, 23
pub data Shaped (least n : ℕ) : Records → Type 0 where
  all_ended : Shaped least n over
  ended : {r : List ℕ} {rs : Records} → length r ≡ n → least ≤ n → NoneLow r → Shaped least n rs → Shaped least n (record_and r rs)

-- "A file whose line ends, lengths and bytes are sound"
pub record SoundLines (t : List ℤ) (d : List ℕ) : Type 0 where
  pub shaped : Shaped (length_of t) (length_of_first (records_of d)) (records_of d)

-- the same by the judge's own words: a record's verdict is none of 31, 22, 23
unfoldable pub none_of_three : Verdict → Bool
none_of_three sound = true
none_of_three (refused k) = false
none_of_three (low_byte p) = false
none_of_three (bad_field i x) = true

-- and no record of the file is judged 30, 31, 22 or 23, whatever its fields are, where the first has n bytes
pub data NoneOfFour (t : List ℤ) (n : ℕ) : Records → Type 0 where
  no_more_records : NoneOfFour t n over
  judged_by_fields : {r : List ℕ} {rs : Records} → none_of_three (record_verdict t n r) ≡ true → NoneOfFour t n rs
      → NoneOfFour t n (record_and r rs)

-- judged with no 30, 31, 22, 23: sound, by no table, or a field's fault
pub data ByFields : FileVerdict → Type 0 where
  sound_with_lem : {n : ℕ} → ByFields (sound_with n)
  by_no_table : ByFields bad_table
  in_a_field : {n i : ℕ} {x : Fault} → ByFields (fault_in n (bad_field i x))

-- the records that are kept, in order
unfoldable pub kept_of : List Piece → List (List ℕ)
kept_of [] = []
kept_of (p ∷ ps) = cond (is_empty p) (kept_of ps) (p.bytes ∷ kept_of ps)

-- ---- the list: "in input order", by place and then by kind (the kinds are 1 to 4)
abbrev pub order_of : MendEntry → ℕ
order_of x = 5 * x.place + x.kind

-- above n, and each above the one before it
pub data RisingEntries : ℕ → List MendEntry → Type 0 where
  no_more : {n : ℕ} → RisingEntries n []
  one_later : {n : ℕ} {x : MendEntry} {l : List MendEntry} → n < order_of x → RisingEntries (order_of x) l → RisingEntries n (x ∷ l)

-- what is to be listed of record n, which stands from the place `at` on, where every record gets w bytes and the terminator e
pub data Due (w : ℕ) (e : Terminator) (n at : ℕ) (p : Piece) : MendEntry → Type 0 where
  dropped : length p.bytes ≡ 0 → Due w e n at p (mend_entry 1 n at)
  low_byte_lem : (j : ℕ) → j < length p.bytes → get_or p.bytes j 0 < 32 → Due w e n at p (mend_entry 2 n (at + j))
  too_short : 1 ≤ length p.bytes → length p.bytes < w → Due w e n at p (mend_entry 3 n (at + length p.bytes))
  other_end : 1 ≤ length p.bytes → (e ≡ p.boundary → ⊥) → Due w e n at p (mend_entry 4 n (at + length p.bytes))

-- and of the pieces from record n on
pub data DueIn (w : ℕ) (e : Terminator) : ℕ → ℕ → List Piece → MendEntry → Type 0 where
  of_this : {n at : ℕ} {p : Piece} {ps : List Piece} {x : MendEntry} → Due w e n at p x → DueIn w e n at (p ∷ ps) x
  of_later : {n at : ℕ} {p : Piece} {ps : List Piece} {x : MendEntry}
      → DueIn w e (n + 1) (at + length p.bytes + p.boundary.size) ps x → DueIn w e n at (p ∷ ps) x

-- an entry stands in a list
pub data In (x : MendEntry) : List MendEntry → Type 0 where
  first : {l : List MendEntry} → In x (x ∷ l)
  later : {y : MendEntry} {l : List MendEntry} → In x l → In x (y ∷ l)

-- ---- "Refusals: 20, then 70 output or list too short", each exactly when; else how many bytes and entries
pub data MendOutcome (t : List ℤ) (d : List ℕ) (room cells : ℕ) : MendAnswer → Type 0 where
  bad_table_lem : well_formed t ≡ false → MendOutcome t d room cells (mending.refused 20)
  no_room : well_formed t ≡ true → (room < length (bytes_in t d)) ⊎ (cells < 3 * length (list_in t d))
      → MendOutcome t d room cells (mending.refused 70)
  is_mended : well_formed t ≡ true → length (bytes_in t d) ≤ room → 3 * length (list_in t d) ≤ cells
      → MendOutcome t d room cells (done (length (bytes_in t d)) (length (list_in t d)))
