-- Document 02, C-19: "Mend a damaged data file". Each sentence of the request stands before the definition that states it; records are the
-- pieces between boundaries (crate `pieces`).
use Rattle.std.specs.Prelude.{◌≡◌, Bool, true, false, cond, ◌&&◌, ◌||◌, List, [], ◌∷◌, ◌++◌, map, ℕ, ◌+◌, ◌-◌, ◌*◌, eqb, ltb, ℤ, pos}
use Rattle.std.specs.Prelude.{length, drop}
use Rattle.cuts.specs.declared.Terminator.{Terminator}
use Rattle.cuts.specs.rule.Cut.{two_bytes, terminator_of}
use Rattle.cuts.specs.rule.Records.{terminator_bytes}
use Rattle.fields.specs.rule.Field.{spaces}
use Rattle.sound.specs.rule.Sound.{well_formed}
use Rattle.sound.specs.rule.Rows.{length_of}
use Rattle.pieces.specs.rule.Pieces.{Piece, pieces_of}
use Rattle.mends.specs.declared.Mended.{Mended}
use Rattle.mends.specs.declared.Mended.TheVariants as M

-- "the first terminator met (CR LF if there is none)"
unfoldable pub ending_of : List ℕ → Terminator
ending_of d = cond (eqb (terminator_of d).size 0) (two_bytes 13 10) (terminator_of d)

-- "replaces bytes below 32 by spaces"
unfoldable pub plain_byte : ℕ → ℕ
plain_byte b = cond (ltb b 32) 32 b

-- "to the longest and at least to L": the width of every record that is kept
unfoldable pub width_of : ℕ → List Piece → ℕ
width_of w [] = w
width_of w (p ∷ ps) = width_of (cond (ltb w (length p.bytes)) (length p.bytes) w) ps

-- a record without bytes
abbrev pub is_empty : Piece → Bool
is_empty p = eqb (length p.bytes) 0

-- "pads every record with spaces ..., and ends each with the first terminator"
unfoldable pub mended_record : ℕ → Terminator → List ℕ → List ℕ
mended_record w e r = map plain_byte r ++ spaces (w - length r) ++ terminator_bytes e

-- "drops empty records"
abbrev pub record_of : ℕ → Terminator → Piece → List ℕ
record_of w e p = cond (is_empty p) [] (mended_record w e p.bytes)

-- the mended bytes of the pieces, by a width and a terminator
unfoldable pub mended_of : ℕ → Terminator → List Piece → List ℕ
mended_of w e [] = []
mended_of w e (p ∷ ps) = record_of w e p ++ mended_of w e ps

-- ---- THE LIST: "kind (1 dropped, 2 byte, 3 pad, 4 terminator), record and byte place"
pub record MendEntry : Type 0 where
  pub kind : ℕ
  pub number : ℕ
  pub place : ℕ

abbrev pub mend_entry : ℕ → ℕ → ℕ → MendEntry
mend_entry k n p = record { kind = k; number = n; place = p }

-- an entry where a test holds
unfoldable pub listed_if : Bool → MendEntry → List MendEntry
listed_if true x = x ∷ []
listed_if false x = []

-- a 2 for each byte below 32; the first of them stands at the place `at`
unfoldable pub byte_entries : ℕ → ℕ → List ℕ → List MendEntry
byte_entries n at [] = []
byte_entries n at (b ∷ r) = listed_if (ltb b 32) (mend_entry 2 n at) ++ byte_entries n (at + 1) r

-- the file's terminator stands behind a record
unfoldable pub same_boundary : Terminator → Terminator → Bool
same_boundary e b = eqb e.size b.size && eqb e.first b.first && eqb e.second b.second

-- "a dropped one has only its 1"; "1, 3 and 4 stand at the record's end": record n, from the place `at` on
unfoldable pub piece_entries : ℕ → Terminator → ℕ → ℕ → Piece → List MendEntry
piece_entries w e n at p =
    cond (is_empty p) (mend_entry 1 n at ∷ [])
    (byte_entries n at p.bytes
    ++ listed_if (ltb (length p.bytes) w) (mend_entry 3 n (at + length p.bytes))
    ++ cond (same_boundary e p.boundary) [] (mend_entry 4 n (at + length p.bytes) ∷ []))

-- "in input order": the pieces from record n on, the first of them at the place `at`
unfoldable pub mend_entries : ℕ → Terminator → ℕ → ℕ → List Piece → List MendEntry
mend_entries w e n at [] = []
mend_entries w e n at (p ∷ ps) = piece_entries w e n at p ++ mend_entries w e (n + 1) (at + length p.bytes + p.boundary.size) ps

-- an entry is three numbers of the lent list
unfoldable pub entry_numbers : List MendEntry → List ℤ
entry_numbers [] = []
entry_numbers (x ∷ l) = pos x.kind ∷ pos x.number ∷ pos x.place ∷ entry_numbers l

-- ---- THE CALL, on a table t and a data file d
unfoldable pub width_of_records : List ℤ → List ℕ → ℕ
width_of_records t d = width_of (length_of t) (pieces_of d)

unfoldable pub bytes_in : List ℤ → List ℕ → List ℕ
bytes_in t d = mended_of (width_of_records t d) (ending_of d) (pieces_of d)

unfoldable pub list_in : List ℤ → List ℕ → List MendEntry
list_in t d = mend_entries (width_of_records t d) (ending_of d) 1 0 (pieces_of d)

-- "20, then 70 output or list too short"; else how many bytes and entries there are
pub data MendAnswer : Type 0 where
  done : ℕ → ℕ → MendAnswer
  refused : ℕ → MendAnswer

unfoldable pub mend_said : Mended → MendAnswer
mend_said (M.Done b n) = done b n
mend_said M.BadTable = refused 20
mend_said M.NoRoom = refused 70

unfoldable pub mended_as : List ℤ → List ℕ → ℕ → ℕ → MendAnswer
mended_as t d room cells =
    cond (well_formed t)
    (cond (ltb room (length (bytes_in t d)) || ltb cells (3 * length (list_in t d))) (refused 70)
    (done (length (bytes_in t d)) (length (list_in t d))))
    (refused 20)

-- a buffer afterwards: "before anything is written" on a refusal, and what lies beyond is kept
unfoldable pub kept_or_new : {A : Type 0} → MendAnswer → List A → List A → List A
kept_or_new (done b n) new old = new ++ drop (length new) old
kept_or_new (refused k) new old = old

-- THE PROMISE of the call
pub record Mends (t : List ℤ) (d out out' : List ℕ) (list list' : List ℤ) (r : Mended) : Type 0 where
  pub says : mend_said r ≡ mended_as t d (length out) (length list)
  pub mended : out' ≡ kept_or_new (mended_as t d (length out) (length list)) (bytes_in t d) out
  pub listed : list' ≡ kept_or_new (mended_as t d (length out) (length list)) (entry_numbers (list_in t d)) list
