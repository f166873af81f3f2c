-- THE READINGS' OWN CASES, computed in the definitions, where L is 3. 97 to 100 are a to d; 10 is LF, 13 CR, 9 a tab.
use Rattle.std.specs.Prelude.{◌≡◌, refl, List, [], ◌∷◌, ℕ}
use Rattle.cuts.specs.rule.Cut.{begins_with, terminator_at, terminator_of}
use Rattle.cuts.specs.rule.Records.{terminator_bytes}
use Rattle.fields.specs.rule.Field.{spaces}
use Rattle.pieces.specs.rule.Pieces.{boundary_at, first_piece, pieces_behind, onto, cut_from, pieces_of}
use Rattle.mends.specs.rule.Mend.{ending_of, plain_byte, width_of, mended_record, mended_of}
use Rattle.mends.specs.rule.Mend.{MendEntry, mend_entry, listed_if, byte_entries, same_boundary, piece_entries, mend_entries}

abbrev mended : List ℕ → List ℕ
mended d = mended_of (width_of 3 (pieces_of d)) (ending_of d) (pieces_of d)

abbrev listed : List ℕ → List MendEntry
listed d = mend_entries (width_of 3 (pieces_of d)) (ending_of d) 1 0 (pieces_of d)

-- a file, what it is mended to, and the list
pub record Mends (d out : List ℕ) (list : List MendEntry) : Type 0 where
  pub bytes : mended d ≡ out
  pub entries : listed d ≡ list

pub record Cases : Type 0 where
  -- a sound file comes out as it is, with nothing listed
  pub sound_stays : Mends (97 ∷ 98 ∷ 99 ∷ 10 ∷ 97 ∷ 98 ∷ 100 ∷ 10 ∷ []) (97 ∷ 98 ∷ 99 ∷ 10 ∷ 97 ∷ 98 ∷ 100 ∷ 10 ∷ []) []
  -- "pairs first": LF CR LF is LF CR, then LF with an empty record between
  pub pairs_first : Mends (97 ∷ 98 ∷ 99 ∷ 10 ∷ 13 ∷ 10 ∷ []) (97 ∷ 98 ∷ 99 ∷ 10 ∷ 13 ∷ []) (mend_entry 1 2 5 ∷ [])
  -- LF LF is two boundaries
  pub twice_lf : Mends (97 ∷ 98 ∷ 99 ∷ 10 ∷ 10 ∷ 97 ∷ 98 ∷ 99 ∷ 10 ∷ []) (97 ∷ 98 ∷ 99 ∷ 10 ∷ 97 ∷ 98 ∷ 99 ∷ 10 ∷ [])
      (mend_entry 1 2 4 ∷ [])
  -- the first terminator, also where it ends a dropped record
  pub first_of_dropped : Mends (13 ∷ 97 ∷ 98 ∷ 99 ∷ 10 ∷ []) (97 ∷ 98 ∷ 99 ∷ 13 ∷ []) (mend_entry 1 1 0 ∷ mend_entry 4 2 4 ∷ [])
  -- CR LF if there is none
  pub default_ending : Mends (97 ∷ 98 ∷ 99 ∷ []) (97 ∷ 98 ∷ 99 ∷ 13 ∷ 10 ∷ []) (mend_entry 4 1 3 ∷ [])
  -- order by place, then kind; one 2 a byte; dropped records are counted
  pub in_order : Mends (97 ∷ 9 ∷ 98 ∷ 0 ∷ 99 ∷ 10 ∷ 10 ∷ 100 ∷ []) (97 ∷ 32 ∷ 98 ∷ 32 ∷ 99 ∷ 10 ∷ 100 ∷ 32 ∷ 32 ∷ 32 ∷ 32 ∷ 10 ∷ [])
      (mend_entry 2 1 1 ∷ mend_entry 2 1 3 ∷ mend_entry 1 2 6 ∷ mend_entry 3 3 8 ∷ mend_entry 4 3 8 ∷ [])
  -- a record of spaces is not empty; at least L
  pub spaces_kept : Mends (32 ∷ 10 ∷ []) (32 ∷ 32 ∷ 32 ∷ 10 ∷ []) (mend_entry 3 1 1 ∷ [])
  -- a file of terminators only
  pub ends_alone : Mends (13 ∷ 10 ∷ 13 ∷ 10 ∷ 13 ∷ []) [] (mend_entry 1 1 0 ∷ mend_entry 1 2 2 ∷ mend_entry 1 3 4 ∷ [])

pub cases : Cases
unfolding mended_of width_of ending_of pieces_of cut_from boundary_at terminator_at begins_with onto first_piece pieces_behind terminator_of
    mended_record
    plain_byte
    spaces terminator_bytes mend_entries piece_entries byte_entries listed_if same_boundary
cases = record {
  sound_stays = record { bytes = refl; entries = refl };
  pairs_first = record { bytes = refl; entries = refl };
  twice_lf = record { bytes = refl; entries = refl };
  first_of_dropped = record { bytes = refl; entries = refl };
  default_ending = record { bytes = refl; entries = refl };
  in_order = record { bytes = refl; entries = refl };
  spaces_kept = record { bytes = refl; entries = refl };
  ends_alone = record { bytes = refl; entries = refl };
}
