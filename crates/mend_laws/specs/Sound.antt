-- THE MENDED FILE IS SOUND in its line ends, lengths and bytes; a file is so exactly when it comes out as it went in, exactly when the
-- list is empty; MENDING TWICE IS MENDING ONCE.
use Rattle.std.specs.Prelude.{◌≡◌, refl, Bool, true, false, cond, List, [], ◌∷◌, ◌++◌, map, ℕ, zero, suc, ◌-◌, ◌≤◌, ltb, ℤ, length}
use Rattle.std.proofs.Common.{sym, ap, ◌∙◌, append_assoc, arith, ltb-false, length-append}
use Rattle.cuts.specs.declared.Terminator.{Terminator}
use Rattle.cuts.specs.rule.Cut.{terminator_of}
use Rattle.cuts.specs.rule.Records.{Records, over, unended, record_and, terminator_bytes, laid, length_of_first}
use Rattle.cuts.specs.Records.{laid_again}
use Rattle.file_laws.specs.rule.Only.{Clean, next}
use Rattle.file_laws.specs.rule.Files.{records_before}
use Rattle.file_laws.specs.Only.{no_terminator_inside}
use Rattle.fields.specs.rule.Field.{spaces}
use Rattle.sound.specs.rule.Sound.{well_formed}
use Rattle.sound.specs.rule.Rows.{length_of}
use Rattle.sound.specs.Rows.{parts, row_facts}
use Rattle.pieces.specs.rule.Pieces.{Piece, cut_from, pieces_of}
use Rattle.pieces.specs.Laid.{pieces_laid}
use Rattle.mends.specs.rule.Mend.{ending_of, plain_byte, width_of, is_empty, mended_record, mended_of, mend_entries, width_of_records}
use Rattle.mends.specs.rule.Mend.{bytes_in}
use Rattle.mends.specs.rule.Mend.{list_in}
use Rattle.mends.specs.Sizes.{width_rest, width_above, length_plain, length_spaces}
use Rattle.mends.proofs.Counted.{length_entries}
use Rattle.mends.specs.Whole.{unlisted}
use Rattle.mend_laws.specs.rule.Mended.{NoneLow, nothing, plain, Shaped, all_ended, ended, SoundLines, kept_of}
use Rattle.mend_laws.specs.Laid.{Four, four_sized, met, four_met, four_ending, plain_append, laid_all, AllWhole, no_records, whole}
use Rattle.mend_laws.specs.Laid.{whole_unlisted, records_of_laid}

-- a well-formed table has a row, so L is at least 1
pub length_some : (t : List ℤ) → well_formed t ≡ true → 1 ≤ length_of t
length_some t g =
    let s = (parts t g).some_rows in
    let f = (row_facts t g 0 (omega (arith, s))).position in
    omega (arith, f.from_one, f.ordered, f.inside)

-- ---- a record as it is mended, without its terminator
abbrev pub padded : ℕ → List ℕ → List ℕ
padded w r = map plain_byte r ++ spaces (w - length r)

unfoldable pub padded_all : ℕ → List (List ℕ) → List (List ℕ)
padded_all w [] = []
padded_all w (r ∷ rs) = padded w r ∷ padded_all w rs

plain_map : (r : List ℕ) → NoneLow (map plain_byte r)
unfolding plain_byte
plain_map [] = nothing
plain_map (b ∷ r) = plain (go (ltb b 32) refl) (plain_map r)
  where
    go : (q : Bool) → ltb b 32 ≡ q → 32 ≤ cond q 32 b
    go true e = omega arith
    go false e = ltb-false b 32 e

plain_spaces : (n : ℕ) → NoneLow (spaces n)
unfolding spaces
plain_spaces zero = nothing
plain_spaces (suc n) = let h : 32 ≤ 32 = omega arith in plain h (plain_spaces n)

pub length_padded : (w : ℕ) (r : List ℕ) → length r ≤ w → length (padded w r) ≡ w
length_padded w r h =
    length-append (map plain_byte r) (spaces (w - length r)) ∙ rw (length_plain r, length_spaces (w - length r)) (omega arith)

pub mended_laid : (w : ℕ) (e : Terminator) (ps : List Piece) → mended_of w e ps ≡ laid_all e (padded_all w (kept_of ps))
unfolding mended_of kept_of padded_all laid_all mended_record
mended_laid w e [] = refl
mended_laid w e (p ∷ ps) = go (is_empty p) (mended_laid w e ps)
  where
    go : (q : Bool) → mended_of w e ps ≡ laid_all e (padded_all w (kept_of ps))
        → cond q [] (mended_record w e p.bytes) ++ mended_of w e ps ≡ laid_all e (padded_all w (cond q (kept_of ps) (p.bytes ∷ kept_of ps)))
    go true h = h
    go false h =
        append_assoc (padded w p.bytes) (terminator_bytes e) (mended_of w e ps)
        ∙ ap (λ (x : List ℕ). padded w p.bytes ++ (terminator_bytes e ++ x)) h

pub padded_whole : (w v : ℕ) (ps : List Piece) → width_of v ps ≤ w → AllWhole w (padded_all w (kept_of ps))
unfolding width_of kept_of padded_all
padded_whole w v [] h = no_records
padded_whole w v (p ∷ ps) h =
    let k = width_rest v p ps w h in
    go (is_empty p) k.0 (padded_whole w v ps k.1)
  where
    go : (q : Bool) → length p.bytes ≤ w → AllWhole w (padded_all w (kept_of ps))
        → AllWhole w (padded_all w (cond q (kept_of ps) (p.bytes ∷ kept_of ps)))
    go true l a = a
    go false l a = whole (length_padded w p.bytes l) (plain_append (plain_map p.bytes) (plain_spaces (w - length p.bytes))) a

-- ---- a file of whole records is sound
shaped_all : {w : ℕ} {rs : List (List ℕ)} → AllWhole w rs → (least : ℕ) → least ≤ w → Shaped least w (records_before rs over)
unfolding records_before
shaped_all no_records least h = all_ended
shaped_all (whole l p a) least h = ended l h p (shaped_all a least h)

shaped_before : {w : ℕ} {rs : List (List ℕ)} → AllWhole w rs → (least : ℕ) → least ≤ w
    → Shaped least (length_of_first (records_before rs over)) (records_before rs over)
unfolding records_before length_of_first
shaped_before no_records least h = all_ended
shaped_before (whole l p a) least h = rw l (ended l h p (shaped_all a least h))

pub sound_whole : {e : Terminator} → Four e → {w : ℕ} {rs : List (List ℕ)} → AllWhole w rs → 1 ≤ w → (t : List ℤ) → length_of t ≤ w
    → SoundLines t (laid_all e rs)
sound_whole f a h t g = record { shaped = rw (records_of_laid f a h) (shaped_before a (length_of t) g) }

pub mended_sound : (t : List ℤ) (d : List ℕ) → well_formed t ≡ true → SoundLines t (bytes_in t d)
unfolding bytes_in width_of_records pieces_of
mended_sound t d g =
    let w : ℕ = width_of (length_of t) (cut_from 0 d) in
    let l = width_above (length_of t) (cut_from 0 d) in
    rw (mended_laid w (ending_of d) (cut_from 0 d))
    (sound_whole (four_ending d) (padded_whole w (length_of t) (cut_from 0 d) (omega arith)) (omega (arith, length_some t g, l)) t l)

-- ---- and a sound file is one of whole records
unfoldable list_of : Records → List (List ℕ)
list_of over = []
list_of (unended r) = []
list_of (record_and r rs) = r ∷ list_of rs

shaped_whole : {least n : ℕ} {rs : Records} → Shaped least n rs → AllWhole n (list_of rs)
unfolding list_of
shaped_whole all_ended = no_records
shaped_whole (ended l h p s) = whole l p (shaped_whole s)

shaped_laid : {least n : ℕ} {rs : Records} → Shaped least n rs → (e : Terminator) → laid e rs ≡ laid_all e (list_of rs)
unfolding list_of laid laid_all
shaped_laid all_ended e = refl
shaped_laid (ended {r} {rs} l h p s) e =
    append_assoc r (terminator_bytes e) (laid e rs) ∙ ap (λ (x : List ℕ). r ++ (terminator_bytes e ++ x)) (shaped_laid s e)

clean_some : {w : Terminator} {r : List ℕ} {rs : Records} → Clean w (record_and r rs) → 1 ≤ w.size
clean_some (next h n c) = h

nothing_listed : (t : List ℤ) → list_in t [] ≡ []
unfolding list_in width_of_records pieces_of cut_from mend_entries
nothing_listed t = refl

over_none : (w : Terminator) → laid w over ≡ []
unfolding laid
over_none w = refl

-- THE CIRCLE
pub sound_unlisted : (t : List ℤ) (d : List ℕ) → well_formed t ≡ true → SoundLines t d → list_in t d ≡ []
sound_unlisted t d g s = go s.shaped (no_terminator_inside d) (laid_again d)
  where
    go : {n : ℕ} {rs : Records} → Shaped (length_of t) n rs → Clean (terminator_of d) rs → laid (terminator_of d) rs ≡ d → list_in t d ≡ []
    go all_ended c l = ap (list_in t) (sym l ∙ over_none (terminator_of d)) ∙ nothing_listed t
    go {n} (ended {r} {rs} a b p z) c l =
        let y : Shaped (length_of t) n (record_and r rs) = ended a b p z in
        let f = four_met (met d) (clean_some c) in
        ap (list_in t) (sym l ∙ shaped_laid y (terminator_of d))
        ∙ whole_unlisted f (shaped_whole y) (omega (arith, b, length_some t g)) t b

pub unlisted_same : (t : List ℤ) (d : List ℕ) → list_in t d ≡ [] → bytes_in t d ≡ d
unfolding bytes_in list_in width_of_records pieces_of
unlisted_same t d z =
    let w : ℕ = width_of (length_of t) (cut_from 0 d) in
    unlisted w (length_of t) (ending_of d) (cut_from 0 d) (four_sized (four_ending d)) (omega arith)
    (sym (length_entries w (ending_of d) 1 0 (cut_from 0 d)) ∙ ap length z)
    ∙ pieces_laid d

pub same_sound : (t : List ℤ) (d : List ℕ) → well_formed t ≡ true → bytes_in t d ≡ d → SoundLines t d
same_sound t d g z = rw z at (mended_sound t d g)

-- TWICE IS ONCE: the second time nothing is listed either
pub twice_unlisted : (t : List ℤ) (d : List ℕ) → well_formed t ≡ true → list_in t (bytes_in t d) ≡ []
twice_unlisted t d g = sound_unlisted t (bytes_in t d) g (mended_sound t d g)

pub mend_twice : (t : List ℤ) (d : List ℕ) → well_formed t ≡ true → bytes_in t (bytes_in t d) ≡ bytes_in t d
mend_twice t d g = unlisted_same t (bytes_in t d) (twice_unlisted t d g)
