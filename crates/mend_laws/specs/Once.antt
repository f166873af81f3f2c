-- ONE OUTCOME, each refusal exactly when; what lies beyond is kept; each kept byte of 32 or more stands at its place in its record.
use Rattle.std.specs.Prelude.{◌≡◌, refl, Bool, true, false, cond, ◌||◌, List, [], ◌∷◌, ◌++◌, map, ℕ, zero, suc, ◌+◌, ◌-◌, ◌*◌, ◌≤◌, ◌<◌}
use Rattle.std.specs.Prelude.{ltb, ℤ, length, drop, take, get_or}
use Rattle.std.proofs.Common.{sym, ap, ◌∙◌, append_assoc, zero-mul, add-mul, one-mul, arith, inl, inr, le-ltb, lt-ltb, ltb-true, ltb-false}
use Rattle.std.proofs.Common.{eqb-true, length-append, take_at, get_or-drop, get_or-take}
use Rattle.std.proofs.Math.ListN.{get_or-append}
use Rattle.std.proofs.Math.Seq.{drop-append_seam, drop-append-add}
use Rattle.cuts.specs.declared.Terminator.{Terminator}
use Rattle.cuts.specs.rule.Records.{terminator_bytes}
use Rattle.fields.specs.rule.Field.{spaces}
use Rattle.sound.specs.rule.Sound.{well_formed}
use Rattle.sound.specs.rule.Rows.{length_of}
use Rattle.pieces.specs.rule.Pieces.{Piece, cut_from, pieces_of}
use Rattle.mends.specs.declared.Mended.{Mended}
use Rattle.mends.specs.rule.Mend.{ending_of, plain_byte, width_of, is_empty, width_of_records, bytes_in, list_in, entry_numbers, MendAnswer}
use Rattle.mends.specs.rule.Mend.{done}
use Rattle.mends.specs.rule.Mend.{refused, mend_said}
use Rattle.mends.specs.rule.Mend.{mended_as, kept_or_new, Mends}
use Rattle.mends.specs.Sizes.{Sized, length_ending, length_plain, width_rest}
use Rattle.mend_laws.specs.rule.Mended.{kept_of, MendOutcome, bad_table_lem, no_room, is_mended}
use Rattle.mend_laws.specs.Laid.{four_sized, four_ending, laid_all}
use Rattle.mend_laws.specs.Sound.{padded, padded_all, length_padded, mended_laid}

-- ---- ONE OUTCOME
pub record Same (r r' : Mended) (out out' : List ℕ) (list list' : List ℤ) : Type 0 where
  pub says : mend_said r ≡ mend_said r'
  pub bytes : out ≡ out'
  pub listed : list ≡ list'

pub mend_one : {t : List ℤ} {d out a b : List ℕ} {list x y : List ℤ} {r s : Mended} → Mends t d out a list x r → Mends t d out b list y s
    → Same r s a b x y
mend_one m n = record {
  says = m.says ∙ sym n.says;
  bytes = m.mended ∙ sym n.mended;
  listed = m.listed ∙ sym n.listed;
}

-- ---- EACH REFUSAL EXACTLY WHEN
pub mend_named : (t : List ℤ) (d : List ℕ) (room cells : ℕ) → MendOutcome t d room cells (mended_as t d room cells)
unfolding mended_as
mend_named t d room cells =
    go (well_formed t) refl (ltb room (length (bytes_in t d))) refl (ltb cells (3 * length (list_in t d))) refl
  where
    go : (g : Bool) → well_formed t ≡ g → (p : Bool) → ltb room (length (bytes_in t d)) ≡ p → (q : Bool)
        → ltb cells (3 * length (list_in t d))
        ≡ q
        → MendOutcome t d room cells
        (cond g (cond (p || q) (refused 70) (done (length (bytes_in t d)) (length (list_in t d)))) (refused 20))
    go false e p h q k = bad_table_lem e
    go true e true h q k = no_room e (inl (ltb-true room (length (bytes_in t d)) h))
    go true e false h true k = no_room e (inr (ltb-true cells (3 * length (list_in t d)) k))
    go true e false h false k =
        is_mended e (ltb-false room (length (bytes_in t d)) h) (ltb-false cells (3 * length (list_in t d)) k)

pub mend_only : {t : List ℤ} {d : List ℕ} {room cells : ℕ} {o : MendAnswer} → MendOutcome t d room cells o → mended_as t d room cells ≡ o
unfolding mended_as
mend_only (bad_table_lem e) = rw e
mend_only {t} {d} {room} {cells} (no_room e (inl h)) = rw (e, lt-ltb room (length (bytes_in t d)) h)
mend_only {t} {d} {room} {cells} (no_room e (inr h)) =
    rw (e, lt-ltb cells (3 * length (list_in t d)) h) (go (ltb room (length (bytes_in t d))))
  where
    go : (q : Bool) → cond (q || true) (refused 70) (done (length (bytes_in t d)) (length (list_in t d))) ≡ refused 70
    go true = refl
    go false = refl
mend_only {t} {d} {room} {cells} (is_mended e h k) =
    rw (e, le-ltb room (length (bytes_in t d)) h, le-ltb cells (3 * length (list_in t d)) k)

-- ---- BEYOND the written part, and on a refusal everywhere
beyond : {A : Type 0} (o : MendAnswer) (new old : List A) → drop (length new) (kept_or_new o new old) ≡ drop (length new) old
unfolding kept_or_new
beyond (done b n) new old = drop-append_seam new (drop (length new) old)
beyond (refused k) new old = refl

pub kept_beyond : {t : List ℤ} {d out out' : List ℕ} {list list' : List ℤ} {r : Mended} → Mends t d out out' list list' r
    → (drop (length (bytes_in t d)) out' ≡ drop (length (bytes_in t d)) out)
    × (drop (length (entry_numbers (list_in t d))) list' ≡ drop (length (entry_numbers (list_in t d))) list)
kept_beyond {t} {d} {out} {out'} {list} {list'} m = (
  ap (drop (length (bytes_in t d))) m.mended ∙ beyond (mended_as t d (length out) (length list)) (bytes_in t d) out,
  ap (drop (length (entry_numbers (list_in t d)))) m.listed
      ∙ beyond (mended_as t d (length out) (length list)) (entry_numbers (list_in t d)) list,
)

pub kept_refused : {t : List ℤ} {d out out' : List ℕ} {list list' : List ℤ} {r : Mended} {k : ℕ} → Mends t d out out' list list' r
    → mend_said r ≡ refused k → (out' ≡ out) × (list' ≡ list)
unfolding kept_or_new
kept_refused m e = let q = sym m.says ∙ e in (m.mended ∙ rw q, m.listed ∙ rw q)

-- ---- NO OTHER BYTE DIFFERS
-- each of the records has at most w bytes
pub data AllIn (w : ℕ) : List (List ℕ) → Type 0 where
  none_in : AllIn w []
  one_in : {r : List ℕ} {rs : List (List ℕ)} → length r ≤ w → AllIn w rs → AllIn w (r ∷ rs)

pub kept_in : (w v : ℕ) (ps : List Piece) → width_of v ps ≤ w → AllIn w (kept_of ps)
unfolding width_of kept_of
kept_in w v [] h = none_in
kept_in w v (p ∷ ps) h = let k = width_rest v p ps w h in go (is_empty p) k.0 (kept_in w v ps k.1)
  where
    go : (q : Bool) → length p.bytes ≤ w → AllIn w (kept_of ps) → AllIn w (cond q (kept_of ps) (p.bytes ∷ kept_of ps))
    go true l a = a
    go false l a = one_in l a

-- and the width is no more than that: where L and every kept record have at most w bytes, so has a line
pub width_least : (w v : ℕ) (ps : List Piece) → v ≤ w → AllIn w (kept_of ps) → width_of v ps ≤ w
unfolding width_of kept_of
width_least w v [] h a = h
width_least w v (p ∷ ps) h a = go (is_empty p) refl a (width_least w (cond (ltb v (length p.bytes)) (length p.bytes) v) ps)
  where
    wider : length p.bytes ≤ w → cond (ltb v (length p.bytes)) (length p.bytes) v ≤ w
    wider l = by (ltb v (length p.bytes)) where
      by : (q : Bool) → cond q (length p.bytes) v ≤ w
      by true = l
      by false = h

    go : (q : Bool) → is_empty p ≡ q → AllIn w (cond q (kept_of ps) (p.bytes ∷ kept_of ps))
        → (cond (ltb v (length p.bytes)) (length p.bytes) v ≤ w → AllIn w (kept_of ps)
        → width_of (cond (ltb v (length p.bytes)) (length p.bytes) v) ps ≤ w)
        → width_of (cond (ltb v (length p.bytes)) (length p.bytes) v) ps ≤ w
    go true e a rest = let z = eqb-true (length p.bytes) 0 e in rest (wider (omega (arith, z))) a
    go false e (one_in l a) rest = rest (wider l) a

-- record k of those that are kept stands, padded, from k times a record and its terminator on
stands : {w : ℕ} (e : Terminator) → Sized e → {rs : List (List ℕ)} → AllIn w rs → (k : ℕ) → k < length rs
    → take w (drop (k * (w + e.size)) (laid_all e (padded_all w rs))) ≡ padded w (get_or rs k [])
unfolding laid_all padded_all
stands e s none_in k h = absurd (omega arith)
stands {w} e s (one_in {r} {rs} l a) zero h =
    rw (zero-mul (w + e.size)) (take_at (padded w r) (terminator_bytes e ++ laid_all e (padded_all w rs)) w (length_padded w r l))
stands {w} e s (one_in {r} {rs} l a) (suc k) h =
    let x : List ℕ = padded w r ++ terminator_bytes e in
    let n : length x ≡ w + e.size = length-append (padded w r) (terminator_bytes e) ∙ rw (length_padded w r l, length_ending e s) in
    let next : suc k ≡ 1 + k = omega arith in
    let m : suc k * (w + e.size) ≡ length x + k * (w + e.size) =
    ap (λ (i : ℕ). i * (w + e.size)) next ∙ add-mul 1 k (w + e.size) ∙ rw (one-mul (w + e.size), n) in
    rw (
      m,
      sym (append_assoc (padded w r) (terminator_bytes e) (laid_all e (padded_all w rs))),
      drop-append-add x (laid_all e (padded_all w rs)) (k * (w + e.size)),
    )
    (stands e s a k (omega arith))

pub record_stands : (t : List ℤ) (d : List ℕ) (k : ℕ) → k < length (kept_of (pieces_of d))
    → take (width_of_records t d) (drop (k * (width_of_records t d + (ending_of d).size)) (bytes_in t d))
    ≡ padded (width_of_records t d) (get_or (kept_of (pieces_of d)) k [])
unfolding bytes_in width_of_records pieces_of
record_stands t d k h =
    let w : ℕ = width_of (length_of t) (cut_from 0 d) in
    rw (mended_laid w (ending_of d) (cut_from 0 d))
    (stands (ending_of d) (four_sized (four_ending d)) (kept_in w (length_of t) (cut_from 0 d) (omega arith)) k h)

-- byte j of such a record: a space where it is below 32, else itself
in_at : {w : ℕ} {rs : List (List ℕ)} → AllIn w rs → (k : ℕ) → k < length rs → length (get_or rs k []) ≤ w
in_at none_in k h = absurd (omega arith)
in_at (one_in l a) zero h = l
in_at (one_in l a) (suc k) h = in_at a k (omega arith)

mapped : (r : List ℕ) (j : ℕ) → j < length r → get_or (map plain_byte r) j 0 ≡ plain_byte (get_or r j 0)
mapped [] j h = absurd (omega arith)
mapped (b ∷ r) zero h = refl
mapped (b ∷ r) (suc j) h = mapped r j (omega arith)

kept_within : (t : List ℤ) (d : List ℕ) (k : ℕ) → k < length (kept_of (pieces_of d)) → length (get_or (kept_of (pieces_of d)) k [])
    ≤ width_of_records t d
unfolding width_of_records pieces_of
kept_within t d k h = in_at (kept_in (width_of (length_of t) (cut_from 0 d)) (length_of t) (cut_from 0 d) (omega arith)) k h

-- "to the longest and at least to L": no width below this one holds L and every record that is kept
pub width_fewest : (t : List ℤ) (d : List ℕ) (w : ℕ) → length_of t ≤ w → AllIn w (kept_of (pieces_of d)) → width_of_records t d ≤ w
unfolding width_of_records
width_fewest t d w h a = width_least w (length_of t) (pieces_of d) h a

module _ (t : List ℤ) (d : List ℕ) (k j : ℕ) where
  -- the record's bytes in the input, and where its byte j stands in the output
  abbrev pub kept_at : List ℕ
  kept_at = get_or (kept_of (pieces_of d)) k []

  abbrev pub place_at : ℕ
  place_at = k * (width_of_records t d + (ending_of d).size) + j

  pub byte_stands : k < length (kept_of (pieces_of d)) → j < length kept_at → get_or (bytes_in t d) place_at 0
      ≡ plain_byte (get_or kept_at j 0)
  byte_stands h l =
      let n = kept_within t d k h in
      let at : ℕ = k * (width_of_records t d + (ending_of d).size) in
      sym (get_or-drop at (bytes_in t d) j 0)
      ∙ sym (get_or-take (width_of_records t d) (drop at (bytes_in t d)) j 0 (omega arith))
      ∙ ap (λ (x : List ℕ). get_or x j 0) (record_stands t d k h)
      ∙ get_or-append (map plain_byte kept_at) (spaces (width_of_records t d - length kept_at)) 0 j (rw (length_plain kept_at) l)
      ∙ mapped kept_at j l

  pub others_kept : k < length (kept_of (pieces_of d)) → j < length kept_at → 32 ≤ get_or kept_at j 0
      → get_or (bytes_in t d) place_at 0 ≡ get_or kept_at j 0
  unfolding plain_byte
  others_kept h l m = byte_stands h l ∙ rw (le-ltb (get_or kept_at j 0) 32 m)
