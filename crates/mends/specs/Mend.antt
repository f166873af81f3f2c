-- What the code keeps while it mends, and how its counts give the call's outcome.
use Rattle.std.specs.Prelude.{◌≡◌, Bool, leb, ltb, ℤ, take, drop, get_or}
use Rattle.std.proofs.Math.Path.{refl, sym, ap}
use Rattle.std.proofs.Common.{◌∙◌, div-mul-le_self, le-div_iff_mul-le, length-append, length-take, length-drop}
use Rattle.std.proofs.Common.{drop-cons, take_all, add-one, ⊎_elim}
use Rattle.std.proofs.Math.Bool.{true, false, cond}
use mathlib.Core.List.{List, [], ◌∷◌, ◌++◌, map, append_assoc, map-append}
use Prim.Native.Nat.{ℕ, zero, suc, ◌+◌, ◌-◌, ◌*◌, ◌/◌, ◌≤◌, ◌<◌}
use Rattle.std.proofs.Math.Nat.{lt-div-mul-add}
use native.Mathlib.Omega.{arith}
use borrow.Author.Tests.{eqb-true, eq-eqb, ne_eqb, le-leb, lt-leb, leb-true}
use Rattle.std.proofs.Math.Dec.{eqb}
use Rattle.std.proofs.Math.ListN.{length}
use Rattle.std.proofs.lemmas.List.Edits.{sets}
use Rattle.std.proofs.Math.Seq.{length-sets}
use Rattle.lows.specs.rule.Lows.{low_at}
use Rattle.lows.specs.Lows.{Clear}
use Rattle.places.specs.rule.Places.{put, run}
use Rattle.fields.specs.rule.Field.{spaces}
use Rattle.cuts.specs.rule.Records.{terminator_bytes}
use Rattle.below.specs.Below.{same_bool, holds_not, lt_or_le}
use Rattle.cuts.specs.declared.Terminator.{Terminator}
use Rattle.cuts.specs.rule.Cut.{two_bytes, no_ending, terminator_of}
use Rattle.cuts.specs.Records.{part}
use Rattle.pieces.specs.declared.Span.{Span}
use Rattle.pieces.specs.rule.Pieces.{boundary_at, Piece, piece, first_piece, onto, cut_from}
use Rattle.pieces.specs.Pieces.{Spans, low_count, piece_at, cut_on, boundary_plain, ends_here, ends_last, part_split}
use Rattle.mends.specs.declared.Sizes.{Sizes}
use Rattle.mends.specs.rule.Mend.{ending_of, same_boundary, record_of, piece_entries, entry_numbers}
use Rattle.mends.specs.rule.Mend.{plain_byte, mended_record, MendEntry, mend_entry, listed_if, byte_entries}
use Rattle.mends.specs.Stores.{sets_append, sets_over, sets_all, put_sets}
use Rattle.mends.specs.Sizes.{tallied, sizes_of, Sized, numbers_append, length_record, length_spaces, length_plain}

-- xs were stored in l from k on, and r is the place behind them
pub record Stored {A : Type 0} (l l' : List A) (k : ℕ) (xs : List A) (r : ℕ) : Type 0 where
  pub stored : l' ≡ sets l k xs
  pub next : r ≡ k + length xs

-- the file's terminator, of one byte or two
pub record Ends (d : List ℕ) (e : Terminator) : Type 0 where
  pub is : e ≡ ending_of d
  pub sized : Sized e

-- the numbers of a record's bytes below 32, from a place of it on
abbrev pub lows_left : List ℕ → ℕ → ℕ → List ℤ
lows_left d n j = entry_numbers (byte_entries n j (first_piece (cut_from 0 (drop j d))).bytes)

-- the entries of a record behind those of its bytes
abbrev pub rest_entries : ℕ → Terminator → ℕ → ℕ → Span → List MendEntry
rest_entries w e n i p =
    cond (eqb p.stop i) (mend_entry 1 n i ∷ [])
    (listed_if (ltb (p.stop - i) w) (mend_entry 3 n p.stop) ++ cond (same_boundary e p.boundary) [] (mend_entry 4 n p.stop ∷ []))

-- nothing counted yet
abbrev pub start : ℕ → Sizes
start least = record { kept = 0; width = least; short = 0; others = 0 }

-- all of a file counted
pub record Measured (d : List ℕ) (e : Terminator) (least : ℕ) (z : Sizes) : Type 0 where
  pub is : z ≡ sizes_of e (start least) (cut_from 0 d)
  pub few : z.kept ≤ length d
  pub low : z.others ≤ 2 * length d
  pub wide : z.width ≤ least + length d

-- ---- laws
module _ {A : Type 0} where
  pub stored_join : {l l1 l2 : List A} {k r q : ℕ} {a b : List A} → Stored l l1 k a r → Stored l1 l2 r b q → Stored l l2 k (a ++ b) q
  stored_join {l} {l1} {l2} {k} {r} {q} {a} {b} x y = record {
    stored = y.stored ∙ rw (x.stored, x.next) (sym (sets_append l k a b));
    next = y.next ∙ rw (x.next, length-append a b) (omega arith);
  }

  -- what is stored first, and then the rest
  pub stored_on : {l l1 : List A} {k r : ℕ} {a : List A} → Stored l l1 k a r → (b : List A) → sets l k (a ++ b) ≡ sets l1 r b
  stored_on {l} {l1} {k} {r} {a} x b = sets_append l k a b ∙ rw (x.stored, x.next)

  pub stored_length : {l l1 : List A} {k r : ℕ} {a : List A} → Stored l l1 k a r → length l1 ≡ length l
  stored_length {l} {l1} {k} {r} {a} x = ap length x.stored ∙ length-sets l k a

-- the file's terminator
pub ending_none : (d : List ℕ) → (terminator_of d).size ≡ 0 → ending_of d ≡ two_bytes 13 10
unfolding ending_of
ending_none d e = rw (eq-eqb (terminator_of d).size 0 e)

pub ending_some : (d : List ℕ) → ((terminator_of d).size ≡ 0 → ⊥) → ending_of d ≡ terminator_of d
unfolding ending_of
ending_some d n = rw (ne_eqb (terminator_of d).size 0 n)

-- ---- room, by division
pub room_less : (o s cells : ℕ) → cells / 3 < o + s → leb (3 * (o + s)) cells ≡ false
room_less o s cells h = lt-leb (3 * (o + s)) cells (omega (arith, lt-div-mul-add {a = cells} {b = 3} (omega arith)))

pub room_some : (o s cells : ℕ) → o + s ≤ cells / 3 → leb (3 * (o + s)) cells ≡ true
room_some o s cells h = le-leb (3 * (o + s)) cells (omega (arith, div-mul-le_self cells 3))

pub room_bytes : (k m room : ℕ) → 0 < m → leb k (room / m) ≡ leb (k * m) room
room_bytes k m room h = same_bool _ _
    (λ e. le-leb _ _ ((le-div_iff_mul-le h).0 (leb-true k (room / m) e)))
    (λ e. le-leb _ _ ((le-div_iff_mul-le h).1 (leb-true (k * m) room e)))

-- ---- one record more: no count passes what the file has
lows_few : (r : List ℕ) → low_count r ≤ length r
unfolding low_count
lows_few [] = omega arith
lows_few (b ∷ r) = go (ltb b 32) (lows_few r)
  where
    go : (q : Bool) → low_count r ≤ length r → cond q 1 0 + low_count r ≤ suc (length r)
    go true h = omega arith
    go false h = omega arith

pub part_length : (d : List ℕ) (a e : ℕ) → e ≤ length d → length (part d a e) ≡ e - a
part_length d a e h = rw (length-take, length-drop) (omega arith)

pub other_few : (q : Bool) → cond q 0 1 ≤ 1
other_few true = omega arith
other_few false = omega arith

pub one_few : (q : Bool) → cond q 1 0 ≤ 1
one_few true = omega arith
one_few false = omega arith

pub record Grown (z z' : Sizes) (n v : ℕ) : Type 0 where
  pub order : z'.short ≤ z'.kept
  pub kept : z'.kept ≤ z.kept + 1
  pub others : z'.others ≤ z.others + 2 * n
  pub wide : z'.width ≤ v

pub tally_grows : (z : Sizes) (long lows n v : ℕ) (same : Bool) → lows ≤ n → 1 ≤ n → z.short ≤ z.kept → z.width ≤ v → long ≤ v
    → Grown z (tallied z long lows same) n v
unfolding tallied
tally_grows z long lows n v same h m l a b = go (eqb long 0)
  where
    wide : (q : Bool) → cond q long z.width ≤ v
    wide true = b
    wide false = a

    order : (p q : Bool) → cond p z.kept (z.short + cond q 1 0) ≤ z.kept + 1
    order true q = omega arith
    order false q = omega (arith, one_few q)

    go : (q : Bool)
        → Grown z
        (cond q
        (record { kept = z.kept; width = z.width; short = z.short; others = z.others + 1 })
        (record {
          kept = z.kept + 1;
          width = cond (ltb z.width long) long z.width;
          short = cond (ltb z.width long) z.kept (z.short + cond (ltb long z.width) 1 0);
          others = z.others + lows + cond same 0 1;
        }))
        n v
    go true = record { order = l; kept = omega arith; others = omega arith; wide = a }
    go false = record {
      order = order (ltb z.width long) (ltb long z.width);
      kept = omega arith;
      others = omega (arith, other_few same);
      wide = wide (ltb z.width long);
    }

-- the next record counted: the file's counts go on from there
module _ (d : List ℕ) (e : Terminator) (i : ℕ) (p : Span) (u : Spans d i p) where
  span_in : p.stop ≤ length d
  span_in = omega (arith, u.within)

  pub span_lows : p.lows ≤ p.stop - i
  span_lows = rw u.counted (omega (arith, lows_few (part d i p.stop), part_length d i p.stop span_in))

  pub sizes_next : (z : Sizes)
      → sizes_of e z (cut_from 0 (drop i d))
      ≡ sizes_of e (tallied z (p.stop - i) p.lows (same_boundary e p.boundary)) (cut_from 0 (drop (p.stop + p.boundary.size) d))
  unfolding sizes_of
  sizes_next z =
      ap (sizes_of e z) u.cuts
      ∙ ap (λ (x : Sizes). sizes_of e x (cut_from 0 (drop (p.stop + p.boundary.size) d)))
      (ap (λ (n : ℕ). tallied z n (low_count (part d i p.stop)) (same_boundary e p.boundary)) (part_length d i p.stop span_in)
      ∙ ap (λ (n : ℕ). tallied z (p.stop - i) n (same_boundary e p.boundary)) (sym u.counted))

-- ---- a record byte by byte
module _ (d : List ℕ) (j stop : ℕ) where
  part_step : j < stop → stop ≤ length d → part d j stop ≡ get_or d j 0 ∷ part d (j + 1) stop
  part_step h l =
      let q : stop - j ≡ suc (stop - (j + 1)) = omega arith in
      rw (q, drop-cons d j 0 (omega arith), add-one j)

  part_over : stop ≤ j → part d j stop ≡ []
  part_over h = let q : stop - j ≡ 0 = omega arith in rw q

  pub plain_next : j < stop → stop ≤ length d → map plain_byte (part d j stop) ≡ plain_byte (get_or d j 0)
      ∷ map plain_byte (part d (j + 1) stop)
  plain_next h l = ap (map plain_byte) (part_step h l)

  pub plain_over : stop ≤ j → map plain_byte (part d j stop) ≡ []
  plain_over h = ap (map plain_byte) (part_over h)

  module _ (n : ℕ) where
    bytes_next : j < stop → stop ≤ length d → entry_numbers (byte_entries n j (part d j stop))
        ≡ entry_numbers (listed_if (low_at d j) (mend_entry 2 n j)) ++ entry_numbers (byte_entries n (j + 1) (part d (j + 1) stop))
    unfolding byte_entries
    bytes_next h l =
        ap (λ (x : List ℕ). entry_numbers (byte_entries n j x)) (part_step h l)
        ∙ numbers_append (listed_if (low_at d j) (mend_entry 2 n j)) (byte_entries n (j + 1) (part d (j + 1) stop))

    pub bytes_over : stop ≤ j → entry_numbers (byte_entries n j (part d j stop)) ≡ []
    unfolding byte_entries entry_numbers
    bytes_over h = ap (λ (x : List ℕ). entry_numbers (byte_entries n j x)) (part_over h)

-- ---- from one byte below 32 to the next: those between have no entry
module _ (d : List ℕ) (stop n : ℕ) (l : stop ≤ length d) where
  abbrev rest : ℕ → List ℤ
  rest j = entry_numbers (byte_entries n j (part d j stop))

  bytes_on : (c j : ℕ) → ((i : ℕ) → j ≤ i → i < j + c → low_at d i ≡ false) → rest j ≡ rest (j + c)
  unfolding entry_numbers listed_if
  bytes_on zero j g = let e : j + 0 ≡ j = omega arith in rw e
  bytes_on (suc c) j g =
      let e : j + suc c ≡ j + 1 + c = omega arith in
      let o = bytes_on c (j + 1) (λ i a b. g i (omega arith) (omega arith)) in
      ⊎_elim
      (λ h. bytes_next d j stop n h l ∙ rw (g j (omega arith) (omega arith), e) o)
      (λ h. bytes_over d j stop n h ∙ sym (bytes_over d (j + suc c) stop n (omega arith)))
      (lt_or_le j stop)

  pub bytes_clear : (j i : ℕ) → Clear d j i → rest j ≡ rest i
  bytes_clear j i c =
      let e : j + (i - j) ≡ i = omega (arith, c.on) in
      rw e at (bytes_on (i - j) j (λ k a b. c.plain k a (rw e at b)))

  pub bytes_low : (j : ℕ) → j < stop → low_at d j ≡ true → rest j ≡ entry_numbers (mend_entry 2 n j ∷ []) ++ rest (j + 1)
  unfolding listed_if
  bytes_low j h e = rw e at (bytes_next d j stop n h l)

  pub bytes_low_length : (j : ℕ) → j < stop → low_at d j ≡ true → length (rest j) ≡ 3 + length (rest (j + 1))
  unfolding entry_numbers
  bytes_low_length j h e = let k = ap length (bytes_low j h e) in omega (arith, k)

bytes_none : (n at : ℕ) (r : List ℕ) → low_count r ≡ 0 → byte_entries n at r ≡ []
unfolding byte_entries low_count listed_if
bytes_none n at [] h = refl
bytes_none n at (b ∷ r) h = go (ltb b 32) h (λ z. bytes_none n (at + 1) r z)
  where
    go : (q : Bool) → cond q 1 0 + low_count r ≡ 0 → (low_count r ≡ 0 → byte_entries n (at + 1) r ≡ [])
        → listed_if q (mend_entry 2 n at) ++ byte_entries n (at + 1) r ≡ []
    go true z f = absurd (omega arith)
    go false z f = f (omega arith)

-- ---- from one byte below 32 to the next: those between have no entry
module _ (d : List ℕ) (n : ℕ) where
  left_on : (j : ℕ) → j < length d → boundary_at (drop j d) ≡ no_ending
      → lows_left d n j ≡ entry_numbers (listed_if (low_at d j) (mend_entry 2 n j)) ++ lows_left d n (j + 1)
  unfolding byte_entries onto first_piece
  left_on j h e =
      ap (λ (x : List Piece). entry_numbers (byte_entries n j (first_piece x).bytes)) (cut_on d j h e)
      ∙ numbers_append (listed_if (low_at d j) (mend_entry 2 n j))
      (byte_entries n (j + 1) (first_piece (cut_from 0 (drop (j + 1) d))).bytes)

  left_run : (c j : ℕ) → j + c ≤ length d → ((i : ℕ) → j ≤ i → i < j + c → low_at d i ≡ false) → lows_left d n j ≡ lows_left d n (j + c)
  unfolding entry_numbers listed_if
  left_run zero j h g = let e : j + 0 ≡ j = omega arith in rw e
  left_run (suc c) j h g =
      let e : j + suc c ≡ j + 1 + c = omega arith in
      let f = g j (omega arith) (omega arith) in
      let o = left_run c (j + 1) (omega arith) (λ i a b. g i (omega arith) (omega arith)) in
      left_on j (omega arith) (boundary_plain d j (omega arith) f) ∙ rw (f, e) o

  pub left_clear : (j i : ℕ) → Clear d j i → lows_left d n j ≡ lows_left d n i
  left_clear j i c =
      let e : j + (i - j) ≡ i = omega (arith, c.on) in
      rw e at (left_run (i - j) j (rw e c.within) (λ k a b. c.plain k a (rw e at b)))

  pub left_low : (j : ℕ) → j < length d → boundary_at (drop j d) ≡ no_ending → low_at d j ≡ true
      → lows_left d n j ≡ entry_numbers (mend_entry 2 n j ∷ []) ++ lows_left d n (j + 1)
  unfolding listed_if
  left_low j h e f = rw f at (left_on j h e)

  pub left_low_length : (j : ℕ) → j < length d → boundary_at (drop j d) ≡ no_ending → low_at d j ≡ true
      → length (lows_left d n j) ≡ 3 + length (lows_left d n (j + 1))
  unfolding entry_numbers
  left_low_length j h e f = let k = ap length (left_low j h e f) in omega (arith, k)

  -- at the piece's end nothing is left
  left_over : (j : ℕ) (w : Terminator) → first_piece (cut_from 0 (drop j d)) ≡ piece [] w → lows_left d n j ≡ []
  unfolding byte_entries entry_numbers
  left_over j w e = ap (λ (x : Piece). entry_numbers (byte_entries n j x.bytes)) e

  pub left_ended : (j : ℕ) (w : Terminator) → j < length d → w ≡ boundary_at (drop j d) → (w.size ≡ 0 → ⊥) → lows_left d n j ≡ []
  left_ended j w h e z =
      let s : 1 ≤ (boundary_at (drop j d)).size = rw e at (some w z) in
      left_over j (boundary_at (drop j d)) (ends_here d j h s).0
    where
      some : (w : Terminator) → (w.size ≡ 0 → ⊥) → 1 ≤ w.size
      some w z = omega arith

  pub left_last : (j : ℕ) → length d ≤ j → lows_left d n j ≡ []
  left_last j h = left_over j (boundary_at (drop j d)) (ends_last d j h).0

  -- nothing is left: what was stored is what is listed for the piece's bytes
  pub left_listed : (l l' : List ℤ) (k m lows i j : ℕ) (p : Span) → Spans d i p → sets l k (lows_left d n i) ≡ sets l' m (lows_left d n j)
      → k + length (lows_left d n i) ≡ m + length (lows_left d n j) → m ≡ k + 3 * lows → lows_left d n j ≡ []
      → Stored l l' k (entry_numbers (byte_entries n i (part d i p.stop))) (k + 3 * lows)
  unfolding first_piece
  left_listed l l' k m lows i j p u e f g z =
      let w : lows_left d n i ≡ entry_numbers (byte_entries n i (part d i p.stop)) =
      ap (λ (x : List Piece). entry_numbers (byte_entries n i (first_piece x).bytes)) u.cuts in
      let x = ap length w in
      let y = ap length z in
      record { stored = sym (ap (sets l k) (sym w) ∙ e ∙ ap (sets l' m) z); next = omega arith }

-- ---- a record's entries and bytes, by where it stops
module _ (d : List ℕ) (e : Terminator) (w i : ℕ) (p : Span) (u : Spans d i p) where
  long : length (part d i p.stop) ≡ p.stop - i
  long = part_length d i p.stop (omega (arith, u.within))

  -- its end: padded, and another terminator
  abbrev pub end_entries : ℕ → List MendEntry
  end_entries n = listed_if (ltb (p.stop - i) w) (mend_entry 3 n p.stop)
      ++ cond (same_boundary e p.boundary) [] (mend_entry 4 n p.stop ∷ [])

  pub piece_empty : (n : ℕ) → p.stop ≡ i → piece_entries w e n i (piece_at d i p) ≡ mend_entry 1 n i ∷ []
  unfolding piece_entries
  piece_empty n h = let z : length (part d i p.stop) ≡ 0 = long ∙ omega arith in rw (eq-eqb (length (part d i p.stop)) 0 z)

  pub piece_full : (n : ℕ) → (p.stop ≡ i → ⊥) → entry_numbers (piece_entries w e n i (piece_at d i p))
      ≡ entry_numbers (byte_entries n i (part d i p.stop)) ++ entry_numbers (end_entries n)
  unfolding piece_entries
  piece_full n h =
      let x : List MendEntry = byte_entries n i (part d i p.stop) in
      let k : i + length (part d i p.stop) ≡ p.stop = omega (arith, long, u.on) in
      let z : eqb (length (part d i p.stop)) 0 ≡ false = ne_eqb (length (part d i p.stop)) 0 (λ q. omega (arith, long, u.on)) in
      ap (λ (b : Bool). entry_numbers (cond b (mend_entry 1 n i ∷ [])
      (x ++ listed_if (ltb (length (part d i p.stop)) w) (mend_entry 3 n (i + length (part d i p.stop)))
      ++ cond (same_boundary e p.boundary) [] (mend_entry 4 n (i + length (part d i p.stop)) ∷ [])))) z
      ∙ ap (λ (a : ℕ). entry_numbers (x ++ listed_if (ltb (length (part d i p.stop)) w) (mend_entry 3 n a)
      ++ cond (same_boundary e p.boundary) [] (mend_entry 4 n a ∷ []))) k
      ∙ ap (λ (a : ℕ). entry_numbers (x ++ listed_if (ltb a w) (mend_entry 3 n p.stop)
      ++ cond (same_boundary e p.boundary) [] (mend_entry 4 n p.stop ∷ []))) long
      ∙ ap entry_numbers (append_assoc x (listed_if (ltb (p.stop - i) w) (mend_entry 3 n p.stop))
      (cond (same_boundary e p.boundary) [] (mend_entry 4 n p.stop ∷ [])))
      ∙ numbers_append x (end_entries n)

  -- its bytes', and the others
  pub piece_numbers : (n : ℕ) → entry_numbers (piece_entries w e n i (piece_at d i p))
      ≡ entry_numbers (byte_entries n i (part d i p.stop)) ++ entry_numbers (rest_entries w e n i p)
  unfolding byte_entries entry_numbers
  piece_numbers n = go (eqb p.stop i) refl
    where
      go : (q : Bool) → eqb p.stop i ≡ q → entry_numbers (piece_entries w e n i (piece_at d i p))
          ≡ entry_numbers (byte_entries n i (part d i p.stop)) ++ entry_numbers (cond q (mend_entry 1 n i ∷ []) (end_entries n))
      go true z =
          let h : p.stop ≡ i = eqb-true p.stop i z in
          ap entry_numbers (piece_empty n h) ∙ rw (part_over d i p.stop (omega arith))
      go false z = piece_full n (λ h. holds_not (eq-eqb p.stop i h) z)

  pub piece_length_rest : (n : ℕ) → length (entry_numbers (piece_entries w e n i (piece_at d i p)))
      ≡ length (entry_numbers (byte_entries n i (part d i p.stop))) + length (entry_numbers (rest_entries w e n i p))
  piece_length_rest n = ap length (piece_numbers n) ∙ length-append (entry_numbers (byte_entries n i (part d i p.stop)))
      (entry_numbers (rest_entries w e n i p))

  pub piece_stored : (n : ℕ) {l l1 l2 : List ℤ} {k r q : ℕ} → Stored l l1 k (entry_numbers (byte_entries n i (part d i p.stop))) r
      → Stored l1 l2 r (entry_numbers (rest_entries w e n i p)) q → Stored l l2 k (entry_numbers (piece_entries w e n i (piece_at d i p))) q
  piece_stored n x y = rw (piece_numbers n) (stored_join x y)

  pub piece_length : (n : ℕ) → (p.stop ≡ i → ⊥) → length (entry_numbers (piece_entries w e n i (piece_at d i p)))
      ≡ length (entry_numbers (byte_entries n i (part d i p.stop))) + length (entry_numbers (end_entries n))
  piece_length n h = ap length (piece_full n h) ∙ length-append (entry_numbers (byte_entries n i (part d i p.stop)))
      (entry_numbers (end_entries n))

  pub piece_plain : (n : ℕ) → (p.stop ≡ i → ⊥) → p.lows ≡ 0 → entry_numbers (piece_entries w e n i (piece_at d i p))
      ≡ entry_numbers (end_entries n)
  unfolding entry_numbers
  piece_plain n h z =
      piece_full n h ∙ ap (λ (x : List MendEntry). entry_numbers x ++ entry_numbers (end_entries n))
      (bytes_none n i (part d i p.stop) (sym u.counted ∙ z))

  pub record_empty : p.stop ≡ i → record_of w e (piece_at d i p) ≡ []
  record_empty h = let z : length (part d i p.stop) ≡ 0 = long ∙ omega arith in rw (eq-eqb (length (part d i p.stop)) 0 z)

  not_empty : (p.stop ≡ i → ⊥) → record_of w e (piece_at d i p) ≡ mended_record w e (part d i p.stop)
  not_empty h = rw (ne_eqb (length (part d i p.stop)) 0 (λ q. omega (arith, long, u.on)))

  pub record_full : (p.stop ≡ i → ⊥) → record_of w e (piece_at d i p)
      ≡ map plain_byte (part d i p.stop) ++ spaces (w - (p.stop - i)) ++ terminator_bytes e
  unfolding mended_record
  record_full h =
      not_empty h
      ∙ ap (λ (n : ℕ). map plain_byte (part d i p.stop) ++ spaces (w - n) ++ terminator_bytes e) long

  pub record_length : (p.stop ≡ i → ⊥) → Sized e → p.stop - i ≤ w → length (record_of w e (piece_at d i p)) ≡ w + e.size
  record_length h s l = ap length (not_empty h) ∙ length_record w e (part d i p.stop) s (omega (arith, long))

pub blank_stored : {out' : List ℕ} (out : List ℕ) (at k : ℕ) → out' ≡ put out (run at k) (spaces k) → Stored out out' at (spaces k) (at + k)
blank_stored out at k e = record { stored = e ∙ put_sets out at (spaces k) k (length_spaces k); next = rw (length_spaces k) }

-- ---- by way of a room: what fills it is stored in the output
pub room_stored : (room room' out out' : List ℕ) (at n : ℕ) (xs : List ℕ) → length room ≡ n → length xs ≡ n → room' ≡ sets room 0 xs
    → out' ≡ put out (run at n) (take n room') → Stored out out' at xs (at + n)
room_stored room room' out out' at n xs h l a b =
    let r : room' ≡ xs = a ∙ sets_all room xs (omega arith) in
    record {
      stored =
          b ∙ ap (λ (x : List ℕ). put out (run at n) (take n x)) r ∙ ap (put out (run at n)) (take_all n xs (omega arith))
          ∙ put_sets out at xs n l;
      next = omega arith;
    }

module _ (d : List ℕ) (from : ℕ) where
  -- a record's bytes in two parts
  plain_join : (i j : ℕ) → from ≤ i → i ≤ j → map plain_byte (part d from j) ≡ map plain_byte (part d from i) ++ map plain_byte (part d i j)
  plain_join i j h l = ap (map plain_byte) (part_split d from i j h l) ∙ map-append plain_byte (part d from i) (part d i j)

  pub part_size : (n : ℕ) → from + n ≤ length d → length (part d from (from + n)) ≡ n
  part_size n h = part_length d from (from + n) h ∙ omega arith

  pub plain_size : (n : ℕ) → from + n ≤ length d → length (map plain_byte (part d from (from + n))) ≡ n
  plain_size n h = length_plain (part d from (from + n)) ∙ part_size n h

  -- a part copied by way of a room
  pub room_copied : (room room' out out' : List ℕ) (n : ℕ) → from + n ≤ length d → length room ≡ n
      → room' ≡ put room (run 0 n) (take n (take (length d - from) (drop from d))) → out' ≡ put out (run from n) (take n room')
      → Stored out out' from (part d from (from + n)) (from + n)
  room_copied room room' out out' n h l a b =
      let e : n ≡ from + n - from = omega arith in
      room_stored room room' out out' from n (part d from (from + n)) l (part_size n h)
      (a ∙ ap (λ (x : List ℕ). put room (run 0 n) (take n x)) (take_all (length d - from) (drop from d) (rw length-drop (omega arith)))
      ∙ ap (λ (k : ℕ). put room (run 0 n) (take k (drop from d))) e
      ∙ put_sets room 0 (part d from (from + n)) n (part_size n h))
      b

  -- ---- a record laid in parts: nothing yet; one part more; and the last, which begins within what is laid
  pub laid_none : (out : List ℕ) (at : ℕ) → Stored out out at (map plain_byte (part d from (from + 0))) (at + 0)
  laid_none out at =
      let e : from + 0 - from ≡ 0 = omega arith in
      record { stored = rw e; next = rw e }

  module _ {l l1 l2 : List ℕ} (at j : ℕ) (x : Stored l l1 at (map plain_byte (part d from (from + j))) (at + j)) where
    pub laid_more : (c : ℕ) → Stored l1 l2 (at + j) (map plain_byte (part d (from + j) (from + j + c))) (at + j + c)
        → Stored l l2 at (map plain_byte (part d from (from + (j + c)))) (at + (j + c))
    laid_more c y =
        let e : from + (j + c) ≡ from + j + c = omega arith in
        let f : at + (j + c) ≡ at + j + c = omega arith in
        rw (e, f, plain_join (from + j) (from + j + c) (omega arith) (omega arith)) (stored_join x y)

    pub laid_last : (last stop : ℕ) → last ≤ j → from + j ≤ stop → stop ≤ length d → from + last + 16 ≡ stop
        → Stored l1 l2 (at + last) (map plain_byte (part d (from + last) (from + last + 16))) (at + last + 16)
        → Stored l l2 at (map plain_byte (part d from stop)) (at + (stop - from))
    laid_last last stop h g k q y = record {
      stored =
          y.stored
          ∙ ap (λ (m : ℕ). sets l1 (at + last) (map plain_byte (part d (from + last) m))) q
          ∙ ap (sets l1 (at + last)) bc
          ∙ ap (λ (m : List ℕ). sets m (at + last) (b ++ c)) (x.stored ∙ ap (sets l at) ab)
          ∙ ap (λ (m : ℕ). sets (sets l at (a ++ b)) (at + m) (b ++ c)) (sym n)
          ∙ sets_over l at a b c
          ∙ ap (λ (m : List ℕ). sets l at (m ++ c)) (sym ab)
          ∙ ap (sets l at) (sym (plain_join (from + j) stop (omega arith) g));
      next = let z = length_plain (part d from stop) ∙ part_length d from stop k in omega arith;
    }
      where
        a : List ℕ
        a = map plain_byte (part d from (from + last))

        b : List ℕ
        b = map plain_byte (part d (from + last) (from + j))

        c : List ℕ
        c = map plain_byte (part d (from + j) stop)

        n : length a ≡ last
        n = plain_size last (omega arith)

        ab : map plain_byte (part d from (from + j)) ≡ a ++ b
        ab = plain_join (from + last) (from + j) (omega arith) (omega arith)

        bc : map plain_byte (part d (from + last) stop) ≡ b ++ c
        bc = ap (map plain_byte) (part_split d (from + last) (from + j) stop (omega arith) g)
            ∙ map-append plain_byte (part d (from + last) (from + j)) (part d (from + j) stop)

-- ---- the input copied in parts: nothing yet, one part more, and the rest
module _ (d : List ℕ) where
  pub copied_none : (out : List ℕ) → Stored out out 0 (part d 0 0) 0
  copied_none out = record { stored = refl; next = refl }

  module _ {l l1 : List ℕ} (j : ℕ) (x : Stored l l1 0 (part d 0 j) j) where
    pub copied_more : {l2 : List ℕ} (c : ℕ) → Stored l1 l2 j (part d j (j + c)) (j + c) → Stored l l2 0 (part d 0 (j + c)) (j + c)
    copied_more c y = rw (part_split d 0 j (j + c) (omega arith) (omega arith)) (stored_join x y)

    pub copied_all : (l2 : List ℕ) → j ≤ length d
        → l2 ≡ put l1 (run j (length d - j)) (take (length d - j) (take (length d - j) (drop j d))) → l2 ≡ sets l 0 d
    copied_all l2 h e =
        let k : length (drop j d) ≡ length d - j = length-drop j d in
        let w : take (length d - 0) (drop 0 d) ≡ d = take_all (length d - 0) d (omega arith) in
        e
        ∙ ap (λ (y : List ℕ). put l1 (run j (length d - j)) (take (length d - j) y)) (take_all (length d - j) (drop j d) (omega arith))
        ∙ put_sets l1 j (part d j (length d)) (length d - j) (part_length d j (length d) (omega arith))
        ∙ sym (stored_on x (part d j (length d)))
        ∙ ap (sets l 0) (sym (part_split d 0 j (length d) (omega arith) h) ∙ w)
