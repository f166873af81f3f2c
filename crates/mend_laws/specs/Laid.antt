-- A FILE OF WHOLE RECORDS: plain ones of one length, each ended by one of the four terminators. Its pieces are its records, and nothing
-- of it is listed.
use Rattle.std.specs.Prelude.{◌≡◌, refl, Bool, true, false, cond, List, [], ◌∷◌, ◌++◌, ℕ, zero, suc, ◌+◌, ◌≤◌, ◌<◌, eqb}
use Rattle.std.specs.Prelude.{ltb, ℤ, length, drop}
use Rattle.std.proofs.Common.{sym, ap, ◌∙◌, append_assoc, arith, eq-eqb, ne_eqb, le-ltb, ltb-false}
use Rattle.cuts.specs.declared.Terminator.{Terminator}
use Rattle.cuts.specs.rule.Cut.{one_byte, two_bytes, no_ending, begins_with, terminator_at, terminator_of, begins_at}
use Rattle.cuts.specs.rule.Records.{over, at_end, cut, records_of, terminator_bytes, laid}
use Rattle.file_laws.specs.rule.Only.{Clean, none_left, next}
use Rattle.file_laws.specs.rule.Files.{records_before}
use Rattle.file_laws.specs.Only.{cut_only}
use Rattle.sound.specs.rule.Rows.{length_of}
use Rattle.pieces.specs.rule.Pieces.{boundary_at, Piece, piece, first_piece, pieces_behind, onto, cut_from, pieces_of}
use Rattle.pieces.specs.Pieces.{low_count}
use Rattle.mends.specs.rule.Mend.{ending_of, width_of, same_boundary, mend_entries, width_of_records, list_in}
use Rattle.mends.specs.Sizes.{Sized, others_in, short_in}
use Rattle.mends.proofs.Counted.{length_entries}
use Rattle.mends.specs.Mend.{ending_some}
use Rattle.mend_laws.specs.rule.Mended.{NoneLow, nothing, plain}

-- ---- CR LF, LF CR, CR, LF
pub data Four : Terminator → Type 0 where
  cr_lf : Four (two_bytes 13 10)
  lf_cr : Four (two_bytes 10 13)
  cr : Four (one_byte 13 10)
  lf : Four (one_byte 10 13)

pub four_sized : {e : Terminator} → Four e → Sized e
four_sized cr_lf = record { some = omega arith; few = omega arith }
four_sized lf_cr = record { some = omega arith; few = omega arith }
four_sized cr = record { some = omega arith; few = omega arith }
four_sized lf = record { some = omega arith; few = omega arith }

first_low : {e : Terminator} → Four e → e.first < 32
first_low cr_lf = omega arith
first_low lf_cr = omega arith
first_low cr = omega arith
first_low lf = omega arith

at_cr : (s : List ℕ) → Four (terminator_at 13 10 s)
unfolding terminator_at
at_cr s = go (begins_with 10 s)
  where
    go : (q : Bool) → Four (cond q (two_bytes 13 10) (one_byte 13 10))
    go true = cr_lf
    go false = cr

at_lf : (s : List ℕ) → Four (terminator_at 10 13 s)
unfolding terminator_at
at_lf s = go (begins_with 13 s)
  where
    go : (q : Bool) → Four (cond q (two_bytes 10 13) (one_byte 10 13))
    go true = lf_cr
    go false = lf

-- the first terminator met is one of them, if there is one
pub data Met : Terminator → Type 0 where
  not_met : Met no_ending
  one_met : {e : Terminator} → Four e → Met e

pub met : (d : List ℕ) → Met (terminator_of d)
unfolding terminator_of
met [] = not_met
met (b ∷ s) = go (eqb b 13) (eqb b 10) (met s)
  where
    go : (p q : Bool) → Met (terminator_of s) → Met (cond p (terminator_at 13 10 s) (cond q (terminator_at 10 13 s) (terminator_of s)))
    go true q m = one_met (at_cr s)
    go false true m = one_met (at_lf s)
    go false false m = m

pub four_met : {e : Terminator} → Met e → 1 ≤ e.size → Four e
four_met not_met h = absurd (omega arith)
four_met (one_met f) h = f

by_default : {e : Terminator} → Met e → Four (cond (eqb e.size 0) (two_bytes 13 10) e)
by_default not_met = cr_lf
by_default (one_met cr_lf) = cr_lf
by_default (one_met lf_cr) = lf_cr
by_default (one_met cr) = cr
by_default (one_met lf) = lf

pub four_ending : (d : List ℕ) → Four (ending_of d)
unfolding ending_of
four_ending d = by_default (met d)

-- ---- plain bytes
pub plain_append : {a b : List ℕ} → NoneLow a → NoneLow b → NoneLow (a ++ b)
plain_append nothing q = q
plain_append (plain h p) q = plain h (plain_append p q)

pub plain_count : {r : List ℕ} → NoneLow r → low_count r ≡ 0
unfolding low_count
plain_count nothing = refl
plain_count (plain {b} {r} h p) = rw (le-ltb b 32 h) (omega (arith, plain_count p))

plain_drop : {r : List ℕ} → NoneLow r → (k : ℕ) → NoneLow (drop k r)
plain_drop p zero = p
plain_drop nothing (suc k) = nothing
plain_drop (plain h p) (suc k) = plain_drop p k

-- no CR and no LF stands first
pub record Apart (x : List ℕ) : Type 0 where
  pub no_cr : begins_with 13 x ≡ false
  pub no_lf : begins_with 10 x ≡ false

-- ---- the words: records laid with one terminator, and pieces with it
unfoldable pub laid_all : Terminator → List (List ℕ) → List ℕ
laid_all e [] = []
laid_all e (r ∷ rs) = r ++ (terminator_bytes e ++ laid_all e rs)

unfoldable pub with_end : Terminator → List (List ℕ) → List Piece
with_end e [] = []
with_end e (r ∷ rs) = piece r e ∷ with_end e rs

-- each has w bytes, none below 32
pub data AllWhole (w : ℕ) : List (List ℕ) → Type 0 where
  no_records : AllWhole w []
  whole : {r : List ℕ} {rs : List (List ℕ)} → length r ≡ w → NoneLow r → AllWhole w rs → AllWhole w (r ∷ rs)

apart_laid : {w : ℕ} (e : Terminator) {rs : List (List ℕ)} → AllWhole w rs → 1 ≤ w → Apart (laid_all e rs)
unfolding laid_all begins_with
apart_laid e no_records h = record { no_cr = refl; no_lf = refl }
apart_laid e (whole l nothing a) h = absurd (omega arith)
apart_laid e (whole l (plain {b} {r} m p) a) h = record { no_cr = ne_eqb b 13 (λ q. omega arith); no_lf = ne_eqb b 10 (λ q. omega arith) }

-- ---- the cut
plain_none : (b : ℕ) (s : List ℕ) → 32 ≤ b → boundary_at (b ∷ s) ≡ no_ending
unfolding boundary_at
plain_none b s h = rw (ne_eqb b 13 (λ q. omega arith), ne_eqb b 10 (λ q. omega arith))

onto_run : {r : List ℕ} → NoneLow r → (x : List ℕ) (e : Terminator) (qs : List Piece) → cut_from 0 x ≡ piece [] e ∷ qs
    → cut_from 0 (r ++ x) ≡ piece r e ∷ qs
unfolding cut_from onto first_piece pieces_behind
onto_run nothing x e qs h = h
onto_run (plain {b} {r} m p) x e qs h = rw (plain_none b (r ++ x) m, onto_run p x e qs h)

cut_ending : {e : Terminator} → Four e → (x : List ℕ) → Apart x → cut_from 0 (terminator_bytes e ++ x) ≡ piece [] e ∷ cut_from 0 x
unfolding cut_from boundary_at terminator_at begins_with terminator_bytes
cut_ending cr_lf x a = refl
cut_ending lf_cr x a = refl
cut_ending cr x a = rw a.no_lf
cut_ending lf x a = rw a.no_cr

pub pieces_of_laid : {e : Terminator} → Four e → {w : ℕ} {rs : List (List ℕ)} → AllWhole w rs → 1 ≤ w
    → cut_from 0 (laid_all e rs) ≡ with_end e rs
unfolding laid_all with_end cut_from
pieces_of_laid f no_records h = refl
pieces_of_laid {e} f (whole {r} {rs} l p a) h =
    onto_run p (terminator_bytes e ++ laid_all e rs) e (cut_from 0 (laid_all e rs)) (cut_ending f (laid_all e rs) (apart_laid e a h))
    ∙ ap (λ (q : List Piece). piece r e ∷ q) (pieces_of_laid f a h)

-- ---- its terminator
first_run : {r : List ℕ} → NoneLow r → (x : List ℕ) → terminator_of (r ++ x) ≡ terminator_of x
unfolding terminator_of
first_run nothing x = refl
first_run (plain {b} {r} h p) x = rw (ne_eqb b 13 (λ q. omega arith), ne_eqb b 10 (λ q. omega arith)) (first_run p x)

first_here : {e : Terminator} → Four e → (x : List ℕ) → Apart x → terminator_of (terminator_bytes e ++ x) ≡ e
unfolding terminator_of terminator_at begins_with terminator_bytes
first_here cr_lf x a = refl
first_here lf_cr x a = refl
first_here cr x a = rw a.no_lf
first_here lf x a = rw a.no_cr

pub first_of_laid : {e : Terminator} → Four e → {w : ℕ} {r : List ℕ} {rs : List (List ℕ)} → AllWhole w (r ∷ rs) → 1 ≤ w
    → terminator_of (laid_all e (r ∷ rs)) ≡ e
unfolding laid_all
first_of_laid {e} f (whole {r} {rs} l p a) h =
    first_run p (terminator_bytes e ++ laid_all e rs) ∙ first_here f (laid_all e rs) (apart_laid e a h)

pub ending_of_laid : {e : Terminator} → Four e → {w : ℕ} {r : List ℕ} {rs : List (List ℕ)} → AllWhole w (r ∷ rs) → 1 ≤ w
    → ending_of (laid_all e (r ∷ rs)) ≡ e
ending_of_laid {e} f {w} {r} {rs} a h =
    let q = first_of_laid f a h in
    let s = (four_sized f).some in
    ending_some (laid_all e (r ∷ rs)) (λ z. omega (arith, s, ap (λ (x : Terminator). x.size) q)) ∙ q

-- ---- its width
larger_is : (v w : ℕ) → v ≤ w → cond (ltb v w) w v ≡ w
larger_is v w h = go (ltb v w) refl
  where
    go : (q : Bool) → ltb v w ≡ q → cond q w v ≡ w
    go true q = refl
    go false q = let g = ltb-false v w q in omega arith

larger_at : (v w n : ℕ) → n ≡ w → v ≤ w → cond (ltb v n) n v ≡ w
larger_at v w n l h = rw l (larger_is v w h)

width_all : (e : Terminator) {w : ℕ} {rs : List (List ℕ)} → AllWhole w rs → width_of w (with_end e rs) ≡ w
unfolding with_end width_of
width_all e no_records = refl
width_all e {w} (whole {r} {rs} l p a) = ap (λ (x : ℕ). width_of x (with_end e rs)) (larger_at w w (length r) l (omega arith))
    ∙ width_all e a

pub width_of_laid : (e : Terminator) {w : ℕ} {r : List ℕ} {rs : List (List ℕ)} → AllWhole w (r ∷ rs) → (v : ℕ) → v ≤ w
    → width_of v (with_end e (r ∷ rs)) ≡ w
unfolding with_end width_of
width_of_laid e {w} (whole {r} {rs} l p a) v h = ap (λ (x : ℕ). width_of x (with_end e rs)) (larger_at v w (length r) l h) ∙ width_all e a

-- ---- nothing of it is listed
pub same_self : (e : Terminator) → same_boundary e e ≡ true
unfolding same_boundary
same_self e = rw (eq-eqb e.size e.size refl, eq-eqb e.first e.first refl, eq-eqb e.second e.second refl)

others_none : (e : Terminator) {w : ℕ} {rs : List (List ℕ)} → AllWhole w rs → 1 ≤ w → others_in e (with_end e rs) ≡ 0
unfolding others_in with_end
others_none e no_records h = refl
others_none e (whole {r} {rs} l p a) h =
    rw (ne_eqb (length r) 0 (λ q. omega arith), plain_count p, same_self e) (omega (arith, others_none e a h))

short_none : (e : Terminator) {w : ℕ} {rs : List (List ℕ)} → AllWhole w rs → short_in w (with_end e rs) ≡ 0
unfolding short_in with_end
short_none e no_records = refl
short_none e {w} (whole {r} {rs} l p a) = rw (l, le-ltb w w (omega arith)) (go (eqb w 0) (short_none e a))
  where
    go : (q : Bool) → short_in w (with_end e rs) ≡ 0 → cond q 0 0 + short_in w (with_end e rs) ≡ 0
    go true h = omega (arith, h)
    go false h = omega (arith, h)

none_left_of : {A : Type 0} (l : List A) → length l ≡ 0 → l ≡ []
none_left_of [] z = refl
none_left_of (x ∷ l) z = absurd (omega arith)

nothing_listed : (e : Terminator) (t : List ℤ) → list_in t (laid_all e []) ≡ []
unfolding list_in width_of_records pieces_of laid_all cut_from mend_entries
nothing_listed e t = refl

pub whole_unlisted : {e : Terminator} → Four e → {w : ℕ} {rs : List (List ℕ)} → AllWhole w rs → 1 ≤ w → (t : List ℤ) → length_of t ≤ w
    → list_in t (laid_all e rs) ≡ []
unfolding list_in width_of_records pieces_of
whole_unlisted {e} f {w} no_records h t g = nothing_listed e t
whole_unlisted {e} f {w} (whole {r} {rs} l p a) h t g =
    let b : AllWhole w (r ∷ rs) = whole l p a in
    rw (pieces_of_laid f b h, ending_of_laid f b h, width_of_laid e b (length_of t) g)
    (none_left_of (mend_entries w e 1 0 (with_end e (r ∷ rs)))
    (length_entries w e 1 0 (with_end e (r ∷ rs)) ∙ rw (others_none e b h, short_none e b)))

-- ---- its records
begins_plain : {e : Terminator} → Four e → {r : List ℕ} → NoneLow r → begins_at e r ≡ false
unfolding begins_at
begins_plain f nothing = refl
begins_plain {e} f (plain {b} {r} h p) = rw (ne_eqb b e.first (λ q. omega (arith, first_low f)))

clean_whole : {e : Terminator} → Four e → {w : ℕ} {rs : List (List ℕ)} → AllWhole w rs → Clean e (records_before rs over)
unfolding records_before
clean_whole f no_records = none_left
clean_whole f (whole l p a) = next (four_sized f).some (record { nowhere = λ k. begins_plain f (plain_drop p k) }) (clean_whole f a)

laid_before : (e : Terminator) (rs : List (List ℕ)) → laid e (records_before rs over) ≡ laid_all e rs
unfolding laid records_before laid_all
laid_before e [] = refl
laid_before e (r ∷ rs) =
    append_assoc r (terminator_bytes e) (laid e (records_before rs over))
    ∙ ap (λ (x : List ℕ). r ++ (terminator_bytes e ++ x)) (laid_before e rs)

no_records_of : (e : Terminator) → records_of (laid_all e []) ≡ records_before [] over
unfolding records_of laid_all records_before terminator_of cut at_end
no_records_of e = refl

pub records_of_laid : {e : Terminator} → Four e → {w : ℕ} {rs : List (List ℕ)} → AllWhole w rs → 1 ≤ w
    → records_of (laid_all e rs) ≡ records_before rs over
records_of_laid {e} f no_records h = no_records_of e
records_of_laid {e} f {w} (whole {r} {rs} l p a) h =
    let b : AllWhole w (r ∷ rs) = whole l p a in
    let q = first_of_laid f b h in
    sym (cut_only (laid_all e (r ∷ rs)) (records_before (r ∷ rs) over) (rw q (clean_whole f b))
    (ap (λ (x : Terminator). laid x (records_before (r ∷ rs) over)) q ∙ laid_before e (r ∷ rs)))
