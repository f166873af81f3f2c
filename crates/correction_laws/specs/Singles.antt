-- What the promise of the call gives: single writes in list order, marks that depend on nothing else, a list that is kept but for its
-- marks, and a refusal that keeps all. One outcome: `list_told_one` (zarfolin/specs/Settled).
use Rattle.std.specs.Prelude.{◌≡◌, refl, Bool, true, false, cond, List, [], ◌∷◌, map, ℕ, eqb, ℤ, length}
use Rattle.std.proofs.Common.{sym, ap, ◌∙◌, eqb-true}
use Rattle.corrections.specs.declared.Given.{Given}
use Rattle.corrections.specs.declared.Correction.{Correction}
use Rattle.corrections.specs.rule.Correction.{Asked, asks, other_truth, other_kind, asked_of, mark_by, record_by, mark_of, corrected_by}
use Rattle.corrections.specs.rule.Correction.{marked_with}
use Rattle.corrections.specs.rule.Correction.{corrected_all, written_all, whole_refusal, corrections_after, record_left, ListCorrected}
use Rattle.corrections.specs.Correction.{length_kept}
use Rattle.correction_laws.specs.rule.Singles.{Single, written, no_truth, no_kind, Chain, none, one}

-- ---- one correction is a single write, and a single write is one correction
single_is : (t : List ℤ) (i : ℕ) (g : Given) (old : List ℕ)
    → Single t i g old (record_by t i (asked_of g) old) (mark_by t i (length old) (asked_of g))
unfolding mark_by record_by
single_is t i g old = go (asked_of g) refl
  where
    go : (a : Asked) → asked_of g ≡ a → Single t i g old (record_by t i a old) (mark_by t i (length old) a)
    go (asks x) e = written e (record { says = refl; leaves = refl })
    go other_truth e = no_truth e (record { says = refl; keeps = refl })
    go other_kind e = no_kind e refl refl

single_mark : {t : List ℤ} {i : ℕ} {g : Given} {old new : List ℕ} {m : ℕ} → Single t i g old new m
    → m ≡ mark_by t i (length old) (asked_of g)
unfolding mark_by
single_mark (written e w) = rw e w.says
single_mark (no_truth e w) = rw e w.says
single_mark (no_kind e w k) = rw e w

single_record : {t : List ℤ} {i : ℕ} {g : Given} {old new : List ℕ} {m : ℕ} → Single t i g old new m → new ≡ record_by t i (asked_of g) old
unfolding record_by
single_record (written e w) = rw e w.leaves
single_record (no_truth e w) = rw e w.keeps
single_record (no_kind e w k) = rw e k

-- ---- the list, by induction
chain_is : (t : List ℤ) (list : List Correction) (old : List ℕ) → Chain t list (corrected_all t list old) old (written_all t list old)
unfolding corrected_all written_all
chain_is t [] old = none
chain_is t (c ∷ cs) old = one (single_is t c.row c.value old) (chain_is t cs (corrected_by t old c))

chain_marks : {t : List ℤ} {list done : List Correction} {old new : List ℕ} → Chain t list done old new → done ≡ corrected_all t list old
unfolding corrected_all
chain_marks none = refl
chain_marks (one s c) = rw (single_mark s, chain_marks c, single_record s)

chain_record : {t : List ℤ} {list done : List Correction} {old new : List ℕ} → Chain t list done old new → new ≡ written_all t list old
unfolding written_all
chain_record none = refl
chain_record (one s c) = rw (chain_record c, single_record s)

-- a call that is not turned away
taken : {t : List ℤ} {list list' : List Correction} {old new : List ℕ} → ListCorrected t list list' old new 0
    → (list' ≡ corrected_all t list old) × (new ≡ written_all t list old)
unfolding corrections_after record_left
taken p = (p.marks ∙ rw (← p.says), p.leaves ∙ rw (← p.says))

-- AS SINGLE WRITES: record and marks are what single writes in list order give
pub as_singles : {t : List ℤ} {list list' : List Correction} {old new : List ℕ} → ListCorrected t list list' old new 0
    → Chain t list list' old new
as_singles {t} {list} {list'} {old} {new} p = rw ((taken p).0, (taken p).1) (chain_is t list old)

-- AND NO OTHER: whatever single writes in list order give, record and marks are that
pub singles_as : {t : List ℤ} {list list' done : List Correction} {old new left : List ℕ} → ListCorrected t list list' old new 0
    → Chain t list done old left → (list' ≡ done) × (new ≡ left)
singles_as p c = ((taken p).0 ∙ sym (chain_marks c), (taken p).1 ∙ sym (chain_record c))

-- ---- A MARK DEPENDS on the table, its correction and the record's length alone
marks_map : (t : List ℤ) (list : List Correction) (old : List ℕ) (n : ℕ) → length old ≡ n
    → corrected_all t list old ≡ map (λ (c : Correction). marked_with c (mark_of t c n)) list
unfolding corrected_all
marks_map t [] old n e = refl
marks_map t (c ∷ cs) old n e =
    rw (e, marks_map t cs (corrected_by t old c) n (length_kept t c.row (asked_of c.value) old ∙ e))

pub marks_alone : {t : List ℤ} {list list' : List Correction} {old new : List ℕ} → ListCorrected t list list' old new 0
    → list' ≡ map (λ (c : Correction). marked_with c (mark_of t c (length old))) list
marks_alone {t} {list} {list'} {old} p = (taken p).0 ∙ marks_map t list old (length old) refl

-- ---- ONLY MARKS CHANGE: rows and values are kept, in their order
abbrev pub asking : Correction → ℕ × Given
asking c = (c.row, c.value)

asked_kept : (t : List ℤ) (list : List Correction) (old : List ℕ) → map asking (corrected_all t list old) ≡ map asking list
unfolding corrected_all
asked_kept t [] old = refl
asked_kept t (c ∷ cs) old = rw (asked_kept t cs (corrected_by t old c))

pub only_marks : {t : List ℤ} {list list' : List Correction} {old new : List ℕ} {r : ℕ} → ListCorrected t list list' old new r
    → map asking list' ≡ map asking list
unfolding corrections_after
only_marks {t} {list} {list'} {old} p = ap (map asking) p.marks ∙ go (eqb (whole_refusal t (length old)) 0)
  where
    go : (b : Bool) → map asking (cond b (corrected_all t list old) list) ≡ map asking list
    go true = asked_kept t list old
    go false = refl

-- and the record's length
pub length_all : (t : List ℤ) (list : List Correction) (old : List ℕ) → length (written_all t list old) ≡ length old
unfolding written_all
length_all t [] old = refl
length_all t (c ∷ cs) old = length_all t cs (corrected_by t old c) ∙ length_kept t c.row (asked_of c.value) old

pub record_length : {t : List ℤ} {list list' : List Correction} {old new : List ℕ} {r : ℕ} → ListCorrected t list list' old new r
    → length new ≡ length old
unfolding record_left
record_length {t} {list} {list'} {old} p = ap length p.leaves ∙ go (eqb (whole_refusal t (length old)) 0)
  where
    go : (b : Bool) → length (cond b (written_all t list old) old) ≡ length old
    go true = length_all t list old
    go false = refl

-- ---- A WHOLE REFUSAL KEEPS the record and every mark
pub whole_refused_keeps : {t : List ℤ} {list list' : List Correction} {old new : List ℕ} {r : ℕ} → (r ≡ 0 → ⊥)
    → ListCorrected t list list' old new r → (list' ≡ list) × (new ≡ old)
unfolding corrections_after record_left
whole_refused_keeps {t} {list} {list'} {old} {new} {r} n p = go (eqb (whole_refusal t (length old)) 0) refl p.marks p.leaves
  where
    go : (b : Bool) → eqb (whole_refusal t (length old)) 0 ≡ b → list' ≡ cond b (corrected_all t list old) list
        → new ≡ cond b (written_all t list old) old → (list' ≡ list) × (new ≡ old)
    go true e f g = absurd (n (p.says ∙ eqb-true _ _ e))
    go false e f g = (f, g)
