-- THE TURNS of the loop over a list of corrections, with no program: where it stands, and what one turn, and the end, give.
--     State        i corrections are taken: the list and the record as they are now, from which the definitions of the whole give the same
--                  as from the start
--     start, next  where the loop begins, and where one turn goes
--     still_ready  what a single write asks holds at every turn
--     ended        at the end the two are what the definitions of the whole say
use Rattle.std.specs.Prelude.{◌≡◌, ℕ, suc, ◌+◌, ◌<◌, ◌≤◌, Bool, ℤ, List, [], ◌∷◌, ◌++◌, take, drop, set, get_or}
use Rattle.std.proofs.Math.Path.{refl, sym}
use Rattle.std.proofs.Common.{◌∙◌, ap, lt-suc_self, add-one, arith, append_assoc, append-nil, length-set, drop_of_length-le, drop-cons}
use Rattle.std.proofs.Common.{take-suc-set, drop-set-lt, take_all}
use Rattle.std.proofs.Math.Bool.{true, false, cond}
use borrow.Author.Tests.{eqb-true}
use Rattle.std.proofs.Math.Dec.{eqb}
use Rattle.std.proofs.Math.ListN.{length}
use Rattle.corrections.specs.declared.Correction.{Correction}
use Rattle.corrections.specs.rule.Correction.{corrected, corrected_by, corrected_all, written_all, whole_refusal, corrections_after}
use Rattle.corrections.specs.rule.Correction.{record_left}
use Rattle.corrections.specs.Correction.{blank, turns_of}

-- how many turns there are: all of the list, or none
abbrev pub turns : List ℤ → List Correction → List ℕ → ℕ
turns t xs ss = turns_of (whole_refusal t (length ss)) (length xs)

pub record State (t : List ℤ) (xs : List Correction) (ss : List ℕ) : Type 0 where
  pub i : ℕ
  pub ys : List Correction
  pub zs : List ℕ
  pub upto : i ≤ turns t xs ss
  pub same : length ys ≡ length xs
  pub kept : length zs ≡ length ss
  pub marks : take i ys ++ corrected_all t (drop i ys) zs ≡ corrected_all t xs ss
  pub bytes : written_all t (drop i ys) zs ≡ written_all t xs ss
  pub still : i ≡ 0 → (ys ≡ xs) × (zs ≡ ss)

pub marks_on : (t : List ℤ) (i : ℕ) (ys : List Correction) (zs : List ℕ) (r : Correction) (ws : List ℕ) → i < length ys → r
    ≡ corrected t zs (get_or ys i blank) → ws ≡ corrected_by t zs (get_or ys i blank)
    → take (i + 1) (set ys i r) ++ corrected_all t (drop (i + 1) (set ys i r)) ws ≡ take i ys ++ corrected_all t (drop i ys) zs
unfolding corrected_all
marks_on t i ys zs r ws l e f =
    rw (add-one, take-suc-set ys i r l, drop-set-lt (suc i) ys i r (lt-suc_self i), append_assoc, drop-cons ys i blank l, e, f)

pub bytes_on : (t : List ℤ) (i : ℕ) (ys : List Correction) (zs : List ℕ) (r : Correction) (ws : List ℕ) → i < length ys → ws
    ≡ corrected_by t zs (get_or ys i blank)
    → written_all t (drop (i + 1) (set ys i r)) ws ≡ written_all t (drop i ys) zs
unfolding written_all
bytes_on t i ys zs r ws l f = rw (add-one, drop-set-lt (suc i) ys i r (lt-suc_self i), drop-cons ys i blank l, f)

marks_end : (t : List ℤ) (i : ℕ) (ys : List Correction) (zs : List ℕ) → length ys ≤ i → take i ys ++ corrected_all t (drop i ys) zs ≡ ys
unfolding corrected_all
marks_end t i ys zs l = rw (take_all i ys l, drop_of_length-le ys l, append-nil)

bytes_end : (t : List ℤ) (i : ℕ) (ys : List Correction) (zs : List ℕ) → length ys ≤ i → written_all t (drop i ys) zs ≡ zs
unfolding written_all
bytes_end t i ys zs l = rw (drop_of_length-le ys l)

module _ {t : List ℤ} {xs : List Correction} {ss : List ℕ} where
  abbrev pub start : State t xs ss
  start = record {
    i = 0;
    ys = xs;
    zs = ss;
    upto = omega arith;
    same = refl;
    kept = refl;
    marks = refl;
    bytes = refl;
    still = λ e.
        (refl, refl);
  }

  abbrev pub next : (s : State t xs ss) (r : Correction) (ws : List ℕ) → s.i < turns t xs ss → s.i < length xs
      → (r ≡ corrected t s.zs (get_or s.ys s.i blank)) × (ws ≡ corrected_by t s.zs (get_or s.ys s.i blank)) → length ws
      ≡ length s.zs → State t xs ss
  next s r ws m l e k = record {
    i = s.i + 1;
    ys = set s.ys s.i r;
    zs = ws;
    upto = omega arith;
    same = length-set s.ys s.i r ∙ s.same;
    kept = k ∙ s.kept;
    marks = marks_on t s.i s.ys s.zs r ws (omega arith) e.0 e.1 ∙ s.marks;
    bytes = bytes_on t s.i s.ys s.zs r ws (omega arith) e.1 ∙ s.bytes;
    still = λ z. absurd (omega (arith, z));
  }

  pub ended : (s : State t xs ss) → turns t xs ss ≤ s.i → (s.ys ≡ corrections_after t xs ss) × (s.zs ≡ record_left t xs ss)
  unfolding turns_of corrections_after record_left
  ended s over = go (eqb (whole_refusal t (length ss)) 0) refl
    where
      go : (b : Bool) → eqb (whole_refusal t (length ss)) 0 ≡ b → (s.ys ≡ cond b (corrected_all t xs ss) xs)
          × (s.zs ≡ cond b (written_all t xs ss) ss)
      go true e =
          let l : length xs ≤ s.i = rw e at over in (
            sym (marks_end t s.i s.ys s.zs (omega arith)) ∙ s.marks,
            sym (bytes_end t s.i s.ys s.zs (omega arith)) ∙ s.bytes,
          )
      go false e = let u : s.i ≤ 0 = rw e at s.upto in s.still (omega arith)

  -- what a write asks is so at every turn
  pub still_ready : (s : State t xs ss) → s.i < turns t xs ss → whole_refusal t (length s.zs) ≡ 0
  unfolding turns_of
  still_ready s m = rw s.kept (go (eqb (whole_refusal t (length ss)) 0) refl m)
    where
      go : (b : Bool) → eqb (whole_refusal t (length ss)) 0 ≡ b → s.i < cond b (length xs) 0 → whole_refusal t (length ss) ≡ 0
      go true e l = eqb-true _ _ e
      go false e l = absurd (omega arith)

-- no turn is past the list's end
pub turns_most : (t : List ℤ) (xs : List Correction) (ss : List ℕ) → turns t xs ss ≤ length xs
unfolding turns_of
turns_most t xs ss = go (eqb (whole_refusal t (length ss)) 0)
  where
    go : (b : Bool) → cond b (length xs) 0 ≤ length xs
    go true = omega arith
    go false = omega arith
