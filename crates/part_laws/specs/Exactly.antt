-- EXACTLY WHEN, for a part of a file (rule/Exactly): what is so has its verdict, and the verdict names what is so.
use Rattle.std.specs.Prelude.{◌≡◌, ◌⊎◌, Bool, cond, not, ℕ, ◌+◌, ℤ}
use Rattle.std.proofs.Math.Path.{refl, ap}
use Rattle.std.proofs.Common.{sym, ◌∙◌, inl, inr, ⊎_elim, eq-eqb, ne_eqb, eqb-true, length-append}
use Rattle.std.proofs.Math.Bool.{true, false}
use mathlib.Core.List.{List, [], ◌∷◌, ◌++◌}
use native.Mathlib.Omega.{arith}
use Rattle.std.proofs.lemmas.Bool.{eqb-false}
use Rattle.std.proofs.Math.Dec.{eqb}
use Rattle.std.proofs.Math.ListN.{length}
use Rattle.below.specs.Below.{lt_or_le}
use Rattle.cuts.specs.declared.Terminator.{Terminator}
use Rattle.cuts.specs.rule.Cut.{one_byte, two_bytes, no_ending}
use Rattle.cuts.specs.rule.Records.{Records, over, unended, record_and, records_from}
use Rattle.sound.specs.rule.Sound.{well_formed}
use Rattle.records.specs.rule.Verdict.{sound, refused, verdict_of}
use Rattle.files.specs.rule.File.{sound_with, fault_in, go_on, is_sound}
use Rattle.files.specs.File.{go_fault, verdict_other}
use Rattle.file_laws.specs.rule.Files.{records_before, AllSound, none_yet, one_more}
use Rattle.file_laws.specs.Files.{record_as_judged}
use Rattle.file_laws.specs.Files.{not_sound, is_sound_lem, sound_not, before_more, sound_more}
use Rattle.parts.specs.rule.Part.{numbered, part_records, PartVerdict, judged_as, part_verdict, PartJudged}
use Rattle.parts.specs.Part.{part_bad, part_none, part_judged}
use Rattle.part_laws.specs.rule.Exactly.{IsNumber, SoundIn, PartOutcome, not_formed, no_number, all_sound, left_alone, not_ended}
use Rattle.part_laws.specs.rule.Exactly.{other_length, record_fault}

-- ---- one answer
pub part_one : {t : List ℤ} {d : List ℕ} {terminator first last : ℕ} {v₁ v₂ : PartVerdict}
    → PartJudged t d terminator first last v₁ → PartJudged t d terminator first last v₂ → v₁ ≡ v₂
part_one a b = a.says ∙ sym b.says

-- ---- the numbers
chosen : (a b c d : Bool) → Terminator
chosen a b c d = cond a (two_bytes 13 10) (cond b (two_bytes 10 13) (cond c (one_byte 13 10) (cond d (one_byte 10 13) no_ending)))

pub number_some : (k : ℕ) → IsNumber k → (numbered k).size ≡ 0 → ⊥
unfolding numbered chosen
number_some k i = go (eqb k 1) refl (eqb k 2) refl (eqb k 3) refl (eqb k 4) refl
  where
    go : (a : Bool) → eqb k 1 ≡ a → (b : Bool) → eqb k 2 ≡ b → (c : Bool) → eqb k 3 ≡ c → (d : Bool) → eqb k 4 ≡ d
        → (chosen a b c d).size ≡ 0 → ⊥
    go true p b q c r d s z = omega arith
    go false p true q c r d s z = omega arith
    go false p false q true r d s z = omega arith
    go false p false q false r true s z = omega arith
    go false p false q false r false s z =
        let n1 = eqb-false k 1 p in
        let n2 = eqb-false k 2 q in
        let n3 = eqb-false k 3 r in
        let n4 = eqb-false k 4 s in
        omega (arith, i.least, i.most)

pub number_none : (k : ℕ) → (IsNumber k → ⊥) → (numbered k).size ≡ 0
unfolding numbered
number_none k n =
    let n1 : k ≡ 1 → ⊥ = λ e. n (record { least = omega arith; most = omega arith }) in
    let n2 : k ≡ 2 → ⊥ = λ e. n (record { least = omega arith; most = omega arith }) in
    let n3 : k ≡ 3 → ⊥ = λ e. n (record { least = omega arith; most = omega arith }) in
    let n4 : k ≡ 4 → ⊥ = λ e. n (record { least = omega arith; most = omega arith }) in
    rw (ne_eqb k 1 n1, ne_eqb k 2 n2, ne_eqb k 3 n3, ne_eqb k 4 n4)

module _ (t : List ℤ) (good : well_formed t ≡ true) (first : ℕ) (q : Bool) where
  -- the verdict on the next record
  next_sound : (n : ℕ) (r : List ℕ) (rest : Records) → length r ≡ first → verdict_of t r ≡ sound
      → part_records t n first q (record_and r rest) ≡ part_records t (n + 1) first q rest
  unfolding part_records go_on
  next_sound n r rest e s = rw (record_as_judged t first r good e, s)

  next_other : (n : ℕ) (r : List ℕ) (rest : Records) → (length r ≡ first → ⊥)
      → part_records t n first q (record_and r rest) ≡ fault_in (n + 1) (refused 31)
  unfolding part_records go_on
  next_other n r rest e = rw (verdict_other t first r e)

  next_fault : (n : ℕ) (r : List ℕ) (rest : Records) → length r ≡ first → (verdict_of t r ≡ sound → ⊥)
      → part_records t n first q (record_and r rest) ≡ fault_in (n + 1) (verdict_of t r)
  unfolding part_records
  next_fault n r rest e s =
      rw (record_as_judged t first r good e)
      (go_fault (verdict_of t r) n (part_records t (n + 1) first q rest) (not_sound (verdict_of t r) s))

  -- sound records are passed
  passed : {rs : List (List ℕ)} → AllSound t first rs → (n : ℕ) (rest : Records)
      → part_records t n first q (records_before rs rest) ≡ part_records t (n + length rs) first q rest
  unfolding records_before
  passed none_yet n rest = let z : n + 0 ≡ n = omega arith in rw z
  passed (one_more {r} {rs} e s a) n rest =
      let z : n + length (r ∷ rs) ≡ n + 1 + length rs = omega arith in
      next_sound n r (records_before rs rest) e s ∙ rw z (passed a (n + 1) rest)

number_or : (k : ℕ) → IsNumber k ⊎ (IsNumber k → ⊥)
number_or k =
    ⊎_elim (λ l. inr (λ i. omega (arith, i.least)))
    (λ l. ⊎_elim (λ h. inr (λ i. omega (arith, i.most))) (λ h. inl (record { least = l; most = h })) (lt_or_le 4 k)) (lt_or_le k 1)

zero_plus : (n : ℕ) → 0 + n ≡ n
zero_plus n = omega arith

-- ---- WHAT IS SO HAS ITS VERDICT
module _ (t : List ℤ) (d : List ℕ) (terminator first last : ℕ) where
  abbrev marked : Bool
  marked = not (eqb last 0)

  by_records : {rs : List (List ℕ)} {rest : Records} → SoundIn t d terminator first rs rest
      → part_verdict t d terminator first last ≡ judged_as (part_records t (length rs) first marked rest)
  by_records {rs} {rest} s =
      sym (part_judged t d terminator first last s.formed refl (number_some terminator s.number) refl)
      ∙ ap judged_as
      (ap (part_records t 0 first marked) s.records
      ∙ rw (zero_plus (length rs)) at (passed t s.formed first marked s.all 0 rest))

  pub part_only : {v : PartVerdict} → PartOutcome t d terminator first last v → part_verdict t d terminator first last ≡ v
  unfolding part_records
  part_only (not_formed b) = part_bad t d terminator first last b
  part_only (no_number g n) = part_none t d terminator first last g refl (number_none terminator n)
  part_only (all_sound rs s) = by_records s
  part_only (left_alone rs r z s) = by_records s ∙ rw (eq-eqb last 0 z)
  part_only (not_ended rs r n s) = by_records s ∙ rw (ne_eqb last 0 n)
  part_only (other_length rs r rest s n) = by_records s ∙ ap judged_as (next_other t s.formed first marked (length rs) r rest n)
  part_only (record_fault rs r rest s e n) = by_records s ∙ ap judged_as (next_fault t s.formed first marked (length rs) r rest e n)

  -- ---- AND THE VERDICT NAMES WHAT IS SO
  named_from : (rest : Records) (rs : List (List ℕ)) → SoundIn t d terminator first rs rest
      → PartOutcome t d terminator first last (judged_as (part_records t (length rs) first marked rest))
  unfolding part_records
  named_from over rs s = all_sound rs s
  named_from (unended r) rs s = go (eqb last 0) refl
    where
      go : (b : Bool) → eqb last 0 ≡ b
          → PartOutcome t d terminator first last
          (judged_as (cond (not b) (fault_in (length rs + 1) (refused 30)) (sound_with (length rs))))
      go true z = left_alone rs r (eqb-true last 0 z) s
      go false z = not_ended rs r (eqb-false last 0 z) s
  named_from (record_and r rest) rs s = go (eqb (length r) first) refl (is_sound (verdict_of t r)) refl
      (λ g. named_from rest (rs ++ r ∷ []) g)
    where
      good : well_formed t ≡ true
      good = s.formed

      more : length r ≡ first → verdict_of t r ≡ sound → SoundIn t d terminator first (rs ++ r ∷ []) rest
      more e v = record {
        formed = s.formed;
        number = s.number;
        records = s.records ∙ sym (before_more rs r rest);
        all = sound_more r s.all e v;
      }

      long : length (rs ++ r ∷ []) ≡ length rs + 1
      long = length-append rs (r ∷ [])

      go : (p : Bool) → eqb (length r) first ≡ p → (x : Bool) → is_sound (verdict_of t r) ≡ x
          → (SoundIn t d terminator first (rs ++ r ∷ []) rest
          → PartOutcome t d terminator first last (judged_as (part_records t (length (rs ++ r ∷ [])) first marked rest)))
          → PartOutcome t d terminator first last (judged_as (part_records t (length rs) first marked (record_and r rest)))
      go false e x v ih =
          let n = eqb-false (length r) first e in
          rw (next_other t good first marked (length rs) r rest n) (other_length rs r rest s n)
      go true e false v ih =
          let l = eqb-true (length r) first e in
          let n = sound_not (verdict_of t r) v in
          rw (next_fault t good first marked (length rs) r rest l n) (record_fault rs r rest s l n)
      go true e true v ih =
          let l = eqb-true (length r) first e in
          let y = is_sound_lem (verdict_of t r) v in
          rw (next_sound t good first marked (length rs) r rest l y) (rw long at (ih (more l y)))

  pub part_named : PartOutcome t d terminator first last (part_verdict t d terminator first last)
  unfolding records_before
  part_named = go (well_formed t) refl (number_or terminator)
    where
      go : (b : Bool) → well_formed t ≡ b → IsNumber terminator ⊎ (IsNumber terminator → ⊥)
          → PartOutcome t d terminator first last (part_verdict t d terminator first last)
      go false b i = rw (part_bad t d terminator first last b) (not_formed b)
      go true g (inr n) = rw (part_none t d terminator first last g refl (number_none terminator n)) (no_number g n)
      go true g (inl i) =
          let s : SoundIn t d terminator first [] (records_from (numbered terminator) d) =
          record { formed = g; number = i; records = refl; all = none_yet } in
          rw (by_records s) (named_from (records_from (numbered terminator) d) [] s)
