-- A FILE AS EACH OF ITS RECORDS (rule/Each): found one by one and judged one by one they give the file's own verdict.
use Rattle.std.specs.Prelude.{◌≡◌, Bool, true, false, List, eqb, ℤ, drop}
use Rattle.std.proofs.Math.Path.{refl}
use Rattle.std.proofs.Common.{sym, ap, ◌∙◌, arith, eqb-true, length-take, length-drop}
use Prim.Native.Nat.{ℕ, zero, suc, ◌+◌, ◌-◌, ◌≤◌}
use Rattle.std.proofs.lemmas.Bool.{eqb-false}
use Rattle.std.proofs.Math.ListN.{length}
use Rattle.cuts.specs.declared.Terminator.{Terminator}
use Rattle.cuts.specs.declared.Next.{Next}
use Rattle.cuts.specs.declared.Next.TheVariants.{Ended, Unended, Nothing}
use Rattle.cuts.specs.rule.Cut.{terminator_of, next_of, next_from}
use Rattle.cuts.specs.rule.Records.{records_from, records_of}
use Rattle.cuts.specs.Cut.{next_none}
use Rattle.cuts.specs.Records.{part, EndedAt, next_ended, next_unended, next_nothing, over_past}
use Rattle.sound.specs.rule.Sound.{well_formed}
use Rattle.records.specs.rule.Verdict.{refused, verdict_of}
use Rattle.files.specs.rule.File.{FileVerdict, sound_with, bad_table, record_verdict, go_on, first_length, records_verdict}
use Rattle.files.specs.rule.File.{file_verdict}
use Rattle.files.specs.rule.File.{is_sound}
use Rattle.files.specs.File.{go_sound, go_fault, verdict_other, records_over, records_unended, records_next}
use Rattle.file_laws.specs.Files.{record_as_judged}
use Rattle.part_laws.specs.rule.Each.{Driven, at_end_lem, without_end, other_length, at_fault, goes_on, Drive}

module _ (t : List ℤ) (d : List ℕ) (good : well_formed t ≡ true) where
  abbrev w : Terminator
  w = terminator_of d

  found : (from : ℕ) {x : Next} → next_of d from ≡ x → next_from w from (drop from d) ≡ x
  unfolding next_of
  found from e = e

  -- the record that was found
  module _ (from a e next : ℕ) (q : next_of d from ≡ Ended a e next) (n first : ℕ) where
    at : EndedAt d w from (records_from w (drop from d)) a e next
    at = next_ended d w from (found from q)

    bytes : part d from e ≡ part d a e
    bytes = ap (λ (x : ℕ). part d x e) (sym at.starts)

    long : length (part d a e) ≡ e - a
    long = let s = at.starts in let h = at.after in let i = at.inside in rw (length-take, length-drop) (omega arith)

    step : records_verdict t n first (records_from w (drop from d))
        ≡ go_on (record_verdict t (first_length n first (e - a)) (part d a e)) n
        (records_verdict t (n + 1) (first_length n first (e - a)) (records_from w (drop next d)))
    step = records_next t n first (records_from w (drop from d)) at.records ∙ rw (bytes, long)

    judged : e - a ≡ first_length n first (e - a) → record_verdict t (first_length n first (e - a)) (part d a e) ≡ verdict_of t (part d a e)
    judged l = record_as_judged t (first_length n first (e - a)) (part d a e) good (long ∙ l)

  each : {from n first : ℕ} {v : FileVerdict} → Driven t d from n first v → records_verdict t n first (records_from w (drop from d)) ≡ v
  unfolding is_sound
  each {from} {n} {first} (at_end_lem q) =
      records_over t n first (records_from w (drop from d)) (over_past d w from (next_nothing d w from (found from q)))
  each {from} {n} {first} (without_end q) =
      records_unended t n first (records_from w (drop from d)) (next_unended d w from (found from q)).records
  each {from} {n} {first} (other_length {a = a} {e = e} {next = next} q k) =
      let f = first_length n first (e - a) in
      step from a e next q n first
      ∙ rw (verdict_other t f (part d a e) (λ z. k (sym (long from a e next q n first) ∙ z))) (go_fault (refused 31) n _ refl)
  each {from} {n} {first} (at_fault {a = a} {e = e} {next = next} q l f) =
      step from a e next q n first ∙ rw (judged from a e next q n first l) (go_fault (verdict_of t (part d a e)) n _ f)
  each {from} {n} {first} (goes_on {a = a} {e = e} {next = next} q l s g) =
      step from a e next q n first ∙ rw (judged from a e next q n first l) (go_sound (verdict_of t (part d a e)) n _ s) ∙ each g

  pub once_as_each : {v : FileVerdict} → Driven t d 0 0 0 v → file_verdict t d ≡ v
  unfolding file_verdict records_of
  once_as_each g = rw good (each g)

-- a table that is not well formed is told of before any record
pub once_bad : (t : List ℤ) (d : List ℕ) → well_formed t ≡ false → file_verdict t d ≡ bad_table
unfolding file_verdict
once_bad t d bad = rw bad

-- ---- and whoever goes so comes to an end
module _ (t : List ℤ) (d : List ℕ) where
  -- at a record that was found: its length, its bytes, and then the next place
  drive_found : {a e next : ℕ} (from n first : ℕ) → next_of d from ≡ Ended a e next
      → (Drive t d next (n + 1) (first_length n first (e - a))) → Drive t d from n first
  drive_found {a} {e} {next} from n first q rest = go (eqb (e - a) f) refl (is_sound (verdict_of t (part d a e))) refl
    where
      f : ℕ
      f = first_length n first (e - a)

      go : (x : Bool) → eqb (e - a) f ≡ x → (y : Bool) → is_sound (verdict_of t (part d a e)) ≡ y → Drive t d from n first
      go false k y v = record { verdict = _; run = other_length q (eqb-false (e - a) f k) }
      go true k false v = record { verdict = _; run = at_fault q (eqb-true (e - a) f k) v }
      go true k true v = record { verdict = _; run = goes_on q (eqb-true (e - a) f k) v rest.run }

  drive : (fuel from n first : ℕ) → length d - from ≤ fuel → Drive t d from n first
  unfolding next_of
  drive zero from n first h =
      record { verdict = sound_with n; run = at_end_lem (next_none d from (terminator_of d) (omega arith)) }
  drive (suc fuel) from n first h = go (next_of d from) refl (λ next f l. drive fuel next (n + 1) f l)
    where
      go : (x : Next) → next_of d from ≡ x → ((next f : ℕ) → length d - next ≤ fuel → Drive t d next (n + 1) f) → Drive t d from n first
      go Nothing q ih = record { verdict = sound_with n; run = at_end_lem q }
      go (Unended a e) q ih = record { verdict = _; run = without_end q }
      go (Ended a e next) q ih =
          let z = next_ended d (terminator_of d) from q in
          let p1 = z.after in
          let p2 = z.next in
          let p3 = z.sized in
          drive_found from n first q (ih next (first_length n first (e - a)) (omega arith))

  pub drives : Drive t d 0 0 0
  drives = drive (length d) 0 0 0 (omega arith)
