-- "2 another token was due, at its first byte, or at the file's length": where a 2 stands, in one statement.
use Rattle.std.specs.Prelude.{◌≡◌, refl, List, ℕ, ◌+◌, ◌≤◌, ◌<◌, length}
use Rattle.std.proofs.Common.{arith}
use Rattle.scan.specs.rule.Text.{Text, sign, text}
use Rattle.scan.proofs.Texts.{From, at_stop, at_sign, from_text}
use Rattle.definition.specs.rule.Definition.{SssOutcome, Refusal, sss_outcome}
use Rattle.bridge.specs.Lowest.{never}
use Rattle.grammar_laws.specs.Outcome.{Settles, too_long, stopped, misnamed, no_room, read, outcome_exactly}
use Rattle.grammar_laws.specs.Whole.{survey_halted}
use Rattle.grammar_laws.specs.Refusals.{Standing, two_stands}
use Rattle.grammar_laws.specs.Refusals as refusals
use Rattle.refusals.specs.Refusals.{refusal_placed}

module _ (d : List ℕ) where
  -- a byte of the file, of 32 or above, stands at p; or p is the file's length
  pub data TwoAt (p : ℕ) : Type 0 where
    at_byte : {b : ℕ} → p < length d → text d p ≡ sign p b (text d (p + 1)) → TwoAt p
    at_length : p ≡ length d → TwoAt p

  byte_within : {p b : ℕ} → text d p ≡ sign p b (text d (p + 1)) → p < length d
  byte_within {p} {b} e = by (from_text d p) e where
    by : {t : Text} → From d p t → t ≡ sign p b (text d (p + 1)) → p < length d
    by at_stop q = never cc
    by (at_sign {p = o} h w i r) q = let j : o ≡ p = cc in omega arith

  placed : {p : ℕ} → Standing d p → p ≤ length d → TwoAt p
  placed (refusals.byte e) h = at_byte (byte_within e) e
  placed (refusals.Standing.end e l) h = at_length (omega arith)

  -- A 2 STANDS at a byte of the file that is no part of what was read, or at the file's length, whatever table is lent
  pub two_placed : (n p : ℕ) → sss_outcome d n ≡ Refusal 2 p → TwoAt p
  two_placed n p e = by ((outcome_exactly d n (Refusal 2 p)).0 e) refl where
    by : {o : SssOutcome} → Settles d n o → o ≡ Refusal 2 p → TwoAt p
    by (too_long h) q = never cc
    by (stopped {f = f} h z) q =
        let i : f.number ≡ 2 = cc in
        let j : f.place ≡ p = cc in
        let x = two_stands d f (survey_halted d z) i in
        placed (rw j at x) (refusal_placed d n 2 p e)
    by (misnamed h x i l) q = never cc
    by (no_room h x w l) q = never cc
    by (read h x w l) q = never cc
