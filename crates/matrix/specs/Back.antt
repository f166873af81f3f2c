-- A summary is read back from the bytes that it was put as.
-- Assumes nothing.
use Rattle.std.specs.Prelude.{◌≡◌, List, ◌++◌, ℕ, ◌+◌, ◌<◌, T, take, drop, Float}
use Rattle.std.proofs.Common.{sym, ap, ◌∙◌, append_assoc, arith, take-append-drop, take_at, drop_at, drop-drop}
use Rattle.std.specs.Float.{binary64}
use Rattle.std.specs.Float.Ieee.{fits, of_bits, to_bits}
use Rattle.std.specs.Float.Ieee.Bits.{of_bits-to_bits, to_bits-lt}
use Rattle.little.specs.rule.Bytes.{little_bytes, little_number}
use Rattle.little.specs.Bytes.{number_at, bytes_count, bytes_back}
use Rattle.summary.specs.declared.Summary.{Summary}
use Rattle.matrix.specs.rule.Bytes.{summary_bytes}

-- the summary that the 24 bytes from a on say
abbrev pub summary_at : List ℕ → ℕ → Summary
summary_at s a = record {
  count = number_at 8 a s;
  least = of_bits binary64 (number_at 8 (a + 8) s);
  most = of_bits binary64 (number_at 8 (a + 16) s);
}

float_from : (x : Float) → T (fits binary64 x) → of_bits binary64 (little_number (little_bytes 8 (to_bits binary64 x))) ≡ x
float_from x f = ap (of_bits binary64) (bytes_back 8 (to_bits binary64 x) (to_bits-lt binary64 x f)) ∙ of_bits-to_bits binary64 x f

-- THE SUMMARY that stands there is the one whose bytes stand there
pub summary_back : (s : List ℕ) (a : ℕ) (x : Summary) → take 24 (drop a s) ≡ summary_bytes x → x.count < 18446744073709551616
    → T (fits binary64 x.least) → T (fits binary64 x.most) → summary_at s a ≡ x
unfolding summary_bytes number_at
summary_back s a x e low p q =
    let b1 = little_bytes 8 x.count in
    let b2 = little_bytes 8 (to_bits binary64 x.least) in
    let b3 = little_bytes 8 (to_bits binary64 x.most) in
    let rest = drop 24 (drop a s) in
    let n1 = bytes_count 8 x.count in
    let n2 = bytes_count 8 (to_bits binary64 x.least) in
    let n3 = bytes_count 8 (to_bits binary64 x.most) in
    let whole : drop a s ≡ b1 ++ (b2 ++ (b3 ++ rest)) =
    sym (take-append-drop 24 (drop a s)) ∙ ap (λ (l : List ℕ). l ++ rest) e ∙ append_assoc (b1 ++ b2) b3 rest
    ∙ append_assoc b1 b2 (b3 ++ rest) in
    let one : take 8 (drop a s) ≡ b1 = ap (take 8) whole ∙ take_at b1 (b2 ++ (b3 ++ rest)) 8 n1 in
    let behind : drop (a + 8) s ≡ b2 ++ (b3 ++ rest) =
    sym (drop-drop 8 a s) ∙ ap (drop 8) whole ∙ drop_at b1 (b2 ++ (b3 ++ rest)) 8 n1 in
    let two : take 8 (drop (a + 8) s) ≡ b2 = ap (take 8) behind ∙ take_at b2 (b3 ++ rest) 8 n2 in
    let i : a + 8 + 8 ≡ a + 16 = omega arith in
    let last : drop (a + 16) s ≡ b3 ++ rest =
    ap (λ (k : ℕ). drop k s) (sym i) ∙ sym (drop-drop 8 (a + 8) s) ∙ ap (drop 8) behind ∙ drop_at b2 (b3 ++ rest) 8 n2 in
    let three : take 8 (drop (a + 16) s) ≡ b3 = ap (take 8) last ∙ take_at b3 rest 8 n3 in
    rw (one, two, three, bytes_back 8 x.count low, float_from x.least p, float_from x.most q)
