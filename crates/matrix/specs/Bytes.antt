-- What follows from rule/Bytes.antt: numbers one behind the other, and the lengths of header and summary.
-- Assumes nothing.
use Rattle.std.specs.Prelude.{◌≡◌, refl, List, ◌++◌, ℕ, ◌+◌, length}
use Rattle.std.proofs.Common.{◌∙◌, length-append}
use Rattle.std.specs.Float.{binary64}
use Rattle.std.specs.Float.Ieee.{to_bits}
use Rattle.little.specs.rule.Bytes.{little_bytes, put_at}
use Rattle.little.specs.Bytes.{bytes_count}
use Rattle.little.specs.Runs.{put_next}
use Rattle.summary.specs.declared.Summary.{Summary}
use Rattle.matrix.specs.rule.Bytes.{presence_at, values_at, total_of, header_bytes, summary_bytes}

next_number : (r : List ℕ) (a : ℕ) (xs : List ℕ) (b k n m : ℕ) → length xs ≡ m → a + m ≡ b
    → (put_at (put_at r a xs) b (little_bytes k n) ≡ put_at r a (xs ++ little_bytes k n)) × (length (xs ++ little_bytes k n) ≡ m + k)
next_number r a xs b k n m e f = (
  put_next r a xs b (little_bytes k n) (rw e f),
  length-append xs (little_bytes k n) ∙ rw (e, bytes_count),
)

pub header_put : (r : List ℕ) (n c p v t : ℕ) → p ≡ presence_at c → v ≡ values_at n c → t ≡ total_of n c
    → put_at (put_at (put_at (put_at (put_at (put_at r 0 (little_bytes 4 n)) 4 (little_bytes 4 c)) 8 (little_bytes 4 24))
    12 (little_bytes 4 p)) 16 (little_bytes 4 v)) 20 (little_bytes 4 t) ≡ put_at r 0 (header_bytes n c)
unfolding header_bytes
header_put r n c p v t ep ev et =
    let x1 = little_bytes 4 n in
    let x2 = x1 ++ little_bytes 4 c in
    let x3 = x2 ++ little_bytes 4 24 in
    let x4 = x3 ++ little_bytes 4 (presence_at c) in
    let x5 = x4 ++ little_bytes 4 (values_at n c) in
    let p2 = next_number r 0 x1 4 4 c 4 (bytes_count 4 n) refl in
    let p3 = next_number r 0 x2 8 4 24 8 p2.1 refl in
    let p4 = next_number r 0 x3 12 4 (presence_at c) 12 p3.1 refl in
    let p5 = next_number r 0 x4 16 4 (values_at n c) 16 p4.1 refl in
    let p6 = next_number r 0 x5 20 4 (total_of n c) 20 p5.1 refl in
    rw (ep, ev, et) (rw (p2.0, p3.0, p4.0, p5.0) p6.0)

pub length_header : (n c : ℕ) → length (header_bytes n c) ≡ 24
unfolding header_bytes
length_header n c = simp (length-append, bytes_count)

pub summary_put : (r : List ℕ) (at : ℕ) (s : Summary)
    → put_at (put_at (put_at r at (little_bytes 8 s.count)) (at + 8) (little_bytes 8 (to_bits binary64 s.least))) (at + 16)
    (little_bytes 8 (to_bits binary64 s.most))
    ≡ put_at r at (summary_bytes s)
unfolding summary_bytes
summary_put r at s =
    let x1 = little_bytes 8 s.count in
    let x2 = x1 ++ little_bytes 8 (to_bits binary64 s.least) in
    let p2 = next_number r at x1 (at + 8) 8 (to_bits binary64 s.least) 8 (bytes_count 8 s.count) refl in
    let p3 = next_number r at x2 (at + 16) 8 (to_bits binary64 s.most) 16 p2.1 refl in
    rw p2.0 p3.0

pub length_summary : (s : Summary) → length (summary_bytes s) ≡ 24
unfolding summary_bytes
length_summary s = simp (length-append, bytes_count)
