-- THE HEADER is read back from the output: six numbers of 32 bits, each as it was counted.
-- Assumes nothing.
use Rattle.std.specs.Prelude.{◌≡◌, List, ◌++◌, ℕ, ◌*◌, ◌≤◌, ◌<◌, ℤ, length, drop}
use Rattle.std.proofs.Math.Path.{refl}
use Rattle.std.proofs.Common.{sym, ap, ◌∙◌, subst, append_assoc, mul-le-mul_left, arith, take-append-drop}
use Rattle.sound.specs.rule.Rows.{rows_of}
use Rattle.little.specs.rule.Bytes.{little_bytes, put_at, little_number}
use Rattle.little.specs.Bytes.{bytes_back}
use Rattle.little.specs.Runs.{put_back}
use Rattle.matrix.specs.rule.Entry.{flags_of, value_bytes}
use Rattle.matrix.specs.rule.Bytes.{presence_at, values_at, total_of, header_bytes}
use Rattle.matrices.specs.rule.Matrix.{table_columns, matrix_entries, summaries_of, matrix_of}
use Rattle.matrix_laws.specs.rule.Header.{Headed}
use Rattle.matrix_laws.specs.Matrix.{matrix_length}

-- a number of 32 bits from its four bytes
back : (n : ℕ) → n < 4294967296 → little_number (little_bytes 4 n) ≡ n
back n h = bytes_back 4 n h

-- the six numbers at the start of whatever follows them
parts : (r c : ℕ) (rest : List ℕ) → total_of r c < 4294967296 → r < 4294967296 → c < 4294967296 → Headed r c (header_bytes r c ++ rest)
unfolding header_bytes little_bytes
parts r c rest h g f = record {
  first = back r g;
  second = back c f;
  third = back 24 (omega arith);
  fourth = back (presence_at c) (omega arith);
  fifth = back (values_at r c) (omega arith);
  sixth = back (total_of r c) h;
}

-- THE LAW: where there is a column, and the total is within the limit
module _ (t : List ℤ) (rs : List (List ℕ)) (out : List ℕ) (inside : total_of (length rs) (length (table_columns t)) ≤ length out) where
  abbrev r : ℕ
  r = length rs

  abbrev c : ℕ
  c = length (table_columns t)

  abbrev m : List ℕ
  m = matrix_of t rs

  abbrev behind : List ℕ
  behind =
      let es = matrix_entries t (rows_of t) (table_columns t) rs in
      summaries_of t (rows_of t) rs (table_columns t) ++ (flags_of es ++ value_bytes es)

  made : m ≡ header_bytes r c ++ behind
  unfolding matrix_of
  made = refl

  stands : put_at out 0 m ≡ header_bytes r c ++ (behind ++ drop (length m) (put_at out 0 m))
  stands =
      sym (take-append-drop (length m) (put_at out 0 m))
      ∙ ap (λ (l : List ℕ). l ++ drop (length m) (put_at out 0 m)) (put_back out 0 m (omega (arith, matrix_length t rs, inside)) ∙ made)
      ∙ append_assoc (header_bytes r c) behind (drop (length m) (put_at out 0 m))

  pub header_reads : 0 < length (table_columns t) → total_of (length rs) (length (table_columns t)) ≤ 16777216
      → Headed (length rs) (length (table_columns t)) (put_at out 0 (matrix_of t rs))
  header_reads some few =
      let low : r * 1 ≤ r * c = mul-le-mul_left {m = 1} {n = c} r some in
      subst (λ (l : List ℕ). Headed r c l) (sym stands)
      (parts r c (behind ++ drop (length m) (put_at out 0 m)) (omega (arith, few)) (omega (arith, few, low)) (omega (arith, few)))
