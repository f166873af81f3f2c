use mathlib.Core.Path.{◌≡◌, ap, ◌∙◌}
use Prim.Native.Nat.{ℕ, ◌<◌}
use native.Mathlib.Omega.{arith}
use lib.ListN.{length}
use Rattle.utf.proofs.Encode.{encode_1, encode_2, encode_3, encode_4}
use Rattle.utf.proofs.encoded.Goals as goal

short : (n m k : ℕ) → n ≡ m → k < n → k < m
short n m k e h = omega arith

pub returns-then-c-lt128 : goal.returns-then-c-lt128
returns-then-c-lt128 c =
    let a = c.args in
    let e = encode_1 a.c c.if-c-lt128.true in
    let k : a.k ≡ 0 = omega (arith, short _ _ _ (ap length e) c.requires.1) in
    rw (e, k) (c.lead.ensures ∙ omega arith)

pub of_two-requires : goal.of_two-requires
of_two-requires c = let a = c.args in (
  c.if-c-lt2048.true,
  short _ _ _ (ap length (encode_2 a.c (omega arith) (omega arith))) c.requires.1,
)

pub returns-then-c-lt2048 : goal.returns-then-c-lt2048
returns-then-c-lt2048 c = let a = c.args in rw (encode_2 a.c (omega arith) (omega arith)) c.of_two.ensures

pub of_three-requires : goal.of_three-requires
of_three-requires c = let a = c.args in (
  c.if-c-lt65536.true,
  short _ _ _ (ap length (encode_3 a.c (omega arith) (omega arith))) c.requires.1,
)

pub returns-then-c-lt65536 : goal.returns-then-c-lt65536
returns-then-c-lt65536 c = let a = c.args in rw (encode_3 a.c (omega arith) (omega arith)) c.of_three.ensures

pub of_four-requires : goal.of_four-requires
of_four-requires c = let a = c.args in (
  c.requires.0,
  short _ _ _ (ap length (encode_4 a.c (omega arith))) c.requires.1,
)

pub returns : goal.returns
returns c = let a = c.args in rw (encode_4 a.c (omega arith)) c.of_four.ensures
