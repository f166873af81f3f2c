use mathlib.Core.Path.{sym, ap}
use native.Mathlib.Omega.{arith}
use lib.ListN.{length}
use Rattle.utf.proofs.Encode.{encode_1, encode_2, encode_3, encode_4}
use Rattle.utf.proofs.encoded_long.Goals as goal

pub returns-then-c-lt128 : goal.returns-then-c-lt128
returns-then-c-lt128 c = (sym (ap length (encode_1 c.args.c c.if-c-lt128.true)), omega arith)

pub returns-then-c-lt2048 : goal.returns-then-c-lt2048
returns-then-c-lt2048 c = (sym (ap length (encode_2 c.args.c (omega arith) (omega arith))), omega arith)

pub returns-then-c-lt65536 : goal.returns-then-c-lt65536
returns-then-c-lt65536 c = (sym (ap length (encode_3 c.args.c (omega arith) (omega arith))), omega arith)

pub returns-else-c-lt65536 : goal.returns-else-c-lt65536
returns-else-c-lt65536 c = (sym (ap length (encode_4 c.args.c (omega arith))), omega arith)
