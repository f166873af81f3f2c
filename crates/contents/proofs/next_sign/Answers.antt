use mathlib.Core.Path.{◌≡◌, ap}
use Prim.Native.Nat.{ℕ, ◌≤◌, ◌<◌}
use native.Mathlib.Omega.{arith}
use Rattle.contents.specs.Told.{heard_code}
use Rattle.contents.proofs.Tellings.{hear_is, tell_next, tell_break, tell_byte, tell_code, tell_over}
use Rattle.contents.proofs.next_sign.Goals as goal

less : (a b n : ℕ) → b ≡ n → a < b → a < n
less a b n e h = omega arith

over : (a b n : ℕ) → b ≡ n → b ≤ a → n ≤ a
over a b n e h = omega arith

pub returns-then-c-encoded_long : goal.returns-then-c-encoded_long
returns-then-c-encoded_long c =
    let a = c.args in
    rw c.say_next.ensures (tell_next a.latin a.d.now a.c
    (less _ _ _ c.encoded_long.ensures.0 c.if-c-encoded_long.true)
    c.requires.0 c.requires.1)

pub say_first-requires : goal.say_first-requires
say_first-requires c = let x = c.next_heard.ensures.small in
    omega (arith, ap heard_code c.in-Code.is)

pub returns-in-Break : goal.returns-in-Break
returns-in-Break c =
    let a = c.args in
    rw c.say_whole.ensures (tell_break a.latin a.d.now a.c
    (over _ _ _ c.encoded_long.ensures.0 c.if-c-encoded_long.false) _
    (hear_is c.in-Break.is c.next_heard.ensures))

pub returns-in-Byte : goal.returns-in-Byte
returns-in-Byte c =
    let a = c.args in
    let b = c.say_byte.ensures.1 in
    rw c.say_byte.ensures.0 (tell_byte a.latin a.d.now a.c
    (over _ _ _ c.encoded_long.ensures.0 c.if-c-encoded_long.false) _ _
    (hear_is c.in-Byte.is c.next_heard.ensures) (rw c.say_byte.ensures.0 at b))

pub returns-in-Code : goal.returns-in-Code
returns-in-Code c =
    let a = c.args in
    rw c.say_first.ensures (tell_code a.latin a.d.now a.c
    (over _ _ _ c.encoded_long.ensures.0 c.if-c-encoded_long.false) _ _
    (hear_is c.in-Code.is c.next_heard.ensures))

pub returns-in-Over : goal.returns-in-Over
returns-in-Over c =
    let a = c.args in
    tell_over a.latin a.d.now a.c (over _ _ _ c.encoded_long.ensures.0
    c.if-c-encoded_long.false) (hear_is c.in-Over.is c.next_heard.ensures)
