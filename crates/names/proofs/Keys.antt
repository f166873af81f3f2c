-- A name's number, sign by sign.
use mathlib.Core.Path.{◌≡◌, refl}
use mathlib.Core.Bool.{true, false}
use mathlib.Core.List.{List, [], ◌∷◌}
use Prim.Native.Nat.{ℕ, suc, ◌+◌, ◌*◌, ◌^◌, ◌≤◌, ◌<◌}
use native.Mathlib.Nat.{pow-suc, pow-le-pow_right}
use native.Mathlib.Numerals.{add-one}
use native.Mathlib.Omega.{arith}
use borrow.Author.Tests.{lt-ltb, le-ltb}
use Rattle.signs.specs.declared.Sign.{Sign}
use Rattle.signs.specs.declared.Sign.TheVariants.{Byte, Break}
use Rattle.ascii.specs.rule.Class.{upper_of}
use Rattle.names.specs.Name.{fits, key_of}

module _ (c k : ℕ) {l : List Sign} where
  pub key_bad : {b : ℕ} {s : List Sign} → l ≡ Byte b ∷ s → fits c b ≡ false → key_of c k l ≡ 0
  unfolding key_of
  key_bad e f = rw (e, f)

  pub key_long : {b : ℕ} {s : List Sign} → l ≡ Byte b ∷ s → fits c b ≡ true → c ≡ 8 → key_of c k l ≡ 0
  unfolding key_of
  key_long e f h = rw (e, f, le-ltb c 8 (omega arith))

  pub key_next : {b : ℕ} {s : List Sign} → l ≡ Byte b ∷ s → fits c b ≡ true → c < 8 → key_of c k l ≡ key_of (c + 1) (k * 256 + upper_of b) s
  unfolding key_of
  key_next e f h = rw (e, f, lt-ltb c 8 h)

  pub key_break : {s : List Sign} → l ≡ Break ∷ s → key_of c k l ≡ 0
  unfolding key_of
  key_break e = rw e

  pub key_done : l ≡ [] → key_of c k l ≡ k
  unfolding key_of
  key_done e = rw e

-- a name of at most 8 bytes has a number of 64 bits
pub key_room : (c k u : ℕ) → c < 8 → k < 256 ^ c → u ≤ 255 → (k * 256 + u < 256 ^ (c + 1)) × (k * 256 + u < 18446744073709551616)
key_room c k u h l g =
    let p : 256 ^ suc c ≡ 256 ^ c * 256 = pow-suc 256 c in
    let q : 256 ^ suc c ≤ 256 ^ 8 = pow-le-pow_right {n = 256} (omega arith) {i = suc c} {j = 8} h in
    let r : 256 ^ 8 ≡ 18446744073709551616 = refl in
    (rw (add-one c) (omega arith), omega arith)
