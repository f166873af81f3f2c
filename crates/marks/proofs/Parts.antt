-- What a string says, one sign at a time, is what it says as a whole.
use mathlib.Core.Path.{◌≡◌, refl, ◌∙◌, sym}
use mathlib.Core.Bool.{Bool, true, false, cond, ◌&&◌}
use mathlib.Core.List.{List, [], ◌∷◌}
use Prim.Native.Nat.{ℕ, ◌+◌, ◌≤◌, ◌<◌}
use native.Mathlib.Omega.{arith}
use lib.Dec.{ltb, leb, eqb}
use lib.ListN.{length}
use borrow.Author.Tests.{ltb-false, leb-true}
use Rattle.ascii.specs.rule.Class.{upper_of}
use Rattle.scan.specs.rule.Number.{is_digit}
use Rattle.signs.specs.declared.Sign.{Sign}
use Rattle.signs.specs.declared.Sign.TheVariants.{Byte, Break}
use Rattle.scan.specs.rule.Text.{Text, stop, sign, text}
use Rattle.scan.proofs.Texts.{From, at_stop, at_sign, from_text}
use Rattle.marks.specs.declared.Inside.{Inside}
use Rattle.marks.specs.declared.Inside.TheVariants.{Plain, Opened, Shut, Ell, Pair, Low}
use Rattle.marks.specs.declared.Move.{Move}
use Rattle.marks.specs.declared.Move.TheVariants.{Go, Closed, Wrong}
use Rattle.marks.specs.declared.Part.{Part}
use Rattle.marks.specs.declared.Part.TheVariants.{Said, Over}
use Rattle.marks.specs.rule.Marks.{is_hex, inside_of}
use Rattle.marks.specs.rule.Spelling.{hex_pair, gives_of, gone, decode_of}
use Rattle.marks.specs.Spelling.{ready, idle, parted, part_from}

no : {A : Type 0} {s : Inside} → Closed ≡ Go s → A
no e = let z : ◌≡◌ {A = ℕ} 0 1 = cc in absurd (omega arith)

not : {A : Type 0} {s : Inside} {o : ℕ} → Wrong o ≡ Go s → A
not e = let z : ◌≡◌ {A = ℕ} 0 1 = cc in absurd (omega arith)

-- a hex digit that is no digit is a letter up to F
pub hex_letter : (b : ℕ) → is_digit b ≡ false → is_hex b ≡ true → (65 ≤ upper_of b) × (upper_of b ≤ 70)
unfolding is_hex
hex_letter b = by (is_digit b) (ltb (upper_of b) 65) (leb (upper_of b) 70) refl refl where
  by : (x y z : Bool) → ltb (upper_of b) 65 ≡ y → leb (upper_of b) 70 ≡ z → x ≡ false → cond x true (cond y false z) ≡ true
      → (65 ≤ upper_of b)
      × (upper_of b ≤ 70)
  by true y z f g h e = let z : ◌≡◌ {A = ℕ} 0 1 = cc in absurd (omega arith)
  by false true z f g h e = let z : ◌≡◌ {A = ℕ} 0 1 = cc in absurd (omega arith)
  by false false true f g h e = (ltb-false (upper_of b) 65 f, leb-true (upper_of b) 70 g)
  by false false false f g h e = let z : ◌≡◌ {A = ℕ} 0 1 = cc in absurd (omega arith)

pub ready_both : (o a b : ℕ) {s : Inside} → s ≡ Low o → ready s a b ≡ true → (is_hex a ≡ true) × (is_hex b ≡ true)
unfolding ready
ready_both o a b {s} e h = by (is_hex a) (is_hex b) (rw e at h) where
  by : (x y : Bool) → (x && y) ≡ true → (x ≡ true) × (y ≡ true)
  by true true h = (refl, refl)
  by true false h = let z : ◌≡◌ {A = ℕ} 0 1 = cc in absurd (omega arith)
  by false y h = let z : ◌≡◌ {A = ℕ} 0 1 = cc in absurd (omega arith)

-- the byte before is a hex digit where it is part of a pair
unfoldable pub half : Inside → ℕ → Bool
half Plain a = true
half (Opened o) a = true
half (Shut o) a = true
half (Ell o) a = true
half (Pair o) a = true
half (Low o) a = is_hex a

pub idle_half : (s : Inside) (a : ℕ) → idle s ≡ true → half s a ≡ true
unfolding idle half
idle_half Plain a e = refl
idle_half (Opened o) a e = refl
idle_half (Shut o) a e = refl
idle_half (Ell o) a e = refl
idle_half (Pair o) a e = refl
idle_half (Low o) a e = let z : ◌≡◌ {A = ℕ} 0 1 = cc in absurd (omega arith)

-- a state that a byte leads to: the byte is a hex digit if it is a pair's first
module _ (b p : ℕ) where
  to_go : {s t : Inside} → half s b ≡ true → Go s ≡ Go t → half t b ≡ true
  to_go {s} {t} h e = let q : s ≡ t = cc in rw (← q) h

  pub go_half : (s : Inside) {t : Inside} → inside_of s b p ≡ Go t → half t b ≡ true
  unfolding inside_of half
  go_half Plain {t} = by (eqb b 34) (eqb b 123) where
    by : (x y : Bool) → cond x Closed (cond y (Go (Opened p)) (Go Plain)) ≡ Go t → half t b ≡ true
    by true y e = no e
    by false true e = to_go {s = Opened p} refl e
    by false false e = to_go {s = Plain} refl e
  go_half (Opened o) {t} = by (eqb b 34) (eqb b 123) (eqb b 78) (is_hex b) refl where
    by : (x y z k : Bool) → is_hex b ≡ k → cond x (Go (Shut o)) (cond y (Go (Shut o)) (cond z (Go (Ell o)) (cond k (Go (Low o)) (Wrong o))))
        ≡ Go t → half t b ≡ true
    by true y z k f e = to_go {s = Shut o} refl e
    by false true z k f e = to_go {s = Shut o} refl e
    by false false true k f e = to_go {s = Ell o} refl e
    by false false false true f e = to_go {s = Low o} f e
    by false false false false f e = not e
  go_half (Shut o) {t} = by (eqb b 125) where
    by : (x : Bool) → cond x (Go Plain) (Wrong o) ≡ Go t → half t b ≡ true
    by true e = to_go {s = Plain} refl e
    by false e = not e
  go_half (Ell o) {t} = by (eqb b 76) where
    by : (x : Bool) → cond x (Go (Shut o)) (Wrong o) ≡ Go t → half t b ≡ true
    by true e = to_go {s = Shut o} refl e
    by false e = not e
  go_half (Pair o) {t} = by (eqb b 125) (is_hex b) refl where
    by : (x k : Bool) → is_hex b ≡ k → cond x (Go Plain) (cond k (Go (Low o)) (Wrong o)) ≡ Go t → half t b ≡ true
    by true k f e = to_go {s = Plain} refl e
    by false true f e = to_go {s = Low o} f e
    by false false f e = not e
  go_half (Low o) {t} = by (is_hex b) where
    by : (k : Bool) → cond k (Go (Pair o)) (Wrong o) ≡ Go t → half t b ≡ true
    by true e = to_go {s = Pair o} refl e
    by false e = not e

  -- where the reader goes on, what it completes can be told
  pub go_ready : (s : Inside) (a : ℕ) {t : Inside} → half s a ≡ true → inside_of s b p ≡ Go t → ready s a b ≡ true
  unfolding inside_of half ready
  go_ready Plain a h e = refl
  go_ready (Opened o) a h e = refl
  go_ready (Shut o) a h e = refl
  go_ready (Ell o) a h e = refl
  go_ready (Pair o) a h e = refl
  go_ready (Low o) a {t} h e = by (is_hex a) (is_hex b) h e where
    by : (x k : Bool) → x ≡ true → cond k (Go (Pair o)) (Wrong o) ≡ Go t → (x && k) ≡ true
    by true true h e = refl
    by true false h e = not e
    by false k h e = let z : ◌≡◌ {A = ℕ} 0 1 = cc in absurd (omega arith)

  -- behind a sign that is said the byte before is no longer part of what follows
  to_idle : {s t : Inside} → idle s ≡ true → Go s ≡ Go t → idle t ≡ true
  to_idle {s} {t} h e = let q : s ≡ t = cc in rw (← q) h

  nothing : {A : Type 0} {x : Sign} {m : List Sign} → [] ≡ x ∷ m → A
  nothing e = let z : ◌≡◌ {A = ℕ} 0 1 = cc in absurd (omega arith)

  pub said_idle : (s : Inside) (a : ℕ) {t : Inside} {x : Sign} {m : List Sign} → inside_of s b p ≡ Go t → gives_of s a b ≡ x ∷ m → idle t
      ≡ true
  unfolding inside_of gives_of idle
  said_idle Plain a {t} {x} {m} = by (eqb b 34) (eqb b 123) where
    by : (y z : Bool) → cond y Closed (cond z (Go (Opened p)) (Go Plain)) ≡ Go t → cond z [] (Byte b ∷ []) ≡ x ∷ m → idle t ≡ true
    by true z e f = no e
    by false true e f = nothing f
    by false false e f = to_idle {s = Plain} refl e
  said_idle (Opened o) a {t} {x} {m} = by (eqb b 34) (eqb b 123) (eqb b 78) (is_hex b) where
    by : (u v w k : Bool) → cond u (Go (Shut o)) (cond v (Go (Shut o)) (cond w (Go (Ell o)) (cond k (Go (Low o)) (Wrong o)))) ≡ Go t
        → cond u (Byte b ∷ []) (cond v (Byte b ∷ []) []) ≡ x ∷ m → idle t ≡ true
    by true v w k e f = to_idle {s = Shut o} refl e
    by false true w k e f = to_idle {s = Shut o} refl e
    by false false w k e f = nothing f
  said_idle (Shut o) a = λ e f. nothing f
  said_idle (Ell o) a {t} {x} {m} = by (eqb b 76) where
    by : (y : Bool) → cond y (Go (Shut o)) (Wrong o) ≡ Go t → Break ∷ [] ≡ x ∷ m → idle t ≡ true
    by true e f = to_idle {s = Shut o} refl e
    by false e f = not e
  said_idle (Pair o) a = λ e f. nothing f
  said_idle (Low o) a {t} {x} {m} = by (is_hex b) where
    by : (k : Bool) → cond k (Go (Pair o)) (Wrong o) ≡ Go t → Byte (hex_pair a b) ∷ [] ≡ x ∷ m → idle t ≡ true
    by true e f = to_idle {s = Pair o} refl e
    by false e f = not e

-- a byte completes one sign at most
gives_one : (s : Inside) (a b : ℕ) {x : Sign} {m : List Sign} → gives_of s a b ≡ x ∷ m → m ≡ []
unfolding gives_of
gives_one Plain a b {x} {m} = by (eqb b 123) where
  by : (y : Bool) → cond y [] (Byte b ∷ []) ≡ x ∷ m → m ≡ []
  by true e = let z : ◌≡◌ {A = ℕ} 0 1 = cc in absurd (omega arith)
  by false e = cc
gives_one (Opened o) a b {x} {m} = by (eqb b 34) (eqb b 123) where
  by : (y z : Bool) → cond y (Byte b ∷ []) (cond z (Byte b ∷ []) []) ≡ x ∷ m → m ≡ []
  by true z e = cc
  by false true e = cc
  by false false e = let z : ◌≡◌ {A = ℕ} 0 1 = cc in absurd (omega arith)
gives_one (Shut o) a b = λ e. let z : ◌≡◌ {A = ℕ} 0 1 = cc in absurd (omega arith)
gives_one (Ell o) a b = λ e. cc
gives_one (Pair o) a b = λ e. let z : ◌≡◌ {A = ℕ} 0 1 = cc in absurd (omega arith)
gives_one (Low o) a b = λ e. cc

decode_idle : (s : Inside) (x y : ℕ) (t : Text) → idle s ≡ true → decode_of s x t ≡ decode_of s y t
unfolding decode_of gives_of idle
decode_idle s x y (stop p) e = refl
decode_idle Plain x y (sign p b t) e = refl
decode_idle (Opened o) x y (sign p b t) e = refl
decode_idle (Shut o) x y (sign p b t) e = refl
decode_idle (Ell o) x y (sign p b t) e = refl
decode_idle (Pair o) x y (sign p b t) e = refl
decode_idle (Low o) x y (sign p b t) e = let z : ◌≡◌ {A = ℕ} 0 1 = cc in absurd (omega arith)

-- what a sign that was said says of the rest: the signs behind it, from the place and in the state that came with it
pub record Told (d : List ℕ) (at : ℕ) (l : List Sign) (x : Sign) (n : ℕ) (s : Inside) : Type 0 where
  pub split : l ≡ x ∷ decode_of s 0 (text d n)
  pub rests : idle s ≡ true
  pub ahead : at < n
  pub within : n ≤ length d

module _ (d : List ℕ) (x : Sign) (n : ℕ) (r : Inside) where
  told : {at : ℕ} {t : Text} → From d at t → (s : Inside) (a : ℕ) → part_from s a t ≡ Said x n r → Told d at (decode_of s a t) x n r
  unfolding part_from decode_of
  told at_stop s a e = let z : ◌≡◌ {A = ℕ} 0 1 = cc in absurd (omega arith)
  told {at} (at_sign {p = p} {b = b} {u = u} h w q f) s a e = by (λ s. told f s b) (inside_of s b p) (gives_of s a b) refl refl e where
    by : ((s : Inside) → part_from s b u ≡ Said x n r → Told d (p + 1) (decode_of s b u) x n r) → (m : Move) (g : List Sign)
        → inside_of s b p
        ≡ m → gives_of s a b ≡ g → parted m g (p + 1) (λ s. part_from s b u) ≡ Said x n r
        → Told d at (gone m g (λ s. decode_of s b u)) x n r
    by ih (Go t) [] i j e = let k = ih t e in record { split = k.split; rests = k.rests; ahead = omega arith; within = k.within }
    by ih (Go t) (y ∷ l) i j e =
        let v : y ≡ x = cc in
        let k : p + 1 ≡ n = cc in
        let o : t ≡ r = cc in
        let c = said_idle b p s a i j in
        record {
          split = rw (gives_one s a b j, v, decode_idle t b 0 u c, o, q, k);
          rests = rw o at c;
          ahead = omega arith;
          within = omega
              arith;
        }
    by ih Closed g i j e = let z : ◌≡◌ {A = ℕ} 0 1 = cc in absurd (omega arith)
    by ih (Wrong o) g i j e = let z : ◌≡◌ {A = ℕ} 0 1 = cc in absurd (omega arith)

  -- SAID: the next sign of what a string says
  pub part_said : (at : ℕ) (s : Inside) {v : Part} → v ≡ part_from s 0 (text d at) → v ≡ Said x n r
      → Told d at (decode_of s 0 (text d at)) x n r
  part_said at s e f = told (from_text d at) s 0 (sym e ∙ f)

over : (t : Text) (s : Inside) (a : ℕ) → part_from s a t ≡ Over → decode_of s a t ≡ []
unfolding part_from decode_of
over (stop p) s a e = refl
over (sign p b t) s a e = by (λ s. over t s b) (inside_of s b p) (gives_of s a b) e where
  by : ((s : Inside) → part_from s b t ≡ Over → decode_of s b t ≡ []) → (m : Move) (g : List Sign)
      → parted m g (p + 1) (λ s. part_from s b t)
      ≡ Over → gone m g (λ s. decode_of s b t) ≡ []
  by ih (Go s) [] e = ih s e
  by ih (Go s) (y ∷ l) e = let z : ◌≡◌ {A = ℕ} 0 1 = cc in absurd (omega arith)
  by ih Closed g e = refl
  by ih (Wrong o) g e = refl

-- OVER: nothing is left of it
pub part_over : (d : List ℕ) (at : ℕ) (s : Inside) {v : Part} → v ≡ part_from s 0 (text d at) → v ≡ Over → decode_of s 0 (text d at) ≡ []
part_over d at s e f = over (text d at) s 0 (sym e ∙ f)

-- ---- steps of the decoder's loop
module _ (s : Inside) (a : ℕ) {t : Text} where
  pub part_gives : {p b : ℕ} {x : Sign} {u : Text} {m : Move} {v : Inside} → t ≡ sign p b u → m ≡ inside_of s b p → m ≡ Go v
      → gives_of s a b
      ≡ x ∷ [] → part_from s a t ≡ Said x (p + 1) v
  unfolding part_from
  part_gives e f g h = rw (e, sym f ∙ g, h)

  pub part_on : {p b : ℕ} {u : Text} {m : Move} {v : Inside} → t ≡ sign p b u → m ≡ inside_of s b p → m ≡ Go v → gives_of s a b ≡ []
      → part_from s a t ≡ part_from v b u
  unfolding part_from
  part_on e f g h = rw (e, sym f ∙ g, h)

  pub part_closed : {p b : ℕ} {u : Text} {m : Move} → t ≡ sign p b u → m ≡ inside_of s b p → m ≡ Closed → part_from s a t ≡ Over
  unfolding part_from
  part_closed {p = p} {b = b} {u = u} e f g = rw e (by (inside_of s b p) (sym f ∙ g)) where
    by : (m : Move) → m ≡ Closed → parted m (gives_of s a b) (p + 1) (λ s. part_from s b u) ≡ Over
    by m e = rw e

  pub part_wrong : {p b o : ℕ} {u : Text} {m : Move} → t ≡ sign p b u → m ≡ inside_of s b p → m ≡ Wrong o → part_from s a t ≡ Over
  unfolding part_from
  part_wrong {p = p} {b = b} {o = o} {u = u} e f g = rw e (by (inside_of s b p) (sym f ∙ g)) where
    by : (m : Move) → m ≡ Wrong o → parted m (gives_of s a b) (p + 1) (λ s. part_from s b u) ≡ Over
    by m e = rw e

  pub part_end : {p : ℕ} → t ≡ stop p → part_from s a t ≡ Over
  unfolding part_from
  part_end e = rw e
