-- Numbers over the characters of a stretch, one digit on, and in the paper's words.
use mathlib.Core.Path.{◌≡◌, refl, sym, ap, ◌∙◌}
use mathlib.Core.Logic.{◌↔◌}
use mathlib.Core.Bool.{Bool, true, false, cond}
use mathlib.Core.List.{List, [], ◌∷◌}
use Prim.Native.Nat.{ℕ, suc, ◌+◌, ◌*◌, ◌-◌, ◌≤◌}
use native.Mathlib.Omega.{arith}
use lib.Dec.{ltb, eqb}
use lib.ListN.{length}
use borrow.Author.Tests.{ne_eqb, eqb-false, ltb-true, ltb-false, le-ltb}
use Rattle.std.proofs.Common.{Option, Some, None}
use Rattle.scan.specs.rule.Number.{decimal_of}
use Rattle.scan.specs.Number.{capped, push_of}
use Rattle.markup.specs.rule.Bytes.{is_digit}
use Rattle.spans.specs.rule.Heard.{Says, Heard, All, Ill, after, first_heard, heard}
use Rattle.spans.specs.declared.First.TheVariants.{One, End, Not}
use Rattle.spans.proofs.Hearing.{heard_one, heard_end, heard_not, heard_exactly}
use Rattle.spans.specs.rule.Says.{each_char}
use Rattle.spans.specs.Figures.{figures_after, figures_of}

-- ---- held values
full : (n : ℕ) → 1000000000000000 ≤ n → capped n ≡ 1000000000000000
full n h = by (ltb 1000000000000000 n) refl where
  by : (q : Bool) → ltb 1000000000000000 n ≡ q → cond q 1000000000000000 n ≡ 1000000000000000
  by true e = refl
  by false e = omega (arith, ltb-false 1000000000000000 n e)

pub small : (n : ℕ) → n ≤ 1000000000000000 → capped n ≡ n
small n h = rw (le-ltb 1000000000000000 n h)

grows : (v : ℕ) (s : List ℕ) → v ≤ decimal_of v s
unfolding decimal_of
grows v [] = omega arith
grows v (b ∷ s) = omega (arith, grows (v * 10 + (b - 48)) s)

-- a number that is held before its last digits is held after them
pub held : (v : ℕ) (s : List ℕ) → capped (decimal_of (capped v) s) ≡ capped (decimal_of v s)
held v s = by (ltb 1000000000000000 v) refl where
  by : (q : Bool) → ltb 1000000000000000 v ≡ q → capped (decimal_of (capped v) s) ≡ capped (decimal_of v s)
  by false e = rw (small v (ltb-false 1000000000000000 v e))
  by true e =
      let h = ltb-true 1000000000000000 v e in
      rw (full v (omega arith))
      (full (decimal_of 1000000000000000 s) (grows 1000000000000000 s) ∙ sym (full (decimal_of v s) (omega (arith, grows v s))))

-- ---- one digit more, and the end
module _ (v k c : ℕ) where
  pub figures_next : (h : Heard) → is_digit c ≡ true → figures_after v k (after c h) ≡ figures_after (push_of v c) (k + 1) h
  unfolding figures_after each_char decimal_of push_of
  figures_next (All cs) e =
      let n : k + suc (length cs) ≡ k + 1 + length cs = omega arith in
      rw (e, n) (rw (held (v * 10 + (c - 48)) cs))
  figures_next Ill e = refl

  pub figures_wrong : (h : Heard) → is_digit c ≡ false → figures_after v k (after c h) ≡ None
  unfolding figures_after each_char
  figures_wrong (All cs) e = rw e
  figures_wrong Ill e = refl

pub figures_some : (v k : ℕ) → v ≤ 1000000000000000 → (k ≡ 0 → ⊥) → figures_after v k (All []) ≡ Some (v, k)
unfolding figures_after each_char decimal_of
figures_some v k h e = let n : k + 0 ≡ k = omega arith in rw (n, ne_eqb k 0 e, small v h)

pub figures_none : (v : ℕ) → figures_after v 0 (All []) ≡ None
unfolding figures_after each_char
figures_none v = refl

module _ (v k : ℕ) (s : List ℕ) (n : ℕ) where
  pub figures_on : {c m : ℕ} → first_heard s n ≡ One c m → is_digit c ≡ true → figures_after v k (heard s n)
      ≡ figures_after (push_of v c) (k + 1) (heard s m)
  figures_on {c} {m} e t = ap (figures_after v k) (heard_one s n c m e) ∙ figures_next v k c (heard s m) t

  pub figures_off : {c m : ℕ} → first_heard s n ≡ One c m → is_digit c ≡ false → figures_after v k (heard s n) ≡ None
  figures_off {c} {m} e t = ap (figures_after v k) (heard_one s n c m e) ∙ figures_wrong v k c (heard s m) t

  pub figures_over : first_heard s n ≡ End → figures_after v k (heard s n) ≡ figures_after v k (All [])
  figures_over e = ap (figures_after v k) (heard_end s n e)

  pub figures_bad : first_heard s n ≡ Not → figures_after v k (heard s n) ≡ None
  unfolding figures_after
  figures_bad e = rw (heard_not s n e)

-- FIGURES: a stretch is read as a number exactly when it says digits, one or more: how many they are, and the smaller of the number that
-- they say, however many, and 10 ^ 15
pub record Numbered (s : List ℕ) (size count : ℕ) : Type 0 where
  pub digits : List ℕ
  pub says : Says s digits
  pub each : each_char is_digit digits ≡ true
  pub size_is : size ≡ capped (decimal_of 0 digits)
  pub count_is : count ≡ length digits
  pub some : length digits ≡ 0 → ⊥

pub figures_exactly : (s : List ℕ) (size count : ℕ) → (figures_of (heard s 0) ≡ Some (size, count)) ↔ Numbered s size count
unfolding figures_after
figures_exactly s size count = (sound (heard s 0) refl, complete) where
  all : (cs : List ℕ) → heard s 0 ≡ All cs → (p q : Bool) → each_char is_digit cs ≡ p → eqb (0 + length cs) 0 ≡ q
      → cond {A = Option (ℕ × ℕ)} p (cond q None (Some (capped (decimal_of 0 cs), 0 + length cs))) None ≡ Some (size, count)
      → Numbered s size count
  all cs f true true g h e = let z : ◌≡◌ {A = ℕ} 0 1 = cc in absurd (omega arith)
  all cs f true false g h e =
      let p : ◌≡◌ {A = ℕ × ℕ} (capped (decimal_of 0 cs), 0 + length cs) (size, count) = cc in
      let y : capped (decimal_of 0 cs) ≡ size = ap (λ (k : ℕ × ℕ). k.0) p in
      let z : 0 + length cs ≡ count = ap (λ (k : ℕ × ℕ). k.1) p in
      record {
        digits = cs;
        says = (heard_exactly s cs).0 f;
        each = g;
        size_is = sym y;
        count_is = omega arith;
        some = λ o. eqb-false (0 + length cs) 0 h (omega arith);
      }
  all cs f false q g h e = let z : ◌≡◌ {A = ℕ} 0 1 = cc in absurd (omega arith)

  sound : (h : Heard) → heard s 0 ≡ h → figures_of h ≡ Some (size, count) → Numbered s size count
  sound (All cs) f e = all cs f (each_char is_digit cs) (eqb (0 + length cs) 0) refl refl e
  sound Ill f e = let z : ◌≡◌ {A = ℕ} 0 1 = cc in absurd (omega arith)

  complete : Numbered s size count → figures_of (heard s 0) ≡ Some (size, count)
  complete n =
      let z : 0 + length n.digits ≡ length n.digits = omega arith in
      rw ((heard_exactly s n.digits).1 n.says, n.each) (rw (z, ne_eqb (length n.digits) 0 n.some, n.size_is, n.count_is))
