-- Two numbers by their digits, and the steps of the loops that compare them.
use mathlib.Core.Path.{◌≡◌, refl, sym, ap, ◌∙◌}
use mathlib.Core.Bool.{Bool, true, false, cond}
use mathlib.Core.List.{List, [], ◌∷◌, ◌++◌, append-nil}
use Prim.Native.Nat.{ℕ, suc, ◌+◌, ◌≤◌, ◌<◌}
use native.Mathlib.Omega.{arith}
use lib.Dec.{ltb}
use lib.ListN.{length, drop}
use lib.Seq.{drop_at}
use borrow.Author.Tests.{le-leb, lt-leb}
use Rattle.std.proofs.Common.{Option, Some, None}
use Rattle.scan.specs.rule.Text.{kept, text}
use Rattle.scan.specs.rule.Number.{decimal_of}
use Rattle.scan.specs.rule.Number as scan
use Rattle.scan.specs.Order.{digits_to, value_of, stripped, order_then, is_less, less_of}
use Rattle.scan.specs.declared.Order.{Order}
use Rattle.scan.specs.declared.Order.TheVariants.{Same}
use Rattle.scan.proofs.Orders.{All, none, one, digit_bounds, less_exactly, strip_zero, strip_first, strip_none, less_both, less_longer}
use Rattle.scan.proofs.Orders.{less_shorter, less_even}
use Rattle.markup.specs.rule.Bytes.{is_digit}
use Rattle.spans.specs.rule.Heard.{first_heard, heard}
use Rattle.spans.specs.rule.Heard as heard
use Rattle.spans.specs.declared.First.TheVariants as first
use Rattle.amounts.specs.rule.Said.{digits_in, true_in}
use Rattle.amounts.specs.Parts.{Ahead, Found, Picked, Left, Stripped}
use Rattle.amounts.specs.Parts as parts
use Rattle.amounts.proofs.Hears.{class_two, digit_yes, digit_no, heard_first, heard_none}

-- ---- digits that stand in a file one behind the other are read back
data Edge : List ℕ → Type 0 where
  end : Edge []
  digit : {b : ℕ} {s : List ℕ} → 48 ≤ b → b ≤ 57 → Edge (b ∷ s)

is_digit_lem : (b : ℕ) → 48 ≤ b → b ≤ 57 → scan.is_digit b ≡ true
unfolding scan.is_digit
is_digit_lem b h k = rw (class_two b h k)

digits_kept : {xs : List ℕ} → All xs → (p : ℕ) {t : List ℕ} → Edge t → digits_to (p + length xs) (kept p (xs ++ t)) ≡ xs
unfolding digits_to kept
digits_kept none p end = refl
digits_kept none p (digit {b} {s} h k) = rw (class_two b h k, le-leb (p + 0) p (omega arith))
digits_kept (one {b} {s} h k a) p {t} e =
    let n : p + suc (length s) ≡ p + 1 + length s = omega arith in
    rw (class_two b h k, lt-leb (p + suc (length s)) p (omega arith), is_digit_lem b h k)
    (ap (λ (l : List ℕ). b ∷ l) (ap (λ (x : ℕ). digits_to x (kept (p + 1) (s ++ t))) n ∙ digits_kept a (p + 1) e))

edge : {ys : List ℕ} → All ys → Edge ys
edge none = end
edge (one h k a) = digit h k

pub less_digits : {xs ys : List ℕ} → All xs → All ys → less_of Same (stripped xs) (stripped ys) ≡ ltb (decimal_of 0 xs) (decimal_of 0 ys)
unfolding text value_of
less_digits {xs} {ys} a b =
    let f : digits_to (0 + length xs) (kept 0 (xs ++ ys)) ≡ xs = digits_kept a 0 (edge b) in
    let g : digits_to (length xs + length ys) (kept (length xs) (ys ++ [])) ≡ ys = digits_kept b (length xs) end in
    let h : drop (length xs) (xs ++ ys) ≡ ys = drop_at xs ys (length xs) refl in
    let i = rw (append-nil ys) at g in
    let k : digits_to (length xs + length ys) (kept (length xs) (drop (length xs) (xs ++ ys))) ≡ ys = rw h i in
    rw (f, k) at (less_exactly (xs ++ ys) 0 (0 + length xs) (length xs) (length xs + length ys))

all_in : (cs : List ℕ) → All (digits_in cs)
unfolding digits_in
all_in [] = none
all_in (c ∷ cs) = by (scan.is_digit c) refl (all_in cs) where
  by : (q : Bool) → scan.is_digit c ≡ q → All (digits_in cs) → All (cond q (c ∷ digits_in cs) (digits_in cs))
  by true e a = let b = digit_bounds c e in one b.0 b.1 a
  by false e a = a

pub less_true : (x y : List ℕ) → less_of Same (stripped (digits_in x)) (stripped (digits_in y)) ≡ ltb (true_in x) (true_in y)
unfolding true_in
less_true x y = less_digits (all_in x) (all_in y)

-- ---- the next digit
module _ (s : List ℕ) (digits : List ℕ) {n : ℕ} where
  pub left_digit : {c m : ℕ} → Left s n digits → first_heard s n ≡ first.One c m → is_digit c ≡ true → (cs : List ℕ) → digits ≡ digits_in cs
      → Found s cs (Some (c, m))
  unfolding digits_in
  left_digit {c} {m} l f e cs d =
      let h = heard_first s n f l.left in
      let q : digits_in l.rest ≡ c ∷ digits_in h.rest = ap digits_in h.split ∙ rw (digit_yes c e) in
      parts.one h.left (sym d ∙ sym l.same ∙ q)

  pub left_other : {c m : ℕ} → Left s n digits → first_heard s n ≡ first.One c m → is_digit c ≡ false → Left s m digits
  unfolding digits_in
  left_other {c} {m} l f e =
      let h = heard_first s n f l.left in
      let q : digits_in l.rest ≡ digits_in h.rest = ap digits_in h.split ∙ rw (digit_no c e) in
      record { rest = h.rest; left = h.left; same = sym q ∙ l.same }

  pub left_end : Left s n digits → first_heard s n ≡ first.End → (cs : List ℕ) → digits ≡ digits_in cs → Found s cs None
  unfolding digits_in
  left_end l f cs d = parts.nothing (sym d ∙ sym l.same ∙ ap digits_in (heard_none s n f l.left))

pub found_one : {s cs : List ℕ} {c n : ℕ} {d : Option (ℕ × ℕ)} → Found s cs d → d ≡ Some (c, n) → (rest : List ℕ)
    × (heard s n ≡ heard.All rest)
    × (digits_in cs ≡ c ∷ digits_in rest)
found_one {c = c} {n = n} (parts.one {c = x} {n = m} {rest = r} h e) q =
    let p : ◌≡◌ {A = ℕ × ℕ} (x, m) (c, n) = cc in
    let a : x ≡ c = ap (λ (k : ℕ × ℕ). k.0) p in
    let b : m ≡ n = ap (λ (k : ℕ × ℕ). k.1) p in
    (r, rw (← b) h, rw (← a) e)
found_one (parts.nothing e) q = let z : ◌≡◌ {A = ℕ} 0 1 = cc in absurd (omega arith)

pub found_none : {s cs : List ℕ} {d : Option (ℕ × ℕ)} → Found s cs d → d ≡ None → digits_in cs ≡ []
found_none (parts.one h e) q = let z : ◌≡◌ {A = ℕ} 0 1 = cc in absurd (omega arith)
found_none (parts.nothing e) q = e

pub ahead_one : (at top : ℕ) {c n : ℕ} → at < n → n ≤ top → Ahead at top (Some (c, n))
ahead_one at top {c} {n} h k x m q =
    let p : ◌≡◌ {A = ℕ × ℕ} (c, n) (x, m) = cc in
    let e : n ≡ m = ap (λ (k : ℕ × ℕ). k.1) p in (rw (← e) h, rw (← e) k)

pub ahead_none : (at top : ℕ) → Ahead at top None
ahead_none at top x m q = let z : ◌≡◌ {A = ℕ} 0 1 = cc in absurd (omega arith)

-- ---- zeros in front
-- what is left of cs has the same digits behind its zeros
pub record Zeros (s : List ℕ) (cs : List ℕ) (n : ℕ) : Type 0 where
  pub rest : List ℕ
  pub left : heard s n ≡ heard.All rest
  pub same : stripped (digits_in cs) ≡ stripped (digits_in rest)

module _ (s cs : List ℕ) {n c m : ℕ} {d : Option (ℕ × ℕ)} (z : Zeros s cs n) (p : Picked s n d) where
  pub zeros_next : d ≡ Some (c, m) → c ≡ 48 → Zeros s cs m
  zeros_next e q =
      let f = found_one (p z.rest z.left) e in
      record { rest = f.0; left = f.1; same = z.same ∙ strip_zero f.2 q }

  pub zeros_over : d ≡ Some (c, m) → (c ≡ 48 → ⊥) → Left s n (stripped (digits_in cs))
  zeros_over e q =
      let f = found_one (p z.rest z.left) e in
      record { rest = z.rest; left = z.left; same = sym (z.same ∙ strip_first f.2 q) }

pub zeros_end : (s cs : List ℕ) {n : ℕ} {d : Option (ℕ × ℕ)} → Zeros s cs n → Picked s n d → d ≡ None → Left s n (stripped (digits_in cs))
zeros_end s cs z p e = record { rest = z.rest; left = z.left; same = sym (z.same ∙ strip_none (found_none (p z.rest z.left) e)) }

-- ---- both numbers, digit by digit
pub record Pairing (a b : List ℕ) (x y : List ℕ) (i j : ℕ) (o : Order) : Type 0 where
  pub xs : List ℕ
  pub ys : List ℕ
  pub left_a : heard a i ≡ heard.All xs
  pub left_b : heard b j ≡ heard.All ys
  pub same : ltb (true_in x) (true_in y) ≡ less_of o (digits_in xs) (digits_in ys)

pub pairing_start : (a b x y : List ℕ) {i j : ℕ} → Left a i (stripped (digits_in x)) → Left b j (stripped (digits_in y))
    → Pairing a b x y i j Same
pairing_start a b x y l k = record {
  xs = l.rest;
  ys = k.rest;
  left_a = l.left;
  left_b = k.left;
  same = sym (less_true x y) ∙ sym (rw (l.same, k.same));
}

module _ (a b x y : List ℕ) {i j : ℕ} (o : Order) (p : Pairing a b x y i j o) {d e : Option (ℕ × ℕ)} (f : Picked a i d) (g : Picked b j e)
  where
    pub pairing_next : {c m k n : ℕ} {r : Order} → d ≡ Some (c, m) → e ≡ Some (k, n) → r ≡ order_then o c k → Pairing a b x y m n r
    pairing_next u w q =
        let s = found_one (f p.xs p.left_a) u in
        let t = found_one (g p.ys p.left_b) w in
        record { xs = s.0; ys = t.0; left_a = s.1; left_b = t.1; same = p.same ∙ less_both o s.2 t.2 q }

    pub pairing_longer : {c m : ℕ} → d ≡ Some (c, m) → e ≡ None → false ≡ ltb (true_in x) (true_in y)
    pairing_longer u w =
        let s = found_one (f p.xs p.left_a) u in
        sym (p.same ∙ less_longer o s.2 (found_none (g p.ys p.left_b) w))

    pub pairing_shorter : {k n : ℕ} → d ≡ None → e ≡ Some (k, n) → true ≡ ltb (true_in x) (true_in y)
    pairing_shorter u w =
        let t = found_one (g p.ys p.left_b) w in
        sym (p.same ∙ less_shorter o (found_none (f p.xs p.left_a) u) t.2)

    pub pairing_even : d ≡ None → e ≡ None → is_less o ≡ ltb (true_in x) (true_in y)
    pairing_even u w = sym (p.same ∙ less_even o (found_none (f p.xs p.left_a) u) (found_none (g p.ys p.left_b) w))
