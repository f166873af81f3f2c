-- The numbers of names keep STANDARD NAMES: a name's number is 0 exactly where it is not well named, two names have one number exactly
-- where
-- they agree, and so the first wrong number belongs to the first name that breaks the rule.
use mathlib.Core.Path.{◌≡◌, refl, ◌∙◌, sym}
use mathlib.Core.Logic.{◌↔◌, ⊎_elim}
use mathlib.Core.Bool.{Bool, true, false, cond, not, ◌&&◌, ◌||◌, and-false}
use mathlib.Core.List.{List, [], ◌∷◌}
use Prim.Native.Nat.{ℕ, zero, suc, ◌+◌, ◌*◌, ◌≤◌, ◌<◌}
use native.Mathlib.Nat.{eq-or-lt_of_le}
use native.Mathlib.Omega.{arith}
use lib.Dec.{ltb, leb, eqb}
use lib.ListN.{length, get_or}
use borrow.Author.Tests.{lt-ltb, le-leb, lt-leb, ltb-true, ltb-false, leb-true, eqb-true, eq-eqb, ne_eqb}
use Rattle.below.specs.rule.Below.{any_below}
use Rattle.below.specs.Below.{same_bool, decided, holds_not, and_left, and_right, and_true, lt_or_le}
use Rattle.signs.specs.declared.Sign.{Sign}
use Rattle.signs.specs.declared.Sign.TheVariants.{Byte, Break}
use Rattle.ascii.specs.rule.Class.{class_of, upper_of}
use Rattle.scan.specs.rule.Number.{is_digit}
use Rattle.names.specs.Name.{fits, key_of}
use Rattle.names.specs.Clash.{wrong_at, fault_from, fault_of}
use Rattle.names.specs.rule.Standard.{is_letter, letters_or_digits, begins_with_letter, well_named, agree, name_at, name_wrong}
use Rattle.names.specs.rule.Standard.{name_fault_from, name_fault}
use Rattle.names.proofs.Capitals.{letter_upper, digit_upper, upper_bounds}

-- the bytes in capitals as digits to the base 256, behind what said k
unfoldable said : ℕ → List Sign → ℕ
said k [] = k
said k (Byte b ∷ s) = said (k * 256 + upper_of b) s
said k (Break ∷ s) = said k s

fits_on : (c b : ℕ) → 0 < c → fits c b ≡ (is_letter b || is_digit b)
unfolding fits is_letter is_digit
fits_on c b h = rw (lt-ltb 0 c h)

fits_first : (b : ℕ) → fits 0 b ≡ is_letter b
unfolding fits is_letter
fits_first b = by (eqb (class_of b) 3) where
  by : (x : Bool) → (x || false) ≡ x
  by true = refl
  by false = refl

-- behind c bytes: letters or digits, of which at most 8 - c follow, say their number; anything else says 0
key_rest : (s : List Sign) (c k : ℕ) → 0 < c → c ≤ 8 → key_of c k s ≡ cond (letters_or_digits s && leb (c + length s) 8) (said k s) 0
unfolding key_of letters_or_digits said
key_rest [] c k h g = let e : c + 0 ≤ 8 = omega arith in rw (le-leb (c + 0) 8 e)
key_rest (Break ∷ s) c k h g = refl
key_rest (Byte b ∷ s) c k h g = rw (fits_on c b h)
    (by (is_letter b || is_digit b) (ltb c 8) refl (key_rest s (c + 1) (k * 256 + upper_of b) (omega arith))) where
      by : (x y : Bool) → ltb c 8 ≡ y → (c + 1 ≤ 8 → key_of (c + 1) (k * 256 + upper_of b) s
          ≡ cond (letters_or_digits s && leb (c + 1 + length s) 8) (said (k * 256 + upper_of b) s) 0)
          → cond x (cond y (key_of (c + 1) (k * 256 + upper_of b) s) 0) 0
          ≡ cond ((x && letters_or_digits s) && leb (c + suc (length s)) 8) (said (k * 256 + upper_of b) s) 0
      by false y f ih = refl
      by true true f ih = let l = ltb-true c 8 f in let e : c + suc (length s) ≡ c + 1 + length s = omega arith in rw e (ih (omega arith))
      by true false f ih = let l = ltb-false c 8 f in let e : 8 < c + suc (length s) = omega arith in
          rw (lt-leb (c + suc (length s)) 8 e, and-false (letters_or_digits s))

-- a name's number
key_name : (s : List Sign) → key_of 0 0 s ≡ cond (well_named s) (said 0 s) 0
unfolding key_of well_named letters_or_digits begins_with_letter said
key_name [] = refl
key_name (Break ∷ s) = rw (and-false (leb (length (Break ∷ s)) 8), and-false (leb 1 (length (Break ∷ s))))
key_name (Byte b ∷ s) =
    let e : 1 + length s ≡ suc (length s) = omega arith in
    rw (fits_first b, key_rest s 1 (0 * 256 + upper_of b) (omega arith) (omega arith), e, le-leb 1 (suc (length s)) (omega arith))
    (by (is_letter b) (is_digit b) (leb (suc (length s)) 8) (letters_or_digits s) (said (0 * 256 + upper_of b) s)) where
      by : (x d y l : Bool) (n : ℕ) → cond x (cond (l && y) n 0) 0 ≡ cond (y && (((x || d) && l) && x)) n 0
      by false d false l n = refl
      by false d true l n = rw (and-false (d && l))
      by true d false true n = refl
      by true d false false n = refl
      by true d true true n = refl
      by true d true false n = refl

said_up : (s : List Sign) (k : ℕ) → k ≤ said k s
unfolding said
said_up [] k = omega arith
said_up (Break ∷ s) k = said_up s k
said_up (Byte b ∷ s) k = omega (arith, said_up s (k * 256 + upper_of b))

-- what a well named one is
record Named (s : List Sign) : Type 0 where
  letters : letters_or_digits s ≡ true
  short : length s ≤ 8
  first : begins_with_letter s ≡ true

named : (s : List Sign) → well_named s ≡ true → Named s
unfolding well_named
named s e =
    let f = and_right (leb 1 (length s)) (leb (length s) 8 && (letters_or_digits s && begins_with_letter s)) e in
    let g = and_right (leb (length s) 8) (letters_or_digits s && begins_with_letter s) f in
    record {
      letters = and_left (letters_or_digits s) (begins_with_letter s) g;
      short = leb-true (length s) 8 (and_left (leb (length s) 8) (letters_or_digits s && begins_with_letter s) f);
      first = and_right (letters_or_digits s) (begins_with_letter s) g;
    }

-- a break is neither letter nor digit
no_break : {A : Type 0} (s : List Sign) → letters_or_digits (Break ∷ s) ≡ true → A
unfolding letters_or_digits
no_break s e = holds_not e refl

module _ (b : ℕ) (s : List Sign) (e : letters_or_digits (Byte b ∷ s) ≡ true) where
  head_bounds : (1 ≤ upper_of b) × (upper_of b ≤ 255)
  unfolding letters_or_digits
  head_bounds = upper_bounds b (and_left (is_letter b || is_digit b) (letters_or_digits s) e)

  tail_letters : letters_or_digits s ≡ true
  unfolding letters_or_digits
  tail_letters = and_right (is_letter b || is_digit b) (letters_or_digits s) e

said_some : (s : List Sign) → Named s → 0 < said 0 s
unfolding begins_with_letter said
said_some [] n = holds_not n.first refl
said_some (Break ∷ s) n = holds_not n.first refl
said_some (Byte b ∷ s) n = let h = head_bounds b s n.letters in omega (arith, said_up s (0 * 256 + upper_of b))

-- `key_formed`: the number is 0 exactly where the name is not well named
pub key_formed : (s : List Sign) → (key_of 0 0 s ≡ 0) ↔ (well_named s ≡ false)
key_formed s = (by (well_named s) refl, λ e. key_name s ∙ rw e) where
  by : (x : Bool) → well_named s ≡ x → key_of 0 0 s ≡ 0 → x ≡ false
  by false f e = refl
  by true f e = let k : key_of 0 0 s ≡ said 0 s = key_name s ∙ rw f in absurd (omega (arith, said_some s (named s f)))

pub key_well : (s : List Sign) → well_named s ≡ true → 0 < key_of 0 0 s
key_well s e = let k : key_of 0 0 s ≡ said 0 s = key_name s ∙ rw e in omega (arith, said_some s (named s e))

-- equally many letters or digits that say one number agree
said_same : (s t : List Sign) (k m : ℕ) → length s ≡ length t → letters_or_digits s ≡ true → letters_or_digits t ≡ true → said k s
    ≡ said m t
    → (k ≡ m) × (agree s t ≡ true)
unfolding said agree
said_same [] [] k m h e f g = (g, refl)
said_same [] (y ∷ t) k m h e f g = absurd (omega arith)
said_same (x ∷ s) [] k m h e f g = absurd (omega arith)
said_same (Break ∷ s) (y ∷ t) k m h e f g = no_break s e
said_same (Byte b ∷ s) (Break ∷ t) k m h e f g = no_break t f
said_same (Byte b ∷ s) (Byte c ∷ t) k m h e f g =
    let r = said_same s t (k * 256 + upper_of b) (m * 256 + upper_of c) (omega arith) (tail_letters b s e) (tail_letters c t f) g in
    let p = head_bounds b s e in
    let q = head_bounds c t f in
    let u : upper_of b ≡ upper_of c = omega arith in
    (omega arith, and_true (eqb (upper_of b) (upper_of c)) (agree s t) (eq-eqb (upper_of b) (upper_of c) u) r.1)

-- a number that more bytes say, behind one above 0, has something above 0 behind it
said_longer : (t s : List Sign) (k m : ℕ) → 1 ≤ m → length s ≤ length t → letters_or_digits s ≡ true → letters_or_digits t ≡ true → said k s
    ≡ said m t → 1 ≤ k
unfolding said
said_longer [] s k m h l e f g = let n : length s ≡ 0 = omega arith in let r = (said_same s [] k m n e f g).0 in omega arith
said_longer (Break ∷ t) s k m h l e f g = no_break t f
said_longer (Byte c ∷ t) s k m h l e f g =
    ⊎_elim
    (λ q. let r = (said_same s (Byte c ∷ t) k m q e f g).0 in omega arith)
    (λ (q : length s < suc (length t)). said_longer t s k (m * 256 + upper_of c) (omega arith) (omega arith) e (tail_letters c t f) g)
    (eq-or-lt_of_le l)

not_longer : (s t : List Sign) → letters_or_digits s ≡ true → letters_or_digits t ≡ true → said 0 s ≡ said 0 t → length t ≤ length s
unfolding said
not_longer s [] e f g = omega arith
not_longer s (Break ∷ t) e f g = no_break t f
not_longer s (Byte c ∷ t) e f g =
    ⊎_elim
    (λ (q : length s < suc (length t)). let p = head_bounds c t f in
    let r : 1 ≤ 0 = said_longer t s 0 (0 * 256 + upper_of c) (omega arith) (omega arith) e (tail_letters c t f) g in absurd (omega arith))
    (λ q. q)
    (lt_or_le (length s) (suc (length t)))

-- names that agree say one number and are well named together
record Alike (s t : List Sign) : Type 0 where
  long : length s ≡ length t
  letters : letters_or_digits s ≡ letters_or_digits t
  first : begins_with_letter s ≡ begins_with_letter t
  says : (k : ℕ) → said k s ≡ said k t

alike : (s t : List Sign) → agree s t ≡ true → Alike s t
unfolding agree letters_or_digits begins_with_letter said
alike [] [] e = record { long = refl; letters = refl; first = refl; says = λ k. refl }
alike [] (y ∷ t) e = holds_not e refl
alike (x ∷ s) [] e = holds_not e refl
alike (Byte b ∷ s) (Break ∷ t) e = holds_not e refl
alike (Break ∷ s) (Byte c ∷ t) e = holds_not e refl
alike (Break ∷ s) (Break ∷ t) e =
    let r = alike s t e in record { long = omega (arith, r.long); letters = refl; first = refl; says = λ k. r.says k }
alike (Byte b ∷ s) (Byte c ∷ t) e =
    let u : upper_of b ≡ upper_of c = eqb-true (upper_of b) (upper_of c) (and_left (eqb (upper_of b) (upper_of c)) (agree s t) e) in
    let r = alike s t (and_right (eqb (upper_of b) (upper_of c)) (agree s t) e) in
    let l : is_letter b ≡ is_letter c = letter_upper b ∙ rw u (sym (letter_upper c)) in
    let d : is_digit b ≡ is_digit c = digit_upper b ∙ rw u (sym (digit_upper c)) in
    record {
      long = omega (arith, r.long);
      letters = rw (l, d, r.letters);
      first = l;
      says = λ k. rw u (r.says (k * 256 + upper_of c));
    }

alike_well : (s t : List Sign) → Alike s t → well_named s ≡ well_named t
unfolding well_named
alike_well s t a = rw (a.long, a.letters, a.first)

-- `key_agree`: a name has the number of a well named one exactly where the two agree
pub key_agree : (s t : List Sign) → well_named t ≡ true → (key_of 0 0 s ≡ key_of 0 0 t) ↔ (agree s t ≡ true)
key_agree s t w = (to, from) where
  to : key_of 0 0 s ≡ key_of 0 0 t → agree s t ≡ true
  to e =
      let p = key_well t w in
      let v : well_named s ≡ true = decided (well_named s) (λ f. let z : key_of 0 0 s ≡ 0 = (key_formed s).1 f in absurd (omega arith)) in
      let m = named s v in
      let n = named t w in
      let k : key_of 0 0 s ≡ said 0 s = key_name s ∙ rw v in
      let j : key_of 0 0 t ≡ said 0 t = key_name t ∙ rw w in
      let g : said 0 s ≡ said 0 t = sym k ∙ e ∙ j in
      let x = not_longer s t m.letters n.letters g in
      let y = not_longer t s n.letters m.letters (sym g) in
      let l : length s ≡ length t = omega arith in
      (said_same s t 0 0 l m.letters n.letters g).1

  from : agree s t ≡ true → key_of 0 0 s ≡ key_of 0 0 t
  from e = let a = alike s t e in key_name s ∙ rw (alike_well s t a, a.says 0) (sym (key_name t))

any_same : (n : ℕ) (f g : ℕ → Bool) → ((i : ℕ) → i < n → f i ≡ g i) → any_below n f ≡ any_below n g
unfolding any_below
any_same zero f g h = refl
any_same (suc n) f g h = rw (any_same n f g (λ i l. h i (omega arith)), h n (omega arith))

-- a row's number is wrong exactly where its name breaks the rule
module _ (keys : List ℕ) (names : List (List Sign)) (told : (i : ℕ) → i < length names → get_or keys i 0 ≡ key_of 0 0 (name_at names i))
  where
    key_wrong : (j : ℕ) → j < length names → wrong_at keys j ≡ name_wrong names j
    unfolding wrong_at name_wrong
    key_wrong j h = by (well_named (name_at names j)) refl where
      by : (x : Bool) → well_named (name_at names j) ≡ x
          → (eqb (get_or keys j 0) 0 || any_below j (λ i. eqb (get_or keys i 0) (get_or keys j 0)))
          ≡ (not x || any_below j (λ i. agree (name_at names i) (name_at names j)))
      by false e = rw (eq-eqb (get_or keys j 0) 0 (told j h ∙ (key_formed (name_at names j)).1 e))
      by true e =
          let n : (get_or keys j 0 ≡ 0 → ⊥) = λ z. let p = key_well (name_at names j) e in let q = told j h in omega arith in
          rw (ne_eqb (get_or keys j 0) 0 n)
          (any_same j (λ i. eqb (get_or keys i 0) (get_or keys j 0)) (λ i. agree (name_at names i) (name_at names j)) same) where
            same : (i : ℕ) → i < j → eqb (get_or keys i 0) (get_or keys j 0) ≡ agree (name_at names i) (name_at names j)
            same i l =
                let a = key_agree (name_at names i) (name_at names j) e in
                same_bool (eqb (get_or keys i 0) (get_or keys j 0)) (agree (name_at names i) (name_at names j))
                (λ q. a.0 (sym (told i (omega arith)) ∙ eqb-true (get_or keys i 0) (get_or keys j 0) q ∙ told j h))
                (λ q. eq-eqb (get_or keys i 0) (get_or keys j 0) (told i (omega arith) ∙ a.1 q ∙ sym (told j h)))

    fault_from_lem : (f k : ℕ) → k + f ≡ length names → fault_from keys f k ≡ name_fault_from names f k
    unfolding fault_from name_fault_from
    fault_from_lem zero k e = refl
    fault_from_lem (suc f) k e = rw (key_wrong k (omega arith), fault_from_lem f (k + 1) (omega arith))

    -- the first wrong number belongs to the first name that breaks the rule
    pub keys_fault : fault_of keys (length names) ≡ name_fault names
    unfolding fault_of name_fault
    keys_fault = fault_from_lem (length names) 0 (omega arith)
