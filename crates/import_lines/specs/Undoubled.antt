-- A field in quotes without its doubled quotes.
use Rattle.std.specs.Prelude.{◌≡◌, refl, Bool, true, false, cond, List, [], ◌∷◌, ◌++◌, ℕ, suc, ◌+◌, ◌≤◌, ◌<◌, eqb, length, take}
use Rattle.std.specs.Prelude.{drop, get_or, set}
use Rattle.std.proofs.Common.{sym, ap, ◌∙◌, append-nil, append_assoc, add-one, arith, eqb-true, drop_of_length-le, length-append, drop-cons}
use Rattle.std.proofs.Common.{drop-drop, take-suc-set, length-take-le}
use Rattle.commas.specs.rule.Csv.{doubled_byte, doubled}

-- of two quotes the second is left out
unfoldable pub undoubled : Bool → List ℕ → List ℕ
undoubled c [] = []
undoubled true (b ∷ s) = undoubled false s
undoubled false (b ∷ s) = b ∷ undoubled (eqb b 34) s

pub undoubled_back : (f : List ℕ) → undoubled false (doubled f) ≡ f
unfolding undoubled doubled doubled_byte
undoubled_back [] = refl
undoubled_back (b ∷ f) = go (eqb b 34) refl (undoubled_back f)
  where
    go : (q : Bool) → eqb b 34 ≡ q → undoubled false (doubled f) ≡ f → undoubled false (cond q (34 ∷ 34 ∷ []) (b ∷ []) ++ doubled f) ≡ b ∷ f
    go true e k = rw (eqb-true b 34 e) (ap (λ (x : List ℕ). 34 ∷ x) k)
    go false e k = rw e (ap (λ (x : List ℕ). b ∷ x) k)

-- how far the next byte is
unfoldable pub stride : ℕ → ℕ
stride b = cond (eqb b 34) 2 1

skipped : (s : List ℕ) → undoubled true s ≡ undoubled false (drop 1 s)
unfolding undoubled
skipped [] = refl
skipped (b ∷ s) = refl

byte_next : (s : List ℕ) (i b : ℕ) (u : List ℕ) → drop (suc i) s ≡ u → undoubled false (b ∷ u) ≡ b ∷ undoubled false (drop (i + stride b) s)
unfolding undoubled stride
byte_next s i b u e = ap (λ (x : List ℕ). b ∷ x) (go (eqb b 34))
  where
    one : suc i ≡ i + 1
    one = omega arith

    two : suc i + 1 ≡ i + 2
    two = omega arith

    go : (q : Bool) → undoubled q u ≡ undoubled false (drop (i + cond q 2 1) s)
    go true = skipped u ∙ ap (λ (x : List ℕ). undoubled false (drop 1 x)) (sym e)
        ∙ ap (undoubled false) (drop-drop 1 (suc i) s ∙ ap (λ (k : ℕ). drop k s) two)
    go false = ap (undoubled false) (sym e ∙ ap (λ (k : ℕ). drop k s) one)

pub undoubled_next : (s : List ℕ) (i : ℕ) → i < length s → undoubled false (drop i s) ≡ get_or s i 0
    ∷ undoubled false (drop (i + stride (get_or s i 0)) s)
undoubled_next s i h = rw (drop-cons s i 0 h) (by (get_or s i 0) (drop (suc i) s) refl)
  where
    by : (b : ℕ) (u : List ℕ) → drop (suc i) s ≡ u → undoubled false (b ∷ u) ≡ b ∷ undoubled false (drop (i + stride b) s)
    by b u e = byte_next s i b u e

pub undoubled_over : (s : List ℕ) (i : ℕ) → length s ≤ i → undoubled false (drop i s) ≡ []
unfolding undoubled
undoubled_over s i h = rw (drop_of_length-le s h)

-- so much of it stands in the room
pub record Undoubling (raw room : List ℕ) (n i : ℕ) : Type 0 where
  pub few : n ≤ 50000
  pub text : undoubled false raw ≡ take n room ++ undoubled false (drop i raw)

pub undoubling_none : (raw room : List ℕ) → Undoubling raw room 0 0
undoubling_none raw room = record { few = omega arith; text = refl }

module _ {raw room : List ℕ} {n i : ℕ} (u : Undoubling raw room n i) (size : length room ≡ 50000) where
  -- it is longer than any value's text
  pub undoubling_long : i < length raw → 50000 ≤ n → 50000 < length (undoubled false raw)
  undoubling_long h l =
      let m : length (take n room) ≡ n = length-take-le n room (omega (arith, u.few)) in
      let e = ap length (undoubled_next raw i h) in
      omega (arith, ap length u.text, length-append (take n room) (undoubled false (drop i raw)), m, e)

  one_taken : (b : ℕ) → n < 50000 → take (n + 1) (set room n b) ≡ take n room ++ (b ∷ [])
  one_taken b l = rw (add-one n) (take-suc-set room n b (omega (arith, size)))

  pub undoubling_more : i < length raw → n < 50000 → Undoubling raw (set room n (get_or raw i 0)) (n + 1) (i + stride (get_or raw i 0))
  undoubling_more h l =
      let b = get_or raw i 0 in
      let v = undoubled false (drop (i + stride b) raw) in
      record {
        few = omega arith;
        text = u.text ∙ ap (λ (x : List ℕ). take n room ++ x) (undoubled_next raw i h)
            ∙ sym (ap (λ (x : List ℕ). x ++ v) (one_taken b l) ∙ append_assoc (take n room) (b ∷ []) v);
      }

  -- all of it stands there
  pub undoubling_all : length raw ≤ i → take n room ≡ undoubled false raw
  undoubling_all h = sym (u.text ∙ ap (λ (x : List ℕ). take n room ++ x) (undoubled_over raw i h) ∙ append-nil (take n room))
